-- A case file, read whole (document 01, "The case file"): "Order: columns, rows, layers, δ, flag, step, tolerance, column widths, row widths, then per block ..".
-- Document 02, W-209: "A δ of 0 in the case now means that two more numbers follow".
use Rattle.std.specs.Prelude.{List, [], ◌∷◌, ℕ, nat_abs, pos, ℤ, get_or, Result, Ok, Err}
use Rattle.grid.specs.declared.Grid.{Grid}
use Rattle.grid.specs.Judging.{density_holds}
use Rattle.grid.specs.Place.{blocks_of}
use Rattle.grid.specs.Record.{counts, density, no_grid, only_counts, record_of, terms}
use Rattle.slices.specs.declared.refusal.Refusal.{Refusal as Fault}
use Rattle.slices.specs.Refusals.{Refusal}
use Rattle.slices.specs.Slices.{Case, case_of, first_refusal, none, shape_of, unless, unless_refused}
use Rattle.wellformed.specs.Limits.{limits_of}
use Rattle.fields.specs.declared.Part.TheVariants.{Counts, Density, Terms, Widths}
use Rattle.fields.specs.Fields.{refusal_of}
use Rattle.fields.specs.Runs.{Done, Filled, Refused, Run, blocks_from, ending_of, fill_of}

-- A refusal, or the record of a case beside number 0. The record beside a refusal is all 0.
pub record Answer : Type 0 where
  pub refusal : Refusal
  pub grid : Grid

-- the same as the reader answers with it
abbrev pub answer_in : Result Grid Fault → Answer
answer_in (Ok g) = record { refusal = none; grid = g }
answer_in (Err e) = record { refusal = refusal_of e; grid = no_grid }

-- What a file is answered with: a refusal or the record of a case, and the numbers that go into the front of the lent column widths, row widths and slots.
pub record Read : Type 0 where
  pub answer : Answer
  pub columns : List ℤ
  pub rows : List ℤ
  pub slots : List ℤ

-- the client's demand 1: "A refusal gives its number and block, and no lent slice changes by it."
abbrev pub refusing : Refusal → Read
refusing r = record { answer = record { refusal = r; grid = no_grid }; columns = []; rows = []; slots = [] }

-- what follows a refusal that may be none
unfoldable pub judging : Refusal → Read → Read
judging r more = unless_refused r more (refusing r)

-- what follows a run
unfoldable pub after : Run → (ℕ → Read) → Read
after (Refused r) more = refusing r
after (Done at) more = more at

-- a case that is not refused
abbrev pub giving : Case → Read
giving c = record { answer = record { refusal = none; grid = c.grid }; columns = c.columns; rows = c.rows; slots = c.slots }

-- "Order: columns, rows, layers, δ, flag, step, tolerance": the record of a case by its counts
unfoldable pub counted_of : List ℤ → Grid
counted_of v = only_counts (nat_abs (get_or v 0 (pos 0))) (nat_abs (get_or v 1 (pos 0))) (nat_abs (get_or v 2 (pos 0)))

-- δ and the two weights, "zero when δ is whole": the record with these
unfoldable pub weighed_of : Grid → List ℤ → Grid
weighed_of g v = record_of g.columns g.rows g.layers (get_or v 0 (pos 0)) (get_or v 1 (pos 0)) (get_or v 2 (pos 0)) g.flag g.step g.tolerance

-- "flag, step, tolerance": the record with its terms
unfoldable pub termed_of : Grid → List ℤ → Grid
termed_of g v = record_of g.columns g.rows g.layers g.delta g.fresh_weight g.salt_weight (nat_abs (get_or v 0 (pos 0))) (get_or v 1 (pos 0)) (get_or v 2 (pos 0))

-- "column widths, row widths, then per block": each part from where the one before it ended
abbrev pub columns_from : Grid → List ℕ → ℕ → Filled
columns_from g file at = fill_of (Done at) Widths file g.columns

abbrev pub rows_from : Grid → List ℕ → ℕ → Filled
rows_from g file at = fill_of (columns_from g file at).run Widths file g.rows

abbrev pub slots_from : Grid → List ℕ → ℕ → Filled
slots_from g file at = blocks_from (rows_from g file at).run g file (blocks_of g)

-- the case in the numbers that were read
unfoldable pub case_from : Grid → List ℕ → ℕ → Case
case_from g file at = case_of g (columns_from g file at).values (rows_from g file at).values (slots_from g file at).values

-- "then 8, 9, 10": what a file is refused with after its terms. A run that was refused comes first, and has no case to judge.
unfoldable pub end_checks : Grid → List ℕ → ℕ → List Refusal
end_checks g file at = ending_of (slots_from g file at).run file ∷ limits_of (case_from g file at)

-- what follows the terms
unfoldable pub body_of : Grid → List ℕ → ℕ → Read
body_of g file at = judging (first_refusal (end_checks g file at)) (giving (case_from g file at))

-- what follows δ and the weights: "flag, step, tolerance", and then the rest
unfoldable pub after_density : Grid → List ℕ → ℕ → Read
after_density g file at = let f = fill_of (Done at) Terms file terms in after f.run (body_of (termed_of g f.values) file)

-- what follows the counts: δ and the weights number by number, and "4 for a weight or pair out of range .., judged right after δ". Each weight that was sent is
-- in range by then, so that it is their pair that 4 refuses here
unfoldable pub after_counts : Grid → List ℕ → ℕ → Read
after_counts g file at =
    let f = fill_of (Done at) Density file density in
    let weighed = weighed_of g f.values in
    after f.run (λ next. judging (unless 4 (density_holds weighed)) (after_density weighed file next))

-- the whole file: "3 for the total, then 7, come straight after layers". Of the lent slices only their lengths are asked.
unfoldable pub reading_of : List ℕ → List ℤ → List ℤ → List ℤ → Read
reading_of file columns rows slots =
    let f = fill_of (Done 0) Counts file counts in
    let g = counted_of f.values in
    after f.run (λ at. judging (first_refusal (shape_of (case_of g columns rows slots))) (after_counts g file at))
