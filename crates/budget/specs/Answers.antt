-- The table that a client is answered, and what it is refused with (document 01, "Refusal numbers").
use Rattle.budget.specs.declared.Answer.{Answer as Given}
use Rattle.std.specs.Prelude.{Bool, true, Err, List, None, Ok, Option, Result, Some, ◌++◌, ◌∷◌, ◌+◌, ℕ, eqb, leb, pos, ℤ, length, replicate}
use Rattle.whole.specs.Ranges.{all_within, between}
use Rattle.grid.specs.declared.Grid.{Grid}
use Rattle.grid.specs.Place.{blocks_of, place_of}
use Rattle.slices.specs.declared.refusal.Refusal.{Refusal as Refused}
use Rattle.slices.specs.Refusals.{Refusal, block_of, number_of}
use Rattle.slices.specs.Slices.{Case, first_refusal, none, refusal, unless, unless_refused}
use Rattle.block.specs.Fluids.{fresh, salt}
use Rattle.wellformed.specs.Limits.{checks_of, lent_checks_of}
use Rattle.books.specs.Waters.{well_checks}
use Rattle.zone.specs.Table.{lines_of}
use Rattle.zone.specs.Zones.{marked_of}
use Rattle.budget.specs.Table.{row_of}

-- ---- refusals

-- 7: "a lent slice is too short", of the marks
abbrev pub marks_reach : Grid → List ℤ → Bool
marks_reach g marks = leb (blocks_of g) (length marks)

-- 11: "a mark is neither 0 nor 1"
abbrev pub marks_hold : Grid → List ℤ → Bool
marks_hold g marks = all_within (between (pos 0) (pos 1)) marks (blocks_of g)

-- "then, for a table, 11 before 13", of a case that is not refused before
abbrev pub table_checks : Case → List ℤ → List Refusal
table_checks c marks = unless 11 (marks_hold c.grid marks) ∷ well_checks c

-- what a table of a zone is refused with: "Slices are judged 3, 7, 4, 5, 6, 9, 10; then, for a table, 11 before 13", with the marks' 7 in 7's place
abbrev pub zone_refusal : Case → List ℤ → Refusal
zone_refusal c marks = first_refusal (lent_checks_of c (marks_reach c.grid marks) ++ table_checks c marks)

-- what a table of a layer or of the whole is refused with: "Slices are judged 3, 7, 4, 5, 6, 9, 10; then, for a table, 11 before 13", but no marks
-- are lent
abbrev pub case_refusal : Case → Refusal
case_refusal c = first_refusal (checks_of c ++ well_checks c)

-- ---- zones without marks

-- the zone of one layer: "Layer 1 is the deepest."; "layers from 1"
unfoldable pub layer_zone : Grid → ℕ → ℕ → Bool
layer_zone g layer i = eqb ((place_of g i).layer + 1) layer

-- the zone of all blocks
abbrev pub everywhere : ℕ → Bool
everywhere i = true

-- ---- answers

-- the eighteen lines of a zone, fresh before salt, litres a day: "two rows, fresh and salt, of nine lines"
unfoldable pub eighteen_of : Case → (ℕ → Bool) → List ℤ
eighteen_of c z = row_of (lines_of c z fresh) ++ row_of (lines_of c z salt)

-- a refusal, or lines beside number 0
pub record Answer : Type 0 where
  pub refusal : Refusal
  pub lines : List ℤ

-- what stands beside a refusal, and a refusal with that
abbrev pub no_lines : List ℤ
no_lines = replicate 18 (pos 0)

abbrev pub refusing : Refusal → Answer
refusing r = record { refusal = r; lines = no_lines }

-- what the function's result says of both
abbrev pub answer_in : Result (List ℤ) Refused → Answer
answer_in (Ok lines) = record { refusal = none; lines = lines }
answer_in (Err e) = refusing (refusal (number_of e) (block_of e))

-- what the public answer says of both
abbrev pub refusal_of : Option Refused → Refusal
refusal_of None = none
refusal_of (Some e) = refusal (number_of e) (block_of e)

abbrev pub answer_of : Given → Answer
answer_of a = record { refusal = refusal_of a.refusal; lines = a.lines }

-- a refusal, or lines beside none
abbrev pub tabled : Refusal → List ℤ → Answer
tabled r lines = record { refusal = r; lines = unless_refused r lines no_lines }

-- what is answered for a zone of a case that is not refused before its marks are looked at
unfoldable pub zone_of_case : Case → List ℤ → Answer
zone_of_case c marks = tabled (first_refusal (table_checks c marks)) (eighteen_of c (marked_of marks))

-- what is answered for a zone by its marks, for a layer, and for the whole
unfoldable pub zone_answer : Case → List ℤ → Answer
zone_answer c marks = tabled (zone_refusal c marks) (eighteen_of c (marked_of marks))

unfoldable pub layer_answer : Case → ℕ → Answer
layer_answer c layer = tabled (case_refusal c) (eighteen_of c (layer_zone c.grid layer))

unfoldable pub whole_answer : Case → Answer
whole_answer c = tabled (case_refusal c) (eighteen_of c everywhere)
