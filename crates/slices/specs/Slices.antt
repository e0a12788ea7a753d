-- What slices are refused with before any physics (document 01, "Refusal numbers"): "Slices are judged 3, 7, 4, 5, 6".
use Rattle.std.specs.Prelude.{Bool, true, false, not, cond, ◌&&◌, List, [], ◌∷◌, ◌++◌, ℕ, zero, suc, ◌*◌, leb, eqb, ℤ, pos, length}
use Rattle.whole.specs.Ranges.{between, all_within}
use Rattle.whole.specs.Search.{first_of}
use Rattle.grid.specs.declared.Grid.{Grid}
use Rattle.grid.specs.Place.{blocks_of, top_of}
use Rattle.grid.specs.Judging.{counts_hold, terms_hold}
use Rattle.slots.specs.Units.{slots_each}
use Rattle.slots.specs.Slots.{part_of}
use Rattle.slots.specs.Rules.{slots_hold}
use Rattle.slices.specs.Refusals.{Refusal}

-- a case as slices hold it: the record, the widths of columns and rows in metres, and the slots, sixteen to a block
pub record Case : Type 0 where
  pub grid : Grid
  pub columns : List ℤ
  pub rows : List ℤ
  pub slots : List ℤ

abbrev pub case_of : Grid → List ℤ → List ℤ → List ℤ → Case
case_of g columns rows slots = record { grid = g; columns = columns; rows = rows; slots = slots }

-- ---- refusals

-- no refusal
abbrev pub none : Refusal
none = record { number = 0; block = 0 }

-- a refusal by its number and the block that it names, counted from 1
abbrev pub refusal : ℕ → ℕ → Refusal
refusal n b = record { number = n; block = b }

-- refused with a number unless the test holds; "Others name 0."
abbrev pub unless : ℕ → Bool → Refusal
unless n true = none
unless n false = refusal n 0

-- refused with a number where a block is at fault; 0 is no block
abbrev pub blaming : ℕ → ℕ → Refusal
blaming n zero = none
blaming n (suc b) = refusal n (suc b)

-- the first where nothing is refused, the second otherwise
abbrev pub unless_refused : {A : Type 0} → Refusal → A → A → A
unless_refused r given otherwise = cond (eqb r.number 0) given otherwise

-- the first that is a refusal, of two and of a list
unfoldable pub or_else : Refusal → Refusal → Refusal
or_else x y = unless_refused x y x

unfoldable pub first_refusal : List Refusal → Refusal
first_refusal [] = none
first_refusal (x ∷ xs) = or_else x (first_refusal xs)

-- ---- what is judged

-- "column and row widths, m | 1..=4,096"
abbrev pub most_width : ℕ
most_width = 4096

-- 7: "a lent slice is too short"
unfoldable pub room_holds : Case → Bool
room_holds c = leb c.grid.columns (length c.columns) && (leb c.grid.rows (length c.rows) && leb (slots_each * blocks_of c.grid) (length c.slots))

-- 5: "a width is out of range", of the columns or of the rows
unfoldable pub widths_hold : Grid → List ℤ → List ℤ → Bool
widths_hold g columns rows = all_within (between (pos 1) (pos most_width)) columns g.columns && all_within (between (pos 1) (pos most_width)) rows g.rows

-- 6: "a slot is out of range": a block whose slots do not stand
abbrev pub slots_fail : Grid → List ℤ → ℕ → Bool
slots_fail g slots i = not (slots_hold (part_of slots i) (top_of g i))

-- "Refusals 6, 9, 10, 13 and 14 name the first block at fault"
unfoldable pub fault_of : Grid → List ℤ → ℕ
fault_of g slots = first_of (blocks_of g) (slots_fail g slots)

-- "Slices are judged 3, 7, 4, 5, 6": the first two, which say that a case is there
unfoldable pub shape_of : Case → List Refusal
shape_of c = unless 3 (counts_hold c.grid) ∷ unless 7 (room_holds c) ∷ []

-- "Slices are judged 3, 7, 4, 5, 6": the last three, of a case that is there
unfoldable pub contents_of : Case → List Refusal
contents_of c =
    unless 4 (terms_hold c.grid)
    ∷ unless 5 (widths_hold c.grid c.columns c.rows)
    ∷ blaming 6 (fault_of c.grid c.slots)
    ∷ []

-- 3 and 7 where more is lent than the case itself, marks or room for an answer: 7, "a lent slice is too short", of that too
unfoldable pub lent_of : Case → Bool → List Refusal
lent_of c reaches = shape_of c ++ (unless 7 reaches ∷ [])
