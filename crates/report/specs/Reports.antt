-- A block's report (document 01, "Metres"), and what it is refused with.
use Rattle.std.specs.Prelude.{Bool, ◌&&◌, cond, List, [], ◌++◌, ◌∷◌, ◌-◌, ℕ, leb, Float, ℤ, Result, Ok, Err}
use Rattle.grid.specs.declared.Grid.{Grid}
use Rattle.grid.specs.Place.{blocks_of, top_of}
use Rattle.slots.specs.declared.Block.{Block}
use Rattle.slots.specs.Slots.{block_of, is_active}
use Rattle.slices.specs.declared.refusal.Refusal.{Refusal as Refused}
use Rattle.slices.specs.Refusals.{Refusal, refusal_in}
use Rattle.slices.specs.Slices.{Case, first_refusal, none, refusal, unless_refused}
use Rattle.block.specs.declared.Fluids.{Fluids}
use Rattle.block.specs.Density.{interface_of}
use Rattle.block.specs.Fluids.{new_heads}
use Rattle.block.specs.Geometry.{levels_of, thicknesses_of}
use Rattle.metres.specs.Metres.{metres_of, zero_metres}
use Rattle.wellformed.specs.Limits.{checks_of}
use Rattle.report.specs.declared.Report.{Report}

-- "both heads, interface and both thicknesses in metres"
abbrev pub in_doubles : Float → Float → Float → Float → Float → Report
in_doubles a b c d e = record { fresh_head = a; salt_head = b; interface = c; fresh_thickness = d; salt_thickness = e }

-- the same, from ticks
abbrev pub in_metres : Fluids → ℤ → Fluids → Report
in_metres heads interface waters = in_doubles (metres_of heads.fresh) (metres_of heads.salt) (metres_of interface) (metres_of waters.fresh) (metres_of waters.salt)

-- "A block's report gives both heads, interface and both thicknesses in metres, from new heads, the interface being ζ."
unfoldable pub report_of : Grid → Block → Bool → Report
report_of g b top = in_metres (new_heads b) (interface_of g (new_heads b)) (thicknesses_of (levels_of g b top (new_heads b)))

-- a number is that of an active block: "Blocks are numbered from 1, by layer, then row, then column."
unfoldable pub names_active : Grid → List ℤ → ℕ → Bool
names_active g slots number = leb 1 number && (leb number (blocks_of g) && is_active (block_of slots (number - 1)))

-- 14: "a report names no active block"; "14 the number asked for"
abbrev pub naming : Case → ℕ → Refusal
naming c number = cond (names_active c.grid c.slots number) none (refusal 14 number)

-- "Slices are judged 3, 7, 4, 5, 6, 9, 10; then, .. for a report 14."
abbrev pub report_refusal : Case → ℕ → Refusal
report_refusal c number = first_refusal (checks_of c ++ (naming c number ∷ []))

-- what stands beside a refusal
abbrev pub no_report : Report
no_report = in_doubles zero_metres zero_metres zero_metres zero_metres zero_metres

-- a refusal, or beside number 0 a report. The numbers beside a refusal are all 0.0.
pub record Answer : Type 0 where
  pub refusal : Refusal
  pub report : Report

abbrev pub telling : Refusal → Report → Answer
telling r report = record { refusal = r; report = report }

-- what is answered, as a refusal and a report
abbrev pub answer_in : Result Report Refused → Answer
answer_in (Ok report) = telling none report
answer_in (Err e) = telling (refusal_in {A = Report} (Err e)) no_report

-- the report of a block, or 14, of a case that is not refused before; blocks are counted from 1 here and from 0 in the slots
unfoldable pub report_of_case : Case → ℕ → Answer
report_of_case c number =
    let block = number - 1 in
    let r = naming c number in
    telling r (unless_refused r (report_of c.grid (block_of c.slots block) (top_of c.grid block)) no_report)

-- a refusal, or the report beside none
unfoldable pub report_answer : Case → ℕ → Answer
report_answer c number =
    let block = number - 1 in
    let r = report_refusal c number in
    telling r (unless_refused r (report_of c.grid (block_of c.slots block) (top_of c.grid block)) no_report)
