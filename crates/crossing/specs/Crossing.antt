-- What crosses to other languages, as numbers and slices. Document 01 decides each answer; here stands how it is handed over.
use Rattle.std.specs.Prelude.{Bool, ◌&&◌, cond, List, [], ◌∷◌, ℕ, leb, Float, nat_abs, pos, ℤ, get_or, length}
use Rattle.std.specs.Int.Signed.{lt_z}
use Rattle.whole.specs.Lent.{over}
use Rattle.grid.specs.declared.Grid.{Grid}
use Rattle.grid.specs.Record.{record_numbers, record_of}
use Rattle.slices.specs.Refusals.{Refusal}
use Rattle.slices.specs.Slices.{Case, case_of, refusal, unless_refused}
use Rattle.wellformed.specs.Limits.{checked_lent}
use Rattle.report.specs.declared.Report.{Report}
use Rattle.report.specs.Reports.{no_report, report_of_case, telling}
use Rattle.report.specs.Reports.{Answer as ReportAnswer}
use Rattle.verdict.specs.declared.Verdict.{Verdict}
use Rattle.verdict.specs.Ruling.{answered, verdict_of}
use Rattle.verdict.specs.Ruling.{Answer as VerdictAnswer}
use Rattle.budget.specs.Answers.{marks_reach, refusing, zone_of_case}
use Rattle.budget.specs.Answers.{Answer as TableAnswer}
use Rattle.casefile.specs.Reading.{Read, reading_of}
use Rattle.casefile.specs.Reading.{refusing as unread}

-- ---- the record of a case as a row of numbers: "columns, rows, layers, δ, flag, step, tolerance", with the two weights of document 02, W-209, after δ

-- a count, "1..=64 each; 1..=8"; below zero it is out of range, as 0 is, so that 3 refuses it
abbrev pub count_in : ℤ → ℕ
count_in z = cond (lt_z z (pos 0)) 0 (nat_abs z)

-- the flag, "0, 1"; below zero it is out of range, as 2 is, so that 4 refuses it
abbrev pub flag_in : ℤ → ℕ
flag_in z = cond (lt_z z (pos 0)) 2 (nat_abs z)

unfoldable pub grid_of : List ℤ → Grid
grid_of row = record_of (count_in (at 0)) (count_in (at 1)) (count_in (at 2)) (at 3) (at 4) (at 5) (flag_in (at 6)) (at 7) (at 8)
  where
    at : ℕ → ℤ
    at place = get_or row place (pos 0)

abbrev pub numbers_of_grid : Grid → List ℤ
numbers_of_grid g = pos g.columns ∷ pos g.rows ∷ pos g.layers ∷ g.delta ∷ g.fresh_weight ∷ g.salt_weight ∷ pos g.flag ∷ g.step ∷ g.tolerance ∷ []

-- ---- answers as rows of numbers

-- "the code, the first block concerned .., how many places fail .., and the largest balance without sign"
abbrev pub numbers_of_verdict : Verdict → List ℤ
numbers_of_verdict v = pos v.code ∷ pos v.block ∷ pos v.count ∷ v.largest ∷ []

-- "both heads, interface and both thicknesses in metres"
abbrev pub doubles_of : Report → List Float
doubles_of r = r.fresh_head ∷ r.salt_head ∷ r.interface ∷ r.fresh_thickness ∷ r.salt_thickness ∷ []

-- what goes over the front of a slice that is lent for an answer: nothing beside a refusal. Demand 1: "no lent slice changes by it"
abbrev pub handed : {A : Type 0} → Refusal → List A → List A
handed r answer = unless_refused r answer []

-- ---- what is answered, by the row of the record and the length of what is lent for the answer

-- the case in a row of the record and three slices
abbrev pub case_in : List ℤ → List ℤ → List ℤ → List ℤ → Case
case_in row columns rows slots = case_of (grid_of row) columns rows slots

-- 7: "a lent slice is too short", of the record
abbrev pub short : Refusal
short = refusal 7 0

-- "Slices are judged 3, 7, 4, 5, 6, 9, 10", with 7 for all that is lent in 7's place; but for a short record 7 before all else, since it has no counts to
-- judge
unfoldable pub check_handed : List ℤ → List ℤ → List ℤ → List ℤ → Bool → Refusal
check_handed row columns rows slots reaches = cond (leb record_numbers (length row)) (checked_lent (case_in row columns rows slots) reaches) short

-- the verdict, over four numbers
unfoldable pub verdict_handed : List ℤ → List ℤ → List ℤ → List ℤ → ℕ → VerdictAnswer
verdict_handed row columns rows slots room = answered (check_handed row columns rows slots (leb 4 room)) (verdict_of (case_in row columns rows slots))

-- the table of a zone, over eighteen: "then, for a table, 11 before 13"
unfoldable pub table_handed : List ℤ → List ℤ → List ℤ → List ℤ → List ℤ → ℕ → TableAnswer
table_handed row columns rows slots marks room =
    let r = check_handed row columns rows slots (leb 18 room && marks_reach (grid_of row) marks) in
    unless_refused r (zone_of_case (case_in row columns rows slots) marks) (refusing r)

-- the report of a block, over five: "and for a report 14"
unfoldable pub report_handed : List ℤ → List ℤ → List ℤ → List ℤ → ℕ → ℕ → ReportAnswer
report_handed row columns rows slots number room =
    let r = check_handed row columns rows slots (leb 5 room) in
    unless_refused r (report_of_case (case_in row columns rows slots) number) (telling r no_report)

-- a file, by the length of what is lent for the record: 7 for that before all else
unfoldable pub read_handed : List ℕ → ℕ → List ℤ → List ℤ → List ℤ → Read
read_handed file room columns rows slots = cond (leb record_numbers room) (reading_of file columns rows slots) (unread short)

-- ---- what is then in the slices that are lent for an answer, by what was there before

unfoldable pub verdict_left : List ℤ → List ℤ → List ℤ → List ℤ → List ℤ → List ℤ
verdict_left row columns rows slots before = let a = verdict_handed row columns rows slots (length before) in over (handed a.refusal (numbers_of_verdict a.verdict)) before

unfoldable pub table_left : List ℤ → List ℤ → List ℤ → List ℤ → List ℤ → List ℤ → List ℤ
table_left row columns rows slots marks before = let a = table_handed row columns rows slots marks (length before) in over (handed a.refusal a.lines) before

unfoldable pub report_left : List ℤ → List ℤ → List ℤ → List ℤ → ℕ → List Float → List Float
report_left row columns rows slots number before = let a = report_handed row columns rows slots number (length before) in over (handed a.refusal (doubles_of a.report)) before

unfoldable pub record_left : List ℕ → List ℤ → List ℤ → List ℤ → List ℤ → List ℤ
record_left file columns rows slots before = let r = (read_handed file (length before) columns rows slots).answer in over (handed r.refusal (numbers_of_grid r.grid)) before
