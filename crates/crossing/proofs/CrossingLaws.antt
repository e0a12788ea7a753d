-- What crosses has room and fits. Assumes nothing.
use mathlib.Core.Bool.{Bool, ◌&&◌, cond, false, true}
use mathlib.Core.List.{List}
use mathlib.Core.Path.{◌∙◌, ◌≡◌, ap, refl, sym}
use Prim.Native.Nat.{◌<◌, ◌≤◌, suc, zero, ℕ}
use native.Mathlib.Omega.{arith}
use lib.Dec.{T, eqb, leb, leb→le, ltb}
use lib.IntN.{pos, ℤ}
use lib.ListN.{get_or, length}
use borrow.Author.Tests.{eqb-true, le-leb, leb-true, lt-leb, ne_eqb}
use Rattle.std.specs.Prelude.{Err}
use Rattle.std.specs.Array.{IsFirstChunk}
use Rattle.std.proofs.lemmas.List.{get_or-take}
use Rattle.whole.specs.Lent.{over}
use Rattle.whole.proofs.SearchLaws.{both, cond_both, first_most}
use Rattle.whole.proofs.SumLaws.{count_most}
use Rattle.grid.specs.declared.Grid.{Grid}
use Rattle.grid.specs.Inner.{Counted, Termed}
use Rattle.grid.specs.Place.{blocks_of}
use Rattle.grid.specs.Record.{record_numbers}
use Rattle.grid.specs.Units.{most_blocks}
use Rattle.slices.specs.declared.Case.{Case as Lent}
use Rattle.slices.specs.declared.refusal.Refusal.{Refusal as Refused}
use Rattle.slices.specs.declared.refusal.Refusal.TheVariants.{Short}
use Rattle.slices.specs.Refusals.{Refusal, block_of, number_of}
use Rattle.slices.specs.Cases.{case_in as lent_in}
use Rattle.slices.specs.Slices.{Case, case_of, none, refusal, unless_refused}
use Rattle.slices.specs.Inner.{reaches_over}
use Rattle.slices.proofs.SlicesLaws.{refused_some}
use Rattle.block.specs.declared.Fluids.{Fluids}
use Rattle.wellformed.specs.Inner.{WellFormed}
use Rattle.wellformed.specs.Limits.{checked_lent}
use Rattle.wellformed.proofs.LimitsLaws.{checked_stands, lent_reached, lent_stands}
use Rattle.report.specs.Reports.{no_report, report_of_case, telling}
use Rattle.balance.specs.Balance.{balances_of}
use Rattle.verdict.specs.Places.{counted_by, places_of}
use Rattle.verdict.specs.Ruling.{block_number, by_balance, code_of, concerning, count_of, first_place, no_verdict, verdict_by, verdict_of}
use Rattle.verdict.proofs.PlacesLaws.{fluid_below}
use Rattle.budget.specs.Answers.{Answer as TableAnswer, answer_in as table_in, marks_reach, refusing, zone_of_case}
use Rattle.casefile.specs.Reading.{Read, reading_of, refusing as unread}
use Rattle.casefile.proofs.CasefileTheorems.{read_passes}
use Rattle.crossing.specs.declared.handed.HandedCase.{HandedCase}
use Rattle.crossing.specs.Inner.{Small, lent_of}
use Rattle.crossing.specs.Crossing.{case_in, check_handed, count_in, flag_in, grid_of, read_handed, report_handed, short, table_handed, verdict_handed}

-- ---- a case that is handed over

-- a record is told by its first numbers
pub grid_front : (row chunk : List ℤ) → IsFirstChunk row chunk record_numbers → grid_of chunk ≡ grid_of row
unfolding grid_of
grid_front row chunk h =
    λ i. record {
      columns = count_in (at 0 (omega arith) i);
      rows = count_in (at 1 (omega arith) i);
      layers = count_in (at 2 (omega arith) i);
      delta = at 3 (omega arith) i;
      fresh_weight = at 4 (omega arith) i;
      salt_weight = at 5 (omega arith) i;
      flag = flag_in (at 6 (omega arith) i);
      step = at 7 (omega arith) i;
      tolerance = at 8 (omega arith) i;
    }
  where
    at : (k : ℕ) → k < record_numbers → get_or chunk k (pos 0) ≡ get_or row k (pos 0)
    at k l = rw h.same (get_or-take record_numbers row k (pos 0) l)

module _ (row columns rows slots : List ℤ) where
  module _ (reaches : Bool) where
    -- 7 for a short record, and otherwise what the slices are refused with
    pub check_short : length row < record_numbers → check_handed row columns rows slots reaches ≡ short
    unfolding check_handed
    check_short h = rw (lt-leb record_numbers (length row) h) refl

    pub check_long : record_numbers ≤ length row → check_handed row columns rows slots reaches ≡ checked_lent (case_in row columns rows slots) reaches
    unfolding check_handed
    check_long h = rw (le-leb record_numbers (length row) h) refl

    -- where nothing is refused, the record is there, the case is well formed, and all that is lent is long enough
    pub check_stands : {r : Refusal} → r ≡ check_handed row columns rows slots reaches → r.number ≡ 0 → (record_numbers ≤ length row) × (WellFormed (case_in row columns rows slots) × T reaches)
    unfolding check_handed
    check_stands {r} told e = go (leb record_numbers (length row)) refl (rw told at e)
      where
        go : (b : Bool) → leb record_numbers (length row) ≡ b → (cond b (checked_lent (case_in row columns rows slots) reaches) short).number ≡ 0
            → (record_numbers ≤ length row) × (WellFormed (case_in row columns rows slots) × T reaches)
        go true p e = (leb-true record_numbers (length row) p, lent_stands (case_in row columns rows slots) reaches e)
        go false p e = absurd (omega (arith, e))

module _ (h : HandedCase) where
  abbrev row : List ℤ
  row = h.record.now

  abbrev refused : Bool → Refusal
  refused reaches = check_handed row h.columns.now h.rows.now h.slots.now reaches

  -- step by step: 7 for a short record, and otherwise what the case is refused with
  pub case_short : {e : Refused} (reaches : Bool) → (length row < record_numbers) × (e ≡ Short) → refusal (number_of e) (block_of e) ≡ refused reaches
  case_short reaches t = rw t.1 (sym (check_short row h.columns.now h.rows.now h.slots.now reaches t.0))

  pub case_long : {c : Lent} {r : Refusal} (reaches : Bool) → (record_numbers ≤ length row) × (c ≡ lent_of h) → r ≡ checked_lent (lent_in c) reaches → r ≡ refused reaches
  case_long reaches t told = told ∙ rw t.1 (sym (check_long row h.columns.now h.rows.now h.slots.now reaches t.0))

-- an answer is what stands beside a refusal, or what is given where nothing is refused
module _ {A : Type 0} (given : A) (beside : Refusal → A) where
  pub handed_refused : (e : Refused) (r : Refusal) → refusal (number_of e) (block_of e) ≡ r → beside (refusal (number_of e) (block_of e)) ≡ unless_refused r given (beside r)
  handed_refused e r told = rw (← told, ne_eqb (number_of e) 0 (refused_some e))

  pub handed_given : (r : Refusal) → none ≡ r → {x : A} → x ≡ given → x ≡ unless_refused r given (beside r)
  handed_given r told is = rw (← told) is

-- the same of a table: the marks are measured where the record is there and its counts are in range
module _ (h : HandedCase) (marks : List ℤ) (room : ℕ) where
  abbrev measured : Grid → Bool
  measured g = leb 18 room && reaches_over g 1 (length marks)

  abbrev enough : Bool
  enough = leb 18 room && marks_reach (grid_of h.record.now) marks

  abbrev zone : TableAnswer
  zone = zone_of_case (lent_in (lent_of h)) marks

  abbrev table : TableAnswer
  table = table_handed h.record.now h.columns.now h.rows.now h.slots.now marks room

  measured_is : checked_lent (lent_in (lent_of h)) (measured (grid_of h.record.now)) ≡ checked_lent (lent_in (lent_of h)) enough
  measured_is = lent_reached (lent_in (lent_of h)) (λ b. leb 18 room && b) 1 (length marks) (blocks_of (grid_of h.record.now)) (omega arith)

  -- what the slices and all that is lent are refused with
  told : record_numbers ≤ length h.record.now → {r : Refusal} → r ≡ checked_lent (lent_in (lent_of h)) (measured (grid_of h.record.now)) → r ≡ refused h enough
  told l e = case_long h enough (l, refl) (e ∙ measured_is)

  pub table_short : {e : Refused} → (length h.record.now < record_numbers) × (e ≡ Short) → table_in (Err e) ≡ table
  unfolding table_handed
  table_short {e} t = handed_refused zone refusing e (refused h enough) (case_short h enough t)

  pub table_refused : (e : Refused) → record_numbers ≤ length h.record.now → refusal (number_of e) (block_of e) ≡ checked_lent (lent_in (lent_of h)) (measured (grid_of h.record.now)) → table_in (Err e) ≡ table
  unfolding table_handed
  table_refused e l t = handed_refused zone refusing e (refused h enough) (told l t)

  -- or what the zone is answered, whose marks reach over the grid
  module _ {c d : Lent} {reaches : Bool} (there : (record_numbers ≤ length h.record.now) × (c ≡ lent_of h)) (same : d ≡ c) (long : reaches ≡ measured c.grid) (t : none ≡ checked_lent (lent_in c) reaches) where
    passes : none ≡ checked_lent (lent_in (lent_of h)) (measured (grid_of h.record.now))
    passes = t ∙ (λ i. checked_lent (lent_in c) (long i)) ∙ ap (λ (c : Lent). checked_lent (lent_in c) (measured c.grid)) there.1

    pub table_given : (a : TableAnswer) → a ≡ zone_of_case (lent_in d) marks → a ≡ table
    unfolding table_handed
    table_given a is = handed_given zone refusing (refused h enough) (told there.0 passes) (is ∙ ap (λ (c : Lent). zone_of_case (lent_in c) marks) (same ∙ there.1))

    pub table_marked : blocks_of d.grid ≤ length marks
    table_marked =
        let stands = lent_stands (lent_in (lent_of h)) enough (ap (λ (r : Refusal). r.number) (sym (passes ∙ measured_is))) in
        rw (same, there.1) (leb→le _ _ (both (leb 18 room) (marks_reach (grid_of h.record.now) marks) stands.1).1)

-- where it is no refusal, nothing was refused
module _ {A : Type 0} (number : A → ℕ) (r : Refusal) (x y : A) (same : number y ≡ r.number) where
  passed : number (unless_refused r x y) ≡ 0 → r.number ≡ 0
  passed = go (eqb r.number 0) refl
    where
      go : (b : Bool) → eqb r.number 0 ≡ b → number (cond b x y) ≡ 0 → r.number ≡ 0
      go true p e = eqb-true r.number 0 p
      go false p e = sym same ∙ e

module _ (row columns rows slots : List ℤ) (room : ℕ) where
  abbrev c : Case
  c = case_in row columns rows slots

  -- what is not refused has room
  pub verdict_room : (verdict_handed row columns rows slots room).refusal.number ≡ 0 → 4 ≤ room
  unfolding verdict_handed
  verdict_room e = leb→le 4 room (check_stands row columns rows slots (leb 4 room) refl e).1.1

  pub table_room : (marks : List ℤ) → (table_handed row columns rows slots marks room).refusal.number ≡ 0 → 18 ≤ room
  unfolding table_handed
  table_room marks e =
      let reach = marks_reach (grid_of row) marks in
      let r = check_handed row columns rows slots (leb 18 room && reach) in
      leb→le 18 room (both (leb 18 room) reach (check_stands row columns rows slots (leb 18 room && reach) refl (passed (λ a. a.refusal.number) r (zone_of_case c marks) (refusing r) refl e)).1.1).0

  pub report_room : (number : ℕ) → (report_handed row columns rows slots number room).refusal.number ≡ 0 → 5 ≤ room
  unfolding report_handed
  report_room number e =
      let r = check_handed row columns rows slots (leb 5 room) in
      leb→le 5 room (check_stands row columns rows slots (leb 5 room) refl (passed (λ a. a.refusal.number) r (report_of_case c number) (telling r no_report) refl e)).1.1

-- ---- code, block and count of a verdict are small
module _ (g : Grid) (slots : List ℤ) (β : ℕ → Fluids) (few : blocks_of g ≤ most_blocks) where
  place_in : (code : ℕ) → first_place g slots β code ≤ 1024
  unfolding first_place
  place_in code = omega (arith, few, first_most (counted_by g slots β code) (places_of g))

  count_in_lem : (code : ℕ) → count_of g slots β code ≤ 1024
  unfolding count_of
  count_in_lem code = omega (arith, few, count_most (places_of g) (counted_by g slots β code))

  block_in_lem : (place : ℕ) → place ≤ 1024 → block_number place ≤ most_blocks
  block_in_lem place h = omega (arith, h)

  code_in : (place : ℕ) → code_of place ≤ 24
  code_in zero = omega arith
  code_in (suc p) = omega (arith, fluid_below p)

  small_code : (code : ℕ) → code ≤ 24 → Small (concerning g slots β code)
  unfolding concerning
  small_code code h = record { code = h; block = block_in_lem (first_place g slots β code) (place_in code); count = count_in_lem code }

  small_balance : Small (by_balance g slots β)
  unfolding by_balance
  small_balance = record { code = code_in (first_place g slots β 23); block = block_in_lem (first_place g slots β 23) (place_in 23); count = count_in_lem 23 }

  verdict_small : Small (verdict_by g slots β)
  unfolding verdict_by
  verdict_small =
      cond_both Small (ltb 0 (first_place g slots β 21)) (small_code 21 (omega arith))
      (cond_both Small (ltb 0 (first_place g slots β 22)) (small_code 22 (omega arith)) small_balance)

pub handed_small : (row columns rows slots : List ℤ) (room : ℕ) → Small (verdict_handed row columns rows slots room).verdict
unfolding verdict_handed verdict_of
handed_small row columns rows slots room = go (eqb r.number 0) refl
  where
    c : Case
    c = case_in row columns rows slots

    r : Refusal
    r = check_handed row columns rows slots (leb 4 room)

    go : (b : Bool) → eqb r.number 0 ≡ b → Small (cond b (verdict_of c) no_verdict)
    go true e = verdict_small c.grid c.slots (balances_of c) (check_stands row columns rows slots (leb 4 room) refl (eqb-true r.number 0 e)).1.0.judged.counted.blocks_most
    go false e = record { code = omega arith; block = omega arith; count = omega arith }

-- ---- what was read is in range
pub read_in_range : (file : List ℕ) (room : ℕ) (columns rows slots : List ℤ) → (read_handed file room columns rows slots).answer.refusal.number ≡ 0 → Counted (read_handed file room columns rows slots).answer.grid × Termed (read_handed file room columns rows slots).answer.grid
unfolding read_handed
read_in_range file room columns rows slots = go (leb record_numbers room)
  where
    r : Read
    r = reading_of file columns rows slots

    go : (b : Bool) → (cond b r (unread short)).answer.refusal.number ≡ 0 → Counted (cond b r (unread short)).answer.grid × Termed (cond b r (unread short)).answer.grid
    go true e = let w = checked_stands (case_of r.answer.grid (over r.columns columns) (over r.rows rows) (over r.slots slots)) (ap (λ x. x.number) (read_passes file columns rows slots e)) in (w.judged.counted, w.judged.termed)
    go false e = absurd (omega (arith, e))

-- a file is read where the record has room
pub read_roomy : (file : List ℕ) (room : ℕ) (columns rows slots : List ℤ) → record_numbers ≤ room → read_handed file room columns rows slots ≡ reading_of file columns rows slots
unfolding read_handed
read_roomy file room columns rows slots h = rw (le-leb record_numbers room h) refl

-- and not where it has none
pub read_short : (file : List ℕ) (room : ℕ) (columns rows slots : List ℤ) → room < record_numbers → read_handed file room columns rows slots ≡ unread short
unfolding read_handed
read_short file room columns rows slots h = rw (lt-leb record_numbers room h) refl

-- what is read is handed over where the record has room
pub read_room : (file : List ℕ) (room : ℕ) (columns rows slots : List ℤ) → (read_handed file room columns rows slots).answer.refusal.number ≡ 0 → record_numbers ≤ room
unfolding read_handed
read_room file room columns rows slots = go (leb record_numbers room) refl
  where
    go : (b : Bool) → leb record_numbers room ≡ b → (cond b (reading_of file columns rows slots) (unread short)).answer.refusal.number ≡ 0 → record_numbers ≤ room
    go true p e = leb-true record_numbers room p
    go false p e = absurd (omega (arith, e))
