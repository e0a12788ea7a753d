-- What crosses to other languages and back. Assumes nothing.
use mathlib.Core.Bool.{Bool, cond, false, true}
use mathlib.Core.List.{List, [], ◌++◌, ◌∷◌}
use mathlib.Core.Path.{◌∙◌, ◌≡◌, refl}
use Prim.Native.Nat.{◌<◌, ◌≤◌, suc, zero, ℕ}
use native.Mathlib.Omega.{arith}
use lib.Dec.{leb}
use lib.IntN.{pos, ℤ}
use lib.ListN.{drop, get_or, length, length-append}
use lib.Signed.{lt_z}
use borrow.Author.Tests.{eq-eqb, le-leb, le-ltb}
use Rattle.whole.proofs.SearchLaws.{holds}
use Rattle.whole.specs.Lent.{over}
use Rattle.grid.proofs.JudgingLaws.{counts_counted, terms_termed}
use Rattle.grid.specs.Inner.{Counted, Termed}
use Rattle.grid.specs.Judging.{counts_hold, terms_hold}
use Rattle.grid.specs.Record.{record_numbers}
use Rattle.grid.specs.declared.Grid.{Grid}
use Rattle.slices.proofs.SlicesLaws.{first_append}
use Rattle.slices.specs.Slices.{Case, blaming, case_of, contents_of, fault_of, first_refusal, none, or_else, refusal, room_holds, shape_of, unless, widths_hold}
use Rattle.wellformed.specs.Limits.{checked_lent, checked_of, limits_of}
use Rattle.wellformed.proofs.LimitsLaws.{lent_reaches}
use Rattle.casefile.proofs.CasefileTheorems.{read_passes}
use Rattle.casefile.specs.Reading.{Read, reading_of, refusing as unread}
use Rattle.crossing.specs.Crossing.{check_handed, count_in, flag_in, grid_of, handed, numbers_of_grid, read_handed, record_left, short}
use Rattle.crossing.proofs.CrossingLaws.{check_long}

count_back : (n : ℕ) → count_in (pos n) ≡ n
count_back n = rw (le-ltb n 0 (omega arith)) refl

flag_back : (n : ℕ) → flag_in (pos n) ≡ n
flag_back n = rw (le-ltb n 0 (omega arith)) refl

-- A record that was handed over is the same record when it comes back, whatever stands behind it.
pub record_comes_back : (g : Grid) (rest : List ℤ) → grid_of (numbers_of_grid g ++ rest) ≡ g
unfolding grid_of
record_comes_back g rest =
    λ i. record {
      columns = count_back g.columns i;
      rows = count_back g.rows i;
      layers = count_back g.layers i;
      delta = g.delta;
      fresh_weight = g.fresh_weight;
      salt_weight = g.salt_weight;
      flag = flag_back g.flag i;
      step = g.step;
      tolerance = g.tolerance;
    }

long_enough : (g : Grid) (rest : List ℤ) → leb record_numbers (length (numbers_of_grid g ++ rest)) ≡ true
long_enough g rest = le-leb record_numbers (length (numbers_of_grid g ++ rest)) (omega (arith, length-append (numbers_of_grid g) rest))

-- A file that `caydubeesh_read` does not refuse passes `caydubeesh_check`, by the record and the slices as they then are.
pub read_then_checked : (file : List ℕ) (row columns rows slots : List ℤ) → let r = read_handed file (length row) columns rows slots in r.answer.refusal.number ≡ 0 →
    check_handed (record_left file columns rows slots row) (over r.columns columns) (over r.rows rows) (over r.slots slots) true ≡ none
unfolding record_left read_handed check_handed
read_then_checked file row columns rows slots = go (leb record_numbers (length row))
  where
    r : Read
    r = reading_of file columns rows slots

    go : (b : Bool) → let r = cond b r (unread short) in r.answer.refusal.number ≡ 0 →
        (let sent = over (handed r.answer.refusal (numbers_of_grid r.answer.grid)) row in
        cond (leb record_numbers (length sent)) (checked_lent (case_of (grid_of sent) (over r.columns columns) (over r.rows rows) (over r.slots slots)) true) short) ≡ none
    go true e =
        let rest = drop (length (numbers_of_grid r.answer.grid)) row in
        rw (eq-eqb r.answer.refusal.number 0 e, long_enough r.answer.grid rest, record_comes_back r.answer.grid rest) (lent_reaches (case_of r.answer.grid (over r.columns columns) (over r.rows rows) (over r.slots slots)) ∙ read_passes file columns rows slots e)
    go false e = absurd (omega (arith, e))

-- ---- a count or a flag below zero

uncounted : (c : Case) → (Counted c.grid → ⊥) → checked_of c ≡ refusal 3 0
unfolding shape_of first_refusal or_else
uncounted c never = go (counts_hold c.grid) refl
  where
    go : (b : Bool) → counts_hold c.grid ≡ b → first_refusal (((unless 3 b ∷ unless 7 (room_holds c) ∷ []) ++ contents_of c) ++ limits_of c) ≡ refusal 3 0
    go true e = absurd (never (counts_counted c.grid (holds e)))
    go false e = refl

untermed : (c : Case) → first_refusal (shape_of c) ≡ none → (Termed c.grid → ⊥) → checked_of c ≡ refusal 4 0
unfolding contents_of first_refusal or_else
untermed c e never = first_append (shape_of c ++ contents_of c) (limits_of c) ∙ rw (first_append (shape_of c) (contents_of c), e) (go (terms_hold c.grid) refl)
  where
    go : (b : Bool) → terms_hold c.grid ≡ b →
        or_else (or_else none (first_refusal (unless 4 b ∷ unless 5 (widths_hold c.grid c.columns c.rows) ∷ blaming 6 (fault_of c.grid c.slots) ∷ []))) (first_refusal (limits_of c)) ≡ refusal 4 0
    go true e = absurd (never (terms_termed c.grid (holds e)))
    go false e = refl

-- no count
none_counted : (z : ℤ) → lt_z z (pos 0) ≡ true → 1 ≤ count_in z → ⊥
none_counted z e h = let n : 1 ≤ 0 = rw e at h in omega (arith, n)

-- no flag
not_flagged : (z : ℤ) → lt_z z (pos 0) ≡ true → flag_in z ≤ 1 → ⊥
not_flagged z e h = let n : 2 ≤ 1 = rw e at h in omega (arith, n)

-- A count below zero is refused with 3.
pub count_below_zero : (row columns rows slots : List ℤ) → record_numbers ≤ length row → (k : ℕ) → k < 3 → lt_z (get_or row k (pos 0)) (pos 0) ≡ true → check_handed row columns rows slots true ≡ refusal 3 0
unfolding grid_of
count_below_zero row columns rows slots h k l e = check_long row columns rows slots true h ∙ lent_reaches (case_of (grid_of row) columns rows slots) ∙ uncounted (case_of (grid_of row) columns rows slots) (go k l e)
  where
    go : (k : ℕ) → k < 3 → lt_z (get_or row k (pos 0)) (pos 0) ≡ true → Counted (grid_of row) → ⊥
    go zero l e counted = none_counted (get_or row 0 (pos 0)) e counted.columns_some
    go (suc zero) l e counted = none_counted (get_or row 1 (pos 0)) e counted.rows_some
    go (suc (suc zero)) l e counted = none_counted (get_or row 2 (pos 0)) e counted.layers_some
    go (suc (suc (suc k))) l e counted = omega (arith, l)

-- A flag below zero is refused with 4, where 3 and 7 do not come first.
pub flag_below_zero : (row columns rows slots : List ℤ) → record_numbers ≤ length row → first_refusal (shape_of (case_of (grid_of row) columns rows slots)) ≡ none → lt_z (get_or row 6 (pos 0)) (pos 0) ≡ true →
    check_handed row columns rows slots true ≡ refusal 4 0
unfolding grid_of
flag_below_zero row columns rows slots h shaped e = check_long row columns rows slots true h ∙ lent_reaches (case_of (grid_of row) columns rows slots) ∙ untermed (case_of (grid_of row) columns rows slots) shaped (λ termed. not_flagged (get_or row 6 (pos 0)) e termed.flag)
