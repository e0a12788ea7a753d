-- Laws of the verdict: what a code's first place tells of all places, which way a verdict is reached, and that it depends on the places of the grid alone.
-- Assumes nothing.
use mathlib.Core.Bool.{Bool, cond, false}
use mathlib.Core.List.{List}
use mathlib.Core.Logic.{◌≢◌}
use mathlib.Core.Path.{◌∙◌, ◌≡◌, ap, ap₂, refl, sym}
use Prim.Native.Nat.{◌%◌, ◌*◌, ◌+◌, ◌-◌, ◌/◌, ◌<◌, ◌≤◌, suc, zero, ℕ}
use native.Mathlib.Nat.{add-zero}
use native.Mathlib.Omega.{arith}
use lib.IntN.{pos, ℤ}
use borrow.Author.Tests.{eq-eqb, lt-ltb, ne_eqb}
use Rattle.whole.specs.Sum.{count}
use Rattle.whole.proofs.SearchLaws.{count_none, first_most, first_none, first_same, most_same, none_counted, none_first}
use Rattle.whole.proofs.SumLaws.{count_same}
use Rattle.grid.specs.declared.Grid.{Grid}
use Rattle.grid.specs.Place.{blocks_of}
use Rattle.slots.specs.Slots.{block_of}
use Rattle.std.specs.Prelude.{Err, Ok, Result}
use Rattle.slices.specs.declared.refusal.Refusal.{Refusal as Refused}
use Rattle.slices.specs.Refusals.{Refusal, block_of as named_by, number_of}
use Rattle.slices.specs.Slices.{none, refusal}
use Rattle.slices.proofs.SlicesLaws.{refused_same, refused_some}
use Rattle.block.specs.declared.Fluids.{Fluids}
use Rattle.books.specs.Inner.{Slotted}
use Rattle.books.specs.Waters.{dry_at}
use Rattle.books.proofs.AlikeLaws.{dry_same}
use Rattle.verdict.specs.Ruling.{Answer}
use Rattle.verdict.specs.declared.Verdict.{Verdict}
use Rattle.verdict.specs.Places.{counted_at, counted_by, fails_at, free_at, free_size_of, moved_at, places_of}
use Rattle.verdict.specs.Ruling.{answer_in, answered, block_number, by_balance, code_of, concerning, count_of, first_place, largest_of, no_verdict, verdict_by}
use Rattle.verdict.proofs.PlacesLaws.{block_below, block_of_lem, count_by_fluid, counted_by_lem, fluid_below, free_same, moved_same, place_is}

-- ---- by code
module _ (g : Grid) (slots : List ℤ) (β : ℕ → Fluids) (code : ℕ) where
  pub first_place_most : first_place g slots β code ≤ places_of g
  unfolding first_place
  first_place_most = first_most (counted_by g slots β code) (places_of g)

  -- so its number fits
  pub first_place_short : Slotted g slots → first_place g slots β code ≤ 1024
  first_place_short s = omega (arith, first_place_most, s.counted.blocks_most)

  -- there is no first place where none is counted
  pub none_at : first_place g slots β code ≡ 0 → (i fluid : ℕ) → i < blocks_of g → fluid < 2 → counted_at g slots β code fluid i ≡ false
  unfolding first_place
  none_at e i fluid l m = sym (counted_by_lem g slots β code i fluid m) ∙ first_none (counted_by g slots β code) (places_of g) e (2 * i + fluid) (omega arith)

  pub at_none : ((i fluid : ℕ) → i < blocks_of g → fluid < 2 → counted_at g slots β code fluid i ≡ false) → first_place g slots β code ≡ 0
  unfolding first_place
  at_none h = none_first (counted_by g slots β code) (places_of g) (λ p l. h (p / 2) (p % 2) (block_below (blocks_of g) p l) (fluid_below p))

  pub count_of_none : first_place g slots β code ≡ 0 → count_of g slots β code ≡ 0
  unfolding first_place count_of
  count_of_none e = count_none (counted_by g slots β code) (places_of g) e

  pub none_of_count : count_of g slots β code ≡ 0 → first_place g slots β code ≡ 0
  unfolding first_place count_of
  none_of_count e = none_counted (counted_by g slots β code) (places_of g) e

-- any code but 21 and 22 counts the failing places
module _ (g : Grid) (slots : List ℤ) (β : ℕ → Fluids) where
  pub moved_counted : (fluid i : ℕ) → counted_at g slots β 21 fluid i ≡ moved_at slots fluid i
  unfolding counted_at
  moved_counted fluid i = refl

  pub dry_counted : (i : ℕ) → counted_at g slots β 22 0 i ≡ dry_at g slots i
  unfolding counted_at
  dry_counted i = refl

  pub dry_once : (fluid i : ℕ) → dry_at g slots i ≡ false → counted_at g slots β 22 fluid i ≡ false
  unfolding counted_at
  dry_once zero i e = e
  dry_once (suc fluid) i e = rw (ne_eqb (suc fluid) 0 (omega arith))

  salt_undry : (i : ℕ) → counted_at g slots β 22 1 i ≡ false
  unfolding counted_at
  salt_undry i = refl

  pub failing_counted : (code fluid i : ℕ) → code ≢ 21 → code ≢ 22 → counted_at g slots β code fluid i ≡ fails_at g slots β fluid i
  unfolding counted_at
  failing_counted code fluid i h k = rw (ne_eqb code 21 h, ne_eqb code 22 k)

  pub count_failing : (code : ℕ) → code ≢ 21 → code ≢ 22 → count_of g slots β code ≡ count_of g slots β 23
  unfolding count_of
  count_failing code h k =
      count_same (places_of g) (counted_by g slots β code) (counted_by g slots β 23)
      (λ p l. failing_counted code (p % 2) (p / 2) h k ∙ sym (failing_counted 23 (p % 2) (p / 2) (λ e. absurd (omega arith)) (λ e. absurd (omega arith))))

  -- a dry well stands at the fresh place of its block alone
  pub dry_wells : count_of g slots β 22 ≡ count (blocks_of g) (dry_at g slots)
  unfolding count_of
  dry_wells =
      count_by_fluid (blocks_of g) (counted_at g slots β 22)
      ∙ ap₂ ◌+◌ (count_same (blocks_of g) (counted_at g slots β 22 0) (dry_at g slots) (λ i l. dry_counted i)) (count_none (counted_at g slots β 22 1) (blocks_of g) (none_first (counted_at g slots β 22 1) (blocks_of g) (λ i l. salt_undry i)))
      ∙ add-zero (count (blocks_of g) (dry_at g slots))

-- ---- the code and the block of a first place
pub code_found : (first : ℕ) → first ≢ 0 → 23 + (first - 1) % 2 ≡ code_of first
code_found zero h = absurd (h refl)
code_found (suc p) h = let e : suc p - 1 ≡ p = omega arith in rw e

pub block_number_lem : (p : ℕ) → block_number (suc p) ≡ p / 2 + 1
block_number_lem p = let e : suc p + 1 ≡ 2 * (p / 2 + 1) + p % 2 = omega (arith, place_is p) in ap (λ (k : ℕ). k / 2) e ∙ block_of_lem (p / 2 + 1) (p % 2) (fluid_below p)

-- ---- the four ways to a verdict
pub data Way (g : Grid) (slots : List ℤ) (β : ℕ → Fluids) : Type 0 where
  moved : (p : ℕ) → first_place g slots β 21 ≡ suc p → verdict_by g slots β ≡ concerning g slots β 21 → Way g slots β
  dry : (p : ℕ) → first_place g slots β 21 ≡ 0 → first_place g slots β 22 ≡ suc p → verdict_by g slots β ≡ concerning g slots β 22 → Way g slots β
  failing : (p : ℕ) → first_place g slots β 21 ≡ 0 → first_place g slots β 22 ≡ 0 → first_place g slots β 23 ≡ suc p → verdict_by g slots β ≡ by_balance g slots β → Way g slots β
  passed : first_place g slots β 21 ≡ 0 → first_place g slots β 22 ≡ 0 → first_place g slots β 23 ≡ 0 → verdict_by g slots β ≡ by_balance g slots β → Way g slots β

module _ (g : Grid) (slots : List ℤ) (β : ℕ → Fluids) where
  by_moved : (p : ℕ) → first_place g slots β 21 ≡ suc p → verdict_by g slots β ≡ concerning g slots β 21
  unfolding verdict_by
  by_moved p e = rw (e, lt-ltb 0 (suc p) (omega arith))

  by_dry : (p : ℕ) → first_place g slots β 21 ≡ 0 → first_place g slots β 22 ≡ suc p → verdict_by g slots β ≡ concerning g slots β 22
  unfolding verdict_by
  by_dry p e d = rw (e, d, lt-ltb 0 (suc p) (omega arith))

  pub by_the_balances : first_place g slots β 21 ≡ 0 → first_place g slots β 22 ≡ 0 → verdict_by g slots β ≡ by_balance g slots β
  unfolding verdict_by
  by_the_balances e d = rw (e, d)

  pub way : Way g slots β
  way = go (first_place g slots β 21) (first_place g slots β 22) (first_place g slots β 23) refl refl refl
    where
      go : (a b c : ℕ) → first_place g slots β 21 ≡ a → first_place g slots β 22 ≡ b → first_place g slots β 23 ≡ c → Way g slots β
      go (suc p) b c e d f = moved p e (by_moved p e)
      go zero (suc p) c e d f = dry p e d (by_dry p e d)
      go zero zero (suc p) e d f = failing p e d f (by_the_balances e d)
      go zero zero zero e d f = passed e d f (by_the_balances e d)

-- what a verdict by a code, or by the balances, says
module _ (g : Grid) (slots : List ℤ) (β : ℕ → Fluids) (code : ℕ) {v : Verdict} (e : v ≡ concerning g slots β code) where
  pub code_is : v.code ≡ code
  unfolding concerning
  code_is = ap (λ (v : Verdict). v.code) e

  pub block_is : v.block ≡ block_number (first_place g slots β code)
  unfolding concerning
  block_is = ap (λ (v : Verdict). v.block) e

  pub count_is : v.count ≡ count_of g slots β code
  unfolding concerning
  count_is = ap (λ (v : Verdict). v.count) e

  pub largest_is : v.largest ≡ pos 0
  unfolding concerning
  largest_is = ap (λ (v : Verdict). v.largest) e

module _ (g : Grid) (slots : List ℤ) (β : ℕ → Fluids) {v : Verdict} (e : v ≡ by_balance g slots β) where
  pub balance_code : v.code ≡ code_of (first_place g slots β 23)
  unfolding by_balance
  balance_code = ap (λ (v : Verdict). v.code) e

  pub balance_block : v.block ≡ block_number (first_place g slots β 23)
  unfolding by_balance
  balance_block = ap (λ (v : Verdict). v.block) e

  pub balance_count : v.count ≡ count_of g slots β 23
  unfolding by_balance
  balance_count = ap (λ (v : Verdict). v.count) e

  pub balance_largest : v.largest ≡ largest_of g slots β
  unfolding by_balance
  balance_largest = ap (λ (v : Verdict). v.largest) e

-- ---- places that are alike give one verdict

-- at every place of a grid two lists of slots have the same moved heads, dry wells and free heads, and blocks have the same balances
pub record SamePlaces (g : Grid) (s t : List ℤ) (β γ : ℕ → Fluids) : Type 0 where
  pub moved : (fluid i : ℕ) → i < blocks_of g → moved_at s fluid i ≡ moved_at t fluid i
  pub dry : (i : ℕ) → i < blocks_of g → dry_at g s i ≡ dry_at g t i
  pub free : (fluid i : ℕ) → i < blocks_of g → free_at s fluid i ≡ free_at t fluid i
  pub balances : (i : ℕ) → i < blocks_of g → β i ≡ γ i

module _ (g : Grid) (s t : List ℤ) (β γ : ℕ → Fluids) (same : SamePlaces g s t β γ) where
  counted_same : (code p : ℕ) → p < places_of g → counted_by g s β code p ≡ counted_by g t γ code p
  unfolding counted_at fails_at
  counted_same code p l =
      let inside = block_below (blocks_of g) p l in
      rw (same.moved (p % 2) (p / 2) inside, same.dry (p / 2) inside, same.free (p % 2) (p / 2) inside, same.balances (p / 2) inside)

  first_place_same : (code : ℕ) → first_place g s β code ≡ first_place g t γ code
  unfolding first_place
  first_place_same code = first_same (places_of g) (counted_by g s β code) (counted_by g t γ code) (counted_same code)

  count_of_same : (code : ℕ) → count_of g s β code ≡ count_of g t γ code
  unfolding count_of
  count_of_same code = count_same (places_of g) (counted_by g s β code) (counted_by g t γ code) (counted_same code)

  free_size_same : (p : ℕ) → p < places_of g → free_size_of s β p ≡ free_size_of t γ p
  unfolding free_size_of
  free_size_same p l =
      let inside = block_below (blocks_of g) p l in
      rw (same.free (p % 2) (p / 2) inside, same.balances (p / 2) inside)

  largest_same : largest_of g s β ≡ largest_of g t γ
  unfolding largest_of
  largest_same = most_same (places_of g) (free_size_of s β) (free_size_of t γ) free_size_same

  pub verdict_by_places : verdict_by g s β ≡ verdict_by g t γ
  unfolding verdict_by concerning by_balance
  verdict_by_places = rw (first_place_same 21, first_place_same 22, first_place_same 23, count_of_same 21, count_of_same 22, count_of_same 23, largest_same)

-- so the same blocks with the same balances have one verdict,
pub verdict_by_blocks : (g : Grid) (s t : List ℤ) (β γ : ℕ → Fluids) → ((i : ℕ) → i < blocks_of g → block_of s i ≡ block_of t i) → ((i : ℕ) → i < blocks_of g → β i ≡ γ i) → verdict_by g s β ≡ verdict_by g t γ
verdict_by_blocks g s t β γ blocks balances =
    verdict_by_places g s t β γ
    (record {
      moved = λ fluid i l. moved_same s t i (blocks i l) fluid;
      dry = λ i l. dry_same g s t i (blocks i l);
      free = λ fluid i l. free_same s t i (blocks i l) fluid;
      balances = balances;
    })

-- and the same slots have one for balances that are alike in every block
pub verdict_same : (g : Grid) (slots : List ℤ) (β γ : ℕ → Fluids) → ((i : ℕ) → i < blocks_of g → β i ≡ γ i) → verdict_by g slots β ≡ verdict_by g slots γ
verdict_same g slots β γ alike = verdict_by_blocks g slots slots β γ (λ i l. refl) alike

-- ---- a refusal, or a verdict beside none

pub answered_refused : (r s : Refusal) (v : Verdict) → r ≡ s → (r.number ≡ 0 → ⊥) → ◌≡◌ {A = Answer} (record { refusal = r; verdict = no_verdict }) (answered s v)
answered_refused r s v e n = rw (← e) (λ i. record { refusal = r; verdict = ap (λ (b : Bool). cond b v no_verdict) (sym (ne_eqb r.number 0 n)) i })

pub answered_judged : (r s : Refusal) (v w : Verdict) → r ≡ s → r.number ≡ 0 → w ≡ v → ◌≡◌ {A = Answer} (record { refusal = r; verdict = w }) (answered s v)
answered_judged r s v w e z f = rw (← e) (λ i. record { refusal = r; verdict = (f ∙ ap (λ (b : Bool). cond b v no_verdict) (sym (eq-eqb r.number 0 z))) i })

-- the same of what a function's result is: a refusal, and a verdict
pub answer_err : (e : Refused) (s : Refusal) (v : Verdict) → refusal (number_of e) (named_by e) ≡ s → answer_in (Err e) ≡ answered s v
answer_err e s v told = answered_refused (refusal (number_of e) (named_by e)) s v told (refused_some e)

pub answer_ok : (s : Refusal) (v w : Verdict) → none ≡ s → w ≡ v → answer_in (Ok w) ≡ answered s v
answer_ok s v w told e = answered_judged none s v w told refl e

-- and two results with one answer are one
pub answers_one : (r s : Result Verdict Refused) → answer_in r ≡ answer_in s → r ≡ s
answers_one (Ok x) (Ok y) e = ap Ok (ap (λ (a : Answer). a.verdict) e)
answers_one (Ok x) (Err d) e = absurd (refused_some d (sym (ap (λ (a : Answer). a.refusal.number) e)))
answers_one (Err d) (Ok y) e = absurd (refused_some d (ap (λ (a : Answer). a.refusal.number) e))
answers_one (Err c) (Err d) e = ap Err (refused_same c d (ap (λ (a : Answer). a.refusal.number) e) (ap (λ (a : Answer). a.refusal.block) e))
