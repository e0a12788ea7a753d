-- Laws of a block's slots: the table's rule, and what slots that stand tell of each slot. Assumes nothing.
use mathlib.Core.Path.{◌≡◌, refl, sym, ap, ap₂, ◌∙◌}
use mathlib.Core.Bool.{Bool, true, false, not, cond, ◌&&◌, ◌||◌}
use mathlib.Core.List.{List, [], ◌∷◌}
use Prim.Native.Nat.{ℕ, zero, suc, ◌+◌, ◌*◌, ◌<◌}
use native.Mathlib.Omega.{arith}
use mir.Syntax.{w64}
use mir.Val.{SFits, of_z, to_z}
use borrow.Author.Tests.{eq-eqb}
use lib.Dec.{T, eqb, eqb→eq}
use lib.IntN.{ℤ, pos, neg_ℤ, ◌+ℤ◌, ◌-ℤ◌}
use lib.ListN.{get_or}
use lib.Seq.{get_or-drop}
use lib.Signed.{◌≤ℤ◌, ≤ℤ_refl, le_z, le_z_yes, lt_z, lt_z_yes}
use Rattle.whole.specs.declared.ranges.Range.{Range}
use Rattle.whole.specs.Inner.{In}
use Rattle.whole.specs.Search.{every}
use Rattle.whole.specs.Whole.{is_zero}
use Rattle.whole.specs.Ranges.{between, in_range, all_within}
use Rattle.whole.proofs.OrderLaws.{≤ℤ_antisymm, no_difference, none_apart, one_least}
use Rattle.whole.proofs.RangeLaws.{exact, ranges, read, same_bits}
use Rattle.whole.proofs.SearchLaws.{both, holds, every_all, every_start, every_more, cond_true, cond_false, same_test, true_is}
use Rattle.whole.proofs.WithinLaws.{range_in, in_ranged, within_at, within_all}
use Rattle.slots.specs.declared.Block.{Block}
use Rattle.slots.specs.Units.{slots_each, most_pumpage}
use Rattle.slots.specs.Ranges.{range_of, ends_hold}
use Rattle.slots.specs.Slots.{slots_at, block_of, is_active}
use Rattle.slots.specs.Inner.{Active, Ends}
use Rattle.slots.specs.Rules.{all_zero, open_holds, rules_hold, screen_within, slots_hold}

-- ---- the table's rule: its ends are the right way round, and none is further from 0 than the greatest pumpage

pub record Ruled (r : Range) : Type 0 where
  pub least : neg_ℤ (pos most_pumpage) ≤ℤ r.lower
  pub ordered : r.lower ≤ℤ r.upper
  pub most : r.upper ≤ℤ pos most_pumpage

ruled : Range → Bool
ruled r = le_z (neg_ℤ (pos most_pumpage)) r.lower && (le_z r.lower r.upper && le_z r.upper (pos most_pumpage))

pub table_ruled : (slot : ℕ) → slot < slots_each → Ruled (range_of slot)
unfolding ruled every range_of
table_ruled slot l =
    let r = range_of slot in
    let h = both (le_z (neg_ℤ (pos most_pumpage)) r.lower) (le_z r.lower r.upper && le_z r.upper (pos most_pumpage)) (every_all (λ n. ruled (range_of n)) slots_each tt slot l) in
    let k = both (le_z r.lower r.upper) (le_z r.upper (pos most_pumpage)) h.1 in
    record { least = le_z_yes h.0; ordered = le_z_yes k.0; most = le_z_yes k.1 }

-- ---- K stands first
pub slots_told : (s : List ℤ) (top : Bool) → slots_hold s top ≡ cond (lt_z (pos 0) (get_or s 0 (pos 0))) (ends_hold s && rules_hold (slots_at s) top) (all_zero s)
unfolding slots_hold slots_at
slots_told s top = refl

pub first_slot : (slots : List ℤ) (i : ℕ) → get_or slots (slots_each * i) (pos 0) ≡ (block_of slots i).k
unfolding slots_at
first_slot slots i = ap (λ (k : ℕ). get_or slots k (pos 0)) (same (slots_each * i)) ∙ sym (get_or-drop (slots_each * i) slots 0 (pos 0))
  where
    same : (n : ℕ) → n ≡ n + 0
    same n = omega arith

-- ---- two kinds are the same, as the machine asks it of their bits, where nothing is between them
pub kinds_alike : (x y : ℤ) → SFits w64 x → SFits w64 y → eqb (of_z w64 x) (of_z w64 y) ≡ is_zero (x -ℤ y)
kinds_alike x y f g = same_test (eqb (of_z w64 x) (of_z w64 y)) (is_zero (x -ℤ y)) same apart
  where
    same : T (eqb (of_z w64 x) (of_z w64 y)) → T (is_zero (x -ℤ y))
    same t = rw (same_bits f g (eqb→eq (of_z w64 x) (of_z w64 y) t)) (holds (no_difference y))

    apart : T (is_zero (x -ℤ y)) → T (eqb (of_z w64 x) (of_z w64 y))
    apart t = holds (eq-eqb (of_z w64 x) (of_z w64 y) (ap (of_z w64) (none_apart x y t)))

-- ---- what the rules compare, as the machine reads it
abbrev bits : ℤ → ℤ
bits z = to_z w64 (of_z w64 z)

pub open_told : (b : Block) → Ends b
    → open_holds b.kind b.level b.boundary_leakance ≡ (le_z (pos 1) (bits b.boundary_leakance) && (le_z (bits b.kind) (pos 1) || le_z (bits b.level) (pos 0)))
unfolding open_holds
open_told b e = λ i. le_z (pos 1) (sym (read e.boundary_leakance tt) i) && (le_z (sym (read e.kind tt) i) (pos 1) || le_z (sym (read e.level tt) i) (pos 0))

pub screen_told : (b : Block) → Ends b
    → screen_within b.base b.screen_bottom b.screen_top (b.base +ℤ b.thickness)
    ≡ (le_z (bits b.base) (bits b.screen_bottom) && (lt_z (bits b.screen_bottom) (bits b.screen_top) && le_z (bits b.screen_top) (bits (bits b.base +ℤ bits b.thickness))))
unfolding screen_within
screen_told b e = λ i. screen_within (sym (read e.base tt) i) (sym (read e.screen_bottom tt) i) (sym (read e.screen_top tt) i) (sym top i)
  where
    top : bits (bits b.base +ℤ bits b.thickness) ≡ b.base +ℤ b.thickness
    top = exact (search ranges depth 20)

-- ---- slots alike in their first numbers

abbrev pub SameTo : ℕ → List ℤ → List ℤ → Type 0
SameTo n s t = (k : ℕ) → k < n → get_or s k (pos 0) ≡ get_or t k (pos 0)

-- the first n of some numbers
listed : ℕ → (ℕ → ℤ) → List ℤ
listed zero f = []
listed (suc n) f = f 0 ∷ listed n (λ k. f (suc k))

-- numbers that are alike give the same list
listed_same : (n : ℕ) (f g : ℕ → ℤ) → ((k : ℕ) → k < n → f k ≡ g k) → listed n f ≡ listed n g
unfolding listed
listed_same zero f g h = refl
listed_same (suc n) f g h = ap₂ {C = List ℤ} (λ z r. z ∷ r) (h 0 (omega arith)) (listed_same n (λ k. f (suc k)) (λ k. g (suc k)) (λ k l. h (suc k) (omega arith)))

-- a block is told by the first sixteen numbers
pub slots_same : (s t : List ℤ) → SameTo slots_each s t → slots_at s ≡ slots_at t
unfolding slots_at listed
slots_same s t h = ap slots_at (listed_same slots_each (λ k. get_or s k (pos 0)) (λ k. get_or t k (pos 0)) h)

-- and so is whether it stands
pub slots_hold_same : (s t : List ℤ) (top : Bool) → SameTo slots_each s t → slots_hold s top ≡ slots_hold t top
unfolding slots_hold slots_at ends_hold all_zero all_within every listed
slots_hold_same s t top h = ap (λ (l : List ℤ). slots_hold l top) (listed_same slots_each (λ k. get_or s k (pos 0)) (λ k. get_or t k (pos 0)) h)

-- ---- what slots that stand tell

module _ (s : List ℤ) (t : T (ends_hold s)) where
  pub end_at : (slot : ℕ) → slot < slots_each → In (range_of slot).lower (range_of slot).upper (get_or s slot (pos 0))
  unfolding ends_hold
  end_at slot l = range_in (range_of slot) (get_or s slot (pos 0)) (every_all (λ n. in_range (range_of n) (get_or s n (pos 0))) slots_each t slot l)

  pub ends_of_lem : Ends (slots_at s)
  unfolding slots_at range_of
  ends_of_lem = record {
    k = end_at 0 (omega arith);
    base = end_at 1 (omega arith);
    thickness = end_at 2 (omega arith);
    porosity = end_at 3 (omega arith);
    leakance = end_at 4 (omega arith);
    recharge = end_at 5 (omega arith);
    pumpage = end_at 6 (omega arith);
    screen_bottom = end_at 7 (omega arith);
    screen_top = end_at 8 (omega arith);
    kind = end_at 9 (omega arith);
    level = end_at 10 (omega arith);
    boundary_leakance = end_at 11 (omega arith);
    old_fresh = end_at 12 (omega arith);
    old_salt = end_at 13 (omega arith);
    new_fresh = end_at 14 (omega arith);
    new_salt = end_at 15 (omega arith);
  }

module _ (s : List ℤ) (top : Bool) (t : T (slots_hold s top)) where
  pub slots_active : T (is_active (slots_at s)) → Active (slots_at s) top
  unfolding slots_hold
  slots_active a =
      let h = both (ends_hold s) (rules_hold (slots_at s) top) (cond_true (is_active (slots_at s)) (ends_hold s && rules_hold (slots_at s) top) (all_zero s) t a) in
      record { ends = ends_of_lem s h.0; k_some = one_least (lt_z_yes a); rules = h.1 }

  pub slots_inactive : T (not (is_active (slots_at s))) → (slot : ℕ) → slot < slots_each → get_or s slot (pos 0) ≡ pos 0
  unfolding slots_hold all_zero
  slots_inactive a slot l =
      let zero = within_at (between (pos 0) (pos 0)) s slots_each (cond_false (is_active (slots_at s)) (ends_hold s && rules_hold (slots_at s) top) (all_zero s) t a) slot l in
      ≤ℤ_antisymm zero.high zero.low

-- ---- and the other way round: slots that tell so stand

-- slot by slot
ends_hold_lem : (s : List ℤ) → Ends (slots_at s) → ends_hold s ≡ true
unfolding ends_hold slots_at range_of
ends_hold_lem s h =
    let four = next 3 (next 2 (next 1 (next 0 (every_start test) h.k) h.base) h.thickness) h.porosity in
    let eight = next 7 (next 6 (next 5 (next 4 four h.leakance) h.recharge) h.pumpage) h.screen_bottom in
    let twelve = next 11 (next 10 (next 9 (next 8 eight h.screen_top) h.kind) h.level) h.boundary_leakance in
    next 15 (next 14 (next 13 (next 12 twelve h.old_fresh) h.old_salt) h.new_fresh) h.new_salt
  where
    test : ℕ → Bool
    test slot = in_range (range_of slot) (get_or s slot (pos 0))

    next : (slot : ℕ) → every slot test ≡ true → In (range_of slot).lower (range_of slot).upper (get_or s slot (pos 0)) → every (slot + 1) test ≡ true
    next slot e i = every_more test slot e (in_ranged (range_of slot) (get_or s slot (pos 0)) i)

pub slots_stand : (s : List ℤ) (top : Bool) → (T (is_active (slots_at s)) → Active (slots_at s) top)
    → (T (not (is_active (slots_at s))) → (slot : ℕ) → slot < slots_each → get_or s slot (pos 0) ≡ pos 0) → slots_hold s top ≡ true
unfolding slots_hold all_zero
slots_stand s top active inactive = go (is_active (slots_at s)) active inactive
  where
    go : (a : Bool) → (T a → Active (slots_at s) top) → (T (not a) → (slot : ℕ) → slot < slots_each → get_or s slot (pos 0) ≡ pos 0)
        → cond a (ends_hold s && rules_hold (slots_at s) top) (all_zero s) ≡ true
    go true h k = let b = h tt in ap₂ ◌&&◌ (ends_hold_lem s b.ends) (true_is b.rules)
    go false h k = within_all (between (pos 0) (pos 0)) s slots_each (λ slot l. rw (k tt slot l) (record { low = ≤ℤ_refl (pos 0); high = ≤ℤ_refl (pos 0) }))
