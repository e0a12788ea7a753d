-- The theorems about metres (document 01, "Metres"): what is shown is exact, what is taken in is nearest, and what was shown is taken in as it was.
-- Assumes nothing.
use mathlib.Core.Bool.{Bool, cond, false, not, true}
use mathlib.Core.Logic.{◌↔◌, ◌⊎◌, inl, inr, ⊎_elim}
use mathlib.Core.Path.{◌∙◌, ◌≡◌, ap, refl, sym}
use Prim.Native.Nat.{◌%◌, ◌≤◌, ℕ}
use native.Mathlib.Nat.{le_refl, zero-lt-suc}
use native.Mathlib.Omega.{arith}
use lib.Dec.{T}
use lib.Ieee.{Float, binary64, fin, fits, inf, nan}
use lib.Ieee.Scale.{finite}
use lib.IntN.{nat_abs, neg_ℤ, pos, ℤ}
use lib.Signed.{◌<ℤ◌, ◌≤ℤ◌}
use Rattle.whole.specs.Ranges.{between}
use Rattle.whole.specs.Inner.{Abs, In}
use Rattle.whole.proofs.OrderLaws.{≤ℤ_or-<}
use Rattle.whole.proofs.RangeLaws.{leaf, within}
use Rattle.whole.proofs.SearchLaws.{one_or_other}
use Rattle.whole.proofs.WithinLaws.{in_ranged, range_in}
use Rattle.slots.specs.Units.{most_level}
use Rattle.slices.specs.Slices.{none, refusal}
use Rattle.block.specs.Units.{ticks}
use Rattle.metres.specs.declared.boundary.Boundary.{Boundary}
use Rattle.metres.specs.declared.boundary.Boundary.TheVariants.{BothFixed, FixedFresh, FixedSalt, None, River, Sea}
use Rattle.metres.specs.Boundaries.{boundary_slots_of, with_level}
use Rattle.metres.specs.Meaning.{BoundaryTwelve, Shows, Twelve, distance_of, negative}
use Rattle.metres.specs.Metres.{is_shown, is_taken, metres_of, most_shown, shown, shown_of, taken, taken_of, tick_of, zero_metres}
use Rattle.metres.proofs.AnswersLaws.{is_shown_lem, refused_value, taken_value}
use Rattle.metres.proofs.NearestLaws.{nearest_tick, tie_even}
use Rattle.metres.proofs.ShownLaws.{metres_exact, metres_fit, value_finite}
use Rattle.metres.proofs.TakenLaws.{tick_whole}
use Rattle.metres.proofs.ValueLaws.{value_unique}

not_zero : ◌≡◌ {A = ℕ} 12 0 → ⊥
not_zero h = omega arith

-- ---- shown

-- Where a tick is shown, it is its metres.
pub shown_told : (t : ℤ) → Abs most_shown t → shown_of t ≡ shown none (metres_of t)
shown_told t h = sym (is_shown_lem t (metres_of t) (in_ranged (between (neg_ℤ (pos most_shown)) (pos most_shown)) t h) refl)

-- A tick is shown, or refused with 12,
pub shown_or_twelve : (t : ℤ) → (shown_of t ≡ shown none (metres_of t)) ⊎ (shown_of t ≡ shown (refusal 12 0) zero_metres)
unfolding shown_of
shown_or_twelve t = one_or_other (is_shown t) (shown none (metres_of t)) (shown (refusal 12 0) zero_metres)

-- and shown are exactly the ticks of less than 2⁵³ without sign.
pub shown_exactly : (t : ℤ) → ((shown_of t).refusal.number ≡ 0) ↔ Abs most_shown t
unfolding shown_of
shown_exactly t = (go (is_shown t) (range_in (between (neg_ℤ (pos most_shown)) (pos most_shown)) t), λ h. ap (λ a. a.refusal.number) (shown_told t h))
  where
    go : (b : Bool) → (T b → Abs most_shown t) → (cond b (shown none (metres_of t)) (shown (refusal 12 0) zero_metres)).refusal.number ≡ 0 → Abs most_shown t
    go true h e = h tt
    go false h e = absurd (not_zero e)

-- "A tick value is shown in metres as an exact double": the double has the tick's sign, and its value times 4,096 is the tick.
pub shown_exact : (t : ℤ) → Abs most_shown t → Shows (shown_of t).metres t
shown_exact t h = rw (shown_told t h) (metres_exact t h)

-- It is the only such double.
pub shown_only : (t : ℤ) (x : Float) → Abs most_shown t → T (fits binary64 x) → Shows x t → x ≡ (shown_of t).metres
shown_only t x h f v = value_unique x (shown_of t).metres (negative t) (nat_abs t) ticks (zero-lt-suc 4095) f (rw (shown_told t h) (metres_fit t)) v (shown_exact t h)

-- ---- taken in

-- A double is taken in as its tick, or refused with 12.
pub taken_or_twelve : (most : ℤ) (x : Float) → (taken_of most x ≡ taken none (tick_of x)) ⊎ (taken_of most x ≡ taken (refusal 12 0) (pos 0))
unfolding taken_of
taken_or_twelve most x = one_or_other (is_taken most x) (taken none (tick_of x)) (taken (refusal 12 0) (pos 0))

-- what was not refused
taken_is : (most : ℤ) (x : Float) → (taken_of most x).refusal.number ≡ 0 → taken_of most x ≡ taken none (tick_of x)
taken_is most x e = ⊎_elim (λ h. h) (λ h. absurd (not_zero (sym (ap (λ a. a.refusal.number) h) ∙ e))) (taken_or_twelve most x)

-- what is no number or infinite is refused
unnumbered : (most : ℤ) (x : Float) → T (not (finite x)) → taken_of most x ≡ taken (refusal 12 0) (pos 0)
unfolding taken_of is_taken
unnumbered most nan h = refl
unnumbered most (inf s) h = refl
unnumbered most (fin s m e) h = absurd h

no_tick : (most : ℤ) (x : Float) → T (not (finite x)) → (taken_of most x).refusal.number ≡ 0 → ⊥
no_tick most x h e = not_zero (sym (ap (λ a. a.refusal.number) (unnumbered most x h)) ∙ e)

twelve_where : (most : ℤ) (x : Float) → Twelve most x → taken_of most x ≡ taken (refusal 12 0) (pos 0)
twelve_where most x (inl h) = unnumbered most x h
twelve_where most nan (inr h) = unnumbered most nan tt
twelve_where most (inf s) (inr h) = unnumbered most (inf s) tt
twelve_where most (fin s m e) (inr h) = refused_value most (fin s m e) tt h

twelve_only : (most : ℤ) (x : Float) → (taken_of most x).refusal.number ≡ 12 → Twelve most x
twelve_only most nan e = inl tt
twelve_only most (inf s) e = inl tt
twelve_only most (fin s m d) e = inr (⊎_elim (λ l. ⊎_elim (λ h. absurd (not_zero (sym e ∙ number l h))) inr (≤ℤ_or-< t most)) inl (≤ℤ_or-< (neg_ℤ (pos most_level)) t))
  where
    t : ℤ
    t = tick_of (fin s m d)

    number : neg_ℤ (pos most_level) ≤ℤ t → t ≤ℤ most → (taken_of most (fin s m d)).refusal.number ≡ 0
    number l h = ap (λ a. a.refusal.number) (taken_value most (fin s m d) tt (record { low = l; high = h }))

-- 12 is given exactly where "a double is no number, infinite, or its tick outside ±4,194,304, or above 0 for a sea floor".
pub twelve_exactly : (most : ℤ) (x : Float) → ((taken_of most x).refusal.number ≡ 12) ↔ Twelve most x
twelve_exactly most x = (twelve_only most x, λ h. ap (λ a. a.refusal.number) (twelve_where most x h))

-- What is taken in lies within ±4,194,304, and is not above 0 for a sea floor.
pub taken_in_range : (most : ℤ) (x : Float) → (taken_of most x).refusal.number ≡ 0 → In (neg_ℤ (pos most_level)) most (taken_of most x).tick
taken_in_range most x e = rw (ap (λ a. a.tick) (taken_is most x e)) (record { low = ⊎_elim (λ h. h) (λ h. out (inl h)) (≤ℤ_or-< (neg_ℤ (pos most_level)) (tick_of x)); high = ⊎_elim (λ h. h) (λ h. out (inr h)) (≤ℤ_or-< (tick_of x) most) })
  where
    out : {A : Type 0} → (tick_of x <ℤ neg_ℤ (pos most_level)) ⊎ (most <ℤ tick_of x) → A
    out h = absurd (not_zero (sym (ap (λ a. a.refusal.number) (twelve_where most x (inr h))) ∙ e))

-- "so showing a tick within ±4,194,304 and taking it in again changes nothing"; for a sea floor, one that is not above 0
pub shown_again : (most t : ℤ) → Abs most_level t → t ≤ℤ most → taken_of most (shown_of t).metres ≡ taken none t
shown_again most t h l =
    let v = shown_exact t (within (leaf h) tt tt) in
    let e = tick_whole (shown_of t).metres t v in
    taken_value most (shown_of t).metres (value_finite (shown_of t).metres (negative t) (nat_abs t) ticks v) (rw e (record { low = h.low; high = l })) ∙ ap (taken none) e

-- No other tick is nearer than the one that a double is taken in as,
pub taken_nearest : (most : ℤ) (x : Float) → (taken_of most x).refusal.number ≡ 0 → (k : ℤ) → distance_of x (taken_of most x).tick ≤ distance_of x k
taken_nearest most nan e k = le_refl 0
taken_nearest most (inf s) e k = le_refl 0
taken_nearest most (fin s m d) e k = rw (ap (λ a. a.tick) (taken_is most (fin s m d) e)) (nearest_tick s m d k)

-- and where another is as near, it is the even one.
pub taken_even : (most : ℤ) (x : Float) → (taken_of most x).refusal.number ≡ 0 → (k : ℤ) → (k ≡ (taken_of most x).tick → ⊥) → distance_of x (taken_of most x).tick ≡ distance_of x k → nat_abs (taken_of most x).tick % 2 ≡ 0
taken_even most nan e k n h = absurd (no_tick most nan tt e)
taken_even most (inf s) e k n h = absurd (no_tick most (inf s) tt e)
taken_even most (fin s m d) e k n h =
    let is = ap (λ a. a.tick) (taken_is most (fin s m d) e) in
    rw is (tie_even s m d k (rw is at n) (rw is at h))

-- ---- a boundary

-- a level's refusal is its boundary's
open_number : (kind most : ℤ) (x : Float) → (with_level kind (taken_of most x)).refusal ≡ (taken_of most x).refusal
open_number kind most x = ⊎_elim (λ h. rw h refl) (λ h. rw h refl) (taken_or_twelve most x)

level_twelve : (kind most : ℤ) (x : Float) → ((with_level kind (taken_of most x)).refusal.number ≡ 12) ↔ Twelve most x
level_twelve kind most x = rw (open_number kind most x) (twelve_exactly most x)

-- 12 is given exactly where its stage or its floor is refused.
pub boundary_twelve_exactly : (b : Boundary) → ((boundary_slots_of b).refusal.number ≡ 12) ↔ BoundaryTwelve b
unfolding boundary_slots_of
boundary_twelve_exactly None = (λ e. not_zero (sym e), absurd)
boundary_twelve_exactly (River x) = level_twelve (pos 1) (pos most_level) x
boundary_twelve_exactly (Sea x) = level_twelve (pos 2) (pos 0) x
boundary_twelve_exactly FixedFresh = (λ e. not_zero (sym e), absurd)
boundary_twelve_exactly FixedSalt = (λ e. not_zero (sym e), absurd)
boundary_twelve_exactly BothFixed = (λ e. not_zero (sym e), absurd)
