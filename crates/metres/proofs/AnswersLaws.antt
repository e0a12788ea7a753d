-- What is answered, by the tests that the code makes. Assumes nothing.
use mathlib.Core.Bool.{cond, false, true, true≢false}
use mathlib.Core.Logic.{◌⊎◌}
use mathlib.Core.Path.{◌∙◌, ◌≡◌, ap, refl, sym}
use Prim.Native.Nat.{◌<◌, ◌≤◌, ℕ}
use lib.Dec.{T}
use lib.Ieee.{Float, binary64, fin, fits, inf, is_nan, nan, of_bits, to_bits}
use lib.Ieee.Bits.{of_bits-to_bits}
use lib.Ieee.Scale.{finite}
use lib.IntN.{neg_ℤ, pos, ℤ}
use lib.Signed.{◌<ℤ◌, ◌≤ℤ◌}
use Rattle.whole.specs.Ranges.{between}
use Rattle.whole.specs.Inner.{Abs, In}
use Rattle.whole.proofs.SearchLaws.{holds}
use Rattle.whole.proofs.WithinLaws.{in_ranged, out_ranged, range_in}
use Rattle.slots.specs.Units.{most_level}
use Rattle.slices.specs.Slices.{none, refusal}
use Rattle.metres.specs.Metres.{Taken, is_shown, is_taken, metres_of, most_shown, shown, shown_of, taken, taken_of, tick_of, zero_metres}
use Rattle.metres.specs.Inner.{far, field_of}
use Rattle.metres.proofs.TakenLaws.{passes, taken_by_tick, taken_far, taken_finite}

-- ---- shown

pub is_shown_lem : (t : ℤ) (x : Float) → is_shown t ≡ true → x ≡ metres_of t → shown none x ≡ shown_of t
unfolding shown_of
is_shown_lem t x h e = ap (shown none) e ∙ sym (ap (λ b. cond b (shown none (metres_of t)) (shown (refusal 12 0) zero_metres)) h)

-- a tick that is shown is below 2⁵³ without sign
pub shown_abs : (t : ℤ) → is_shown t ≡ true → Abs most_shown t
shown_abs t h = range_in (between (neg_ℤ (pos most_shown)) (pos most_shown)) t (holds h)

-- ---- taken in

abbrev refused : Taken
refused = taken (refusal 12 0) (pos 0)

-- a double that is taken, and one that is not
pub is_taken_lem : (most : ℤ) (x : Float) → is_taken most x ≡ true → taken none (tick_of x) ≡ taken_of most x
unfolding taken_of
is_taken_lem most x h = sym (ap (λ b. cond b (taken none (tick_of x)) refused) h)

pub not_taken : (most : ℤ) (x : Float) → is_taken most x ≡ false → refused ≡ taken_of most x
unfolding taken_of
not_taken most x h = sym (ap (λ b. cond b (taken none (tick_of x)) refused) h)

-- a number, by its tick
pub taken_value : (most : ℤ) (x : Float) → T (finite x) → In (neg_ℤ (pos most_level)) most (tick_of x) → taken_of most x ≡ taken none (tick_of x)
taken_value most x f h = sym (is_taken_lem most x (taken_finite most x f ∙ in_ranged (between (neg_ℤ (pos most_level)) most) (tick_of x) h))

pub refused_value : (most : ℤ) (x : Float) → T (finite x) → (tick_of x <ℤ neg_ℤ (pos most_level)) ⊎ (most <ℤ tick_of x) → taken_of most x ≡ refused
refused_value most x f h = sym (not_taken most x (taken_finite most x f ∙ out_ranged (between (neg_ℤ (pos most_level)) most) (tick_of x) h))

-- what is no number
pub refused_nan : (most : ℤ) (x : Float) → is_nan x ≡ true → refused ≡ taken_of most x
unfolding is_nan is_taken
refused_nan most nan h = not_taken most nan refl
refused_nan most (inf s) h = absurd (true≢false (sym h))
refused_nan most (fin s m e) h = absurd (true≢false (sym h))

-- a double that the format holds, by its bits
module _ (most : ℤ) (x : Float) (F : T (fits binary64 x)) where
  abbrev b : ℕ
  b = to_bits binary64 x

  again : of_bits binary64 b ≡ x
  again = of_bits-to_bits binary64 x F

  pub refused_far : most ≤ℤ pos most_level → far ≤ field_of b → refused ≡ taken_of most x
  refused_far m h = not_taken most x (ap (is_taken most) (sym again) ∙ taken_far b most m h)

  module _ (h : field_of b < far) (t : ℤ) (e : t ≡ tick_of (of_bits binary64 b)) where
    by_tick : is_taken most x ≡ passes most t
    by_tick = ap (is_taken most) (sym again) ∙ taken_by_tick b h most ∙ ap (passes most) (sym e)

    pub taken_in : passes most t ≡ true → taken none t ≡ taken_of most x
    taken_in l = ap (taken none) (e ∙ ap tick_of again) ∙ is_taken_lem most x (by_tick ∙ l)

    pub refused_outside : passes most t ≡ false → refused ≡ taken_of most x
    refused_outside l = not_taken most x (by_tick ∙ l)
