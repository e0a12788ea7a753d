-- `closest a b` by how twice the remainder of a / b compares with b; and that it is the whole number nearest to a / b, of two the even one.
-- Assumes nothing.
use mathlib.Core.Bool.{not}
use mathlib.Core.Logic.{◌⊎◌, inl, inr, ⊎_elim}
use mathlib.Core.Path.{◌∙◌, ◌≡◌, ap, refl, sym}
use Prim.Native.Nat.{Ordering, ◌%◌, ◌*◌, ◌+◌, ◌/◌, ◌<◌, ◌≤◌, compare, suc, zero, ℕ}
use native.Mathlib.Nat.{div-add-mod', le_of_eq, le_refl, mod-lt, mul-le-mul_right}
use native.Mathlib.Omega.{arith}
use lib.Arith.{lt_of_le-ne}
use lib.Dec.{T, eqb→eq, compare_is_eq, is_le, leb→le, nleb→lt}
use lib.Ieee.{nearest}
use lib.Ieee.Nearest.{closest}
use lib.IntN.{◌*ℤ◌, ◌-ℤ◌, nat_abs, negsuc, neg_ℤ, pos, ℤ, ℤ_discrete}
use lib.Signed.{◌<ℤ◌}
use Rattle.whole.proofs.LinearLaws.{#, linear, signed}
use Rattle.whole.proofs.OrderLaws.{≤ℤ_or-<}
use Rattle.whole.proofs.Parts.{*#, -#, Is, eq_in, le_abs, le_out, lt_in, lt_out, minus, plus, size_neg}
use Rattle.whole.proofs.SumLaws.{eq→eqb}

-- which way two numbers compare
abbrev Way : Ordering → ℕ → ℕ → Type 0
Way Ordering.lt a b = a < b
Way Ordering.eq a b = a ≡ b
Way Ordering.gt a b = b < a

way : (a b : ℕ) → Way (compare a b) a b
way a b = go (compare a b) (leb→le a b) (nleb→lt a b) (eqb→eq a b) (eq→eqb a b)
  where
    go : (o : Ordering) → (T (is_le o) → a ≤ b) → (T (not (is_le o)) → b < a) → (T (compare_is_eq o) → a ≡ b) → (a ≡ b → T (compare_is_eq o)) → Way o a b
    go Ordering.lt h k e n = lt_of_le-ne (h tt) n
    go Ordering.eq h k e n = e tt
    go Ordering.gt h k e n = k tt

pub below_half : (a b : ℕ) → a % b * 2 < b → a / b ≡ closest a b
below_half a b h = go (compare (a % b * 2) b) (way (a % b * 2) b)
  where
    go : (o : Ordering) → Way o (a % b * 2) b → a / b ≡ nearest (a / b) o
    go Ordering.lt w = refl
    go Ordering.eq w = absurd (omega (arith, h, w))
    go Ordering.gt w = absurd (omega (arith, h, w))

pub at_half : (a b : ℕ) → a % b * 2 ≡ b → a / b + a / b % 2 ≡ closest a b
at_half a b h = go (compare (a % b * 2) b) (way (a % b * 2) b)
  where
    go : (o : Ordering) → Way o (a % b * 2) b → a / b + a / b % 2 ≡ nearest (a / b) o
    go Ordering.lt w = absurd (omega (arith, h, w))
    go Ordering.eq w = refl
    go Ordering.gt w = absurd (omega (arith, h, w))

pub above_half : (a b : ℕ) → b ≤ a % b * 2 → (a % b * 2 ≡ b → ⊥) → a / b + 1 ≡ closest a b
above_half a b h n = go (compare (a % b * 2) b) (way (a % b * 2) b)
  where
    go : (o : Ordering) → Way o (a % b * 2) b → a / b + 1 ≡ nearest (a / b) o
    go Ordering.lt w = absurd (omega (arith, h, w))
    go Ordering.eq w = absurd (n w)
    go Ordering.gt w = omega arith

-- ---- at most half away

-- k is at most half away from a / b, and even where it is half away
record IsNearest (k a b : ℕ) : Type 0 where
  not_above : k * b * 2 ≤ a * 2 + b
  not_below : a * 2 ≤ k * b * 2 + b
  even : (k * b * 2 ≡ a * 2 + b) ⊎ (a * 2 ≡ k * b * 2 + b) → k % 2 ≡ 0

-- a / b has the whole part q and the remainder r
module _ (q r a b : ℕ) (R : r < b) (A : q * b + r ≡ a) where
  to_nearest : (o : Ordering) → Way o (r * 2) b → IsNearest (nearest q o) a b
  to_nearest Ordering.lt h = record { not_above = omega arith; not_below = omega arith; even = ⊎_elim (λ u. absurd (omega arith)) (λ u. absurd (omega arith)) }
  to_nearest Ordering.eq h = go (q % 2) refl
    where
      go : (w : ℕ) → q % 2 ≡ w → IsNearest (q + w) a b
      go zero e = record { not_above = omega arith; not_below = omega arith; even = λ t. omega arith }
      go (suc zero) e = record { not_above = omega arith; not_below = omega arith; even = λ t. omega arith }
      go (suc (suc w)) e = absurd (omega arith)
  to_nearest Ordering.gt h = record { not_above = omega arith; not_below = omega arith; even = ⊎_elim (λ u. absurd (omega arith)) (λ u. absurd (omega arith)) }

is_nearest : (a b : ℕ) → 0 < b → IsNearest (closest a b) a b
is_nearest a b B = to_nearest (a / b) (a % b) a b (mod-lt a B) (div-add-mod' a b) (compare (a % b * 2) b) (way (a % b * 2) b)

-- a distance d of n, in parts of which 1 has b, is at most half, and n is even where it is half
abbrev pub IsHalf : ℕ → ℕ → ℕ → Type 0
IsHalf d b n = (d * 2 ≤ b) × (d * 2 ≡ b → n % 2 ≡ 0)

-- z is q * b - a
nearest_half : (z : ℤ) (q a b : ℕ) → Is z (q * b) a → IsNearest q a b → IsHalf (nat_abs z) b q
nearest_half (pos n) q a b e near = (omega (arith, near.not_above), λ h. near.even (inl (omega arith)))
nearest_half (negsuc n) q a b e near = (omega (arith, near.not_below), λ h. near.even (inr (omega arith)))

-- `closest a b` is at most half away from a / b, and even where it is half away
pub closest_half : (a b : ℕ) → 0 < b → IsHalf (nat_abs (pos (closest a b * b) -ℤ pos a)) b (closest a b)
closest_half a b B =
    let q = closest a b in
    let is : Is (pos (q * b) -ℤ pos a) (q * b) a = omega (arith, -# (pos (q * b)) (pos a)) in
    nearest_half (pos (q * b) -ℤ pos a) q a b is (is_nearest a b B)

-- ---- what is at most half away is nearest

-- how far k lies from x / b, in parts of which 1 has b
module _ (b : ℕ) (x : ℤ) where
  abbrev pub away : ℤ → ℕ
  away k = nat_abs (k *ℤ pos b -ℤ x)

  in_parts : (k : ℤ) → (plus k * b + minus x ≤ minus k * b + plus x + away k) × (minus k * b + plus x ≤ plus k * b + minus x + away k)
  in_parts k =
      let h = le_abs (k *ℤ pos b -ℤ x) (away k) (le_refl (away k)) in
      let d = -# (k *ℤ pos b) x in
      let p = *# k (pos b) in
      (omega arith, omega arith)

  -- from one whole number to x / b and on to another is at least 1
  ordered : (t k : ℤ) → t <ℤ k → b ≤ away t + away k
  ordered t k h = omega (arith, mul-le-mul_right b (lt_out h), in_parts t, in_parts k)

  apart : (t k : ℤ) → (k ≡ t → ⊥) → b ≤ away t + away k
  apart t k d = ⊎_elim (λ h. omega (arith, ordered k t (lt_in (lt_of_le-ne (le_out h) (λ e. d (eq_in e)))))) (ordered t k) (≤ℤ_or-< k t)

  -- no whole number is nearer to x / b than one that is at most half away
  pub no_nearer : (t k : ℤ) → away t * 2 ≤ b → away t ≤ away k
  no_nearer t k h = elim (ℤ_discrete k t) [
    | yes e ↦ le_of_eq (ap away (sym e))
    | no d ↦ omega (arith, h, apart t k d)
  ]

  -- and where another is as near, it is half away
  pub as_near : (t k : ℤ) → (k ≡ t → ⊥) → away t * 2 ≤ b → away t ≡ away k → away t * 2 ≡ b
  as_near t k d h e = omega (arith, h, e, apart t k d)

-- a distance is the same on both sides of zero
pub away_neg : (b : ℕ) (x k : ℤ) → away b (neg_ℤ x) (neg_ℤ k) ≡ away b x k
away_neg b x k = ap nat_abs (turned b x k) ∙ size_neg (k *ℤ pos b -ℤ x)
  where
    turned : (b : ℕ) (x k : ℤ) → neg_ℤ k *ℤ pos b -ℤ neg_ℤ x ≡ neg_ℤ (k *ℤ pos b -ℤ x)
    turned b x k = linear (search (signed, # x, # k) depth 40) (omega arith)
