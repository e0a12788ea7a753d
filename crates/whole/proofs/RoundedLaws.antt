-- A quotient to the nearest whole number, halves away from zero: what the machine computes of it, its sign, how large it gets; that no whole number is
-- nearer, and that of two equally near it is the one further from zero. Assumes nothing.
use mathlib.Core.Path.{◌≡◌, ap, refl, subst, sym, ◌∙◌}
use Prim.Native.Nat.{◌*◌, ◌+◌, ◌/◌, ◌<◌, ◌≤◌, suc, zero, ℕ}
use native.Mathlib.Nat.{le_refl, lt-mul-div-succ, lt_of_mul-lt-mul_left, mul-div-le}
use native.Mathlib.Omega.{arith}
use lib.Arith.{lt_of_le-ne}
use lib.IntN.{◌*ℤ◌, ◌+ℤ◌, ◌-ℤ◌, nat_abs, negsuc, neg_ℤ, neg_ℤ-neg_ℤ, pos, ℤ}
use lib.Signed.{◌<ℤ◌, ◌≤ℤ◌}
use Rattle.whole.specs.Inner.{Abs}
use Rattle.whole.specs.Whole.{cut_of, rounded_of}
use Rattle.whole.proofs.ClosestLaws.{as_near, away, away_neg, no_nearer}
use Rattle.whole.proofs.LinearLaws.{from1, linear, signed}
use Rattle.whole.proofs.Parts.{*#, -#, Is, le_abs, size_neg}

-- ---- what the machine computes
pub round_above : (z d : ℤ) → pos 0 ≤ℤ z → pos 1 ≤ℤ d → cut_of (z +ℤ cut_of d (pos 2)) d ≡ rounded_of z d
round_above (pos a) (pos k) g h = refl
round_above (negsuc a) d g h = absurd g.le
round_above (pos a) (negsuc k) g h = absurd h.le

pub round_below : (z d : ℤ) → z <ℤ pos 0 → pos 1 ≤ℤ d → cut_of (z -ℤ cut_of d (pos 2)) d ≡ rounded_of z d
round_below (pos a) d g h = absurd (from1 g (search signed depth 30) (omega arith))
round_below (negsuc a) (negsuc k) g h = absurd h.le
round_below (negsuc a) (pos k) g h = ap (λ z. cut_of z (pos k)) (further a (k / 2)) ∙ ap (λ n. neg_ℤ (pos (n / k))) (omega arith)
  where
    further : (a n : ℕ) → negsuc a -ℤ pos n ≡ negsuc (a + n)
    further a n = linear (search signed depth 30) (omega arith)

-- ---- a size a, divided by k: at most half a unit above a / k, and less than half below it

record Near (k a q : ℕ) : Type 0 where
  above : q * k * 2 ≤ a * 2 + k
  below : a * 2 < q * k * 2 + k

near : (k a : ℕ) → 0 < k → Near k a ((a + k / 2) / k)
near k a h =
    record { above = omega (arith, mul-div-le (a + k / 2) k, mul-div-le k 2); below = omega (arith, lt-mul-div-succ (a + k / 2) h, lt-mul-div-succ k two) }
  where
    two : 0 < 2
    two = omega arith

-- ---- its sign, and how large it gets
zero_near : (k q : ℕ) → 0 < k → Near k 0 q → q ≡ 0
zero_near k zero h n = refl
zero_near k (suc q) h n = absurd (omega (arith, n.above))

pub rounded_neg : (z : ℤ) (k : ℕ) → 0 < k → rounded_of (neg_ℤ z) (pos k) ≡ neg_ℤ (rounded_of z (pos k))
rounded_neg (pos zero) k h = let e = zero_near k ((0 + k / 2) / k) h (near k 0 h) in ap pos e ∙ ap (λ n. neg_ℤ (pos n)) (sym e)
rounded_neg (pos (suc a)) k h = refl
rounded_neg (negsuc a) k h = sym (neg_ℤ-neg_ℤ (pos ((suc a + k / 2) / k)))

-- what is at most m units is rounded to at most m
near_most : (k a q m : ℕ) → 0 < k → Near k a q → a ≤ m * k → q ≤ m
near_most k a q m h n l = let less : q < m + 1 = lt_of_mul-lt-mul_left k (omega (arith, n.above, l)) in omega arith

pub rounded_in : (z : ℤ) (k : ℕ) {m : ℕ} → 0 < k → Abs (m * k) z → Abs m (rounded_of z (pos k))
rounded_in (pos a) k {m} h l =
    let most = near_most k a ((a + k / 2) / k) m h (near k a h) (from1 l.high (search signed depth 30) (omega arith)) in
    record { low = linear (search signed depth 30) (omega arith); high = from1 most (search signed depth 30) (omega arith) }
rounded_in (negsuc a) k {m} h l =
    let most = near_most k (suc a) ((suc a + k / 2) / k) m h (near k (suc a) h) (from1 l.low (search signed depth 30) (omega arith)) in
    record { low = from1 most (search signed depth 30) (omega arith); high = linear (search signed depth 30) (omega arith) }

-- ---- that none is nearer

-- z is p - n
half_parts : (z : ℤ) (p n k : ℕ) → Is z p n → p * 2 ≤ n * 2 + k → n * 2 ≤ p * 2 + k → nat_abs z * 2 ≤ k
half_parts (pos a) p n k e h g = omega arith
half_parts (negsuc a) p n k e h g = omega arith

near_half : (k a q : ℕ) → Near k a q → away k (pos a) (pos q) * 2 ≤ k
near_half k a q n = half_parts (pos q *ℤ pos k -ℤ pos a) (q * k) a k (omega (arith, -# (pos q *ℤ pos k) (pos a))) n.above (omega (arith, n.below))

rounded_half : (k : ℕ) (z : ℤ) → 0 < k → away k z (rounded_of z (pos k)) * 2 ≤ k
rounded_half k (pos a) h = near_half k a ((a + k / 2) / k) (near k a h)
rounded_half k (negsuc a) h =
    let q = (suc a + k / 2) / k in
    subst (λ n. n * 2 ≤ k) (sym (away_neg k (pos (suc a)) (pos q))) (near_half k (suc a) q (near k (suc a) h))

pub rounded_nearest : (k : ℕ) (z n : ℤ) → 0 < k → away k z (rounded_of z (pos k)) ≤ away k z n
rounded_nearest k z n h = no_nearer k z (rounded_of z (pos k)) n (rounded_half k z h)

-- ---- that of two equally near it is the one further from zero

-- what lies half a unit from a / k is q, or nearer to zero
near_further : (k a q : ℕ) (n : ℤ) → 0 < k → Near k a q → away k (pos a) n * 2 ≡ k → (n ≡ pos q → ⊥) → nat_abs n < q
near_further k a q (pos m) h near e d =
    let apart = le_abs (pos m *ℤ pos k -ℤ pos a) (away k (pos a) (pos m)) (le_refl (away k (pos a) (pos m))) in
    let less : m < q + 1 = lt_of_mul-lt-mul_left k (omega (arith, near.below, e, apart, -# (pos m *ℤ pos k) (pos a))) in
    lt_of_le-ne (omega arith) (λ i. d (ap pos i))
near_further k a q (negsuc m) h near e d =
    let apart = le_abs (negsuc m *ℤ pos k -ℤ pos a) (away k (pos a) (negsuc m)) (le_refl (away k (pos a) (negsuc m))) in
    absurd (omega (arith, e, apart, -# (negsuc m *ℤ pos k) (pos a), *# (negsuc m) (pos k)))

-- of a number that is not negative
of_size : (k a : ℕ) (n : ℤ) → 0 < k → (n ≡ rounded_of (pos a) (pos k) → ⊥) → away k (pos a) (rounded_of (pos a) (pos k)) ≡ away k (pos a) n → nat_abs n < (a + k / 2) / k
of_size k a n h d e = near_further k a ((a + k / 2) / k) n h (near k a h) (ap (λ i. i * 2) (sym e) ∙ as_near k (pos a) (rounded_of (pos a) (pos k)) n d (rounded_half k (pos a) h) e) d

pub rounded_further : (k : ℕ) (z n : ℤ) → 0 < k → (n ≡ rounded_of z (pos k) → ⊥) → away k z (rounded_of z (pos k)) ≡ away k z n → nat_abs n < nat_abs (rounded_of z (pos k))
rounded_further k (pos a) n h d e = of_size k a n h d e
rounded_further k (negsuc a) n h d e =
    let q = (suc a + k / 2) / k in
    let turned = sym (away_neg k (pos (suc a)) (pos q)) ∙ e ∙ ap (away k (negsuc a)) (sym (neg_ℤ-neg_ℤ n)) ∙ away_neg k (pos (suc a)) (neg_ℤ n) in
    rw (← size_neg n, size_neg (pos q)) (of_size k (suc a) (neg_ℤ n) h (λ i. d (sym (neg_ℤ-neg_ℤ n) ∙ ap neg_ℤ i)) turned)
