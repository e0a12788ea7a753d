-- Division by a positive integer: rounded down (`floor_of`), and toward zero (`cut_of`, which is the machine's `/`).
-- `floor_low_lem` and `floor_high_lem` bound the quotient, `floor_unique` says that nothing else is so bounded, and the other laws follow from these by `linear`.
-- Assumes nothing.
use mathlib.Core.Path.{◌≡◌, refl, sym, ap, ◌∙◌, subst}
use mathlib.Core.Logic.{⊎_elim}
use Prim.Native.Nat.{ℕ, zero, suc, ◌/◌, ◌<◌}
use native.Mathlib.Nat.{mul-div-le, lt-mul-div-succ, zero-div}
use native.Mathlib.Omega.{arith}
use lib.IntN.{ℤ, pos, negsuc, neg_ℤ, ◌+ℤ◌, ◌-ℤ◌, ◌*ℤ◌, neg_ℤ-neg_ℤ}
use lib.Signed.{◌≤ℤ◌, ◌<ℤ◌}
use Rattle.whole.specs.Whole.{floor_of, cut_of, min_ℤ, max_ℤ}
use Rattle.whole.proofs.LinearLaws.{linear, from1, from2, from4, signed, #}
use Rattle.whole.proofs.OrderLaws.{≤ℤ_trans, ≤ℤ_antisymm, ≤ℤ_or-<, <ℤ-≤ℤ, mul_mono, mul_anti, mul_nonneg, neg_ℤ-*ℤ, min_ℤ_l, min_ℤ_r, max_ℤ_l, max_ℤ_r, neg_le}

one_le : (k : ℕ) → pos 1 ≤ℤ pos k → 0 < k
one_le k = linear (search signed depth 30) (omega arith)

pub floor_low_lem : (z d : ℤ) → pos 1 ≤ℤ d → (d *ℤ floor_of z d) ≤ℤ z
floor_low_lem (pos a) (pos k) h = from1 (mul-div-le a k) (search signed depth 30) (omega arith)
floor_low_lem (negsuc a) (pos k) h = from1 (lt-mul-div-succ a (one_le k h)) (search signed depth 30) (omega arith)
floor_low_lem z (negsuc k) h = absurd h.le

pub floor_high_lem : (z d : ℤ) → pos 1 ≤ℤ d → z <ℤ (d *ℤ floor_of z d +ℤ d)
floor_high_lem (pos a) (pos k) h = from1 (lt-mul-div-succ a (one_le k h)) (search signed depth 30) (omega arith)
floor_high_lem (negsuc a) (pos k) h = from1 (mul-div-le a k) (search signed depth 30) (omega arith)
floor_high_lem z (negsuc k) h = absurd h.le

-- two quotients of numbers that lie so
quot_le : (d p q y z : ℤ) → pos 1 ≤ℤ d → (d *ℤ p) ≤ℤ y → y ≤ℤ z → z <ℤ (d *ℤ q +ℤ d) → p ≤ℤ q
quot_le d p q y z h l m g = ⊎_elim (λ t. t) (λ t. absurd (no t)) (≤ℤ_or-< p q)
  where
    no : q <ℤ p → ⊥
    no t = from4 l m g (mul_mono d (q +ℤ pos 1) p (from1 h (search (signed, # d) depth 30) (omega arith)) (from1 t (search (signed, # p, # q) depth 30) (omega arith))) (search (signed, # d, # p, # q, # y, # z) depth 40) (omega arith)

pub floor_unique : (z d q : ℤ) → pos 1 ≤ℤ d → (d *ℤ q) ≤ℤ z → z <ℤ (d *ℤ q +ℤ d) → floor_of z d ≡ q
floor_unique z d q h l g = ≤ℤ_antisymm (quot_le d (floor_of z d) q z z h (floor_low_lem z d h) self g) (quot_le d q (floor_of z d) z z h l self (floor_high_lem z d h))
  where
    self : z ≤ℤ z
    self = linear (search (signed, # z) depth 30) (omega arith)

pub floor_mono : (y z d : ℤ) → pos 1 ≤ℤ d → y ≤ℤ z → floor_of y d ≤ℤ floor_of z d
floor_mono y z d h l = quot_le d (floor_of y d) (floor_of z d) y z h (floor_low_lem y d h) l (floor_high_lem z d h)

pub floor_mul : (k d : ℤ) → pos 1 ≤ℤ d → floor_of (k *ℤ d) d ≡ k
floor_mul k d h = floor_unique (k *ℤ d) d k h (linear (search (signed, # k, # d) depth 40) (omega arith)) (from1 h (search (signed, # k, # d) depth 40) (omega arith))

-- below q * d: below q, and so on
pub floor-< : (z d q : ℤ) → pos 1 ≤ℤ d → z <ℤ (d *ℤ q) → floor_of z d <ℤ q
floor-< z d q h g = from1 (quot_le d (floor_of z d) (q -ℤ pos 1) z z h (floor_low_lem z d h) (linear (search (signed, # z) depth 30) (omega arith)) (from1 g (search (signed, # z, # d, # q) depth 30) (omega arith))) (search (signed, # (floor_of z d), # q) depth 30) (omega arith)

pub floor-≥ : (z d q : ℤ) → pos 1 ≤ℤ d → (d *ℤ q) ≤ℤ z → q ≤ℤ floor_of z d
floor-≥ z d q h l = quot_le d q (floor_of z d) z z h l (linear (search (signed, # z) depth 30) (omega arith)) (floor_high_lem z d h)

pub floor-≤ : (z d q : ℤ) → pos 1 ≤ℤ d → z ≤ℤ (q *ℤ d) → floor_of z d ≤ℤ q
floor-≤ z d q h l = subst (λ x. floor_of z d ≤ℤ x) (floor_mul q d h) (floor_mono z (q *ℤ d) d h l)

-- ---- toward zero
pub cut_floor : (z d : ℤ) → pos 0 ≤ℤ z → pos 1 ≤ℤ d → cut_of z d ≡ floor_of z d
cut_floor (pos a) (pos k) g h = refl
cut_floor (negsuc a) d g h = absurd g.le
cut_floor (pos a) (negsuc k) g h = absurd h.le

pub cut_neg : (z d : ℤ) → cut_of (neg_ℤ z) d ≡ neg_ℤ (cut_of z d)
cut_neg (pos zero) (pos k) = rw (zero-div k)
cut_neg (pos zero) (negsuc k) = rw (zero-div (suc k))
cut_neg (pos (suc a)) (pos k) = refl
cut_neg (pos (suc a)) (negsuc k) = sym (neg_ℤ-neg_ℤ (pos (suc a / suc k)))
cut_neg (negsuc a) (pos k) = sym (neg_ℤ-neg_ℤ (pos (suc a / k)))
cut_neg (negsuc a) (negsuc k) = refl

-- what the machine computes below zero, where the quotient of the number that mirrors z at -1/2 fits whatever z is
pub floor_by_cut : (z d : ℤ) → z <ℤ pos 0 → pos 1 ≤ℤ d → negsuc 0 -ℤ cut_of (negsuc 0 -ℤ z) d ≡ floor_of z d
floor_by_cut (pos a) d g h = absurd (from1 g (search signed depth 30) (omega arith))
floor_by_cut (negsuc a) (negsuc k) g h = absurd h.le
floor_by_cut (negsuc a) (pos k) g h =
    let mirrored : negsuc 0 -ℤ negsuc a ≡ pos a = linear (search signed depth 30) (omega arith) in
    rw mirrored (linear (search signed depth 30) (omega arith))

nonneg_floor : (z d : ℤ) → pos 0 ≤ℤ z → pos 1 ≤ℤ d → pos 0 ≤ℤ floor_of z d
nonneg_floor z d g h = floor-≥ z d (pos 0) h (from1 g (search (signed, # z, # d) depth 30) (omega arith))

pub cut_nonneg : (z d : ℤ) → pos 0 ≤ℤ z → pos 1 ≤ℤ d → pos 0 ≤ℤ cut_of z d
cut_nonneg z d g h = rw (cut_floor z d g h) (nonneg_floor z d g h)

-- by the sign of a number: what holds where it is not negative, and of its negation where it is
le_neg : (y z : ℤ) → neg_ℤ y ≤ℤ neg_ℤ z → z ≤ℤ y
le_neg y z = linear (search (signed, # y, # z) depth 30) (omega arith)

neg_pos : (z : ℤ) → z ≤ℤ pos 0 → pos 0 ≤ℤ neg_ℤ z
neg_pos z = linear (search (signed, # z) depth 30) (omega arith)

cut_mono₀ : (y z d : ℤ) → pos 0 ≤ℤ y → pos 1 ≤ℤ d → y ≤ℤ z → cut_of y d ≤ℤ cut_of z d
cut_mono₀ y z d g h l = rw (cut_floor y d g h, cut_floor z d (≤ℤ_trans g l) h) (floor_mono y z d h l)

cut_nonpos : (z d : ℤ) → z ≤ℤ pos 0 → pos 1 ≤ℤ d → cut_of z d ≤ℤ pos 0
cut_nonpos z d g h = le_neg (pos 0) (cut_of z d) (rw (← cut_neg z d) (cut_nonneg (neg_ℤ z) d (neg_pos z g) h))

pub cut_mono : (y z d : ℤ) → pos 1 ≤ℤ d → y ≤ℤ z → cut_of y d ≤ℤ cut_of z d
cut_mono y z d h l =
    ⊎_elim (λ g. cut_mono₀ y z d g h l)
    (λ g. ⊎_elim
    (λ f. ≤ℤ_trans (cut_nonpos y d (<ℤ-≤ℤ g) h) (cut_nonneg z d f h))
    (λ f. le_neg (cut_of z d) (cut_of y d) (rw (← cut_neg z d, ← cut_neg y d) (cut_mono₀ (neg_ℤ z) (neg_ℤ y) d (neg_pos z (<ℤ-≤ℤ f)) h (neg_le y z l))))
    (≤ℤ_or-< (pos 0) z))
    (≤ℤ_or-< (pos 0) y)

-- a larger divisor, at a number that is not negative
pub floor_anti : (z e d : ℤ) → pos 0 ≤ℤ z → pos 1 ≤ℤ e → e ≤ℤ d → floor_of z d ≤ℤ floor_of z e
floor_anti z e d g h l =
    let q = floor_of z d in
    let k : pos 1 ≤ℤ d = ≤ℤ_trans h l in
    floor-≥ z e q h (from2 (mul_mono q e d (nonneg_floor z d g k) l) (floor_low_lem z d k) (search (signed, # z, # e, # d, # q) depth 30) (omega arith))

pub cut_anti : (z e d : ℤ) → pos 0 ≤ℤ z → pos 1 ≤ℤ e → e ≤ℤ d → cut_of z d ≤ℤ cut_of z e
cut_anti z e d g h l = rw (cut_floor z d g (≤ℤ_trans h l), cut_floor z e g h) (floor_anti z e d g h l)

pub cut_high_lem : (h z e d : ℤ) → z ≤ℤ h → pos 1 ≤ℤ e → e ≤ℤ d → cut_of z d ≤ℤ cut_of (max_ℤ h (pos 0)) e
cut_high_lem h z e d l g k = ≤ℤ_trans (cut_mono z (max_ℤ h (pos 0)) d (≤ℤ_trans g k) (≤ℤ_trans l (max_ℤ_l h (pos 0)))) (cut_anti (max_ℤ h (pos 0)) e d (max_ℤ_r h (pos 0)) g k)

pub cut_low_lem : (l z e d : ℤ) → l ≤ℤ z → pos 1 ≤ℤ e → e ≤ℤ d → cut_of (min_ℤ l (pos 0)) e ≤ℤ cut_of z d
cut_low_lem l z e d p g k =
    let m = min_ℤ l (pos 0) in
    ≤ℤ_trans
    (le_neg (cut_of m d) (cut_of m e) (rw (← cut_neg m d, ← cut_neg m e) (cut_anti (neg_ℤ m) e d (neg_pos m (min_ℤ_r l (pos 0))) g k)))
    (cut_mono m z d (≤ℤ_trans g k) (≤ℤ_trans (min_ℤ_l l (pos 0)) p))

-- the same of the floor
pub floor_to : (h z e d : ℤ) → z ≤ℤ h → pos 1 ≤ℤ e → e ≤ℤ d → floor_of z d ≤ℤ floor_of (max_ℤ h (pos 0)) e
floor_to h z e d l g k =
    ≤ℤ_trans (floor_mono z (max_ℤ h (pos 0)) d (≤ℤ_trans g k) (≤ℤ_trans l (max_ℤ_l h (pos 0)))) (floor_anti (max_ℤ h (pos 0)) e d (max_ℤ_r h (pos 0)) g k)

pub floor_from : (l z e d : ℤ) → l ≤ℤ z → pos 1 ≤ℤ e → e ≤ℤ d → floor_of (min_ℤ l (pos 0)) e ≤ℤ floor_of z d
floor_from l z e d p g k =
    let m = min_ℤ l (pos 0) in
    let q = floor_of m e in
    let none : q ≤ℤ pos 0 = ≤ℤ_trans (floor_mono m (pos 0) e g (min_ℤ_r l (pos 0))) (floor_zero e g) in
    ≤ℤ_trans
    (floor-≥ m d q (≤ℤ_trans g k) (from2 (mul_anti q e d none k) (floor_low_lem m e g) (search (signed, # m, # e, # d, # q) depth 30) (omega arith)))
    (floor_mono m z d (≤ℤ_trans g k) (≤ℤ_trans (min_ℤ_l l (pos 0)) p))
  where
    floor_zero : (e : ℤ) → pos 1 ≤ℤ e → floor_of (pos 0) e ≤ℤ pos 0
    floor_zero e h = from1 (floor-< (pos 0) e (pos 1) h (from1 h (search (signed, # e) depth 30) (omega arith))) (search (signed, # (floor_of (pos 0) e)) depth 30) (omega arith)

pub cut_mul : (k d : ℤ) → pos 1 ≤ℤ d → cut_of (k *ℤ d) d ≡ k
cut_mul k d h =
    ⊎_elim (λ g. cut_floor (k *ℤ d) d (mul_nonneg k d g (≤ℤ_trans (linear (search signed depth 30) (omega arith)) h)) h ∙ floor_mul k d h)
    (λ g. turn (cut_floor (neg_ℤ k *ℤ d) d (mul_nonneg (neg_ℤ k) d (neg_pos k (<ℤ-≤ℤ g)) (≤ℤ_trans (linear (search signed depth 30) (omega arith)) h)) h ∙ floor_mul (neg_ℤ k) d h))
    (≤ℤ_or-< (pos 0) k)
  where
    turn : cut_of (neg_ℤ k *ℤ d) d ≡ neg_ℤ k → cut_of (k *ℤ d) d ≡ k
    turn e = from1 (sym (cut_neg (k *ℤ d) d) ∙ ap (λ z. cut_of z d) (sym (neg_ℤ-*ℤ k d)) ∙ e) (search (signed, # (cut_of (k *ℤ d) d), # k) depth 30) (omega arith)
