-- An integer as the difference of two naturals, its positive and its negative part, one of which is 0: every law here is a statement about ℕ,
-- which `omega` reads. What it is to know of a difference or a product goes into its list: `omega (arith, -# a b, *# a b)`.
-- Assumes nothing.
use mathlib.Core.Path.{◌≡◌, refl, sym, ap, ◌∙◌}
use mathlib.Core.Bool.{Bool, true, false, not, cond}
use Prim.Native.Nat.{ℕ, zero, suc, ◌+◌, ◌*◌, ◌-◌, ◌≤◌, ◌<◌}
use native.Mathlib.Omega.{arith}
use lib.Dec.{T, ltb, ltb→lt, nltb→le, leb→le, le→leb, lt→ltb}
use lib.IntN.{ℤ, pos, negsuc, neg_ℤ, sub_ℕ, ◌+ℤ◌, ◌-ℤ◌, ◌*ℤ◌, nat_abs}
use lib.Signed.{◌≤ℤ◌, ◌<ℤ◌, le_z, lt_z, mag}

-- z is plus z - minus z
abbrev pub plus : ℤ → ℕ
plus (pos n) = n
plus (negsuc n) = 0

abbrev pub minus : ℤ → ℕ
minus (pos n) = 0
minus (negsuc n) = suc n

-- z is p - n, said in ℕ
abbrev pub Is : ℤ → ℕ → ℕ → Type 0
Is z p n = plus z + n ≡ p + minus z

pub is_self : (z : ℤ) → Is z (plus z) (minus z)
is_self z = refl

pub is_pos : (k : ℕ) → Is (pos k) k 0
is_pos k = refl

pub is_negsuc : (k : ℕ) → Is (negsuc k) 0 (suc k)
is_negsuc k = refl

pub is_neg : (z : ℤ) (p n : ℕ) → Is z p n → Is (neg_ℤ z) n p
is_neg (pos zero) p n h = omega arith
is_neg (pos (suc k)) p n h = omega arith
is_neg (negsuc k) p n h = omega arith

pub cond_ind : (c : Bool) (x y : ℤ) (P : ℤ → Type 0) → (T c → P x) → (T (not c) → P y) → P (cond c x y)
cond_ind true x y P f g = f tt
cond_ind false x y P f g = g tt

-- a - b, for two naturals
pub is_sub : (a b : ℕ) → Is (sub_ℕ a b) a b
is_sub a b = cond_ind (ltb a b) (negsuc (b - suc a)) (pos (a - b)) (λ z. Is z a b) (λ t. lo a b (ltb→lt a b t)) (λ t. hi a b (nltb→le a b t))
  where
    lo : (a b : ℕ) → a < b → 0 + b ≡ a + suc (b - suc a)
    lo a b h = omega arith

    hi : (a b : ℕ) → b ≤ a → a - b + b ≡ a + 0
    hi a b h = omega arith

add_self : (a b : ℤ) → Is (a +ℤ b) (plus a + plus b) (minus a + minus b)
add_self (pos a) (pos b) = omega arith
add_self (pos a) (negsuc b) = omega (arith, is_sub a (suc b))
add_self (negsuc a) (pos b) = omega (arith, is_sub b (suc a))
add_self (negsuc a) (negsuc b) = omega arith

pub is_add : (a b : ℤ) (p n q m : ℕ) → Is a p n → Is b q m → Is (a +ℤ b) (p + q) (n + m)
is_add a b p n q m h k = omega (arith, add_self a b)

neg_pos : (k : ℕ) → Is (neg_ℤ (pos k)) 0 k
neg_pos k = is_neg (pos k) k 0 (is_pos k)

-- also for `omega` itself
pub *# : (a b : ℤ) → Is (a *ℤ b) (plus a * plus b + minus a * minus b) (plus a * minus b + minus a * plus b)
*# (pos a) (pos b) = omega arith
*# (pos a) (negsuc b) = omega (arith, neg_pos (a * suc b))
*# (negsuc a) (pos b) = omega (arith, neg_pos (suc a * b))
*# (negsuc a) (negsuc b) = omega arith

pub is_mul : (a b : ℤ) (p n q m : ℕ) → Is a p n → Is b q m → Is (a *ℤ b) (p * q + n * m) (p * m + n * q)
is_mul a b p n q m h k = omega (arith, *# a b, ap (λ t. t * plus b) h, ap (λ t. t * minus b) h, ap (λ t. p * t) k, ap (λ t. n * t) k)

-- ---- the order and equality, in ℕ
le_self : (a b : ℤ) → T (le_z a b) → plus a + minus b ≤ plus b + minus a
le_self (pos a) (pos b) t = omega (arith, leb→le a b t)
le_self (pos a) (negsuc b) t = absurd t
le_self (negsuc a) (pos b) t = omega arith
le_self (negsuc a) (negsuc b) t = omega (arith, leb→le b a t)

self_le : (a b : ℤ) → plus a + minus b ≤ plus b + minus a → T (le_z a b)
self_le (pos a) (pos b) h = le→leb a b (omega arith)
self_le (pos a) (negsuc b) h = let z : ◌≡◌ {A = ℕ} 0 1 = omega arith in absurd (omega arith)
self_le (negsuc a) (pos b) h = tt
self_le (negsuc a) (negsuc b) h = le→leb b a (omega arith)

lt_self : (a b : ℤ) → T (lt_z a b) → plus a + minus b < plus b + minus a
lt_self (pos a) (pos b) t = omega (arith, ltb→lt a b t)
lt_self (pos a) (negsuc b) t = absurd t
lt_self (negsuc a) (pos b) t = omega arith
lt_self (negsuc a) (negsuc b) t = omega (arith, ltb→lt b a t)

self_lt : (a b : ℤ) → plus a + minus b < plus b + minus a → T (lt_z a b)
self_lt (pos a) (pos b) h = lt→ltb a b (omega arith)
self_lt (pos a) (negsuc b) h = absurd (omega arith)
self_lt (negsuc a) (pos b) h = tt
self_lt (negsuc a) (negsuc b) h = lt→ltb b a (omega arith)

self_eq : (a b : ℤ) → plus a + minus b ≡ plus b + minus a → a ≡ b
self_eq (pos a) (pos b) h = ap pos (omega arith)
self_eq (pos a) (negsuc b) h = absurd (omega arith)
self_eq (negsuc a) (pos b) h = absurd (omega arith)
self_eq (negsuc a) (negsuc b) h = ap negsuc (omega arith)

pub le_out : {a b : ℤ} → a ≤ℤ b → plus a + minus b ≤ plus b + minus a
le_out {a} {b} h = le_self a b h.le

pub le_in : {a b : ℤ} → plus a + minus b ≤ plus b + minus a → a ≤ℤ b
le_in {a} {b} h = record { le = self_le a b h }

pub lt_out : {a b : ℤ} → a <ℤ b → plus a + minus b < plus b + minus a
lt_out {a} {b} h = lt_self a b h.lt

pub lt_in : {a b : ℤ} → plus a + minus b < plus b + minus a → a <ℤ b
lt_in {a} {b} h = record { lt = self_lt a b h }

pub eq_out : {a b : ℤ} → a ≡ b → plus a + minus b ≡ plus b + minus a
eq_out {a} {b} h = ap (λ (z : ℤ). plus z + minus b) h ∙ ap (λ (z : ℤ). plus b + minus z) (sym h)

pub eq_in : {a b : ℤ} → plus a + minus b ≡ plus b + minus a → a ≡ b
eq_in {a} {b} h = self_eq a b h

-- ---- for `omega` itself
pub neg# : (a : ℤ) → Is (neg_ℤ a) (minus a) (plus a)
neg# a = is_neg a (plus a) (minus a) (is_self a)

pub -# : (a b : ℤ) → Is (a -ℤ b) (plus a + minus b) (minus a + plus b)
-# a b = is_add a (neg_ℤ b) (plus a) (minus a) (minus b) (plus b) (is_self a) (neg# b)

-- ---- sizes without sign: one of the two parts is 0
pub mag_lt : (z : ℤ) (k : ℕ) → plus z < minus z + k → minus z ≤ plus z + k → mag z < k
mag_lt (pos n) k h g = omega arith
mag_lt (negsuc n) k h g = omega arith

pub lt_mag : (z : ℤ) (k : ℕ) → mag z < k → (plus z < minus z + k) × (minus z ≤ plus z + k)
lt_mag (pos n) k h = (omega arith, omega arith)
lt_mag (negsuc n) k h = (omega arith, omega arith)

pub abs_le : (z : ℤ) (k : ℕ) → plus z ≤ minus z + k → minus z ≤ plus z + k → nat_abs z ≤ k
abs_le (pos n) k h g = omega arith
abs_le (negsuc n) k h g = omega arith

pub le_abs : (z : ℤ) (k : ℕ) → nat_abs z ≤ k → (plus z ≤ minus z + k) × (minus z ≤ plus z + k)
le_abs (pos n) k h = (omega arith, omega arith)
le_abs (negsuc n) k h = (omega arith, omega arith)

pub size_neg : (z : ℤ) → nat_abs (neg_ℤ z) ≡ nat_abs z
size_neg (pos zero) = refl
size_neg (pos (suc n)) = refl
size_neg (negsuc n) = refl
