-- The order of ℤ: products, the lesser and the greater of two, a number that is held between two, and the range of a product.
-- Assumes nothing.
use mathlib.Core.Path.{◌≡◌, ap, refl, sym, ◌∙◌}
use mathlib.Core.Logic.{◌⊎◌, inl, inr, ⊎_elim}
use Prim.Native.Nat.{ℕ, zero, suc, ◌+◌, ◌≤◌, ◌<◌}
use native.Mathlib.Omega.{arith}
use mathlib.Core.Bool.{false, not, true}
use lib.Dec.{T, T_not, eqb→eq}
use lib.IntN.{ℤ, pos, negsuc, neg_ℤ, nat_abs, ◌-ℤ◌, ◌*ℤ◌, *ℤ_comm}
use lib.Signed.{◌≤ℤ◌, ◌<ℤ◌, le_z, le_z_yes, lt_z, lt_z_no, lt_z_yes, ≤ℤ_refl}
use borrow.Author.Tests.{ne_eqb}
use Rattle.std.specs.Int.{int_min, int_max}
use Rattle.whole.specs.Whole.{is_zero, min_ℤ, max_ℤ, clamp_of}
use Rattle.whole.specs.Inner.{Abs}
use Rattle.whole.proofs.Parts.{plus, minus, le_out, le_in, lt_in, cond_ind}
use Rattle.whole.proofs.LinearLaws.{linear, from1, from2, signed, sizes, #}

pub neg_ℤ-*ℤ : (a b : ℤ) → neg_ℤ a *ℤ b ≡ neg_ℤ (a *ℤ b)
neg_ℤ-*ℤ a b = linear (search (signed, # a, # b) depth 30) (omega arith)

-- ---- the order
pub ≤ℤ_trans : {a b c : ℤ} → a ≤ℤ b → b ≤ℤ c → a ≤ℤ c
≤ℤ_trans {a} {b} {c} h k = le_in (omega (arith, le_out h, le_out k))

pub ≤ℤ_antisymm : {a b : ℤ} → a ≤ℤ b → b ≤ℤ a → a ≡ b
≤ℤ_antisymm {a} {b} = linear (search (signed, # a, # b) depth 30) (omega arith)

pub <ℤ-≤ℤ : {a b : ℤ} → a <ℤ b → a ≤ℤ b
<ℤ-≤ℤ {a} {b} = linear (search (signed, # a, # b) depth 30) (omega arith)

pub one_least : {z : ℤ} → pos 0 <ℤ z → pos 1 ≤ℤ z
one_least {z} = linear (search (signed, # z) depth 30) (omega arith)

nat_total : (m n : ℕ) → (m ≤ n) ⊎ (n < m)
nat_total zero n = inl (omega arith)
nat_total (suc m) zero = inr (omega arith)
nat_total (suc m) (suc n) = ⊎_elim (λ p. inl (omega arith)) (λ p. inr (omega arith)) (nat_total m n)

pub ≤ℤ_or-< : (a b : ℤ) → (a ≤ℤ b) ⊎ (b <ℤ a)
≤ℤ_or-< a b = ⊎_elim (λ p. inl (le_in p)) (λ p. inr (lt_in p)) (nat_total (plus a + minus b) (plus b + minus a))

pub neg_le : (a b : ℤ) → a ≤ℤ b → neg_ℤ b ≤ℤ neg_ℤ a
neg_le a b = linear (search (signed, # a, # b) depth 30) (omega arith)

-- ---- the order and products. A product of two nonnegative numbers is not negative, and the rest follows
pub mul_nonneg : (a b : ℤ) → pos 0 ≤ℤ a → pos 0 ≤ℤ b → pos 0 ≤ℤ (a *ℤ b)
mul_nonneg (pos a) (pos b) h k = linear (search signed depth 30) (omega arith)
mul_nonneg (pos a) (negsuc b) h k = absurd k.le
mul_nonneg (negsuc a) b h k = absurd h.le

-- a larger factor, times one that is not negative, or not positive
pub mul_mono : (k a b : ℤ) → pos 0 ≤ℤ k → a ≤ℤ b → (k *ℤ a) ≤ℤ (k *ℤ b)
mul_mono k a b h l = from1 (mul_nonneg k (b -ℤ a) h (from1 l (search (signed, # a, # b) depth 30) (omega arith))) (search (signed, # a, # b, # k) depth 30) (omega arith)

pub mul_anti : (k a b : ℤ) → k ≤ℤ pos 0 → a ≤ℤ b → (k *ℤ b) ≤ℤ (k *ℤ a)
mul_anti k a b h l = from1 (mul_nonneg (neg_ℤ k) (b -ℤ a) (from1 h (search (signed, # k) depth 30) (omega arith)) (from1 l (search (signed, # a, # b) depth 30) (omega arith))) (search (signed, # a, # b, # k) depth 30) (omega arith)

-- ---- the smaller and the larger of two
pub nle_lt : (a b : ℤ) → T (not (le_z a b)) → b <ℤ a
nle_lt a b t = ⊎_elim (λ h. absurd (T_not (le_z a b) t h.le)) (λ h. h) (≤ℤ_or-< a b)

nle : (a b : ℤ) → T (not (le_z a b)) → b ≤ℤ a
nle a b t = ⊎_elim (λ h. absurd (T_not (le_z a b) t h.le)) <ℤ-≤ℤ (≤ℤ_or-< a b)

pub min_ℤ_l : (a b : ℤ) → min_ℤ a b ≤ℤ a
min_ℤ_l a b = cond_ind (le_z a b) a b (λ z. z ≤ℤ a) (λ t. ≤ℤ_refl a) (nle a b)

pub min_ℤ_r : (a b : ℤ) → min_ℤ a b ≤ℤ b
min_ℤ_r a b = cond_ind (le_z a b) a b (λ z. z ≤ℤ b) le_z_yes (λ t. ≤ℤ_refl b)

pub max_ℤ_l : (a b : ℤ) → a ≤ℤ max_ℤ a b
max_ℤ_l a b = cond_ind (le_z a b) b a (λ z. a ≤ℤ z) le_z_yes (λ t. ≤ℤ_refl a)

pub max_ℤ_r : (a b : ℤ) → b ≤ℤ max_ℤ a b
max_ℤ_r a b = cond_ind (le_z a b) b a (λ z. b ≤ℤ z) (λ t. ≤ℤ_refl b) (nle a b)

pub ≤-min_ℤ : (a b z : ℤ) → z ≤ℤ a → z ≤ℤ b → z ≤ℤ min_ℤ a b
≤-min_ℤ a b z h k = cond_ind (le_z a b) a b (λ y. z ≤ℤ y) (λ t. h) (λ t. k)

pub max_ℤ-≤ : (a b z : ℤ) → a ≤ℤ z → b ≤ℤ z → max_ℤ a b ≤ℤ z
max_ℤ-≤ a b z h k = cond_ind (le_z a b) b a (λ y. y ≤ℤ z) (λ t. k) (λ t. h)

-- which of the two, where the order is known
pub min_ℤ_left : {a b : ℤ} → a ≤ℤ b → min_ℤ a b ≡ a
min_ℤ_left {a} {b} h = ≤ℤ_antisymm (min_ℤ_l a b) (≤-min_ℤ a b a (≤ℤ_refl a) h)

pub min_ℤ_right : {a b : ℤ} → b ≤ℤ a → min_ℤ a b ≡ b
min_ℤ_right {a} {b} h = ≤ℤ_antisymm (min_ℤ_r a b) (≤-min_ℤ a b b h (≤ℤ_refl b))

pub max_ℤ_left : {a b : ℤ} → b ≤ℤ a → max_ℤ a b ≡ a
max_ℤ_left {a} {b} h = ≤ℤ_antisymm (max_ℤ-≤ a b a (≤ℤ_refl a) h) (max_ℤ_l a b)

pub max_ℤ_right : {a b : ℤ} → a ≤ℤ b → max_ℤ a b ≡ b
max_ℤ_right {a} {b} h = ≤ℤ_antisymm (max_ℤ-≤ a b b h (≤ℤ_refl b)) (max_ℤ_r a b)

-- by cases, for `⊎_elim`
pub max_ℤ_or : (a b : ℤ) → ((max_ℤ a b ≡ b) × (a ≤ℤ b)) ⊎ ((max_ℤ a b ≡ a) × (b ≤ℤ a))
max_ℤ_or a b = ⊎_elim (λ h. inl (max_ℤ_right h, h)) (λ h. inr (max_ℤ_left (<ℤ-≤ℤ h), <ℤ-≤ℤ h)) (≤ℤ_or-< a b)

-- ---- what the library's methods `a.min(b)` and `a.max(b)` answer, which make another test
pub least_is : (a b : ℤ) → int_min a b ≡ min_ℤ a b
least_is a b = cond_ind (lt_z b a) b a (λ z. z ≡ min_ℤ a b) (λ t. sym (min_ℤ_right (<ℤ-≤ℤ (lt_z_yes t)))) (λ t. sym (min_ℤ_left (lt_z_no t)))

pub greatest_is : (a b : ℤ) → int_max a b ≡ max_ℤ a b
greatest_is a b = cond_ind (lt_z b a) a b (λ z. z ≡ max_ℤ a b) (λ t. sym (max_ℤ_left (<ℤ-≤ℤ (lt_z_yes t)))) (λ t. sym (max_ℤ_right (lt_z_no t)))

pub greatest_turned : (a b : ℤ) → int_max a b ≡ max_ℤ b a
greatest_turned a b = cond_ind (lt_z b a) a b (λ z. z ≡ max_ℤ b a) (λ t. sym (max_ℤ_right (<ℤ-≤ℤ (lt_z_yes t)))) (λ t. sym (max_ℤ_left (lt_z_no t)))

-- ---- a number that is held between two
module _ (lo hi z : ℤ) where
  pub clamp_above : lo ≤ℤ clamp_of lo hi z
  unfolding clamp_of
  clamp_above = max_ℤ_l lo (min_ℤ z hi)

  pub clamp_below : lo ≤ℤ hi → clamp_of lo hi z ≤ℤ hi
  unfolding clamp_of
  clamp_below h = max_ℤ-≤ lo (min_ℤ z hi) hi h (min_ℤ_r z hi)

  -- and so does the library's method, `z.clamp(lo, hi)`
  pub clamp_is : int_max lo (int_min z hi) ≡ clamp_of lo hi z
  unfolding clamp_of
  clamp_is = greatest_is lo (int_min z hi) ∙ ap (max_ℤ lo) (least_is z hi)

-- ---- zero
pub zero_is : (z : ℤ) → T (is_zero z) → z ≡ pos 0
zero_is (pos a) t = ap pos (eqb→eq a 0 t)
zero_is (negsuc a) t = absurd t

pub zero_yes : (z : ℤ) → z ≡ pos 0 → is_zero z ≡ true
zero_yes z e = ap is_zero e

pub zero_not : (z : ℤ) → (z ≡ pos 0 → ⊥) → is_zero z ≡ false
zero_not (pos n) h = ne_eqb n 0 (λ e. h (ap pos e))
zero_not (negsuc n) h = refl

-- two numbers with nothing between them
pub none_apart : (a b : ℤ) → T (is_zero (a -ℤ b)) → a ≡ b
none_apart a b t = from1 (zero_is (a -ℤ b) t) (search (signed, # a, # b) depth 30) (omega arith)

-- and nothing is between a number and itself
pub no_difference : (z : ℤ) → is_zero (z -ℤ z) ≡ true
no_difference z = let e : z -ℤ z ≡ pos 0 = linear (search (signed, # z) depth 30) (omega arith) in ap is_zero e

-- ---- sizes without sign
pub abs_in : {m : ℕ} {z : ℤ} → nat_abs z ≤ m → Abs m z
abs_in {m} {z} h = record { low = from1 h (search (sizes, # z) depth 30) (omega arith); high = from1 h (search (sizes, # z) depth 30) (omega arith) }

pub in_abs : {m : ℕ} {z : ℤ} → Abs m z → nat_abs z ≤ m
in_abs {m} {z} h = from2 h.low h.high (search (sizes, # z) depth 30) (omega arith)

pub abs_zero : (m : ℕ) → Abs m (pos 0)
abs_zero m = abs_in {m = m} {z = pos 0} (omega arith)

-- ---- a product's range, from its factors'
module _ (k c d y : ℤ) (h : c ≤ℤ y) (l : y ≤ℤ d) where
  one_low : min_ℤ (k *ℤ c) (k *ℤ d) ≤ℤ (k *ℤ y)
  one_low = ⊎_elim (λ p. ≤ℤ_trans (min_ℤ_l (k *ℤ c) (k *ℤ d)) (mul_mono k c y p h)) (λ p. ≤ℤ_trans (min_ℤ_r (k *ℤ c) (k *ℤ d)) (mul_anti k y d (<ℤ-≤ℤ p) l)) (≤ℤ_or-< (pos 0) k)

  one_high : (k *ℤ y) ≤ℤ max_ℤ (k *ℤ c) (k *ℤ d)
  one_high = ⊎_elim (λ p. ≤ℤ_trans (mul_mono k y d p l) (max_ℤ_r (k *ℤ c) (k *ℤ d))) (λ p. ≤ℤ_trans (mul_anti k c y (<ℤ-≤ℤ p) h) (max_ℤ_l (k *ℤ c) (k *ℤ d))) (≤ℤ_or-< (pos 0) k)

abbrev pub mul_low : ℤ → ℤ → ℤ → ℤ → ℤ
mul_low a b c d = min_ℤ (min_ℤ (a *ℤ c) (a *ℤ d)) (min_ℤ (b *ℤ c) (b *ℤ d))

abbrev pub mul_high : ℤ → ℤ → ℤ → ℤ → ℤ
mul_high a b c d = max_ℤ (max_ℤ (a *ℤ c) (a *ℤ d)) (max_ℤ (b *ℤ c) (b *ℤ d))

module _ (a b x c d y : ℤ) (h : a ≤ℤ x) (l : x ≤ℤ b) (i : c ≤ℤ y) (j : y ≤ℤ d) where
  pub mul_low_lem : mul_low a b c d ≤ℤ (x *ℤ y)
  mul_low_lem =
      ≤ℤ_trans (≤-min_ℤ (y *ℤ a) (y *ℤ b) (mul_low a b c d)
      (rw (*ℤ_comm y a) (≤ℤ_trans (min_ℤ_l (min_ℤ (a *ℤ c) (a *ℤ d)) (min_ℤ (b *ℤ c) (b *ℤ d))) (one_low a c d y i j)))
      (rw (*ℤ_comm y b) (≤ℤ_trans (min_ℤ_r (min_ℤ (a *ℤ c) (a *ℤ d)) (min_ℤ (b *ℤ c) (b *ℤ d))) (one_low b c d y i j))))
      (rw (*ℤ_comm x y) (one_low y a b x h l))

  pub mul_high_lem : (x *ℤ y) ≤ℤ mul_high a b c d
  mul_high_lem =
      ≤ℤ_trans (rw (*ℤ_comm x y) (one_high y a b x h l))
      (max_ℤ-≤ (y *ℤ a) (y *ℤ b) (mul_high a b c d)
      (rw (*ℤ_comm y a) (≤ℤ_trans (one_high a c d y i j) (max_ℤ_l (max_ℤ (a *ℤ c) (a *ℤ d)) (max_ℤ (b *ℤ c) (b *ℤ d)))))
      (rw (*ℤ_comm y b) (≤ℤ_trans (one_high b c d y i j) (max_ℤ_r (max_ℤ (a *ℤ c) (a *ℤ d)) (max_ℤ (b *ℤ c) (b *ℤ d))))))
