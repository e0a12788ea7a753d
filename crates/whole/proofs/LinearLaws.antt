-- Statements about ℤ turned into statements about ℕ, which `omega` reads. `search` puts the turning together:
--     linear (search (signed, # a, # b) depth 30) (omega arith)     a law with sums and small products of a and b
--     from2 h k (search (signed, # a, # b) depth 30) (omega arith)  the same, from the facts h and k
-- Every variable or call that the statement holds goes into the list as `# a`.
-- Assumes nothing.
use mathlib.Core.Path.{◌≡◌}
use Prim.Native.Nat.{ℕ, suc, ◌+◌, ◌*◌, ◌^◌, ◌≤◌, ◌<◌}
use native.Mathlib.Omega.{arith}
use lib.IntN.{ℤ, pos, negsuc, neg_ℤ, nat_abs, ◌+ℤ◌, ◌-ℤ◌, ◌*ℤ◌}
use lib.Signed.{◌≤ℤ◌, ◌<ℤ◌}
use mir.Syntax.{w64}
use mir.Val.{SFits}
use Rattle.whole.proofs.Parts.{plus, minus, Is, is_self, is_pos, is_negsuc, is_neg, is_add, is_mul, le_out, le_in, lt_out, lt_in, eq_out, eq_in, mag_lt, lt_mag, abs_le, le_abs}

-- ---- z as a difference of two naturals
pub data Difference : ℤ → Type 0 where
  difference : {z : ℤ} (p n : ℕ) → Is z p n → Difference z

abbrev pub p : {z : ℤ} → Difference z → ℕ
p (difference a b h) = a

abbrev pub n : {z : ℤ} → Difference z → ℕ
n (difference a b h) = b

pub is : {z : ℤ} (q : Difference z) → Is z (p q) (n q)
is (difference a b h) = h

abbrev pub # : (z : ℤ) → Difference z
# z = difference (plus z) (minus z) (is_self z)

abbrev pub d_pos : (k : ℕ) → Difference (pos k)
d_pos k = difference k 0 (is_pos k)

abbrev pub d_negsuc : (k : ℕ) → Difference (negsuc k)
d_negsuc k = difference 0 (suc k) (is_negsuc k)

abbrev pub d_neg : (z : ℤ) → Difference z → Difference (neg_ℤ z)
d_neg z a = difference (n a) (p a) (is_neg z (p a) (n a) (is a))

abbrev pub d_add : (x y : ℤ) → Difference x → Difference y → Difference (x +ℤ y)
d_add x y a b = difference (p a + p b) (n a + n b) (is_add x y (p a) (n a) (p b) (n b) (is a) (is b))

abbrev pub d_sub : (x y : ℤ) → Difference x → Difference y → Difference (x -ℤ y)
d_sub x y a b = d_add x (neg_ℤ y) a (d_neg y b)

abbrev pub d_mul : (x y : ℤ) → Difference x → Difference y → Difference (x *ℤ y)
d_mul x y a b = difference (p a * p b + n a * n b) (p a * n b + n a * p b) (is_mul x y (p a) (n a) (p b) (n b) (is a) (is b))

-- ---- a statement with one in ℕ that says the same
pub data Said : Type 0 → Type 1 where
  both : {A : Type 0} (N : Type 0) → (A → N) → (N → A) → Said A

abbrev pub InNaturals : {A : Type 0} → Said A → Type 0
InNaturals (both N f g) = N

pub out : {A : Type 0} (s : Said A) → A → InNaturals s
out (both N f g) = f

pub linear : {A : Type 0} (s : Said A) → InNaturals s → A
linear (both N f g) = g

pub from1 : {A T : Type 0} → A → (s : Said (A → T)) → InNaturals s → T
from1 a s m = linear s m a

pub from2 : {A B T : Type 0} → A → B → (s : Said (A → B → T)) → InNaturals s → T
from2 a b s m = linear s m a b

pub from3 : {A B C T : Type 0} → A → B → C → (s : Said (A → B → C → T)) → InNaturals s → T
from3 a b c s m = linear s m a b c

pub from4 : {A B C D T : Type 0} → A → B → C → D → (s : Said (A → B → C → D → T)) → InNaturals s → T
from4 a b c d s m = linear s m a b c d

module _ (x y : ℤ) (a : Difference x) (b : Difference y) where
  pub le_o : x ≤ℤ y → p a + n b ≤ p b + n a
  le_o h = omega (arith, le_out h, is a, is b)

  pub le_i : p a + n b ≤ p b + n a → x ≤ℤ y
  le_i h = le_in (omega (arith, is a, is b))

  pub lt_o : x <ℤ y → p a + n b < p b + n a
  lt_o h = omega (arith, lt_out h, is a, is b)

  pub lt_i : p a + n b < p b + n a → x <ℤ y
  lt_i h = lt_in (omega (arith, is a, is b))

  pub eq_o : x ≡ y → p a + n b ≡ p b + n a
  eq_o h = omega (arith, eq_out h, is a, is b)

  pub eq_i : p a + n b ≡ p b + n a → x ≡ y
  eq_i h = eq_in (omega (arith, is a, is b))

  abbrev pub s_le : Said (x ≤ℤ y)
  s_le = both (p a + n b ≤ p b + n a) le_o le_i

  abbrev pub s_lt : Said (x <ℤ y)
  s_lt = both (p a + n b < p b + n a) lt_o lt_i

  abbrev pub s_eq : Said (x ≡ y)
  s_eq = both (p a + n b ≡ p b + n a) eq_o eq_i

module _ (x : ℤ) (a : Difference x) where
  pub fits_o : SFits w64 x → (p a < n a + 2 ^ 63) × (n a ≤ p a + 2 ^ 63)
  fits_o h = (omega (arith, lt_mag x (2 ^ 63) h.sfits, is a), omega (arith, lt_mag x (2 ^ 63) h.sfits, is a))

  pub fits_i : (p a < n a + 2 ^ 63) × (n a ≤ p a + 2 ^ 63) → SFits w64 x
  fits_i h = record { sfits = mag_lt x (2 ^ 63) (omega (arith, is a)) (omega (arith, is a)) }

  abbrev pub s_fits : Said (SFits w64 x)
  s_fits = both ((p a < n a + 2 ^ 63) × (n a ≤ p a + 2 ^ 63)) fits_o fits_i

  -- a size without sign that is at most t
  pub abs_o : (t : ℕ) → nat_abs x ≤ t → (p a ≤ n a + t) × (n a ≤ p a + t)
  abs_o t h = (omega (arith, le_abs x t h, is a), omega (arith, le_abs x t h, is a))

  pub abs_i : (t : ℕ) → (p a ≤ n a + t) × (n a ≤ p a + t) → nat_abs x ≤ t
  abs_i t h = abs_le x t (omega (arith, is a)) (omega (arith, is a))

  abbrev pub s_abs : (t : ℕ) → Said (nat_abs x ≤ t)
  s_abs t = both ((p a ≤ n a + t) × (n a ≤ p a + t)) (abs_o t) (abs_i t)

module _ (A B : Type 0) (s : Said A) (t : Said B) where
  pub imp_o : (A → B) → InNaturals s → InNaturals t
  imp_o f m = out t (f (linear s m))

  pub imp_i : (InNaturals s → InNaturals t) → A → B
  imp_i f a = linear t (f (out s a))

  pub and_o : A × B → InNaturals s × InNaturals t
  and_o f = (out s f.0, out t f.1)

  pub and_i : InNaturals s × InNaturals t → A × B
  and_i f = (linear s f.0, linear t f.1)

  abbrev pub s_imp : Said (A → B)
  s_imp = both (InNaturals s → InNaturals t) imp_o imp_i

  abbrev pub s_and : Said (A × B)
  s_and = both (InNaturals s × InNaturals t) and_o and_i

abbrev pub s_nat_le : (a b : ℕ) → Said (a ≤ b)
s_nat_le a b = both (a ≤ b) (λ h. h) (λ h. h)

abbrev pub s_nat_eq : (a b : ℕ) → Said (a ≡ b)
s_nat_eq a b = both (a ≡ b) (λ h. h) (λ h. h)

abbrev pub s_never : Said ⊥
s_never = both ⊥ (λ h. h) (λ h. h)

pub ruleset statements = (s_le, s_lt, s_eq, s_fits, s_imp, s_and, s_never, d_pos, d_negsuc, d_add, d_sub, d_neg, d_mul)

pub ruleset signed = (statements, s_nat_le, s_nat_eq)

-- for statements with sizes without sign, `nat_abs x ≤ t`
pub ruleset sizes = (statements, s_abs)
