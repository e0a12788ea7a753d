-- Ranges by computation. `search` puts together what a machine's term comes to: its value in ℤ, with every reading back from bits gone, and a
-- range with numerals for ends. It finds `In lo hi z` and `Abs m z` in what a need is handed; a fact that has yet to be applied goes into the
-- list as `leaf h`, a call's result as `b_is e (search ..)`.
--     fits (search ranges depth 20) tt       a sum, a difference, a product or a quotient fits an i64
--     exact (search ranges depth 20)         a result, as the machine reads it back, is the formula
--     within (search ranges depth 20) tt tt  it lies in a range
--     no_less (search ranges depth 20) tt      it is at least a number
-- Assumes nothing.
use mathlib.Core.Path.{◌≡◌, refl, sym, ap, ap₂, ◌∙◌, subst}
use mathlib.Core.Bool.{Bool, true, false, not, cond, ◌&&◌}
use Prim.Native.Nat.{ℕ, ◌-◌, ◌^◌, ◌<◌}
use native.Mathlib.Omega.{arith}
use lib.Dec.{T, eqb}
use borrow.Author.Tests.{eq-eqb, ne_eqb}
use lib.IntN.{ℤ, pos, negsuc, neg_ℤ, ◌+ℤ◌, ◌-ℤ◌, ◌*ℤ◌, nat_abs, +ℤ_idl}
use lib.Signed.{◌≤ℤ◌, ◌<ℤ◌, clash_ℤ, le_z, lt_z, le_z_yes, ≤ℤ_refl, mag, lt_z_yes, lt_z_no, non_neg, yes_non_neg}
use mir.Syntax.{w64}
use mir.Val.{SFits, Fits, to_z, of_z}
use mir.Facts.{Fits-nat_abs}
use mir.ValLaws.{to_z-of_z}
use Rattle.whole.specs.Inner.{In}
use Rattle.whole.specs.Whole.{is_zero, min_ℤ, max_ℤ, floor_of, cut_of}
use Rattle.whole.proofs.SearchLaws.{both, holds}
use Rattle.whole.proofs.LinearLaws.{linear, from1, from4, signed, #}
use Rattle.whole.proofs.OrderLaws.{≤ℤ_trans, nle_lt, min_ℤ_l, min_ℤ_r, max_ℤ_l, max_ℤ_r, ≤-min_ℤ, max_ℤ-≤, mul_low, mul_high, mul_low_lem, mul_high_lem, neg_le}
use Rattle.whole.proofs.DivisionLaws.{cut_low_lem, cut_high_lem, floor_from, floor_to}

-- z is v, which is from l to h
pub data Bounds : ℤ → Type 0 where
  bounds : {z : ℤ} (v l h : ℤ) → z ≡ v → l ≤ℤ v → v ≤ℤ h → Bounds z

abbrev pub val : {z : ℤ} → Bounds z → ℤ
val (bounds v l h e p q) = v

abbrev pub lo : {z : ℤ} → Bounds z → ℤ
lo (bounds v l h e p q) = l

abbrev pub hi : {z : ℤ} → Bounds z → ℤ
hi (bounds v l h e p q) = h

pub exact : {z : ℤ} (b : Bounds z) → z ≡ val b
exact (bounds v l h e p q) = e

pub low : {z : ℤ} (b : Bounds z) → lo b ≤ℤ val b
low (bounds v l h e p q) = p

pub high : {z : ℤ} (b : Bounds z) → val b ≤ℤ hi b
high (bounds v l h e p q) = q

-- ---- leaves
abbrev pub b_in : (l h z : ℤ) → In l h z → Bounds z
b_in l h z i = bounds z l h refl i.low i.high

abbrev pub leaf : {l h z : ℤ} → In l h z → Bounds z
leaf {l} {h} {z} i = b_in l h z i

-- a term that is known to be a value in a range
abbrev pub b_eq : {l h z v : ℤ} → z ≡ v → In l h v → Bounds z
b_eq {l} {h} {z} {v} e i = bounds v l h e i.low i.high

abbrev pub b_pos : (k : ℕ) → Bounds (pos k)
b_pos k = bounds (pos k) (pos k) (pos k) refl (≤ℤ_refl (pos k)) (≤ℤ_refl (pos k))

abbrev pub b_negsuc : (k : ℕ) → Bounds (negsuc k)
b_negsuc k = bounds (negsuc k) (negsuc k) (negsuc k) refl (≤ℤ_refl (negsuc k)) (≤ℤ_refl (negsuc k))

-- a term that is known to be another, as a call's result
pub is_by : {z y : ℤ} → z ≡ y → (b : Bounds y) → z ≡ val b
is_by e b = e ∙ exact b

abbrev pub b_is : {z y : ℤ} → z ≡ y → Bounds y → Bounds z
b_is e b = bounds (val b) (lo b) (hi b) (is_by e b) (low b) (high b)

-- ---- the number mirrored at 0
module _ (x : ℤ) (a : Bounds x) where
  pub neg_e : neg_ℤ x ≡ neg_ℤ (val a)
  neg_e = ap neg_ℤ (exact a)

  pub neg_l : neg_ℤ (hi a) ≤ℤ neg_ℤ (val a)
  neg_l = neg_le (val a) (hi a) (high a)

  pub neg_h : neg_ℤ (val a) ≤ℤ neg_ℤ (lo a)
  neg_h = neg_le (lo a) (val a) (low a)

  abbrev pub b_neg : Bounds (neg_ℤ x)
  b_neg = bounds (neg_ℤ (val a)) (neg_ℤ (hi a)) (neg_ℤ (lo a)) neg_e neg_l neg_h

-- ---- sums, differences, products, the lesser and the greater of two
add_low : (a b c d : ℤ) → a ≤ℤ c → b ≤ℤ d → (a +ℤ b) ≤ℤ (c +ℤ d)
add_low a b c d = linear (search (signed, # a, # b, # c, # d) depth 30) (omega arith)

sub_low : (a b c d : ℤ) → a ≤ℤ c → d ≤ℤ b → (a -ℤ b) ≤ℤ (c -ℤ d)
sub_low a b c d = linear (search (signed, # a, # b, # c, # d) depth 30) (omega arith)

module _ (x y : ℤ) (a : Bounds x) (b : Bounds y) where
  pub add_e : x +ℤ y ≡ val a +ℤ val b
  add_e = ap₂ ◌+ℤ◌ (exact a) (exact b)

  pub add_l : (lo a +ℤ lo b) ≤ℤ (val a +ℤ val b)
  add_l = add_low (lo a) (lo b) (val a) (val b) (low a) (low b)

  pub add_h : (val a +ℤ val b) ≤ℤ (hi a +ℤ hi b)
  add_h = add_low (val a) (val b) (hi a) (hi b) (high a) (high b)

  pub sub_e : x -ℤ y ≡ val a -ℤ val b
  sub_e = ap₂ (λ (u v : ℤ). u -ℤ v) (exact a) (exact b)

  pub sub_l : (lo a -ℤ hi b) ≤ℤ (val a -ℤ val b)
  sub_l = sub_low (lo a) (hi b) (val a) (val b) (low a) (high b)

  pub sub_h : (val a -ℤ val b) ≤ℤ (hi a -ℤ lo b)
  sub_h = sub_low (val a) (val b) (hi a) (lo b) (high a) (low b)

  pub mul_e : x *ℤ y ≡ val a *ℤ val b
  mul_e = ap₂ ◌*ℤ◌ (exact a) (exact b)

  pub mul_l : mul_low (lo a) (hi a) (lo b) (hi b) ≤ℤ (val a *ℤ val b)
  mul_l = mul_low_lem (lo a) (hi a) (val a) (lo b) (hi b) (val b) (low a) (high a) (low b) (high b)

  pub mul_h : (val a *ℤ val b) ≤ℤ mul_high (lo a) (hi a) (lo b) (hi b)
  mul_h = mul_high_lem (lo a) (hi a) (val a) (lo b) (hi b) (val b) (low a) (high a) (low b) (high b)

  pub min_e : min_ℤ x y ≡ min_ℤ (val a) (val b)
  min_e = ap₂ min_ℤ (exact a) (exact b)

  pub min_l : min_ℤ (lo a) (lo b) ≤ℤ min_ℤ (val a) (val b)
  min_l = ≤-min_ℤ (val a) (val b) (min_ℤ (lo a) (lo b)) (≤ℤ_trans (min_ℤ_l (lo a) (lo b)) (low a)) (≤ℤ_trans (min_ℤ_r (lo a) (lo b)) (low b))

  pub min_h : min_ℤ (val a) (val b) ≤ℤ min_ℤ (hi a) (hi b)
  min_h = ≤-min_ℤ (hi a) (hi b) (min_ℤ (val a) (val b)) (≤ℤ_trans (min_ℤ_l (val a) (val b)) (high a)) (≤ℤ_trans (min_ℤ_r (val a) (val b)) (high b))

  pub max_e : max_ℤ x y ≡ max_ℤ (val a) (val b)
  max_e = ap₂ max_ℤ (exact a) (exact b)

  pub max_l : max_ℤ (lo a) (lo b) ≤ℤ max_ℤ (val a) (val b)
  max_l = max_ℤ-≤ (lo a) (lo b) (max_ℤ (val a) (val b)) (≤ℤ_trans (low a) (max_ℤ_l (val a) (val b))) (≤ℤ_trans (low b) (max_ℤ_r (val a) (val b)))

  pub max_h : max_ℤ (val a) (val b) ≤ℤ max_ℤ (hi a) (hi b)
  max_h = max_ℤ-≤ (val a) (val b) (max_ℤ (hi a) (hi b)) (≤ℤ_trans (high a) (max_ℤ_l (hi a) (hi b))) (≤ℤ_trans (high b) (max_ℤ_r (hi a) (hi b)))

  abbrev pub b_add : Bounds (x +ℤ y)
  b_add = bounds (val a +ℤ val b) (lo a +ℤ lo b) (hi a +ℤ hi b) add_e add_l add_h

  abbrev pub b_sub : Bounds (x -ℤ y)
  b_sub = bounds (val a -ℤ val b) (lo a -ℤ hi b) (hi a -ℤ lo b) sub_e sub_l sub_h

  abbrev pub b_mul : Bounds (x *ℤ y)
  b_mul = bounds (val a *ℤ val b) (mul_low (lo a) (hi a) (lo b) (hi b)) (mul_high (lo a) (hi a) (lo b) (hi b)) mul_e mul_l mul_h

  abbrev pub b_min : Bounds (min_ℤ x y)
  b_min = bounds (min_ℤ (val a) (val b)) (min_ℤ (lo a) (lo b)) (min_ℤ (hi a) (hi b)) min_e min_l min_h

  abbrev pub b_max : Bounds (max_ℤ x y)
  b_max = bounds (max_ℤ (val a) (val b)) (max_ℤ (lo a) (lo b)) (max_ℤ (hi a) (hi b)) max_e max_l max_h

-- ---- what a range of an i64 tells
abbrev pub ok : ℤ → ℤ → Bool
ok l h = le_z (negsuc (2 ^ 63 - 1)) l && le_z h (pos (2 ^ 63 - 1))

in_fits : (l h z : ℤ) → T (ok l h) → l ≤ℤ z → z ≤ℤ h → SFits w64 z
in_fits l h z t p q =
    let k = both (le_z (negsuc (2 ^ 63 - 1)) l) (le_z h (pos (2 ^ 63 - 1))) t in
    from4 p q (le_z_yes {a = negsuc (2 ^ 63 - 1)} {b = l} k.0) (le_z_yes {a = h} {b = pos (2 ^ 63 - 1)} k.1) (search (signed, # l, # h, # z) depth 30) (omega arith)

pub fits : {z : ℤ} (b : Bounds z) → T (ok (lo b) (hi b)) → SFits w64 z
fits {z} b t = subst (SFits w64) (sym (exact b)) (in_fits (lo b) (hi b) (val b) t (low b) (high b))

pub within : {l h z : ℤ} (b : Bounds z) → T (le_z l (lo b)) → T (le_z (hi b) h) → In l h z
within {l} {h} {z} b s t = subst (In l h) (sym (exact b)) (record { low = ≤ℤ_trans (le_z_yes s) (low b); high = ≤ℤ_trans (high b) (le_z_yes t) })

-- one end alone
pub no_less : {l z : ℤ} (b : Bounds z) → T (le_z l (lo b)) → l ≤ℤ z
no_less {l} {z} b s = subst (λ y. l ≤ℤ y) (sym (exact b)) (≤ℤ_trans (le_z_yes s) (low b))

-- what lies in such a range is read back as it is
pub read : {l h z : ℤ} → In l h z → T (ok l h) → to_z w64 (of_z w64 z) ≡ z
read {l} {h} {z} i t = to_z-of_z w64 z (fits (leaf i) t)

-- and so is what a read through a reference hands over, with its size
pub read_back : (z : ℤ) → mag z < 2 ^ 63 → to_z w64 (of_z w64 z) ≡ z
read_back z h = to_z-of_z w64 z (record { sfits = h })

-- what a call answers, read back, is what it ensures
pub answer : {z v : ℤ} → mag z < 2 ^ 63 → z ≡ v → to_z w64 (of_z w64 z) ≡ v
answer {z} h e = read_back z h ∙ e

-- a difference of two numbers in ranges, as the machine works it out
pub subtracted : {l h a m n b : ℤ} → In l h a → In m n b → T (ok l h) → T (ok m n) → T (ok (l -ℤ n) (h -ℤ m)) → to_z w64 (of_z w64 (to_z w64 (of_z w64 a) -ℤ to_z w64 (of_z w64 b))) ≡ a -ℤ b
subtracted {a = a} {b = b} i j s t u =
    ap₂ (λ x y. to_z w64 (of_z w64 (x -ℤ y))) (read i s) (read j t)
    ∙ to_z-of_z w64 (a -ℤ b) (fits (b_sub a b (leaf i) (leaf j)) u)

-- a number with its sign turned, as the machine works it out
pub negated : {l h z v : ℤ} → z ≡ v → In l h v → T (ok l h) → T (ok (neg_ℤ h) (neg_ℤ l)) → to_z w64 (of_z w64 (pos 0 -ℤ to_z w64 (of_z w64 z))) ≡ neg_ℤ v
negated {l} {h} {z} {v} e i s t =
    ap (λ x. to_z w64 (of_z w64 (pos 0 -ℤ to_z w64 (of_z w64 x)))) e
    ∙ ap (λ x. to_z w64 (of_z w64 (pos 0 -ℤ x))) (read i s)
    ∙ ap (λ x. to_z w64 (of_z w64 x)) (+ℤ_idl (neg_ℤ v))
    ∙ read (record { low = neg_le v h i.high; high = neg_le l v i.low }) t

-- any i64, and one that is at least l
sfits_in : (z : ℤ) → SFits w64 z → (negsuc (2 ^ 63 - 1) ≤ℤ z) × (z ≤ℤ pos (2 ^ 63 - 1))
sfits_in z = linear (search (signed, # z) depth 30) (omega arith)

pub sfits_low : {z : ℤ} → SFits w64 z → negsuc (2 ^ 63 - 1) ≤ℤ z
sfits_low {z} f = (sfits_in z f).0

pub sfits_high : {z : ℤ} → SFits w64 z → z ≤ℤ pos (2 ^ 63 - 1)
sfits_high {z} f = (sfits_in z f).1

abbrev pub any : {z : ℤ} → SFits w64 z → Bounds z
any {z} f = bounds z (negsuc (2 ^ 63 - 1)) (pos (2 ^ 63 - 1)) refl (sfits_low f) (sfits_high f)

abbrev pub at_least : {l z : ℤ} → l ≤ℤ z → SFits w64 z → Bounds z
at_least {l} {z} h f = bounds z l (pos (2 ^ 63 - 1)) refl h (sfits_high f)

abbrev pub at_most : {h z : ℤ} → z ≤ℤ h → SFits w64 z → Bounds z
at_most {h} {z} l f = bounds z (negsuc (2 ^ 63 - 1)) h refl (sfits_low f) l

-- ---- a value v from l to h where a test passes, and the term u alone where it does not
module _ (z u v l h : ℤ) where
  abbrev pub Pick : Bool → Type 0
  Pick c = (z ≡ cond c v u) × (cond c l u ≤ℤ cond c v u) × (cond c v u ≤ℤ cond c h u)

  pick : (c : Bool) → z ≡ u → (T c → (z ≡ v) × (l ≤ℤ v) × (v ≤ℤ h)) → Pick c
  pick true e f = f tt
  pick false e f = (e, ≤ℤ_refl u, ≤ℤ_refl u)

  abbrev pub b_pick : (c : Bool) → Pick c → Bounds z
  b_pick c p = bounds (cond c v u) (cond c l u) (cond c h u) p.0 p.1 p.2

-- what the machine writes to bits and reads back
module _ (z : ℤ) (b : Bounds z) where
  pub machine : Pick (to_z w64 (of_z w64 z)) (to_z w64 (of_z w64 z)) (val b) (lo b) (hi b) (ok (lo b) (hi b))
  machine = pick (to_z w64 (of_z w64 z)) (to_z w64 (of_z w64 z)) (val b) (lo b) (hi b) (ok (lo b) (hi b)) refl (λ t. (to_z-of_z w64 z (fits b t) ∙ exact b, low b, high b))

  abbrev pub b_machine : Bounds (to_z w64 (of_z w64 z))
  b_machine = b_pick (to_z w64 (of_z w64 z)) (to_z w64 (of_z w64 z)) (val b) (lo b) (hi b) (ok (lo b) (hi b)) machine

-- ---- quotients, where the divisor's range starts at 1 or above
module _ (x y : ℤ) (a : Bounds x) (b : Bounds y) where
  abbrev pub cut_low : ℤ
  cut_low = cut_of (min_ℤ (lo a) (pos 0)) (lo b)

  abbrev pub cut_high : ℤ
  cut_high = cut_of (max_ℤ (hi a) (pos 0)) (lo b)

  pub cut : Pick (cut_of x y) (cut_of x y) (cut_of (val a) (val b)) cut_low cut_high (le_z (pos 1) (lo b))
  cut = pick (cut_of x y) (cut_of x y) (cut_of (val a) (val b)) cut_low cut_high (le_z (pos 1) (lo b)) refl
      (λ t. (ap₂ cut_of (exact a) (exact b), cut_low_lem (lo a) (val a) (lo b) (val b) (low a) (le_z_yes t) (low b), cut_high_lem (hi a) (val a) (lo b) (val b) (high a) (le_z_yes t) (low b)))

  abbrev pub b_cut : Bounds (cut_of x y)
  b_cut = b_pick (cut_of x y) (cut_of x y) (cut_of (val a) (val b)) cut_low cut_high (le_z (pos 1) (lo b)) cut

  abbrev pub floor_low : ℤ
  floor_low = floor_of (min_ℤ (lo a) (pos 0)) (lo b)

  abbrev pub floor_high : ℤ
  floor_high = floor_of (max_ℤ (hi a) (pos 0)) (lo b)

  pub floor : Pick (floor_of x y) (floor_of x y) (floor_of (val a) (val b)) floor_low floor_high (le_z (pos 1) (lo b))
  floor = pick (floor_of x y) (floor_of x y) (floor_of (val a) (val b)) floor_low floor_high (le_z (pos 1) (lo b)) refl
      (λ t. (ap₂ floor_of (exact a) (exact b), floor_from (lo a) (val a) (lo b) (val b) (low a) (le_z_yes t) (low b), floor_to (hi a) (val a) (lo b) (val b) (high a) (le_z_yes t) (low b)))

  abbrev pub b_floor : Bounds (floor_of x y)
  b_floor = b_pick (floor_of x y) (floor_of x y) (floor_of (val a) (val b)) floor_low floor_high (le_z (pos 1) (lo b)) floor

pub ruleset ranges = (b_in, b_pos, b_negsuc, b_neg, b_add, b_sub, b_mul, b_cut, b_floor, b_min, b_max, b_machine)

-- ---- a divisor's bits are not 0
bits_pos : (d : ℤ) → pos 1 ≤ℤ d → 0 < of_z w64 d
bits_pos (pos k) h = from1 h (search signed depth 30) (omega arith)
bits_pos (negsuc k) h = absurd h.le

pub nonzero : {d : ℤ} → pos 1 ≤ℤ d → 0 < of_z w64 d
nonzero {d} h = bits_pos d h

-- ---- what a test tells of two terms, which are written out
pub lt_true : (x y : ℤ) → lt_z x y ≡ true → x <ℤ y
lt_true x y e = lt_z_yes (holds e)

pub lt_false : (x y : ℤ) → lt_z x y ≡ false → y ≤ℤ x
lt_false x y e = lt_z_no (subst (λ t. T (not t)) (sym e) tt)

pub not_above : (x y : ℤ) → y ≤ℤ x → lt_z x y ≡ false
not_above x y h = go (lt_z x y) refl
  where
    go : (b : Bool) → lt_z x y ≡ b → b ≡ false
    go true e = clash_ℤ (lt_true x y e) h
    go false e = refl

pub le_true : (x y : ℤ) → le_z x y ≡ true → x ≤ℤ y
le_true x y e = le_z_yes (holds e)

pub le_false : (x y : ℤ) → le_z x y ≡ false → y <ℤ x
le_false x y e = nle_lt x y (subst (λ t. T (not t)) (sym e) tt)

-- ---- and of two numbers, whose bits the machine reads
module _ {x y : ℤ} (f : SFits w64 x) (g : SFits w64 y) where
  pub lt_bits : lt_z (to_z w64 (of_z w64 x)) (to_z w64 (of_z w64 y)) ≡ lt_z x y
  lt_bits = ap₂ lt_z (to_z-of_z w64 x f) (to_z-of_z w64 y g)

  pub le_bits : le_z (to_z w64 (of_z w64 x)) (to_z w64 (of_z w64 y)) ≡ le_z x y
  le_bits = ap₂ le_z (to_z-of_z w64 x f) (to_z-of_z w64 y g)

  pub lt_yes : lt_z (to_z w64 (of_z w64 x)) (to_z w64 (of_z w64 y)) ≡ true → x <ℤ y
  lt_yes e = lt_true x y (sym lt_bits ∙ e)

  pub lt_no : lt_z (to_z w64 (of_z w64 x)) (to_z w64 (of_z w64 y)) ≡ false → y ≤ℤ x
  lt_no e = lt_false x y (sym lt_bits ∙ e)

  pub le_yes : le_z (to_z w64 (of_z w64 x)) (to_z w64 (of_z w64 y)) ≡ true → x ≤ℤ y
  le_yes e = le_true x y (sym le_bits ∙ e)

  pub le_no : le_z (to_z w64 (of_z w64 x)) (to_z w64 (of_z w64 y)) ≡ false → y <ℤ x
  le_no e = le_false x y (sym le_bits ∙ e)

-- whether a number of a known range is above 0, as the machine asks it
pub positive : {l h z : ℤ} {b : Bool} → In l h z → T (ok l h) → lt_z (pos 0) (to_z w64 (of_z w64 z)) ≡ b → lt_z (pos 0) z ≡ b
positive i t e = sym (ap (lt_z (pos 0)) (read i t)) ∙ e

-- and of any i64
pub positive_any : {z : ℤ} {b : Bool} → SFits w64 z → lt_z (pos 0) (to_z w64 (of_z w64 z)) ≡ b → lt_z (pos 0) z ≡ b
positive_any {z} f e = sym (lt_bits (fits (b_pos 0) tt) f) ∙ e

-- whether an i64 is below 0
pub negative_any : {z : ℤ} {b : Bool} → SFits w64 z → lt_z (to_z w64 (of_z w64 z)) (pos 0) ≡ b → lt_z z (pos 0) ≡ b
negative_any f e = sym (lt_bits f (fits (b_pos 0) tt)) ∙ e

-- ---- equality of two i64, as the machine asks it of their bits; `a == 0` tells what `is_zero` does
pub same_bits : {x y : ℤ} → SFits w64 x → SFits w64 y → of_z w64 x ≡ of_z w64 y → x ≡ y
same_bits {x} {y} f g e = sym (to_z-of_z w64 x f) ∙ ap (to_z w64) e ∙ to_z-of_z w64 y g

pub zero_bits : (z : ℤ) → SFits w64 z → eqb (of_z w64 z) 0 ≡ is_zero z
zero_bits (pos n) f = refl
zero_bits (negsuc n) f = ne_eqb (of_z w64 (negsuc n)) 0 (λ e. absurd (omega (arith, f.sfits)))

pub zero_yes_bits : {z : ℤ} → SFits w64 z → of_z w64 z ≡ 0 → is_zero z ≡ true
zero_yes_bits {z} f e = sym (zero_bits z f) ∙ eq-eqb (of_z w64 z) 0 e

pub zero_not_bits : {z : ℤ} → SFits w64 z → (of_z w64 z ≡ 0 → ⊥) → is_zero z ≡ false
zero_not_bits {z} f h = sym (zero_bits z f) ∙ ne_eqb (of_z w64 z) 0 h

-- ---- the cast of a number that is not negative to an unsigned one
pub unsign_ok : {a : ℤ} → pos 0 ≤ℤ a → SFits w64 a → T (non_neg (to_z w64 (of_z w64 a))) × Fits w64 (nat_abs (to_z w64 (of_z w64 a)))
unsign_ok {a} h f = rw (to_z-of_z w64 a f) (yes_non_neg h, Fits-nat_abs tt f)
