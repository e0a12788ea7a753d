-- The tick of a double, by the fields of its bits: the sign s, the exponent's field x and the digits t. From the field 1,034 on the double's tick is out
-- of range, or it is infinite or no number; up to 1,009 the double has less than half a tick; between them its digits, under a leading one, are divided
-- by 2^(1,063 - x). Assumes nothing.
use mathlib.Core.Bool.{Bool, cond, false, not, true}
use mathlib.Core.Logic.{inl, inr, ⊎_elim}
use mathlib.Core.Path.{◌∙◌, ◌≡◌, ap, refl, subst, sym}
use Prim.Native.Nat.{◌%◌, ◌*◌, ◌+◌, ◌-◌, ◌<◌, ◌^◌, ◌≤◌, compare, suc, zero, ℕ}
use native.Mathlib.Nat.{div-one, le-add_right, le_of_eq, le_of_lt, le_trans, lt_of_le_of_lt, lt_of_lt_of_le, mod-eq_of_lt, mod-lt, mod-one, mul_assoc, mul-le-mul_right, mul-one, mul_right_comm, one-mul, zero-lt-suc}
use native.Mathlib.Omega.{arith}
use lib.Dec.{T, eqb, leb, leb→le, lit≤, lt→ltb, nleb→lt}
use lib.Ieee.{Float, binary64, down, fin, inf, nan, nearest, odd, of_bits, of_fields, up}
use lib.Ieee.Exact.{HasValue, odd_sign}
use lib.Ieee.Fits.{down_pos}
use lib.Ieee.Nearest.{closest, closest_mono, closest_same}
use lib.Ieee.Scale.{finite}
use lib.IntN.{nat_abs, negsuc, neg_ℤ, pos, ℤ}
use lib.Pow.{field, pow-add, pow-lt, pow_mono, pow_pos, shl_lt}
use lib.Signed.{◌≤ℤ◌, clash_ℤ, lt_z_yes}
use borrow.Author.Tests.{le-leb, lt-leb, ne_eqb}
use Rattle.whole.specs.Ranges.{between, in_range}
use Rattle.whole.proofs.OrderLaws.{≤ℤ_or-<, ≤ℤ_trans}
use Rattle.whole.proofs.WithinLaws.{out_ranged}
use Rattle.slots.specs.Units.{most_level}
use Rattle.metres.specs.Meaning.{Shows, negative}
use Rattle.metres.specs.Metres.{is_taken, signed_by, tick_of, ticks_in}
use Rattle.metres.specs.Inner.{digits_of, far, field_of, near}
use Rattle.metres.proofs.ShownLaws.{value_finite}

-- ---- the size by a value

-- the size of a double that is a / c without sign
pub size_at : (x : Float) (s : Bool) (a c : ℕ) → 0 < c → HasValue x s a c → ticks_in x ≡ closest (a * 4096) c
unfolding ticks_in
size_at nan s a c C h = absurd h
size_at (inf t) s a c C h = absurd h
size_at (fin t m e) s a c C h =
    closest_same (m * up e * 4096) (down e) (a * 4096) c (down_pos e) C
    (mul_right_comm (m * up e) 4096 c ∙ ap (λ (x : ℕ). x * 4096) h.1 ∙ mul_right_comm a (down e) 4096)

-- and its tick
pub tick_at : (x : Float) (s : Bool) (a c : ℕ) → HasValue x s a c → tick_of x ≡ signed_by s (ticks_in x)
unfolding tick_of
tick_at nan s a c h = absurd h
tick_at (inf t) s a c h = absurd h
tick_at (fin t m e) s a c h = ap (λ u. signed_by u (ticks_in (fin t m e))) h.0

-- a double that is a whole number of ticks
pub tick_whole : (x : Float) (t : ℤ) → Shows x t → tick_of x ≡ t
tick_whole x t v = tick_at x (negative t) (nat_abs t) 4096 v ∙ ap (signed_by (negative t)) (size_at x (negative t) (nat_abs t) 4096 (zero-lt-suc 4095) v ∙ whole (nat_abs t)) ∙ signed_back t
  where
    one : (n : ℕ) → closest n 1 ≡ n
    one n = ap (λ (q : ℕ). nearest q (compare (n % 1 * 2) 1)) (div-one n) ∙ ap (λ (r : ℕ). nearest n (compare (r * 2) 1)) (mod-one n)

    whole : (n : ℕ) → closest (n * 4096) 4096 ≡ n
    whole n = closest_same (n * 4096) 4096 n 1 (zero-lt-suc 4095) (zero-lt-suc 0) (mul-one (n * 4096)) ∙ one n

    signed_back : (t : ℤ) → signed_by (negative t) (nat_abs t) ≡ t
    signed_back (pos n) = refl
    signed_back (negsuc n) = refl

-- a number is taken by its tick
abbrev pub passes : ℤ → ℤ → Bool
passes most t = in_range (between (neg_ℤ (pos most_level)) most) t

pub taken_finite : (most : ℤ) (x : Float) → T (finite x) → is_taken most x ≡ passes most (tick_of x)
unfolding is_taken
taken_finite most nan h = absurd h
taken_finite most (inf t) h = absurd h
taken_finite most (fin t m e) h = refl

-- ---- the size of q · 2^j units of 2^-1,074

value_of : (s : Bool) (q j : ℕ) → HasValue (odd 53 s q j 1074) s (q * 2 ^ j) (2 ^ 1074)
value_of s q j = odd_sign 53 s q j 1074

odd_finite : (s : Bool) (q j : ℕ) → T (finite (odd 53 s q j 1074))
odd_finite s q j = value_finite (odd 53 s q j 1074) s (q * 2 ^ j) (2 ^ 1074) (value_of s q j)

tiny : (s : Bool) (q j : ℕ) → q < 2 ^ 53 → j ≤ 1008 → ticks_in (odd 53 s q j 1074) ≡ 0
tiny s q j Q J =
    let room : 53 + j + 12 + 1 ≤ 1074 = omega arith in
    let half : q * 2 ^ j * 4096 * 2 < 2 ^ 1074 = lt_of_lt_of_le (shl_lt (53 + j + 12) 1 (shl_lt (53 + j) 12 (shl_lt 53 j Q))) (pow_mono room) in
    size_at (odd 53 s q j 1074) s (q * 2 ^ j) (2 ^ 1074) (pow_pos 1074) (value_of s q j) ∙ few (q * 2 ^ j * 4096) (2 ^ 1074) (pow_pos 1074) half
  where
    none_left : (k : ℕ) → k ≤ 0 → k ≡ 0
    none_left k l = omega arith

    few : (a b : ℕ) → 0 < b → a * 2 < b → closest a b ≡ 0
    few a b B h = none_left (closest a b) (closest_mono a b 1 2 B (zero-lt-suc 1) (le_trans (le_of_lt h) (le_of_eq (sym (one-mul b)))))

middle : (s : Bool) (q j : ℕ) → j ≤ 1062 → ticks_in (odd 53 s q j 1074) ≡ closest q (2 ^ (1062 - j))
middle s q j J =
    size_at (odd 53 s q j 1074) s (q * 2 ^ j) (2 ^ 1074) (pow_pos 1074) (value_of s q j)
    ∙ closest_same (q * 2 ^ j * 4096) (2 ^ 1074) q (2 ^ i) (pow_pos 1074) (pow_pos i)
    (ap (λ (x : ℕ). x * 2 ^ i) (mul_assoc q (2 ^ j) (2 ^ 12) ∙ ap (λ (x : ℕ). q * x) (sym (pow-add 2 j 12)))
    ∙ mul_assoc q (2 ^ (j + 12)) (2 ^ i)
    ∙ ap (λ (x : ℕ). q * x) (sym (pow-add 2 (j + 12) i) ∙ ap (λ (x : ℕ). 2 ^ x) fit))
  where
    i : ℕ
    i = 1062 - j

    fit : j + 12 + (1062 - j) ≡ 1074
    fit = omega arith

huge : (s : Bool) (q j : ℕ) → 2 ^ 52 ≤ q → 1033 ≤ j → 8388608 ≤ ticks_in (odd 53 s q j 1074)
huge s q j Q J =
    let room : 23 + 1074 ≤ 52 + j + 12 = omega arith in
    let most : 8388608 * 2 ^ 1074 ≤ q * 2 ^ j * 4096 =
    le_trans (le_of_eq (sym (pow-add 2 23 1074)))
    (le_trans (pow_mono room)
    (le_trans (le_of_eq (pow-add 2 (52 + j) 12 ∙ ap (λ (x : ℕ). x * 4096) (pow-add 2 52 j))) (mul-le-mul_right 4096 (mul-le-mul_right (2 ^ j) Q)))) in
    le_trans (closest_mono 8388608 1 (q * 2 ^ j * 4096) (2 ^ 1074) (zero-lt-suc 0) (pow_pos 1074) (le_trans most (le_of_eq (sym (mul-one (q * 2 ^ j * 4096))))))
    (le_of_eq (sym (size_at (odd 53 s q j 1074) s (q * 2 ^ j) (2 ^ 1074) (pow_pos 1074) (value_of s q j))))

-- ---- by the fields

with_lead : {t : ℕ} → t < 2 ^ 52 → 2 ^ 52 + t < 2 ^ 53
with_lead h = omega arith

not_same : {a b : ℕ} → a < b → a ≡ b → ⊥
not_same h k = omega arith

-- a field that is not all ones
plain : (s : Bool) (j t : ℕ) → suc j < 2047 → of_fields binary64 s (suc j) t ≡ odd 53 s (2 ^ 52 + t) j 1074
unfolding of_fields
plain s j t h = ap (λ (b : Bool). cond b (cond (eqb t 0) (inf s) nan) (odd 53 s (2 ^ 52 + t) j 1074)) (ne_eqb (suc j) 2047 (not_same h))

-- the double of such a field is a number, and its tick has its sign
tick_plain : (s : Bool) (x t : ℕ) → x < 2047 → tick_of (of_fields binary64 s x t) ≡ signed_by s (ticks_in (of_fields binary64 s x t))
unfolding of_fields
tick_plain s zero t h = tick_at (odd 53 s t 0 1074) s (t * 2 ^ 0) (2 ^ 1074) (value_of s t 0)
tick_plain s (suc j) t h = subst (λ y. tick_of y ≡ signed_by s (ticks_in y)) (sym (plain s j t h)) (tick_at (odd 53 s (2 ^ 52 + t) j 1074) s ((2 ^ 52 + t) * 2 ^ j) (2 ^ 1074) (value_of s (2 ^ 52 + t) j))

finite_plain : (s : Bool) (x t : ℕ) → x < 2047 → T (finite (of_fields binary64 s x t))
unfolding of_fields
finite_plain s zero t h = odd_finite s t 0
finite_plain s (suc j) t h = subst (λ y. T (finite y)) (sym (plain s j t h)) (odd_finite s (2 ^ 52 + t) j)

near_none : (s : Bool) (x t : ℕ) → t < 2 ^ 52 → x ≤ near → ticks_in (of_fields binary64 s x t) ≡ 0
unfolding of_fields
near_none s zero t l h = tiny s t 0 (omega (arith, l)) (lit≤ tt)
near_none s (suc j) t l h = ap ticks_in (plain s j t (omega (arith, h))) ∙ tiny s (2 ^ 52 + t) j (with_lead l) (omega (arith, h))

between_them : (s : Bool) (x t : ℕ) → near < x → x < far → ticks_in (of_fields binary64 s x t) ≡ closest (2 ^ 52 + t) (2 ^ (1063 - x))
between_them s zero t l h = absurd (omega (arith, l))
between_them s (suc j) t l h =
    ap ticks_in (plain s j t (omega (arith, h))) ∙ middle s (2 ^ 52 + t) j (omega (arith, h)) ∙ ap (λ (i : ℕ). closest (2 ^ 52 + t) (2 ^ i)) shift
  where
    shift : 1062 - j ≡ 1063 - suc j
    shift = omega arith

-- a size that is out of range
beyond : (most : ℤ) → most ≤ℤ pos most_level → (s : Bool) (n : ℕ) → most_level < n → passes most (signed_by s n) ≡ false
beyond most m true zero h = absurd (omega (arith, h))
beyond most m true (suc n) h = out_ranged (between (neg_ℤ (pos most_level)) most) (negsuc n) (inl (lt_z_yes (lt→ltb 4194303 n (omega (arith, h)))))
beyond most m false n h = out_ranged (between (neg_ℤ (pos most_level)) most) (pos n) (inr (⊎_elim (λ l. clash_ℤ (lt_z_yes (lt→ltb most_level n h)) (≤ℤ_trans l m)) (λ l. l) (≤ℤ_or-< (pos n) most)))

far_refused : (most : ℤ) → most ≤ℤ pos most_level → (s : Bool) (x t : ℕ) → far ≤ x → is_taken most (of_fields binary64 s x t) ≡ false
unfolding of_fields is_taken
far_refused most m s zero t h = absurd (omega (arith, h))
far_refused most m s (suc j) t h = go (eqb (suc j) 2047) (eqb t 0)
  where
    double : Float
    double = odd 53 s (2 ^ 52 + t) j 1074

    out : is_taken most double ≡ false
    out =
        taken_finite most double (odd_finite s (2 ^ 52 + t) j)
        ∙ ap (passes most) (tick_at double s ((2 ^ 52 + t) * 2 ^ j) (2 ^ 1074) (value_of s (2 ^ 52 + t) j))
        ∙ beyond most m s (ticks_in double) (omega (arith, huge s (2 ^ 52 + t) j (le-add_right (2 ^ 52) t) (omega (arith, h))))

    go : (a b : Bool) → is_taken most (cond a (cond b (inf s) nan) double) ≡ false
    go true true = refl
    go true false = refl
    go false b = out

-- ---- by the bits

pub digits_below : (b : ℕ) → digits_of b < 2 ^ 53
digits_below b = with_lead (mod-lt b (pow_pos 52))

-- 1 shifted up by as many places as a field between the two asks for
module _ (x : ℕ) (l : near < x) where
  places : 1063 - x ≤ 53
  places = omega (arith, l)

  pub unit_is : 1 * 2 ^ (1063 - x) % 2 ^ 64 ≡ 2 ^ (1063 - x)
  unit_is =
      let room : 53 < 64 = lit≤ tt in
      ap (λ (k : ℕ). k % 2 ^ 64) (one-mul (2 ^ (1063 - x))) ∙ mod-eq_of_lt (lt_of_le_of_lt (pow_mono places) (pow-lt room))

  pub unit_most : 1 * 2 ^ (1063 - x) % 2 ^ 64 ≤ 2 ^ 53
  unit_most = subst (λ (k : ℕ). k ≤ 2 ^ 53) (sym unit_is) (pow_mono places)

module _ (b : ℕ) where
  fields_are : of_bits binary64 b ≡ of_fields binary64 (leb (2 ^ 63) b) (field_of b) (b % 2 ^ 52)
  unfolding of_bits
  fields_are = ap (λ (x : ℕ). of_fields binary64 (leb (2 ^ 63) b) x (b % 2 ^ 52)) (field b 11 52)

  pub size_near : field_of b ≤ near → 0 ≡ ticks_in (of_bits binary64 b)
  size_near h = sym (ap ticks_in fields_are ∙ near_none (leb (2 ^ 63) b) (field_of b) (b % 2 ^ 52) (mod-lt b (pow_pos 52)) h)

  pub size_between : near < field_of b → field_of b < far → closest (digits_of b) (2 ^ (1063 - field_of b)) ≡ ticks_in (of_bits binary64 b)
  size_between l h = sym (ap ticks_in fields_are ∙ between_them (leb (2 ^ 63) b) (field_of b) (b % 2 ^ 52) l h)

  pub size_told : near < field_of b → field_of b < far → closest (digits_of b) (1 * 2 ^ (1063 - field_of b) % 2 ^ 64) ≡ ticks_in (of_bits binary64 b)
  size_told l h = ap (closest (digits_of b)) (unit_is (field_of b) l) ∙ size_between l h

  pub taken_far : (most : ℤ) → most ≤ℤ pos most_level → far ≤ field_of b → is_taken most (of_bits binary64 b) ≡ false
  taken_far most m h = ap (is_taken most) fields_are ∙ far_refused most m (leb (2 ^ 63) b) (field_of b) (b % 2 ^ 52) h

  module _ (h : field_of b < far) where
    pub tick_signed : tick_of (of_bits binary64 b) ≡ signed_by (leb (2 ^ 63) b) (ticks_in (of_bits binary64 b))
    tick_signed = subst (λ y. tick_of y ≡ signed_by (leb (2 ^ 63) b) (ticks_in y)) (sym fields_are) (tick_plain (leb (2 ^ 63) b) (field_of b) (b % 2 ^ 52) (omega (arith, h)))

    pub taken_by_tick : (most : ℤ) → is_taken most (of_bits binary64 b) ≡ passes most (tick_of (of_bits binary64 b))
    taken_by_tick most = taken_finite most (of_bits binary64 b) (subst (λ y. T (finite y)) (sym fields_are) (finite_plain (leb (2 ^ 63) b) (field_of b) (b % 2 ^ 52) (omega (arith, h))))

    -- at most 8,388,608 ticks
    pub size_most : ticks_in (of_bits binary64 b) ≤ 8388608
    size_most = go (leb (field_of b) near) (leb→le (field_of b) near) (nleb→lt (field_of b) near)
      where
        few : closest (digits_of b) (2 ^ (1063 - field_of b)) ≤ 8388608
        few =
            closest_mono (digits_of b) (2 ^ (1063 - field_of b)) 8388608 1 (pow_pos (1063 - field_of b)) (zero-lt-suc 0)
            (le_trans (le_of_eq (mul-one (digits_of b))) (le_trans (le_of_lt (digits_below b)) (le_trans (pow_mono room) (le_of_eq (pow-add 2 23 (1063 - field_of b))))))
          where
            room : 53 ≤ 23 + (1063 - field_of b)
            room = omega (arith, h)

        go : (t : Bool) → (T t → field_of b ≤ near) → (T (not t) → near < field_of b) → ticks_in (of_bits binary64 b) ≤ 8388608
        go true low high = le_trans (le_of_eq (sym (size_near (low tt)))) (lit≤ tt)
        go false low high = le_trans (le_of_eq (sym (size_between (high tt) h))) few

    pub tick_below : 2 ^ 63 ≤ b → tick_of (of_bits binary64 b) ≡ neg_ℤ (pos (ticks_in (of_bits binary64 b)))
    tick_below l = tick_signed ∙ ap (λ s. signed_by s (ticks_in (of_bits binary64 b))) (le-leb (2 ^ 63) b l)

    pub tick_above : b < 2 ^ 63 → tick_of (of_bits binary64 b) ≡ pos (ticks_in (of_bits binary64 b))
    tick_above l = tick_signed ∙ ap (λ s. signed_by s (ticks_in (of_bits binary64 b))) (lt-leb (2 ^ 63) b l)
