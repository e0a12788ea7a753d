-- A tick as a double: a whole number that a double holds, divided by 4,096.0, is the double of the quotient, and its value is that quotient exactly.
-- Assumes nothing.
use mathlib.Core.Bool.{Bool, false, true}
use mathlib.Core.Path.{◌∙◌, ◌≡◌, ap, refl, sym}
use Prim.Native.Nat.{◌*◌, ◌+◌, ◌<◌, ◌^◌, ◌≤◌, suc, ℕ}
use native.Mathlib.Nat.{le_of_lt, lt_of_lt_of_le, mul_assoc, mul_comm, mul-pos, zero-lt-suc}
use native.Mathlib.Omega.{arith}
use lib.Dec.{T, lit≤}
use lib.Ieee.{Float, binary64, div, down, fin, fits, inf, nan, of_bits, of_int, round, unlike, up}
use lib.Ieee.Back.{round_whole}
use lib.Ieee.Exact.{HasValue, round_exact}
use lib.Ieee.Fits.{down_pos, round-fits}
use lib.Ieee.Scale.{finite, round_same}
use lib.IntN.{nat_abs, negsuc, pos, ℤ}
use lib.Pow.{pow-add, pow_mono, shl_lt}
use Rattle.whole.specs.Inner.{Abs}
use Rattle.whole.proofs.OrderLaws.{in_abs}
use Rattle.metres.specs.Meaning.{Shows}
use Rattle.metres.specs.Metres.{metres_of, most_shown}

-- a tick that is shown has up to 53 digits
below_digits : {t : ℤ} → Abs most_shown t → nat_abs t < 2 ^ 53
below_digits h = omega (arith, in_abs h)

-- ---- exact

-- n / 4,096 is a double, for an n of up to 53 digits
quotient_exact : (s : Bool) (n : ℕ) → n < 2 ^ 53 → HasValue (round binary64 s n 4096) s n 4096
quotient_exact s n h =
    let room : 53 + 1062 ≤ 1074 + 1024 = lit≤ tt in
    round_exact binary64 s n 4096 n 1062 (zero-lt-suc 4095) h (lt_of_lt_of_le (shl_lt 53 1062 h) (pow_mono room))
    (ap (λ (x : ℕ). n * x) (pow-add 2 1062 12) ∙ sym (mul_assoc n (2 ^ 1062) (2 ^ 12)))

-- a tick's metres have the tick's sign, and are in size the tick's over 4,096
pub metres_exact : (t : ℤ) → Abs most_shown t → Shows (metres_of t) t
unfolding metres_of
metres_exact (pos n) h = quotient_exact false n (below_digits h)
metres_exact (negsuc n) h = quotient_exact true (suc n) (below_digits h)

-- what has a value is a number
pub value_finite : (x : Float) (s : Bool) (a c : ℕ) → HasValue x s a c → T (finite x)
value_finite nan s a c v = absurd v
value_finite (inf t) s a c v = absurd v
value_finite (fin t m e) s a c v = tt

-- ---- what the machine divides

-- 4096.0 as the machine has it
unit_is : of_bits binary64 0x40b0_0000_0000_0000 ≡ fin false 1 (pos 12)
unfolding of_bits
unit_is = refl

divided : (x : Float) (s : Bool) (n : ℕ) → HasValue x s n 1 → div binary64 x (fin false 1 (pos 12)) ≡ round binary64 s n 4096
unfolding div
divided nan s n h = absurd h
divided (inf t) s n h = absurd h
divided (fin t m e) s n h =
    ap (λ (u : Bool). round binary64 u (m * up e * 1) (4096 * down e)) (same t)
    ∙ round_same binary64 t (m * up e * 1) (4096 * down e) n 4096 (mul-pos (zero-lt-suc 4095) (down_pos e)) (zero-lt-suc 4095)
    (ap (λ (x : ℕ). x * 4096) h.1 ∙ mul_assoc n (down e) 4096 ∙ ap (λ (x : ℕ). n * x) (mul_comm (down e) 4096))
    ∙ ap (λ (u : Bool). round binary64 u n 4096) h.0
  where
    same : (t : Bool) → unlike t false ≡ t
    same true = refl
    same false = refl

over_unit : (t : ℤ) → Abs most_shown t → div binary64 (of_int binary64 t) (fin false 1 (pos 12)) ≡ metres_of t
unfolding of_int metres_of
over_unit (pos n) h = divided (round binary64 false n 1) false n (round_whole binary64 false n (le_of_lt (below_digits h)))
over_unit (negsuc n) h = divided (round binary64 true (suc n) 1) true (suc n) (round_whole binary64 true (suc n) (le_of_lt (below_digits h)))

-- t as a double, divided by 4096.0, where the machine reads t back as z
pub metres_is : (t z : ℤ) → z ≡ t → Abs most_shown t → div binary64 (of_int binary64 z) (of_bits binary64 0x40b0_0000_0000_0000) ≡ metres_of t
metres_is t z e h = ap (λ (y : ℤ). div binary64 (of_int binary64 y) (of_bits binary64 0x40b0_0000_0000_0000)) e ∙ ap (λ (y : Float). div binary64 (of_int binary64 t) y) unit_is ∙ over_unit t h

-- ---- a tick's metres are a double

pub metres_fit : (t : ℤ) → T (fits binary64 (metres_of t))
unfolding metres_of
metres_fit (pos n) = round-fits binary64 false n 4096
metres_fit (negsuc n) = round-fits binary64 true (suc n) 4096
