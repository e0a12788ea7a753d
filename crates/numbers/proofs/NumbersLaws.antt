-- Laws of `number_from`: its cases, however many bytes may still be read, its weights, and the bounds of what is read. Assumes nothing.
use mathlib.Core.List.{List}
use mathlib.Core.Path.{◌∙◌, ◌≡◌, ap, refl, sym}
use Prim.Native.Nat.{◌%◌, ◌*◌, ◌+◌, ◌-◌, ◌<◌, ◌^◌, ◌≤◌, suc, zero, ℕ}
use native.Mathlib.Decide.{dec_lt}
use native.Mathlib.Nat.{le-mul_of_pos_right, lt_of_lt_of_le, mul_assoc, mul_comm, mul-le-mul_right, zero-add}
use native.Mathlib.Omega.{arith}
use lib.IntN.{◌-ℤ◌, negsuc, pos}
use lib.ListN.{get_or, length}
use lib.Pow.{pow-add, pow_mono, pow_pos}
use borrow.Author.Tests.{le-leb, le-ltb, lt-leb, lt-ltb}
use Rattle.numbers.specs.Numbers.{Ended, TooLong, Value, number_at, number_from}

module _ (s : List ℕ) (at least w v : ℕ) where
  pub spent : (left : ℕ) → left ≤ 0 → number_from left least w v s at ≡ TooLong
  unfolding number_from
  spent zero h = refl
  spent (suc left) h = absurd (omega arith)

  pub ended : (left : ℕ) → 0 < left → length s ≤ at → number_from left least w v s at ≡ Ended
  unfolding number_from
  ended zero h e = absurd (omega arith)
  ended (suc left) h e = simp (le-leb (length s) at e)

  pub long : (left : ℕ) → 0 < left → at < length s → get_or s at 0 < 128 → get_or s at 0 < least → number_from left least w v s at ≡ TooLong
  unfolding number_from
  long zero h e b l = absurd (omega arith)
  long (suc left) h e b l = simp (lt-leb (length s) at e, lt-leb 128 (get_or s at 0) b, lt-ltb (get_or s at 0) least l)

  pub value : (left : ℕ) → 0 < left → at < length s → get_or s at 0 < 128 → least ≤ get_or s at 0 →
      number_from left least w v s at ≡ Value (v + get_or s at 0 % 128 * w) (at + 1)
  unfolding number_from
  value zero h e b l = absurd (omega arith)
  value (suc left) h e b l = simp (lt-leb (length s) at e, lt-leb 128 (get_or s at 0) b, le-ltb (get_or s at 0) least l)

  pub more : (left : ℕ) → 0 < left → at < length s → 128 ≤ get_or s at 0 →
      number_from left least w v s at ≡ number_from (left - 1) 1 (w * 128) (v + get_or s at 0 % 128 * w) s (at + 1)
  unfolding number_from
  more zero h e b = absurd (omega arith)
  more (suc left) h e b =
      let p : suc left - 1 ≡ left = omega arith in
      rw p (simp (lt-leb (length s) at e, le-leb 128 (get_or s at 0) b))

-- one group more stays below the next weight
pub group : (v d w : ℕ) → d < 128 → v < w → v + d * w < w * 128
group v d w h k = omega (arith, mul-le-mul_right {m = d} {n = 127} w (omega arith))

-- a group of the first five keeps its worth in 64 bits
pub worth : (d k : ℕ) → d < 128 → k < 5 → d * 2 ^ (7 * k) % 2 ^ 64 ≡ d * 2 ^ (7 * k)
worth d k h l = omega (arith, mul-le-mul_right {m = d} {n = 127} (2 ^ (7 * k)) (omega arith), pow_mono {i = 7 * k} {j = 28} (omega arith))

pub pow_seven : (left : ℕ) → 2 ^ (7 * suc left) ≡ 2 ^ (7 * left) * 128
pow_seven left = let e : 7 * suc left ≡ 7 * left + 7 = omega arith in rw e (pow-add 2 (7 * left) 7)

-- Whatever the bytes: a number that was read is bounded, and its end lies past its start and within the file.
pub record Bounded (top x next at : ℕ) (s : List ℕ) : Type 0 where
  pub below : x < top
  pub onward : at < next
  pub inside : next ≤ length s

pub bounded : (left least w v x next at : ℕ) (s : List ℕ) → v < w → number_from left least w v s at ≡ Value x next → Bounded (w * 2 ^ (7 * left)) x next at s
bounded zero least w v x next at s h e = let z : ◌≡◌ {A = ℕ} 0 1 = cc (spent s at least w v 0 (omega arith)) in absurd (omega arith)
bounded (suc left) least w v x next at s h e = go (dec_lt at (length s)) (dec_lt b 128) (bounded left 1 (w * 128) (v + b % 128 * w) x next (at + 1) s in_group)
  where
    b : ℕ
    b = get_or s at 0

    in_group : v + b % 128 * w < w * 128
    in_group = group v (b % 128) w (omega arith) h

    top : w * 2 ^ (7 * suc left) ≡ w * 128 * 2 ^ (7 * left)
    top = rw (pow_seven left, mul_comm (2 ^ (7 * left)) 128) (sym (mul_assoc w 128 (2 ^ (7 * left))))

    short : at < length s → b < 128 → Dec (b < least) → Bounded (w * 2 ^ (7 * suc left)) x next at s
    short i f (yes l) = let m = long s at least w v (suc left) (omega arith) i f l in let z : ◌≡◌ {A = ℕ} 0 1 = cc in absurd (omega arith)
    short i f (no l) =
        let m = value s at least w v (suc left) (omega arith) i f (omega arith) in
        let xe : x ≡ v + b % 128 * w = cc in
        let ne : next ≡ at + 1 = cc in
        rw top (record { below = rw xe (lt_of_lt_of_le in_group (le-mul_of_pos_right (w * 128) (pow_pos (7 * left)))); onward = omega arith; inside = omega arith })

    go : Dec (at < length s) → Dec (b < 128) → (number_from left 1 (w * 128) (v + b % 128 * w) s (at + 1) ≡ Value x next → Bounded (w * 128 * 2 ^ (7 * left)) x next (at + 1) s) → Bounded (w * 2 ^ (7 * suc left)) x next at s
    go (no i) f r = let z : ◌≡◌ {A = ℕ} 0 1 = cc (ended s at least w v (suc left) (omega arith) (omega arith)) in absurd (omega arith)
    go (yes i) (yes f) r = short i f (dec_lt b least)
    go (yes i) (no f) r =
        let q : suc left - 1 ≡ left = omega arith in
        let m = rw q at (more s at least w v (suc left) (omega arith) i (omega arith)) in
        let k = r (sym m ∙ e) in
        record { below = rw top k.below; onward = omega (arith, k.onward); inside = k.inside }

pub number_bounded : (s : List ℕ) (at x next : ℕ) → number_at s at ≡ Value x next → Bounded (2 ^ 35) x next at s
number_bounded s at x next e = bounded 5 0 1 0 x next at s (omega arith) e

-- -1 - m
pub less_one : (m : ℕ) → negsuc 0 -ℤ pos m ≡ negsuc m
less_one zero = refl
less_one (suc m) = ap (λ (k : ℕ). negsuc (suc k)) (zero-add m)
