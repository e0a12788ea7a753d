-- The tick of a double is the nearest, and at a tie the even one. Assumes nothing.
use mathlib.Core.Bool.{Bool, false, true}
use mathlib.Core.Path.{◌≡◌, refl}
use Prim.Native.Nat.{◌%◌, ◌*◌, ◌≤◌, ℕ}
use lib.Ieee.{down, fin, up}
use lib.Ieee.Fits.{down_pos}
use lib.Ieee.Nearest.{closest}
use lib.IntN.{◌*ℤ◌, ◌-ℤ◌, nat_abs, pos, ℤ}
use Rattle.whole.proofs.ClosestLaws.{IsHalf, as_near, away_neg, closest_half, no_nearer}
use Rattle.whole.proofs.Parts.{size_neg}
use Rattle.block.specs.Units.{ticks}
use Rattle.metres.specs.Meaning.{distance_of}
use Rattle.metres.specs.Metres.{signed_by, tick_of, ticks_in}

-- ---- distances in ℤ
size_signed : (s : Bool) (n : ℕ) → nat_abs (signed_by s n) ≡ n
size_signed true n = size_neg (pos n)
size_signed false n = refl

-- a distance is the same on both sides of zero
both_sides : (s : Bool) (q a b : ℕ) → nat_abs (signed_by s q *ℤ pos b -ℤ signed_by s a) ≡ nat_abs (pos (q * b) -ℤ pos a)
both_sides true q a b = away_neg b (pos a) (pos q)
both_sides false q a b = refl

-- ---- the tick
tick_half : (s : Bool) (m : ℕ) (e : ℤ) → IsHalf (distance_of (fin s m e) (tick_of (fin s m e))) (down e) (nat_abs (tick_of (fin s m e)))
unfolding tick_of ticks_in
tick_half s m e =
    let a = m * up e * ticks in
    rw (both_sides s (closest a (down e)) a (down e), size_signed s (closest a (down e))) (closest_half a (down e) (down_pos e))

-- no other tick is nearer
pub nearest_tick : (s : Bool) (m : ℕ) (e k : ℤ) → distance_of (fin s m e) (tick_of (fin s m e)) ≤ distance_of (fin s m e) k
nearest_tick s m e k = no_nearer (down e) (signed_by s (m * up e * ticks)) (tick_of (fin s m e)) k (tick_half s m e).0

-- and where another is as near, it is the even one
pub tie_even : (s : Bool) (m : ℕ) (e k : ℤ) → (k ≡ tick_of (fin s m e) → ⊥) → distance_of (fin s m e) (tick_of (fin s m e)) ≡ distance_of (fin s m e) k → nat_abs (tick_of (fin s m e)) % 2 ≡ 0
tie_even s m e k d h = (tick_half s m e).1 (as_near (down e) (signed_by s (m * up e * ticks)) (tick_of (fin s m e)) k d (tick_half s m e).0 h)
