-- What the theorems about metres speak of.
use Rattle.std.specs.Prelude.{Bool, false, not, true, ◌⊎◌, ◌*◌, ℕ, T, Float, ◌*ℤ◌, ◌-ℤ◌, nat_abs, negsuc, neg_ℤ, pos, ℤ, ◌<ℤ◌}
use Rattle.std.specs.Float.Ieee.{down, up}
use Rattle.std.specs.Float.{fin, inf, nan}
use Rattle.std.specs.Float.Ieee.Exact.{HasValue}
use Rattle.std.specs.Float.Ieee.Scale.{finite}
use Rattle.slots.specs.Units.{most_level}
use Rattle.block.specs.Units.{ticks}
use Rattle.metres.specs.declared.boundary.Boundary.{Boundary}
use Rattle.metres.specs.declared.boundary.Boundary.TheVariants.{BothFixed, FixedFresh, FixedSalt, None, River, Sea}
use Rattle.metres.specs.Metres.{signed_by, tick_of}

-- a tick is below 0
abbrev pub negative : ℤ → Bool
negative (pos n) = false
negative (negsuc n) = true

-- "as an exact double": a double has the sign of a tick, and its value times 4,096 is the tick
abbrev pub Shows : Float → ℤ → Type 0
Shows x t = HasValue x (negative t) (nat_abs t) ticks

-- "A double becomes the nearest tick": how far a tick k lies from a double. m · 2^e metres are m · 2^e · 4,096 ticks, and the distance is counted in parts
-- of a tick that make it whole: a tick has `down e` of them.
abbrev pub distance_of : Float → ℤ → ℕ
distance_of nan k = 0
distance_of (inf s) k = 0
distance_of (fin s m e) k = nat_abs (k *ℤ pos (down e) -ℤ signed_by s (m * up e * ticks))

-- 12: "a double is no number, infinite, or its tick outside ±4,194,304, or above 0 for a sea floor": its tick is below -4,194,304, or above `most`, which is
-- 4,194,304, and 0 for a sea floor
abbrev pub Twelve : ℤ → Float → Type 0
Twelve most x = T (not (finite x)) ⊎ ((tick_of x <ℤ neg_ℤ (pos most_level)) ⊎ (most <ℤ tick_of x))

-- 12 of a boundary: of its stage, or of its floor
abbrev pub BoundaryTwelve : Boundary → Type 0
BoundaryTwelve None = ⊥
BoundaryTwelve (River stage) = Twelve (pos most_level) stage
BoundaryTwelve (Sea floor) = Twelve (pos 0) floor
BoundaryTwelve FixedFresh = ⊥
BoundaryTwelve FixedSalt = ⊥
BoundaryTwelve BothFixed = ⊥
