-- Metres (document 01): what a tick is shown as, and which tick a double is taken in as. A double is a `Float` of the kit: `nan`, no number; `inf s`, an
-- infinity; or `fin s m e`, the number m · 2^e. Where s is true it is below zero.
use Rattle.std.specs.Prelude.{Bool, cond, false, true, Result, Ok, Err, ◌*◌, suc, ℕ, Float, negsuc, neg_ℤ, pos, ℤ}
use Rattle.std.specs.Float.{binary64, fin, inf, nan}
use Rattle.std.specs.Float.Ieee.{down, round, up}
use Rattle.std.specs.Float.Ieee.Nearest.{closest}
use Rattle.whole.specs.Ranges.{between, in_range}
use Rattle.slots.specs.Units.{most_level}
use Rattle.slices.specs.declared.refusal.Refusal.{Refusal as Refused}
use Rattle.slices.specs.Refusals.{Refusal, refusal_in}
use Rattle.slices.specs.Slices.{none, refusal}
use Rattle.block.specs.Units.{ticks}

-- ---- shown

-- "A tick value is shown in metres as an exact double": the double nearest to tick / 4,096; `shown_exact` says that it is that number.
unfoldable pub metres_of : ℤ → Float
metres_of (pos n) = round binary64 false n ticks
metres_of (negsuc n) = round binary64 true (suc n) ticks

-- 2⁵³ - 1: a double has 53 binary digits
abbrev pub most_shown : ℕ
most_shown = 9007199254740991

-- whether a tick is at most 2⁵³ - 1 without sign
abbrev pub is_shown : ℤ → Bool
is_shown t = in_range (between (neg_ℤ (pos most_shown)) (pos most_shown)) t

-- 0.0, which stands beside a refusal
abbrev pub zero_metres : Float
zero_metres = fin false 0 (pos 0)

-- what a tick is shown as: a refusal, or beside number 0 the tick in metres. The metres beside a refusal are 0.0.
pub record Shown : Type 0 where
  pub refusal : Refusal
  pub metres : Float

-- a refusal, and metres beside it
abbrev pub shown : Refusal → Float → Shown
shown r x = record { refusal = r; metres = x }

-- what is answered, as a refusal and metres
abbrev pub shown_in : Result Float Refused → Shown
shown_in (Ok x) = shown none x
shown_in (Err e) = shown (refusal_in {A = Float} (Err e)) zero_metres

-- a tick in metres; beyond 2⁵³ - 1 without sign not every tick has an exact double, and all are refused with 12
unfoldable pub shown_of : ℤ → Shown
shown_of t = cond (is_shown t) (shown none (metres_of t)) (shown (refusal 12 0) zero_metres)

-- ---- taken in

-- "A double becomes the nearest tick, halves to the even one": how many ticks it has, without sign. m · 2^e metres are m · 2^e · 4,096 ticks, and up e / down e
-- is 2^e; `closest a b` is the whole number nearest to a / b, and of two the even one, which `taken_nearest` and `taken_even` say again.
unfoldable pub ticks_in : Float → ℕ
ticks_in nan = 0
ticks_in (inf s) = 0
ticks_in (fin s m e) = closest (m * up e * ticks) (down e)

-- a number of ticks with the sign of the double
abbrev pub signed_by : Bool → ℕ → ℤ
signed_by true n = neg_ℤ (pos n)
signed_by false n = pos n

-- the tick of a double; 0 stands for that of what is no number or infinite
unfoldable pub tick_of : Float → ℤ
tick_of nan = pos 0
tick_of (inf s) = pos 0
tick_of (fin s m e) = signed_by s (ticks_in (fin s m e))

-- 12: "a double is no number, infinite, or its tick outside ±4,194,304, or above 0 for a sea floor". `most` is the highest tick: 4,194,304, and 0 for a sea
-- floor.
unfoldable pub is_taken : ℤ → Float → Bool
is_taken most nan = false
is_taken most (inf s) = false
is_taken most (fin s m e) = in_range (between (neg_ℤ (pos most_level)) most) (tick_of (fin s m e))

-- what a double is taken in as: a refusal, or beside number 0 its tick. The tick beside a refusal is 0.
pub record Taken : Type 0 where
  pub refusal : Refusal
  pub tick : ℤ

-- a refusal, and a tick beside it
abbrev pub taken : Refusal → ℤ → Taken
taken r t = record { refusal = r; tick = t }

-- what is answered, as a refusal and a tick
abbrev pub taken_in : Result ℤ Refused → Taken
taken_in (Ok t) = taken none t
taken_in (Err e) = taken (refusal_in {A = ℤ} (Err e)) (pos 0)

-- the tick of a double, or refusal 12
unfoldable pub taken_of : ℤ → Float → Taken
taken_of most x = cond (is_taken most x) (taken none (tick_of x)) (taken (refusal 12 0) (pos 0))
