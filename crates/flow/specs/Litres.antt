-- From conductance and head difference to litres a day (document 01, "A lateral face", "Leakage, river and sea"). A conductance is in litres a day
-- for each metre of head difference, and a difference is in ticks.
use Rattle.std.specs.Prelude.{cond, ℕ, ◌*ℤ◌, pos, ℤ}
use Rattle.std.specs.Int.Signed.{lt_z}
use Rattle.whole.specs.Sum.{only}
use Rattle.whole.specs.Whole.{floor_of, rounded_of}
use Rattle.block.specs.Units.{ticks}

-- 10: "a conductance of either fluid exceeds 268,435,456"
abbrev pub most_conductance : ℕ
most_conductance = 268435456

-- Document 01: "Flow = cut(C·(difference of that fluid's heads)/4,096) litres/day." W-206 of document 02: "Lateral, leakage and boundary flows shall be
-- rounded to the nearest litre, halves away from zero, so opposite differences still give opposite flows."
unfoldable pub litres_of : ℤ → ℤ → ℤ
litres_of conductance difference = rounded_of (conductance *ℤ difference) (pos ticks)

-- A flow is positive from the low to the high side: it leaves the low side where it is above 0, and else the high one. It counts where what flows has some
-- thickness there. At a face that is the fluid's: "No flow leaves the block without the fluid." In leakage it is both fluids' together: "None leaves a block
-- with both thicknesses 0."
unfoldable pub leaving_of : ℤ → ℤ → ℤ → ℤ
leaving_of low high flow = only (lt_z (pos 0) (cond (lt_z (pos 0) flow) low high)) flow

-- "C = floor(leakance·area/1,000)", "recharge enters as fresh water, floor(rate·area/1,000)"
unfoldable pub over_area_of : ℤ → ℤ → ℤ
over_area_of rate area = floor_of (rate *ℤ area) (pos 1000)
