-- Recharge, rivers and seas (document 01, "Leakage, river and sea"), in litres a day.
use Rattle.std.specs.Prelude.{Bool, ◌&&◌, cond, not, ℕ, eqb, ◌-ℤ◌, pos, ℤ}
use Rattle.std.specs.Int.Signed.{lt_z}
use Rattle.whole.specs.Sum.{only}
use Rattle.grid.specs.declared.Grid.{Grid}
use Rattle.slots.specs.declared.Block.{Block}
use Rattle.slots.specs.Rules.{is_open, is_sea}
use Rattle.block.specs.declared.Fluids.{Fluids}
use Rattle.block.specs.Density.{sea_head_of}
use Rattle.block.specs.Fluids.{fresh, new_heads, salt}
use Rattle.block.specs.Geometry.{aquifer_top_of, has_water_table}
use Rattle.flow.specs.Leakage.{fresh_head_of, uppermost_of}
use Rattle.flow.specs.Litres.{litres_of, over_area_of}

-- "In the top layer with flag 1 and Φf below the aquifer top"
unfoldable pub below_top : Grid → Block → Bool → Bool
below_top g b top = has_water_table g top && lt_z b.new_fresh (aquifer_top_of b)

-- "recharge enters as fresh water, floor(rate·area/1,000)". "Otherwise there is no recharge".
unfoldable pub recharge_of : Grid → Block → Bool → ℤ → ℕ → ℤ
recharge_of g b top area fluid = only (eqb fluid fresh && below_top g b top) (over_area_of b.recharge area)

-- "The boundary head is the stage; for a sea it is the depth (minus the sea floor's level) divided by δ, with floor."
unfoldable pub boundary_head_of : Grid → Block → ℤ
boundary_head_of g b = cond (is_sea b) (sea_head_of g b.level) b.level

-- "by the same C and flow rule, difference = boundary head less Φf, or less the fresh equivalent at the aquifer top", where `upper` is the
-- block's upper fluid
unfoldable pub exchange_of : Grid → Block → ℤ → ℕ → ℤ
exchange_of g b area upper = litres_of (over_area_of b.boundary_leakance area) (boundary_head_of g b -ℤ fresh_head_of g (new_heads b) upper (aquifer_top_of b))

-- The fluid that an exchange of so many litres counts in. Document 01: "a river or sea exchanges the block's upper fluid (fresh if Bf > 0, else salt)". W-201
-- of document 02: "From now on inflow through a sea boundary always enters the block's salt balance and the salt row's boundary line; outflow stays the
-- uppermost fluid. Rivers do not change."
unfoldable pub exchanged_as : Block → ℕ → ℤ → ℕ
exchanged_as b upper flow = cond (is_sea b && lt_z (pos 0) flow) salt upper

-- what of an exchange counts for the block in a fluid
unfoldable pub gain_of : Block → ℕ → ℕ → ℤ → ℤ
gain_of b upper fluid flow = only (eqb (exchanged_as b upper flow) fluid) flow

-- what a block gains in a fluid by its river or sea; with Φf below the aquifer top "rivers and seas exchange nothing"
unfoldable pub boundary_of : Grid → Block → Bool → ℤ → Fluids → ℕ → ℤ
boundary_of g b top area t fluid =
    only (is_open b && not (below_top g b top))
    (gain_of b (uppermost_of t) fluid (exchange_of g b area (uppermost_of t)))
