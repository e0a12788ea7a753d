-- What callers cite of recharge, rivers and seas: bounds. Assumes nothing.
use mathlib.Core.Bool.{Bool, ◌&&◌, cond, false, not, true}
use Prim.Native.Nat.{ℕ}
use lib.Dec.{eqb}
use lib.IntN.{◌-ℤ◌, pos, ℤ}
use lib.Signed.{◌≤ℤ◌}
use Rattle.whole.specs.Sum.{only}
use Rattle.whole.specs.Inner.{Abs, In}
use Rattle.whole.proofs.RangeLaws.{leaf, ranges, within}
use Rattle.whole.proofs.SumLaws.{only_abs}
use Rattle.grid.specs.declared.Grid.{Grid}
use Rattle.grid.specs.Inner.{Termed}
use Rattle.slots.specs.declared.Block.{Block}
use Rattle.slots.specs.Rules.{is_open, is_sea}
use Rattle.slots.specs.Inner.{Ends}
use Rattle.slots.specs.Units.{most_level}
use Rattle.block.specs.declared.Fluids.{Fluids}
use Rattle.block.specs.Density.{sea_head_of}
use Rattle.block.specs.Fluids.{fresh, new_heads}
use Rattle.block.specs.Geometry.{aquifer_top_of}
use Rattle.block.specs.Inner.{most_area}
use Rattle.block.proofs.BlockLaws.{aquifer_top_in}
use Rattle.block.proofs.DensityLaws.{sea_head_in}
use Rattle.block.proofs.FluidLaws.{new_heads_in}
use Rattle.flow.specs.Boundary.{below_top, boundary_head_of, boundary_of, exchange_of, exchanged_as, gain_of, recharge_of}
use Rattle.flow.specs.Leakage.{fresh_head_of, uppermost_of}
use Rattle.flow.specs.Litres.{most_conductance, over_area_of}
use Rattle.flow.specs.Inner.{most_difference, most_flow, most_over_area}
use Rattle.flow.proofs.LeakageLaws.{fresh_head_in}
use Rattle.flow.proofs.LitresLaws.{litres_in, over_area_in}

pub recharge_in : (g : Grid) (b : Block) (top : Bool) (area : ℤ) (fluid : ℕ) → Ends b → In (pos 0) (pos most_area) area → In (pos 0) (pos most_over_area) (recharge_of g b top area fluid)
unfolding recharge_of
recharge_in g b top area fluid e a = go (eqb fluid fresh && below_top g b top)
  where
    go : (t : Bool) → In (pos 0) (pos most_over_area) (only t (over_area_of b.recharge area))
    go true = over_area_in b.recharge area e.recharge a
    go false = within (search ranges depth 20) tt tt

pub boundary_head_in : (g : Grid) (b : Block) → Termed g → Ends b → Abs most_level (boundary_head_of g b)
unfolding boundary_head_of
boundary_head_in g b t e = go (is_sea b)
  where
    go : (r : Bool) → Abs most_level (cond r (sea_head_of g b.level) b.level)
    go true = sea_head_in g b.level t e.level
    go false = e.level

-- the head difference at a boundary
pub apart_in : (g : Grid) (b : Block) (upper : ℕ) → Termed g → Ends b → Abs most_difference (boundary_head_of g b -ℤ fresh_head_of g (new_heads b) upper (aquifer_top_of b))
apart_in g b upper t e = within (search (ranges, leaf (boundary_head_in g b t e), leaf (fresh_head_in g (new_heads b) upper (aquifer_top_of b) t (new_heads_in b e) (aquifer_top_in b e))) depth 20) tt tt

pub exchange_in : (g : Grid) (b : Block) (area : ℤ) (upper : ℕ) → Termed g → Ends b → In (pos 0) (pos most_area) area → over_area_of b.boundary_leakance area ≤ℤ pos most_conductance → Abs most_flow (exchange_of g b area upper)
unfolding exchange_of
exchange_in g b area upper t e a m =
    litres_in (over_area_of b.boundary_leakance area) (boundary_head_of g b -ℤ fresh_head_of g (new_heads b) upper (aquifer_top_of b))
    (record { low = (over_area_in b.boundary_leakance area e.boundary_leakance a).low; high = m })
    (apart_in g b upper t e)

pub gain_in : (b : Block) (upper fluid : ℕ) (flow : ℤ) {m : ℕ} → Abs m flow → Abs m (gain_of b upper fluid flow)
unfolding gain_of
gain_in b upper fluid flow h = only_abs (eqb (exchanged_as b upper flow) fluid) h

pub boundary_in : (g : Grid) (b : Block) (top : Bool) (area : ℤ) (t : Fluids) (fluid : ℕ) → Termed g → Ends b → In (pos 0) (pos most_area) area → over_area_of b.boundary_leakance area ≤ℤ pos most_conductance → Abs most_flow (boundary_of g b top area t fluid)
unfolding boundary_of
boundary_in g b top area t fluid k e a m =
    let upper = uppermost_of t in
    only_abs (is_open b && not (below_top g b top)) (gain_in b upper fluid (exchange_of g b area upper) (exchange_in g b area upper k e a m))
