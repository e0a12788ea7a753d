-- A block's own terms in a well-formed case are in range. Assumes nothing.
use mathlib.Core.Bool.{true}
use mathlib.Core.Path.{◌≡◌}
use Prim.Native.Nat.{◌<◌, suc, zero, ℕ}
use lib.IntN.{pos}
use Rattle.whole.specs.Inner.{Abs, In}
use Rattle.whole.proofs.RangeLaws.{ranges, within}
use Rattle.whole.proofs.SearchLaws.{holds}
use Rattle.grid.specs.Place.{blocks_of, top_of}
use Rattle.slots.specs.Inner.{Ends}
use Rattle.slots.specs.Units.{most_kind, most_pumpage, most_thickness}
use Rattle.slices.specs.Slices.{Case}
use Rattle.block.specs.Fluids.{in_fluid}
use Rattle.block.specs.Geometry.{thicknesses_of}
use Rattle.block.specs.Inner.{most_area, most_volume}
use Rattle.block.specs.Wells.{lengths_of, shares_of}
use Rattle.block.proofs.BlockLaws.{shares_in, storage_in, thicknesses_thick}
use Rattle.block.proofs.FluidLaws.{in_fluid_in}
use Rattle.flow.specs.Inner.{most_flow, most_over_area}
use Rattle.flow.proofs.BoundaryLaws.{boundary_in, recharge_in}
use Rattle.wellformed.specs.Inner.{WellFormed}
use Rattle.wellformed.specs.Limits.{block_in}
use Rattle.wellformed.specs.Links.{active_of}
use Rattle.wellformed.specs.Widths.{area_of}
use Rattle.wellformed.proofs.WidthsLaws.{area_in, placed}
use Rattle.books.specs.Inner.{Slotted}
use Rattle.books.specs.Waters.{new_levels, old_levels, waters_of}
use Rattle.books.specs.Own.{fixing_of, own_of, pumped_at, storage_at}
use Rattle.books.proofs.WatersLaws.{active_ends, lengths_in, new_levelled, old_levelled, slotted}

pub fixing_in : (fluid : ℕ) → In (pos 0) (pos most_kind) (fixing_of fluid)
fixing_in zero = within (search ranges depth 20) tt tt
fixing_in (suc n) = within (search ranges depth 20) tt tt

module _ (c : Case) (formed : WellFormed c) (fluid i : ℕ) (l : i < blocks_of c.grid) (a : active_of c.slots i ≡ true) where
  s : Slotted c.grid c.slots
  s = slotted c formed.judged

  ends : Ends (block_in c i)
  ends = active_ends c.grid c.slots s i l a

  pub over_in : In (pos 0) (pos most_area) (area_of c i)
  over_in = area_in (placed c formed.judged i l)

  pub new_in : In (pos 0) (pos most_thickness) (in_fluid (thicknesses_of (new_levels c.grid c.slots i)) fluid)
  new_in = in_fluid_in (thicknesses_of (new_levels c.grid c.slots i)) fluid (thicknesses_thick (new_levels c.grid c.slots i) (new_levelled c.grid c.slots s i l a))

  pub old_in : In (pos 0) (pos most_thickness) (in_fluid (thicknesses_of (old_levels c.grid c.slots i)) fluid)
  old_in = in_fluid_in (thicknesses_of (old_levels c.grid c.slots i)) fluid (thicknesses_thick (old_levels c.grid c.slots i) (old_levelled c.grid c.slots s i l a))

  pub own_recharge_in : In (pos 0) (pos most_over_area) (own_of c fluid i).recharge
  unfolding own_of
  own_recharge_in = recharge_in c.grid (block_in c i) (top_of c.grid i) (area_of c i) fluid ends over_in

  pub own_boundary_in : Abs most_flow (own_of c fluid i).boundary
  unfolding own_of
  own_boundary_in = boundary_in c.grid (block_in c i) (top_of c.grid i) (area_of c i) (waters_of c.grid c.slots i) fluid s.termed ends over_in (formed.boundary i l (holds a))

  pub own_pumped_in : Abs most_pumpage (own_of c fluid i).pumped
  unfolding own_of pumped_at
  own_pumped_in = in_fluid_in (shares_of (block_in c i) (lengths_of (block_in c i) (new_levels c.grid c.slots i))) fluid (shares_in (block_in c i) (lengths_of (block_in c i) (new_levels c.grid c.slots i)) ends (lengths_in c.grid c.slots s i l a))

  pub own_storage_in : Abs most_volume (own_of c fluid i).storage
  unfolding own_of storage_at
  own_storage_in = storage_in c.grid (block_in c i) (area_of c i) (in_fluid (thicknesses_of (new_levels c.grid c.slots i)) fluid) (in_fluid (thicknesses_of (old_levels c.grid c.slots i)) fluid) s.termed ends over_in new_in old_in
