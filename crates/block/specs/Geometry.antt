-- One block (document 01): levels and thicknesses, in ticks, and its K in each fluid, in mm/day.
use Rattle.std.specs.Prelude.{Bool, ◌&&◌, cond, suc, zero, ℕ, eqb, ◌+ℤ◌, ◌-ℤ◌, ℤ}
use Rattle.whole.specs.Whole.{clamp_of}
use Rattle.grid.specs.declared.Grid.{Grid}
use Rattle.slots.specs.declared.Block.{Block}
use Rattle.block.specs.declared.Fluids.{Fluids}
use Rattle.block.specs.declared.geometry.Levels.{Levels}
use Rattle.block.specs.Density.{interface_of, salt_k_of}
use Rattle.block.specs.Fluids.{fluids_of}

-- "Aquifer top = base + thickness."
unfoldable pub aquifer_top_of : Block → ℤ
aquifer_top_of b = b.base +ℤ b.thickness

-- a block has a water table: "in the top layer with flag 1"
unfoldable pub has_water_table : Grid → Bool → Bool
has_water_table g top = top && eqb g.flag 1

-- "Saturated top U = aquifer top; in the top layer with flag 1 it is the lesser of aquifer top and Φf, but never below base."
unfoldable pub saturated_top_of : Grid → Block → Bool → Fluids → ℤ
saturated_top_of g b top h = cond (has_water_table g top) (clamp_of b.base (aquifer_top_of b) h.fresh) (aquifer_top_of b)

-- "Z is ζ held between base and U."
unfoldable pub held_of : Grid → Block → Bool → Fluids → ℤ
held_of g b top h = clamp_of b.base (saturated_top_of g b top h) (interface_of g h)

-- base, Z and U, of old or of new heads: "Only old volumes and code 21 use old heads."
unfoldable pub levels_of : Grid → Block → Bool → Fluids → Levels
levels_of g b top h = record { base = b.base; interface = held_of g b top h; top = saturated_top_of g b top h }

-- "Fresh thickness Bf = U - Z, salt thickness Bs = Z - base."
unfoldable pub thicknesses_of : Levels → Fluids
thicknesses_of l = fluids_of (l.top -ℤ l.interface) (l.interface -ℤ l.base)

-- "K for salt is floor(K(δ+1)/δ)", and for fresh the block's own
abbrev pub k_of : Grid → Block → ℕ → ℤ
k_of g b zero = b.k
k_of g b (suc n) = salt_k_of g b.k
