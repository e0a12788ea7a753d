-- What a block has of its own in one fluid (document 01, "Leakage, river and sea", "One block"), in litres a day.
use Rattle.std.specs.Prelude.{Bool, ◌||◌, List, suc, zero, ℕ, pos, ℤ}
use Rattle.grid.specs.declared.Grid.{Grid}
use Rattle.grid.specs.Place.{top_of}
use Rattle.slots.specs.declared.Block.{Block}
use Rattle.slots.specs.Rules.{is_kind}
use Rattle.slots.specs.Slots.{block_of}
use Rattle.slices.specs.Slices.{Case}
use Rattle.block.specs.Fluids.{in_fluid}
use Rattle.block.specs.Geometry.{thicknesses_of}
use Rattle.block.specs.Storage.{storage_of}
use Rattle.block.specs.Wells.{lengths_of, shares_of}
use Rattle.flow.specs.Boundary.{boundary_of, recharge_of}
use Rattle.wellformed.specs.Limits.{block_in}
use Rattle.wellformed.specs.Widths.{area_of}
use Rattle.books.specs.declared.own.Own.{Own}
use Rattle.books.specs.Waters.{new_levels, old_levels, waters_of}

-- what a block's well takes of a fluid: "the screen's lengths inside fresh [Z, U] and salt [base, Z]"; "Fresh share = .., salt the remainder"
unfoldable pub pumped_at : Grid → List ℤ → ℕ → ℕ → ℤ
pumped_at g slots fluid i = in_fluid (shares_of (block_of slots i) (lengths_of (block_of slots i) (new_levels g slots i))) fluid

-- "Storage rate = cut((new volume - old volume) / step)."
unfoldable pub storage_at : Case → ℕ → ℕ → ℤ
storage_at c fluid i =
    storage_of c.grid (block_in c i) (area_of c i) (in_fluid (thicknesses_of (new_levels c.grid c.slots i)) fluid)
    (in_fluid (thicknesses_of (old_levels c.grid c.slots i)) fluid)

-- the four terms of a balance that no link brings: "recharge", "boundary", "wells", "storage rate"
unfoldable pub own_of : Case → ℕ → ℕ → Own
own_of c fluid i =
    record {
      recharge = recharge_of c.grid (block_in c i) (top_of c.grid i) (area_of c i) fluid;
      boundary = boundary_of c.grid (block_in c i) (top_of c.grid i) (area_of c i) (waters_of c.grid c.slots i) fluid;
      pumped = pumped_at c.grid c.slots fluid i;
      storage = storage_at c fluid i;
    }

-- the kind that fixes the head of one fluid: "boundary kind | .. 3 fixed fresh, 4 fixed salt"
abbrev pub fixing_of : ℕ → ℤ
fixing_of zero = pos 3
fixing_of (suc n) = pos 4

-- a block's head in a fluid is fixed, by the kind of that fluid or by "5 both fixed"
unfoldable pub fixed_of : Block → ℕ → Bool
fixed_of b fluid = is_kind b (fixing_of fluid) || is_kind b (pos 5)
