-- The waters of a case's blocks (document 01, "One block"), in ticks.
use Rattle.std.specs.Prelude.{Bool, ◌&&◌, cond, false, List, [], ◌∷◌, ◌≡◌, ◌<◌, ℕ, pos, ℤ}
use Rattle.whole.specs.Search.{first_of}
use Rattle.grid.specs.declared.Grid.{Grid}
use Rattle.grid.specs.Place.{blocks_of, top_of}
use Rattle.slots.specs.Slots.{block_of}
use Rattle.slices.specs.Refusals.{Refusal}
use Rattle.slices.specs.Slices.{Case, blaming}
use Rattle.block.specs.declared.Fluids.{Fluids}
use Rattle.block.specs.declared.geometry.Levels.{Levels}
use Rattle.block.specs.Fluids.{fluids_of, new_heads, old_heads}
use Rattle.block.specs.Geometry.{levels_of, thicknesses_of}
use Rattle.block.specs.Wells.{is_dry, lengths_of}
use Rattle.wellformed.specs.Links.{active_of}

-- base, Z and U of a block, by heads that are its old or its new ones
unfoldable pub levels_at : Grid → List ℤ → ℕ → Fluids → Levels
levels_at g slots i heads = levels_of g (block_of slots i) (top_of g i) heads

-- the levels of a block by its new heads
abbrev pub new_levels : Grid → List ℤ → ℕ → Levels
new_levels g slots i = levels_at g slots i (new_heads (block_of slots i))

-- the levels of a block by its old heads: "Only old volumes and code 21 use old heads."
abbrev pub old_levels : Grid → List ℤ → ℕ → Levels
old_levels g slots i = levels_at g slots i (old_heads (block_of slots i))

-- the thickness of each fluid by new heads: "Fresh thickness Bf = U - Z, salt thickness Bs = Z - base." An inactive block holds none: "If p is outside,
-- inactive or without the fluid"
unfoldable pub waters_of : Grid → List ℤ → ℕ → Fluids
waters_of g slots i = cond (active_of slots i) (thicknesses_of (new_levels g slots i)) (fluids_of (pos 0) (pos 0))

-- "Pumpage other than 0 with wetted length 0 is a dry well."
unfoldable pub dry_at : Grid → List ℤ → ℕ → Bool
dry_at g slots i = active_of slots i && is_dry (block_of slots i) (lengths_of (block_of slots i) (new_levels g slots i))

-- no well is dry: "22 if any well is dry"
abbrev pub Wet : Grid → List ℤ → Type 0
Wet g slots = (i : ℕ) → i < blocks_of g → dry_at g slots i ≡ false

-- 13: "a table is asked for with a dry well"; "Refusals 6, 9, 10, 13 and 14 name the first block at fault"
unfoldable pub dry_of : Grid → List ℤ → ℕ
dry_of g slots = first_of (blocks_of g) (dry_at g slots)

-- 13, judged last: "11 before 13"
abbrev pub well_checks : Case → List Refusal
well_checks c = blaming 13 (dry_of c.grid c.slots) ∷ []
