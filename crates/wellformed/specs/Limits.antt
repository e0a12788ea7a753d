-- Refusals 9 and 10, and with them what slices are refused with in all: "Slices are judged 3, 7, 4, 5, 6, 9, 10" (document 01, "Refusal numbers").
use Rattle.std.specs.Prelude.{Bool, ◌&&◌, ◌||◌, cond, List, [], ◌++◌, ◌∷◌, ◌+◌, ℕ, eqb, pos, ℤ}
use Rattle.std.specs.Int.Signed.{lt_z}
use Rattle.whole.specs.Search.{first_of}
use Rattle.whole.specs.Whole.{max_ℤ}
use Rattle.grid.specs.declared.Grid.{Grid}
use Rattle.grid.specs.Place.{blocks_of, stride_of}
use Rattle.grid.specs.Units.{above, next_column, next_row}
use Rattle.slots.specs.declared.Block.{Block}
use Rattle.slots.specs.Slots.{block_of}
use Rattle.slices.specs.Refusals.{Refusal}
use Rattle.slices.specs.Slices.{Case, blaming, contents_of, first_refusal, lent_of, shape_of}
use Rattle.block.specs.Fluids.{fresh, salt}
use Rattle.block.specs.Geometry.{aquifer_top_of, k_of}
use Rattle.flow.specs.declared.lateral.Face.{Face}
use Rattle.flow.specs.Lateral.{conductance_of, face_k_of}
use Rattle.flow.specs.Litres.{most_conductance, over_area_of}
use Rattle.wellformed.specs.Links.{active_of, live_of}
use Rattle.wellformed.specs.Widths.{area_of, face_of}

-- a block of a case, and the one across the link (d, i)
abbrev pub block_in : Case → ℕ → Block
block_in c i = block_of c.slots i

abbrev pub across_in : Case → ℕ → ℕ → Block
across_in c d i = block_of c.slots (i + stride_of c.grid d)

-- 9: "an active block's top lies above the base of the block directly above it, both active"
unfoldable pub overlaps : Case → ℕ → Bool
overlaps c i = live_of c.grid c.slots above i && lt_z (across_in c above i).base (aquifer_top_of (block_in c i))

-- 10: "a conductance of either fluid exceeds 268,435,456", litres a day for each metre of head difference
abbrev pub exceeds : ℤ → Bool
exceeds conductance = lt_z (pos most_conductance) conductance

-- "lateral ones worked out with the greater aquifer thickness of the two blocks"
unfoldable pub greatest_of : Grid → Face → Block → Block → ℕ → ℤ
greatest_of g f a b fluid = conductance_of f (face_k_of f (k_of g a fluid) (k_of g b fluid)) (max_ℤ a.thickness b.thickness)

-- "of either fluid"
unfoldable pub either_exceeds : Grid → Face → Block → Block → Bool
either_exceeds g f a b = exceeds (greatest_of g f a b fresh) || exceeds (greatest_of g f a b salt)

-- "10 counts faces between active blocks to the next column, next row"
unfoldable pub face_exceeds : Case → ℕ → ℕ → Bool
face_exceeds c d i = live_of c.grid c.slots d i && either_exceeds c.grid (face_of c d i) (block_in c i) (across_in c d i)

-- "and above"
unfoldable pub above_exceeds : Case → ℕ → Bool
above_exceeds c i = live_of c.grid c.slots above i && exceeds (over_area_of (block_in c i).leakance (area_of c i))

-- "and the boundary". It is asked of every active block: one without a river or a sea has leakance 0 there, or is refused before, with 6
unfoldable pub boundary_exceeds : Case → ℕ → Bool
boundary_exceeds c i = exceeds (over_area_of (block_in c i).boundary_leakance (area_of c i))

-- "10 counts faces between active blocks to the next column, next row and above, and the boundary"
unfoldable pub block_exceeds : Case → ℕ → Bool
block_exceeds c i = active_of c.slots i && (face_exceeds c next_column i || (face_exceeds c next_row i || (above_exceeds c i || boundary_exceeds c i)))

-- a block is at fault by 9, or by 10; "Refusals 6, 9, 10, 13 and 14 name the first block at fault"
unfoldable pub at_fault : Case → ℕ → ℕ → Bool
at_fault c number i = cond (eqb number 9) (overlaps c i) (block_exceeds c i)

unfoldable pub first_at_fault : Case → ℕ → ℕ
first_at_fault c number = first_of (blocks_of c.grid) (at_fault c number)

-- "9, 10"
unfoldable pub limits_of : Case → List Refusal
limits_of c = blaming 9 (first_at_fault c 9) ∷ blaming 10 (first_at_fault c 10) ∷ []

-- "Slices are judged 3, 7, 4, 5, 6, 9, 10"
abbrev pub checks_of : Case → List Refusal
checks_of c = (shape_of c ++ contents_of c) ++ limits_of c

-- the first of these that refuses the case
abbrev pub checked_of : Case → Refusal
checked_of c = first_refusal (checks_of c)

-- the same where more is lent than the case itself, marks or room for an answer, with 7 of that in 7's place
abbrev pub lent_checks_of : Case → Bool → List Refusal
lent_checks_of c reaches = (lent_of c reaches ++ contents_of c) ++ limits_of c

abbrev pub checked_lent : Case → Bool → Refusal
checked_lent c reaches = first_refusal (lent_checks_of c reaches)
