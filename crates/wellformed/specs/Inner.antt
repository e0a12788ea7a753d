-- What inner functions require of a case, its places and its faces, and a quick way to the answer of 10. No answer is said with these; `WellFormed` is
-- what the theorems call a case that is not refused (`wellformed_exactly`).
use Rattle.std.specs.Prelude.{List, ◌+◌, ◌<◌, ◌≤◌, suc, zero, ℕ, ◌*ℤ◌, ◌+ℤ◌, pos, ℤ, length, Bool, T, ◌≤ℤ◌}
use Rattle.grid.specs.declared.place.Place.{Place}
use Rattle.grid.specs.Place.{blocks_of}
use Rattle.slices.specs.Slices.{Case}
use Rattle.slices.specs.Inner.{Judged}
use Rattle.flow.specs.declared.lateral.Face.{Face}
use Rattle.flow.specs.Inner.{FaceIn, Width, over_conductance}
use Rattle.std.specs.Int.Signed.{lt_z}
use Rattle.grid.specs.declared.Grid.{Grid}
use Rattle.grid.specs.Inner.{Termed}
use Rattle.grid.specs.Units.{above, next_row}
use Rattle.slots.specs.declared.Block.{Block}
use Rattle.slots.specs.Inner.{Ends}
use Rattle.block.specs.Geometry.{aquifer_top_of}
use Rattle.block.specs.Units.{ticks}
use Rattle.flow.specs.Litres.{most_conductance, over_area_of}
use Rattle.wellformed.specs.Widths.{area_of, face_of, width_at}
use Rattle.wellformed.specs.Links.{active_of, live_of}
use Rattle.wellformed.specs.Limits.{across_in, block_in, greatest_of}

-- a place whose column and row have widths
pub record Placed (columns rows : List ℤ) (p : Place) : Type 0 where
  pub column : p.column < length columns
  pub row : p.row < length rows
  pub column_width : Width (width_at columns p.column)
  pub row_width : Width (width_at rows p.row)

-- so has the next one along a lateral axis
abbrev pub Onward : List ℤ → List ℤ → Place → ℕ → Type 0
Onward columns rows p zero = p.column + 1 < length columns
Onward columns rows p (suc d) = p.row + 1 < length rows

-- A face is far within the limit of 10 by the greater K and the greater aquifer thickness alone: Kf is at most twice that K in either fluid, and a quotient stays
-- below a number where the dividend stays below the number times the divisor. A way to the answer, and no rule of its own.
unfoldable pub far_within : Face → ℤ → ℤ → Bool
far_within f K B = lt_z (pos 4 *ℤ K *ℤ B *ℤ f.across) (pos over_conductance *ℤ ((f.low +ℤ f.high) *ℤ pos ticks))

-- two active blocks and their face
pub record Conducts (g : Grid) (f : Face) (a b : Block) : Type 0 where
  pub termed : Termed g
  pub face : FaceIn f
  pub low : Ends a
  pub high : Ends b
  pub low_some : pos 1 ≤ℤ a.k
  pub high_some : pos 1 ≤ℤ b.k

-- a case that is not refused by 3, 7, 4, 5 and 6; by 9; by 10 for a face in either fluid, for leakage and for the boundary
pub record WellFormed (c : Case) : Type 0 where
  pub judged : Judged c
  pub stacked : (i : ℕ) → i < blocks_of c.grid → T (live_of c.grid c.slots above i) → aquifer_top_of (block_in c i) ≤ℤ (across_in c above i).base
  pub lateral : (d i fluid : ℕ) → d ≤ next_row → i < blocks_of c.grid → T (live_of c.grid c.slots d i) → greatest_of c.grid (face_of c d i) (block_in c i) (across_in c d i) fluid ≤ℤ pos most_conductance
  pub leakage : (i : ℕ) → i < blocks_of c.grid → T (live_of c.grid c.slots above i) → over_area_of (block_in c i).leakance (area_of c i) ≤ℤ pos most_conductance
  pub boundary : (i : ℕ) → i < blocks_of c.grid → T (active_of c.slots i) → over_area_of (block_in c i).boundary_leakance (area_of c i) ≤ℤ pos most_conductance
