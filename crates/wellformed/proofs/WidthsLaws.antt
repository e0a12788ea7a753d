-- Widths of a case that 3, 7, 4, 5 and 6 do not refuse. Assumes nothing.
use mathlib.Core.List.{List}
use mathlib.Core.Path.{◌≡◌, ap, refl, sym}
use Prim.Native.Nat.{◌+◌, ◌<◌, ◌≤◌, suc, zero, ℕ}
use native.Mathlib.Omega.{arith}
use lib.Dec.{T, ltb→lt}
use lib.IntN.{pos, ℤ}
use Rattle.whole.specs.Inner.{In}
use Rattle.whole.proofs.RangeLaws.{leaf, ranges, within}
use Rattle.grid.specs.declared.place.Place.{Place}
use Rattle.grid.specs.Inner.{Inside}
use Rattle.grid.specs.Place.{blocks_of, coordinate_of, has_next, next_of, place_of, stride_of}
use Rattle.grid.proofs.PlaceLaws.{link_beside, next_inside, place_inside}
use Rattle.slices.specs.Slices.{Case}
use Rattle.slices.specs.Inner.{Judged}
use Rattle.block.specs.Inner.{most_area}
use Rattle.flow.specs.Inner.{FaceIn}
use Rattle.wellformed.specs.Inner.{Onward, Placed}
use Rattle.wellformed.specs.Widths.{along_of, area_at, face_of, width_at}

module _ (c : Case) (judged : Judged c) (i : ℕ) (l : i < blocks_of c.grid) where
  inside : Inside c.grid (place_of c.grid i)
  inside = place_inside c.grid judged.counted i l

  -- a block has widths
  pub placed : Placed c.columns c.rows (place_of c.grid i)
  placed =
      record {
        column = omega (arith, inside.column, judged.roomy.columns);
        row = omega (arith, inside.row, judged.roomy.rows);
        column_width = judged.column (place_of c.grid i).column inside.column;
        row_width = judged.row (place_of c.grid i).row inside.row;
      }

  -- and so has the next one in its row or column
  pub onward : (d : ℕ) → d ≤ 1 → T (next_of c.grid d i) → Onward c.columns c.rows (place_of c.grid i) d
  unfolding next_of has_next
  onward zero h t = omega (arith, ltb→lt ((place_of c.grid i).column + 1) c.grid.columns t, judged.roomy.columns)
  onward (suc zero) h t = omega (arith, ltb→lt ((place_of c.grid i).row + 1) c.grid.rows t, judged.roomy.rows)
  onward (suc (suc d)) h t = absurd (omega arith)

  pub face_in : (d : ℕ) → d ≤ 1 → T (next_of c.grid d i) → FaceIn (face_of c d i)
  unfolding next_of has_next
  face_in zero h t = record { low = placed.column_width; high = judged.column ((place_of c.grid i).column + 1) (ltb→lt ((place_of c.grid i).column + 1) c.grid.columns t); across = placed.row_width }
  face_in (suc zero) h t = record { low = placed.row_width; high = judged.row ((place_of c.grid i).row + 1) (ltb→lt ((place_of c.grid i).row + 1) c.grid.rows t); across = placed.column_width }
  face_in (suc (suc d)) h t = absurd (omega arith)

  -- the far width of a face is that of the block across it
  pub face_high : (d : ℕ) → d ≤ 1 → T (next_of c.grid d i) → (face_of c d i).high ≡ along_of c d (i + stride_of c.grid d)
  face_high d h t = far d h (link_beside c.grid judged.counted d i (i + stride_of c.grid d) (omega arith) l (next_inside c.grid judged.counted d i l t) t refl).further
    where
      far : (d : ℕ) → d ≤ 1 → coordinate_of (place_of c.grid (i + stride_of c.grid d)) d ≡ coordinate_of (place_of c.grid i) d + 1 → (face_of c d i).high ≡ along_of c d (i + stride_of c.grid d)
      far zero h e = ap (width_at c.columns) (sym e)
      far (suc zero) h e = ap (width_at c.rows) (sym e)
      far (suc (suc d)) h e = absurd (omega arith)

-- an area is at most 4,096² m²
pub area_in : {columns rows : List ℤ} {p : Place} → Placed columns rows p → In (pos 0) (pos most_area) (area_at columns rows p)
unfolding area_at
area_in h = within (search (ranges, leaf h.column_width, leaf h.row_width) depth 20) tt tt
