-- What a link carries (document 01, "A lateral face", "Leakage, river and sea"), in litres a day. The link (d, i) joins block i, its low side,
-- to block i + stride d, its high side.
use Rattle.std.specs.Prelude.{Bool, cond, false, true, List, ◌+◌, suc, zero, ℕ, eqb, pos, ℤ, Option, Some, None}
use Rattle.std.specs.Int.Signed.{lt_z}
use Rattle.grid.specs.declared.Grid.{Grid}
use Rattle.grid.specs.Place.{behind_of, stride_of}
use Rattle.grid.specs.Units.{above}
use Rattle.slots.specs.Slots.{block_of}
use Rattle.slices.specs.Slices.{Case}
use Rattle.block.specs.Fluids.{in_fluid, new_heads}
use Rattle.block.specs.Geometry.{aquifer_top_of, k_of}
use Rattle.flow.specs.declared.lateral.Behind.{Behind}
use Rattle.flow.specs.declared.lateral.Side.{Side}
use Rattle.flow.specs.declared.leakage.LeakageSide.{LeakageSide}
use Rattle.flow.specs.Lateral.{lateral_of}
use Rattle.flow.specs.Leakage.{leakage_of, lowermost_of, uppermost_of}
use Rattle.flow.specs.Litres.{over_area_of}
use Rattle.wellformed.specs.Limits.{block_in}
use Rattle.wellformed.specs.Widths.{along_of, area_of, face_of}
use Rattle.books.specs.Waters.{waters_of}

-- K (mm/day), thickness and head (ticks) of a fluid in a block
unfoldable pub side_of : Grid → List ℤ → ℕ → ℕ → Side
side_of g slots fluid i =
    record {
      k = k_of g (block_of slots i) fluid;
      thickness = in_fluid (waters_of g slots i) fluid;
      head = in_fluid (new_heads (block_of slots i)) fluid;
    }

-- where there is no p: its thickness is 0
abbrev pub nobody : Behind
nobody = record { width = pos 0; thickness = pos 0 }

-- "If p is outside, inactive or without the fluid, B = 0."
abbrev pub behind_at : Case → ℕ → ℕ → Option ℕ → Behind
behind_at c fluid d (Some p) = record { width = along_of c d p; thickness = in_fluid (waters_of c.grid c.slots p) fluid }
behind_at c fluid d None = nobody

-- "Only block a holds it: let p be the block on a's other side." The thicknesses are those of the fluid on the low and the high side.
unfoldable pub tip_behind_of : Case → ℕ → ℕ → ℕ → ℤ → ℤ → Behind
tip_behind_of c fluid d i low high =
    cond (lt_z (pos 0) low)
    (cond (lt_z (pos 0) high) nobody (behind_at c fluid d (behind_of c.grid d i true)))
    (cond (lt_z (pos 0) high) (behind_at c fluid d (behind_of c.grid d i false)) nobody)

-- a lateral face: "Flow = cut(C·(difference of that fluid's heads)/4,096) litres/day", with W-206 rounded
unfoldable pub lateral_at : Case → ℕ → ℕ → ℕ → ℤ
lateral_at c fluid d i =
    let a = side_of c.grid c.slots fluid i in
    let b = side_of c.grid c.slots fluid (i + stride_of c.grid d) in
    lateral_of (face_of c d i) a b (tip_behind_of c fluid d i a.thickness b.thickness)

-- what leakage sees of a block
abbrev pub leakage_side_at : Grid → List ℤ → ℕ → LeakageSide
leakage_side_at g slots i = record { heads = new_heads (block_of slots i); thickness = waters_of g slots i }

-- "Leakage joins a block and the one directly above": "C = floor(leakance·area/1,000), flow = cut(C·difference/4,096)", with W-206
-- rounded, "at the lower block's top"
unfoldable pub leakage_at : Case → ℕ → ℤ
leakage_at c i =
    leakage_of c.grid (over_area_of (block_in c i).leakance (area_of c i)) (leakage_side_at c.grid c.slots i)
    (leakage_side_at c.grid c.slots (i + stride_of c.grid above))
    (aquifer_top_of (block_in c i))

-- what a link carries, by its axis: two lateral faces, in the fluid itself, and the leakage, whatever the fluid
abbrev pub carried_of : Case → ℕ → ℕ → ℕ → ℤ
carried_of c fluid zero i = lateral_at c fluid zero i
carried_of c fluid (suc zero) i = lateral_at c fluid (suc zero) i
carried_of c fluid (suc (suc d)) i = leakage_at c i

-- "Fluid of the lower block: fresh if its Bf > 0, else salt. Fluid of the upper: salt if its Bs > 0, else fresh."
unfoldable pub named_of : Grid → List ℤ → ℕ → Bool → ℕ
named_of g slots i low = cond low (uppermost_of (waters_of g slots i)) (lowermost_of (waters_of g slots (i + stride_of g above)))

-- "Water leaves as the fluid named for the block it leaves and arrives as the fluid named for the block it enters."; through a lateral
-- face it stays what it is
abbrev pub counts_of : Grid → List ℤ → ℕ → ℕ → ℕ → Bool → Bool
counts_of g slots fluid zero i low = true
counts_of g slots fluid (suc zero) i low = true
counts_of g slots fluid (suc (suc d)) i low = eqb (named_of g slots i low) fluid
