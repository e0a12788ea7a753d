-- What a block at its place brings: widths, slots within their ends, and the block across a live link. Assumes nothing.
use mathlib.Core.Path.{◌≡◌, refl}
use mathlib.Core.Bool.{Bool, ◌&&◌, cond, false, true}
use Prim.Native.Nat.{◌*◌, ◌+◌, ◌<◌, ◌≤◌, ℕ}
use lib.Dec.{eqb}
use lib.ListN.{length}
use Rattle.whole.proofs.SearchLaws.{holds}
use Rattle.grid.specs.Place.{blocks_of, next_of, stride_of}
use Rattle.grid.specs.Units.{above}
use Rattle.slots.specs.Inner.{Ends}
use Rattle.slots.specs.Slots.{block_of}
use Rattle.slices.specs.Cases.{case_in}
use Rattle.slices.specs.Slices.{Case}
use Rattle.wellformed.specs.declared.spot.Spot.{Spot}
use Rattle.wellformed.specs.Inner.{Conducts, Onward, Placed}
use Rattle.wellformed.specs.Links.{active_of, live_of}
use Rattle.wellformed.specs.Limits.{across_in, at_fault, block_exceeds, block_in, overlaps}
use Rattle.wellformed.specs.Widths.{face_of}
use Rattle.wellformed.proofs.LimitsLaws.{conducts}
use Rattle.wellformed.proofs.LinksLaws.{live_inside, live_low, live_next, reach}
use Rattle.wellformed.proofs.WidthsLaws.{onward, placed}

module _ (s : Spot) where
  abbrev c : Case
  c = case_in s.judged.case

  pub spot_placed : Placed s.judged.case.columns.now s.judged.case.rows.now s.place
  spot_placed = rw s.placed (placed c s.judged.judged s.block s.inside)

  pub active_ends : active_of s.judged.case.slots.now s.block ≡ true → Ends (block_of s.judged.case.slots.now s.block)
  active_ends e = (s.judged.judged.active s.block s.inside (holds e)).ends

  -- across a live link
  module _ (d : ℕ) (e : live_of s.judged.case.grid s.judged.case.slots.now d s.block ≡ true) where
    pub live_ends : Ends (block_of s.judged.case.slots.now s.block)
    live_ends = (s.judged.judged.active s.block s.inside (live_low c.grid c.slots d s.block (holds e))).ends

    pub across_inside : s.block + stride_of s.judged.case.grid d < blocks_of s.judged.case.grid
    across_inside = live_inside c.grid c.slots d s.block (holds e) s.judged.judged.counted s.inside

    pub across_room : 16 * (s.block + stride_of s.judged.case.grid d) + 16 ≤ length s.judged.case.slots.now
    across_room = reach s.judged.judged.roomy.slots across_inside

    pub spot_onward : d ≤ 1 → Onward s.judged.case.columns.now s.judged.case.rows.now s.place d
    spot_onward h = rw s.placed (onward c s.judged.judged s.block s.inside d h (live_next c.grid c.slots d s.block (holds e)))

    pub spot_conducts : d ≤ 1 → Conducts c.grid (face_of c d s.block) (block_in c s.block) (across_in c d s.block)
    spot_conducts h = conducts c s.judged.judged d s.block h s.inside (holds e)

-- no inactive block is at fault
pub fault_active : (c : Case) (number i : ℕ) → active_of c.slots i ≡ false → at_fault c number i ≡ false
unfolding at_fault overlaps live_of block_exceeds
fault_active c number i e = rw e (go (eqb number 9) (next_of c.grid above i) _)
  where
    go : (nine next lies : Bool) → cond nine ((next && false) && lies) false ≡ false
    go true true lies = refl
    go true false lies = refl
    go false next lies = refl
