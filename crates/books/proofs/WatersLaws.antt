-- What a case gives for its blocks: their waters are in range, and levels and thicknesses determine each other. Assumes nothing.
use mathlib.Core.Bool.{Bool, false, true}
use mathlib.Core.List.{List}
use mathlib.Core.Path.{◌∙◌, ◌≡◌, ap, refl}
use Prim.Native.Nat.{◌<◌, ℕ, ◌*◌, ◌≤◌}
use native.Mathlib.Omega.{arith}
use lib.IntN.{pos, ℤ}
use lib.ListN.{length}
use lib.Signed.{◌≤ℤ◌}
use Rattle.whole.proofs.RangeLaws.{ranges, within}
use Rattle.whole.proofs.SearchLaws.{first_none, holds, none_first}
use Rattle.grid.specs.declared.Grid.{Grid}
use Rattle.grid.specs.Place.{blocks_of, top_of}
use Rattle.grid.specs.Units.{most_blocks}
use Rattle.slots.specs.declared.Block.{Block}
use Rattle.slots.specs.Inner.{Ends}
use Rattle.slots.specs.Slots.{block_of}
use Rattle.slices.specs.Slices.{Case, first_refusal, or_else}
use Rattle.slices.specs.Inner.{Judged}
use Rattle.slices.proofs.SlicesLaws.{blames_none, here}
use Rattle.block.specs.declared.Fluids.{Fluids}
use Rattle.block.specs.Inner.{Levelled, Thick, levels_on}
use Rattle.block.specs.Fluids.{fluids_of, in_fluid, new_heads, old_heads}
use Rattle.block.specs.Geometry.{thicknesses_of}
use Rattle.block.specs.Wells.{lengths_of}
use Rattle.block.proofs.BlockLaws.{lengths_thick, levels_back, levels_base, levels_levelled, thickness_within, thicknesses_thick}
use Rattle.wellformed.specs.Links.{active_of}
use Rattle.wellformed.proofs.LinksLaws.{reach}
use Rattle.books.specs.Inner.{Slotted, Sound, Watered, filled_of}
use Rattle.books.specs.Waters.{Wet, dry_at, dry_of, levels_at, new_levels, old_levels, waters_of, well_checks}
use Rattle.books.proofs.RowsLaws.{filled_row}

pub slotted : (c : Case) → Judged c → Slotted c.grid c.slots
slotted c judged = record { counted = judged.counted; termed = judged.termed; room = judged.roomy.slots; active = judged.active }

pub sound : {g : Grid} {slots : List ℤ} {i : ℕ} → Slotted g slots → i < blocks_of g → Sound slots i
sound {g} {slots} {i} s l = record { room = reach s.room l; ends = λ t. (s.active i l t).ends }

-- a row with room for the most blocks, filled with their waters
pub filled_watered : (g : Grid) (slots row : List ℤ) {filled : List ℤ} → Slotted g slots → filled ≡ filled_of (blocks_of g) (waters_of g slots) row → 2 * most_blocks ≤ length row → Watered g slots filled
filled_watered g slots row s e h = rw e (filled_row (blocks_of g) (waters_of g slots) row (omega (arith, h, s.counted.blocks_most)))

-- 13 refuses nothing exactly where no well is dry
pub wells_wet : (c : Case) → (first_refusal (well_checks c)).number ≡ 0 → Wet c.grid c.slots
unfolding dry_of
wells_wet c e = first_none (dry_at c.grid c.slots) (blocks_of c.grid) (blames_none 13 (dry_of c.grid c.slots) (omega arith) here e)

pub wet_wells : (c : Case) → Wet c.grid c.slots → (first_refusal (well_checks c)).number ≡ 0
unfolding dry_of first_refusal or_else
wet_wells c wet = rw (none_first (dry_at c.grid c.slots) (blocks_of c.grid) wet)

module _ (g : Grid) (slots : List ℤ) (i : ℕ) where
  pub waters_on : active_of slots i ≡ true → waters_of g slots i ≡ thicknesses_of (new_levels g slots i)
  unfolding waters_of
  waters_on a = rw a

  pub waters_off : active_of slots i ≡ false → waters_of g slots i ≡ fluids_of (pos 0) (pos 0)
  unfolding waters_of
  waters_off a = rw a

module _ (g : Grid) (slots : List ℤ) (s : Slotted g slots) (i : ℕ) (l : i < blocks_of g) where
  pub active_ends : active_of slots i ≡ true → Ends (block_of slots i)
  active_ends a = (s.active i l (holds a)).ends

  pub new_levelled : active_of slots i ≡ true → Levelled (new_levels g slots i)
  unfolding levels_at
  new_levelled a = levels_levelled g (block_of slots i) (top_of g i) (new_heads (block_of slots i)) (active_ends a)

  pub old_levelled : active_of slots i ≡ true → Levelled (old_levels g slots i)
  unfolding levels_at
  old_levelled a = levels_levelled g (block_of slots i) (top_of g i) (old_heads (block_of slots i)) (active_ends a)

  pub waters_thick : Thick (waters_of g slots i)
  waters_thick = go (active_of slots i) refl
    where
      go : (b : Bool) → active_of slots i ≡ b → Thick (waters_of g slots i)
      go true a = rw (waters_on g slots i a) (thicknesses_thick (new_levels g slots i) (new_levelled a))
      go false a = rw (waters_off g slots i a) (record { of_fresh = within (search ranges depth 20) tt tt; of_salt = within (search ranges depth 20) tt tt })

  pub waters_within : (fluid : ℕ) → active_of slots i ≡ true → in_fluid (waters_of g slots i) fluid ≤ℤ (block_of slots i).thickness
  unfolding levels_at
  waters_within fluid a = rw (waters_on g slots i a) (thickness_within g (block_of slots i) (top_of g i) (new_heads (block_of slots i)) fluid (active_ends a))

  pub levels_on_waters : active_of slots i ≡ true → levels_on (block_of slots i).base (waters_of g slots i) ≡ new_levels g slots i
  unfolding levels_at
  levels_on_waters a = (λ k. levels_on (levels_base g (block_of slots i) (top_of g i) (new_heads (block_of slots i)) k) (waters_on g slots i a k)) ∙ levels_back (new_levels g slots i)

  -- what is required of a block and its waters for the lengths of its screen
  pub lengths_ready : active_of slots i ≡ true → Ends (block_of slots i) × (Thick (waters_of g slots i) × Levelled (levels_on (block_of slots i).base (waters_of g slots i)))
  lengths_ready a = (active_ends a, (waters_thick, rw (levels_on_waters a) (new_levelled a)))

  pub lengths_in : active_of slots i ≡ true → Thick (lengths_of (block_of slots i) (new_levels g slots i))
  lengths_in a = lengths_thick (block_of slots i) (new_levels g slots i) (new_levelled a)

  -- and the lengths, by what was loaded and read
  pub lengths_are : active_of slots i ≡ true → (b : Block) (waters lengths : Fluids) → b ≡ block_of slots i → waters ≡ waters_of g slots i → lengths ≡ lengths_of b (levels_on b.base waters)
      → lengths ≡ lengths_of (block_of slots i) (new_levels g slots i)
  lengths_are a b waters lengths p q e = e ∙ (λ k. lengths_of (p k) (levels_on (p k).base (q k))) ∙ ap (lengths_of (block_of slots i)) (levels_on_waters a)
