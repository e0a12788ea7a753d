-- Two volumes of one block differ by what fits. Assumes nothing.
use mathlib.Core.Path.{◌∙◌, ◌≡◌, ap₂}
use lib.IntN.{pos, ℤ}
use mir.Syntax.{w64}
use mir.Val.{of_z, to_z}
use Rattle.whole.specs.Inner.{In}
use Rattle.whole.proofs.RangeLaws.{Bounds, b_eq, b_is, exact, fits, ranges, read}
use Rattle.slots.specs.declared.Block.{Block}
use Rattle.slots.specs.Inner.{Ends}
use Rattle.slots.specs.Units.{most_thickness}
use Rattle.block.specs.Inner.{most_area}
use Rattle.block.specs.Storage.{storage_of, volume_of}
use Rattle.block.proofs.BlockLaws.{volume_in}
use Rattle.block.proofs.storage.storage.Goals as goal

-- a volume that was called for, with its range
abbrev told : (b : Block) (area thickness v : ℤ) → Ends b → In (pos 0) (pos most_area) area → In (pos 0) (pos most_thickness) thickness
    → v ≡ volume_of b (to_z w64 (of_z w64 area)) (to_z w64 (of_z w64 thickness)) → Bounds v
told b area thickness v e i j h = b_eq (h ∙ ap₂ (volume_of b) (read i tt) (read j tt)) (volume_in b area thickness e i j)

pub overflow_sub-volume : goal.overflow_sub-volume
overflow_sub-volume c =
    let r = c.requires in
    let a = c.args in
    fits (search (ranges, told a.block a.area a.new _ r.ends r.fact r.fact_2 c.volume.ensures, told a.block a.area a.old _ r.ends r.fact r.fact_3 c.volume-2.ensures) depth 20) tt

pub returns : goal.returns
unfolding storage_of
returns c =
    let r = c.requires in
    let a = c.args in
    exact (search (
      ranges,
      b_is c.cut_div.ensures
          (search (ranges, told a.block a.area a.new _ r.ends r.fact r.fact_2 c.volume.ensures, told a.block a.area a.old _ r.ends r.fact r.fact_3 c.volume-2.ensures) depth 20),
    ) depth 20)
