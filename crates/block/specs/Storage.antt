-- What a block stores (document 01, "One block"): volumes in litres, of an area in m² and a thickness in ticks, and rates in litres a day.
use Rattle.std.specs.Prelude.{◌*ℤ◌, ◌-ℤ◌, pos, ℤ}
use Rattle.whole.specs.Whole.{cut_of, floor_of}
use Rattle.grid.specs.declared.Grid.{Grid}
use Rattle.slots.specs.declared.Block.{Block}
use Rattle.block.specs.Units.{ticks}

-- "Volume of a fluid = floor(porosity·area·B / 4,096) litres."
unfoldable pub volume_of : Block → ℤ → ℤ → ℤ
volume_of b area thickness = floor_of (b.porosity *ℤ area *ℤ thickness) (pos ticks)

-- "Storage rate = cut((new volume - old volume) / step)", of a fluid's new and old thickness
unfoldable pub storage_of : Grid → Block → ℤ → ℤ → ℤ → ℤ
storage_of g b area new old = cut_of (volume_of b area new -ℤ volume_of b area old) g.step
