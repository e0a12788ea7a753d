-- The product fits by the ranges of porosity, area and thickness. Assumes nothing.
use Rattle.whole.proofs.RangeLaws.{b_is, exact, fits, ranges}
use Rattle.block.specs.Storage.{volume_of}
use Rattle.block.proofs.storage.volume.Goals as goal

pub overflow_mul-block : goal.overflow_mul-block
overflow_mul-block c = fits (search ranges depth 20) tt

pub overflow_mul-block-2 : goal.overflow_mul-block-2
overflow_mul-block-2 c = fits (search ranges depth 20) tt

pub returns : goal.returns
unfolding volume_of
returns c = exact (search (ranges, b_is c.floor_div.ensures (search ranges depth 20)) depth 20)
