-- Both differences fit by the levels' order. Assumes nothing.
use Rattle.whole.proofs.RangeLaws.{exact, ranges}
use Rattle.block.specs.Geometry.{thicknesses_of}
use Rattle.block.proofs.FluidLaws.{both_same}
use Rattle.block.proofs.geometry.thicknesses.Goals as goal

pub returns : goal.returns
unfolding thicknesses_of
returns c = both_same (exact (search ranges depth 20)) (exact (search ranges depth 20))
