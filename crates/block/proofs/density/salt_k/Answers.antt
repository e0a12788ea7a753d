-- The dividend fits by the ranges of weights and K. Assumes nothing.
use mathlib.Core.Path.{sym}
use Rattle.whole.proofs.RangeLaws.{b_is, exact, fits, leaf, ranges}
use Rattle.block.specs.Density.{salt_k_of}
use Rattle.block.proofs.DensityLaws.{handed}
use Rattle.block.proofs.density.salt_k.Goals as goal

pub overflow_mul-k : goal.overflow_mul-k
overflow_mul-k c = fits (search (ranges, leaf (handed c.requires.termed c.weights_of-w.ensures).salt) depth 20) tt

pub returns : goal.returns
unfolding salt_k_of
returns c =
    let w = handed c.requires.termed c.weights_of-w.ensures in
    rw (sym c.weights_of-w.ensures) (exact (search (ranges, b_is c.floor_div.ensures (search (ranges, leaf w.fresh, leaf w.salt) depth 20)) depth 20))
