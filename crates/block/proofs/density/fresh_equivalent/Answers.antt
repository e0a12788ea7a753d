-- The dividend fits by the ranges of weights, head and level. Assumes nothing.
use mathlib.Core.Path.{sym}
use Rattle.whole.proofs.RangeLaws.{b_is, exact, fits, leaf, ranges}
use Rattle.block.specs.Density.{fresh_equivalent_of}
use Rattle.block.proofs.DensityLaws.{handed}
use Rattle.block.proofs.density.fresh_equivalent.Goals as goal

pub overflow_mul-w : goal.overflow_mul-w
overflow_mul-w c = fits (search (ranges, leaf (handed c.requires.termed c.weights_of-w.ensures).salt) depth 20) tt

pub overflow_mul-w-2 : goal.overflow_mul-w-2
overflow_mul-w-2 c = let w = handed c.requires.termed c.weights_of-w.ensures in fits (search (ranges, leaf w.fresh, leaf w.salt) depth 20) tt

pub overflow_sub-w-2 : goal.overflow_sub-w-2
overflow_sub-w-2 c = let w = handed c.requires.termed c.weights_of-w.ensures in fits (search (ranges, leaf w.fresh, leaf w.salt) depth 20) tt

pub returns : goal.returns
unfolding fresh_equivalent_of
returns c =
    let w = handed c.requires.termed c.weights_of-w.ensures in
    rw (sym c.weights_of-w.ensures) (exact (search (ranges, b_is c.floor_div.ensures (search (ranges, leaf w.fresh, leaf w.salt) depth 20)) depth 20))
