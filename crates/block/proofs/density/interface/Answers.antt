-- Products and their difference fit by the ranges of weights and heads. Assumes nothing.
use mathlib.Core.Path.{ap₂, sym, ◌∙◌}
use Rattle.whole.specs.Whole.{floor_of}
use Rattle.whole.proofs.RangeLaws.{answer, exact, fits, leaf, ranges, subtracted}
use Rattle.block.specs.Density.{interface_of}
use Rattle.block.proofs.DensityLaws.{handed}
use Rattle.block.proofs.density.interface.Goals as goal

pub overflow_mul-w : goal.overflow_mul-w
overflow_mul-w c = fits (search (ranges, leaf (handed c.requires.termed c.weights_of-w.ensures).salt) depth 20) tt

pub overflow_mul-w-2 : goal.overflow_mul-w-2
overflow_mul-w-2 c = fits (search (ranges, leaf (handed c.requires.termed c.weights_of-w.ensures).fresh) depth 20) tt

pub overflow_sub-w : goal.overflow_sub-w
overflow_sub-w c = let w = handed c.requires.termed c.weights_of-w.ensures in fits (search (ranges, leaf w.fresh, leaf w.salt) depth 20) tt

pub floor_div-requires : goal.floor_div-requires
floor_div-requires c = let w = handed c.requires.termed c.weights_of-w.ensures in rw (subtracted w.salt w.fresh tt tt tt) w.apart

pub returns : goal.returns
unfolding interface_of
returns c =
    let w = handed c.requires.termed c.weights_of-w.ensures in
    rw (sym c.weights_of-w.ensures)
    (answer c.floor_div.type_inv (c.floor_div.ensures ∙ ap₂ floor_of (exact (search (ranges, leaf w.fresh, leaf w.salt) depth 20)) (subtracted w.salt w.fresh tt tt tt)))
