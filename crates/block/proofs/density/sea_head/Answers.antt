-- The depth is the level's negation, and its product fits by the ranges of weights and level. Assumes nothing.
use mathlib.Core.Path.{◌∙◌, ap, sym}
use lib.IntN.{+ℤ_idl, ◌*ℤ◌, ◌-ℤ◌, neg_ℤ}
use Rattle.whole.specs.Whole.{floor_of}
use Rattle.whole.proofs.RangeLaws.{b_is, exact, fits, leaf, ranges}
use Rattle.block.specs.Density.{sea_head_of}
use Rattle.block.proofs.DensityLaws.{handed}
use Rattle.block.proofs.density.sea_head.Goals as goal

pub overflow_mul-floor : goal.overflow_mul-floor
overflow_mul-floor c = let w = handed c.requires.termed c.weights_of-w.ensures in fits (search (ranges, leaf w.fresh, leaf w.salt) depth 20) tt

pub returns : goal.returns
unfolding sea_head_of
returns c =
    let w = handed c.requires.termed c.weights_of-w.ensures in
    let p = c.weights_of-w.result in
    rw (sym c.weights_of-w.ensures)
    (exact (search (ranges, b_is c.floor_div.ensures (search (ranges, leaf w.fresh, leaf w.salt) depth 20)) depth 20)
    ∙ ap (λ z. floor_of (z *ℤ (p.salt -ℤ p.fresh)) p.fresh) (+ℤ_idl (neg_ℤ c.args.floor)))
