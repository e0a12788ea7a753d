-- A length for each fluid. Assumes nothing.
use mathlib.Core.Path.{◌∙◌, ap₂}
use Rattle.whole.proofs.RangeLaws.{answer, read}
use Rattle.block.specs.Wells.{length_within, lengths_of}
use Rattle.block.proofs.FluidLaws.{both_same}
use Rattle.block.proofs.wells.screen_lengths.Goals as goal

pub returns : goal.returns
unfolding lengths_of
returns c =
    let b = c.args.block in
    let order = c.requires.levelled in
    both_same
    (answer c.length_within.type_inv (c.length_within.ensures ∙ ap₂ (length_within b) (read order.interface tt) (read order.top tt)))
    (answer c.length_within-2.type_inv (c.length_within-2.ensures ∙ ap₂ (length_within b) (read order.base tt) (read order.interface tt)))
