-- The interface is held between the base and the saturated top. Assumes nothing.
use mathlib.Core.Path.{◌∙◌}
use Rattle.whole.specs.Whole.{clamp_of}
use Rattle.whole.proofs.RangeLaws.{answer, read}
use Rattle.block.specs.Geometry.{held_of, levels_of}
use Rattle.block.proofs.BlockLaws.{levels_same}
use Rattle.block.proofs.geometry.levels_of.Goals as goal

pub returns : goal.returns
unfolding levels_of held_of
returns c =
    let base = read c.requires.ends.base tt in
    let top = answer c.saturated_top-saturated.type_inv c.saturated_top-saturated.ensures in
    let own = answer c.interface.type_inv c.interface.ensures in
    levels_same base (answer c.clamp-held.type_inv (c.clamp-held.ensures ∙ (λ i. clamp_of (base i) (top i) (own i)))) top
