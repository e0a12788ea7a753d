-- The wetted length is asked of a pumped block alone. Assumes nothing.
use mathlib.Core.Path.{ap, ◌∙◌}
use Rattle.whole.specs.Whole.{is_zero}
use Rattle.whole.proofs.RangeLaws.{fits, leaf, zero_bits, zero_not_bits}
use Rattle.block.specs.Wells.{is_dry}
use Rattle.block.proofs.wells.is_dry.Goals as goal

pub returns-then-block-ne0 : goal.returns-then-block-ne0
unfolding is_dry
returns-then-block-ne0 c =
    rw (zero_not_bits (fits (leaf c.requires.ends.pumpage) tt) c.if-block-ne0.true)
    (zero_bits c.together.result (record { sfits = c.together.type_inv }) ∙ ap is_zero c.together.ensures)
