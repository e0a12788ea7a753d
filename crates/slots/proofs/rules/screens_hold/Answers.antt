-- Without pumpage both ends of the screen are 0. Assumes nothing.
use mathlib.Core.Bool.{◌&&◌}
use mathlib.Core.Path.{◌∙◌, ap₂}
use Rattle.whole.specs.Whole.{is_zero}
use Rattle.whole.proofs.RangeLaws.{fits, leaf, read, zero_yes_bits}
use Rattle.slots.specs.Rules.{screens_hold}
use Rattle.slots.proofs.rules.screens_hold.Goals as goal

pub returns-then-block-eq0 : goal.returns-then-block-eq0
unfolding screens_hold
returns-then-block-eq0 c =
    let e = c.requires in
    rw (zero_yes_bits (fits (leaf e.pumpage) tt) c.if-block-eq0.true)
    (c.both_zero.ensures ∙ ap₂ (λ bottom top. is_zero bottom && is_zero top) (read e.screen_bottom tt) (read e.screen_top tt))
