-- A block of no river and no sea has 0 in both boundary slots. Assumes nothing.
use mathlib.Core.Bool.{◌&&◌}
use mathlib.Core.Path.{◌∙◌, ap₂, sym}
use Rattle.whole.specs.Whole.{is_zero}
use Rattle.whole.proofs.RangeLaws.{read}
use Rattle.slots.specs.Rules.{boundary_holds}
use Rattle.slots.proofs.rules.boundary_holds.Goals as goal

pub returns-else-is_open : goal.returns-else-is_open
unfolding boundary_holds
returns-else-is_open c =
    let e = c.requires in
    rw (sym c.is_open.ensures ∙ c.if-is_open.false)
    (c.both_zero.ensures ∙ ap₂ (λ level leakance. is_zero level && is_zero leakance) (read e.level tt) (read e.boundary_leakance tt))
