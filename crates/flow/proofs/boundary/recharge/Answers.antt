-- Fresh, and under a water table alone. Assumes nothing.
use mathlib.Core.Path.{◌∙◌, ap₂, sym}
use Rattle.whole.proofs.RangeLaws.{answer, read}
use Rattle.flow.specs.Boundary.{recharge_of}
use Rattle.flow.specs.Litres.{over_area_of}
use Rattle.flow.proofs.boundary.recharge.Goals as goal

pub returns-then-below_top : goal.returns-then-below_top
unfolding recharge_of
returns-then-below_top c =
    rw (c.if-fluid-eq-FRESH.true, sym c.below_top.ensures ∙ c.if-below_top.true)
    (answer c.over_area.type_inv (c.over_area.ensures ∙ ap₂ over_area_of (read c.requires.ends.recharge tt) (read c.requires.fact tt)))
