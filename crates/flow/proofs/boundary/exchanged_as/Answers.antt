-- The two tests are the definition's. Assumes nothing.
use mathlib.Core.Path.{◌∙◌, sym}
use Rattle.whole.proofs.RangeLaws.{positive_any}
use Rattle.flow.specs.Boundary.{exchanged_as}
use Rattle.flow.proofs.boundary.exchanged_as.Goals as goal
use Rattle.flow.proofs.boundary.exchanged_as.Goals.{else-is_sea-via-then-is_sea+else-flow-gt0, else-is_sea-via-else-is_sea}

pub returns-then-flow-gt0 : goal.returns-then-flow-gt0
unfolding exchanged_as
returns-then-flow-gt0 c = rw (sym c.is_sea.ensures ∙ c.if-is_sea.true, positive_any c.ranges.flow c.if-flow-gt0.true)

pub returns-else-is_sea : goal.returns-else-is_sea
unfolding exchanged_as
returns-else-is_sea c = elim c.else-is_sea.branch [
  | else-is_sea-via-then-is_sea+else-flow-gt0 w ↦ rw (sym c.is_sea.ensures ∙ w.if-is_sea.true, positive_any c.ranges.flow w.if-flow-gt0.false)
  | else-is_sea-via-else-is_sea w ↦ rw (sym c.is_sea.ensures ∙ w.if-is_sea.false)
]
