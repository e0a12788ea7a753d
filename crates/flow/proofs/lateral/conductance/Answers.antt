-- Dividend and divisor fit by the ranges of widths, K and thickness. Assumes nothing.
use Rattle.whole.proofs.RangeLaws.{b_is, exact, fits, ranges}
use Rattle.flow.specs.Lateral.{conductance_of}
use Rattle.flow.proofs.lateral.conductance.Goals as goal

pub overflow_mul-k-3 : goal.overflow_mul-k-3
overflow_mul-k-3 c = fits (search ranges depth 20) tt

pub returns : goal.returns
unfolding conductance_of
returns c = exact (search (ranges, b_is c.floor_div.ensures (search ranges depth 30)) depth 30)
