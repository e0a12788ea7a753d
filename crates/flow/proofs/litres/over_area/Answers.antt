-- The product fits by the ranges of rate and area. Assumes nothing.
use Rattle.whole.proofs.RangeLaws.{b_is, exact, fits, ranges}
use Rattle.flow.specs.Litres.{over_area_of}
use Rattle.flow.proofs.litres.over_area.Goals as goal

pub overflow_mul-rate : goal.overflow_mul-rate
overflow_mul-rate c = fits (search ranges depth 20) tt

pub returns : goal.returns
unfolding over_area_of
returns c = exact (search (ranges, b_is c.floor_div.ensures (search ranges depth 20)) depth 20)
