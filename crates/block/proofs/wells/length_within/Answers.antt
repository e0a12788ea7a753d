-- Both ends of the length are in range. Assumes nothing.
use Rattle.whole.proofs.RangeLaws.{b_is, exact, fits, ranges}
use Rattle.block.specs.Wells.{length_within}
use Rattle.block.proofs.wells.length_within.Goals as goal

pub overflow_sub-least : goal.overflow_sub-least
overflow_sub-least c = fits (search (ranges, b_is c.least.ensures (search ranges depth 20), b_is c.greatest.ensures (search ranges depth 20)) depth 20) tt

pub returns : goal.returns
unfolding length_within
returns c =
    exact (search (
      ranges,
      b_is c.greatest-2.ensures (search (ranges, b_is c.least.ensures (search ranges depth 20), b_is c.greatest.ensures (search ranges depth 20)) depth 20),
    ) depth 20)
