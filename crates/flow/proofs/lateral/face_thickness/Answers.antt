-- The mean of two thicknesses. Assumes nothing.
use Rattle.whole.proofs.RangeLaws.{b_is, exact, positive, ranges}
use Rattle.flow.specs.Lateral.{face_thickness_of}
use Rattle.flow.proofs.lateral.face_thickness.Goals as goal

pub returns-then-high-gt0 : goal.returns-then-high-gt0
unfolding face_thickness_of
returns-then-high-gt0 c =
    rw (positive c.requires.fact tt c.if-low-gt0.true, positive c.requires.fact_2 tt c.if-high-gt0.true)
    (exact (search (ranges, b_is c.floor_div.ensures (search ranges depth 20)) depth 20))
