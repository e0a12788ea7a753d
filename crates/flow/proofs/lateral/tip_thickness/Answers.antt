-- The library's calls are the definition's steps. Assumes nothing.
use Rattle.whole.proofs.OrderLaws.{greatest_turned}
use Rattle.whole.proofs.RangeLaws.{b_is, exact, fits, leaf, positive, ranges}
use Rattle.flow.specs.Lateral.{tip_of}
use Rattle.flow.proofs.lateral.tip_thickness.Goals as goal

pub overflow_mul-rise : goal.overflow_mul-rise
overflow_mul-rise c =
    let rise = c.max-rise.ensures.value in
    fits (search (ranges, b_is (simp greatest_turned at rise) (search ranges depth 20)) depth 20) tt

pub overflow_sub-thickness : goal.overflow_sub-thickness
overflow_sub-thickness c =
    let r = c.requires in
    let rise = c.max-rise.ensures.value in
    fits (search (
      ranges,
      leaf r.fact,
      b_is c.floor_div-lost.ensures
          (search (ranges, b_is (simp greatest_turned at rise) (search ranges depth 20), leaf r.width, leaf r.behind_in.width) depth 20),
    ) depth 20) tt

pub returns-then-behind-gt0 : goal.returns-then-behind-gt0
unfolding tip_of
returns-then-behind-gt0 c =
    let r = c.requires in
    let rise = c.max-rise.ensures.value in
    let left = c.max.ensures.value in
    rw (positive r.behind_in.thickness tt c.if-behind-gt0.true)
    (exact (search (
      ranges,
      b_is (simp greatest_turned at left) (search (
        ranges,
        leaf r.fact,
        b_is c.floor_div-lost.ensures
            (search (ranges, b_is (simp greatest_turned at rise) (search ranges depth 20), leaf r.width, leaf r.behind_in.width) depth 20),
      ) depth 20),
    ) depth 20))
