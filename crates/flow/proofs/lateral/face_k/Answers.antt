-- Equal K by the law of equal K; for others dividend and divisor fit by the ranges of widths and K. Assumes nothing.
use mathlib.Core.Path.{◌∙◌, ap, sym}
use Rattle.whole.proofs.RangeLaws.{b_is, exact, fits, leaf, no_less, ranges, read, same_bits}
use Rattle.flow.specs.Lateral.{face_k_of}
use Rattle.flow.proofs.LateralLaws.{face_k_equal}
use Rattle.flow.proofs.lateral.face_k.Goals as goal

pub returns-then-low-high : goal.returns-then-low-high
returns-then-low-high c =
    let a = c.args in
    let r = c.requires in
    read r.fact tt ∙ sym (face_k_equal a.face a.low r.face_in r.fact) ∙ ap (face_k_of a.face a.low) (same_bits c.ranges.low c.ranges.high c.if-low-high.true)

pub overflow_mul-face : goal.overflow_mul-face
overflow_mul-face c = fits (search ranges depth 20) tt

pub overflow_mul-face-else-low-high : goal.overflow_mul-face-else-low-high
overflow_mul-face-else-low-high c = fits (search ranges depth 20) tt

pub overflow_mul-face-else-low-high-2 : goal.overflow_mul-face-else-low-high-2
overflow_mul-face-else-low-high-2 c = fits (search ranges depth 20) tt

pub overflow_mul-face-else-low-high-3 : goal.overflow_mul-face-else-low-high-3
overflow_mul-face-else-low-high-3 c = fits (search ranges depth 20) tt

pub overflow_add-face-else-low-high : goal.overflow_add-face-else-low-high
overflow_add-face-else-low-high c = fits (search ranges depth 20) tt

pub floor_div-requires : goal.floor_div-requires
floor_div-requires c =
    let r = c.requires in
    no_less (search (ranges, leaf r.face_in.low, leaf r.face_in.high, leaf r.fact, leaf r.fact_2) depth 20) tt

pub returns-else-low-high : goal.returns-else-low-high
unfolding face_k_of
returns-else-low-high c =
    let r = c.requires in
    exact (search (ranges, b_is c.floor_div.ensures (search (ranges, leaf r.face_in.low, leaf r.face_in.high, leaf r.fact, leaf r.fact_2) depth 20)) depth 20)
