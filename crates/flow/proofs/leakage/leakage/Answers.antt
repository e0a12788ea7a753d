-- The calls are the definition's steps. Assumes nothing.
use mathlib.Core.Path.{◌∙◌}
use Rattle.whole.proofs.RangeLaws.{answer, read}
use Rattle.flow.specs.Leakage.{difference_of, leakage_of, lowermost_of, uppermost_of}
use Rattle.flow.specs.Litres.{leaving_of, litres_of}
use Rattle.flow.proofs.LeakageLaws.{difference_in, lowermost_is, uppermost_is}
use Rattle.flow.proofs.leakage.leakage.Goals as goal

pub difference-requires-clause-low_le_salt : goal.difference-requires-clause-low_le_salt
difference-requires-clause-low_le_salt c = rw c.uppermost-low.ensures (uppermost_is c.args.lower.thickness)

pub difference-requires-clause-high_le_salt : goal.difference-requires-clause-high_le_salt
difference-requires-clause-high_le_salt c = rw c.lowermost-high.ensures (lowermost_is c.args.upper.thickness)

pub litres-flow-requires-clause-abs : goal.litres-flow-requires-clause-abs
litres-flow-requires-clause-abs c =
    let a = c.args in
    let r = c.requires in
    let d = answer c.difference.type_inv
    (c.difference.ensures ∙ (λ i. difference_of a.g a.lower.heads a.upper.heads (c.uppermost-low.ensures i) (c.lowermost-high.ensures i) (read r.level tt i))) in
    rw d
    (difference_in a.g a.lower.heads a.upper.heads (uppermost_of a.lower.thickness) (lowermost_of a.upper.thickness) a.level r.termed r.leakage_side_in.heads r.leakage_side_in_2.heads (uppermost_is a.lower.thickness) (lowermost_is a.upper.thickness) r.level)

pub returns : goal.returns
unfolding leakage_of
returns c =
    let a = c.args in
    let r = c.requires in
    let d = answer c.difference.type_inv
    (c.difference.ensures ∙ (λ i. difference_of a.g a.lower.heads a.upper.heads (c.uppermost-low.ensures i) (c.lowermost-high.ensures i) (read r.level tt i))) in
    let flow = answer c.litres-flow.type_inv (c.litres-flow.ensures ∙ (λ i. litres_of (read r.fact tt i) (d i))) in
    answer c.leaving.type_inv (c.leaving.ensures ∙ (λ i. leaving_of (answer c.together.type_inv c.together.ensures i) (answer c.together-2.type_inv c.together-2.ensures i) (flow i)))
