use Rattle.std.proofs.Common.{◌∙◌, ◌≡◌, ap₂, sym, true}
use Rattle.whole.specs.Whole.{max_ℤ}
use Rattle.whole.proofs.RangeLaws.{leaf, ranges, within}
use Rattle.wellformed.specs.Inner.{far_within}
use Rattle.wellformed.proofs.QuickLaws.{far_neither, greater_told}
use Rattle.wellformed.proofs.limits.either_exceeds.Goals as goal

pub far_within-requires-clause-fact : goal.far_within-requires-clause-fact
far_within-requires-clause-fact c =
    rw (greater_told c.requires.low.k c.requires.high.k tt c.max-k.type_inv c.max-k.ensures.value)
    (within (search (ranges, leaf c.requires.low.k, leaf c.requires.high.k) depth 20) tt tt)

pub far_within-requires-clause-fact_2 : goal.far_within-requires-clause-fact_2
far_within-requires-clause-fact_2 c =
    rw (greater_told c.requires.low.thickness c.requires.high.thickness tt c.max-thickness.type_inv c.max-thickness.ensures.value)
    (within (search (ranges, leaf c.requires.low.thickness, leaf c.requires.high.thickness) depth 20) tt tt)

pub returns-else-not-far_within : goal.returns-else-not-far_within
returns-else-not-far_within c =
    let k = greater_told c.requires.low.k c.requires.high.k tt c.max-k.type_inv c.max-k.ensures.value in
    let thickness = greater_told c.requires.low.thickness c.requires.high.thickness tt c.max-thickness.type_inv c.max-thickness.ensures.value in
    let told : far_within c.args.face (max_ℤ c.args.low.k c.args.high.k) (max_ℤ c.args.low.thickness c.args.high.thickness) ≡ true =
    ap₂ (far_within c.args.face) (sym k) (sym thickness) ∙ sym c.far_within.ensures ∙ c.if-not-far_within.false in
    rw c.if-not-far_within.false (sym (far_neither c.args.g c.args.face c.args.low c.args.high c.requires told))
