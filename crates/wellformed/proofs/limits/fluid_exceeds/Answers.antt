use Rattle.std.proofs.Common.{◌∙◌, ◌≡◌, ap, ap₂, pos, to_z, of_z, w64}
use lib.Signed.{lt_z}
use Rattle.whole.specs.Whole.{max_ℤ}
use Rattle.whole.proofs.RangeLaws.{answer, leaf, ranges, within}
use Rattle.block.specs.Geometry.{k_of}
use Rattle.block.proofs.BlockLaws.{k_in_range}
use Rattle.flow.specs.Lateral.{conductance_of, face_k_of}
use Rattle.flow.specs.Litres.{most_conductance}
use Rattle.flow.proofs.LateralLaws.{face_k_in}
use Rattle.wellformed.specs.Limits.{greatest_of}
use Rattle.wellformed.proofs.QuickLaws.{greater_told}
use Rattle.wellformed.proofs.limits.fluid_exceeds.Goals as goal
use Rattle.wellformed.proofs.limits.fluid_exceeds.Goals.{After-max-thickness}

pub face_k-k-requires-clause-fact : goal.face_k-k-requires-clause-fact
face_k-k-requires-clause-fact c =
    rw (answer c.k_in.type_inv c.k_in.ensures) (k_in_range c.args.g c.args.low c.args.fluid c.requires.termed c.requires.low c.requires.low_some)

pub face_k-k-requires-clause-fact_2 : goal.face_k-k-requires-clause-fact_2
face_k-k-requires-clause-fact_2 c =
    rw (answer c.k_in-2.type_inv c.k_in-2.ensures) (k_in_range c.args.g c.args.high c.args.fluid c.requires.termed c.requires.high c.requires.high_some)

-- K of the face, and the greater thickness
k-told : (c : After-max-thickness) → to_z w64 (of_z w64 c.face_k-k.result) ≡ face_k_of c.args.face (k_of c.args.g c.args.low c.args.fluid) (k_of c.args.g c.args.high c.args.fluid)
k-told c =
    answer c.face_k-k.type_inv (c.face_k-k.ensures ∙ ap₂ (face_k_of c.args.face) (answer c.k_in.type_inv c.k_in.ensures) (answer c.k_in-2.type_inv c.k_in-2.ensures))

thickness-told : (c : After-max-thickness) → to_z w64 (of_z w64 c.max-thickness.result) ≡ max_ℤ c.args.low.thickness c.args.high.thickness
thickness-told c = greater_told c.requires.low.thickness c.requires.high.thickness tt c.max-thickness.type_inv c.max-thickness.ensures.value

pub conductance-requires-clause-fact : goal.conductance-requires-clause-fact
conductance-requires-clause-fact c =
    rw (k-told c)
    (face_k_in c.args.face (k_of c.args.g c.args.low c.args.fluid) (k_of c.args.g c.args.high c.args.fluid) c.requires.face
    (k_in_range c.args.g c.args.low c.args.fluid c.requires.termed c.requires.low c.requires.low_some)
    (k_in_range c.args.g c.args.high c.args.fluid c.requires.termed c.requires.high c.requires.high_some))

pub conductance-requires-clause-fact_2 : goal.conductance-requires-clause-fact_2
conductance-requires-clause-fact_2 c = rw (thickness-told c) (within (search (ranges, leaf c.requires.low.thickness, leaf c.requires.high.thickness) depth 20) tt tt)

pub returns : goal.returns
unfolding greatest_of
returns c =
    ap (lt_z (pos most_conductance)) (answer c.conductance.type_inv (c.conductance.ensures ∙ ap₂ (conductance_of c.args.face) (k-told c.before) (thickness-told c.before)))
