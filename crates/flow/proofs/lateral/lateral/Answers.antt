-- The calls are the definition's steps. Assumes nothing.
use mathlib.Core.Path.{◌∙◌, ◌≡◌, ap₂}
use lib.IntN.{◌-ℤ◌}
use mir.Syntax.{w64}
use mir.Val.{of_z, to_z}
use Rattle.whole.proofs.RangeLaws.{answer, exact, ranges, read}
use Rattle.flow.specs.declared.lateral.Side.{Side}
use Rattle.flow.specs.Inner.{SideIn}
use Rattle.flow.specs.Lateral.{conductance_of, face_conductance_of, face_k_of, face_thickness_of, lateral_of}
use Rattle.flow.specs.Litres.{leaving_of, litres_of}
use Rattle.flow.proofs.LateralLaws.{through_k, through_nonneg, through_thickness}
use Rattle.flow.proofs.lateral.lateral.Goals as goal

apart : (a b : Side) → SideIn a → SideIn b → to_z w64 (of_z w64 (to_z w64 (of_z w64 a.head) -ℤ to_z w64 (of_z w64 b.head))) ≡ a.head -ℤ b.head
apart a b h k = exact (search ranges depth 20)

pub conductance-through-requires-clause-fact : goal.conductance-through-requires-clause-fact
conductance-through-requires-clause-fact c =
    let a = c.args in
    let r = c.requires in
    rw (answer c.face_k-k.type_inv (c.face_k-k.ensures ∙ ap₂ (face_k_of a.face) (read r.side_in.k tt) (read r.side_in_2.k tt)))
    (through_k a.face a.low a.high a.behind r.face_in r.side_in r.side_in_2 r.behind_in)

pub conductance-through-requires-clause-fact_2 : goal.conductance-through-requires-clause-fact_2
conductance-through-requires-clause-fact_2 c =
    let a = c.args in
    let r = c.requires in
    rw (answer c.face_thickness-thickness.type_inv
    (c.face_thickness-thickness.ensures ∙ (λ i. face_thickness_of a.face (read r.side_in.thickness tt i) (read r.side_in_2.thickness tt i) a.behind)))
    (through_thickness a.face a.low a.high a.behind r.face_in r.side_in r.side_in_2 r.behind_in)

pub litres-flow-requires-clause-fact : goal.litres-flow-requires-clause-fact
unfolding face_conductance_of
litres-flow-requires-clause-fact c =
    let a = c.args in
    let r = c.requires in
    let k = answer c.face_k-k.type_inv (c.face_k-k.ensures ∙ ap₂ (face_k_of a.face) (read r.side_in.k tt) (read r.side_in_2.k tt)) in
    let thickness = answer c.face_thickness-thickness.type_inv
    (c.face_thickness-thickness.ensures ∙ (λ i. face_thickness_of a.face (read r.side_in.thickness tt i) (read r.side_in_2.thickness tt i) a.behind)) in
    let through = answer c.conductance-through.type_inv (c.conductance-through.ensures ∙ ap₂ (conductance_of a.face) k thickness) in
    rw through (record { low = through_nonneg a.face a.low a.high a.behind r.face_in r.side_in r.side_in_2 r.behind_in; high = r.behind_bound })

pub returns : goal.returns
unfolding lateral_of face_conductance_of
returns c =
    let a = c.args in
    let r = c.requires in
    let k = answer c.face_k-k.type_inv (c.face_k-k.ensures ∙ ap₂ (face_k_of a.face) (read r.side_in.k tt) (read r.side_in_2.k tt)) in
    let thickness = answer c.face_thickness-thickness.type_inv
    (c.face_thickness-thickness.ensures ∙ (λ i. face_thickness_of a.face (read r.side_in.thickness tt i) (read r.side_in_2.thickness tt i) a.behind)) in
    let through = answer c.conductance-through.type_inv (c.conductance-through.ensures ∙ ap₂ (conductance_of a.face) k thickness) in
    let flow = answer c.litres-flow.type_inv (c.litres-flow.ensures ∙ ap₂ litres_of through (apart a.low a.high r.side_in r.side_in_2)) in
    answer c.leaving.type_inv (c.leaving.ensures ∙ (λ i. leaving_of (read r.side_in.thickness tt i) (read r.side_in_2.thickness tt i) (flow i)))
