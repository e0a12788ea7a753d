use Rattle.std.proofs.Common.{◌∙◌, refl}
use Rattle.std.proofs.lemmas.Result.{err_from_is_err_and}
use Rattle.slices.specs.Slices.{case_of}
use Rattle.slices.proofs.SlicesLaws.{shape_passed}
use Rattle.casefile.proofs.ReadingLaws.{judging_refused, termed_counted, termed_roomy, weighed_counted, weighed_roomy}
use Rattle.casefile.proofs.read_case.Goals as goal

pub returns-in_err-shape : goal.returns-in_err-shape
returns-in_err-shape c =
    let a = c.args in
    let p = err_from_is_err_and c.from_residual-in_err-shape.result c.from_residual-in_err-shape.ensures.1 in
    let e = c.in_ok-head.ensures a.columns.now a.rows.now a.slots.now ∙ judging_refused c.in_err-shape.field-0.0 _ _ c.in_err-shape.ensures in
    record { answer = rw (p.1, p.2, e) refl; columns = rw e refl; rows = rw e refl; slots = rw e refl }

pub read_body-requires-clause-counted : goal.read_body-requires-clause-counted
read_body-requires-clause-counted c =
    let a = c.args in
    let shape = shape_passed (case_of c.in_ok-head.head.grid a.columns.now a.rows.now a.slots.now) c.in_ok-shape.ensures in
    rw (c.in_ok-head-3.ensures.record, c.in_ok-head-2.ensures.record) (termed_counted _ _ (weighed_counted _ _ shape.0))

pub read_body-requires-clause-roomy : goal.read_body-requires-clause-roomy
read_body-requires-clause-roomy c =
    let a = c.args in
    let shape = shape_passed (case_of c.in_ok-head.head.grid a.columns.now a.rows.now a.slots.now) c.in_ok-shape.ensures in
    rw (c.in_ok-head-3.ensures.record, c.in_ok-head-2.ensures.record) (termed_roomy _ _ a.columns.now a.rows.now a.slots.now (weighed_roomy _ _ a.columns.now a.rows.now a.slots.now shape.1))
