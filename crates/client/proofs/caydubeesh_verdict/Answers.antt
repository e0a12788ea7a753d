-- What is answered is small and has room, and goes over the front of what is lent.
use Rattle.std.proofs.Common.{◌∙◌, ◌≡◌, IfOk, List, ap, length, rules, ℤ}
use Rattle.whole.specs.Lent.{over}
use Rattle.crossing.specs.Crossing.{numbers_of_verdict, verdict_handed, verdict_left}
use Rattle.crossing.proofs.CrossingLaws.{verdict_room}
use Rattle.client.proofs.HandedLaws.{Rowed, handed_row, passes, row_fits, rowed, verdict_says, verdict_small}
use Rattle.client.proofs.caydubeesh_verdict.Goals as goal

pub map-answer-requires : goal.map-answer-requires
map-answer-requires c = let a = c.args in verdict_small a.record.now a.columns.now a.rows.now a.slots.now (length a.verdict.now) c.verdict.result c.verdict.ensures

pub hand-requires : goal.hand-requires
hand-requires c =
    let a = c.args in
    let room = length a.verdict.now in
    let row : Rowed numbers_of_verdict c.verdict.result c.map-answer.result = rowed c.verdict.result c.map-answer.result c.map-answer.ensures.cases (λ v values p. search rules) in
    let wide : IfOk c.map-answer.result (λ values. length values ≡ 4) = search rules in
    (search rules, row_fits numbers_of_verdict 4 room c.verdict.result c.map-answer.result row wide (λ v e. verdict_room a.record.now a.columns.now a.rows.now a.slots.now room (passes verdict_says c.verdict.ensures v e).0))

pub returns-clause-verdict : goal.returns-clause-verdict
unfolding verdict_left
returns-clause-verdict c =
    let a = c.args in
    let row : Rowed numbers_of_verdict c.verdict.result c.map-answer.result = rowed c.verdict.result c.map-answer.result c.map-answer.ensures.cases (λ v values p. search rules) in
    c.hand.ensures.out
    ∙ ap (λ (values : List ℤ). over values a.verdict.now)
    (handed_row numbers_of_verdict verdict_says c.verdict.result c.map-answer.result (verdict_handed a.record.now a.columns.now a.rows.now a.slots.now (length a.verdict.now)) c.verdict.ensures row)
