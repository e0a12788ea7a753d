-- What is answered has room, and goes over the front of what is lent.
use Rattle.std.proofs.Common.{◌∙◌, ◌≡◌, IfOk, List, ap, length, rules}
use Rattle.std.specs.Float.{Float}
use Rattle.whole.specs.Lent.{over}
use Rattle.crossing.specs.Crossing.{doubles_of, report_handed, report_left}
use Rattle.crossing.proofs.CrossingLaws.{report_room}
use Rattle.client.proofs.HandedLaws.{Rowed, handed_row, passes, report_says, row_fits, rowed}
use Rattle.client.proofs.caydubeesh_report.Goals as goal

pub hand-requires : goal.hand-requires
hand-requires c =
    let a = c.args in
    let room = length a.metres.now in
    let row : Rowed doubles_of c.report.result c.map-answer.result = rowed c.report.result c.map-answer.result c.map-answer.ensures.cases (λ r values p. search rules) in
    let wide : IfOk c.map-answer.result (λ values. length values ≡ 5) = search rules in
    (search rules, row_fits doubles_of 5 room c.report.result c.map-answer.result row wide (λ r e. report_room a.record.now a.columns.now a.rows.now a.slots.now room a.number (passes report_says c.report.ensures r e).0))

pub returns-clause-metres : goal.returns-clause-metres
unfolding report_left
returns-clause-metres c =
    let a = c.args in
    let row : Rowed doubles_of c.report.result c.map-answer.result = rowed c.report.result c.map-answer.result c.map-answer.ensures.cases (λ r values p. search rules) in
    c.hand.ensures.out
    ∙ ap (λ (values : List Float). over values a.metres.now)
    (handed_row doubles_of report_says c.report.result c.map-answer.result (report_handed a.record.now a.columns.now a.rows.now a.slots.now a.number (length a.metres.now)) c.report.ensures row)
