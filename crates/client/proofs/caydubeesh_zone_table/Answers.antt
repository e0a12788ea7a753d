-- What is answered has room, and goes over the front of what is lent.
use Rattle.std.proofs.Common.{◌∙◌, ◌≡◌, IfOk, List, ap, length, rules, ℤ}
use Rattle.whole.specs.Lent.{over}
use Rattle.crossing.specs.Crossing.{table_handed, table_left}
use Rattle.crossing.proofs.CrossingLaws.{table_room}
use Rattle.client.proofs.HandedLaws.{handed_row, lines_rowed, passes, row_fits, table_says}
use Rattle.client.proofs.caydubeesh_zone_table.Goals as goal

pub hand-requires : goal.hand-requires
hand-requires c =
    let a = c.args in
    let room = length a.lines.now in
    let wide : IfOk c.table-answer.result (λ lines. length lines ≡ 18) = search rules in (
      search rules,
      row_fits (λ lines. lines) 18 room c.table-answer.result c.table-answer.result (lines_rowed c.table-answer.result) wide
          (λ lines e. table_room a.record.now a.columns.now a.rows.now a.slots.now room a.marks.now (passes table_says c.table-answer.ensures lines e).0),
    )

pub returns-clause-lines : goal.returns-clause-lines
unfolding table_left
returns-clause-lines c =
    let a = c.args in
    c.hand.ensures.out
    ∙ ap (λ (values : List ℤ). over values a.lines.now)
    (handed_row (λ lines. lines) table_says c.table-answer.result c.table-answer.result (table_handed a.record.now a.columns.now a.rows.now a.slots.now a.marks.now (length a.lines.now)) c.table-answer.ensures (lines_rowed c.table-answer.result))
