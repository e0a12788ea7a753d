-- What is read is in range and has room, and its record goes over the front of what is lent.
use Rattle.std.proofs.Common.{◌∙◌, ◌≡◌, IfOk, List, ap, length, rules, ℤ}
use Rattle.whole.specs.Lent.{over}
use Rattle.crossing.specs.Crossing.{numbers_of_grid, read_handed, record_left}
use Rattle.crossing.proofs.CrossingLaws.{read_room}
use Rattle.client.proofs.HandedLaws.{Rowed, handed_row, passes, record_ranged, record_says, row_fits, rowed}
use Rattle.client.proofs.caydubeesh_read.Goals as goal

pub map-requires : goal.map-requires
map-requires c = let a = c.args in record_ranged a.file.now (length a.record.now) a.columns.now a.rows.now a.slots.now c.read_handed-answer.result c.read_handed-answer.ensures.answer

pub hand-requires : goal.hand-requires
hand-requires c =
    let a = c.args in
    let room = length a.record.now in
    let row : Rowed numbers_of_grid c.read_handed-answer.result c.map.result = rowed c.read_handed-answer.result c.map.result c.map.ensures.cases (λ g values p. search rules) in
    let wide : IfOk c.map.result (λ values. length values ≡ 9) = search rules in (
      search rules,
      row_fits numbers_of_grid 9 room c.read_handed-answer.result c.map.result row wide
          (λ g e. read_room a.file.now room a.columns.now a.rows.now a.slots.now (passes record_says c.read_handed-answer.ensures.answer g e).0),
    )

pub returns-clause-recorded : goal.returns-clause-recorded
unfolding record_left
returns-clause-recorded c =
    let a = c.args in
    let row : Rowed numbers_of_grid c.read_handed-answer.result c.map.result = rowed c.read_handed-answer.result c.map.result c.map.ensures.cases (λ g values p. search rules) in
    c.hand.ensures.out
    ∙ ap (λ (values : List ℤ). over values a.record.now)
    (handed_row numbers_of_grid record_says c.read_handed-answer.result c.map.result (read_handed a.file.now (length a.record.now) a.columns.now a.rows.now a.slots.now).answer c.read_handed-answer.ensures.answer row)
