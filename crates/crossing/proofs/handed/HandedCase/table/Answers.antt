-- What is lent for a table and its marks are measured together, and where nothing refuses them the zone is answered.
use Rattle.std.proofs.Common.{◌∙◌, ◌≡◌, ◌&&◌, leb, length}
use borrow.Author.Tests.{le-leb, lt-leb}
use Rattle.slices.specs.Inner.{reaches_over}
use Rattle.crossing.proofs.CrossingLaws.{table_given, table_marked}
use Rattle.crossing.proofs.handed.HandedCase.table.Goals as goal
use Rattle.crossing.proofs.handed.HandedCase.table.Goals.{In_ok-check_lent, else-room-ge-TABLE, then-room-ge-TABLE}

long : (c : In_ok-check_lent) → c.if-room-ge-TABLE.reaches ≡ leb 18 c.args.room && reaches_over c.in_ok-case.case.grid 1 (length c.args.marks.now)
long c =
    elim c.if-room-ge-TABLE.branch [
      | then-room-ge-TABLE w ↦ rw (le-leb 18 c.args.room w.if-room-ge-TABLE.true) (w.reaches-is ∙ w.reaches_over-reaches.ensures)
      | else-room-ge-TABLE w ↦ let short = lt-leb 18 c.args.room w.if-room-ge-TABLE.false in rw short (w.reaches-is ∙ short)
    ]

pub zone_of_case-requires : goal.zone_of_case-requires
zone_of_case-requires c =
    let formed = c.in_ok-check_lent.ensures in
    table_marked c.args.self c.args.marks.now c.args.room (c.in_ok-case.ensures) formed.same (long c) formed.refusal

pub returns : goal.returns
returns c =
    let formed = c.in_ok-check_lent.ensures in
    table_given c.args.self c.args.marks.now c.args.room (c.in_ok-case.ensures) formed.same (long c.before) formed.refusal _ c.zone_of_case.ensures
