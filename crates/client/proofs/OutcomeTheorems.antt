-- One outcome (document 01): "For each input the contract of a public function leaves one result and one content of lent memory, refusals too." What a
-- contract permits is read off the function itself, as `Learnt`, what a caller learns of a call. Each theorem is of the refusal's number, of the block, and
-- of what is then in each lent slice. Assumes nothing.
use mathlib.Core.Path.{◌∙◌, sym}
use Rattle.whole.specs.Outcome.{OneContent, OneResult}
use Rattle.client.proofs.caydubeesh_check.Reads.{Learnt as check}
use Rattle.client.proofs.caydubeesh_floor_tick.Reads.{Learnt as floor-tick}
use Rattle.client.proofs.caydubeesh_metres.Reads.{Learnt as metres}
use Rattle.client.proofs.caydubeesh_read.Reads.{Learnt as read}
use Rattle.client.proofs.caydubeesh_report.Reads.{Learnt as report}
use Rattle.client.proofs.caydubeesh_tick.Reads.{Learnt as tick}
use Rattle.client.proofs.caydubeesh_verdict.Reads.{Learnt as verdict}
use Rattle.client.proofs.caydubeesh_zone_table.Reads.{Learnt as zone-table}

pub one_outcome_caydubeesh_check : OneResult check × OneContent check (λ κs e. e.1.1.1.1.0.now)
one_outcome_caydubeesh_check = (λ κs a z w e f p q. p.0 ∙ sym q.0, λ κs a z w e f p q. p.1 ∙ sym q.1)

pub one_outcome_caydubeesh_verdict :
    OneResult verdict
    × (OneContent verdict (λ κs e. e.1.1.1.1.1.0.now) × OneContent verdict (λ κs e. e.1.1.1.1.0.now))
one_outcome_caydubeesh_verdict =
    (λ κs a z w e f p q. p.0 ∙ sym q.0, (λ κs a z w e f p q. p.1.0 ∙ sym q.1.0, λ κs a z w e f p q. p.1.1 ∙ sym q.1.1))

pub one_outcome_caydubeesh_zone_table :
    OneResult zone-table
    × (OneContent zone-table (λ κs e. e.1.1.1.1.1.1.0.now) × OneContent zone-table (λ κs e. e.1.1.1.1.1.0.now))
one_outcome_caydubeesh_zone_table =
    (λ κs a z w e f p q. p.0 ∙ sym q.0, (λ κs a z w e f p q. p.1.0 ∙ sym q.1.0, λ κs a z w e f p q. p.1.1 ∙ sym q.1.1))

pub one_outcome_caydubeesh_report :
    OneResult report
    × (OneContent report (λ κs e. e.1.1.1.1.1.1.0.now) × OneContent report (λ κs e. e.1.1.1.1.1.0.now))
one_outcome_caydubeesh_report =
    (λ κs a z w e f p q. p.0 ∙ sym q.0, (λ κs a z w e f p q. p.1.0 ∙ sym q.1.0, λ κs a z w e f p q. p.1.1 ∙ sym q.1.1))

-- the record, the widths of columns and rows, and the slots, after the block
pub one_outcome_caydubeesh_read :
    OneResult read
    × (OneContent read (λ κs e. e.1.1.1.1.1.0.now)
    × (OneContent read (λ κs e. e.1.0.now)
    × (OneContent read (λ κs e. e.1.1.0.now) × (OneContent read (λ κs e. e.1.1.1.0.now) × OneContent read (λ κs e. e.1.1.1.1.0.now)))))
one_outcome_caydubeesh_read = (
  λ κs a z w e f p q. p.0 ∙ sym q.0,
  (
    λ κs a z w e f p q. p.1.0 ∙ sym q.1.0,
    (
      λ κs a z w e f p q. p.1.1.0 ∙ sym q.1.1.0,
      (
        λ κs a z w e f p q. p.1.1.1.0 ∙ sym q.1.1.1.0,
        (λ κs a z w e f p q. p.1.1.1.1.0 ∙ sym q.1.1.1.1.0, λ κs a z w e f p q. p.1.1.1.1.1 ∙ sym q.1.1.1.1.1),
      ),
    ),
  ),
)

-- a tick, and metres: the number that was lent for it
pub one_outcome_caydubeesh_tick : OneResult tick × OneContent tick (λ κs e. e.1.0.now)
one_outcome_caydubeesh_tick = (λ κs a z w e f p q. p.0 ∙ sym q.0, λ κs a z w e f p q. p.1 ∙ sym q.1)

pub one_outcome_caydubeesh_floor_tick : OneResult floor-tick × OneContent floor-tick (λ κs e. e.1.0.now)
one_outcome_caydubeesh_floor_tick = (λ κs a z w e f p q. p.0 ∙ sym q.0, λ κs a z w e f p q. p.1 ∙ sym q.1)

pub one_outcome_caydubeesh_metres : OneResult metres × OneContent metres (λ κs e. e.1.0.now)
one_outcome_caydubeesh_metres = (λ κs a z w e f p q. p.0 ∙ sym q.0, λ κs a z w e f p q. p.1 ∙ sym q.1)
