-- One outcome (document 01): "For each input the contract of a public function leaves one result and one content of lent memory, refusals too." What a
-- contract permits is read off the function itself, as `Learnt`, what a caller learns of a call. Assumes nothing.
use Rattle.std.proofs.Common.{◌≡◌, ◌∙◌, sym}
use Rattle.std.proofs.lemmas.Result.{IfOk-at_ok}
use Rattle.whole.specs.Outcome.{OneContent, OneResult}
use Rattle.slices.proofs.SlicesLaws.{answers_same}
use Rattle.wellformed.specs.declared.WellFormedCase.{WellFormedCase}
use Rattle.wellformed.proofs.OutcomeTheorems.{formed_same}
use Rattle.report.proofs.OutcomeTheorems.{answer_same as report_same}
use Rattle.verdict.proofs.RulingLaws.{answers_one as verdict_one}
use Rattle.budget.proofs.AnswersLaws.{results_one as table_one}
use Rattle.casefile.proofs.OutcomeTheorems.{same_answer as record_same}
use Rattle.crossing.specs.Inner.{lent_of}
use Rattle.crossing.proofs.grid_of.Reads.{Learnt as grid-of}
use Rattle.crossing.proofs.handed.HandedCase.check.Reads.{Learnt as check}
use Rattle.crossing.proofs.handed.HandedCase.report.Reads.{Learnt as report}
use Rattle.crossing.proofs.handed.HandedCase.table.Reads.{Learnt as table}
use Rattle.crossing.proofs.handed.HandedCase.verdict.Reads.{Learnt as verdict}
use Rattle.crossing.proofs.handed.read_handed.Reads.{Learnt as read}

pub one_outcome_grid_of : OneResult grid-of
one_outcome_grid_of κs a z w e f p q = p ∙ sym q

pub one_outcome_check_handed : OneResult check
one_outcome_check_handed κs a z w e f p q =
    answers_same z w
    (λ x y h k. formed_same x y (IfOk-at_ok (λ (v : WellFormedCase). v.case ≡ lent_of a.0) h p.1 ∙ sym (IfOk-at_ok (λ (v : WellFormedCase). v.case ≡ lent_of a.0) k q.1)))
    (p.0 ∙ sym q.0)

pub one_outcome_verdict_handed : OneResult verdict
one_outcome_verdict_handed κs a z w e f p q = verdict_one z w (p ∙ sym q)

pub one_outcome_table_handed : OneResult table
one_outcome_table_handed κs a z w e f p q = table_one z w (p ∙ sym q)

pub one_outcome_report_handed : OneResult report
one_outcome_report_handed κs a z w e f p q = report_same z w (p ∙ sym q)

-- the answer, and what is then in the lent column widths, row widths and slots
pub one_outcome_read_handed :
    OneResult read
    × (OneContent read (λ κs e. e.1.1.0.now)
    × (OneContent read (λ κs e. e.1.1.1.0.now) × OneContent read (λ κs e. e.1.1.1.1.0.now)))
one_outcome_read_handed = (
  λ κs a z w e f p q. record_same z w (p.0 ∙ sym q.0),
  (λ κs a z w e f p q. p.1.0 ∙ sym q.1.0, (λ κs a z w e f p q. p.1.1.0 ∙ sym q.1.1.0, λ κs a z w e f p q. p.1.1.1 ∙ sym q.1.1.1)),
)
