-- One outcome (document 01): "For each input the contract of a public function leaves one result". What a contract permits is read off the function itself,
-- as `Learnt`, what a caller learns of a call. Assumes nothing.
use Rattle.std.proofs.Common.{◌≡◌, ◌∙◌, Result, Ok, Err, ap, refl, sym}
use Rattle.whole.specs.Outcome.{OneResult}
use Rattle.slices.specs.declared.refusal.Refusal.{Refusal as Refused}
use Rattle.slices.specs.Refusals.{refusal_in}
use Rattle.slices.proofs.SlicesLaws.{answers_same}
use Rattle.report.specs.declared.Report.{Report}
use Rattle.report.specs.Reports.{answer_in}
use Rattle.report.proofs.report_of_case.Reads.{Learnt as report-of-case}
use Rattle.report.proofs.block_report.Reads.{Learnt as block-report}

-- what is said of an answer tells the answer
pub answer_same : (r s : Result Report Refused) → answer_in r ≡ answer_in s → r ≡ s
answer_same r s e = answers_same r s (λ x y h k. ap (λ a. a.report) (sym (ap answer_in h) ∙ e ∙ ap answer_in k)) (sym (refused r) ∙ ap (λ a. a.refusal) e ∙ refused s)
  where
    refused : (r : Result Report Refused) → (answer_in r).refusal ≡ refusal_in r
    refused (Ok report) = refl
    refused (Err d) = refl

pub one_outcome_block_report : OneResult block-report
one_outcome_block_report κs a z w e f p q = answer_same z w (p ∙ sym q)

pub one_outcome_report_of_case : OneResult report-of-case
one_outcome_report_of_case κs a z w e f p q = answer_same z w (p ∙ sym q)
