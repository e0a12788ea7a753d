-- One outcome (document 01): "For each input the contract of a public function leaves one result". What a contract permits is read off the function itself,
-- as `Learnt`, what a caller learns of a call. Assumes nothing.
use mathlib.Core.Path.{◌∙◌, sym}
use Rattle.verdict.proofs.RulingLaws.{answers_one}
use Rattle.whole.specs.Outcome.{OneResult}
use Rattle.verdict.proofs.verdict_of_case.Reads.{Learnt as verdict-of-case}
use Rattle.verdict.proofs.verdict_of_slices.Reads.{Learnt as verdict-of-slices}

pub one_outcome_verdict_of_slices : OneResult verdict-of-slices
one_outcome_verdict_of_slices κs a z w e f p q = answers_one z w (p ∙ sym q)

pub one_outcome_verdict_of_case : OneResult verdict-of-case
one_outcome_verdict_of_case κs a z w e f p q = p ∙ sym q
