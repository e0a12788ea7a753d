-- One outcome (document 01): "For each input the contract of a public function leaves one result". What a contract permits is read off the function itself,
-- as `Learnt`, what a caller learns of a call. Assumes nothing.
use mathlib.Core.Path.{◌∙◌, sym}
use Rattle.budget.proofs.AnswersLaws.{answers_one}
use Rattle.whole.specs.Outcome.{OneResult}
use Rattle.budget.proofs.zone_table.Reads.{Learnt as zone-table}
use Rattle.budget.proofs.layer_table.Reads.{Learnt as layer-table}
use Rattle.budget.proofs.whole_table.Reads.{Learnt as whole-table}

pub one_outcome_zone_table : OneResult zone-table
one_outcome_zone_table κs a z w e f p q = answers_one z w (p ∙ sym q)

pub one_outcome_layer_table : OneResult layer-table
one_outcome_layer_table κs a z w e f p q = answers_one z w (p ∙ sym q)

pub one_outcome_whole_table : OneResult whole-table
one_outcome_whole_table κs a z w e f p q = answers_one z w (p ∙ sym q)
