-- One outcome (document 01): "For each input the contract of a public function leaves one result". What a contract permits is read off the function itself,
-- as `Learnt`, what a caller learns of a call. Assumes nothing.
use mathlib.Core.Path.{◌∙◌, sym}
use Rattle.whole.specs.Outcome.{OneResult}
use Rattle.flow.proofs.litres.leaving.Reads.{Learnt as leaving}

pub one_outcome_leaving : OneResult leaving
one_outcome_leaving κs a z w e f p q = p ∙ sym q
