-- One outcome (document 01): "For each input the contract of a public function leaves one result". What a contract permits is read off the function itself,
-- as `Learnt`, what a caller learns of a call. Assumes nothing.
use mathlib.Core.Path.{◌∙◌, sym}
use Rattle.whole.specs.Outcome.{OneResult}
use Rattle.session.proofs.SessionLaws.{results_one}
use Rattle.session.proofs.session_of_slices.Reads.{Learnt as session-of-slices}
use Rattle.session.proofs.session_of_file.Reads.{Learnt as session-of-file}

pub one_outcome_session_of_slices : OneResult session-of-slices
one_outcome_session_of_slices κs a z w e f p q = results_one z w (p ∙ sym q)

pub one_outcome_session_of_file : OneResult session-of-file
one_outcome_session_of_file κs a z w e f p q = results_one z w (p ∙ sym q)
