-- One outcome (document 01): "For each input the contract of a public function leaves one result". What a contract permits is read off the function itself,
-- as `Learnt`, what a caller learns of a call. Assumes nothing.
use mathlib.Core.Path.{◌∙◌, sym}
use Rattle.whole.specs.Outcome.{OneResult}
use Rattle.grid.proofs.judging.counts_hold.Reads.{Learnt as counts-hold}
use Rattle.grid.proofs.judging.density_holds.Reads.{Learnt as density-holds}
use Rattle.grid.proofs.judging.terms_hold.Reads.{Learnt as terms_hold_lem}
use Rattle.grid.proofs.place.has_next.Reads.{Learnt as has-next}
use Rattle.grid.proofs.place.has_previous.Reads.{Learnt as has-previous}

pub one_outcome_counts_hold : OneResult counts-hold
one_outcome_counts_hold κs a z w e f p q = p ∙ sym q

pub one_outcome_density_holds : OneResult density-holds
one_outcome_density_holds κs a z w e f p q = p ∙ sym q

pub one_outcome_terms_hold : OneResult terms_hold_lem
one_outcome_terms_hold κs a z w e f p q = p ∙ sym q

pub one_outcome_has_next : OneResult has-next
one_outcome_has_next κs a z w e f p q = p ∙ sym q

pub one_outcome_has_previous : OneResult has-previous
one_outcome_has_previous κs a z w e f p q = p ∙ sym q
