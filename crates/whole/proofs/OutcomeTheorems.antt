-- One outcome (document 01): "For each input the contract of a public function leaves one result". What a contract permits is read off the function itself,
-- as `Learnt`, what a caller learns of a call. Assumes nothing.
use mathlib.Core.Path.{◌∙◌, sym}
use Rattle.whole.specs.Outcome.{OneResult}
use Rattle.whole.proofs.is_zero.Reads.{Learnt as is_zero}
use Rattle.whole.proofs.both_zero.Reads.{Learnt as both_zero}
use Rattle.whole.proofs.least.Reads.{Learnt as least}
use Rattle.whole.proofs.greatest.Reads.{Learnt as greatest}
use Rattle.whole.proofs.clamp.Reads.{Learnt as clamp}
use Rattle.whole.proofs.ranges.in_range.Reads.{Learnt as in-range}

pub one_outcome_is_zero : OneResult is_zero
one_outcome_is_zero κs a z w e f p q = p ∙ sym q

pub one_outcome_both_zero : OneResult both_zero
one_outcome_both_zero κs a z w e f p q = p ∙ sym q

pub one_outcome_least : OneResult least
one_outcome_least κs a z w e f p q = p ∙ sym q

pub one_outcome_greatest : OneResult greatest
one_outcome_greatest κs a z w e f p q = p ∙ sym q

pub one_outcome_clamp : OneResult clamp
one_outcome_clamp κs a z w e f p q = p ∙ sym q

pub one_outcome_in_range : OneResult in-range
one_outcome_in_range κs a z w e f p q = p ∙ sym q
