-- One outcome (document 01): "For each input the contract of a public function leaves one result". What a contract permits is read off the function itself,
-- as `Learnt`, what a caller learns of a call. Assumes nothing.
use mathlib.Core.Path.{◌∙◌, sym}
use Rattle.whole.specs.Outcome.{OneResult}
use Rattle.slots.proofs.ranges.range_of.Reads.{Learnt as range-of}

pub one_outcome_range_of : OneResult range-of
one_outcome_range_of κs a z w e f p q = p ∙ sym q
