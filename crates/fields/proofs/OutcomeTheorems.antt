-- One outcome (document 01): "For each input the contract of a public function leaves one result and one content of lent memory, refusals too." What a
-- contract permits is read off the function itself, as `Learnt`, what a caller learns of a call. Assumes nothing.
use mathlib.Core.Path.{◌∙◌, refl, sym}
use Rattle.whole.specs.Outcome.{OneResult}
use Rattle.slices.proofs.SlicesLaws.{answers_same}
use Rattle.fields.proofs.runs.ending.Reads.{Learnt as ending}

pub one_outcome_ending : OneResult ending
one_outcome_ending κs a z w e f p q = answers_same z w (λ x y h k. refl) (p ∙ sym q)
