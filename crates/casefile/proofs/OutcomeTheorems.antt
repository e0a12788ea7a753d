-- One outcome (document 01): "For each input the contract of a public function leaves one result and one content of lent memory, refusals too." What a
-- contract permits is read off the function itself, as `Learnt`, what a caller learns of a call. Assumes nothing.
use mathlib.Core.Path.{◌∙◌, ◌≡◌, ap, refl, sym}
use Rattle.std.specs.Prelude.{Result, Ok, Err}
use Rattle.whole.specs.Outcome.{OneContent, OneResult}
use Rattle.grid.specs.declared.Grid.{Grid}
use Rattle.slices.specs.declared.refusal.Refusal.{Refusal}
use Rattle.slices.specs.Refusals.{refusal_in}
use Rattle.slices.proofs.SlicesLaws.{answers_same}
use Rattle.casefile.specs.Reading.{Answer, answer_in}
use Rattle.casefile.proofs.read_case.Reads.{Learnt as read-case}

-- what is answered tells the refusal
refusal_told : (r : Result Grid Refusal) → (answer_in r).refusal ≡ refusal_in r
refusal_told (Ok g) = refl
refusal_told (Err e) = refl

-- so two answers that mean the same are the same answer
pub same_answer : (r s : Result Grid Refusal) → answer_in r ≡ answer_in s → r ≡ s
same_answer r s e =
    answers_same r s (λ x y h k. ap (λ (z : Answer). z.grid) (ap answer_in (sym h) ∙ e ∙ ap answer_in k))
    (sym (refusal_told r) ∙ ap (λ (z : Answer). z.refusal) e ∙ refusal_told s)

-- the answer, and what is then in the lent column widths, row widths and slots
pub one_outcome_read_case :
    OneResult read-case
    × (OneContent read-case (λ κs e. e.1.0.now)
    × (OneContent read-case (λ κs e. e.1.1.0.now) × OneContent read-case (λ κs e. e.1.1.1.0.now)))
one_outcome_read_case = (
  λ κs a z w e f p q. same_answer z w (p.0 ∙ sym q.0),
  (λ κs a z w e f p q. p.1.0 ∙ sym q.1.0, (λ κs a z w e f p q. p.1.1.0 ∙ sym q.1.1.0, λ κs a z w e f p q. p.1.1.1 ∙ sym q.1.1.1)),
)
