-- One outcome (document 01): "For each input the contract of a public function leaves one result". What a contract permits is read off the function itself,
-- as `Learnt`, what a caller learns of a call. Assumes nothing.
use Rattle.std.proofs.Common.{◌≡◌, ◌∙◌, refl, sym}
use Rattle.std.proofs.lemmas.Result.{IfOk-at_ok}
use Rattle.whole.specs.Outcome.{OneResult}
use mathlib.Core.HLevel.{is_prop→PathP}
use denote.Struct.Props.{props}
use Rattle.slices.specs.Slices.{Case}
use Rattle.slices.specs.Cases.{case_in}
use Rattle.slices.specs.Inner.{Judged}
use Rattle.slices.specs.declared.JudgedCase.{JudgedCase}
use Rattle.slices.proofs.SlicesLaws.{answers_same}
use Rattle.slices.proofs.Case.shape.Reads.{Learnt as shape}
use Rattle.slices.proofs.refusal.Refusal.number.Reads.{Learnt as number}
use Rattle.slices.proofs.refusal.Refusal.block.Reads.{Learnt as block}
use Rattle.slices.proofs.Case.judge_ranges.Reads.{Learnt as judge-ranges}

pub one_outcome_shape : OneResult shape
one_outcome_shape κs a z w e f p q = answers_same z w (λ x y h k. refl) (p ∙ sym q)

-- what a case is judged by is a fact: two judged cases are one where the cases are
judged_same : (x y : JudgedCase) → x.case ≡ y.case → x ≡ y
judged_same x y e = λ i. record { case = e i; judged = is_prop→PathP (λ j. Judged (case_in (e j))) (λ j. judged_once (case_in (e j))) x.judged y.judged i }
  where
    judged_once : (c : Case) → IsProp (Judged c)
    judged_once c = hlevel props

pub one_outcome_judge_ranges : OneResult judge-ranges
one_outcome_judge_ranges κs a z w e f p q =
    answers_same z w
    (λ x y h k. judged_same x y (IfOk-at_ok (λ (j : JudgedCase). j.case ≡ a.0) h p.1 ∙ sym (IfOk-at_ok (λ (j : JudgedCase). j.case ≡ a.0) k q.1)))
    (p.0 ∙ sym q.0)

pub one_outcome_number : OneResult number
one_outcome_number κs a z w e f p q = p ∙ sym q

pub one_outcome_block : OneResult block
one_outcome_block κs a z w e f p q = p ∙ sym q
