-- One outcome (document 01): "For each input the contract of a public function leaves one result". What a contract permits is read off the function itself,
-- as `Learnt`, what a caller learns of a call. Assumes nothing.
use Rattle.std.proofs.Common.{◌≡◌, ◌∙◌, sym}
use Rattle.std.proofs.lemmas.Result.{IfOk-at_ok}
use Rattle.whole.specs.Outcome.{OneResult}
use mathlib.Core.HLevel.{is_prop→PathP}
use denote.Struct.Props.{props}
use Rattle.slices.specs.Slices.{Case}
use Rattle.slices.specs.Cases.{case_in}
use Rattle.slices.proofs.SlicesLaws.{answers_same}
use Rattle.wellformed.specs.Inner.{WellFormed}
use Rattle.wellformed.specs.declared.WellFormedCase.{WellFormedCase}
use Rattle.wellformed.proofs.check_lent.Reads.{Learnt as check-lent}
use Rattle.wellformed.proofs.judge_limits.Reads.{Learnt as judge-limits}
use Rattle.wellformed.proofs.limits.first_at_fault.Reads.{Learnt as first-at-fault}
use Rattle.wellformed.proofs.check_slices.Reads.{Learnt as check-slices}

-- what a case is well formed by is a fact: two well-formed cases are one where the cases are
pub formed_same : (x y : WellFormedCase) → x.case ≡ y.case → x ≡ y
formed_same x y e =
    λ i. record { case = e i; well_formed = is_prop→PathP (λ j. WellFormed (case_in (e j))) (λ j. formed_once (case_in (e j))) x.well_formed y.well_formed i }
  where
    formed_once : (c : Case) → IsProp (WellFormed c)
    formed_once c = hlevel props

pub one_outcome_check_slices : OneResult check-slices
one_outcome_check_slices κs a z w e f p q =
    answers_same z w
    (λ x y h k. formed_same x y (IfOk-at_ok (λ (v : WellFormedCase). v.case ≡ a.0) h p.1 ∙ sym (IfOk-at_ok (λ (v : WellFormedCase). v.case ≡ a.0) k q.1)))
    (p.0 ∙ sym q.0)

pub one_outcome_check_lent : OneResult check-lent
one_outcome_check_lent κs a z w e f p q =
    answers_same z w
    (λ x y h k. formed_same x y (IfOk-at_ok (λ (v : WellFormedCase). v.case ≡ a.0) h p.1 ∙ sym (IfOk-at_ok (λ (v : WellFormedCase). v.case ≡ a.0) k q.1)))
    (p.0 ∙ sym q.0)

pub one_outcome_judge_limits : OneResult judge-limits
one_outcome_judge_limits κs a z w e f p q =
    answers_same z w
    (λ x y h k. formed_same x y (IfOk-at_ok (λ (v : WellFormedCase). v.case ≡ a.0.case) h p.1 ∙ sym (IfOk-at_ok (λ (v : WellFormedCase). v.case ≡ a.0.case) k q.1)))
    (p.0 ∙ sym q.0)

pub one_outcome_first_at_fault : OneResult first-at-fault
one_outcome_first_at_fault κs a z w e f p q = p ∙ sym q
