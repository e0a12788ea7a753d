-- One outcome (document 01): "For each input the contract of a public function leaves one result". What a contract permits is read off the function itself,
-- as `Learnt`, what a caller learns of a call. Assumes nothing.
use Rattle.std.proofs.Common.{◌≡◌, ◌∙◌, Result, Ok, Err, ℤ, ap, refl, sym}
use Rattle.std.specs.Float.{Float}
use Rattle.whole.specs.Outcome.{OneResult}
use Rattle.slices.specs.declared.refusal.Refusal.{Refusal as Refused}
use Rattle.slices.specs.Refusals.{refusal_in}
use Rattle.slices.proofs.SlicesLaws.{answers_same}
use Rattle.metres.specs.declared.boundary.BoundarySlots.{BoundarySlots as Set}
use Rattle.metres.specs.Boundaries.{boundary_slots_in}
use Rattle.metres.specs.Metres.{shown_in, taken_in}
use Rattle.metres.proofs.show.Reads.{Learnt as show}
use Rattle.metres.proofs.take_in.Reads.{Learnt as take_in}
use Rattle.metres.proofs.boundary.take_boundary.Reads.{Learnt as take-boundary}

-- what is said of an answer tells the answer
shown_same : (r s : Result Float Refused) → shown_in r ≡ shown_in s → r ≡ s
shown_same r s e = answers_same r s (λ x y h k. ap (λ a. a.metres) (sym (ap shown_in h) ∙ e ∙ ap shown_in k)) (sym (refused r) ∙ ap (λ a. a.refusal) e ∙ refused s)
  where
    refused : (r : Result Float Refused) → (shown_in r).refusal ≡ refusal_in r
    refused (Ok x) = refl
    refused (Err d) = refl

taken_same : (r s : Result ℤ Refused) → taken_in r ≡ taken_in s → r ≡ s
taken_same r s e = answers_same r s (λ x y h k. ap (λ a. a.tick) (sym (ap taken_in h) ∙ e ∙ ap taken_in k)) (sym (refused r) ∙ ap (λ a. a.refusal) e ∙ refused s)
  where
    refused : (r : Result ℤ Refused) → (taken_in r).refusal ≡ refusal_in r
    refused (Ok t) = refl
    refused (Err d) = refl

set_same : (r s : Result Set Refused) → boundary_slots_in r ≡ boundary_slots_in s → r ≡ s
set_same r s e =
    answers_same r s
    (λ x y h k. let same = sym (ap boundary_slots_in h) ∙ e ∙ ap boundary_slots_in k in λ i. record { kind = ap (λ a. a.kind) same i; level = ap (λ a. a.level) same i })
    (sym (refused r) ∙ ap (λ a. a.refusal) e ∙ refused s)
  where
    refused : (r : Result Set Refused) → (boundary_slots_in r).refusal ≡ refusal_in r
    refused (Ok set) = refl
    refused (Err d) = refl

pub one_outcome_show : OneResult show
one_outcome_show κs a z w e f p q = shown_same z w (p ∙ sym q)

pub one_outcome_take_in : OneResult take_in
one_outcome_take_in κs a z w e f p q = taken_same z w (p ∙ sym q)

pub one_outcome_take_boundary : OneResult take-boundary
one_outcome_take_boundary κs a z w e f p q = set_same z w (p ∙ sym q)
