-- One outcome (document 01): "For each input the contract of a public function leaves one result". What a contract permits is read off the function itself,
-- as `Learnt`, what a caller learns of a call. Assumes nothing.
use mathlib.Core.Path.{◌∙◌, ◌≡◌, ap₂, refl, sym}
use Rattle.std.specs.Prelude.{ℕ, Result, Ok, Err}
use Rattle.whole.specs.Outcome.{OneResult}
use Rattle.numbers.specs.declared.Number.{Number}
use Rattle.numbers.specs.declared.NumberError.{NumberError}
use Rattle.numbers.specs.declared.NumberError.TheVariants.{Ended, TooLong}
use Rattle.numbers.specs.Numbers.{number_in}
use Rattle.numbers.proofs.signed.Reads.{Learnt as signed}
use Rattle.numbers.proofs.Reader.next.Reads.{Learnt as next}
use Rattle.numbers.proofs.read_number.Reads.{Learnt as read_number}

-- two answers that mean the same number, or the same lack of one, are the same answer
pub same_number : (a b : Result Number NumberError) → number_in a ≡ number_in b → a ≡ b
same_number (Ok n) (Ok m) e =
    let value : n.value ≡ m.value = cc in
    let next : n.next ≡ m.next = cc in
    ap₂ (λ (v x : ℕ). Ok (record { value = v; next = x })) value next
same_number (Ok n) (Err Ended) e = cc
same_number (Ok n) (Err TooLong) e = cc
same_number (Err Ended) (Ok m) e = cc
same_number (Err Ended) (Err Ended) e = refl
same_number (Err Ended) (Err TooLong) e = cc
same_number (Err TooLong) (Ok m) e = cc
same_number (Err TooLong) (Err Ended) e = cc
same_number (Err TooLong) (Err TooLong) e = refl

pub one_outcome_signed : OneResult signed
one_outcome_signed κs a z w e f p q = p ∙ sym q

pub one_outcome_read_number : OneResult read_number
one_outcome_read_number κs a z w e f p q = same_number z w (p ∙ sym q)

pub one_outcome_next : OneResult next
one_outcome_next κs a z w e f p q = same_number z w (p ∙ sym q)
