-- What is left in a number that is lent for an answer.
use Rattle.slices.specs.Refusals.{Refusal}
use Rattle.slices.specs.Slices.{unless_refused}

-- beside a refusal it stays as it was. Demand 1: "no lent slice changes by it"
abbrev pub kept : {A : Type 0} → Refusal → A → A → A
kept r answer before = unless_refused r answer before
