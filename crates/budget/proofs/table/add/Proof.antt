-- `add` meets its contract. Assumes nothing.
use mathlib.Core.List.{[], ◌∷◌}
use borrow.Author.Rules.{rules}
use Rattle.budget.specs.Inner.{add_table}
use Rattle.budget.proofs.table.add.Statement.{statement}
use Rattle.budget.proofs.table.add.Tie as tie

returns : tie.Need-returns
unfolding add_table
returns c = λ k. c.add_rows.ensures k ∷ c.add_rows-2.ensures k ∷ []

pub add_spec : {M : Type 1} → statement M
add_spec =
    tie.close
    (tie.spec
    (λ c. search rules)
    (λ c. search rules)
    (λ c κs. (c.requires.0 0, c.requires.1 0))
    (λ c. search rules)
    (λ c. search rules)
    (λ c κs. (c.requires.0 1, c.requires.1 1))
    returns)
