-- `share` meets its contract. Assumes nothing.
use mathlib.Core.List.{[], ◌∷◌}
use mathlib.Core.Path.{◌∙◌, ap}
use native.Mathlib.Omega.{arith}
use borrow.Author.Rules.{rules}
use Rattle.budget.specs.Table.{row_of}
use Rattle.budget.specs.Inner.{share_of}
use Rattle.budget.proofs.table.share.Statement.{statement}
use Rattle.budget.proofs.table.share.Tie as tie

terms-requires : tie.Need-terms-fresh-requires
terms-requires c κs = (c.requires.0, (c.requires.1, omega arith))

terms-requires-2 : tie.Need-terms-salt-requires
terms-requires-2 c κs = (c.requires.0, (c.requires.1, omega arith))

returns : tie.Need-returns
unfolding share_of
returns c =
    let fresh = c.row.ensures ∙ ap row_of c.terms-fresh.ensures in
    let salt = c.row-2.ensures ∙ ap row_of c.terms-salt.ensures in
    λ k. fresh k ∷ salt k ∷ []

pub share_spec : {M : Type 1} → statement M
share_spec = tie.close (tie.spec terms-requires terms-requires-2 (λ c κs. search rules) (λ c κs. search rules) returns)
