-- `put` meets its contract: two stores, one behind the other. Assumes nothing.
use native.Mathlib.Omega.{arith}
use lib.ListN.{length-set}
use borrow.Author.Rules.{rules}
use Rattle.books.proofs.rows.put.Statement.{statement}
use Rattle.books.proofs.rows.put.Tie as tie

slice-set-from-salt : tie.Need-bounds-row-block-2
slice-set-from-salt c = simp length-set (omega arith)

pub put_spec : {M : Type 1} → statement M
put_spec =
    tie.close
    (tie.spec
    (λ c. search rules)
    (λ c. search rules)
    (λ c. search rules)
    (λ c. search rules)
    (λ c. search rules)
    (λ c. search rules)
    slice-set-from-salt
    (λ c. search rules)
    (λ c. search rules))
