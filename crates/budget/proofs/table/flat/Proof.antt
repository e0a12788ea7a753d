-- `flat` meets its contract: two rows of nine fill eighteen lines. Assumes nothing.
use mathlib.Core.List.{[]}
use mathlib.Core.Path.{refl}
use lib.IntN.{pos}
use lib.ListN.{get_or, replicate}
use borrow.Author.Rules.{rules}
use Rattle.budget.specs.Inner.{flat_of}
use Rattle.budget.proofs.TableLaws.{both_rows}
use Rattle.budget.proofs.table.flat.Statement.{statement}
use Rattle.budget.proofs.table.flat.Tie as tie

returns : tie.Need-returns
unfolding flat_of
returns c =
    let t = c.args.rows in
    both_rows (replicate 18 (pos 0)) (get_or t 0 []) (get_or t 1 []) c.put-fresh.result c.put.result refl c.put-fresh.ensures.1 c.put.ensures.1 c.put-fresh.ensures.0 c.put.ensures.0

pub flat_spec : {M : Type 1} → statement M
flat_spec = tie.close (tie.spec (λ c. search rules) (λ c κs. search rules) (λ c. search rules) (λ c κs. search rules) returns)
