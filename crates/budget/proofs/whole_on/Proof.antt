-- `whole_on` meets its contract: every block is marked. Assumes nothing.
use mathlib.Core.Path.{◌∙◌}
use native.Mathlib.Omega.{arith}
use borrow.Author.Rules.{rules}
use Rattle.slices.specs.Slices.{case_of}
use Rattle.budget.proofs.AnswersLaws.{whole_marked}
use Rattle.budget.proofs.whole_on.Statement.{statement}
use Rattle.budget.proofs.whole_on.Tie as tie

table-on-requires : tie.Need-table_on-requires
table-on-requires c κs =
    let s = c in
    record { formed = s.requires.formed; watered = s.requires.watered; balanced = s.requires.balanced; reach = omega (arith, s.requires.formed.judged.counted.blocks_most) }

returns : tie.Need-returns
returns c =
    let s = c in
    c.table_on.ensures ∙ whole_marked (case_of s.args.g s.args.columns.now s.args.rows.now s.args.slots.now) s.requires.formed.judged.counted

pub whole_on_spec : {M : Type 1} → statement M
whole_on_spec = tie.close (tie.spec (λ c. search rules) table-on-requires returns)
