-- `table_on` meets its contract: the table of all blocks, laid flat. Assumes nothing.
use mathlib.Core.Path.{◌∙◌, ap}
use borrow.Author.Rules.{rules}
use Rattle.slices.specs.Slices.{case_of}
use Rattle.zone.specs.Zones.{marked_of}
use Rattle.budget.specs.Inner.{flat_of}
use Rattle.budget.proofs.AnswersLaws.{flat_table}
use Rattle.budget.proofs.table_on.Statement.{statement}
use Rattle.budget.proofs.table_on.Tie as tie

returns : tie.Need-returns
returns c =
    let s = c.args in
    c.flat.ensures ∙ ap flat_of c.table.ensures ∙ flat_table (case_of s.g s.columns.now s.rows.now s.slots.now) (marked_of s.marks.now)

pub table_on_spec : {M : Type 1} → statement M
table_on_spec = tie.close (tie.spec (λ c κs. search rules) (λ c κs. search rules) returns)
