-- `row` meets its contract. Assumes nothing.
use mathlib.Core.List.{[], ◌∷◌}
use Rattle.whole.proofs.RangeLaws.{read_back}
use Rattle.budget.specs.Table.{row_of}
use Rattle.budget.proofs.table.row.Statement.{statement}
use Rattle.budget.proofs.table.row.Tie as tie

returns : tie.Need-returns
unfolding row_of
returns c =
    let l = c.args.lines in
    let t = c.struct_told-1.given in
    λ k.
    read_back l.storage t.0.1 k
    ∷ read_back l.edge_in t.1.0.1 k
    ∷ read_back l.edge_out t.1.1.0.1 k
    ∷ read_back l.converted t.1.1.1.0.1 k
    ∷ read_back l.wells t.1.1.1.1.0.1 k
    ∷ read_back l.recharge t.1.1.1.1.1.0.1 k
    ∷ read_back l.boundary t.1.1.1.1.1.1.0.1 k
    ∷ read_back l.supply t.1.1.1.1.1.1.1.0.1 k
    ∷ read_back l.error t.1.1.1.1.1.1.1.1.0.1 k
    ∷ []

pub row_spec : {M : Type 1} → statement M
row_spec = tie.close (tie.spec returns)
