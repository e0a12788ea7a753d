-- `fixing` meets its contract. Assumes nothing.
use Rattle.whole.proofs.SearchLaws.{follows}
use Rattle.books.proofs.own.fixing.Statement.{statement}
use Rattle.books.proofs.own.fixing.Tie as tie

returns : tie.Need-returns-then-fluid-eq-FRESH
returns c = rw c.if-fluid-eq-FRESH.true

returns-2 : tie.Need-returns-else-fluid-eq-FRESH
returns-2 c = rw (follows c.args.fluid c.if-fluid-eq-FRESH.false)

pub fixing_spec : {M : Type 1} → statement M
fixing_spec = tie.close (tie.spec returns returns-2)
