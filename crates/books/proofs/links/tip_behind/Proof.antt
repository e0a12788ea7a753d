-- `tip_behind` meets its contract: it tests what the definition tests. Assumes nothing.
use Rattle.whole.proofs.RangeLaws.{positive_any}
use Rattle.books.specs.Links.{tip_behind_of}
use Rattle.books.proofs.links.tip_behind.Statement.{statement}
use Rattle.books.proofs.links.tip_behind.Tie as tie

returns : tie.Need-returns-then-high-gt0
unfolding tip_behind_of
returns c = rw (positive_any c.ranges.low c.if-low-gt0.true, positive_any c.ranges.high c.if-high-gt0.true)

returns-2 : tie.Need-returns-then-low-gt0
unfolding tip_behind_of
returns-2 c = rw (positive_any c.ranges.low c.if-low-gt0.true, positive_any c.ranges.high c.if-high-gt0.false) c.behind_side.ensures

returns-3 : tie.Need-returns-then-high-gt0-2
unfolding tip_behind_of
returns-3 c = rw (positive_any c.ranges.low c.if-low-gt0.false, positive_any c.ranges.high c.if-high-gt0-2.true) c.behind_side-then-high-gt0-2.ensures

returns-4 : tie.Need-returns
unfolding tip_behind_of
returns-4 c = rw (positive_any c.ranges.low c.if-low-gt0.false, positive_any c.ranges.high c.if-high-gt0-2.false)

pub tip_behind_spec : {M : Type 1} → statement M
tip_behind_spec = tie.close (tie.spec returns (λ c κs. c.requires) returns-2 (λ c κs. c.requires) returns-3 returns-4)
