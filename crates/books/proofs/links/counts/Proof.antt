-- `counts` meets its contract: a lateral face counts, and leakage by name. Assumes nothing.
use mathlib.Core.Path.{◌≡◌, subst, sym}
use Prim.Native.Nat.{◌+◌, ◌<◌, ℕ}
use native.Mathlib.Omega.{arith}
use Rattle.grid.specs.Place.{blocks_of, stride_of}
use Rattle.grid.specs.Units.{above}
use Rattle.books.proofs.CarriedLaws.{counts_lateral}
use Rattle.books.proofs.links.counts.Statement.{statement}
use Rattle.books.proofs.links.counts.Tie as tie

returns : tie.Need-returns-then-axis-lt-ABOVE
returns c =
    let s = c.args in
    sym (counts_lateral s.g s.slots.now s.fluid s.axis s.block s.low (omega arith))

upward : (c : tie.Else-axis-lt-ABOVE) → c.args.axis ≡ above
upward c = omega (arith, c.requires.1.1.1)

named-requires : tie.Need-named-requires
named-requires c κs = (c.requires.0, (c.requires.1.0, subst (λ (d : ℕ). c.args.block + stride_of c.args.g d < blocks_of c.args.g) (upward c) c.requires.1.1.0))

returns-2 : tie.Need-returns
returns-2 c = rw (upward c.before, c.named.ensures)

pub counts_spec : {M : Type 1} → statement M
counts_spec = tie.close (tie.spec returns named-requires returns-2)
