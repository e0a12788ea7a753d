-- `named` meets its contract: the row holds the thicknesses that decide. Assumes nothing.
use mathlib.Core.Path.{◌∙◌, ◌≡◌, ap}
use Prim.Native.Nat.{◌+◌, ℕ}
use native.Mathlib.Omega.{arith}
use borrow.Author.Rules.{rules}
use Rattle.grid.specs.Place.{stride_of}
use Rattle.grid.specs.Units.{above}
use Rattle.flow.specs.Leakage.{lowermost_of, uppermost_of}
use Rattle.books.specs.Waters.{waters_of}
use Rattle.books.specs.Links.{named_of}
use Rattle.books.specs.Inner.{pair_of}
use Rattle.books.proofs.WatersLaws.{waters_thick}
use Rattle.books.proofs.links.named.Statement.{statement}
use Rattle.books.proofs.links.named.Tie as tie

low_told : (c : tie.After-pair) → c.pair.result ≡ waters_of c.args.g c.args.slots.now c.args.block
low_told c = c.pair.ensures ∙ c.requires.1.0.each c.args.block (omega (arith, c.requires.1.1))

uppermost-requires : tie.Need-uppermost-requires
uppermost-requires c κs = rw (low_told c) (waters_thick c.args.g c.args.slots.now c.requires.0 c.args.block (omega (arith, c.requires.1.1)))

returns : tie.Need-returns-then-low
unfolding named_of
returns c = rw c.if-low.true (c.uppermost.ensures ∙ ap uppermost_of (low_told c.before))

high-told : (c : tie.After-pair-2) → c.pair-2.result ≡ waters_of c.args.g c.args.slots.now (c.args.block + stride_of c.args.g above)
high-told c =
    let s = c in
    c.pair-2.ensures ∙ ap (λ (k : ℕ). pair_of s.args.waters.now (s.args.block + k)) c.stride.ensures ∙ s.requires.1.0.each (s.args.block + stride_of s.args.g above) s.requires.1.1

lowermost-requires : tie.Need-lowermost-requires
lowermost-requires c κs = rw (high-told c) (waters_thick c.args.g c.args.slots.now c.requires.0 (c.args.block + stride_of c.args.g above) c.requires.1.1)

returns-2 : tie.Need-returns
unfolding named_of
returns-2 c = rw c.if-low.false (c.lowermost.ensures ∙ ap lowermost_of (high-told c.before))

pub named_spec : {M : Type 1} → statement M
named_spec =
    tie.close
    (tie.spec
    (λ c κs. search rules)
    uppermost-requires
    returns
    (λ c κs. search rules)
    (λ c. search rules)
    (λ c κs. search rules)
    lowermost-requires
    returns-2)
