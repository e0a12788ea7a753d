-- `ending` meets its contract: the link that ends in a block is that of the block before, if one is there. Assumes nothing.
use mathlib.Core.Bool.{false}
use mathlib.Core.Path.{◌∙◌, ◌≡◌, ap, sym}
use Prim.Native.Nat.{◌-◌, ℕ}
use native.Mathlib.Omega.{arith}
use lib.Dec.{T}
use borrow.Author.Rules.{rules}
use Rattle.whole.proofs.RangeLaws.{answer}
use Rattle.whole.proofs.SearchLaws.{holds}
use Rattle.grid.specs.Inner.{earlier_of}
use Rattle.grid.specs.Place.{place_of, previous_of}
use Rattle.grid.proofs.PlaceLaws.{previous_low, previous_place, previous_told}
use Rattle.slices.specs.Slices.{case_of}
use Rattle.books.specs.Bookkeeping.{books_of, brought_of}
use Rattle.balance.proofs.BalanceLaws.{ending_is}
use Rattle.balance.proofs.balances.ending.Statement.{statement}
use Rattle.balance.proofs.balances.ending.Tie as tie

previous : (c : tie.After-has_previous) → previous_of c.args.g c.args.axis c.args.block ≡ c.has_previous.result
previous c = previous_told c.args.g c.args.axis c.args.block c.args.place c.has_previous.result c.requires.1.1.1.0 c.has_previous.ensures

there : (c : tie.Then-has_previous) → T (previous_of c.args.g c.args.axis c.args.block)
there c = holds (previous c.before ∙ c.if-has_previous.true)

sub_low : tie.Need-overflow_sub-low
sub_low c =
    let s = c in
    rw c.stride.ensures (previous_low s.args.g s.requires.0.judged.counted s.args.axis s.args.block s.requires.1.1.0 (there c.before))

earlier-requires : tie.Need-earlier-requires
earlier-requires c κs = sym c.has_previous.ensures ∙ c.if-has_previous.true

-- the place of the block before
place-told : (c : tie.After-earlier) → c.earlier.result ≡ place_of c.args.g (c.args.block - c.stride.result)
place-told c =
    let s = c in
    c.earlier.ensures
    ∙ ap (λ p. earlier_of p s.args.axis) s.requires.1.1.1.0
    ∙ sym (previous_place s.args.g s.requires.0.judged.counted s.args.axis s.args.block s.requires.1.1.0 (there c.before.before))
    ∙ ap (λ (n : ℕ). place_of s.args.g (s.args.block - n)) (sym c.stride.ensures)

brought-requires : tie.Need-brought-requires
brought-requires c κs = let h = c.requires in (h.0, (h.1.0, (omega (arith, h.1.1.0), (place-told c, h.1.1.1.1))))

returns : tie.Need-returns-then-has_previous
returns c =
    let s = c in
    let k = case_of s.args.g s.args.columns.now s.args.rows.now s.args.slots.now in
    rw (ending_is k s.requires.0.judged.counted s.args.fluid s.args.axis s.args.block s.requires.1.1.0, previous c.before.before.before.before ∙ c.if-has_previous.true)
    (answer c.brought.type_inv (c.brought.ensures ∙ ap (λ (n : ℕ). brought_of (books_of k s.args.fluid) false s.args.axis (s.args.block - n)) c.stride.ensures))

returns-2 : tie.Need-returns
returns-2 c =
    let s = c in
    let k = case_of s.args.g s.args.columns.now s.args.rows.now s.args.slots.now in
    rw (ending_is k s.requires.0.judged.counted s.args.fluid s.args.axis s.args.block s.requires.1.1.0, previous c.before ∙ c.if-has_previous.false)

pub ending_spec : {M : Type 1} → statement M
ending_spec =
    tie.close
    (tie.spec
    (λ c κs. search rules)
    (λ c κs. search rules)
    sub_low
    earlier-requires
    brought-requires
    returns
    returns-2)
