-- `edge` meets its contract: the marked side is the low one where that is marked, and a link that leads outside brings nothing. Assumes nothing.
use mathlib.Core.Bool.{Bool}
use mathlib.Core.Path.{◌∙◌, ◌≡◌, ap, sym}
use native.Mathlib.Omega.{arith}
use borrow.Author.Rules.{rules}
use Rattle.whole.proofs.RangeLaws.{answer}
use Rattle.whole.proofs.SearchLaws.{holds}
use Rattle.grid.specs.Place.{next_of}
use Rattle.grid.proofs.PlaceLaws.{next_inside, next_told}
use Rattle.slices.specs.Slices.{case_of}
use Rattle.books.specs.Bookkeeping.{books_of, brought_of}
use Rattle.zone.specs.Zones.{marked_of}
use Rattle.zone.proofs.TermLaws.{edge_at, edge_outside}
use Rattle.zone.proofs.exchange.edge.Statement.{statement}
use Rattle.zone.proofs.exchange.edge.Tie as tie

next : (c : tie.After-has_next) → next_of c.args.g c.args.axis c.args.block ≡ c.has_next.result
next c = next_told c.args.g c.args.axis c.args.block c.args.place c.has_next.result c.requires.1.1.1.1.0 c.has_next.ensures

at-edge-requires : tie.Need-at_edge-requires
at-edge-requires c κs =
    let s = c in
    let counted = s.requires.0.judged.counted in
    (counted, omega (arith, next_inside s.args.g counted s.args.axis s.args.block s.requires.1.1.1.0 (holds (next c.before ∙ c.if-has_next.true)), s.requires.1.1.0))

brought-requires : tie.Need-brought-requires
brought-requires c κs = let h = c.requires in (h.0, (h.1.0, (h.1.1.1.0, (h.1.1.1.1.0, h.1.1.1.1.1))))

returns : tie.Need-returns-then-at_edge
returns c =
    let s = c.args in
    rw (edge_at s.g (books_of (case_of s.g s.columns.now s.rows.now s.slots.now) s.fluid) (marked_of s.marks.now) s.axis s.block, sym c.at_edge.ensures ∙ c.if-at_edge.true)
    (answer c.brought.type_inv (c.brought.ensures ∙ ap (λ (b : Bool). brought_of (books_of (case_of s.g s.columns.now s.rows.now s.slots.now) s.fluid) b s.axis s.block) c.is_marked-low.ensures))

returns-2 : tie.Need-returns-else-at_edge
returns-2 c =
    let s = c.args in
    rw (edge_at s.g (books_of (case_of s.g s.columns.now s.rows.now s.slots.now) s.fluid) (marked_of s.marks.now) s.axis s.block, sym c.at_edge.ensures ∙ c.if-at_edge.false)

returns-3 : tie.Need-returns-else-has_next
returns-3 c =
    let s = c.args in
    sym (edge_outside (case_of s.g s.columns.now s.rows.now s.slots.now) s.fluid (marked_of s.marks.now) s.axis s.block (next c.before ∙ c.if-has_next.false))

pub edge_spec : {M : Type 1} → statement M
edge_spec =
    tie.close
    (tie.spec
    (λ c κs. search rules)
    at-edge-requires
    (λ c κs. omega (arith, c.requires.1.1.0, c.requires.1.1.1.0))
    brought-requires
    returns
    returns-2
    returns-3)
