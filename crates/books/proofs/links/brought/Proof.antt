-- `brought` meets its contract: a flow is worked out only where the link is live and its water counts. Assumes nothing.
use mathlib.Core.Bool.{cond}
use mathlib.Core.Path.{◌∙◌, ◌≡◌, sym}
use lib.IntN.{+ℤ_idl, neg_ℤ}
use borrow.Author.Rules.{rules}
use Rattle.whole.specs.Inner.{Abs}
use Rattle.whole.proofs.RangeLaws.{answer, b_is, exact, fits, leaf, ranges}
use Rattle.whole.proofs.SearchLaws.{holds}
use Rattle.slices.specs.Slices.{case_of}
use Rattle.flow.specs.Inner.{most_flow}
use Rattle.wellformed.specs.Links.{live_of}
use Rattle.wellformed.proofs.LinksLaws.{live_inside}
use Rattle.books.specs.Bookkeeping.{books_of, brought_of}
use Rattle.books.specs.Links.{carried_of}
use Rattle.books.proofs.WatersLaws.{slotted}
use Rattle.books.proofs.CarriedLaws.{brought_dead, brought_live, brought_other, carried_in}
use Rattle.books.proofs.links.brought.Statement.{statement}
use Rattle.books.proofs.links.brought.Tie as tie

live : (c : tie.After-is_live) → live_of c.args.g c.args.slots.now c.args.axis c.args.block ≡ c.is_live.result
live c = sym c.is_live.ensures

counts-requires : tie.Need-counts-requires
counts-requires c κs =
    let s = c in
    let k = case_of s.args.g s.args.columns.now s.args.rows.now s.args.slots.now in
    (slotted k s.requires.0.judged, (s.requires.1.0, (live_inside s.args.g s.args.slots.now s.args.axis s.args.block (holds (live c.before ∙ c.if-is_live.true)) s.requires.0.judged.counted s.requires.1.1.0, s.requires.1.1.1.1)))

carried-requires : tie.Need-carried-flow-requires
carried-requires c κs =
    let h = c.requires in
    (h.0, (h.1.0, (h.1.1.0, (h.1.1.1.0, (h.1.1.1.1, live c.before.before.before ∙ c.if-is_live.true)))))

flow-in : (c : tie.After-carried-flow) → Abs most_flow (carried_of (case_of c.args.g c.args.columns.now c.args.rows.now c.args.slots.now) c.args.fluid c.args.axis c.args.block)
flow-in c =
    let s = c in
    carried_in (case_of s.args.g s.args.columns.now s.args.rows.now s.args.slots.now) s.requires.0 s.args.fluid s.args.axis s.args.block s.requires.1.1.1.1 s.requires.1.1.0 (holds (live c.before.before.before.before ∙ c.if-is_live.true))

sub-result : tie.Need-overflow_sub-result
sub-result c = fits (search (ranges, b_is c.carried-flow.ensures (leaf (flow-in c.before))) depth 20) tt

-- what the link brings, where its water counts
told : (c : tie.After-carried-flow) → brought_of (books_of (case_of c.args.g c.args.columns.now c.args.rows.now c.args.slots.now) c.args.fluid) c.args.low c.args.axis c.args.block ≡ cond c.args.low (neg_ℤ (carried_of (case_of c.args.g c.args.columns.now c.args.rows.now c.args.slots.now) c.args.fluid c.args.axis c.args.block)) (carried_of (case_of c.args.g c.args.columns.now c.args.rows.now c.args.slots.now) c.args.fluid c.args.axis c.args.block)
told c =
    let s = c.args in
    brought_live (case_of s.g s.columns.now s.rows.now s.slots.now) s.fluid s.axis s.block s.low (live c.before.before.before.before ∙ c.if-is_live.true) (sym c.counts.ensures ∙ c.if-counts.true)

returns : tie.Need-returns-then-low
returns c =
    rw (told c.before, c.if-low.true) (exact (search (ranges, b_is c.carried-flow.ensures (leaf (flow-in c.before))) depth 20) ∙ +ℤ_idl _)

returns-2 : tie.Need-returns-then-counts
returns-2 c = rw (told c.before, c.if-low.false) (answer c.carried-flow.type_inv c.carried-flow.ensures)

returns-3 : tie.Need-returns-else-counts
returns-3 c =
    let s = c.args in
    sym (brought_other (case_of s.g s.columns.now s.rows.now s.slots.now) s.fluid s.axis s.block s.low (sym c.counts.ensures ∙ c.if-counts.false))

returns-4 : tie.Need-returns-else-is_live
returns-4 c =
    let s = c.args in
    sym (brought_dead (case_of s.g s.columns.now s.rows.now s.slots.now) s.fluid s.axis s.block s.low (live c.before ∙ c.if-is_live.false))

pub brought_spec : {M : Type 1} → statement M
brought_spec =
    tie.close
    (tie.spec
    (λ c κs. search rules)
    counts-requires
    carried-requires
    sub-result
    returns
    returns-2
    returns-3
    returns-4)
