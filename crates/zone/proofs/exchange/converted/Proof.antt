-- `converted` meets its contract: leakage that changes nothing adds up to nothing. Assumes nothing.
use mathlib.Core.Bool.{false, true}
use mathlib.Core.Path.{◌∙◌, ◌≡◌, ap, sym}
use Prim.Native.Nat.{◌+◌, ◌<◌, ℕ}
use native.Mathlib.Omega.{arith}
use borrow.Author.Rules.{rules}
use Rattle.whole.proofs.RangeLaws.{Bounds, b_eq, exact, fits, ranges}
use Rattle.whole.proofs.SearchLaws.{holds}
use Rattle.grid.specs.Place.{blocks_of, next_of, stride_of}
use Rattle.grid.specs.Units.{above}
use Rattle.grid.proofs.PlaceLaws.{next_inside, next_told}
use Rattle.slices.specs.Slices.{Case, case_of}
use Rattle.books.proofs.CarriedLaws.{brought_in}
use Rattle.zone.specs.Exchange.{converted_at}
use Rattle.zone.specs.Zones.{marked_of}
use Rattle.zone.proofs.TermLaws.{converted_marked, converted_outside}
use Rattle.zone.proofs.exchange.converted.Statement.{statement}
use Rattle.zone.proofs.exchange.converted.Tie as tie

next : (c : tie.After-has_next) → next_of c.args.g above c.args.block ≡ c.has_next.result
next c = next_told c.args.g above c.args.block c.args.place c.has_next.result c.requires.1.1.1.1 c.has_next.ensures

inside : (c : tie.After-stride) → c.args.block + c.stride.result < blocks_of c.args.g
inside c =
    let s = c in
    rw c.stride.ensures (next_inside s.args.g s.requires.0.judged.counted above s.args.block s.requires.1.1.1.0 (holds (next c.before.before.before.before ∙ c.if-has_next.true)))

by-leakage-requires : tie.Need-by_leakage-below-requires
by-leakage-requires c κs = let h = c.requires in (h.0, (h.1.0, (h.1.1.1.0, h.1.1.1.1)))

by-leakage-requires-2 : tie.Need-by_leakage-requires
by-leakage-requires-2 c κs = let h = c.requires in (h.0, (h.1.0, (h.1.1.1.0, h.1.1.1.1)))

abbrev case_in : tie.Start → Case
case_in c = case_of c.args.g c.args.columns.now c.args.rows.now c.args.slots.now

low_told : (c : tie.After-by_leakage-below) → Bounds c.by_leakage-below.result
low_told c = b_eq c.by_leakage-below.ensures (brought_in (case_in c.before.before.before.before.before.before.before.before) c.requires.0 c.args.fluid above c.args.block true (omega arith) c.requires.1.1.1.0)

high-told : (c : tie.After-by_leakage) → Bounds c.by_leakage.result
high-told c = b_eq c.by_leakage.ensures (brought_in (case_in c.before.before.before.before.before.before.before.before.before) c.requires.0 c.args.fluid above c.args.block false (omega arith) c.requires.1.1.1.0)

add-result : tie.Need-overflow_add-result
unfolding low_told high-told
add-result c = fits (search (ranges, low_told c.before, high-told c) depth 20) tt

-- the marks of the two blocks
marked : (c : tie.After-is_marked) → marked_of c.args.marks.now c.args.block ≡ c.is_marked.result
marked c = sym c.is_marked.ensures

marked-above : (c : tie.After-is_marked-then-is_marked) → marked_of c.args.marks.now (c.args.block + stride_of c.args.g above) ≡ c.is_marked-then-is_marked.result
marked-above c = sym (c.is_marked-then-is_marked.ensures ∙ ap (λ (n : ℕ). marked_of c.args.marks.now (c.args.block + n)) c.stride.ensures)

returns : tie.Need-returns-then-is_marked-2
unfolding low_told high-told
returns c =
    exact (search (ranges, low_told c.before, high-told c) depth 20)
    ∙ sym (converted_marked (case_in c.before.before.before.before.before.before.before.before.before) c.args.fluid (marked_of c.args.marks.now) c.args.block (marked c.before.before.before.before.before.before ∙ c.if-is_marked.true) (marked-above c.before.before.before ∙ c.if-is_marked-2.true))

returns-2 : tie.Need-returns-else-is_marked-2
unfolding converted_at
returns-2 c = rw (marked c.before.before.before.before ∙ c.if-is_marked.true, marked-above c.before ∙ c.if-is_marked-2.false)

returns-3 : tie.Need-returns-else-is_marked
unfolding converted_at
returns-3 c = rw (marked c.before ∙ c.if-is_marked.false)

returns-4 : tie.Need-returns-else-has_next
returns-4 c = sym (converted_outside (case_in c.before.before) c.args.fluid (marked_of c.args.marks.now) c.args.block (next c.before ∙ c.if-has_next.false))

pub converted_spec : {M : Type 1} → statement M
converted_spec =
    tie.close
    (tie.spec
    (λ c κs. search rules)
    (λ c κs. omega (arith, c.requires.1.1.0, c.requires.1.1.1.0))
    (λ c κs. c.requires.0.judged.counted)
    (λ c. omega (arith, inside c, c.requires.0.judged.counted.blocks_most))
    (λ c κs. omega (arith, inside c, c.requires.1.1.0))
    by-leakage-requires
    by-leakage-requires-2
    add-result
    returns
    returns-2
    returns-3
    returns-4)
