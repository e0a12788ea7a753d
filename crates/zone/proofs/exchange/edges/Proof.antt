-- `edges` meets its contract. The invariant: what crosses the edge along the axes passed is added up, each way. Assumes nothing.
use mathlib.Core.Path.{◌∙◌, ◌≡◌, ap, sym}
use Prim.Native.Nat.{◌-◌, ◌≤◌, ℕ}
use native.Mathlib.Omega.{arith}
use lib.IntN.{pos, ℤ}
use mir.Syntax.{w64}
use mir.Val.{to_z}
use borrow.Author.Rules.{rules}
use Rattle.whole.specs.Sum.{sum}
use Rattle.whole.specs.Whole.{max_ℤ}
use Rattle.whole.proofs.RangeLaws.{Bounds, answer, b_eq, exact, fits, negated, ranges}
use Rattle.whole.proofs.SumLaws.{sum_more, sum_start}
use Rattle.slices.specs.Slices.{Case, case_of}
use Rattle.books.specs.Bookkeeping.{books_of}
use Rattle.zone.specs.Exchange.{edge_of, edges_of, inflow_of, outflow_of}
use Rattle.zone.specs.Zones.{marked_of}
use Rattle.zone.proofs.TermLaws.{edge_in_lem, inflow_in, inflows_in, outflow_in, outflows_in}
use Rattle.zone.proofs.exchange.edges.Statement.{statement}
use Rattle.zone.proofs.exchange.edges.Tie as tie

abbrev invariant-loop : tie.invariant-loop-axis
invariant-loop g columns rows slots waters marks block place fluid inflow₀ outflow₀ axis₀ inflow outflow axis =
    (axis ≤ 3)
    × ((to_z w64 inflow ≡ sum axis (λ d. inflow_of (edge_of g (books_of (case_of g columns rows slots) fluid) (marked_of marks) d block)))
    × (to_z w64 outflow ≡ sum axis (λ d. outflow_of (edge_of g (books_of (case_of g columns rows slots) fluid) (marked_of marks) d block))))

abbrev decreases-loop : tie.decreases-loop-axis
decreases-loop g columns rows slots waters marks block place fluid inflow₀ outflow₀ axis₀ inflow outflow axis = 3 - axis

abbrev case_in : tie.Start invariant-loop decreases-loop → Case
case_in c = case_of c.args.g c.args.columns.now c.args.rows.now c.args.slots.now

abbrev gain : tie.Start invariant-loop decreases-loop → ℕ → ℤ
gain c d = edge_of c.args.g (books_of (case_in c) c.args.fluid) (marked_of c.args.marks.now) d c.args.block

loop-holds : tie.Need-loop-axis-init invariant-loop decreases-loop
loop-holds c = (omega arith, (sym (sum_start (λ d. inflow_of (gain c d))), sym (sum_start (λ d. outflow_of (gain c d)))))

edge-requires : tie.Need-edge-gain-requires invariant-loop decreases-loop
edge-requires c κs = let h = c.requires in (h.0, (h.1.0, (h.1.1.0, (h.1.1.1.0, (h.1.1.1.1, omega arith)))))

-- what a link brings, each way, and what is added up, with their ranges
gain-told : (c : tie.After-edge-gain invariant-loop decreases-loop) → Bounds c.edge-gain.result
gain-told c =
    let s = c.before.before.before in
    b_eq c.edge-gain.ensures (edge_in_lem (case_in s) s.requires.0 s.args.fluid (marked_of s.args.marks.now) s.args.block s.requires.1.1.1.0 c.loop-axis.axis (omega arith))

in_told : (c : tie.After-greatest-inflow invariant-loop decreases-loop) → Bounds c.greatest-inflow.result
in_told c =
    let s = c.before.before.before.before in
    b_eq (c.greatest-inflow.ensures ∙ ap (max_ℤ (pos 0)) (answer c.edge-gain.type_inv c.edge-gain.ensures))
    (inflow_in (case_in s) s.requires.0 s.args.fluid (marked_of s.args.marks.now) s.args.block s.requires.1.1.1.0 c.loop-axis.axis (omega arith))

out-told : (c : tie.After-greatest-outflow invariant-loop decreases-loop) → Bounds c.greatest-outflow.result
out-told c =
    let s = c.before.before.before.before.before in
    b_eq (c.greatest-outflow.ensures ∙ ap (max_ℤ (pos 0)) (negated c.edge-gain.ensures (edge_in_lem (case_in s) s.requires.0 s.args.fluid (marked_of s.args.marks.now) s.args.block s.requires.1.1.1.0 c.loop-axis.axis (omega arith)) tt tt))
    (outflow_in (case_in s) s.requires.0 s.args.fluid (marked_of s.args.marks.now) s.args.block s.requires.1.1.1.0 c.loop-axis.axis (omega arith))

inflow-told : (c : tie.In-loop-axis invariant-loop decreases-loop) → Bounds (to_z w64 c.loop-axis.inflow-bits)
inflow-told c =
    let s = c.before.before in
    b_eq c.loop-axis.invariant.1.0 (inflows_in (case_in s) s.requires.0 s.args.fluid (marked_of s.args.marks.now) s.args.block s.requires.1.1.1.0 c.loop-axis.axis (omega arith))

outflow-told : (c : tie.In-loop-axis invariant-loop decreases-loop) → Bounds (to_z w64 c.loop-axis.outflow-bits)
outflow-told c =
    let s = c.before.before in
    b_eq c.loop-axis.invariant.1.1 (outflows_in (case_in s) s.requires.0 s.args.fluid (marked_of s.args.marks.now) s.args.block s.requires.1.1.1.0 c.loop-axis.axis (omega arith))

add-inflow : tie.Need-overflow_add-inflow invariant-loop decreases-loop
unfolding in_told inflow-told
add-inflow c = fits (search (ranges, in_told c, inflow-told c.before.before) depth 20) tt

sub-greatest : tie.Need-overflow_sub-gain invariant-loop decreases-loop
unfolding gain-told
sub-greatest c = fits (search (ranges, gain-told c.before) depth 20) tt

add-outflow : tie.Need-overflow_add-outflow invariant-loop decreases-loop
unfolding out-told outflow-told
add-outflow c = fits (search (ranges, out-told c, outflow-told c.before.before.before) depth 20) tt

loop-again : tie.Need-loop-axis-preserved invariant-loop decreases-loop
unfolding in_told out-told inflow-told outflow-told
loop-again c = (
  omega arith,
  (
    exact (search (ranges, in_told c.before, inflow-told c.before.before.before) depth 20) ∙ sym (sum_more c.loop-axis.axis (λ d. inflow_of (gain c.before.before.before.before.before d))),
    exact (search (ranges, out-told c, outflow-told c.before.before.before) depth 20) ∙ sym (sum_more c.loop-axis.axis (λ d. outflow_of (gain c.before.before.before.before.before d))),
  ),
)

returns : tie.Need-returns invariant-loop decreases-loop
unfolding edges_of
returns c =
    let e : c.loop-axis.axis ≡ 3 = omega arith in
    let a = c.loop-axis.invariant.1.0 ∙ ap (λ (n : ℕ). sum n (λ d. inflow_of (gain c.before.before d))) e in
    let b = c.loop-axis.invariant.1.1 ∙ ap (λ (n : ℕ). sum n (λ d. outflow_of (gain c.before.before d))) e in
    λ k. record { inflow = a k; outflow = b k }

pub edges_spec : {M : Type 1} → statement M
edges_spec =
    tie.close
    (tie.spec
    invariant-loop
    decreases-loop
    loop-holds
    edge-requires
    (λ c κs. search rules)
    add-inflow
    sub-greatest
    (λ c κs. search rules)
    add-outflow
    (λ c. omega arith)
    (λ c. omega arith)
    loop-again
    returns)
