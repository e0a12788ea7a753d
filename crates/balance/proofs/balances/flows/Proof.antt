-- `flows` meets its contract. The invariant: what comes along the axes passed is added up. Assumes nothing.
use mathlib.Core.Path.{◌∙◌, ◌≡◌, sym}
use Prim.Native.Nat.{◌-◌, ◌≤◌, ℕ}
use native.Mathlib.Omega.{arith}
use lib.IntN.{ℤ}
use mir.Syntax.{w64}
use mir.Val.{to_z}
use Rattle.whole.specs.Sum.{sum}
use Rattle.whole.proofs.RangeLaws.{Bounds, b_eq, exact, fits, ranges}
use Rattle.whole.proofs.SumLaws.{sum_more, sum_start}
use Rattle.slices.specs.Slices.{case_of}
use Rattle.books.specs.Bookkeeping.{books_of}
use Rattle.balance.specs.Balance.{flows_of, through_of}
use Rattle.balance.proofs.BalanceLaws.{net_in, through_in}
use Rattle.balance.proofs.balances.flows.Statement.{statement}
use Rattle.balance.proofs.balances.flows.Tie as tie

abbrev invariant-loop : tie.invariant-loop-axis
invariant-loop g columns rows slots waters block place fluid net₀ axis₀ net axis = (axis ≤ 3) × (to_z w64 net ≡ sum axis (λ d. through_of g (books_of (case_of g columns rows slots) fluid) d block))

abbrev decreases-loop : tie.decreases-loop-axis
decreases-loop g columns rows slots waters block place fluid net₀ axis₀ net axis = 3 - axis

abbrev part : (c : tie.Start invariant-loop decreases-loop) → ℕ → ℤ
part c d = through_of c.args.g (books_of (case_of c.args.g c.args.columns.now c.args.rows.now c.args.slots.now) c.args.fluid) d c.args.block

loop-holds : tie.Need-loop-axis-init invariant-loop decreases-loop
loop-holds c = (omega arith, sym (sum_start (part c)))

through-requires : tie.Need-through-net-requires invariant-loop decreases-loop
through-requires c κs = let h = c.requires in (h.0, (h.1.0, (h.1.1.0, (h.1.1.1, omega arith))))

-- the two numbers that a turn adds, with their ranges
net-told : (c : tie.After-through-net invariant-loop decreases-loop) → Bounds (to_z w64 c.loop-axis.net-bits)
net-told c =
    let s = c in
    b_eq c.loop-axis.invariant.1 (net_in (case_of s.args.g s.args.columns.now s.args.rows.now s.args.slots.now) s.requires.0 s.args.fluid s.args.block s.requires.1.1.0 c.loop-axis.axis (omega arith))

more-told : (c : tie.After-through-net invariant-loop decreases-loop) → Bounds c.through-net.result
more-told c =
    let s = c in
    b_eq c.through-net.ensures (through_in (case_of s.args.g s.args.columns.now s.args.rows.now s.args.slots.now) s.requires.0 s.args.fluid s.args.block s.requires.1.1.0 c.loop-axis.axis (omega arith))

add-net : tie.Need-overflow_add-net invariant-loop decreases-loop
unfolding net-told more-told
add-net c = fits (search (ranges, net-told c, more-told c) depth 20) tt

loop-again : tie.Need-loop-axis-preserved invariant-loop decreases-loop
unfolding net-told more-told
loop-again c = (omega arith, exact (search (ranges, net-told c, more-told c) depth 20) ∙ sym (sum_more c.loop-axis.axis (part c.before.before.before)))

returns : tie.Need-returns invariant-loop decreases-loop
unfolding flows_of
returns c =
    let e : c.loop-axis.axis ≡ 3 = omega arith in
    rw (← e) c.loop-axis.invariant.1

pub flows_spec : {M : Type 1} → statement M
flows_spec =
    tie.close
    (tie.spec
    invariant-loop
    decreases-loop
    loop-holds
    through-requires
    add-net
    (λ c. omega arith)
    (λ c. omega arith)
    loop-again
    returns)
