-- `fill_balances` meets its contract. The invariant: the row is filled for the blocks passed. Assumes nothing.
use mathlib.Core.Path.{◌∙◌, ◌≡◌, refl, sym}
use Prim.Native.Nat.{◌-◌, ◌≤◌}
use native.Mathlib.Omega.{arith}
use lib.ListN.{length}
use Rattle.grid.specs.Place.{blocks_of}
use Rattle.slices.specs.Slices.{case_of}
use Rattle.books.specs.Inner.{filled_of}
use Rattle.books.proofs.RowsLaws.{filled_start, filled_turn}
use Rattle.balance.specs.Balance.{balances_of}
use Rattle.balance.proofs.balances.fill_balances.Statement.{statement}
use Rattle.balance.proofs.balances.fill_balances.Tie as tie

abbrev invariant-loop : tie.invariant-loop-block
invariant-loop g columns rows slots waters row₀ total block₀ row block = (block ≤ total) × ((length row ≡ length row₀) × (row ≡ filled_of block (balances_of (case_of g columns rows slots)) row₀))

abbrev decreases-loop : tie.decreases-loop-block
decreases-loop g columns rows slots waters row₀ total block₀ row block = total - block

loop-holds : tie.Need-loop-block-init invariant-loop decreases-loop
loop-holds c =
    let s = c.args in
    (omega arith, (refl, sym (filled_start (balances_of (case_of s.g s.columns.now s.rows.now s.slots.now)) s.row.now)))

balances-of-requires : tie.Need-balances_of-both-requires invariant-loop decreases-loop
balances-of-requires c κs = (c.requires.0, (c.requires.1.0, omega arith))

loop-again : tie.Need-loop-block-preserved invariant-loop decreases-loop
loop-again c =
    let l = c.loop-block in (
      omega arith,
      (
        c.put.auto.row ∙ l.invariant.1.0,
        filled_turn l.block _ _ l.invariant.1.1 c.balances_of-both.ensures c.put.ensures,
      ),
    )

returns : tie.Need-returns invariant-loop decreases-loop
returns c =
    let e : c.loop-block.block ≡ blocks_of c.args.g = omega arith in
    rw (← e) c.loop-block.invariant.1.1

pub fill_balances_spec : {M : Type 1} → statement M
fill_balances_spec =
    tie.close
    (tie.spec
    invariant-loop
    decreases-loop
    (λ c κs. c.requires.0.judged.counted)
    loop-holds
    balances-of-requires
    (λ c κs. omega arith)
    (λ c. omega arith)
    (λ c. omega arith)
    loop-again
    (λ c. c.loop-block.invariant.1.0)
    returns)
