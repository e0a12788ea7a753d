-- `table` meets its contract. The invariant: the table is that of the blocks passed. Assumes nothing.
use mathlib.Core.Path.{◌∙◌, ◌≡◌, ap₂, sym}
use Prim.Native.Nat.{◌-◌, ◌≤◌}
use native.Mathlib.Omega.{arith}
use Rattle.grid.specs.Place.{blocks_of}
use Rattle.slices.specs.Slices.{Case, case_of}
use Rattle.zone.specs.Zones.{marked_of}
use Rattle.budget.specs.Inner.{add_table, table_to}
use Rattle.budget.proofs.TableLaws.{share_in, table_in, table_more, table_start}
use Rattle.budget.proofs.table.table.Statement.{statement}
use Rattle.budget.proofs.table.table.Tie as tie

abbrev invariant-loop : tie.invariant-loop-block
invariant-loop g columns rows slots waters balances marks total sums₀ block₀ sums block = (block ≤ total) × (sums ≡ table_to block (case_of g columns rows slots) (marked_of marks))

abbrev decreases-loop : tie.decreases-loop-block
decreases-loop g columns rows slots waters balances marks total sums₀ block₀ sums block = total - block

abbrev case_in : tie.Start invariant-loop decreases-loop → Case
case_in c = case_of c.args.g c.args.columns.now c.args.rows.now c.args.slots.now

loop-holds : tie.Need-loop-block-init invariant-loop decreases-loop
loop-holds c = (omega arith, sym (table_start (case_in c.before) (marked_of c.args.marks.now)))

share-requires : tie.Need-share-more-requires invariant-loop decreases-loop
share-requires c κs = (c.requires, omega arith)

add-requires : tie.Need-add-next-requires invariant-loop decreases-loop
add-requires c κs =
    let s = c.before.before.before.before in
    let z = marked_of s.args.marks.now in (
      rw c.loop-block.invariant.1 (table_in (case_in s) s.requires.formed z c.loop-block.block (omega arith)),
      rw c.share-more.ensures (share_in (case_in s) s.requires.formed z c.loop-block.block (omega arith)),
    )

loop-again : tie.Need-loop-block-preserved invariant-loop decreases-loop
loop-again c =
    let s = c.before.before.before.before.before in (
      omega arith,
      c.add-next.ensures ∙ ap₂ add_table c.loop-block.invariant.1 c.share-more.ensures ∙ sym (table_more c.loop-block.block (case_in s) (marked_of s.args.marks.now)),
    )

returns : tie.Need-returns invariant-loop decreases-loop
returns c =
    let e : c.loop-block.block ≡ blocks_of c.args.g = omega arith in
    rw (← e) c.loop-block.invariant.1

pub table_spec : {M : Type 1} → statement M
table_spec =
    tie.close
    (tie.spec
    invariant-loop
    decreases-loop
    (λ c κs. c.requires.formed.judged.counted)
    loop-holds
    share-requires
    add-requires
    (λ c. omega arith)
    (λ c. omega arith)
    loop-again
    returns)
