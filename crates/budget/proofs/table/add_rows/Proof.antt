-- `add_rows` meets its contract. The invariant: the sums of the lines passed are laid over the first row. Assumes nothing.
use mathlib.Core.Path.{◌∙◌, ◌≡◌, ap, sym}
use Prim.Native.Nat.{◌+◌, ◌-◌, ◌<◌, ◌≤◌, ℕ}
use native.Mathlib.Omega.{arith}
use lib.IntN.{◌+ℤ◌, pos}
use lib.ListN.{get_or, length, length-set, set}
use lib.Seq.{paste, paste-zero}
use mir.Syntax.{w64}
use mir.Val.{of_z, to_z}
use borrow.Author.Rules.{rules}
use Rattle.whole.proofs.RangeLaws.{Bounds, exact, fits, leaf, ranges}
use Rattle.budget.specs.Inner.{add_row}
use Rattle.budget.proofs.TableLaws.{add_at, add_length, laid_over, lay_first}
use Rattle.budget.proofs.table.add_rows.Statement.{statement}
use Rattle.budget.proofs.table.add_rows.Tie as tie

abbrev invariant-loop : tie.invariant-loop-line
invariant-loop a b sums₀ line₀ sums line =
    (line ≤ 9) × ((length a ≡ 9) × ((length b ≡ 9) × ((length sums ≡ 9) × (sums ≡ paste a 0 (add_row a b) line))))

abbrev decreases-loop : tie.decreases-loop-line
decreases-loop a b sums₀ line₀ sums line = 9 - line

loop-holds : tie.Need-loop-line-init invariant-loop decreases-loop
loop-holds c = (omega arith, (search rules, (search rules, (search rules, paste-zero c.args.a 0 (add_row c.args.a c.args.b)))))

-- the sum of a line
sum_told : (c : tie.After-sums-in-loop-line-1 invariant-loop decreases-loop) → Bounds (to_z w64 (of_z w64 (get_or c.args.a c.loop-line.line (pos 0))) +ℤ to_z w64 (of_z w64 (get_or c.args.b c.loop-line.line (pos 0))))
sum_told c = search (ranges, leaf (c.requires.0 c.loop-line.line), leaf (c.requires.1 c.loop-line.line)) depth 20

add-sums : tie.Need-overflow_add-sums invariant-loop decreases-loop
unfolding sum_told
add-sums c = fits (sum_told c) tt

laid : (c : tie.After-sums-in-loop-line-1 invariant-loop decreases-loop) → set c.loop-line.sums c.loop-line.line (to_z w64 (of_z w64 (to_z w64 (of_z w64 (get_or c.args.a c.loop-line.line (pos 0))) +ℤ to_z w64 (of_z w64 (get_or c.args.b c.loop-line.line (pos 0))))))
    ≡ paste c.args.a 0 (add_row c.args.a c.args.b) (c.loop-line.line + 1)
unfolding sum_told
laid c =
    let l = c.loop-line in
    let a = c.args.a in
    let b = c.args.b in
    let same : length a ≡ length b = l.invariant.1.0 ∙ sym l.invariant.1.1.0 in
    let inside : l.line < length a = omega arith in
    let within : l.line < length (add_row a b) = omega (arith, add_length a b same) in
    lay_first a l.sums (add_row a b) l.line _ l.invariant.1.1.1.1 inside within (exact (search (ranges, sum_told c) depth 20) ∙ sym (add_at a b l.line same inside))

loop-again : tie.Need-loop-line-preserved invariant-loop decreases-loop
loop-again c =
    let l = c.loop-line in (
      omega arith,
      (
        l.invariant.1.0,
        (
          l.invariant.1.1.0,
          (
            simp length-set l.invariant.1.1.1.0,
            laid c,
          ),
        ),
      ),
    )

returns : tie.Need-returns invariant-loop decreases-loop
returns c =
    let l = c.loop-line in
    let e : l.line ≡ 9 = omega arith in
    l.invariant.1.1.1.1 ∙ ap (λ (n : ℕ). paste c.args.a 0 (add_row c.args.a c.args.b) n) e
    ∙ laid_over c.args.a (add_row c.args.a c.args.b) 9 l.invariant.1.0 (add_length c.args.a c.args.b (l.invariant.1.0 ∙ sym l.invariant.1.1.0) ∙ l.invariant.1.0)

pub add_rows_spec : {M : Type 1} → statement M
add_rows_spec =
    tie.close
    (tie.spec
    invariant-loop
    decreases-loop
    loop-holds
    (λ c. omega arith)
    (λ c. omega arith)
    (λ c. omega arith)
    (λ c. omega arith)
    add-sums
    (λ c. omega arith)
    (λ c. omega arith)
    (λ c. omega arith)
    (λ c. omega arith)
    loop-again
    returns)
