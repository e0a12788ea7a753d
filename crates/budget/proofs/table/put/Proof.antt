-- `put` meets its contract. The invariant: the lines passed are laid in. Assumes nothing.
use mathlib.Core.Path.{◌∙◌, ◌≡◌}
use Prim.Native.Nat.{◌-◌, ◌≤◌}
use native.Mathlib.Omega.{arith}
use lib.IntN.{pos}
use lib.ListN.{get_or, length, length-set}
use lib.Seq.{paste, paste-zero}
use borrow.Author.Rules.{rules}
use Rattle.whole.proofs.RangeLaws.{read_back}
use Rattle.budget.proofs.TableLaws.{lay_more}
use Rattle.budget.proofs.table.put.Statement.{statement}
use Rattle.budget.proofs.table.put.Tie as tie

abbrev invariant-loop : tie.invariant-loop-line
invariant-loop at row out₀ line₀ out line =
    (line ≤ 9) × ((length row ≡ 9) × ((length out₀ ≡ 18) × ((length out ≡ 18) × (out ≡ paste out₀ at row line))))

abbrev decreases-loop : tie.decreases-loop-line
decreases-loop at row out₀ line₀ out line = 9 - line

loop-holds : tie.Need-loop-line-init invariant-loop decreases-loop
loop-holds c = (omega arith, (search rules, (search rules, (search rules, paste-zero c.args.lines c.args.at c.args.row))))

loop-again : tie.Need-loop-line-preserved invariant-loop decreases-loop
loop-again c =
    let l = c.loop-line in
    let a = c.args in (
      omega arith,
      (
        l.invariant.1.0,
        (
          l.invariant.1.1.0,
          (
            simp length-set l.invariant.1.1.1.0,
            lay_more a.lines l.out a.row a.at l.line _ l.invariant.1.1.1.1 (omega arith) (omega arith) (read_back (get_or a.row l.line (pos 0)) c.out-1.given),
          ),
        ),
      ),
    )

returns : tie.Need-returns invariant-loop decreases-loop
returns c =
    let l = c.loop-line in
    let e : l.line ≡ 9 = omega arith in
    (l.invariant.1.1.1.1 ∙ rw e, l.invariant.1.0)

pub put_spec : {M : Type 1} → statement M
put_spec =
    tie.close
    (tie.spec
    invariant-loop
    decreases-loop
    loop-holds
    (λ c. omega arith)
    (λ c. omega arith)
    (λ c. omega arith)
    (λ c. omega arith)
    (λ c. omega arith)
    (λ c. omega arith)
    (λ c. omega arith)
    loop-again
    returns)
