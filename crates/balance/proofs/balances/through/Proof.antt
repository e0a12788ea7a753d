-- `through` meets its contract: the sum of two flows fits. Assumes nothing.
use borrow.Author.Rules.{rules}
use Rattle.whole.proofs.RangeLaws.{Bounds, b_eq, exact, fits, ranges}
use Rattle.slices.specs.Slices.{case_of}
use Rattle.balance.specs.Balance.{through_of}
use Rattle.balance.proofs.BalanceLaws.{ending_in, leading_in}
use Rattle.balance.proofs.balances.through.Statement.{statement}
use Rattle.balance.proofs.balances.through.Tie as tie

-- what the two links bring, with their ranges
leading-told : (c : tie.After-brought-leading) → Bounds c.brought-leading.result
leading-told c =
    let s = c in
    b_eq c.brought-leading.ensures (leading_in (case_of s.args.g s.args.columns.now s.args.rows.now s.args.slots.now) s.requires.0 s.args.fluid s.args.block s.requires.1.1.0 s.args.axis s.requires.1.1.1.1)

ending-told : (c : tie.After-ending) → Bounds c.ending.result
ending-told c =
    let s = c in
    b_eq c.ending.ensures (ending_in (case_of s.args.g s.args.columns.now s.args.rows.now s.args.slots.now) s.requires.0 s.args.fluid s.args.block s.requires.1.1.0 s.args.axis s.requires.1.1.1.1)

add-result : tie.Need-overflow_add-result
unfolding leading-told ending-told
add-result c = fits (search (ranges, leading-told c.before, ending-told c) depth 20) tt

returns : tie.Need-returns
unfolding through_of leading-told ending-told
returns c = exact (search (ranges, leading-told c.before, ending-told c) depth 20)

pub through_spec : {M : Type 1} → statement M
through_spec = tie.close (tie.spec (λ c κs. search rules) (λ c κs. search rules) add-result returns)
