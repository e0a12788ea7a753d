-- `balance` meets its contract: its sum is the definition's and fits. Assumes nothing.
use mathlib.Core.Path.{ap}
use borrow.Author.Rules.{rules}
use Rattle.whole.proofs.RangeLaws.{Bounds, b_eq, exact, fits, ranges}
use Rattle.slices.specs.Slices.{case_of}
use Rattle.books.specs.Bookkeeping.{books_of}
use Rattle.books.proofs.OwnLaws.{own_boundary_in, own_pumped_in, own_recharge_in, own_storage_in}
use Rattle.balance.specs.Balance.{balance_in}
use Rattle.balance.proofs.BalanceLaws.{flows_in}
use Rattle.balance.proofs.balances.balance.Statement.{statement}
use Rattle.balance.proofs.balances.balance.Tie as tie

-- the terms, with their ranges
net-told : (c : tie.After-flows-net) → Bounds c.flows-net.result
net-told c =
    let s = c in
    b_eq c.flows-net.ensures (flows_in (case_of s.args.g s.args.columns.now s.args.rows.now s.args.slots.now) s.requires.0 s.args.fluid s.args.block s.requires.1.1.0)

recharge-told : (c : tie.After-own_terms-own) → Bounds c.own_terms-own.result.recharge
recharge-told c =
    let s = c in
    b_eq (ap (λ o. o.recharge) c.own_terms-own.ensures) (own_recharge_in (case_of s.args.g s.args.columns.now s.args.rows.now s.args.slots.now) s.requires.0 s.args.fluid s.args.block s.requires.1.1.0 s.requires.1.1.1.1)

boundary-told : (c : tie.After-own_terms-own) → Bounds c.own_terms-own.result.boundary
boundary-told c =
    let s = c in
    b_eq (ap (λ o. o.boundary) c.own_terms-own.ensures) (own_boundary_in (case_of s.args.g s.args.columns.now s.args.rows.now s.args.slots.now) s.requires.0 s.args.fluid s.args.block s.requires.1.1.0 s.requires.1.1.1.1)

pumped-told : (c : tie.After-own_terms-own) → Bounds c.own_terms-own.result.pumped
pumped-told c =
    let s = c in
    b_eq (ap (λ o. o.pumped) c.own_terms-own.ensures) (own_pumped_in (case_of s.args.g s.args.columns.now s.args.rows.now s.args.slots.now) s.requires.0 s.args.fluid s.args.block s.requires.1.1.0 s.requires.1.1.1.1)

storage-told : (c : tie.After-own_terms-own) → Bounds c.own_terms-own.result.storage
storage-told c =
    let s = c in
    b_eq (ap (λ o. o.storage) c.own_terms-own.ensures) (own_storage_in (case_of s.args.g s.args.columns.now s.args.rows.now s.args.slots.now) s.requires.0 s.args.fluid s.args.block s.requires.1.1.0 s.requires.1.1.1.1)

own-terms-requires : tie.Need-own_terms-own-requires
own-terms-requires c κs = c.requires

add-result : tie.Need-overflow_add-result
unfolding net-told recharge-told boundary-told pumped-told storage-told
add-result c = fits (search (ranges, net-told c.before.before.before, recharge-told c.before.before) depth 20) tt

add-result-2 : tie.Need-overflow_add-result-2
unfolding net-told recharge-told boundary-told pumped-told storage-told
add-result-2 c = fits (search (ranges, net-told c.before.before.before.before.before, recharge-told c.before.before.before.before, boundary-told c.before.before.before.before) depth 20) tt

sub-result : tie.Need-overflow_sub-result
unfolding net-told recharge-told boundary-told pumped-told storage-told
sub-result c = fits (search (ranges, net-told c.before.before.before.before.before.before.before, recharge-told c.before.before.before.before.before.before, boundary-told c.before.before.before.before.before.before, pumped-told c.before.before.before.before.before.before) depth 20) tt

sub-result-2 : tie.Need-overflow_sub-result-2
unfolding net-told recharge-told boundary-told pumped-told storage-told
sub-result-2 c = fits (search (ranges, net-told c.before.before.before.before.before.before.before.before.before, recharge-told c.before.before.before.before.before.before.before.before, boundary-told c.before.before.before.before.before.before.before.before, pumped-told c.before.before.before.before.before.before.before.before, storage-told c.before.before.before.before.before.before.before.before) depth 20) tt

returns : tie.Need-returns
unfolding net-told recharge-told boundary-told pumped-told storage-told balance_in books_of
returns c = exact (search (ranges, net-told c.before.before.before.before.before.before.before.before.before, recharge-told c.before.before.before.before.before.before.before.before, boundary-told c.before.before.before.before.before.before.before.before, pumped-told c.before.before.before.before.before.before.before.before, storage-told c.before.before.before.before.before.before.before.before) depth 20)

pub balance_spec : {M : Type 1} → statement M
balance_spec = tie.close (tie.spec (λ c κs. search rules) own-terms-requires add-result add-result-2 sub-result sub-result-2 returns)
