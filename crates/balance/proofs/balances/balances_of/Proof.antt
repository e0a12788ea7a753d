-- `balances_of` meets its contract: both balances of an active block. Assumes nothing.
use mathlib.Core.Bool.{true}
use mathlib.Core.Path.{◌∙◌, ◌≡◌, sym}
use borrow.Author.Rules.{rules}
use Rattle.whole.proofs.RangeLaws.{answer}
use Rattle.block.proofs.FluidLaws.{both_same}
use Rattle.wellformed.specs.Links.{active_of}
use Rattle.balance.specs.Balance.{balance_of}
use Rattle.balance.proofs.balances.balances_of.Statement.{statement}
use Rattle.balance.proofs.balances.balances_of.Tie as tie

active : (c : tie.Then-is_active) → active_of c.args.slots.now c.args.block ≡ true
active c = sym c.is_active.ensures ∙ c.if-is_active.true

balance-requires : tie.Need-balance-requires
balance-requires c κs = let h = c.requires in (h.0, (h.1.0, (h.1.1, (c.place_of-place.ensures, active c.before))))

balance-requires-2 : tie.Need-balance-requires-then-is_active
balance-requires-2 c κs = let h = c.requires in (h.0, (h.1.0, (h.1.1, (c.place_of-place.ensures, active c.before.before))))

returns : tie.Need-returns-then-is_active
unfolding balance_of
returns c = rw (active c.before.before.before) (both_same (answer c.balance.type_inv c.balance.ensures) (answer c.balance-then-is_active.type_inv c.balance-then-is_active.ensures))

returns-2 : tie.Need-returns
unfolding balance_of
returns-2 c = rw (sym c.is_active.ensures ∙ c.if-is_active.false)

pub balances_of_spec : {M : Type 1} → statement M
balances_of_spec =
    tie.close
    (tie.spec
    (λ c κs. search rules)
    (λ c κs. search rules)
    balance-requires
    balance-requires-2
    returns
    returns-2)
