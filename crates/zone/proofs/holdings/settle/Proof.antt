-- `settle` meets its contract: a fixed block's balance goes to supply with its sign turned, a free one's to error. Assumes nothing.
use mathlib.Core.Path.{◌∙◌, ◌≡◌, ap, sym}
use native.Mathlib.Omega.{arith}
use lib.IntN.{pos}
use borrow.Author.Rules.{rules}
use Rattle.whole.specs.Inner.{Abs}
use Rattle.whole.proofs.RangeLaws.{answer, b_eq, fits, negated, ranges}
use Rattle.slots.specs.Slots.{block_of}
use Rattle.block.specs.Fluids.{in_fluid}
use Rattle.wellformed.proofs.LinksLaws.{reach}
use Rattle.books.specs.Inner.{pair_of}
use Rattle.books.specs.Own.{fixed_of}
use Rattle.books.proofs.WatersLaws.{active_ends}
use Rattle.balance.specs.Inner.{most_balance}
use Rattle.balance.proofs.BalanceLaws.{pair_in}
use Rattle.zone.specs.Holdings.{settled_of}
use Rattle.zone.specs.Zones.{in_zone, marked_of}
use Rattle.zone.proofs.TermLaws.{zone_active}
use Rattle.zone.proofs.holdings.settle.Statement.{statement}
use Rattle.zone.proofs.holdings.settle.Tie as tie

zone : (c : tie.After-in_zone) → in_zone c.args.slots.now (marked_of c.args.marks.now) c.args.block ≡ c.in_zone.result
zone c = sym c.in_zone.ensures

in-zone-requires : tie.Need-in_zone-requires
in-zone-requires c κs = (reach c.requires.0.room c.requires.1.1.1, omega (arith, c.requires.1.1.0, c.requires.1.1.1))

pair-requires : tie.Need-pair-requires
pair-requires c κs = omega (arith, c.requires.1.0.room, c.requires.1.1.1)

is-fixed-requires : tie.Need-is_fixed-requires
is-fixed-requires c κs =
    let s = c in
    rw c.load.ensures (active_ends s.args.g s.args.slots.now s.requires.0 s.args.block s.requires.1.1.1 (zone_active s.args.slots.now (marked_of s.args.marks.now) s.args.block (zone c.before.before.before.before ∙ c.if-in_zone.true)))

-- the balance in the fluid, with its range
balance-is : (c : tie.After-in_fluid-balance) → c.in_fluid-balance.result ≡ in_fluid (pair_of c.args.balances.now c.args.block) c.args.fluid
balance-is c = c.in_fluid-balance.ensures ∙ ap (λ f. in_fluid f c.args.fluid) c.pair.ensures

balance_in_lem : (c : tie.After-in_fluid-balance) → Abs most_balance (in_fluid (pair_of c.args.balances.now c.args.block) c.args.fluid)
balance_in_lem c = pair_in c.args.fluid c.requires.1.0 c.requires.1.1.1

fixed : (c : tie.After-is_fixed) → fixed_of (block_of c.args.slots.now c.args.block) c.args.fluid ≡ c.is_fixed.result
fixed c = sym (c.is_fixed.ensures ∙ ap (λ b. fixed_of b c.args.fluid) c.load.ensures)

sub-t12 : tie.Need-overflow_sub-result
sub-t12 c = fits (search (ranges, b_eq (balance-is c.before.before.before) (balance_in_lem c.before.before.before)) depth 20) tt

returns : tie.Need-returns-then-is_fixed
unfolding settled_of
returns c =
    let e = negated (balance-is c.before.before.before) (balance_in_lem c.before.before.before) tt tt in
    rw (zone c.before.before.before.before.before.before ∙ c.if-in_zone.true, fixed c.before ∙ c.if-is_fixed.true) (λ k. record { supply = e k; error = pos 0 })

returns-2 : tie.Need-returns-then-in_zone
unfolding settled_of
returns-2 c =
    let e = answer c.in_fluid-balance.type_inv (balance-is c.before.before.before) in
    rw (zone c.before.before.before.before.before.before ∙ c.if-in_zone.true, fixed c.before ∙ c.if-is_fixed.false) (λ k. record { supply = pos 0; error = e k })

returns-3 : tie.Need-returns
unfolding settled_of
returns-3 c = rw (zone c.before ∙ c.if-in_zone.false)

pub settle_spec : {M : Type 1} → statement M
settle_spec =
    tie.close
    (tie.spec
    in-zone-requires
    pair-requires
    (λ c κs. search rules)
    (λ c κs. reach c.requires.0.room c.requires.1.1.1)
    is-fixed-requires
    sub-t12
    returns
    returns-2
    returns-3)
