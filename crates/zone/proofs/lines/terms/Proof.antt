-- `terms` meets its contract: the balance that supply and error take is read from the row. Assumes nothing.
use mathlib.Core.Path.{◌∙◌, ◌≡◌, ap}
use Prim.Native.Nat.{◌<◌, ◌≤◌}
use lib.ListN.{length}
use Rattle.whole.specs.Inner.{Abs}
use Rattle.whole.proofs.RangeLaws.{answer, b_eq, fits, negated, ranges}
use Rattle.grid.specs.declared.place.Place.{Place}
use Rattle.grid.specs.Place.{blocks_of, place_of}
use Rattle.slots.specs.Units.{most_pumpage}
use Rattle.slices.specs.Slices.{Case, case_of}
use Rattle.wellformed.specs.Inner.{WellFormed}
use Rattle.books.specs.Inner.{Watered}
use Rattle.books.specs.Bookkeeping.{books_of}
use Rattle.books.proofs.WatersLaws.{slotted}
use Rattle.balance.specs.Balance.{balance_in}
use Rattle.balance.proofs.BalanceLaws.{row_bounded}
use Rattle.zone.specs.Holdings.{own_in, settled_of}
use Rattle.zone.specs.Inner.{terms_of}
use Rattle.zone.specs.Zones.{in_zone, marked_of}
use Rattle.zone.proofs.TermLaws.{own_in_pumped, settled_read}
use Rattle.zone.proofs.lines.terms.Statement.{statement}
use Rattle.zone.proofs.lines.terms.Tie as tie

abbrev case_in : tie.Start → Case
case_in c = case_of c.args.g c.args.columns.now c.args.rows.now c.args.slots.now

-- what the calls for one place of the block require
abbrev Placed : tie.Start → Place → Type 0
Placed c place =
    WellFormed (case_in c)
    × (Watered c.args.g c.args.slots.now c.args.waters.now
    × ((blocks_of c.args.g ≤ length c.args.marks.now) × ((c.args.block < blocks_of c.args.g) × (place ≡ place_of c.args.g c.args.block))))

placed : (c : tie.After-place_of-place) → Placed c.before c.place_of-place.result
placed c = let h = c.requires in (h.0.formed, (h.0.watered, (h.0.reach, (h.1.0, c.place_of-place.ensures))))

settle-requires : tie.Need-settle-rest-requires
settle-requires c κs =
    let s = c.before.before.before in
    (slotted (case_in s) s.requires.0.formed.judged, (row_bounded (case_in s) s.requires.0.formed s.args.balances.now s.requires.0.balanced, (s.requires.0.reach, s.requires.1.0)))

-- what the own terms of the zone are, and the water pumped with its range
own_is : (c : tie.After-own_in_zone-own) → c.own_in_zone-own.result ≡ own_in c.args.slots.now (books_of (case_in c.before.before.before) c.args.fluid) (marked_of c.args.marks.now) c.args.block
own_is c = c.own_in_zone-own.ensures

pumped-in : (c : tie.After-own_in_zone-own) → Abs most_pumpage (own_in c.args.slots.now (books_of (case_in c.before.before.before) c.args.fluid) (marked_of c.args.marks.now) c.args.block).pumped
pumped-in c = own_in_pumped (case_in c.before.before.before) c.requires.0.formed c.args.fluid (marked_of c.args.marks.now) c.args.block c.requires.1.0

sub-t15 : tie.Need-overflow_sub-result
sub-t15 c = fits (search (ranges, b_eq (ap (λ o. o.pumped) (own_is c.before.before.before.before)) (pumped-in c.before.before.before.before)) depth 20) tt

rest-is : (c : tie.After-settle-rest) → c.settle-rest.result ≡ settled_of (in_zone c.args.slots.now (marked_of c.args.marks.now) c.args.block) ((books_of (case_in c.before.before.before.before) c.args.fluid).fixed c.args.block) (balance_in c.args.g (books_of (case_in c.before.before.before.before) c.args.fluid) c.args.block)
rest-is c =
    let s = c.before.before.before.before in
    c.settle-rest.ensures ∙ settled_read (case_in s) s.args.balances.now s.requires.0.balanced s.args.fluid s.requires.1.1 (marked_of s.args.marks.now) s.args.block s.requires.1.0

returns : tie.Need-returns
unfolding terms_of
returns c =
    let own = own_is c.before.before.before.before.before.before.before in
    let owned = c.struct_told-2-1.given in
    let edge = c.edges-edge.ensures in
    let edged = c.struct_told-3-1.given in
    let rest = rest-is c.before.before.before.before.before.before in
    let rested = c.struct_told-4-1.given in
    let storage = answer owned.1.1.1.0.1 (ap (λ o. o.storage) own) in
    let inflow = answer edged.0.1 (ap (λ x. x.inflow) edge) in
    let outflow = answer edged.1.0.1 (ap (λ x. x.outflow) edge) in
    let converted = answer c.converted.type_inv c.converted.ensures in
    let wells = negated (ap (λ o. o.pumped) own) (pumped-in c.before.before.before.before.before.before.before) tt tt in
    let recharge = answer owned.0.1 (ap (λ o. o.recharge) own) in
    let boundary = answer owned.1.0.1 (ap (λ o. o.boundary) own) in
    let supply = answer rested.0.1 (ap (λ x. x.supply) rest) in
    let error = answer rested.1.0.1 (ap (λ x. x.error) rest) in
    λ k. record {
      storage = storage k;
      edge_in = inflow k;
      edge_out = outflow k;
      converted = converted k;
      wells = wells k;
      recharge = recharge k;
      boundary = boundary k;
      supply = supply k;
      error = error k;
    }

pub terms_spec : {M : Type 1} → statement M
terms_spec =
    tie.close
    (tie.spec
    (λ c κs. c.requires.0.formed.judged.counted)
    (λ c κs. placed c)
    (λ c κs. placed c.before)
    settle-requires
    (λ c κs. placed c.before.before.before)
    sub-t15
    returns)
