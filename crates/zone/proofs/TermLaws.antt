-- What blocks and links give to a zone's lines in a well-formed case: a link that leads outside gives nothing, and every number is in range.
-- Assumes nothing.
use mathlib.Core.Bool.{Bool, ◌&&◌, cond, false, not, true}
use mathlib.Core.List.{List}
use mathlib.Core.Path.{◌∙◌, ◌≡◌, ap, refl, sym}
use Prim.Native.Nat.{◌+◌, ◌<◌, ◌≤◌, ℕ}
use native.Mathlib.Omega.{arith}
use lib.Dec.{T}
use lib.IntN.{+ℤ_invl, ◌+ℤ◌, neg_ℤ, pos, ℤ}
use Rattle.whole.specs.Sum.{only, sum}
use Rattle.whole.specs.Inner.{Abs, In}
use Rattle.whole.proofs.RangeLaws.{leaf, ranges, within}
use Rattle.whole.proofs.SearchLaws.{both, holds, true_is}
use Rattle.whole.proofs.SumLaws.{only_abs, only_and, only_zero, sum_in}
use Rattle.grid.specs.declared.Grid.{Grid}
use Rattle.grid.specs.Place.{blocks_of, next_of, stride_of}
use Rattle.grid.specs.Units.{above}
use Rattle.slots.specs.Units.{most_pumpage}
use Rattle.slices.specs.Slices.{Case}
use Rattle.block.specs.Fluids.{in_fluid}
use Rattle.block.specs.Inner.{most_volume}
use Rattle.flow.specs.Inner.{most_flow, most_over_area}
use Rattle.wellformed.specs.Inner.{WellFormed}
use Rattle.wellformed.specs.Limits.{block_in}
use Rattle.wellformed.specs.Links.{active_of}
use Rattle.wellformed.proofs.LinksLaws.{outside_dead}
use Rattle.books.specs.declared.own.Own.{Own}
use Rattle.books.specs.Bookkeeping.{Books, books_of, brought_of}
use Rattle.books.specs.Inner.{Row, pair_of}
use Rattle.books.specs.Own.{fixed_of, own_of}
use Rattle.books.proofs.CarriedLaws.{brought_dead, brought_in}
use Rattle.books.proofs.OwnLaws.{own_boundary_in, own_pumped_in, own_recharge_in, own_storage_in}
use Rattle.balance.specs.Balance.{balance_in, balances_of}
use Rattle.balance.specs.Inner.{most_balance}
use Rattle.balance.proofs.BalanceLaws.{balance_active, balance_in_lem, balance_in_fluid}
use Rattle.zone.specs.declared.lines.Lines.{Lines}
use Rattle.zone.specs.declared.holdings.Settlement.{Settlement}
use Rattle.zone.specs.Inner.{at_edge, terms_of}
use Rattle.zone.specs.Exchange.{changes, converted_at, edge_of, edges_of, inflow_of, outflow_of, to_one_side}
use Rattle.zone.specs.Holdings.{nothing, own_in, settled_of}
use Rattle.zone.specs.Zones.{differ, in_zone}

-- nine lines, each at most so great without sign
pub record Within (most : ℕ) (l : Lines) : Type 0 where
  pub storage : Abs most l.storage
  pub edge_in : Abs most l.edge_in
  pub edge_out : Abs most l.edge_out
  pub converted : Abs most l.converted
  pub wells : Abs most l.wells
  pub recharge : Abs most l.recharge
  pub boundary : Abs most l.boundary
  pub supply : Abs most l.supply
  pub error : Abs most l.error

-- ---- marks

pub zone_active : (slots : List ℤ) (z : ℕ → Bool) (i : ℕ) → in_zone slots z i ≡ true → active_of slots i ≡ true
unfolding in_zone
zone_active slots z i e = true_is (both (z i) (active_of slots i) (holds e)).1

-- ---- edge lines

-- the greatest sum of three flows, litres a day
abbrev pub most_edges : ℕ
most_edges = 4123168604160

-- what a link with one side marked brings there, by whether it is one and which side is marked
pub edge_at : (g : Grid) (F : Books) (z : ℕ → Bool) (d i : ℕ) → edge_of g F z d i ≡ only (at_edge g z d i) (brought_of F (z i) d i)
unfolding edge_of at_edge
edge_at g F z d i = go (z i) (z (i + stride_of g d))
  where
    go : (a b : Bool) → to_one_side a b (brought_of F true d i) (brought_of F false d i) ≡ only (differ a b) (brought_of F a d i)
    go true true = refl
    go true false = refl
    go false true = refl
    go false false = refl

module _ (c : Case) (fluid : ℕ) (z : ℕ → Bool) (d i : ℕ) where
  pub edge_outside : next_of c.grid d i ≡ false → edge_of c.grid (books_of c fluid) z d i ≡ pos 0
  edge_outside e = edge_at c.grid (books_of c fluid) z d i ∙ ap (only (at_edge c.grid z d i)) (brought_dead c fluid d i (z i) (outside_dead c.grid c.slots d i e)) ∙ only_zero (at_edge c.grid z d i)

module _ (c : Case) (formed : WellFormed c) (fluid : ℕ) (z : ℕ → Bool) (i : ℕ) (l : i < blocks_of c.grid) where
  pub edge_in_lem : (d : ℕ) → d ≤ above → Abs most_flow (edge_of c.grid (books_of c fluid) z d i)
  edge_in_lem d h = rw (edge_at c.grid (books_of c fluid) z d i) (only_abs (at_edge c.grid z d i) (brought_in c formed fluid d i (z i) h l))

  pub inflow_in : (d : ℕ) → d ≤ above → Abs most_flow (inflow_of (edge_of c.grid (books_of c fluid) z d i))
  inflow_in d h = within (search (ranges, leaf (edge_in_lem d h)) depth 20) tt tt

  pub outflow_in : (d : ℕ) → d ≤ above → Abs most_flow (outflow_of (edge_of c.grid (books_of c fluid) z d i))
  outflow_in d h = within (search (ranges, leaf (edge_in_lem d h)) depth 20) tt tt

  -- along the first axes, as a loop adds them up
  pub inflows_in : (axes : ℕ) → axes ≤ 3 → Abs most_edges (sum axes (λ d. inflow_of (edge_of c.grid (books_of c fluid) z d i)))
  inflows_in axes h = sum_in axes 3 most_flow (λ d. inflow_of (edge_of c.grid (books_of c fluid) z d i)) h (λ d k. inflow_in d (omega (arith, h, k)))

  pub outflows_in : (axes : ℕ) → axes ≤ 3 → Abs most_edges (sum axes (λ d. outflow_of (edge_of c.grid (books_of c fluid) z d i)))
  outflows_in axes h = sum_in axes 3 most_flow (λ d. outflow_of (edge_of c.grid (books_of c fluid) z d i)) h (λ d k. outflow_in d (omega (arith, h, k)))

-- ---- converted

-- water that counts on both sides, or on none, is no gain
pub no_gain : (low high : Bool) (flow : ℤ) → T (not (differ low high)) → only low (neg_ℤ flow) +ℤ only high flow ≡ pos 0
no_gain true true flow t = +ℤ_invl flow
no_gain true false flow t = absurd t
no_gain false true flow t = absurd t
no_gain false false flow t = refl

changed_is : (F : Books) (i : ℕ) → only (changes F i) (brought_of F true above i +ℤ brought_of F false above i) ≡ brought_of F true above i +ℤ brought_of F false above i
unfolding changes brought_of
changed_is F i = go (differ (F.low_is above i) (F.high_is above i)) (no_gain (F.low_is above i) (F.high_is above i) (F.flow above i))
  where
    go : (b : Bool) {x : ℤ} → (T (not b) → x ≡ pos 0) → only b x ≡ x
    go true h = refl
    go false h = sym (h tt)

-- so that converted is what a pair gains, whether its water changes fluid or not, if both its blocks are marked
pub converted_is : (g : Grid) (F : Books) (z : ℕ → Bool) (i : ℕ) → converted_at g F z i ≡ only (z i && z (i + stride_of g above)) (brought_of F true above i +ℤ brought_of F false above i)
unfolding converted_at
converted_is g F z i =
    let marked : Bool = z i && z (i + stride_of g above) in
    sym (only_and marked (changes F i) (brought_of F true above i +ℤ brought_of F false above i)) ∙ ap (only marked) (changed_is F i)

module _ (c : Case) (fluid : ℕ) (z : ℕ → Bool) (i : ℕ) where
  pub converted_marked : z i ≡ true → z (i + stride_of c.grid above) ≡ true → converted_at c.grid (books_of c fluid) z i ≡ brought_of (books_of c fluid) true above i +ℤ brought_of (books_of c fluid) false above i
  unfolding converted_at
  converted_marked a b = rw (a, b) (changed_is (books_of c fluid) i)

  pub converted_outside : next_of c.grid above i ≡ false → converted_at c.grid (books_of c fluid) z i ≡ pos 0
  unfolding converted_at
  converted_outside e =
      let dead = outside_dead c.grid c.slots above i e in
      rw (brought_dead c fluid above i true dead, brought_dead c fluid above i false dead) (only_zero ((z i && z (i + stride_of c.grid above)) && changes (books_of c fluid) i))

-- ---- what a block gives by itself

module _ (c : Case) (formed : WellFormed c) (fluid : ℕ) (z : ℕ → Bool) (i : ℕ) (l : i < blocks_of c.grid) where
  abbrev owned : Own
  owned = own_in c.slots (books_of c fluid) z i

  own_in_lem : Abs most_volume owned.storage × (Abs most_pumpage owned.pumped × (In (pos 0) (pos most_over_area) owned.recharge × Abs most_flow owned.boundary))
  unfolding own_in books_of
  own_in_lem = go (in_zone c.slots z i) refl
    where
      go : (b : Bool) → in_zone c.slots z i ≡ b → let o = cond b (own_of c fluid i) nothing in Abs most_volume o.storage × (Abs most_pumpage o.pumped × (In (pos 0) (pos most_over_area) o.recharge × Abs most_flow o.boundary))
      go true e =
          let a = zone_active c.slots z i e in
          (own_storage_in c formed fluid i l a, (own_pumped_in c formed fluid i l a, (own_recharge_in c formed fluid i l a, own_boundary_in c formed fluid i l a)))
      go false e = (within (search ranges depth 20) tt tt, (within (search ranges depth 20) tt tt, (within (search ranges depth 20) tt tt, within (search ranges depth 20) tt tt)))

  pub own_in_pumped : Abs most_pumpage owned.pumped
  own_in_pumped = own_in_lem.1.0

  abbrev rest : Settlement
  rest = settled_of (in_zone c.slots z i) ((books_of c fluid).fixed i) (balance_in c.grid (books_of c fluid) i)

  rest_in : Abs most_balance rest.supply × Abs most_balance rest.error
  unfolding settled_of
  rest_in = go (in_zone c.slots z i) refl
    where
      balance : ℤ
      balance = balance_in c.grid (books_of c fluid) i

      fixed : Bool
      fixed = (books_of c fluid).fixed i

      go : (b : Bool) → in_zone c.slots z i ≡ b → Abs most_balance (only (b && fixed) (neg_ℤ balance)) × Abs most_balance (only (b && not fixed) balance)
      go true e =
          let h = balance_in_lem c formed fluid i l (zone_active c.slots z i e) in
          (only_abs fixed (within (search (ranges, leaf h) depth 20) tt tt), only_abs (not fixed) h)
      go false e = (within (search ranges depth 20) tt tt, within (search ranges depth 20) tt tt)

  converted_in : Abs most_balance (converted_at c.grid (books_of c fluid) z i)
  unfolding converted_at
  converted_in =
      only_abs ((z i && z (i + stride_of c.grid above)) && changes (books_of c fluid) i)
      (within (search (ranges, leaf (brought_in c formed fluid above i true (omega arith) l), leaf (brought_in c formed fluid above i false (omega arith) l)) depth 20) tt tt)

  -- no line of a block is greater than the greatest balance
  pub terms_in : Within most_balance (terms_of c.grid c.slots (books_of c fluid) z i)
  unfolding terms_of edges_of
  terms_in =
      record {
        storage = within (search (ranges, leaf own_in_lem.0) depth 20) tt tt;
        edge_in = within (search (ranges, leaf (inflows_in c formed fluid z i l 3 (omega arith))) depth 20) tt tt;
        edge_out = within (search (ranges, leaf (outflows_in c formed fluid z i l 3 (omega arith))) depth 20) tt tt;
        converted = converted_in;
        wells = within (search (ranges, leaf own_in_pumped) depth 20) tt tt;
        recharge = within (search (ranges, leaf own_in_lem.1.1.0) depth 20) tt tt;
        boundary = within (search (ranges, leaf own_in_lem.1.1.1) depth 20) tt tt;
        supply = rest_in.0;
        error = rest_in.1;
      }

-- the balance, and whether the head is fixed, count in a zone alone
pub settled_same : (marked : Bool) {p q : Bool} {a b : ℤ} → (T marked → p ≡ q) → (T marked → a ≡ b) → settled_of marked p a ≡ settled_of marked q b
unfolding settled_of
settled_same true f h = λ k. record { supply = only (f tt k) (neg_ℤ (h tt k)); error = only (not (f tt k)) (h tt k) }
settled_same false f h = refl

-- and is read from a row of balances
pub settled_read : (c : Case) (row : List ℤ) → Row (blocks_of c.grid) (balances_of c) row → (fluid : ℕ) → fluid < 2 → (z : ℕ → Bool) (i : ℕ) → i < blocks_of c.grid
    → settled_of (in_zone c.slots z i) (fixed_of (block_in c i) fluid) (in_fluid (pair_of row i) fluid) ≡ settled_of (in_zone c.slots z i) ((books_of c fluid).fixed i) (balance_in c.grid (books_of c fluid) i)
unfolding books_of
settled_read c row filled fluid h z i l =
    settled_same (in_zone c.slots z i) (λ t. refl)
    (λ t. rw (filled.each i l) (balance_in_fluid c fluid i h ∙ balance_active c fluid i (zone_active c.slots z i (true_is t))))
