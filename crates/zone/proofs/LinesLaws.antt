-- Lines of a zone: what crosses its edge is what its blocks gain by flows, marks beyond the grid do not matter, and the same books give the same lines.
-- Assumes nothing.
use mathlib.Core.Bool.{Bool, ◌&&◌, cond, false, not, true}
use mathlib.Core.List.{List}
use mathlib.Core.Logic.{⊎_elim}
use mathlib.Core.Path.{◌∙◌, ◌≡◌, ap, ap₂, refl, sym}
use Prim.Native.Nat.{◌+◌, ◌<◌, ℕ}
use native.Mathlib.Omega.{arith}
use lib.Dec.{T}
use lib.IntN.{+ℤ_idl, +ℤ_idr, ◌+ℤ◌, ◌-ℤ◌, neg_ℤ, pos, ℤ}
use lib.Signed.{◌<ℤ◌, ◌≤ℤ◌}
use Rattle.whole.specs.Sum.{back, only, sum}
use Rattle.whole.proofs.LinearLaws.{#, from1, linear, signed}
use Rattle.whole.proofs.OrderLaws.{<ℤ-≤ℤ, max_ℤ_left, max_ℤ_right, ≤ℤ_or-<}
use Rattle.whole.proofs.SearchLaws.{both, holds, joint, same_test}
use Rattle.whole.proofs.SumLaws.{only_add, only_back, only_off, only_sum, only_zero, sum_add, sum_less_add, sum_move, sum_same, sum_swap}
use Rattle.grid.specs.declared.Grid.{Grid}
use Rattle.grid.specs.Inner.{Counted}
use Rattle.grid.specs.Place.{blocks_of, stride_of}
use Rattle.grid.specs.Units.{above}
use Rattle.slices.specs.Slices.{Case}
use Rattle.wellformed.specs.Links.{active_of, live_of}
use Rattle.wellformed.proofs.LinksLaws.{live_high, live_low, live_inside}
use Rattle.books.specs.Bookkeeping.{Books, books_of, brought_of}
use Rattle.books.proofs.CarriedLaws.{books_lateral, brought_dead}
use Rattle.balance.specs.Balance.{balance_in, flows_of, through_of}
use Rattle.balance.proofs.SameLaws.{SameBooks, SameCases, balance_same, books_same}
use Rattle.zone.specs.declared.lines.Lines.{Lines}
use Rattle.zone.specs.Accounts.{crossed}
use Rattle.zone.specs.Inner.{at_edge, terms_of, totals_of}
use Rattle.zone.specs.Exchange.{changes, converted_at, edge_of, edges_of, inflow_of, outflow_of, to_one_side}
use Rattle.zone.specs.Holdings.{nothing, own_in, settled_of}
use Rattle.zone.specs.Table.{lines_by, lines_of}
use Rattle.zone.specs.Zones.{differ, in_zone}
use Rattle.zone.proofs.TermLaws.{converted_is, edge_at, no_gain, settled_same}

-- ---- one link

-- what flows in less what flows out is what is gained
in_less_out : (gain : ℤ) → inflow_of gain -ℤ outflow_of gain ≡ gain
in_less_out gain = ⊎_elim gained lost (≤ℤ_or-< (pos 0) gain)
  where
    gained : pos 0 ≤ℤ gain → inflow_of gain -ℤ outflow_of gain ≡ gain
    gained h =
        let none : neg_ℤ gain ≤ℤ pos 0 = from1 h (search (signed, # gain) depth 30) (omega arith) in
        ap₂ ◌-ℤ◌ (max_ℤ_right h) (max_ℤ_left none) ∙ +ℤ_idr gain

    lost : gain <ℤ pos 0 → inflow_of gain -ℤ outflow_of gain ≡ gain
    lost h =
        let some : pos 0 ≤ℤ neg_ℤ gain = from1 h (search (signed, # gain) depth 30) (omega arith) in
        ap₂ ◌-ℤ◌ (max_ℤ_left (<ℤ-≤ℤ h)) (max_ℤ_right some) ∙ linear (search (signed, # gain) depth 30) (omega arith)

-- what it brings to its marked sides, and what they gain by a change of fluid where both are marked
to_marked : Grid → Books → (ℕ → Bool) → ℕ → ℕ → ℤ
to_marked g F z d i = only (z i) (brought_of F true d i) +ℤ only (z (i + stride_of g d)) (brought_of F false d i)

turned_at : Grid → Books → (ℕ → Bool) → ℕ → ℕ → ℤ
turned_at g F z d i = only ((z i && z (i + stride_of g d)) && differ (F.low_is d i) (F.high_is d i)) (brought_of F true d i +ℤ brought_of F false d i)

-- a and b are the marks of its low and its high side, and x is what it brings to each
by_marks : (a b turns : Bool) (x : Bool → ℤ) → (T (not turns) → x true +ℤ x false ≡ pos 0) → to_one_side a b (x true) (x false) +ℤ only ((a && b) && turns) (x true +ℤ x false) ≡ only a (x true) +ℤ only b (x false)
by_marks true true true x h = +ℤ_idl (x true +ℤ x false)
by_marks true true false x h = sym (h tt)
by_marks true false turns x h = refl
by_marks false true turns x h = +ℤ_idr (x false) ∙ sym (+ℤ_idl (x false))
by_marks false false turns x h = refl

link_crosses : (g : Grid) (F : Books) (z : ℕ → Bool) (d i : ℕ) → edge_of g F z d i +ℤ turned_at g F z d i ≡ to_marked g F z d i
unfolding edge_of turned_at to_marked brought_of
link_crosses g F z d i =
    by_marks (z i) (z (i + stride_of g d)) (differ (F.low_is d i) (F.high_is d i)) (λ low. brought_of F low d i) (no_gain (F.low_is d i) (F.high_is d i) (F.flow d i))

-- ---- the three links that lead on from a block

block_crosses : (g : Grid) (F : Books) (z : ℕ → Bool) (i : ℕ)
    → (edges_of g F z i).inflow -ℤ (edges_of g F z i).outflow +ℤ sum 3 (λ d. turned_at g F z d i) ≡ sum 3 (λ d. to_marked g F z d i)
unfolding edges_of
block_crosses g F z i =
    sym (sum_less_add 3 (λ d. inflow_of (edge_of g F z d i)) (λ d. outflow_of (edge_of g F z d i)) (λ d. turned_at g F z d i))
    ∙ sum_same 3 (λ d. inflow_of (edge_of g F z d i) -ℤ outflow_of (edge_of g F z d i) +ℤ turned_at g F z d i) (λ d. to_marked g F z d i)
    (λ d l. ap (λ x. x +ℤ turned_at g F z d i) (in_less_out (edge_of g F z d i)) ∙ link_crosses g F z d i)

-- ---- the links of a case

module _ (c : Case) (counted : Counted c.grid) (fluid : ℕ) where
  abbrev g : Grid
  g = c.grid

  abbrev n : ℕ
  n = blocks_of g

  abbrev F : Books
  F = books_of c fluid

  -- through a lateral face water stays what it is, so that all that turns is converted
  turned_lateral : (z : ℕ → Bool) (d i : ℕ) → d < above → turned_at g F z d i ≡ pos 0
  unfolding turned_at
  turned_lateral z d i h =
      rw ((books_lateral c fluid d i h).0, (books_lateral c fluid d i h).1)
      (only_off ((z i && z (i + stride_of g d)) && false) (brought_of F true d i +ℤ brought_of F false d i) (λ t. (both (z i && z (i + stride_of g d)) false t).1))

  turned_converted : (z : ℕ → Bool) (i : ℕ) → sum 3 (λ d. turned_at g F z d i) ≡ converted_at g F z i
  unfolding sum turned_at converted_at changes
  turned_converted z i =
      ap (λ x. pos 0 +ℤ x +ℤ turned_at g F z 1 i +ℤ converted_at g F z i) (turned_lateral z 0 i (omega arith))
      ∙ ap (λ x. pos 0 +ℤ x +ℤ converted_at g F z i) (turned_lateral z 1 i (omega arith))
      ∙ +ℤ_idl (converted_at g F z i)

  crosses_links : (z : ℕ → Bool) → crossed (lines_of c z fluid) ≡ sum n (λ i. sum 3 (λ d. to_marked g F z d i))
  unfolding lines_by
  crosses_links z =
      sym (sum_less_add n (λ i. (edges_of g F z i).inflow) (λ i. (edges_of g F z i).outflow) (converted_at g F z))
      ∙ sum_same n (λ i. (edges_of g F z i).inflow -ℤ (edges_of g F z i).outflow +ℤ converted_at g F z i) (λ i. sum 3 (λ d. to_marked g F z d i))
      (λ i l. ap (λ x. (edges_of g F z i).inflow -ℤ (edges_of g F z i).outflow +ℤ x) (sym (turned_converted z i)) ∙ block_crosses g F z i)

  -- two tests that agree on a live link tell the same of what it brings
  where_live : (d i : ℕ) (low a b : Bool) → (T (live_of g c.slots d i) → a ≡ b) → only a (brought_of F low d i) ≡ only b (brought_of F low d i)
  where_live d i low a b h = go (live_of g c.slots d i) refl
    where
      go : (live : Bool) → live_of g c.slots d i ≡ live → only a (brought_of F low d i) ≡ only b (brought_of F low d i)
      go true e = ap (λ (t : Bool). only t (brought_of F low d i)) (h (holds e))
      go false e = rw (brought_dead c fluid d i low e) (only_zero a ∙ sym (only_zero b))

  marked_active : (z : ℕ → Bool) (i : ℕ) → T (active_of c.slots i) → in_zone c.slots z i ≡ z i
  unfolding in_zone
  marked_active z i active = same_test (z i && active_of c.slots i) (z i) (λ t. (both (z i) (active_of c.slots i) t).0) (λ t. joint (z i) (active_of c.slots i) t active)

  -- along an axis, from the blocks to the links: what a block gains by the link that ends in it is counted at that link
  along : (z : ℕ → Bool) (d : ℕ) → sum n (λ i. only (in_zone c.slots z i) (through_of g F d i)) ≡ sum n (to_marked g F z d)
  unfolding through_of to_marked
  along z d =
      sum_same n (λ i. only (m i) (low i +ℤ back s high i)) (λ i. leading i +ℤ back s ending i) (λ i l. only_add (m i) (low i) (back s high i) ∙ ap (λ x. leading i +ℤ x) (only_back s m high i))
      ∙ sum_add n leading (back s ending)
      ∙ ap (λ x. sum n leading +ℤ x) (sum_move n s ending (λ i l h. where_live d i false (m (i + s)) false (λ t. absurd (h (live_inside g c.slots d i t counted l)))))
      ∙ sym (sum_add n leading ending)
      ∙ sum_same n (λ i. leading i +ℤ ending i) (to_marked g F z d)
      (λ i l. ap₂ ◌+ℤ◌ (where_live d i true (m i) (z i) (λ t. marked_active z i (live_low g c.slots d i t))) (where_live d i false (m (i + s)) (z (i + s)) (λ t. marked_active z (i + s) (live_high g c.slots d i t))))
    where
      s : ℕ
      s = stride_of g d

      m : ℕ → Bool
      m i = in_zone c.slots z i

      low : ℕ → ℤ
      low i = brought_of F true d i

      high : ℕ → ℤ
      high i = brought_of F false d i

      leading : ℕ → ℤ
      leading i = only (m i) (low i)

      ending : ℕ → ℤ
      ending i = only (m (i + s)) (high i)

  flows_links : (z : ℕ → Bool) → sum n (λ i. only (in_zone c.slots z i) (flows_of g F i)) ≡ sum n (λ i. sum 3 (λ d. to_marked g F z d i))
  unfolding flows_of
  flows_links z =
      sum_same n (λ i. only (m i) (flows_of g F i)) (λ i. sum 3 (λ d. only (m i) (through_of g F d i))) (λ i l. only_sum (m i) 3 (λ d. through_of g F d i))
      ∙ sum_swap n 3 (λ i d. only (m i) (through_of g F d i))
      ∙ sum_same 3 (λ d. sum n (λ i. only (m i) (through_of g F d i))) (λ d. sum n (to_marked g F z d)) (λ d l. along z d)
      ∙ sum_swap 3 n (to_marked g F z)
    where
      m : ℕ → Bool
      m i = in_zone c.slots z i

  -- what crosses the edge and converts is what the marked active blocks gain by flows
  pub crosses_flows : (z : ℕ → Bool) → crossed (lines_of c z fluid) ≡ sum (blocks_of c.grid) (λ i. only (in_zone c.slots z i) (flows_of c.grid (books_of c fluid) i))
  crosses_flows z = crosses_links z ∙ sym (flows_links z)

  -- ---- zones alike on the blocks of the grid

  module _ (z w : ℕ → Bool) (alike : (i : ℕ) → i < n → z i ≡ w i) where
    edge_same : (d i : ℕ) → i < n → edge_of g F z d i ≡ edge_of g F w d i
    unfolding at_edge
    edge_same d i l =
        let far : ℕ = i + stride_of g d in
        rw (edge_at g F z d i, edge_at g F w d i, alike i l) (where_live d i (w i) (differ (w i) (z far)) (differ (w i) (w far)) (λ t. ap (differ (w i)) (alike far (live_inside g c.slots d i t counted l))))

    converted_same : (i : ℕ) → i < n → converted_at g F z i ≡ converted_at g F w i
    unfolding converted_at
    converted_same i l = only_add (turns z) (brought true) (brought false) ∙ ap₂ ◌+ℤ◌ (side true) (side false) ∙ sym (only_add (turns w) (brought true) (brought false))
      where
        far : ℕ
        far = i + stride_of g above

        brought : Bool → ℤ
        brought low = brought_of F low above i

        turns : (ℕ → Bool) → Bool
        turns z = (z i && z far) && changes F i

        side : (low : Bool) → only (turns z) (brought low) ≡ only (turns w) (brought low)
        side low = where_live above i low (turns z) (turns w) (λ t. ap₂ (λ a b. (a && b) && changes F i) (alike i l) (alike far (live_inside g c.slots above i t counted l)))

    own_same : (i : ℕ) → i < n → own_in c.slots F z i ≡ own_in c.slots F w i
    unfolding own_in in_zone
    own_same i l = rw (alike i l)

    settled_alike : (i : ℕ) → i < n → settled_of (in_zone c.slots z i) (F.fixed i) (balance_in g F i) ≡ settled_of (in_zone c.slots w i) (F.fixed i) (balance_in g F i)
    unfolding in_zone
    settled_alike i l = rw (alike i l)

-- ---- rows to which every block gives the same

-- what a block gives to the lines is told by its own terms, its links at the edge, what is converted there and how its balance is settled
terms_same : (g : Grid) (s t : List ℤ) (F F' : Books) (z w : ℕ → Bool) (i : ℕ) → own_in s F z i ≡ own_in t F' w i → ((d : ℕ) → d < 3 → edge_of g F z d i ≡ edge_of g F' w d i) → converted_at g F z i ≡ converted_at g F' w i
    → settled_of (in_zone s z i) (F.fixed i) (balance_in g F i) ≡ settled_of (in_zone t w i) (F'.fixed i) (balance_in g F' i) → terms_of g s F z i ≡ terms_of g t F' w i
unfolding terms_of edges_of
terms_same g s t F F' z w i own edge converted settled =
    λ k. record {
      storage = (own k).storage;
      edge_in = sum_same 3 _ _ (λ d h. ap inflow_of (edge d h)) k;
      edge_out = sum_same 3 _ _ (λ d h. ap outflow_of (edge d h)) k;
      converted = converted k;
      wells = neg_ℤ (own k).pumped;
      recharge = (own k).recharge;
      boundary = (own k).boundary;
      supply = (settled k).supply;
      error = (settled k).error;
    }

-- sums of the same are the same, line by line
totals_same : (n : ℕ) (f g : ℕ → Lines) → ((i : ℕ) → i < n → f i ≡ g i) → totals_of n f ≡ totals_of n g
unfolding totals_of
totals_same n f g same =
    λ k. record {
      storage = sum_same n _ _ (λ i l. ap (λ r. r.storage) (same i l)) k;
      edge_in = sum_same n _ _ (λ i l. ap (λ r. r.edge_in) (same i l)) k;
      edge_out = sum_same n _ _ (λ i l. ap (λ r. r.edge_out) (same i l)) k;
      converted = sum_same n _ _ (λ i l. ap (λ r. r.converted) (same i l)) k;
      wells = sum_same n _ _ (λ i l. ap (λ r. r.wells) (same i l)) k;
      recharge = sum_same n _ _ (λ i l. ap (λ r. r.recharge) (same i l)) k;
      boundary = sum_same n _ _ (λ i l. ap (λ r. r.boundary) (same i l)) k;
      supply = sum_same n _ _ (λ i l. ap (λ r. r.supply) (same i l)) k;
      error = sum_same n _ _ (λ i l. ap (λ r. r.error) (same i l)) k;
    }

-- the lines are the sums of what each block gives to them
pub lines_told : (g : Grid) (slots : List ℤ) (F : Books) (z : ℕ → Bool) → lines_by g slots F z ≡ totals_of (blocks_of g) (terms_of g slots F z)
unfolding lines_by totals_of terms_of
lines_told g slots F z = refl

-- A row depends on the marks of the grid's blocks alone: a link that leads outside brings nothing.
pub lines_same : (c : Case) → Counted c.grid → (z w : ℕ → Bool) → ((i : ℕ) → i < blocks_of c.grid → z i ≡ w i) → (fluid : ℕ) → lines_of c z fluid ≡ lines_of c w fluid
lines_same c counted z w alike fluid =
    let F = books_of c fluid in
    lines_told c.grid c.slots F z
    ∙ totals_same (blocks_of c.grid) _ _
    (λ i l.
    terms_same c.grid c.slots c.slots F F z w i (own_same c counted fluid z w alike i l) (λ d h. edge_same c counted fluid z w alike d i l) (converted_same c counted fluid z w alike i l)
    (settled_alike c counted fluid z w alike i l))
    ∙ sym (lines_told c.grid c.slots F w)

-- The same books give a zone the same row.
pub lines_by_same : {g : Grid} {s t : List ℤ} {F F' : Books} → SameBooks g s t F F' → (z : ℕ → Bool) → lines_by g s F z ≡ lines_by g t F' z
unfolding in_zone own_in edge_of
lines_by_same {g} {s} {t} {F} {F'} same z =
    lines_told g s F z
    ∙ totals_same (blocks_of g) _ _
    (λ i l.
    terms_same g s t F F' z z i (own i l) (λ d h. ap₂ (to_one_side (z i) (z (i + stride_of g d))) (same.brought true d i h l) (same.brought false d i h l)) (converted i l) (settled i l))
    ∙ sym (lines_told g t F' z)
  where
    -- the zone's blocks are the same, and active in both
    zone : (i : ℕ) → i < blocks_of g → in_zone s z i ≡ in_zone t z i
    zone i l = ap (λ (a : Bool). z i && a) (same.active i l)

    active : (i : ℕ) → T (in_zone s z i) → T (active_of s i)
    active i t = (both (z i) (active_of s i) t).1

    own : (i : ℕ) → i < blocks_of g → own_in s F z i ≡ own_in t F' z i
    own i l = go (in_zone s z i) (λ m. same.own i l (active i m)) ∙ ap (λ (m : Bool). cond m (F'.own i) nothing) (zone i l)
      where
        go : (m : Bool) → (T m → F.own i ≡ F'.own i) → cond m (F.own i) nothing ≡ cond m (F'.own i) nothing
        go true h = h tt
        go false h = refl

    converted : (i : ℕ) → i < blocks_of g → converted_at g F z i ≡ converted_at g F' z i
    converted i l =
        converted_is g F z i
        ∙ ap₂ (λ x y. only (z i && z (i + stride_of g above)) (x +ℤ y)) (same.brought true above i (omega arith) l) (same.brought false above i (omega arith) l)
        ∙ sym (converted_is g F' z i)

    settled : (i : ℕ) → i < blocks_of g → settled_of (in_zone s z i) (F.fixed i) (balance_in g F i) ≡ settled_of (in_zone t z i) (F'.fixed i) (balance_in g F' i)
    settled i l =
        settled_same (in_zone s z i) (λ m. same.fixed i l (active i m)) (λ m. balance_same same i l (active i m))
        ∙ ap (λ (m : Bool). settled_of m (F'.fixed i) (balance_in g F' i)) (zone i l)

-- And so do two cases of one record that have the same books.
pub lines_of_same : {c e : Case} {fluid : ℕ} → Counted c.grid → c.grid ≡ e.grid → SameCases c e fluid → (z : ℕ → Bool) → lines_of c z fluid ≡ lines_of e z fluid
lines_of_same {c} {e} {fluid} counted grid same z = lines_by_same (books_same counted same) z ∙ ap (λ g. lines_by g e.slots (books_of e fluid) z) grid
