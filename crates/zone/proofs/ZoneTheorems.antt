-- What the tables of zones say (the client's demand 3; document 01, "Balance, verdict, table"), in each fluid. Assumes nothing.
use mathlib.Core.Bool.{Bool, ◌&&◌, ◌||◌, cond, false, not, true}
use mathlib.Core.List.{List}
use mathlib.Core.Path.{◌∙◌, ◌≡◌, ap, ap₂, refl, sym}
use Prim.Native.Nat.{◌*◌, ◌+◌, ◌<◌, ◌≤◌, ℕ}
use native.Mathlib.Omega.{arith}
use lib.Dec.{T}
use lib.IntN.{+ℤ_idl, +ℤ_idr, ◌+ℤ◌, ◌-ℤ◌, nat_abs, neg_ℤ, pos, ℤ}
use lib.Signed.{◌≤ℤ◌, ≤ℤ_refl}
use Rattle.whole.specs.Sum.{count, only, sum}
use Rattle.whole.proofs.LinearLaws.{#, linear, signed}
use Rattle.whole.proofs.OrderLaws.{max_ℤ_l}
use Rattle.whole.proofs.SumLaws.{sum_add, sum_bound, sum_none, sum_not_negative, sum_not_positive, sum_same}
use Rattle.grid.specs.declared.Grid.{Grid}
use Rattle.grid.specs.Inner.{Counted}
use Rattle.grid.specs.Place.{blocks_of, stride_of, top_of}
use Rattle.grid.specs.Units.{above}
use Rattle.slots.specs.Rules.{is_kind}
use Rattle.slices.specs.Slices.{Case}
use Rattle.block.specs.Fluids.{fresh, salt}
use Rattle.flow.proofs.BoundaryTheorems.{no_river_no_fresh}
use Rattle.wellformed.specs.Limits.{block_in}
use Rattle.wellformed.specs.Links.{active_of}
use Rattle.wellformed.specs.Widths.{area_of}
use Rattle.books.specs.declared.own.Own.{Own}
use Rattle.books.specs.Bookkeeping.{Books, books_of, brought_of}
use Rattle.books.specs.Own.{own_of}
use Rattle.books.specs.Waters.{waters_of}
use Rattle.books.proofs.BooksTheorems.{leakage_shared}
use Rattle.balance.specs.Balance.{balance_in, flows_of}
use Rattle.zone.specs.Accounts.{Adds, Apart, Closes, NoRiver, free_in, joined}
use Rattle.zone.specs.Exchange.{changes, converted_at, edge_of, edges_of}
use Rattle.zone.specs.Holdings.{nothing, own_in, settled_of}
use Rattle.zone.specs.Table.{lines_by, lines_of}
use Rattle.zone.specs.Zones.{differ, in_zone}
use Rattle.zone.proofs.LinesLaws.{crosses_flows}

-- ---- closing

-- what one block gives, marked and active or not, fixed or not
block_closes : (marked fixed : Bool) (own : Own) (flows : ℤ)
    → let balance = flows +ℤ own.recharge +ℤ own.boundary -ℤ own.pumped -ℤ own.storage in
    (cond marked own nothing).storage +ℤ (settled_of marked fixed balance).error
    ≡ only marked flows +ℤ neg_ℤ (cond marked own nothing).pumped +ℤ (cond marked own nothing).recharge +ℤ (cond marked own nothing).boundary +ℤ (settled_of marked fixed balance).supply
unfolding settled_of
block_closes true true own flows = linear (search (signed, # own.storage, # own.pumped, # own.recharge, # own.boundary, # flows) depth 30) (omega arith)
block_closes true false own flows = linear (search (signed, # own.storage, # own.pumped, # own.recharge, # own.boundary, # flows) depth 30) (omega arith)
block_closes false fixed own flows = refl

-- "storage + error = in - out + converted + wells + recharge + boundary + supply"
pub closes : (c : Case) → Counted c.grid → (z : ℕ → Bool) (fluid : ℕ) → Closes (lines_of c z fluid)
unfolding lines_by own_in balance_in
closes c counted z fluid =
    let n = blocks_of c.grid in
    let F = books_of c fluid in
    let lines = lines_of c z fluid in
    sym (sum_add n _ _)
    ∙ sum_same n _ _ (λ i l. block_closes (in_zone c.slots z i) (F.fixed i) (F.own i) (flows_of c.grid F i))
    ∙ simp sum_add (ap (λ x. x +ℤ lines.wells +ℤ lines.recharge +ℤ lines.boundary +ℤ lines.supply) (sym (crosses_flows c counted fluid z)))

-- ---- two zones with no block in common

-- what is nothing of a block that is not marked adds
marks_add : (a b active : Bool) (x : Bool → ℤ) → x false ≡ pos 0 → T (not (a && b)) → x ((a || b) && active) ≡ x (a && active) +ℤ x (b && active)
marks_add true true active x none h = absurd h
marks_add true false active x none h = sym (ap (λ y. x active +ℤ y) none ∙ +ℤ_idr (x active))
marks_add false b active x none h = sym (ap (λ y. y +ℤ x (b && active)) none ∙ +ℤ_idl (x (b && active)))

line_adds : (g : Grid) (slots : List ℤ) (z w : ℕ → Bool) → Apart g z w → (x : Bool → ℕ → ℤ) → ((i : ℕ) → x false i ≡ pos 0)
    → sum (blocks_of g) (λ i. x (in_zone slots (joined z w) i) i) ≡ sum (blocks_of g) (λ i. x (in_zone slots z i) i) +ℤ sum (blocks_of g) (λ i. x (in_zone slots w i) i)
unfolding in_zone
line_adds g slots z w apart x none =
    sum_same (blocks_of g) _ _ (λ i l. marks_add (z i) (w i) (active_of slots i) (λ marked. x marked i) (none i) (apart i l))
    ∙ sum_add (blocks_of g) _ _

-- Demand 3: "storage, wells, recharge, boundary, supply and error of the joined zone are the sums of the two; edge in less edge out plus converted also
-- adds exactly"
pub adds : (c : Case) → Counted c.grid → (z w : ℕ → Bool) → Apart c.grid z w → (fluid : ℕ) → Adds (lines_of c z fluid) (lines_of c w fluid) (lines_of c (joined z w) fluid)
unfolding lines_by own_in settled_of
adds c counted z w apart fluid =
    let F = books_of c fluid in
    let line = line_adds c.grid c.slots z w apart in
    let crosses = crosses_flows c counted fluid in
    record {
      storage = line (λ marked i. (cond marked (F.own i) nothing).storage) (λ i. refl);
      wells = line (λ marked i. neg_ℤ (cond marked (F.own i) nothing).pumped) (λ i. refl);
      recharge = line (λ marked i. (cond marked (F.own i) nothing).recharge) (λ i. refl);
      boundary = line (λ marked i. (cond marked (F.own i) nothing).boundary) (λ i. refl);
      supply = line (λ marked i. only (marked && F.fixed i) (neg_ℤ (balance_in c.grid F i))) (λ i. refl);
      error = line (λ marked i. only (marked && not (F.fixed i)) (balance_in c.grid F i)) (λ i. refl);
      crosses = crosses (joined z w) ∙ line (λ marked i. only marked (flows_of c.grid F i)) (λ i. refl) ∙ sym (ap₂ ◌+ℤ◌ (crosses z) (crosses w));
    }

-- ---- edges

-- Edge in and edge out are never negative.
pub edges_not_negative : (g : Grid) (slots : List ℤ) (F : Books) (z : ℕ → Bool) → (pos 0 ≤ℤ (lines_by g slots F z).edge_in) × (pos 0 ≤ℤ (lines_by g slots F z).edge_out)
unfolding lines_by edges_of
edges_not_negative g slots F z = (
  sum_not_negative (blocks_of g) _ (λ i l. sum_not_negative 3 _ (λ d k. max_ℤ_l (pos 0) (edge_of g F z d i))),
  sum_not_negative (blocks_of g) _ (λ i l. sum_not_negative 3 _ (λ d k. max_ℤ_l (pos 0) (neg_ℤ (edge_of g F z d i)))),
)

-- Where every block is marked, nothing crosses an edge.
pub whole_no_edges : (g : Grid) (slots : List ℤ) (F : Books) → ((lines_by g slots F (λ i. true)).edge_in ≡ pos 0) × ((lines_by g slots F (λ i. true)).edge_out ≡ pos 0)
unfolding lines_by edges_of edge_of
whole_no_edges g slots F = (
  sum_none (blocks_of g) _ (λ i l. sum_none 3 _ (λ d k. refl)),
  sum_none (blocks_of g) _ (λ i l. sum_none 3 _ (λ d k. refl)),
)

-- ---- boundary

-- W-201 of document 02: the fresh boundary line of a zone without rivers is never above 0. No fresh water comes out of the sea.
pub fresh_boundary_not_positive : (c : Case) (z : ℕ → Bool) → NoRiver c z → (lines_of c z fresh).boundary ≤ℤ pos 0
unfolding lines_by own_in own_of books_of
fresh_boundary_not_positive c z none = sum_not_positive (blocks_of c.grid) _ (λ i l. go i (in_zone c.slots z i) (none i l))
  where
    go : (i : ℕ) (marked : Bool) → (T marked → is_kind (block_in c i) (pos 1) ≡ false) → (cond marked ((books_of c fresh).own i) nothing).boundary ≤ℤ pos 0
    go i true h = no_river_no_fresh c.grid (block_in c i) (top_of c.grid i) (area_of c i) (waters_of c.grid c.slots i) (h tt)
    go i false h = ≤ℤ_refl (pos 0)

-- ---- converted

-- one pair, with both blocks marked or not: whether the water counts as fresh on either side
pair_cancels : (marked low high : Bool) (flow : ℤ)
    → only (marked && differ low high) (only low (neg_ℤ flow) +ℤ only high flow) +ℤ only (marked && differ (not low) (not high)) (only (not low) (neg_ℤ flow) +ℤ only (not high) flow) ≡ pos 0
pair_cancels true true true flow = refl
pair_cancels true true false flow = linear (search (signed, # flow) depth 30) (omega arith)
pair_cancels true false true flow = linear (search (signed, # flow) depth 30) (omega arith)
pair_cancels true false false flow = refl
pair_cancels false low high flow = refl

-- What one fluid gains by conversion the other loses.
pub conversions_cancel : (c : Case) (z : ℕ → Bool) → (lines_of c z fresh).converted +ℤ (lines_of c z salt).converted ≡ pos 0
unfolding lines_by converted_at changes brought_of
conversions_cancel c z =
    let F = books_of c fresh in
    sym (sum_add (blocks_of c.grid) _ _)
    ∙ sum_none (blocks_of c.grid) _
    (λ i l.
    let shared = leakage_shared c i in
    rw (shared.0, shared.1.0, shared.1.1) (pair_cancels (z i && z (i + stride_of c.grid above)) (F.low_is above i) (F.high_is above i) (F.flow above i)))

-- ---- error

-- Where no free balance of a zone is above a number, without sign, its error is at most that number times the count of its free blocks.
pub error_bounded : (g : Grid) (slots : List ℤ) (F : Books) (z : ℕ → Bool) (most : ℕ) → ((i : ℕ) → i < blocks_of g → T (free_in slots F z i) → nat_abs (balance_in g F i) ≤ most) → nat_abs (lines_by g slots F z).error ≤ most * count (blocks_of g) (free_in slots F z)
unfolding lines_by settled_of free_in
error_bounded g slots F z most h = sum_bound (blocks_of g) most (free_in slots F z) (balance_in g F) h
