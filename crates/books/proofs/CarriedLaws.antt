-- What links carry in a well-formed case: every flow is in range, and no face conducts beyond the limit. Assumes nothing.
use mathlib.Core.Bool.{Bool, cond, false, true}
use mathlib.Core.List.{List}
use mathlib.Core.Path.{◌≡◌, refl}
use Prim.Native.Nat.{◌+◌, ◌<◌, ◌≤◌, suc, zero, ℕ}
use native.Mathlib.Omega.{arith}
use lib.Dec.{T}
use lib.IntN.{neg_ℤ, pos, ℤ}
use lib.Signed.{◌≤ℤ◌, lt_z}
use Rattle.std.specs.Prelude.{Option, Some, None}
use Rattle.whole.specs.Sum.{only}
use Rattle.whole.specs.Inner.{Abs, In}
use Rattle.whole.proofs.RangeLaws.{leaf, ranges, within}
use Rattle.whole.proofs.SearchLaws.{holds, true_is}
use Rattle.whole.proofs.SumLaws.{only_abs, only_zero}
use Rattle.grid.specs.declared.Grid.{Grid}
use Rattle.grid.specs.Place.{behind_of, blocks_of, next_of, place_of, stride_of}
use Rattle.grid.specs.Units.{above, next_row}
use Rattle.grid.proofs.PlaceLaws.{behind_inside}
use Rattle.slots.specs.Slots.{block_of}
use Rattle.slices.specs.Slices.{Case, most_width}
use Rattle.slices.specs.Inner.{Judged}
use Rattle.block.specs.Fluids.{new_heads}
use Rattle.block.specs.Geometry.{aquifer_top_of}
use Rattle.block.proofs.BlockLaws.{aquifer_top_in, k_in_range}
use Rattle.block.proofs.FluidLaws.{in_fluid_in, new_heads_in}
use Rattle.flow.specs.declared.lateral.Behind.{Behind}
use Rattle.flow.specs.Inner.{BehindIn, LeakageSideIn, SideIn, most_flow}
use Rattle.flow.specs.Lateral.{face_conductance_of}
use Rattle.flow.specs.Litres.{most_conductance, over_area_of}
use Rattle.flow.proofs.LateralLaws.{lateral_in}
use Rattle.flow.proofs.LeakageLaws.{leakage_in}
use Rattle.flow.proofs.LitresLaws.{over_area_in}
use Rattle.wellformed.specs.Inner.{Placed, WellFormed}
use Rattle.wellformed.specs.Limits.{block_in}
use Rattle.wellformed.specs.Links.{active_of, live_of}
use Rattle.wellformed.specs.Widths.{along_of, area_of, face_of}
use Rattle.wellformed.proofs.LimitsLaws.{face_passes}
use Rattle.wellformed.proofs.LinksLaws.{live_high, live_low, live_next, outside_dead, live_inside}
use Rattle.wellformed.proofs.WidthsLaws.{area_in, face_in, placed}
use Rattle.books.specs.Inner.{Slotted}
use Rattle.books.specs.Waters.{waters_of}
use Rattle.books.specs.Bookkeeping.{books_of, brought_of}
use Rattle.books.specs.Links.{behind_at, carried_of, counts_of, lateral_at, leakage_at, nobody, side_of, tip_behind_of, leakage_side_at}
use Rattle.books.proofs.WatersLaws.{active_ends, slotted, waters_thick, waters_within}

-- ---- one side of a link

pub side_in : (g : Grid) (slots : List ℤ) → Slotted g slots → (fluid i : ℕ) → i < blocks_of g → active_of slots i ≡ true → SideIn (side_of g slots fluid i)
unfolding side_of
side_in g slots s fluid i l a =
    let active = s.active i l (holds a) in
    record {
      k = k_in_range g (block_of slots i) fluid s.termed active.ends active.k_some;
      thickness = in_fluid_in (waters_of g slots i) fluid (waters_thick g slots s i l);
      head = in_fluid_in (new_heads (block_of slots i)) fluid (new_heads_in (block_of slots i) active.ends);
    }

pub waters_in : (g : Grid) (slots : List ℤ) → Slotted g slots → (i : ℕ) → i < blocks_of g → active_of slots i ≡ true → LeakageSideIn (leakage_side_at g slots i)
waters_in g slots s i l a = record { heads = new_heads_in (block_of slots i) (active_ends g slots s i l a); thickness = waters_thick g slots s i l }

-- ---- the block behind a tip

nobody_in : BehindIn nobody
nobody_in = record { width = within (search ranges depth 20) tt tt; thickness = within (search ranges depth 20) tt tt }

module _ (c : Case) (judged : Judged c) (fluid d : ℕ) where
  along_in : (p : ℕ) → p < blocks_of c.grid → In (pos 0) (pos most_width) (along_of c d p)
  along_in p l = go d
    where
      h : Placed c.columns c.rows (place_of c.grid p)
      h = placed c judged p l

      go : (d : ℕ) → In (pos 0) (pos most_width) (along_of c d p)
      go zero = within (search (ranges, leaf h.column_width) depth 20) tt tt
      go (suc d) = within (search (ranges, leaf h.row_width) depth 20) tt tt

  pub behind_in : (there : Option ℕ) → ((p : ℕ) → there ≡ Some p → p < blocks_of c.grid) → BehindIn (behind_at c fluid d there)
  behind_in (Some p) inside =
      let l = inside p refl in
      record { width = along_in p l; thickness = in_fluid_in (waters_of c.grid c.slots p) fluid (waters_thick c.grid c.slots (slotted c judged) p l) }
  behind_in None inside = nobody_in

  pub tip_behind_in : (i : ℕ) (low high : ℤ) → i + stride_of c.grid d < blocks_of c.grid → BehindIn (tip_behind_of c fluid d i low high)
  unfolding tip_behind_of
  tip_behind_in i low high l = go (lt_z (pos 0) low) (lt_z (pos 0) high)
    where
      behind : (low : Bool) → BehindIn (behind_at c fluid d (behind_of c.grid d i low))
      behind low = behind_in (behind_of c.grid d i low) (λ p e. behind_inside c.grid judged.counted d i p low l e)

      go : (a b : Bool) → BehindIn (cond a (cond b nobody (behind_at c fluid d (behind_of c.grid d i true))) (cond b (behind_at c fluid d (behind_of c.grid d i false)) nobody))
      go true true = nobody_in
      go true false = behind true
      go false true = behind false
      go false false = nobody_in

-- ---- what a live link carries

module _ (c : Case) (formed : WellFormed c) (fluid d i : ℕ) (l : i < blocks_of c.grid) (live : T (live_of c.grid c.slots d i)) where
  slots_in : Slotted c.grid c.slots
  slots_in = slotted c formed.judged

  far_inside : i + stride_of c.grid d < blocks_of c.grid
  far_inside = live_inside c.grid c.slots d i live formed.judged.counted l

  low_active : active_of c.slots i ≡ true
  low_active = true_is (live_low c.grid c.slots d i live)

  high_active : active_of c.slots (i + stride_of c.grid d) ≡ true
  high_active = true_is (live_high c.grid c.slots d i live)

  pub low_side_in : SideIn (side_of c.grid c.slots fluid i)
  low_side_in = side_in c.grid c.slots slots_in fluid i l low_active

  pub high_side_in : SideIn (side_of c.grid c.slots fluid (i + stride_of c.grid d))
  high_side_in = side_in c.grid c.slots slots_in fluid (i + stride_of c.grid d) far_inside high_active

  pub passes : d ≤ next_row → (p : Behind) → BehindIn p → face_conductance_of (face_of c d i) (side_of c.grid c.slots fluid i) (side_of c.grid c.slots fluid (i + stride_of c.grid d)) p ≤ℤ pos most_conductance
  unfolding side_of
  passes h p q =
      face_passes c formed d i fluid h l live (side_of c.grid c.slots fluid i) (side_of c.grid c.slots fluid (i + stride_of c.grid d)) p low_side_in high_side_in q refl refl
      (waters_within c.grid c.slots slots_in i l fluid low_active)
      (waters_within c.grid c.slots slots_in (i + stride_of c.grid d) far_inside fluid high_active)

  lateral_at_in : d ≤ next_row → Abs most_flow (lateral_at c fluid d i)
  unfolding lateral_at
  lateral_at_in h =
      let low = side_of c.grid c.slots fluid i in
      let high = side_of c.grid c.slots fluid (i + stride_of c.grid d) in
      let q = tip_behind_in c formed.judged fluid d i low.thickness high.thickness far_inside in
      lateral_in (face_of c d i) low high (tip_behind_of c fluid d i low.thickness high.thickness) (face_in c formed.judged i l d h (live_next c.grid c.slots d i live)) low_side_in high_side_in q (passes h (tip_behind_of c fluid d i low.thickness high.thickness) q)

module _ (c : Case) (formed : WellFormed c) (i : ℕ) (l : i < blocks_of c.grid) (live : T (live_of c.grid c.slots above i)) where
  pub leakage_conductance_in : In (pos 0) (pos most_conductance) (over_area_of (block_in c i).leakance (area_of c i))
  leakage_conductance_in =
      let ends = active_ends c.grid c.slots (slotted c formed.judged) i l (true_is (live_low c.grid c.slots above i live)) in
      record { low = (over_area_in (block_in c i).leakance (area_of c i) ends.leakance (area_in (placed c formed.judged i l))).low; high = formed.leakage i l live }

  leakage_at_in : Abs most_flow (leakage_at c i)
  unfolding leakage_at
  leakage_at_in =
      let s = slotted c formed.judged in
      let low = true_is (live_low c.grid c.slots above i live) in
      let upper = i + stride_of c.grid above in
      leakage_in c.grid (over_area_of (block_in c i).leakance (area_of c i)) (leakage_side_at c.grid c.slots i) (leakage_side_at c.grid c.slots upper) (aquifer_top_of (block_in c i)) s.termed leakage_conductance_in
      (waters_in c.grid c.slots s i l low)
      (waters_in c.grid c.slots s upper (live_inside c.grid c.slots above i live formed.judged.counted l) (true_is (live_high c.grid c.slots above i live)))
      (aquifer_top_in (block_in c i) (active_ends c.grid c.slots s i l low))

pub carried_in : (c : Case) → WellFormed c → (fluid d i : ℕ) → d ≤ above → i < blocks_of c.grid → T (live_of c.grid c.slots d i) → Abs most_flow (carried_of c fluid d i)
carried_in c formed fluid zero i h l t = lateral_at_in c formed fluid zero i l t (omega arith)
carried_in c formed fluid (suc zero) i h l t = lateral_at_in c formed fluid (suc zero) i l t (omega arith)
carried_in c formed fluid (suc (suc zero)) i h l t = leakage_at_in c formed i l t
carried_in c formed fluid (suc (suc (suc d))) i h l t = absurd (omega arith)

-- ---- what a link brings

pub brought_in : (c : Case) → WellFormed c → (fluid d i : ℕ) (low : Bool) → d ≤ above → i < blocks_of c.grid → Abs most_flow (brought_of (books_of c fluid) low d i)
unfolding brought_of books_of
brought_in c formed fluid d i low h l = go low
  where
    flow : Abs most_flow (only (live_of c.grid c.slots d i) (carried_of c fluid d i))
    flow = from (live_of c.grid c.slots d i) (λ t. carried_in c formed fluid d i h l t)
      where
        from : (b : Bool) → (T b → Abs most_flow (carried_of c fluid d i)) → Abs most_flow (only b (carried_of c fluid d i))
        from true k = k tt
        from false k = within (search ranges depth 20) tt tt

    go : (low : Bool) → Abs most_flow (brought_of (books_of c fluid) low d i)
    go true = only_abs (counts_of c.grid c.slots fluid d i true) (within (search (ranges, leaf flow) depth 20) tt tt)
    go false = only_abs (counts_of c.grid c.slots fluid d i false) flow

-- ---- by axis

pub counts_lateral : (g : Grid) (slots : List ℤ) (fluid d i : ℕ) (low : Bool) → d < above → counts_of g slots fluid d i low ≡ true
counts_lateral g slots fluid zero i low h = refl
counts_lateral g slots fluid (suc zero) i low h = refl
counts_lateral g slots fluid (suc (suc d)) i low h = absurd (omega arith)

-- so that both books count a lateral face on both sides
pub books_lateral : (c : Case) (fluid d i : ℕ) → d < above → ((books_of c fluid).low_is d i ≡ true) × ((books_of c fluid).high_is d i ≡ true)
unfolding books_of
books_lateral c fluid d i h = (counts_lateral c.grid c.slots fluid d i true h, counts_lateral c.grid c.slots fluid d i false h)

pub carried_lateral : (c : Case) (fluid d i : ℕ) → d < above → carried_of c fluid d i ≡ lateral_at c fluid d i
carried_lateral c fluid zero i h = refl
carried_lateral c fluid (suc zero) i h = refl
carried_lateral c fluid (suc (suc d)) i h = absurd (omega arith)

-- ---- what a link brings, by what is known of it

module _ (c : Case) (fluid d i : ℕ) where
  pub brought_live : (low : Bool) → live_of c.grid c.slots d i ≡ true → counts_of c.grid c.slots fluid d i low ≡ true → brought_of (books_of c fluid) low d i ≡ cond low (neg_ℤ (carried_of c fluid d i)) (carried_of c fluid d i)
  unfolding brought_of books_of
  brought_live true live counts = rw (live, counts)
  brought_live false live counts = rw (live, counts)

  pub brought_other : (low : Bool) → counts_of c.grid c.slots fluid d i low ≡ false → brought_of (books_of c fluid) low d i ≡ pos 0
  unfolding brought_of books_of
  brought_other true counts = rw counts
  brought_other false counts = rw counts

  pub brought_dead : (low : Bool) → live_of c.grid c.slots d i ≡ false → brought_of (books_of c fluid) low d i ≡ pos 0
  unfolding brought_of books_of
  brought_dead true live = rw live (only_zero (counts_of c.grid c.slots fluid d i true))
  brought_dead false live = rw live (only_zero (counts_of c.grid c.slots fluid d i false))

  -- nothing is brought by a link that leads outside
  pub brought_next : (low : Bool) → brought_of (books_of c fluid) low d i ≡ only (next_of c.grid d i) (brought_of (books_of c fluid) low d i)
  brought_next low = go (next_of c.grid d i) refl
    where
      go : (b : Bool) → next_of c.grid d i ≡ b → brought_of (books_of c fluid) low d i ≡ only b (brought_of (books_of c fluid) low d i)
      go true e = refl
      go false e = brought_dead low (outside_dead c.grid c.slots d i e)
