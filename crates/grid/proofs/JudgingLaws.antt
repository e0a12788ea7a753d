-- What the record of a case tells where it is not refused, and what tells that it is not. Assumes nothing.
use mathlib.Core.Bool.{Bool, ◌&&◌, cond, false, true}
use mathlib.Core.Path.{◌≡◌}
use mir.Syntax.{w64}
use mir.Val.{SFits}
use Prim.Native.Nat.{ℕ, ◌≤◌}
use lib.Dec.{T, leb, leb→le, le→leb}
use lib.IntN.{◌-ℤ◌, pos, ℤ}
use lib.Signed.{◌≤ℤ◌, le_z, le_z_yes}
use native.Mathlib.Omega.{arith}
use Rattle.whole.specs.Inner.{In}
use Rattle.whole.specs.Ranges.{between, in_range}
use Rattle.whole.specs.Whole.{is_zero}
use Rattle.whole.proofs.LinearLaws.{#, from1, from2, linear, signed}
use Rattle.whole.proofs.RangeLaws.{fits, leaf, ranges}
use Rattle.whole.proofs.SearchLaws.{both, holds, joint}
use Rattle.whole.proofs.WithinLaws.{range_in, in_ranged}
use Rattle.grid.specs.declared.Grid.{Grid}
use Rattle.grid.specs.Units.{least_apart, least_fresh_weight, least_salt_weight, most_across, most_blocks, most_delta, most_fresh_weight, most_layers, most_salt_weight, most_step, most_tolerance}
use Rattle.grid.specs.Place.{blocks_of}
use Rattle.grid.specs.Inner.{Counted, Termed, Weighed}
use Rattle.grid.specs.Judging.{count_within, counts_hold, density_holds, pair_holds, terms_hold}
use Rattle.grid.specs.Weights.{pair_of, weights_of, whole_pair}

pub within_count : (n most : ℕ) → T (count_within n most) → (1 ≤ n) × (n ≤ most)
within_count n most t = let h = both (leb 1 n) (leb n most) t in (leb→le 1 n h.0, leb→le n most h.1)

pub counts_counted : (g : Grid) → T (counts_hold g) → Counted g
unfolding counts_hold
counts_counted g t =
    let a = both (count_within g.columns most_across) (count_within g.rows most_across && (count_within g.layers most_layers && leb (blocks_of g) most_blocks)) t in
    let b = both (count_within g.rows most_across) (count_within g.layers most_layers && leb (blocks_of g) most_blocks) a.1 in
    let d = both (count_within g.layers most_layers) (leb (blocks_of g) most_blocks) b.1 in
    let columns = within_count g.columns most_across a.0 in
    let rows = within_count g.rows most_across b.0 in
    let layers = within_count g.layers most_layers d.0 in
    record {
      columns_some = columns.0;
      columns_most = columns.1;
      rows_some = rows.0;
      rows_most = rows.1;
      layers_some = layers.0;
      layers_most = layers.1;
      blocks_most = leb→le (blocks_of g) most_blocks d.1;
    }

-- two weights in range are weighed
pair_weighed : (fresh salt : ℤ) → T (pair_holds fresh salt) → Weighed (pair_of fresh salt)
unfolding pair_holds
pair_weighed fresh salt t =
    let freshes = between (pos least_fresh_weight) (pos most_fresh_weight) in
    let salts = between (pos least_salt_weight) (pos most_salt_weight) in
    let h = both (in_range freshes fresh) (in_range salts salt && le_z (pos least_apart) (salt -ℤ fresh)) t in
    let k = both (in_range salts salt) (le_z (pos least_apart) (salt -ℤ fresh)) h.1 in
    weighed fresh salt (range_in freshes fresh h.0) (range_in salts salt k.0) (le_z_yes k.1)
  where
    weighed : (f s : ℤ) → In (pos least_fresh_weight) (pos most_fresh_weight) f → In (pos least_salt_weight) (pos most_salt_weight) s → pos least_apart ≤ℤ (s -ℤ f) → Weighed (pair_of f s)
    weighed f s a b d = record {
      fresh = record { low = from1 a.low (search (signed, # f) depth 30) (omega arith); high = a.high };
      salt = record { low = from1 b.low (search (signed, # s) depth 30) (omega arith); high = b.high };
      apart = from1 d (search (signed, # f, # s) depth 30) (omega arith);
      twice = from2 a.low b.high (search (signed, # f, # s) depth 30) (omega arith);
      spread = from2 a.high d (search (signed, # f, # s) depth 30) (omega arith);
    }

-- and one can be subtracted from the other
pub apart_fits : (fresh salt : ℤ) → in_range (between (pos least_fresh_weight) (pos most_fresh_weight)) fresh ≡ true
    → in_range (between (pos least_salt_weight) (pos most_salt_weight)) salt ≡ true → SFits w64 (salt -ℤ fresh)
apart_fits fresh salt e f =
    let a = range_in (between (pos least_fresh_weight) (pos most_fresh_weight)) fresh (holds e) in
    let b = range_in (between (pos least_salt_weight) (pos most_salt_weight)) salt (holds f) in
    fits (search (ranges, leaf a, leaf b) depth 20) tt

-- so is a whole δ
whole_weighed : (δ : ℤ) → In (pos 1) (pos most_delta) δ → Weighed (whole_pair δ)
whole_weighed δ h = record {
  fresh = record { low = h.low; high = from1 h.high (search (signed, # δ) depth 30) (omega arith) };
  salt = record { low = from1 h.low (search (signed, # δ) depth 30) (omega arith); high = from1 h.high (search (signed, # δ) depth 30) (omega arith) };
  apart = linear (search (signed, # δ) depth 30) (omega arith);
  twice = from1 h.low (search (signed, # δ) depth 30) (omega arith);
  spread = from1 h.high (search (signed, # δ) depth 30) (omega arith);
}

pub density_weighed : (g : Grid) → T (density_holds g) → Weighed (weights_of g)
unfolding density_holds weights_of
density_weighed g = go (is_zero g.delta)
  where
    deltas : Bool
    deltas = in_range (between (pos 1) (pos most_delta)) g.delta

    none : Bool
    none = is_zero g.fresh_weight && is_zero g.salt_weight

    go : (b : Bool) → T (cond b (pair_holds g.fresh_weight g.salt_weight) (deltas && none)) → Weighed (cond b (pair_of g.fresh_weight g.salt_weight) (whole_pair g.delta))
    go true t = pair_weighed g.fresh_weight g.salt_weight t
    go false t = whole_weighed g.delta (range_in (between (pos 1) (pos most_delta)) g.delta (both deltas none t).0)

pub counted_where : (g : Grid) → counts_hold g ≡ true → Counted g
counted_where g e = counts_counted g (holds e)

pub terms_termed : (g : Grid) → T (terms_hold g) → Termed g
unfolding terms_hold
terms_termed g t =
    let step = in_range (between (pos 1) (pos most_step)) g.step in
    let tolerance = in_range (between (pos 0) (pos most_tolerance)) g.tolerance in
    let a = both (density_holds g) (leb g.flag 1 && (step && tolerance)) t in
    let b = both (leb g.flag 1) (step && tolerance) a.1 in
    let d = both step tolerance b.1 in
    record {
      density = a.0;
      weighed = density_weighed g a.0;
      flag = leb→le g.flag 1 b.0;
      step = range_in (between (pos 1) (pos most_step)) g.step d.0;
      tolerance = range_in (between (pos 0) (pos most_tolerance)) g.tolerance d.1;
    }

-- ---- and the other way round: what is in range is not refused

within_counted : (n most : ℕ) → 1 ≤ n → n ≤ most → T (count_within n most)
within_counted n most h k = joint (leb 1 n) (leb n most) (le→leb 1 n h) (le→leb n most k)

pub counted_counts : (g : Grid) → Counted g → T (counts_hold g)
unfolding counts_hold
counted_counts g h =
    let columns = count_within g.columns most_across in
    let rows = count_within g.rows most_across in
    let layers = count_within g.layers most_layers in
    let blocks = leb (blocks_of g) most_blocks in
    joint columns (rows && (layers && blocks)) (within_counted g.columns most_across h.columns_some h.columns_most)
    (joint rows (layers && blocks) (within_counted g.rows most_across h.rows_some h.rows_most)
    (joint layers blocks (within_counted g.layers most_layers h.layers_some h.layers_most) (le→leb (blocks_of g) most_blocks h.blocks_most)))

pub termed_terms : (g : Grid) → Termed g → T (terms_hold g)
unfolding terms_hold
termed_terms g h =
    let flag = leb g.flag 1 in
    let step = in_range (between (pos 1) (pos most_step)) g.step in
    let tolerance = in_range (between (pos 0) (pos most_tolerance)) g.tolerance in
    joint (density_holds g) (flag && (step && tolerance)) h.density
    (joint flag (step && tolerance) (le→leb g.flag 1 h.flag)
    (joint step tolerance (holds (in_ranged (between (pos 1) (pos most_step)) g.step h.step)) (holds (in_ranged (between (pos 0) (pos most_tolerance)) g.tolerance h.tolerance))))
