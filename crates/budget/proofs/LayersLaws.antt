-- The layers of a case are zones with no block in common, and joined they are the whole. Assumes nothing.
use mathlib.Core.Bool.{Bool, ◌&&◌, ◌||◌, false, not}
use mathlib.Core.Path.{◌∙◌, ◌≡◌, ap, sym}
use Prim.Native.Nat.{◌+◌, ◌<◌, suc, zero, ℕ}
use native.Mathlib.Decide.{dec_lt, ℕ_discrete}
use native.Mathlib.Omega.{arith}
use lib.Dec.{T, eqb, ltb}
use lib.IntN.{◌+ℤ◌, pos, ℤ}
use borrow.Author.Tests.{eq-eqb, le-ltb, lt-ltb, ne_eqb}
use Rattle.whole.specs.Sum.{sum}
use Rattle.whole.proofs.LinearLaws.{#, from1, signed}
use Rattle.whole.proofs.SumLaws.{sum_same}
use Rattle.grid.specs.declared.Grid.{Grid}
use Rattle.grid.specs.Inner.{Counted}
use Rattle.grid.specs.Place.{place_of}
use Rattle.grid.proofs.PlaceLaws.{place_inside}
use Rattle.slices.specs.Slices.{Case}
use Rattle.zone.specs.declared.lines.Lines.{Lines}
use Rattle.zone.specs.Accounts.{AddUp, Adds, Apart, crossed, joined}
use Rattle.zone.specs.Table.{lines_of}
use Rattle.zone.proofs.LinesLaws.{lines_same}
use Rattle.zone.proofs.ZoneTheorems.{adds}
use Rattle.budget.specs.Answers.{everywhere, layer_zone}

-- the zone of the first n layers
abbrev below : Grid → ℕ → ℕ → Bool
below g n i = ltb (place_of g i).layer n

-- one layer more joins them
one_more : (k n : ℕ) → ltb k (suc n) ≡ (ltb k n || eqb (k + 1) (n + 1))
one_more k n = go (dec_lt k n) (ℕ_discrete k n)
  where
    go : Dec (k < n) → Dec (k ≡ n) → ltb k (suc n) ≡ (ltb k n || eqb (k + 1) (n + 1))
    go (yes l) e = rw (lt-ltb k (suc n) (omega arith), lt-ltb k n l)
    go (no l) (yes e) = rw (lt-ltb k (suc n) (omega arith), le-ltb k n (omega arith), eq-eqb (k + 1) (n + 1) (omega arith))
    go (no l) (no e) = rw (le-ltb k (suc n) (omega arith), le-ltb k n (omega arith), ne_eqb (k + 1) (n + 1) (omega arith))

not_both : (k n : ℕ) → T (not (ltb k n && eqb (k + 1) (n + 1)))
not_both k n = go (dec_lt k n)
  where
    go : Dec (k < n) → T (not (ltb k n && eqb (k + 1) (n + 1)))
    go (yes l) = rw (lt-ltb k n l, ne_eqb (k + 1) (n + 1) (omega arith)) tt
    go (no l) = rw (le-ltb k n (omega arith)) tt

-- a line that adds over two zones with no block in common
module _ (c : Case) (counted : Counted c.grid) (fluid : ℕ) (line : Lines → ℤ) (additive : (a b both : Lines) → Adds a b both → line both ≡ line a +ℤ line b) where
  -- of a zone
  abbrev of : (ℕ → Bool) → ℤ
  of z = line (lines_of c z fluid)

  -- is 0 where there are no blocks,
  none_gives : of (λ i. false) ≡ pos 0
  none_gives =
      let twice : of (λ i. false) ≡ of (λ i. false) +ℤ of (λ i. false) = additive _ _ _ (adds c counted (λ i. false) (λ i. false) (λ i l. tt) fluid) in
      from1 twice (search (signed, # (of (λ i. false))) depth 30) (omega arith)

  -- and over the first n layers it is the sum of what each gives
  below_adds : (n : ℕ) → of (below c.grid n) ≡ sum n (λ k. of (layer_zone c.grid (k + 1)))
  unfolding sum layer_zone
  below_adds zero = ap line (lines_same c counted (below c.grid 0) (λ i. false) (λ i l. le-ltb (place_of c.grid i).layer 0 (omega arith)) fluid) ∙ none_gives
  below_adds (suc n) =
      let apart : Apart c.grid (below c.grid n) (layer_zone c.grid (n + 1)) = λ i l. not_both (place_of c.grid i).layer n in
      ap line (lines_same c counted (below c.grid (suc n)) (joined (below c.grid n) (layer_zone c.grid (n + 1))) (λ i l. one_more (place_of c.grid i).layer n) fluid)
      ∙ additive _ _ _ (adds c counted (below c.grid n) (layer_zone c.grid (n + 1)) apart fluid)
      ∙ ap (λ z. z +ℤ of (layer_zone c.grid (n + 1))) (below_adds n)

  layers_add : of everywhere ≡ sum c.grid.layers (λ k. of (layer_zone c.grid (k + 1)))
  layers_add =
      ap line (lines_same c counted everywhere (below c.grid c.grid.layers) (λ i l. sym (lt-ltb (place_of c.grid i).layer c.grid.layers (place_inside c.grid counted i l).layer)) fluid)
      ∙ below_adds c.grid.layers

-- the lines of all layers add up to the whole's
pub layers_add_up : (c : Case) → Counted c.grid → (fluid : ℕ) → AddUp c.grid.layers (λ k. lines_of c (layer_zone c.grid (k + 1)) fluid) (lines_of c everywhere fluid)
layers_add_up c counted fluid =
    let by = layers_add c counted fluid in
    record {
      storage = by (λ l. l.storage) (λ a b both h. h.storage);
      wells = by (λ l. l.wells) (λ a b both h. h.wells);
      recharge = by (λ l. l.recharge) (λ a b both h. h.recharge);
      boundary = by (λ l. l.boundary) (λ a b both h. h.boundary);
      supply = by (λ l. l.supply) (λ a b both h. h.supply);
      error = by (λ l. l.error) (λ a b both h. h.error);
      crosses = by crossed (λ a b both h. h.crosses);
    }

-- whichever way the rows of the layers are written
pub add_up_same : (n : ℕ) (row other : ℕ → Lines) (whole : Lines) → ((k : ℕ) → k < n → row k ≡ other k) → AddUp n row whole → AddUp n other whole
add_up_same n row other whole alike h =
    record {
      storage = h.storage ∙ same (λ l. l.storage);
      wells = h.wells ∙ same (λ l. l.wells);
      recharge = h.recharge ∙ same (λ l. l.recharge);
      boundary = h.boundary ∙ same (λ l. l.boundary);
      supply = h.supply ∙ same (λ l. l.supply);
      error = h.error ∙ same (λ l. l.error);
      crosses = h.crosses ∙ same crossed;
    }
  where
    same : (line : Lines → ℤ) → sum n (λ k. line (row k)) ≡ sum n (λ k. line (other k))
    same line = sum_same n (λ k. line (row k)) (λ k. line (other k)) (λ k l. ap line (alike k l))
