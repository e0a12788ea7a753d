-- From a code's first place to what holds of all places, and back; the code of each way to a verdict; the largest balance. Assumes nothing.
use mathlib.Core.Bool.{Bool}
use mathlib.Core.List.{List}
use mathlib.Core.Logic.{◌≢◌, ◌⊎◌, inl, inr}
use mathlib.Core.Path.{◌∙◌, ◌≡◌, ap, subst, sym}
use Prim.Native.Nat.{◌%◌, ◌*◌, ◌+◌, ◌/◌, ◌<◌, suc, ℕ}
use native.Mathlib.Decide.{ℕ_discrete}
use native.Mathlib.Numerals.{add-one}
use native.Mathlib.Omega.{arith}
use lib.Dec.{T}
use lib.IntN.{pos, ℤ}
use lib.Signed.{◌≤ℤ◌}
use Rattle.whole.proofs.SearchLaws.{first_found, first_is, first_none, holds, most_bounds, most_reached, none_first, true_is}
use Rattle.grid.specs.declared.Grid.{Grid}
use Rattle.grid.specs.Place.{blocks_of}
use Rattle.block.specs.declared.Fluids.{Fluids}
use Rattle.block.specs.Fluids.{in_fluid}
use Rattle.books.specs.Waters.{Wet}
use Rattle.verdict.specs.Acceptance.{Earlier, First, Nowhere}
use Rattle.verdict.specs.Places.{counted_at, counted_by, fails_at, free_at, free_size_of, moved_at, places_of, size_of}
use Rattle.verdict.specs.Ruling.{by_balance, code_of, concerning, first_place, largest_of, verdict_by}
use Rattle.verdict.proofs.PlacesLaws.{block_below, counted_by_lem, fluid_below, free_size_is, place_is}
use Rattle.verdict.proofs.RulingLaws.{Way, at_none, balance_code, balance_largest, code_is, dry, dry_counted, dry_once, failing, failing_counted, moved, moved_counted, none_at, passed, way}

-- ---- the order of places

earlier_place : (i fluid p : ℕ) → fluid < 2 → p < 2 * i + fluid → Earlier (p / 2) (p % 2) i fluid
earlier_place i fluid p m l = go (p / 2) (p % 2) (place_is p) (fluid_below p) (ℕ_discrete (p / 2) i)
  where
    go : (j f : ℕ) → 2 * j + f ≡ p → f < 2 → Dec (j ≡ i) → Earlier j f i fluid
    go j f e k (yes same) = inr (same, omega arith)
    go j f e k (no other) = inl (omega arith)

place_earlier : (j f i fluid : ℕ) → f < 2 → Earlier j f i fluid → 2 * j + f < 2 * i + fluid
place_earlier j f i fluid m (inl l) = omega arith
place_earlier j f i fluid m (inr h) = omega (arith, h.0, h.1)

-- a first place of two tests that tell the same
pub first_as : (g : Grid) (test other : ℕ → ℕ → Bool) (i fluid : ℕ) → ((f j : ℕ) → test f j ≡ other f j) → First g test i fluid → First g other i fluid
first_as g test other i fluid same h =
    record {
      block_inside = h.block_inside;
      fluid_inside = h.fluid_inside;
      passes = subst T (same fluid i) h.passes;
      none_before = λ j f l e. sym (same f j) ∙ h.none_before j f l e;
    }

module _ (g : Grid) (slots : List ℤ) (β : ℕ → Fluids) (code : ℕ) where
  -- the first place that a code counts is what its number says
  pub first_told : (p : ℕ) → first_place g slots β code ≡ suc p → First g (counted_at g slots β code) (p / 2) (p % 2)
  unfolding first_place
  first_told p e =
      let h = first_is (counted_by g slots β code) (places_of g) p e in
      record {
        block_inside = block_below (blocks_of g) p h.0;
        fluid_inside = fluid_below p;
        passes = holds h.1.0;
        none_before = λ j f l b. sym (counted_by_lem g slots β code j f l) ∙ first_none (counted_by g slots β code) p h.1.1 (2 * j + f) (omega (arith, place_earlier j f (p / 2) (p % 2) l b, place_is p));
      }

  pub told_first : (i fluid : ℕ) → First g (counted_at g slots β code) i fluid → first_place g slots β code ≡ suc (2 * i + fluid)
  unfolding first_place
  told_first i fluid h =
      first_found (counted_by g slots β code) (2 * i + fluid) (places_of g) (omega (arith, h.block_inside, h.fluid_inside))
      (none_first (counted_by g slots β code) (2 * i + fluid) (λ p l. h.none_before (p / 2) (p % 2) (fluid_below p) (earlier_place i fluid p h.fluid_inside l)))
      (counted_by_lem g slots β code i fluid h.fluid_inside ∙ true_is h.passes)
      ∙ add-one (2 * i + fluid)

-- ---- what a code's first place tells

module _ (g : Grid) (slots : List ℤ) (β : ℕ → Fluids) where
  -- no place is moved, dry or failing where the code has no first place, and only there
  pub none_moved : first_place g slots β 21 ≡ 0 → Nowhere g (moved_at slots)
  none_moved e i fluid l m = sym (moved_counted g slots β fluid i) ∙ none_at g slots β 21 e i fluid l m

  pub moved_none : Nowhere g (moved_at slots) → first_place g slots β 21 ≡ 0
  moved_none h = at_none g slots β 21 (λ i fluid l m. moved_counted g slots β fluid i ∙ h i fluid l m)

  pub none_dry : first_place g slots β 22 ≡ 0 → Wet g slots
  none_dry e i l = sym (dry_counted g slots β i) ∙ none_at g slots β 22 e i 0 l (omega arith)

  pub dry_none : Wet g slots → first_place g slots β 22 ≡ 0
  dry_none h = at_none g slots β 22 (λ i fluid l m. dry_once g slots β fluid i (h i l))

  pub fails_counted : (fluid i : ℕ) → counted_at g slots β 23 fluid i ≡ fails_at g slots β fluid i
  fails_counted fluid i = failing_counted g slots β 23 fluid i (λ e. absurd (omega arith)) (λ e. absurd (omega arith))

  pub none_fails : first_place g slots β 23 ≡ 0 → Nowhere g (fails_at g slots β)
  none_fails e i fluid l m = sym (fails_counted fluid i) ∙ none_at g slots β 23 e i fluid l m

  pub fails_none : Nowhere g (fails_at g slots β) → first_place g slots β 23 ≡ 0
  fails_none h = at_none g slots β 23 (λ i fluid l m. fails_counted fluid i ∙ h i fluid l m)

  -- the code of each way
  pub moved_code : verdict_by g slots β ≡ concerning g slots β 21 → (verdict_by g slots β).code ≡ 21
  moved_code r = code_is g slots β 21 r

  pub dry_code : verdict_by g slots β ≡ concerning g slots β 22 → (verdict_by g slots β).code ≡ 22
  dry_code r = code_is g slots β 22 r

  pub failing_code : (p : ℕ) → first_place g slots β 23 ≡ suc p → verdict_by g slots β ≡ by_balance g slots β → (verdict_by g slots β).code ≡ 23 + p % 2
  failing_code p f r = balance_code g slots β r ∙ ap code_of f

  pub passed_code : first_place g slots β 23 ≡ 0 → verdict_by g slots β ≡ by_balance g slots β → (verdict_by g slots β).code ≡ 0
  passed_code f r = balance_code g slots β r ∙ ap code_of f

  -- any other code is that of a case without a dry well
  pub ruled_wet : (verdict_by g slots β).code ≢ 21 → (verdict_by g slots β).code ≢ 22 → Wet g slots
  ruled_wet h k = go (way g slots β)
    where
      go : Way g slots β → Wet g slots
      go (moved p e r) = absurd (h (moved_code r))
      go (dry p e d r) = absurd (k (dry_code r))
      go (failing p e d f r) = none_dry d
      go (passed e d f r) = none_dry d

  -- ---- the largest balance

  -- by the balances, unless the code is 21 or 22
  pub largest_told : (verdict_by g slots β).code ≢ 21 → (verdict_by g slots β).code ≢ 22 → (verdict_by g slots β).largest ≡ largest_of g slots β
  largest_told h k = go (way g slots β)
    where
      go : Way g slots β → (verdict_by g slots β).largest ≡ largest_of g slots β
      go (moved p e r) = absurd (h (moved_code r))
      go (dry p e d r) = absurd (k (dry_code r))
      go (failing p e d f r) = balance_largest g slots β r
      go (passed e d f r) = balance_largest g slots β r

  pub bounds_all : (i fluid : ℕ) → i < blocks_of g → fluid < 2 → T (free_at slots fluid i) → size_of (in_fluid (β i) fluid) ≤ℤ largest_of g slots β
  unfolding largest_of
  bounds_all i fluid l m t = rw (← free_size_is slots β i fluid m t) (most_bounds (free_size_of slots β) (places_of g) (2 * i + fluid) (omega arith))

  pub reached_all : (largest_of g slots β ≡ pos 0) ⊎ ((p : ℕ) × ((p < places_of g) × (largest_of g slots β ≡ free_size_of slots β p)))
  unfolding largest_of
  reached_all = most_reached (free_size_of slots β) (places_of g)
