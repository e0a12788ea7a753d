-- What a block's waters, what a link carries and what a block has of its own depend on the blocks and widths that they look at, and on nothing else of a
-- case. Assumes nothing.
use mathlib.Core.Bool.{Bool, false, true}
use mathlib.Core.List.{List}
use mathlib.Core.Path.{◌≡◌, ap, refl}
use Prim.Native.Nat.{◌+◌, ◌<◌, ◌≤◌, suc, zero, ℕ}
use native.Mathlib.Omega.{arith}
use lib.Dec.{eqb}
use lib.IntN.{ℤ}
use Rattle.std.specs.Prelude.{Option, Some, None}
use Rattle.whole.proofs.SearchLaws.{first_same}
use Rattle.grid.specs.declared.Grid.{Grid}
use Rattle.grid.specs.Place.{behind_of, blocks_of, stride_of}
use Rattle.grid.specs.Units.{above}
use Rattle.slots.specs.Slots.{block_of}
use Rattle.slices.specs.Slices.{Case, case_of}
use Rattle.wellformed.specs.Limits.{across_in, block_in}
use Rattle.wellformed.specs.Widths.{along_of, area_of, face_of}
use Rattle.books.specs.Links.{behind_at, carried_of, counts_of, lateral_at, leakage_at, leakage_side_at, named_of, side_of, tip_behind_of}
use Rattle.books.specs.Own.{own_of, pumped_at, storage_at}
use Rattle.books.specs.Waters.{dry_at, dry_of, levels_at, waters_of}

-- ---- one block, in two lists of slots

module _ (g : Grid) (s t : List ℤ) (i : ℕ) (same : block_of s i ≡ block_of t i) where
  pub waters_same : waters_of g s i ≡ waters_of g t i
  unfolding waters_of levels_at
  waters_same = rw same

  -- what a lateral face sees of it, and what leakage does
  pub side_same : (fluid : ℕ) → side_of g s fluid i ≡ side_of g t fluid i
  unfolding side_of
  side_same fluid = rw (waters_same, same)

  pub leakage_side_same : leakage_side_at g s i ≡ leakage_side_at g t i
  leakage_side_same = rw (waters_same, same)

  -- its well is dry, or not
  pub dry_same : dry_at g s i ≡ dry_at g t i
  unfolding dry_at levels_at
  dry_same = rw same

-- so that the first dry well is told by the blocks of the grid
pub dry_wells_same : (g : Grid) (s t : List ℤ) → ((i : ℕ) → i < blocks_of g → dry_at g s i ≡ dry_at g t i) → dry_of g s ≡ dry_of g t
unfolding dry_of
dry_wells_same g s t same = first_same (blocks_of g) (dry_at g s) (dry_at g t) same

-- the fluid named for a side of a leakage is told by the waters on both sides
pub named_same : (g : Grid) (s t : List ℤ) (i : ℕ) (low : Bool) → waters_of g s i ≡ waters_of g t i → waters_of g s (i + stride_of g above) ≡ waters_of g t (i + stride_of g above) → named_of g s i low ≡ named_of g t i low
unfolding named_of
named_same g s t i low lower upper = rw (lower, upper)

-- ---- two cases of one record

module _ (c : Case) (columns rows slots : List ℤ) where
  abbrev g : Grid
  g = c.grid

  -- the second case
  abbrev other : Case
  other = case_of g columns rows slots

  -- of a block behind a tip its width along the axis and its waters are asked
  pub behind_same : (fluid d p : ℕ) → along_of c d p ≡ along_of other d p → waters_of g c.slots p ≡ waters_of g slots p → behind_at c fluid d (Some p) ≡ behind_at other fluid d (Some p)
  behind_same fluid d p along waters = rw (along, waters)

  module _ (fluid d i : ℕ) (behind : (low : Bool) (p : ℕ) → behind_of g d i low ≡ Some p → behind_at c fluid d (Some p) ≡ behind_at other fluid d (Some p)) where
    behind_either : (low : Bool) → behind_at c fluid d (behind_of g d i low) ≡ behind_at other fluid d (behind_of g d i low)
    behind_either low = go (behind_of g d i low) (behind low)
      where
        go : (there : Option ℕ) → ((p : ℕ) → there ≡ Some p → behind_at c fluid d (Some p) ≡ behind_at other fluid d (Some p)) → behind_at c fluid d there ≡ behind_at other fluid d there
        go (Some p) same = same p refl
        go None same = refl

    -- what stands behind a tip is told by the blocks behind both sides
    pub tip_same : (low high : ℤ) → tip_behind_of c fluid d i low high ≡ tip_behind_of other fluid d i low high
    unfolding tip_behind_of
    tip_same low high = rw (behind_either true, behind_either false)

    -- and what a lateral face carries by these, its widths and its sides
    pub lateral_same : face_of c d i ≡ face_of other d i → side_of g c.slots fluid i ≡ side_of g slots fluid i → side_of g c.slots fluid (i + stride_of g d) ≡ side_of g slots fluid (i + stride_of g d)
        → lateral_at c fluid d i ≡ lateral_at other fluid d i
    unfolding lateral_at
    lateral_same face low high = rw (tip_same (side_of g c.slots fluid i).thickness (side_of g c.slots fluid (i + stride_of g d)).thickness, low, high, face)

  -- what leakage carries is told by its two blocks and the area of the lower one
  pub leakage_same : (i : ℕ) → block_in c i ≡ block_in other i → across_in c above i ≡ across_in other above i → area_of c i ≡ area_of other i → leakage_at c i ≡ leakage_at other i
  unfolding leakage_at
  leakage_same i lower upper area = rw (leakage_side_same g c.slots slots i lower, leakage_side_same g c.slots slots (i + stride_of g above) upper, lower, area)

  -- what a block has of its own is told by the block and its area
  pub own_same : (fluid i : ℕ) → block_in c i ≡ block_in other i → area_of c i ≡ area_of other i → own_of c fluid i ≡ own_of other fluid i
  unfolding own_of pumped_at storage_at levels_at
  own_same fluid i same area = rw (waters_same g c.slots slots i same, same, area)

-- ---- a link of any two cases, by its axis

pub carried_same : (c e : Case) (fluid d i : ℕ) → (d < above → lateral_at c fluid d i ≡ lateral_at e fluid d i) → (above ≤ d → leakage_at c i ≡ leakage_at e i) → carried_of c fluid d i ≡ carried_of e fluid d i
carried_same c e fluid zero i lateral leakage = lateral (omega arith)
carried_same c e fluid (suc zero) i lateral leakage = lateral (omega arith)
carried_same c e fluid (suc (suc d)) i lateral leakage = leakage (omega arith)

pub counts_same : (c e : Case) (fluid d i : ℕ) (low : Bool) → (above ≤ d → named_of c.grid c.slots i low ≡ named_of e.grid e.slots i low)
    → counts_of c.grid c.slots fluid d i low ≡ counts_of e.grid e.slots fluid d i low
counts_same c e fluid zero i low named = refl
counts_same c e fluid (suc zero) i low named = refl
counts_same c e fluid (suc (suc d)) i low named = ap (λ (name : ℕ). eqb name fluid) (named (omega arith))
