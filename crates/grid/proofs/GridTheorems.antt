-- Which blocks touch, by column, row and layer (document 01, "A lateral face", "Leakage, river and sea"). Assumes nothing.
use mathlib.Core.Bool.{false, true}
use mathlib.Core.Logic.{◌↔◌, ◌⊎◌, inl, inr}
use mathlib.Core.Path.{◌≡◌}
use Prim.Native.Nat.{◌+◌, ◌-◌, ◌<◌, ℕ}
use native.Mathlib.Omega.{arith}
use lib.Dec.{T}
use borrow.Author.Tests.{le-ltb, ltb-false}
use Rattle.std.specs.Prelude.{Some, None}
use Rattle.grid.specs.declared.Grid.{Grid}
use Rattle.grid.specs.Meaning.{Beside}
use Rattle.grid.specs.Inner.{Counted}
use Rattle.grid.specs.Place.{behind_of, blocks_of, coordinate_of, extent_of, has_next, has_previous, neighbour_of, next_of, place_of, previous_of, stride_of}
use Rattle.grid.proofs.PlaceLaws.{beside_link, beside_previous, coordinate_inside, link_beside, place_inside, previous_beside, there_at, there_outside}

-- The neighbours of a block are those across its own three links and across the three that end in it, and no others.
pub neighbours : (g : Grid) → Counted g → (d i j : ℕ) → d < 3 → i < blocks_of g → j < blocks_of g
    → (Beside g d i j ⊎ Beside g d j i) ↔ ((T (next_of g d i) × (j ≡ i + stride_of g d)) ⊎ (T (previous_of g d i) × (j ≡ i - stride_of g d)))
neighbours g counted d i j axis l m = (joined, touching)
  where
    joined : Beside g d i j ⊎ Beside g d j i → (T (next_of g d i) × (j ≡ i + stride_of g d)) ⊎ (T (previous_of g d i) × (j ≡ i - stride_of g d))
    joined (inl b) = inl (beside_link g counted d i j axis l m b)
    joined (inr b) = inr (beside_previous g counted d i j axis l m b)

    touching : (T (next_of g d i) × (j ≡ i + stride_of g d)) ⊎ (T (previous_of g d i) × (j ≡ i - stride_of g d)) → Beside g d i j ⊎ Beside g d j i
    touching (inl h) = inl (link_beside g counted d i j axis l m h.0 h.1)
    touching (inr h) = inr (previous_beside g counted d i j axis l m h.0 h.1)

-- "let p be the block on a's other side": p touches a on the side away from the face. Behind the low side a = i of the link (d, i) it is the block that a
-- comes next after along the axis, behind the high side a = i + stride the block that comes next after a.
pub behind_away : (g : Grid) → Counted g → (d i p : ℕ) → d < 3 → p < blocks_of g
    → (i < blocks_of g → (behind_of g d i true ≡ Some p) ↔ Beside g d p i)
    × (i + stride_of g d < blocks_of g → (behind_of g d i false ≡ Some p) ↔ Beside g d (i + stride_of g d) p)
unfolding behind_of neighbour_of
behind_away g counted d i p axis m =
    let a : ℕ = i + stride_of g d in
    let low = there_at (previous_of g d i) (i - stride_of g d) p in
    let high = there_at (next_of g d a) (a + stride_of g d) p in (
      λ l. (λ e. previous_beside g counted d i p axis l m (low.0 e).0 (low.0 e).1, λ b. low.1 (beside_previous g counted d i p axis l m b)),
      λ l. (λ e. link_beside g counted d a p axis l m (high.0 e).0 (high.0 e).1, λ b. high.1 (beside_link g counted d a p axis l m b)),
    )

-- There is no p exactly where a, as the low side, is the first block along the axis or, as the high side, the last.
pub behind_outside : (g : Grid) → Counted g → (d i : ℕ)
    → ((behind_of g d i true ≡ None) ↔ (coordinate_of (place_of g i) d ≡ 0))
    × (i + stride_of g d < blocks_of g → (behind_of g d i false ≡ None) ↔ (coordinate_of (place_of g (i + stride_of g d)) d + 1 ≡ extent_of g d))
unfolding behind_of neighbour_of previous_of has_previous next_of has_next
behind_outside g counted d i =
    let a : ℕ = i + stride_of g d in
    let first : ℕ = coordinate_of (place_of g i) d in
    let last : ℕ = coordinate_of (place_of g a) d + 1 in
    let low = there_outside (previous_of g d i) (i - stride_of g d) in
    let high = there_outside (next_of g d a) (a + stride_of g d) in (
      (λ e. omega (arith, ltb-false 0 first (low.0 e)), λ e. low.1 (le-ltb 0 first (omega (arith, e)))),
      λ l. (
        λ e. omega (arith, coordinate_inside g (place_of g a) d (place_inside g counted a l), ltb-false last (extent_of g d) (high.0 e)),
        λ e. high.1 (le-ltb last (extent_of g d) (omega (arith, e))),
      ),
    )
