-- No face is skipped, of the books: two active blocks that touch are joined by a live link, and what it carries leaves the one and enters the
-- other, in the fluids that document 01 names, tip faces included. That every link counts in the balances is in crate `balance`. Assumes
-- nothing.
use mathlib.Core.Bool.{false, not, true}
use mathlib.Core.Path.{◌∙◌, ◌≡◌, ap, refl}
use Prim.Native.Nat.{◌+◌, ◌<◌, ◌≤◌, suc, zero, ℕ}
use native.Mathlib.Omega.{arith}
use lib.Dec.{T, eqb}
use lib.IntN.{neg_ℤ, pos, ℤ}
use lib.Signed.{lt_z}
use Rattle.std.specs.Prelude.{Some}
use Rattle.whole.specs.Sum.{only}
use Rattle.whole.proofs.SearchLaws.{true_is}
use Rattle.grid.specs.Meaning.{Beside}
use Rattle.grid.specs.Place.{behind_of, blocks_of, coordinate_of, extent_of, place_of, stride_of}
use Rattle.grid.specs.Units.{above, next_row}
use Rattle.grid.proofs.GridTheorems.{behind_away, behind_outside}
use Rattle.grid.proofs.PlaceLaws.{beside_link}
use Rattle.slices.specs.Slices.{Case}
use Rattle.slices.specs.Inner.{Judged}
use Rattle.block.specs.Fluids.{fresh, salt}
use Rattle.flow.specs.Lateral.{face_thickness_of, tip_of}
use Rattle.flow.specs.Leakage.{lowermost_of, uppermost_of}
use Rattle.flow.proofs.LateralLaws.{tip_high, tip_low}
use Rattle.flow.proofs.LeakageLaws.{lowermost_is, uppermost_is}
use Rattle.wellformed.specs.Links.{active_of, live_of}
use Rattle.wellformed.specs.Widths.{face_of}
use Rattle.wellformed.proofs.LinksLaws.{joined_live}
use Rattle.books.specs.Waters.{waters_of}
use Rattle.books.specs.Bookkeeping.{books_of, brought_of}
use Rattle.books.specs.Links.{behind_at, lateral_at, leakage_at, named_of, tip_behind_of}
use Rattle.books.proofs.CarriedLaws.{brought_live, carried_lateral, counts_lateral}

-- Two active blocks that touch, in a row, in a column or one above the other, are joined by a live link.
pub touching_are_joined : (c : Case) → Judged c → (d i j : ℕ) → d < 3 → i < blocks_of c.grid → j < blocks_of c.grid → T (active_of c.slots i) → T (active_of c.slots j) → Beside c.grid d i j
    → T (live_of c.grid c.slots d i) × (j ≡ i + stride_of c.grid d)
touching_are_joined c judged d i j axis l m a b beside =
    let h = beside_link c.grid judged.counted d i j axis l m beside in
    (joined_live c.grid c.slots d i h.0 a (rw (← h.1) b), h.1)

module _ (c : Case) (fluid d i : ℕ) (live : T (live_of c.grid c.slots d i)) where
  -- A live lateral face, a tip face like any other, takes its flow from the block on its low side and gives it to the one on its high side, in
  -- each fluid by itself. Where the flow is negative it goes the other way.
  pub lateral_in_both : d ≤ next_row → (brought_of (books_of c fluid) true d i ≡ neg_ℤ (lateral_at c fluid d i)) × (brought_of (books_of c fluid) false d i ≡ lateral_at c fluid d i)
  lateral_in_both h = (
    brought_live c fluid d i true (true_is live) (counts_lateral c.grid c.slots fluid d i true (omega arith)) ∙ ap neg_ℤ (carried_lateral c fluid d i (omega arith)),
    brought_live c fluid d i false (true_is live) (counts_lateral c.grid c.slots fluid d i false (omega arith)) ∙ carried_lateral c fluid d i (omega arith),
  )

-- A tip face, of which only one side holds the fluid, is as thick as the slope from the block behind that side leaves it, whichever side it is.
pub tip_extrapolated : (c : Case) (fluid d i : ℕ) (low high : ℤ)
    → (lt_z (pos 0) low ≡ true → lt_z (pos 0) high ≡ false → face_thickness_of (face_of c d i) low high (tip_behind_of c fluid d i low high) ≡ tip_of (face_of c d i).low low (behind_at c fluid d (behind_of c.grid d i true)))
    × (lt_z (pos 0) low ≡ false → lt_z (pos 0) high ≡ true → face_thickness_of (face_of c d i) low high (tip_behind_of c fluid d i low high) ≡ tip_of (face_of c d i).high high (behind_at c fluid d (behind_of c.grid d i false)))
unfolding tip_behind_of
tip_extrapolated c fluid d i low high = (
  λ a b. rw (a, b) (tip_low (face_of c d i) low high (behind_at c fluid d (behind_of c.grid d i true)) a b),
  λ a b. rw (a, b) (tip_high (face_of c d i) low high (behind_at c fluid d (behind_of c.grid d i false)) a b),
)

module _ (c : Case) (judged : Judged c) (fluid d i : ℕ) (low high : ℤ) (inside : i + stride_of c.grid d < blocks_of c.grid) where
  -- the thickness of the face
  abbrev B : ℤ
  B = face_thickness_of (face_of c d i) low high (tip_behind_of c fluid d i low high)

  -- "let p be the block on a's other side", by column and row: p is the block that touches a on the side away from the face.
  pub tip_from_neighbour : (p : ℕ) → d ≤ next_row → p < blocks_of c.grid
      → (lt_z (pos 0) low ≡ true → lt_z (pos 0) high ≡ false → Beside c.grid d p i → B ≡ tip_of (face_of c d i).low low (behind_at c fluid d (Some p)))
      × (lt_z (pos 0) low ≡ false → lt_z (pos 0) high ≡ true → Beside c.grid d (i + stride_of c.grid d) p → B ≡ tip_of (face_of c d i).high high (behind_at c fluid d (Some p)))
  tip_from_neighbour p lateral l =
      let away = behind_away c.grid judged.counted d i p (omega arith) l in
      let tip = tip_extrapolated c fluid d i low high in (
        λ a b beside. tip.0 a b ∙ ap (λ q. tip_of (face_of c d i).low low (behind_at c fluid d q)) ((away.0 (omega (arith, inside))).1 beside),
        λ a b beside. tip.1 a b ∙ ap (λ q. tip_of (face_of c d i).high high (behind_at c fluid d q)) ((away.1 inside).1 beside),
      )

  -- "If p is outside, .. B = 0": there is no p where a, on the face's low side, is the first block of its row or column or, on the high side, the last.
  pub tip_at_edge : (lt_z (pos 0) low ≡ true → lt_z (pos 0) high ≡ false → coordinate_of (place_of c.grid i) d ≡ 0 → B ≡ pos 0)
      × (lt_z (pos 0) low ≡ false → lt_z (pos 0) high ≡ true → coordinate_of (place_of c.grid (i + stride_of c.grid d)) d + 1 ≡ extent_of c.grid d → B ≡ pos 0)
  unfolding tip_of
  tip_at_edge =
      let none = behind_outside c.grid judged.counted d i in
      let tip = tip_extrapolated c fluid d i low high in (
        λ a b first. tip.0 a b ∙ ap (λ q. tip_of (face_of c d i).low low (behind_at c fluid d q)) (none.0.1 first),
        λ a b last. tip.1 a b ∙ ap (λ q. tip_of (face_of c d i).high high (behind_at c fluid d q)) ((none.1 inside).1 last),
      )

-- Live leakage leaves or enters each of its two blocks as the fluid named for that block, and as no other.
pub leakage_as_named : (c : Case) (fluid i : ℕ) → T (live_of c.grid c.slots above i)
    → (brought_of (books_of c fluid) true above i ≡ only (eqb (uppermost_of (waters_of c.grid c.slots i)) fluid) (neg_ℤ (leakage_at c i)))
    × (brought_of (books_of c fluid) false above i ≡ only (eqb (lowermost_of (waters_of c.grid c.slots (i + stride_of c.grid above))) fluid) (leakage_at c i))
unfolding brought_of books_of named_of
leakage_as_named c fluid i live = rw (true_is {b = live_of c.grid c.slots above i} live) (refl, refl)

-- what is named is one of the two fluids
either : (named : ℕ) → named ≤ salt → eqb named salt ≡ not (eqb named fresh)
either zero h = refl
either (suc zero) h = refl
either (suc (suc n)) h = absurd (omega arith)

-- The books of the two fluids share one leakage, and on each side of it the water counts as one of the two fluids alone.
pub leakage_shared : (c : Case) (i : ℕ)
    → ((books_of c salt).flow above i ≡ (books_of c fresh).flow above i)
    × (((books_of c salt).low_is above i ≡ not ((books_of c fresh).low_is above i)) × ((books_of c salt).high_is above i ≡ not ((books_of c fresh).high_is above i)))
unfolding books_of named_of
leakage_shared c i =
    let waters = waters_of c.grid c.slots in
    let upper : ℕ = i + stride_of c.grid above in
    (refl, (either (uppermost_of (waters i)) (uppermost_is (waters i)), either (lowermost_of (waters upper)) (lowermost_is (waters upper))))
