-- What a live link tells, and when a link is live. Assumes nothing.
use mathlib.Core.Bool.{◌&&◌, false}
use mathlib.Core.List.{List}
use mathlib.Core.Path.{◌≡◌}
use Prim.Native.Nat.{◌*◌, ◌+◌, ◌<◌, ◌≤◌, ℕ}
use native.Mathlib.Omega.{arith}
use lib.Dec.{T}
use lib.IntN.{ℤ}
use Rattle.whole.proofs.SearchLaws.{both, joint}
use Rattle.grid.specs.declared.Grid.{Grid}
use Rattle.grid.specs.Place.{next_of, stride_of, blocks_of}
use Rattle.grid.specs.Inner.{Counted}
use Rattle.grid.proofs.PlaceLaws.{next_inside}
use Rattle.wellformed.specs.Links.{active_of, live_of}

module _ (g : Grid) (slots : List ℤ) (d i : ℕ) (t : T (live_of g slots d i)) where
  pub live_next : T (next_of g d i)
  unfolding live_of
  live_next = (both (next_of g d i) (active_of slots i && active_of slots (i + stride_of g d)) t).0

  ends_active : T (active_of slots i) × T (active_of slots (i + stride_of g d))
  unfolding live_of
  ends_active = both (active_of slots i) (active_of slots (i + stride_of g d)) (both (next_of g d i) (active_of slots i && active_of slots (i + stride_of g d)) t).1

  pub live_low : T (active_of slots i)
  live_low = ends_active.0

  pub live_high : T (active_of slots (i + stride_of g d))
  live_high = ends_active.1

  -- the block across is inside the grid
  pub live_inside : Counted g → i < blocks_of g → i + stride_of g d < blocks_of g
  live_inside counted l = next_inside g counted d i l live_next

-- a link between active neighbours is live
pub joined_live : (g : Grid) (slots : List ℤ) (d i : ℕ) → T (next_of g d i) → T (active_of slots i) → T (active_of slots (i + stride_of g d)) → T (live_of g slots d i)
unfolding live_of
joined_live g slots d i next low high = joint (next_of g d i) (active_of slots i && active_of slots (i + stride_of g d)) next (joint (active_of slots i) (active_of slots (i + stride_of g d)) low high)

-- and one that leads outside is not
pub outside_dead : (g : Grid) (slots : List ℤ) (d i : ℕ) → next_of g d i ≡ false → live_of g slots d i ≡ false
unfolding live_of
outside_dead g slots d i e = rw e

-- the slots reach to the end of a block that is inside
pub reach : {n i most : ℕ} → 16 * n ≤ most → i < n → 16 * i + 16 ≤ most
reach h l = omega (arith, h, l)
