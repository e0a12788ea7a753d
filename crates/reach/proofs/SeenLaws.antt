-- What a balance looks at: the block itself, the blocks across its links, and in its row and its column the ones behind these. Two cases of one record that
-- are alike there, and in their widths, have the same balances in the block. Assumes nothing.
use mathlib.Core.Bool.{Bool, false, true}
use mathlib.Core.List.{List}
use mathlib.Core.Path.{◌∙◌, ◌≡◌, ap, ap₂, refl, subst, sym}
use Prim.Native.Nat.{◌+◌, ◌-◌, ◌<◌, ◌≤◌, ℕ}
use native.Mathlib.Omega.{arith}
use lib.Dec.{T}
use lib.IntN.{ℤ}
use Rattle.std.specs.Prelude.{Some}
use Rattle.whole.specs.Sum.{back, only}
use Rattle.whole.proofs.SumLaws.{only_same}
use Rattle.grid.specs.declared.Grid.{Grid}
use Rattle.grid.specs.Inner.{Counted}
use Rattle.grid.specs.Place.{behind_of, blocks_of, neighbour_of, next_of, previous_of, stride_of}
use Rattle.grid.specs.Units.{above}
use Rattle.grid.proofs.PlaceLaws.{previous_low, there_at}
use Rattle.slots.specs.Slots.{is_active}
use Rattle.slices.specs.Slices.{Case, case_of}
use Rattle.block.specs.Fluids.{fresh, salt}
use Rattle.block.proofs.FluidLaws.{both_same}
use Rattle.wellformed.specs.Limits.{block_in}
use Rattle.wellformed.specs.Links.{live_of}
use Rattle.wellformed.proofs.LinksLaws.{live_next}
use Rattle.wellformed.proofs.RoomLaws.{Alike, live_by_blocks}
use Rattle.books.specs.Bookkeeping.{books_of, brought_of}
use Rattle.books.specs.Links.{carried_of, counts_of}
use Rattle.books.proofs.AlikeLaws.{carried_same, counts_same, own_same}
use Rattle.balance.specs.Balance.{balance_of, balances_of}
use Rattle.balance.proofs.BalanceLaws.{ending_is}
use Rattle.balance.proofs.SameLaws.{area_alike, balance_by_links, brought_by_link, lateral_alike, leakage_alike, named_alike}

-- a step on and a step back along an axis, where a block is there
step_on : (g : Grid) (d i : ℕ) → T (next_of g d i) → neighbour_of g d i true ≡ Some (i + stride_of g d)
unfolding neighbour_of
step_on g d i t = (there_at (next_of g d i) (i + stride_of g d) (i + stride_of g d)).1 (t, refl)

step_back : (g : Grid) (d i : ℕ) → T (previous_of g d i) → neighbour_of g d i false ≡ Some (i - stride_of g d)
unfolding neighbour_of
step_back g d i t = (there_at (previous_of g d i) (i - stride_of g d) (i - stride_of g d)).1 (t, refl)

-- with the widths of the second case the first is a case alike
module _ (c : Case) (columns rows slots : List ℤ) (widths : Alike c (case_of c.grid columns rows c.slots)) (counted : Counted c.grid) where
  abbrev g : Grid
  g = c.grid

  -- the second case
  abbrev other : Case
  other = case_of g columns rows slots

  -- some blocks of the grid, each the same in both cases
  module _ (Same : ℕ → Type 0) (inside : (i : ℕ) → Same i → i < blocks_of g) (block : (i : ℕ) → Same i → block_in c i ≡ block_in other i) where
    -- ---- a link between two of them

    -- what it brings to either side
    brought : (fluid d i : ℕ) (side : Bool) → d < 3 → Same i → (T (next_of g d i) → Same (i + stride_of g d))
        → (d < above → T (next_of g d i) → (low : Bool) (p : ℕ) → behind_of g d i low ≡ Some p → Same p)
        → brought_of (books_of c fluid) side d i ≡ brought_of (books_of other fluid) side d i
    brought fluid d i side h low high behind = brought_by_link c other fluid side d i (live_by_blocks g c.slots slots d i (block i low) (λ t. block (i + stride_of g d) (high t))) link
      where
        upper : above ≤ d → T (next_of g d i) → Same (i + stride_of g above)
        upper b t = let axis : d ≡ above = omega (arith, h, b) in subst (λ (d : ℕ). Same (i + stride_of g d)) axis (high t)

        link : T (live_of g c.slots d i) → (carried_of c fluid d i ≡ carried_of other fluid d i) × (counts_of g c.slots fluid d i side ≡ counts_of g slots fluid d i side)
        link t =
            let next = live_next g c.slots d i t in (
              carried_same c other fluid d i (λ b. lateral_alike c columns rows slots widths counted Same inside block fluid d i b next low (high next) (behind b next))
                  (λ b. leakage_alike c columns rows slots widths counted Same inside block i low (upper b next)),
              counts_same c other fluid d i side (λ b. named_alike c columns rows slots widths counted Same inside block i side low (upper b next)),
            )

    -- ---- a block that looks at these alone

    -- they hold the block itself, every block one step away, and every block two steps away in its row or its column
    pub record Seen (j : ℕ) : Type 0 where
      pub itself : Same j
      pub one : (d : ℕ) (on : Bool) (x : ℕ) → d < 3 → neighbour_of g d j on ≡ Some x → Same x
      pub two : (d : ℕ) (on : Bool) (m x : ℕ) → d < above → neighbour_of g d j on ≡ Some m → neighbour_of g d m on ≡ Some x → Same x

    module _ (j : ℕ) (l : j < blocks_of g) (seen : Seen j) where
      -- the link that leads on from it
      leading : (fluid d : ℕ) → d < 3 → brought_of (books_of c fluid) true d j ≡ brought_of (books_of other fluid) true d j
      unfolding behind_of
      leading fluid d h = brought fluid d j true h seen.itself (λ t. seen.one d true (j + stride_of g d) h (step_on g d j t)) behind
        where
          behind : d < above → T (next_of g d j) → (low : Bool) (p : ℕ) → behind_of g d j low ≡ Some p → Same p
          behind b t true p e = seen.one d false p h e
          behind b t false p e = seen.two d true (j + stride_of g d) p b (step_on g d j t) e

      -- the link that ends in it
      ending : (fluid d : ℕ) → d < 3 → back (stride_of g d) (brought_of (books_of c fluid) false d) j ≡ back (stride_of g d) (brought_of (books_of other fluid) false d) j
      unfolding behind_of
      ending fluid d h =
          ending_is c counted fluid d j l
          ∙ only_same (previous_of g d j) (brought_of (books_of c fluid) false d (j - stride_of g d)) (brought_of (books_of other fluid) false d (j - stride_of g d))
          (λ t. brought fluid d (j - stride_of g d) false h (seen.one d false (j - stride_of g d) h (step_back g d j t)) (λ n. subst Same (sym (again t)) seen.itself) (λ b n. behind t b))
          ∙ sym (ending_is other counted fluid d j l)
        where
          again : T (previous_of g d j) → j - stride_of g d + stride_of g d ≡ j
          again t = omega (arith, previous_low g counted d j l t)

          behind : T (previous_of g d j) → d < above → (low : Bool) (p : ℕ) → behind_of g d (j - stride_of g d) low ≡ Some p → Same p
          behind t b true p e = seen.two d false (j - stride_of g d) p b (step_back g d j t) e
          behind t b false p e = seen.one d true p h (ap (λ (m : ℕ). neighbour_of g d m true) (sym (again t)) ∙ e)

      balance : (fluid : ℕ) → balance_of c fluid j ≡ balance_of other fluid j
      unfolding balance_of books_of
      balance fluid =
          let own = own_same c columns rows slots fluid j (block j seen.itself) (area_alike c columns rows slots widths counted j l) in
          ap₂ only (ap is_active (block j seen.itself)) (balance_by_links g g (books_of c fluid) (books_of other fluid) j (leading fluid) (ending fluid) own)

      -- has the same balances in both
      pub balances_seen : balances_of c j ≡ balances_of other j
      balances_seen = both_same (balance fresh) (balance salt)
