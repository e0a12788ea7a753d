-- Balances of a well-formed case: what ends in a block, and how great a balance can be. Assumes nothing.
use mathlib.Core.Bool.{Bool, false, true}
use mathlib.Core.List.{List}
use mathlib.Core.Path.{◌∙◌, ◌≡◌, ap, refl, sym}
use Prim.Native.Nat.{◌*◌, ◌-◌, ◌<◌, ◌≤◌, suc, zero, ℕ}
use native.Mathlib.Omega.{arith}
use lib.Dec.{leb}
use lib.IntN.{ℤ}
use lib.ListN.{length}
use Rattle.whole.specs.Sum.{back, only, sum}
use Rattle.whole.specs.Inner.{Abs}
use Rattle.whole.proofs.RangeLaws.{leaf, ranges, within}
use Rattle.whole.proofs.SumLaws.{only_abs, sum_in}
use Rattle.grid.specs.Inner.{Counted}
use Rattle.grid.specs.Place.{blocks_of, previous_of, stride_of}
use Rattle.grid.specs.Units.{above, most_blocks}
use Rattle.grid.proofs.PlaceLaws.{previous_is}
use Rattle.slices.specs.Slices.{Case}
use Rattle.block.specs.Fluids.{fresh, in_fluid, salt}
use Rattle.block.proofs.FluidLaws.{in_fluid_in}
use Rattle.flow.specs.Inner.{most_flow}
use Rattle.wellformed.specs.Inner.{WellFormed}
use Rattle.wellformed.specs.Links.{active_of}
use Rattle.books.specs.Bookkeeping.{books_of, brought_of}
use Rattle.books.specs.Inner.{Row, filled_of, pair_of}
use Rattle.books.proofs.CarriedLaws.{brought_in, brought_next}
use Rattle.books.proofs.RowsLaws.{filled_row}
use Rattle.books.proofs.OwnLaws.{own_boundary_in, own_pumped_in, own_recharge_in, own_storage_in}
use Rattle.balance.specs.Inner.{Bounded, most_balance}
use Rattle.balance.specs.Balance.{balance_in, balance_of, balances_of, flows_of, through_of}

-- what the link that ends in a block brings is what the link of the block before brings, if one is there
pub ending_is : (c : Case) → Counted c.grid → (fluid d i : ℕ) → i < blocks_of c.grid
    → back (stride_of c.grid d) (brought_of (books_of c fluid) false d) i ≡ only (previous_of c.grid d i) (brought_of (books_of c fluid) false d (i - stride_of c.grid d))
unfolding back
ending_is c counted fluid d i l =
    ap (only (leb (stride_of c.grid d) i)) (brought_next c fluid d (i - stride_of c.grid d) false)
    ∙ sym (previous_is c.grid counted d i l (brought_of (books_of c fluid) false d))

-- ---- how great

-- what comes along one axis, and along all three: two and six flows
abbrev pub most_through : ℕ
most_through = 2748779069440

abbrev pub most_flows : ℕ
most_flows = 8246337208320

module _ (c : Case) (formed : WellFormed c) (fluid i : ℕ) (l : i < blocks_of c.grid) where
  pub leading_in : (d : ℕ) → d ≤ above → Abs most_flow (brought_of (books_of c fluid) true d i)
  leading_in d h = brought_in c formed fluid d i true h l

  pub ending_in : (d : ℕ) → d ≤ above → Abs most_flow (back (stride_of c.grid d) (brought_of (books_of c fluid) false d) i)
  unfolding back
  ending_in d h = only_abs (leb (stride_of c.grid d) i) (brought_in c formed fluid d (i - stride_of c.grid d) false h (omega (arith, l)))

  pub through_in : (d : ℕ) → d ≤ above → Abs most_through (through_of c.grid (books_of c fluid) d i)
  unfolding through_of
  through_in d h = within (search (ranges, leaf (leading_in d h), leaf (ending_in d h)) depth 20) tt tt

  -- what comes along the first axes, as a loop adds it up
  pub net_in : (axes : ℕ) → axes ≤ 3 → Abs most_flows (sum axes (λ d. through_of c.grid (books_of c fluid) d i))
  net_in axes h = sum_in axes 3 most_through (λ d. through_of c.grid (books_of c fluid) d i) h (λ d k. through_in d (omega (arith, h, k)))

  pub flows_in : Abs most_flows (flows_of c.grid (books_of c fluid) i)
  unfolding flows_of
  flows_in = net_in 3 (omega arith)

  pub balance_in_lem : active_of c.slots i ≡ true → Abs most_balance (balance_in c.grid (books_of c fluid) i)
  unfolding balance_in books_of
  balance_in_lem a =
      within (search (ranges, leaf flows_in, leaf (own_recharge_in c formed fluid i l a), leaf (own_boundary_in c formed fluid i l a), leaf (own_pumped_in c formed fluid i l a), leaf (own_storage_in c formed fluid i l a)) depth 20) tt tt

  pub balance_of_in : Abs most_balance (balance_of c fluid i)
  unfolding balance_of
  balance_of_in = go (active_of c.slots i) refl
    where
      go : (b : Bool) → active_of c.slots i ≡ b → Abs most_balance (only b (balance_in c.grid (books_of c fluid) i))
      go true a = balance_in_lem a
      go false a = within (search ranges depth 20) tt tt

-- ---- rows of balances

pub row_bounded : (c : Case) → WellFormed c → (row : List ℤ) → Row (blocks_of c.grid) (balances_of c) row → Bounded (blocks_of c.grid) row
row_bounded c formed row filled =
    record { room = filled.room; each = λ i l. rw (filled.each i l) (record { of_fresh = balance_of_in c formed fresh i l; of_salt = balance_of_in c formed salt i l }) }

pub filled_bounded : (c : Case) → WellFormed c → (row : List ℤ) → 2 * blocks_of c.grid ≤ length row → Bounded (blocks_of c.grid) (filled_of (blocks_of c.grid) (balances_of c) row)
filled_bounded c formed row h = row_bounded c formed (filled_of (blocks_of c.grid) (balances_of c) row) (filled_row (blocks_of c.grid) (balances_of c) row h)

-- a row with room for the most blocks, filled with their balances
pub filled_balanced : (c : Case) (row : List ℤ) {filled : List ℤ} → Counted c.grid → filled ≡ filled_of (blocks_of c.grid) (balances_of c) row → 2 * most_blocks ≤ length row → Row (blocks_of c.grid) (balances_of c) filled
filled_balanced c row counted e h = rw e (filled_row (blocks_of c.grid) (balances_of c) row (omega (arith, h, counted.blocks_most)))

pub pair_in : {n i : ℕ} {row : List ℤ} (fluid : ℕ) → Bounded n row → i < n → Abs most_balance (in_fluid (pair_of row i) fluid)
pair_in {n} {i} {row} fluid b l = in_fluid_in (pair_of row i) fluid (b.each i l)

-- the balance of an active block
pub balance_active : (c : Case) (fluid i : ℕ) → active_of c.slots i ≡ true → balance_of c fluid i ≡ balance_in c.grid (books_of c fluid) i
unfolding balance_of
balance_active c fluid i a = rw a

-- a fluid's balance among the two of a block
pub balance_in_fluid : (c : Case) (fluid i : ℕ) → fluid < 2 → in_fluid (balances_of c i) fluid ≡ balance_of c fluid i
balance_in_fluid c zero i l = refl
balance_in_fluid c (suc zero) i l = refl
balance_in_fluid c (suc (suc fluid)) i l = absurd (omega arith)
