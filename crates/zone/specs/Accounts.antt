-- What the theorems about tables speak of (the client's demand 3; document 01, "Balance, verdict, table").
use Rattle.std.specs.Prelude.{Bool, ◌&&◌, ◌||◌, false, not, List, ◌≡◌, ◌<◌, ℕ, T, ◌+ℤ◌, ◌-ℤ◌, pos, ℤ}
use Rattle.whole.specs.Sum.{sum}
use Rattle.grid.specs.declared.Grid.{Grid}
use Rattle.grid.specs.Place.{blocks_of}
use Rattle.slots.specs.Rules.{is_kind}
use Rattle.slices.specs.Slices.{Case}
use Rattle.wellformed.specs.Limits.{block_in}
use Rattle.books.specs.Bookkeeping.{Books}
use Rattle.zone.specs.declared.lines.Lines.{Lines}
use Rattle.zone.specs.Zones.{in_zone}

-- "Closing: storage + error = in - out + converted + wells + recharge + boundary + supply."
abbrev pub Closes : Lines → Type 0
Closes l =
    l.storage +ℤ l.error
    ≡ l.edge_in -ℤ l.edge_out +ℤ l.converted +ℤ l.wells +ℤ l.recharge +ℤ l.boundary +ℤ l.supply

-- of demand 3: "edge in less edge out plus converted"
abbrev pub crossed : Lines → ℤ
crossed l = l.edge_in -ℤ l.edge_out +ℤ l.converted

-- of demand 3: "in each fluid storage, wells, recharge, boundary, supply and error of the joined zone are the sums of the two; edge in less edge
-- out plus converted also adds exactly"
pub record Adds (a b both : Lines) : Type 0 where
  pub storage : both.storage ≡ a.storage +ℤ b.storage
  pub wells : both.wells ≡ a.wells +ℤ b.wells
  pub recharge : both.recharge ≡ a.recharge +ℤ b.recharge
  pub boundary : both.boundary ≡ a.boundary +ℤ b.boundary
  pub supply : both.supply ≡ a.supply +ℤ b.supply
  pub error : both.error ≡ a.error +ℤ b.error
  pub crosses : crossed both ≡ crossed a +ℤ crossed b

-- the same of the first n of some rows, one for each layer, and a row of the whole
pub record AddUp (n : ℕ) (row : ℕ → Lines) (whole : Lines) : Type 0 where
  pub storage : whole.storage ≡ sum n (λ k. (row k).storage)
  pub wells : whole.wells ≡ sum n (λ k. (row k).wells)
  pub recharge : whole.recharge ≡ sum n (λ k. (row k).recharge)
  pub boundary : whole.boundary ≡ sum n (λ k. (row k).boundary)
  pub supply : whole.supply ≡ sum n (λ k. (row k).supply)
  pub error : whole.error ≡ sum n (λ k. (row k).error)
  pub crosses : crossed whole ≡ sum n (λ k. crossed (row k))

-- of demand 3: "two zones with no block in common"
abbrev pub Apart : Grid → (ℕ → Bool) → (ℕ → Bool) → Type 0
Apart g z w = (i : ℕ) → i < blocks_of g → T (not (z i && w i))

-- of demand 3: "the joined zone"
abbrev pub joined : (ℕ → Bool) → (ℕ → Bool) → ℕ → Bool
joined z w i = z i || w i

-- no block of the zone is of kind "1 river", so that what exchanges water there is a sea
abbrev pub NoRiver : Case → (ℕ → Bool) → Type 0
NoRiver c z = (i : ℕ) → i < blocks_of c.grid → T (in_zone c.slots z i) → is_kind (block_in c i) (pos 1) ≡ false

-- of demand 3: "the zone's active blocks that are free in that fluid", by the fluid's books
unfoldable pub free_in : List ℤ → Books → (ℕ → Bool) → ℕ → Bool
free_in slots F z i = in_zone slots z i && not (F.fixed i)
