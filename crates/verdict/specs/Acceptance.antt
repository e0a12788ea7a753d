-- When heads are accepted, and which place is the first (document 01, "Balance, verdict, table"): what the theorems about the verdict speak of.
-- A place is a block i, counted from 0, and a fluid, 0 fresh and 1 salt. The balances of all blocks are a function β.
use Rattle.std.specs.Prelude.{Bool, false, List, ◌⊎◌, ◌≡◌, ◌<◌, ℕ, T, ℤ, ◌≤ℤ◌}
use Rattle.grid.specs.declared.Grid.{Grid}
use Rattle.grid.specs.Place.{blocks_of}
use Rattle.slots.specs.Slots.{block_of}
use Rattle.block.specs.declared.Fluids.{Fluids}
use Rattle.block.specs.Fluids.{in_fluid, new_heads, old_heads}
use Rattle.wellformed.specs.Links.{active_of}
use Rattle.books.specs.Waters.{Wet}
use Rattle.books.specs.Own.{fixed_of}
use Rattle.verdict.specs.Places.{free_at, size_of}

-- The client's demand 2: "Heads are accepted exactly when fixed heads stand, no well in use is dry, and every block's balance is within tolerance in each
-- fluid whose head it leaves free, by document 01."
pub record Accepted (g : Grid) (slots : List ℤ) (β : ℕ → Fluids) : Type 0 where
  pub stands : (i fluid : ℕ) → i < blocks_of g → fluid < 2 → T (active_of slots i) → T (fixed_of (block_of slots i) fluid) → in_fluid (new_heads (block_of slots i)) fluid ≡ in_fluid (old_heads (block_of slots i)) fluid
  pub wet : Wet g slots
  pub within : (i fluid : ℕ) → i < blocks_of g → fluid < 2 → T (free_at slots fluid i) → size_of (in_fluid (β i) fluid) ≤ℤ g.tolerance

-- no place passes a test, which is asked by fluid and block
abbrev pub Nowhere : Grid → (ℕ → ℕ → Bool) → Type 0
Nowhere g test = (i fluid : ℕ) → i < blocks_of g → fluid < 2 → test fluid i ≡ false

-- "in block order, fresh before salt in one block": place (j, f) comes before place (i, fluid)
abbrev pub Earlier : ℕ → ℕ → ℕ → ℕ → Type 0
Earlier j f i fluid = (j < i) ⊎ ((j ≡ i) × (f < fluid))

-- "the first place in block order": place (i, fluid) passes a test, and none before it does
pub record First (g : Grid) (test : ℕ → ℕ → Bool) (i fluid : ℕ) : Type 0 where
  pub block_inside : i < blocks_of g
  pub fluid_inside : fluid < 2
  pub passes : T (test fluid i)
  pub none_before : (j f : ℕ) → f < 2 → Earlier j f i fluid → test f j ≡ false
