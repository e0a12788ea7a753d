-- Rows of a grid, two numbers to a block, fresh before salt, in block order, and what inner functions require of them and of a block. No answer is said
-- with these: nothing here has to be believed.
use Rattle.std.specs.Prelude.{List, ◌≡◌, ◌*◌, ◌+◌, ◌<◌, ◌≤◌, suc, zero, ℕ, pos, ℤ, get_or, length, set, T}
use Rattle.block.specs.declared.Fluids.{Fluids}
use Rattle.block.specs.Fluids.{fluids_of}
use Rattle.grid.specs.declared.Grid.{Grid}
use Rattle.grid.specs.Inner.{Counted, Termed}
use Rattle.grid.specs.Place.{blocks_of, top_of}
use Rattle.slots.specs.Inner.{Active, Ends}
use Rattle.slots.specs.Slots.{block_of}
use Rattle.slots.specs.Units.{slots_each}
use Rattle.wellformed.specs.Links.{active_of}
use Rattle.books.specs.Waters.{waters_of}

-- the two numbers of a block
abbrev pub pair_of : List ℤ → ℕ → Fluids
pair_of row i = fluids_of (get_or row (2 * i) (pos 0)) (get_or row (2 * i + 1) (pos 0))

-- a row after two numbers are put in for a block
abbrev pub put_of : List ℤ → ℕ → Fluids → List ℤ
put_of row i two = set (set row (2 * i) two.fresh) (2 * i + 1) two.salt

-- a row after the numbers f are put in for each block below n; the rest is as it was
unfoldable pub filled_of : ℕ → (ℕ → Fluids) → List ℤ → List ℤ
filled_of zero f row = row
filled_of (suc n) f row = put_of (filled_of n f row) n (f n)

-- what later parts require: a row holds the numbers f of the blocks below n
pub record Row (n : ℕ) (f : ℕ → Fluids) (row : List ℤ) : Type 0 where
  pub room : 2 * n ≤ length row
  pub each : (i : ℕ) → i < n → pair_of row i ≡ f i

-- what later parts require of a grid and its slots, as 3, 7, 4 and 6 do not refuse them
pub record Slotted (g : Grid) (slots : List ℤ) : Type 0 where
  pub counted : Counted g
  pub termed : Termed g
  pub room : slots_each * blocks_of g ≤ length slots
  pub active : (i : ℕ) → i < blocks_of g → T (active_of slots i) → Active (block_of slots i) (top_of g i)

-- what later parts require of a row of thicknesses
abbrev pub Watered : Grid → List ℤ → List ℤ → Type 0
Watered g slots row = Row (blocks_of g) (waters_of g slots) row

-- what later parts require of one block
pub record Sound (slots : List ℤ) (i : ℕ) : Type 0 where
  pub room : slots_each * i + slots_each ≤ length slots
  pub ends : T (active_of slots i) → Ends (block_of slots i)
