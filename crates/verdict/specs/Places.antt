-- Places (document 01, "Balance, verdict, table"). A place is a block and a fluid; in block order, "fresh before salt in one block", place p is
-- block p / 2 in fluid p % 2: places 0 and 1 are the fresh and the salt one of block 0, 2 and 3 those of block 1, and so on. The balances of all blocks are
-- a function β.
use Rattle.std.specs.Prelude.{Bool, ◌&&◌, cond, not, List, ◌%◌, ◌*◌, ◌/◌, ℕ, eqb, ◌-ℤ◌, nat_abs, pos, ℤ}
use Rattle.std.specs.Int.Signed.{lt_z}
use Rattle.whole.specs.Sum.{only}
use Rattle.whole.specs.Whole.{is_zero}
use Rattle.grid.specs.declared.Grid.{Grid}
use Rattle.grid.specs.Place.{blocks_of}
use Rattle.slots.specs.Slots.{block_of}
use Rattle.block.specs.declared.Fluids.{Fluids}
use Rattle.block.specs.Fluids.{fresh, in_fluid, new_heads, old_heads}
use Rattle.wellformed.specs.Links.{active_of}
use Rattle.books.specs.Waters.{dry_at}
use Rattle.books.specs.Own.{fixed_of}

-- two places to a block
abbrev pub places_of : Grid → ℕ
places_of g = 2 * blocks_of g

-- a number without its sign
abbrev pub size_of : ℤ → ℤ
size_of z = pos (nat_abs z)

-- "21 if any fixed head moved from old to new"
unfoldable pub moved_at : List ℤ → ℕ → ℕ → Bool
moved_at slots fluid i =
    active_of slots i
    && (fixed_of (block_of slots i) fluid && not (is_zero (in_fluid (new_heads (block_of slots i)) fluid -ℤ in_fluid (old_heads (block_of slots i)) fluid)))

-- "whose head is free": the head of an active block, unless its kind fixes it
unfoldable pub free_at : List ℤ → ℕ → ℕ → Bool
free_at slots fluid i = active_of slots i && not (fixed_of (block_of slots i) fluid)

-- "whose head is free and whose balance without sign exceeds the tolerance"
unfoldable pub fails_at : Grid → List ℤ → (ℕ → Fluids) → ℕ → ℕ → Bool
fails_at g slots β fluid i = free_at slots fluid i && lt_z g.tolerance (size_of (in_fluid (β i) fluid))

-- the places that a code counts: "for 21 each moved head; for 22 each dry well", at the first place of its block; by any other number those
-- that fail, "23 and 24 together"
unfoldable pub counted_at : Grid → List ℤ → (ℕ → Fluids) → ℕ → ℕ → ℕ → Bool
counted_at g slots β code fluid i =
    cond (eqb code 21) (moved_at slots fluid i)
    (cond (eqb code 22) (eqb fluid fresh && dry_at g slots i) (fails_at g slots β fluid i))

-- whether a place, by its number, counts for a code
abbrev pub counted_by : Grid → List ℤ → (ℕ → Fluids) → ℕ → ℕ → Bool
counted_by g slots β code p = counted_at g slots β code (p % 2) (p / 2)

-- the balance without sign at a free place, litres a day, otherwise 0: of these "the largest balance without sign among free places" is taken
unfoldable pub free_size_of : List ℤ → (ℕ → Fluids) → ℕ → ℤ
free_size_of slots β p = only (free_at slots (p % 2) (p / 2)) (size_of (in_fluid (β (p / 2)) (p % 2)))
