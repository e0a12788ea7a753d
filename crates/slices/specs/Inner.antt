-- What slices are refused with on the way to a whole check, and what inner functions require of a case: what it is not refused for. No answer is said with
-- these: nothing here has to be believed.
use Rattle.std.specs.Prelude.{◌≡◌, Bool, ◌&&◌, not, ◌++◌, ◌*◌, ◌<◌, ◌≤◌, ℕ, T, leb, pos, get_or, length}
use Rattle.whole.specs.Inner.{In}
use Rattle.grid.specs.declared.Grid.{Grid}
use Rattle.grid.specs.Inner.{Counted, Termed}
use Rattle.grid.specs.Place.{blocks_of, top_of}
use Rattle.grid.specs.Judging.{counts_hold}
use Rattle.slots.specs.Units.{slots_each}
use Rattle.slots.specs.Slots.{block_of, is_active, part_of}
use Rattle.slots.specs.Inner.{Active}
use Rattle.slices.specs.Refusals.{Refusal}
use Rattle.slices.specs.Slices.{Case, contents_of, first_refusal, lent_of, most_width, shape_of}

-- "Slices are judged 3, 7, 4, 5, 6": the first of these that refuses the case
abbrev pub judged_of : Case → Refusal
judged_of c = first_refusal (shape_of c ++ contents_of c)

-- "Slices are judged 3, 7, 4, 5, 6", with all that is lent in 7's place
abbrev pub judged_lent : Case → Bool → Refusal
judged_lent c reaches = first_refusal (lent_of c reaches ++ contents_of c)

-- whether a slice of so many numbers reaches over a grid, with so many to a block; the counts are to be in range, or 3 comes first
abbrev pub reaches_over : Grid → ℕ → ℕ → Bool
reaches_over g each room = counts_hold g && leb (each * blocks_of g) room

-- 7: the lent slices are long enough
pub record Roomy (c : Case) : Type 0 where
  pub columns : c.grid.columns ≤ length c.columns
  pub rows : c.grid.rows ≤ length c.rows
  pub slots : slots_each * blocks_of c.grid ≤ length c.slots

-- 3, 7, 4, 5 and 6: counts, room, terms, widths in metres, and the slots of active and of inactive blocks
pub record Judged (c : Case) : Type 0 where
  pub counted : Counted c.grid
  pub roomy : Roomy c
  pub termed : Termed c.grid
  pub column : (k : ℕ) → k < c.grid.columns → In (pos 1) (pos most_width) (get_or c.columns k (pos 0))
  pub row : (k : ℕ) → k < c.grid.rows → In (pos 1) (pos most_width) (get_or c.rows k (pos 0))
  pub active : (i : ℕ) → i < blocks_of c.grid → T (is_active (block_of c.slots i)) → Active (block_of c.slots i) (top_of c.grid i)
  pub inactive : (i : ℕ) → i < blocks_of c.grid → T (not (is_active (block_of c.slots i))) → (slot : ℕ) → slot < slots_each → get_or (part_of c.slots i) slot (pos 0) ≡ pos 0
