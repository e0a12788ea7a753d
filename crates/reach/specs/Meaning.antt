-- What the theorems about the reach of a head speak of.
use Rattle.std.specs.Prelude.{◌≢◌, ◌≡◌, ◌*◌, ◌+◌, ◌<◌, ℕ, pos, ℤ, get_or, set}
use Rattle.grid.specs.Place.{blocks_of}
use Rattle.slots.specs.Slots.{part_of}
use Rattle.slots.specs.Units.{slots_each}
use Rattle.slices.specs.Slices.{Case, case_of}
use Rattle.block.specs.declared.Fluids.{Fluids}
use Rattle.wellformed.specs.Widths.{width_at}

-- a slot of a block of a case, both counted from 0
abbrev pub slot_in : Case → ℕ → ℕ → ℤ
slot_in c i slot = get_or (part_of c.slots i) slot (pos 0)

-- two cases alike in everything but one block: one record, the same widths of its columns and rows, and every slot of every other block
pub record AlikeBut (k : ℕ) (c e : Case) : Type 0 where
  pub grid : c.grid ≡ e.grid
  pub columns : (n : ℕ) → n < c.grid.columns → width_at c.columns n ≡ width_at e.columns n
  pub rows : (n : ℕ) → n < c.grid.rows → width_at c.rows n ≡ width_at e.rows n
  pub others : (i : ℕ) → i < blocks_of c.grid → i ≢ k → (slot : ℕ) → slot < slots_each → slot_in c i slot ≡ slot_in e i slot

-- "old fresh, old salt, new fresh, new salt": the heads are the last four of the sixteen
abbrev pub first_head : ℕ
first_head = 12

-- "two cases alike in everything but one block's old and new heads"
pub record HeadsAlone (k : ℕ) (c e : Case) : Type 0 where
  pub elsewhere : AlikeBut k c e
  pub rest : (slot : ℕ) → slot < first_head → slot_in c k slot ≡ slot_in e k slot

-- a case with other old and new heads in one block, in ticks
unfoldable pub tuned_of : Case → ℕ → Fluids → Fluids → Case
tuned_of c k old new =
    let heads : ℕ = slots_each * k + first_head in
    case_of c.grid c.columns c.rows (set (set (set (set c.slots heads old.fresh) (heads + 1) old.salt) (heads + 2) new.fresh) (heads + 3) new.salt)
