-- A block's sixteen slots (document 01, "Units and ranges").
use Rattle.std.specs.Prelude.{Bool, List, ℕ, ◌*◌, ℤ, pos, get_or, drop}
use Rattle.std.specs.Int.Signed.{lt_z}
use Rattle.slots.specs.declared.Block.{Block}
use Rattle.slots.specs.Units.{slots_each}

-- "A block has 16 slots: K, base, thickness, porosity, leakance, recharge, pumpage, screen bottom, screen top, kind, stage or floor, boundary
-- leakance, old fresh, old salt, new fresh, new salt."
unfoldable pub slots_at : List ℤ → Block
slots_at s =
    record {
      k = get_or s 0 (pos 0);
      base = get_or s 1 (pos 0);
      thickness = get_or s 2 (pos 0);
      porosity = get_or s 3 (pos 0);
      leakance = get_or s 4 (pos 0);
      recharge = get_or s 5 (pos 0);
      pumpage = get_or s 6 (pos 0);
      screen_bottom = get_or s 7 (pos 0);
      screen_top = get_or s 8 (pos 0);
      kind = get_or s 9 (pos 0);
      level = get_or s 10 (pos 0);
      boundary_leakance = get_or s 11 (pos 0);
      old_fresh = get_or s 12 (pos 0);
      old_salt = get_or s 13 (pos 0);
      new_fresh = get_or s 14 (pos 0);
      new_salt = get_or s 15 (pos 0);
    }

-- the part of the slots that starts at a block, and the block
abbrev pub part_of : List ℤ → ℕ → List ℤ
part_of slots i = drop (slots_each * i) slots

abbrev pub block_of : List ℤ → ℕ → Block
block_of slots i = slots_at (part_of slots i)

-- "K, mm/day | .. 0 is inactive"
abbrev pub is_active : Block → Bool
is_active b = lt_z (pos 0) b.k
