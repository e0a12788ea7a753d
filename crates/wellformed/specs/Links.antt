-- Which blocks are joined (document 01, "A lateral face" and "Leakage, river and sea"). The link (d, i) joins block i to the next one along
-- axis d: 0 to the next column, 1 to the next row, 2 to the block above.
use Rattle.std.specs.Prelude.{Bool, ◌&&◌, List, ◌+◌, ℕ, ℤ}
use Rattle.grid.specs.declared.Grid.{Grid}
use Rattle.grid.specs.Place.{next_of, stride_of}
use Rattle.slots.specs.Slots.{block_of, is_active}

-- "0 is inactive", of K
abbrev pub active_of : List ℤ → ℕ → Bool
active_of slots i = is_active (block_of slots i)

-- "Neighbours in a row or column of one layer, both active; otherwise no flow." "Leakage joins a block and the one directly above, both active."
unfoldable pub live_of : Grid → List ℤ → ℕ → ℕ → Bool
live_of g slots d i = next_of g d i && (active_of slots i && active_of slots (i + stride_of g d))
