-- Where a block lies, and its links (document 01, "Units and ranges"). A block is its number less 1.
use Rattle.std.specs.Prelude.{Bool, false, true, ◌%◌, ◌*◌, ◌+◌, ◌-◌, ◌/◌, suc, zero, ℕ, eqb, ltb, Option, Some, None}
use Rattle.grid.specs.declared.Grid.{Grid}
use Rattle.grid.specs.declared.place.Place.{Place}

-- the block total of a grid
abbrev pub blocks_of : Grid → ℕ
blocks_of g = g.columns * g.rows * g.layers

-- "Layer 1 is the deepest. Blocks are numbered from 1, by layer, then row, then column."
unfoldable pub place_of : Grid → ℕ → Place
place_of g i = record { column = i % g.columns; row = i / g.columns % g.rows; layer = i / g.columns / g.rows }

-- the top layer, which document 01 speaks of in "0 in the top layer", is the one with number `layers`
unfoldable pub top_of : Grid → ℕ → Bool
top_of g i = eqb ((place_of g i).layer + 1) g.layers

-- ---- the three axes: 0 to the next column, 1 to the next row, 2 to the block above

-- the column, the row or the layer of a place, by the axis
abbrev pub coordinate_of : Place → ℕ → ℕ
coordinate_of p zero = p.column
coordinate_of p (suc zero) = p.row
coordinate_of p (suc (suc d)) = p.layer

-- how many columns, rows or layers there are, by the axis
abbrev pub extent_of : Grid → ℕ → ℕ
extent_of g zero = g.columns
extent_of g (suc zero) = g.rows
extent_of g (suc (suc d)) = g.layers

-- how far on in block order the next block along the axis stands
abbrev pub stride_of : Grid → ℕ → ℕ
stride_of g zero = 1
stride_of g (suc zero) = g.columns
stride_of g (suc (suc d)) = g.columns * g.rows

-- a block follows, or comes before, along the axis
unfoldable pub has_next : Grid → Place → ℕ → Bool
has_next g p d = ltb (coordinate_of p d + 1) (extent_of g d)

unfoldable pub has_previous : Place → ℕ → Bool
has_previous p d = ltb 0 (coordinate_of p d)

-- "Neighbours in a row or column of one layer"; "the one directly above": the link (d, i) joins block i, its low side, to block i + stride, its high
-- side, where that block is there
unfoldable pub next_of : Grid → ℕ → ℕ → Bool
next_of g d i = has_next g (place_of g i) d

-- a link ends in block i: that of i - stride
unfoldable pub previous_of : Grid → ℕ → ℕ → Bool
previous_of g d i = has_previous (place_of g i) d

-- the block, where the link is there
abbrev pub there : Bool → ℕ → Option ℕ
there true i = Some i
there false i = None

-- the block across the link that leads on from block i, or across the link that ends in it
unfoldable pub neighbour_of : Grid → ℕ → ℕ → Bool → Option ℕ
neighbour_of g d i true = there (next_of g d i) (i + stride_of g d)
neighbour_of g d i false = there (previous_of g d i) (i - stride_of g d)

-- "let p be the block on a's other side", for the low or the high side a of the link (d, i)
unfoldable pub behind_of : Grid → ℕ → ℕ → Bool → Option ℕ
behind_of g d i true = neighbour_of g d i false
behind_of g d i false = neighbour_of g d (i + stride_of g d) true
