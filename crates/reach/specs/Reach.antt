-- How far a head reaches (document 02, W-207): "that block, the blocks one or two away in its row or its column within its layer, and the ones directly above
-- and below".
use Rattle.std.specs.Prelude.{Bool, ◌&&◌, ◌||◌, ◌+◌, ℕ, eqb, leb}
use Rattle.grid.specs.declared.Grid.{Grid}
use Rattle.grid.specs.declared.place.Place.{Place}
use Rattle.grid.specs.Place.{place_of}

-- "one or two away": "The two-away blocks count because of extrapolated tips."
abbrev pub most_away : ℕ
most_away = 2

-- "directly above and below"
abbrev pub most_above : ℕ
most_above = 1

-- two columns, rows or layers are the same or at most so many apart
unfoldable pub near : ℕ → ℕ → ℕ → Bool
near most a b = leb a (b + most) && leb b (a + most)

-- the place itself and those "one or two away in its row .. within its layer"
unfoldable pub in_row : Place → Place → Bool
in_row p q = eqb p.layer q.layer && (eqb p.row q.row && near most_away p.column q.column)

-- the place itself and those "one or two away in .. its column within its layer"
unfoldable pub in_column : Place → Place → Bool
in_column p q = eqb p.layer q.layer && (eqb p.column q.column && near most_away p.row q.row)

-- the place itself and "the ones directly above and below"
unfoldable pub over_or_under : Place → Place → Bool
over_or_under p q = eqb p.row q.row && (eqb p.column q.column && near most_above p.layer q.layer)

-- block j is one of those that the heads of block k reach: "that block, the blocks one or two away in its row or its column within its layer, and the ones
-- directly above and below"
unfoldable pub reach_of : Grid → ℕ → ℕ → Bool
reach_of g k j = in_row (place_of g k) (place_of g j) || (in_column (place_of g k) (place_of g j) || over_or_under (place_of g k) (place_of g j))
