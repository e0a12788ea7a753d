-- What inner functions require of a grid and its record, and the way back from a neighbour. No answer is said with these: nothing here has to be believed.
use Rattle.std.specs.Prelude.{◌*◌, ◌+◌, ◌-◌, ◌<◌, ◌≤◌, suc, zero, ℕ, T, ◌*ℤ◌, ◌+ℤ◌, ◌-ℤ◌, pos, ◌≤ℤ◌}
use Rattle.grid.specs.declared.Grid.{Grid}
use Rattle.grid.specs.declared.place.Place.{Place}
use Rattle.whole.specs.Inner.{In}
use Rattle.grid.specs.declared.weights.Weights.{Weights}
use Rattle.grid.specs.Judging.{density_holds}
use Rattle.grid.specs.Units.{most_across, most_blocks, most_fresh_weight, most_layers, most_salt_weight, most_step, most_tolerance}
use Rattle.grid.specs.Place.{blocks_of}
use Rattle.grid.specs.Weights.{weights_of}

-- "columns, rows; layers | 1..=64 each; 1..=8; blocks at most 512"
pub record Counted (g : Grid) : Type 0 where
  pub columns_some : 1 ≤ g.columns
  pub columns_most : g.columns ≤ most_across
  pub rows_some : 1 ≤ g.rows
  pub rows_most : g.rows ≤ most_across
  pub layers_some : 1 ≤ g.layers
  pub layers_most : g.layers ≤ most_layers
  pub blocks_most : blocks_of g ≤ most_blocks

-- the block at a place: `place_of` the other way round
unfoldable pub block_at : Grid → Place → ℕ
block_at g p = (p.layer * g.rows + p.row) * g.columns + p.column

-- a place of the grid
pub record Inside (g : Grid) (p : Place) : Type 0 where
  pub column : p.column < g.columns
  pub row : p.row < g.rows
  pub layer : p.layer < g.layers

-- the place one step back along the axis
abbrev pub earlier_of : Place → ℕ → Place
earlier_of p zero = record { column = p.column - 1; row = p.row; layer = p.layer }
earlier_of p (suc zero) = record { column = p.column; row = p.row - 1; layer = p.layer }
earlier_of p (suc (suc d)) = record { column = p.column; row = p.row; layer = p.layer - 1 }

-- a pair of weights, as a whole δ gives it or two weights in range: salt water is the heavier, at most twice as heavy, and the two are far enough apart that
-- their sum is at most 405 times their difference, as for 1,010 and 1,015
pub record Weighed (w : Weights) : Type 0 where
  pub fresh : In (pos 1) (pos most_fresh_weight) w.fresh
  pub salt : In (pos 2) (pos most_salt_weight) w.salt
  pub apart : pos 1 ≤ℤ (w.salt -ℤ w.fresh)
  pub twice : w.salt ≤ℤ (pos 2 *ℤ w.fresh)
  pub spread : (w.salt +ℤ w.fresh) ≤ℤ (pos 405 *ℤ (w.salt -ℤ w.fresh))

-- what later parts require of the terms, as 4 does not refuse them: δ or weights, flag, step in days, tolerance in litres a day
pub record Termed (g : Grid) : Type 0 where
  pub density : T (density_holds g)
  pub weighed : Weighed (weights_of g)
  pub flag : g.flag ≤ 1
  pub step : In (pos 1) (pos most_step) g.step
  pub tolerance : In (pos 0) (pos most_tolerance) g.tolerance
