-- What the theorems about neighbours speak of.
use Rattle.std.specs.Prelude.{◌≡◌, ◌+◌, ◌<◌, ℕ}
use Rattle.grid.specs.declared.Grid.{Grid}
use Rattle.grid.specs.Place.{coordinate_of, place_of}

-- two blocks that touch, the second one further along the axis: "Neighbours in a row or column of one layer", "the one directly above"
pub record Beside (g : Grid) (d i j : ℕ) : Type 0 where
  pub further : coordinate_of (place_of g j) d ≡ coordinate_of (place_of g i) d + 1
  pub alike : (e : ℕ) → e < 3 → (e ≡ d → ⊥) → coordinate_of (place_of g j) e ≡ coordinate_of (place_of g i) e
