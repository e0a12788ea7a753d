-- What the theorems about W-201 and W-206 of document 02 speak of, in litres a day.
use Rattle.std.specs.Prelude.{Bool, ◌&&◌, not, ◌≡◌, ◌<◌, ◌≤◌, ℕ, eqb, ◌*ℤ◌, ◌-ℤ◌, nat_abs, pos, ℤ}
use Rattle.whole.specs.Sum.{only}
use Rattle.grid.specs.declared.Grid.{Grid}
use Rattle.slots.specs.declared.Block.{Block}
use Rattle.slots.specs.Rules.{is_open}
use Rattle.block.specs.declared.Fluids.{Fluids}
use Rattle.block.specs.Units.{ticks}
use Rattle.flow.specs.Boundary.{below_top, exchange_of}
use Rattle.flow.specs.Leakage.{uppermost_of}

-- what a block and its river or sea exchange, above 0 into the block and below 0 out of it, whichever fluid it counts in
abbrev pub exchanged_of : Grid → Block → Bool → ℤ → Fluids → ℤ
exchanged_of g b top area t = only (is_open b && not (below_top g b top)) (exchange_of g b area (uppermost_of t))

-- document 01 without W-201: "a river or sea exchanges the block's upper fluid (fresh if Bf > 0, else salt)"
abbrev pub as_uppermost : Grid → Block → Bool → ℤ → Fluids → ℕ → ℤ
as_uppermost g b top area t fluid = only (eqb (uppermost_of t) fluid) (exchanged_of g b top area t)

-- how far n lies from the flow C·difference/4,096 before it is rounded, in parts of 1/4,096 litre a day
abbrev pub away_from : ℤ → ℤ → ℤ → ℕ
away_from conductance difference n = nat_abs (n *ℤ pos ticks -ℤ conductance *ℤ difference)

-- "rounded to the nearest litre, halves away from zero": no whole number is nearer than n, and n is further from zero than any that is as near
pub record Nearest (conductance difference n : ℤ) : Type 0 where
  pub none_nearer : (m : ℤ) → away_from conductance difference n ≤ away_from conductance difference m
  pub further : (m : ℤ) → (m ≡ n → ⊥) → away_from conductance difference n ≡ away_from conductance difference m → nat_abs m < nat_abs n
