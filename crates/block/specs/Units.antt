-- Numbers of the physics (document 01, "Units and ranges"), each by name, and the greatest numbers that the rules give.
use Rattle.std.specs.Prelude.{ℕ}

-- "A tick is 1/4,096 m."
abbrev pub ticks : ℕ
ticks = 4096
