-- Units and ranges (document 01): the limits of a block's slots, each by name. src/units.rt has the same names and numbers.
use Rattle.std.specs.Prelude.{ℕ}

-- "A block has 16 slots"
abbrev pub slots_each : ℕ
slots_each = 16

-- "K, mm/day | 0..=1,000,000; 0 is inactive"
abbrev pub most_k : ℕ
most_k = 1000000

-- "base; heads; river stage | ±4,194,304", in ticks
abbrev pub most_level : ℕ
most_level = 4194304

-- "thickness | 1..=4,194,304", in ticks
abbrev pub most_thickness : ℕ
most_thickness = 4194304

-- "porosity, per mille | 1..=1,000"
abbrev pub most_porosity : ℕ
most_porosity = 1000

-- "leakance to the block above, 10⁻⁶/day | 0..=1,000,000", "boundary leakance | 1..=1,000,000"
abbrev pub most_leakance : ℕ
most_leakance = 1000000

-- "recharge, µm/day | 0..=1,000,000"
abbrev pub most_recharge : ℕ
most_recharge = 1000000

-- "pumpage, litres/day, positive is taken out | ±1,073,741,824"
abbrev pub most_pumpage : ℕ
most_pumpage = 1073741824

-- "There screens run from -4,194,304 to 8,388,608", in ticks
abbrev pub most_screen : ℕ
most_screen = 8388608

-- "boundary kind | 0 none, 1 river, 2 sea, 3 fixed fresh, 4 fixed salt, 5 both fixed"
abbrev pub most_kind : ℕ
most_kind = 5
