-- Units and ranges (document 01): the limits of a case's record, each by name. src/units.rt has the same names and numbers.
use Rattle.std.specs.Prelude.{ℕ}

-- "columns, rows; layers | 1..=64 each; 1..=8; blocks at most 512"
abbrev pub most_across : ℕ
most_across = 64

abbrev pub most_layers : ℕ
most_layers = 8

abbrev pub most_blocks : ℕ
most_blocks = 512

-- "δ, whole | 1..=100"
abbrev pub most_delta : ℕ
most_delta = 100

-- document 02, W-209: "fresh weight 990..=1,010 and salt weight 1,011..=1,050, at least 5 apart", in grams a litre
abbrev pub least_fresh_weight : ℕ
least_fresh_weight = 990

abbrev pub most_fresh_weight : ℕ
most_fresh_weight = 1010

abbrev pub least_salt_weight : ℕ
least_salt_weight = 1011

abbrev pub most_salt_weight : ℕ
most_salt_weight = 1050

abbrev pub least_apart : ℕ
least_apart = 5

-- "time step, days | 1..=36,525"
abbrev pub most_step : ℕ
most_step = 36525

-- "tolerance, litres/day | 0..=1,000,000,000"
abbrev pub most_tolerance : ℕ
most_tolerance = 1000000000

-- the three axes along which a block is linked to the next one
abbrev pub next_column : ℕ
next_column = 0

abbrev pub next_row : ℕ
next_row = 1

abbrev pub above : ℕ
above = 2
