-- The record of a case (document 01, "The case file"): "Order: columns, rows, layers, δ, flag, step, tolerance". Document 02, W-209: "The case record gains the
-- two numbers, zero when δ is whole."; "A δ of 0 in the case now means that two more numbers follow", so they stand after δ, fresh before salt.
use Rattle.std.specs.Prelude.{◌+◌, ℕ, pos, ℤ}
use Rattle.grid.specs.declared.Grid.{Grid}

-- how many of its numbers are counts, "columns, rows, layers", how many say what the waters weigh, δ with the two weights, and how many are terms, "flag,
-- step, tolerance"
abbrev pub counts : ℕ
counts = 3

abbrev pub density : ℕ
density = 3

abbrev pub terms : ℕ
terms = 3

-- and how many it has
abbrev pub record_numbers : ℕ
record_numbers = counts + density + terms

-- the record of these numbers, in their order
abbrev pub record_of : ℕ → ℕ → ℕ → ℤ → ℤ → ℤ → ℕ → ℤ → ℤ → Grid
record_of columns rows layers δ fresh salt flag step tolerance =
    record { columns = columns; rows = rows; layers = layers; delta = δ; fresh_weight = fresh; salt_weight = salt; flag = flag; step = step; tolerance = tolerance }

-- the record of a case whose δ, weights and terms are yet to come: they are all 0
abbrev pub only_counts : ℕ → ℕ → ℕ → Grid
only_counts columns rows layers = record_of columns rows layers (pos 0) (pos 0) (pos 0) 0 (pos 0) (pos 0)

-- the record beside a refusal
abbrev pub no_grid : Grid
no_grid = only_counts 0 0 0
