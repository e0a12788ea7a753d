-- Ranges with both ends within (document 01, "Units and ranges").
use Rattle.std.specs.Prelude.{Bool, ◌&&◌, List, ℕ, ℤ, pos, get_or}
use Rattle.std.specs.Int.Signed.{le_z}
use Rattle.whole.specs.declared.ranges.Range.{Range}
use Rattle.whole.specs.Search.{every}

-- the range from a to b
abbrev pub between : ℤ → ℤ → Range
between a b = record { lower = a; upper = b }

-- a number within its ends
unfoldable pub in_range : Range → ℤ → Bool
in_range r v = le_z r.lower v && le_z v r.upper

-- the first n of some numbers, all within one pair of ends
unfoldable pub all_within : Range → List ℤ → ℕ → Bool
all_within r values n = every n (λ k. in_range r (get_or values k (pos 0)))
