-- Sums over the numbers below n, in which every balance and every line of a table is written.
use Rattle.std.specs.Prelude.{ℕ, zero, suc, ◌+◌, ◌-◌, Bool, true, false, cond, leb, ℤ, pos, ◌+ℤ◌}

-- x where the test holds, otherwise nothing
abbrev pub only : Bool → ℤ → ℤ
only true x = x
only false x = pos 0

-- g 0 + .. + g (n - 1)
unfoldable pub sum : ℕ → (ℕ → ℤ) → ℤ
sum zero g = pos 0
sum (suc n) g = sum n g +ℤ g n

-- the term that stands s places before j, or nothing
unfoldable pub back : ℕ → (ℕ → ℤ) → ℕ → ℤ
back s g j = only (leb s j) (g (j - s))

-- how many of the numbers below n pass the test
unfoldable pub count : ℕ → (ℕ → Bool) → ℕ
count zero test = 0
count (suc n) test = count n test + cond (test n) 1 0
