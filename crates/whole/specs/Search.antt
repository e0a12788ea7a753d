-- Tests of the numbers below n, in which whole slices and grids are judged.
use Rattle.std.specs.Prelude.{Bool, ◌&&◌, cond, true, suc, zero, ℕ, eqb, pos, ℤ, Option, Some, None}
use Rattle.whole.specs.Whole.{max_ℤ}

-- all of them pass
unfoldable pub every : ℕ → (ℕ → Bool) → Bool
every zero test = true
every (suc n) test = every n test && test n

-- the first of them that passes, counted from 1; 0 where none does
unfoldable pub first_of : ℕ → (ℕ → Bool) → ℕ
first_of zero test = 0
first_of (suc n) test = cond (eqb (first_of n test) 0) (cond (test n) (suc n) 0) (first_of n test)

-- the greatest of the first n of some numbers, and of 0
unfoldable pub most_of : ℕ → (ℕ → ℤ) → ℤ
most_of zero f = pos 0
most_of (suc n) f = max_ℤ (most_of n f) (f n)

-- a number that is counted from 1, and none in place of 0
abbrev pub found_of : ℕ → Option ℕ
found_of zero = None
found_of (suc i) = Some (suc i)
