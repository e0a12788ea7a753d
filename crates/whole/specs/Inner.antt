-- What inner functions require of numbers. No answer is said with it: nothing here has to be believed.
use Rattle.std.specs.Prelude.{ℕ, neg_ℤ, pos, ℤ, ◌≤ℤ◌}

-- lo ≤ z ≤ hi
pub record In (lo hi z : ℤ) : Type 0 where
  pub low : lo ≤ℤ z
  pub high : z ≤ℤ hi

-- at most m from 0
abbrev pub Abs : ℕ → ℤ → Type 0
Abs m z = In (neg_ℤ (pos m)) (pos m) z

-- how large a number that is rounded, and its divisor, may be without sign, so that half the divisor can be added to the number: 2⁶²
abbrev pub most_rounded : ℕ
most_rounded = 4611686018427387904
