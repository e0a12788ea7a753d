-- What the theorems about the three answers of a number speak of.
use Rattle.std.specs.Prelude.{List, ◌+◌, ◌<◌, ◌≤◌, ℕ, get_or, length}

-- What the theorems about a number's three answers speak of: k bytes from a place on are there, and each has its high bit set, "on all but the last byte".
abbrev pub Continues : List ℕ → ℕ → ℕ → Type 0
Continues file at k = (i : ℕ) → i < k → (at + i < length file) × (128 ≤ get_or file (at + i) 0)
