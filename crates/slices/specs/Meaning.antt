-- What the theorems about refusals speak of.
use Rattle.std.specs.Prelude.{◌≡◌, Bool, false, ◌+◌, ◌-◌, ◌<◌, ◌≤◌, ℕ, T}

-- "Refusals 6, 9, 10, 13 and 14 name the first block at fault": of so many blocks the one named, counted from 1, is at fault, and none before it is.
-- What is at fault is asked by block, counted from 0.
pub record NamesFirst (blocks : ℕ) (fault : ℕ → Bool) (named : ℕ) : Type 0 where
  pub some : 1 ≤ named
  pub inside : named ≤ blocks
  pub at_fault : T (fault (named - 1))
  pub none_before : (i : ℕ) → i + 1 < named → fault i ≡ false
