-- How large a balance gets, and what inner functions require of a row of them. No answer is said with these: nothing here has to be believed.
use Rattle.std.specs.Prelude.{List, ◌*◌, ◌<◌, ◌≤◌, ℕ, neg_ℤ, pos, ℤ, length}
use Rattle.block.specs.Inner.{EachIn}
use Rattle.books.specs.Inner.{pair_of}

-- the greatest balance without sign, litres a day: seven flows, recharge, pumpage and storage rate,
-- 7 · 1,374,389,534,720 + 16,777,216,000 + 1,073,741,824 + 17,179,869,184,000
abbrev pub most_balance : ℕ
most_balance = 26818446884864

-- what later parts require of a row of balances
pub record Bounded (n : ℕ) (row : List ℤ) : Type 0 where
  pub room : 2 * n ≤ length row
  pub each : (i : ℕ) → i < n → EachIn (neg_ℤ (pos most_balance)) (pos most_balance) (pair_of row i)
