-- The verdict (document 01, "Balance, verdict, table"). The balances of all blocks are a function β.
use Rattle.std.specs.Prelude.{cond, Err, List, Ok, Result, ◌%◌, ◌+◌, ◌/◌, suc, zero, ℕ, ltb, pos, ℤ}
use Rattle.whole.specs.Search.{first_of, most_of}
use Rattle.whole.specs.Sum.{count}
use Rattle.grid.specs.declared.Grid.{Grid}
use Rattle.slices.specs.declared.refusal.Refusal.{Refusal as Refused}
use Rattle.slices.specs.Refusals.{Refusal, block_of, number_of}
use Rattle.slices.specs.Slices.{Case, none, refusal, unless_refused}
use Rattle.block.specs.declared.Fluids.{Fluids}
use Rattle.wellformed.specs.Limits.{checked_of}
use Rattle.balance.specs.Balance.{balances_of}
use Rattle.verdict.specs.declared.Verdict.{Verdict}
use Rattle.verdict.specs.Places.{counted_by, free_size_of, places_of}

-- "the first place in block order, fresh before salt in one block", counted from 1; 0 where a code counts none
unfoldable pub first_place : Grid → List ℤ → (ℕ → Fluids) → ℕ → ℕ
first_place g slots β code = first_of (places_of g) (counted_by g slots β code)

-- "how many places fail (23 and 24 together; for 21 each moved head; for 22 each dry well)"
unfoldable pub count_of : Grid → List ℤ → (ℕ → Fluids) → ℕ → ℕ
count_of g slots β code = count (places_of g) (counted_by g slots β code)

-- "the largest balance without sign among free places (0 for 21, 22, or with no free place)"
unfoldable pub largest_of : Grid → List ℤ → (ℕ → Fluids) → ℤ
largest_of g slots β = most_of (places_of g) (free_size_of slots β)

-- the number of the block of a place, both counted from 1; 0 for none
abbrev pub block_number : ℕ → ℕ
block_number place = (place + 1) / 2

-- "(23 fresh, 24 salt); else 0, accepted", by the first failing place
abbrev pub code_of : ℕ → ℕ
code_of zero = 0
code_of (suc p) = 23 + p % 2

-- "A verdict has the code, the first block concerned (0 if accepted), how many places fail .., and the largest balance without sign": of the places that 21, 22
-- or 23 counts
abbrev pub verdict_with : Grid → List ℤ → (ℕ → Fluids) → ℕ → ℕ → ℤ → Verdict
verdict_with g slots β counting code largest = record { code = code; block = block_number (first_place g slots β counting); count = count_of g slots β counting; largest = largest }

-- the verdict 21 or 22
unfoldable pub concerning : Grid → List ℤ → (ℕ → Fluids) → ℕ → Verdict
concerning g slots β code = verdict_with g slots β code code (pos 0)

-- the verdict where no head moved and no well is dry: "23 or 24 by the first place ..; else 0, accepted"
unfoldable pub by_balance : Grid → List ℤ → (ℕ → Fluids) → Verdict
by_balance g slots β = verdict_with g slots β 23 (code_of (first_place g slots β 23)) (largest_of g slots β)

-- "21 if any fixed head moved from old to new; if not, 22 if any well is dry; if not, 23 or 24 by the first place ..; else 0, accepted"
unfoldable pub verdict_by : Grid → List ℤ → (ℕ → Fluids) → Verdict
verdict_by g slots β =
    cond (ltb 0 (first_place g slots β 21)) (concerning g slots β 21)
    (cond (ltb 0 (first_place g slots β 22)) (concerning g slots β 22) (by_balance g slots β))

-- the verdict on a case
unfoldable pub verdict_of : Case → Verdict
verdict_of c = verdict_by c.grid c.slots (balances_of c)

-- ---- of slices

-- what stands beside a refusal: code 20, not judged, which is no code of document 01; by 0 a caller who looks at the code alone would read "accepted"
abbrev pub no_verdict : Verdict
no_verdict = record { code = 20; block = 0; count = 0; largest = pos 0 }

-- a refusal, or a verdict beside number 0
pub record Answer : Type 0 where
  pub refusal : Refusal
  pub verdict : Verdict

-- what the function's result says of both
abbrev pub answer_in : Result Verdict Refused → Answer
answer_in (Ok v) = record { refusal = none; verdict = v }
answer_in (Err e) = record { refusal = refusal (number_of e) (block_of e); verdict = no_verdict }

-- a refusal, or the verdict beside none
abbrev pub answered : Refusal → Verdict → Answer
answered r v = record { refusal = r; verdict = unless_refused r v no_verdict }

-- "Slices are judged 3, 7, 4, 5, 6, 9, 10", and then by the verdict
unfoldable pub verdict_answer : Case → Answer
verdict_answer c = answered (checked_of c) (verdict_of c)
