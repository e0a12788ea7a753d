-- Runs of numbers of a case file (document 01, "The case file").
use Rattle.std.specs.Prelude.{Bool, cond, List, [], ◌++◌, ◌∷◌, suc, zero, ℕ, leb, ℤ, length, Result, Ok, Err}
use Rattle.grid.specs.declared.Grid.{Grid}
use Rattle.grid.specs.Place.{top_of}
use Rattle.slots.specs.Rules.{slots_hold}
use Rattle.slots.specs.Units.{slots_each}
use Rattle.slices.specs.declared.refusal.Refusal.{Refusal as Fault}
use Rattle.slices.specs.Refusals.{Refusal}
use Rattle.slices.specs.Slices.{refusal, unless}
use Rattle.fields.specs.declared.Part.{Part}
use Rattle.fields.specs.declared.Part.TheVariants.{Slots}
use Rattle.fields.specs.Fields.{Got, Value, field_at, refusal_of}
use Rattle.fields.specs.Fields as got

-- How a run ended: the place after its last number, or a refusal.
pub data Run : Type 0 where
  Done : (next : ℕ) → Run
  Refused : (refusal : Refusal) → Run

-- the same as the functions answer with it
abbrev pub run_in : Result ℕ Fault → Run
run_in (Ok next) = Done next
run_in (Err e) = Refused (refusal_of e)

-- how a run ended, and the numbers that it read
pub record Filled : Type 0 where
  pub run : Run
  pub values : List ℤ

-- what follows a number: the rest of the run, or its end
abbrev pub onward : Got → List ℤ → (ℤ → ℕ → Filled) → Filled
onward (Value v next) done more = more v next
onward (got.Refused r) done more = record { run = Refused r; values = done }

-- `left` more numbers of a part, from a place, after those so far
unfoldable pub fill_from : Part → List ℕ → ℕ → ℕ → List ℤ → Filled
fill_from part file zero at done = record { run = Done at; values = done }
fill_from part file (suc left) at done = onward (field_at part file at done) done (λ v next. fill_from part file left next (done ++ (v ∷ [])))

-- the numbers of a part from where another run ended; none where that was refused
unfoldable pub fill_of : Run → Part → List ℕ → ℕ → Filled
fill_of (Done at) part file total = fill_from part file total at []
fill_of (Refused r) part file total = record { run = Refused r; values = [] }

-- "a block's remaining slot rules (screens, kind, layer) are judged after its last number, with 6"; the block is counted from 1
unfoldable pub ruled : Run → ℕ → Bool → Run
ruled (Refused r) block holds = Refused r
ruled (Done at) block holds = cond holds (Done at) (Refused (refusal 6 block))

-- "then per block K alone if 0, otherwise its slots in order": the slots of a block, in the top layer or below it, number by number, each within its
-- ends, and then all that they must hold
unfoldable pub block_from : Run → List ℕ → ℕ → Bool → Filled
block_from from file block top = let f = fill_of from (Slots block) file slots_each in record { run = ruled f.run block (slots_hold f.values top); values = f.values }

-- "then per block": the slots of the first n blocks of a grid, in block order
unfoldable pub blocks_from : Run → Grid → List ℕ → ℕ → Filled
blocks_from from g file zero = record { run = from; values = [] }
blocks_from from g file (suc n) =
    let before = blocks_from from g file n in
    let block = block_from before.run file (suc n) (top_of g n) in
    record { run = block.run; values = before.values ++ block.values }

-- 8: "bytes follow the last block"
unfoldable pub ending_of : Run → List ℕ → Refusal
ending_of (Refused r) file = r
ending_of (Done at) file = unless 8 (leb (length file) at)
