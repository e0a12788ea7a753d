-- A refusal by its number and block (document 01, "Refusal numbers"), of what the functions answer with.
use Rattle.std.specs.Prelude.{ℕ, Result, Ok, Err}
use Rattle.slices.specs.declared.refusal.Refusal.{Refusal as Refused}
use Rattle.slices.specs.declared.refusal.Refusal.TheVariants.{Ended, TooLong, Counts, Terms, Widths, Slots, Short, Excess, Overlap, Conductance, Marks, Double, DryWell, NoBlock}

-- a refusal by its number in document 01 and the block that it names, counted from 1; 0 where it names none. Number 0 is no refusal.
pub record Refusal : Type 0 where
  pub number : ℕ
  pub block : ℕ

abbrev pub number_of : Refused → ℕ
number_of Ended = 1
number_of TooLong = 2
number_of Counts = 3
number_of Terms = 4
number_of Widths = 5
number_of (Slots block) = 6
number_of Short = 7
number_of Excess = 8
number_of (Overlap block) = 9
number_of (Conductance block) = 10
number_of Marks = 11
number_of Double = 12
number_of (DryWell block) = 13
number_of (NoBlock number) = 14

-- "Refusals 6, 9, 10, 13 and 14 name the first block at fault"; "Others name 0."
abbrev pub block_of : Refused → ℕ
block_of Ended = 0
block_of TooLong = 0
block_of Counts = 0
block_of Terms = 0
block_of Widths = 0
block_of (Slots block) = block
block_of Short = 0
block_of Excess = 0
block_of (Overlap block) = block
block_of (Conductance block) = block
block_of Marks = 0
block_of Double = 0
block_of (DryWell block) = block
block_of (NoBlock number) = number

-- the number and the block of what is answered: of a refusal its own, and 0 and 0 beside any other answer
abbrev pub refusal_in : {A : Type 0} → Result A Refused → Refusal
refusal_in (Ok a) = record { number = 0; block = 0 }
refusal_in (Err e) = record { number = number_of e; block = block_of e }
