-- What the theorems about reports speak of.
use Rattle.std.specs.Prelude.{true, ◌-◌, ◌≤◌, ℕ, T}
use Rattle.grid.specs.Place.{blocks_of}
use Rattle.slots.specs.Slots.{block_of, is_active}
use Rattle.slices.specs.Slices.{Case}
use Rattle.wellformed.specs.Meaning.{SlicesRefused}
use Rattle.wellformed.specs.Inner.{WellFormed}

-- the same, as the theorems say it
abbrev pub Named : Case → ℕ → Type 0
Named c number = (1 ≤ number) × ((number ≤ blocks_of c.grid) × T (is_active (block_of c.slots (number - 1))))

-- What a report is refused with, a row for each number and the block that it names: as the slices, and then, "for a report 14", "the number asked for"
pub data ReportRefused (c : Case) (asked : ℕ) : ℕ → ℕ → Type 0 where
  slices : {number block : ℕ} → SlicesRefused c true number block → ReportRefused c asked number block
  -- "a report names no active block"
  fourteen : WellFormed c → (Named c asked → ⊥) → ReportRefused c asked 14 asked
