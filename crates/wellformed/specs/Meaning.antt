-- What the theorems about refusals of slices speak of: a row for each number.
use Rattle.std.specs.Prelude.{Bool, ◌&&◌, false, ◌≡◌, ◌<◌, ℕ, T}
use Rattle.grid.specs.Inner.{Counted, Termed}
use Rattle.grid.specs.Judging.{counts_hold, terms_hold}
use Rattle.grid.specs.Place.{blocks_of}
use Rattle.slices.specs.Slices.{Case, room_holds, slots_fail, widths_hold}
use Rattle.slices.specs.Inner.{Judged, Roomy}
use Rattle.slices.specs.Meaning.{NamesFirst}
use Rattle.wellformed.specs.Limits.{block_exceeds, overlaps}

-- What slices are refused with: a row for each number and the block that it names, in the order of judging, "3, 7, 4, 5, 6, 9, 10". What is judged
-- before it holds, and what it judges does not. "Refusals 6, 9, 10 .. name the first block at fault .. Others name 0." `reaches` tells whether what is
-- lent beside the case is long enough, and is true where nothing is.
pub data SlicesRefused (c : Case) (reaches : Bool) : ℕ → ℕ → Type 0 where
  -- "a count or the block total is out of range"
  three : counts_hold c.grid ≡ false → SlicesRefused c reaches 3 0
  -- "a lent slice is too short"
  seven : Counted c.grid → room_holds c && reaches ≡ false → SlicesRefused c reaches 7 0
  -- "δ, flag, step or tolerance is out of range"
  four : Counted c.grid → Roomy c → T reaches → terms_hold c.grid ≡ false → SlicesRefused c reaches 4 0
  -- "a width is out of range"
  five : Counted c.grid → Roomy c → T reaches → Termed c.grid → widths_hold c.grid c.columns c.rows ≡ false → SlicesRefused c reaches 5 0
  -- "a slot is out of range"
  six : {block : ℕ} → Counted c.grid → Roomy c → T reaches → Termed c.grid → T (widths_hold c.grid c.columns c.rows)
      → NamesFirst (blocks_of c.grid) (slots_fail c.grid c.slots) block → SlicesRefused c reaches 6 block
  -- "an active block's top lies above the base of the block directly above it, both active"; "9 the lower one", whose top it is
  nine : {block : ℕ} → Judged c → T reaches → NamesFirst (blocks_of c.grid) (overlaps c) block → SlicesRefused c reaches 9 block
  -- "a conductance of either fluid exceeds 268,435,456"
  ten : {block : ℕ} → Judged c → T reaches → ((i : ℕ) → i < blocks_of c.grid → overlaps c i ≡ false)
      → NamesFirst (blocks_of c.grid) (block_exceeds c) block → SlicesRefused c reaches 10 block
