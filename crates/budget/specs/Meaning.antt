-- What the theorems about tables speak of: the lines of an answer, and of which zone it tells.
use Rattle.std.specs.Prelude.{Bool, false, ◌≡◌, ◌*◌, ◌+◌, ◌<◌, ℕ, T, pos, ℤ, get_or}
use Rattle.grid.specs.Place.{blocks_of}
use Rattle.slices.specs.Slices.{Case}
use Rattle.slices.specs.Meaning.{NamesFirst}
use Rattle.wellformed.specs.Meaning.{SlicesRefused}
use Rattle.wellformed.specs.Inner.{WellFormed}
use Rattle.books.specs.Waters.{Wet, dry_at}
use Rattle.zone.specs.declared.lines.Lines.{Lines}
use Rattle.zone.specs.Table.{lines_of}
use Rattle.budget.specs.Answers.{Answer}

-- the nine lines of a fluid, read from the eighteen of an answer
unfoldable pub read_of : Answer → ℕ → Lines
read_of a fluid =
    record {
      storage = at 0;
      edge_in = at 1;
      edge_out = at 2;
      converted = at 3;
      wells = at 4;
      recharge = at 5;
      boundary = at 6;
      supply = at 7;
      error = at 8;
    }
  where
    at : ℕ → ℤ
    at line = get_or a.lines (9 * fluid + line) (pos 0)

-- What a table is refused with, a row for each number and the block that it names: as the slices, and "then, for a table, 11 before 13". `reaches` and
-- `hold` tell whether the marks reach over the grid, and whether they are 0 or 1; both are true of a layer and of the whole, which have no marks and so no 11.
pub data TableRefused (c : Case) (reaches hold : Bool) : ℕ → ℕ → Type 0 where
  slices : {number block : ℕ} → SlicesRefused c reaches number block → TableRefused c reaches hold number block
  -- "a mark is neither 0 nor 1"
  eleven : WellFormed c → T reaches → hold ≡ false → TableRefused c reaches hold 11 0
  -- "a table is asked for with a dry well"
  thirteen : {block : ℕ} → WellFormed c → T reaches → T hold → NamesFirst (blocks_of c.grid) (dry_at c.grid c.slots) block → TableRefused c reaches hold 13 block

-- an answer gives the table of a zone: the case is well formed, no well is dry, and the lines of each fluid are those of the zone
pub record Tells (c : Case) (z : ℕ → Bool) (a : Answer) : Type 0 where
  pub formed : WellFormed c
  pub wet : Wet c.grid c.slots
  pub lines : (fluid : ℕ) → fluid < 2 → read_of a fluid ≡ lines_of c z fluid
