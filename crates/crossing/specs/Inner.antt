-- What inner functions require, and say of the case that they are handed. No answer is said with these: nothing here has to be believed.
use Rattle.std.specs.Prelude.{◌≤◌}
use Rattle.grid.specs.Units.{most_blocks}
use Rattle.slices.specs.declared.Case.{Case as Lent}
use Rattle.verdict.specs.declared.Verdict.{Verdict}
use Rattle.crossing.specs.declared.handed.HandedCase.{HandedCase}
use Rattle.crossing.specs.Crossing.{grid_of}

-- code, block and count of a verdict on a grid, which are small enough to cross
pub record Small (v : Verdict) : Type 0 where
  pub code : v.code ≤ 24
  pub block : v.block ≤ most_blocks
  pub count : v.count ≤ 1024

-- the case of a record and slices
abbrev pub lent_of : HandedCase → Lent
lent_of h = record { grid = grid_of h.record.now; columns = h.columns; rows = h.rows; slots = h.slots }
