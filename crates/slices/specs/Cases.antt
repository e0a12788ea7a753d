-- A case as the functions take it, and what it holds.
use Rattle.slices.specs.declared.Case.{Case as Lent}
use Rattle.slices.specs.Slices.{Case, case_of}

abbrev pub case_in : Lent → Case
case_in c = case_of c.grid c.columns.now c.rows.now c.slots.now
