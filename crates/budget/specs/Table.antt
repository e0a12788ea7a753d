-- A zone's table as lists of numbers (document 01, "Balance, verdict, table"), in litres a day.
use Rattle.std.specs.Prelude.{List, [], ◌∷◌, ℤ}
use Rattle.zone.specs.declared.lines.Lines.{Lines}

-- the nine lines of a fluid in their order: "storage, edge in, edge out, converted, wells, recharge, boundary, supply, error"
unfoldable pub row_of : Lines → List ℤ
row_of l = l.storage ∷ l.edge_in ∷ l.edge_out ∷ l.converted ∷ l.wells ∷ l.recharge ∷ l.boundary ∷ l.supply ∷ l.error ∷ []
