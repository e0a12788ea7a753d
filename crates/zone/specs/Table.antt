-- A zone's table (document 01, "Balance, verdict, table"): "two rows, fresh and salt, of nine lines: storage, edge in, edge out, converted, wells,
-- recharge, boundary, supply, error", in litres a day.
use Rattle.std.specs.Prelude.{Bool, List, ℕ, neg_ℤ, ℤ}
use Rattle.whole.specs.Sum.{sum}
use Rattle.grid.specs.declared.Grid.{Grid}
use Rattle.grid.specs.Place.{blocks_of}
use Rattle.slices.specs.Slices.{Case}
use Rattle.books.specs.Bookkeeping.{Books, books_of}
use Rattle.balance.specs.Balance.{balance_in}
use Rattle.zone.specs.declared.lines.Lines.{Lines}
use Rattle.zone.specs.Exchange.{converted_at, edges_of}
use Rattle.zone.specs.Holdings.{own_in, settled_of}
use Rattle.zone.specs.Zones.{in_zone}

-- the nine lines of a fluid's row, over all blocks of a grid and by the fluid's books. A link counts at its low block, so each is counted once. "wells
-- (negative where pumped)"
unfoldable pub lines_by : Grid → List ℤ → Books → (ℕ → Bool) → Lines
lines_by g slots F z =
    record {
      storage = total (λ i. (own_in slots F z i).storage);
      edge_in = total (λ i. (edges_of g F z i).inflow);
      edge_out = total (λ i. (edges_of g F z i).outflow);
      converted = total (converted_at g F z);
      wells = total (λ i. neg_ℤ (own_in slots F z i).pumped);
      recharge = total (λ i. (own_in slots F z i).recharge);
      boundary = total (λ i. (own_in slots F z i).boundary);
      supply = total (λ i. (settled_of (in_zone slots z i) (F.fixed i) (balance_in g F i)).supply);
      error = total (λ i. (settled_of (in_zone slots z i) (F.fixed i) (balance_in g F i)).error);
    }
  where
    total : (ℕ → ℤ) → ℤ
    total line = sum (blocks_of g) line

-- the nine lines of a zone of a case, in one fluid
abbrev pub lines_of : Case → (ℕ → Bool) → ℕ → Lines
lines_of c z fluid = lines_by c.grid c.slots (books_of c fluid) z
