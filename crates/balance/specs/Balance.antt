-- Balances (document 01, "Balance, verdict, table"), in litres a day.
use Rattle.std.specs.Prelude.{false, true, ℕ, ◌+ℤ◌, ◌-ℤ◌, ℤ}
use Rattle.whole.specs.Sum.{back, only, sum}
use Rattle.grid.specs.declared.Grid.{Grid}
use Rattle.grid.specs.Place.{stride_of}
use Rattle.slices.specs.Slices.{Case}
use Rattle.block.specs.declared.Fluids.{Fluids}
use Rattle.block.specs.Fluids.{fluids_of, fresh, salt}
use Rattle.wellformed.specs.Links.{active_of}
use Rattle.books.specs.Bookkeeping.{Books, books_of, brought_of}

-- what a block gains along an axis: by the link that leads on from it, and by the one that ends in it, which is that of the block one stride before. At the end
-- of a row, a column or the grid there is no such link, and the books have no flow for it (`live_of`): the block one stride before the first of a row ends another
unfoldable pub through_of : Grid → Books → ℕ → ℕ → ℤ
through_of g F d i = brought_of F true d i +ℤ back (stride_of g d) (brought_of F false d) i

-- "all inflow less outflow"
unfoldable pub flows_of : Grid → Books → ℕ → ℤ
flows_of g F i = sum 3 (λ d. through_of g F d i)

-- "Balance of a block in a fluid = all inflow less outflow, plus recharge, plus boundary, less wells, less storage rate."
unfoldable pub balance_in : Grid → Books → ℕ → ℤ
balance_in g F i = flows_of g F i +ℤ (F.own i).recharge +ℤ (F.own i).boundary -ℤ (F.own i).pumped -ℤ (F.own i).storage

-- the balance of a block of a case, in one fluid; an inactive block has none
unfoldable pub balance_of : Case → ℕ → ℕ → ℤ
balance_of c fluid i = only (active_of c.slots i) (balance_in c.grid (books_of c fluid) i)

-- its balances in both fluids
abbrev pub balances_of : Case → ℕ → Fluids
balances_of c i = fluids_of (balance_of c fresh i) (balance_of c salt i)
