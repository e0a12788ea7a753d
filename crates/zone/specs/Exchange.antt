-- What links give to a zone's lines (document 01, "Balance, verdict, table"), by the books of a fluid, in litres a day. The link (d, i) joins block
-- i, its low side, to block i + stride d, its high side.
use Rattle.std.specs.Prelude.{Bool, ◌&&◌, false, true, ◌+◌, ℕ, ◌+ℤ◌, neg_ℤ, pos, ℤ}
use Rattle.whole.specs.Sum.{only, sum}
use Rattle.whole.specs.Whole.{max_ℤ}
use Rattle.grid.specs.declared.Grid.{Grid}
use Rattle.grid.specs.Place.{stride_of}
use Rattle.grid.specs.Units.{above}
use Rattle.books.specs.Bookkeeping.{Books, brought_of}
use Rattle.zone.specs.declared.exchange.Crossing.{Crossing}
use Rattle.zone.specs.Zones.{differ}

-- ---- edge lines

-- "Edge lines count only lateral faces and leakage pairs with one side marked": what a link brings to that side, by whether its low side and its high side
-- are marked, and by what it brings to each
abbrev pub to_one_side : Bool → Bool → ℤ → ℤ → ℤ
to_one_side true false low high = low
to_one_side false true low high = high
to_one_side true true low high = pos 0
to_one_side false false low high = pos 0

-- "inflow as the fluid that arrives and outflow as the fluid that leaves": what is brought is as it counts on the marked side
unfoldable pub edge_of : Grid → Books → (ℕ → Bool) → ℕ → ℕ → ℤ
edge_of g F z d i = to_one_side (z i) (z (i + stride_of g d)) (brought_of F true d i) (brought_of F false d i)

-- "inflow as the fluid that arrives"; inflow and outflow of a link are both positive litres (docs/DECISIONS.md, "Zones")
abbrev pub inflow_of : ℤ → ℤ
inflow_of gain = max_ℤ (pos 0) gain

-- "outflow as the fluid that leaves"
abbrev pub outflow_of : ℤ → ℤ
outflow_of gain = max_ℤ (pos 0) (neg_ℤ gain)

-- what crosses the edge each way by the three links that lead on from a block
unfoldable pub edges_of : Grid → Books → (ℕ → Bool) → ℕ → Crossing
edges_of g F z i =
    record {
      inflow = sum 3 (λ d. inflow_of (edge_of g F z d i));
      outflow = sum 3 (λ d. outflow_of (edge_of g F z d i));
    }

-- ---- converted

-- "leakage that changes fluid": it counts as this fluid on one side alone
unfoldable pub changes : Books → ℕ → Bool
changes F i = differ (F.low_is above i) (F.high_is above i)

-- "Converted is the net gain of that fluid over marked pairs joined by leakage that changes fluid."
unfoldable pub converted_at : Grid → Books → (ℕ → Bool) → ℕ → ℤ
converted_at g F z i = only ((z i && z (i + stride_of g above)) && changes F i) (brought_of F true above i +ℤ brought_of F false above i)
