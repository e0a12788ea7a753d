-- A zone's lines block by block, as a loop adds them up, and what inner functions require. No answer is said with these: nothing here has to be believed.
use Rattle.std.specs.Prelude.{Bool, ◌+◌, ◌≤◌, ℕ, neg_ℤ, ℤ, List, length}
use Rattle.whole.specs.Sum.{sum}
use Rattle.grid.specs.declared.Grid.{Grid}
use Rattle.grid.specs.Place.{blocks_of, stride_of}
use Rattle.books.specs.Bookkeeping.{Books}
use Rattle.slices.specs.Slices.{Case}
use Rattle.wellformed.specs.Inner.{WellFormed}
use Rattle.books.specs.Inner.{Row, Watered}
use Rattle.balance.specs.Balance.{balance_in, balances_of}
use Rattle.zone.specs.declared.lines.Lines.{Lines}
use Rattle.zone.specs.Zones.{differ, in_zone}
use Rattle.zone.specs.Exchange.{converted_at, edges_of}
use Rattle.zone.specs.Holdings.{own_in, settled_of}

-- whether a link has one side marked
unfoldable pub at_edge : Grid → (ℕ → Bool) → ℕ → ℕ → Bool
at_edge g z d i = differ (z i) (z (i + stride_of g d))

-- what a block, with the three links that lead on from it, gives to each line of a fluid's row
unfoldable pub terms_of : Grid → List ℤ → Books → (ℕ → Bool) → ℕ → Lines
terms_of g slots F z i =
    record {
      storage = (own_in slots F z i).storage;
      edge_in = (edges_of g F z i).inflow;
      edge_out = (edges_of g F z i).outflow;
      converted = converted_at g F z i;
      wells = neg_ℤ (own_in slots F z i).pumped;
      recharge = (own_in slots F z i).recharge;
      boundary = (own_in slots F z i).boundary;
      supply = (settled_of (in_zone slots z i) (F.fixed i) (balance_in g F i)).supply;
      error = (settled_of (in_zone slots z i) (F.fixed i) (balance_in g F i)).error;
    }

-- the sums of n such rows
unfoldable pub totals_of : ℕ → (ℕ → Lines) → Lines
totals_of n f =
    record {
      storage = sum n (λ i. (f i).storage);
      edge_in = sum n (λ i. (f i).edge_in);
      edge_out = sum n (λ i. (f i).edge_out);
      converted = sum n (λ i. (f i).converted);
      wells = sum n (λ i. (f i).wells);
      recharge = sum n (λ i. (f i).recharge);
      boundary = sum n (λ i. (f i).boundary);
      supply = sum n (λ i. (f i).supply);
      error = sum n (λ i. (f i).error);
    }

-- what later parts require: a well-formed case, and rows of its thicknesses and balances,
pub record Worked (c : Case) (waters balances : List ℤ) : Type 0 where
  pub formed : WellFormed c
  pub watered : Watered c.grid c.slots waters
  pub balanced : Row (blocks_of c.grid) (balances_of c) balances

-- and marks that reach over the grid
pub record Ready (c : Case) (waters balances marks : List ℤ) : Type 0 where
  pub formed : WellFormed c
  pub watered : Watered c.grid c.slots waters
  pub balanced : Row (blocks_of c.grid) (balances_of c) balances
  pub reach : blocks_of c.grid ≤ length marks
