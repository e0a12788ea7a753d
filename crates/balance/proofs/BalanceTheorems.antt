-- No face is skipped, of balances: the balance of a block is made of what every link of the grid brings to it. What a link brings is in crate
-- `books`, BooksTheorems. Assumes nothing.
use mathlib.Core.Bool.{false, true}
use mathlib.Core.Path.{◌∙◌, ◌≡◌, ap₂, sym}
use Prim.Native.Nat.{◌+◌, ◌<◌, ℕ}
use lib.Dec.{eqb}
use lib.IntN.{◌+ℤ◌}
use Rattle.whole.specs.Sum.{only, sum}
use Rattle.whole.proofs.SumLaws.{sum_add, sum_at, sum_back, sum_same}
use Rattle.grid.specs.Place.{blocks_of, stride_of}
use Rattle.slices.specs.Slices.{Case}
use Rattle.books.specs.Bookkeeping.{books_of, brought_of}
use Rattle.balance.specs.Balance.{flows_of, through_of}

-- The balance's flows of block j are what every link of the grid brings to it: a link counts at its low side and at its high side, and
-- nowhere else.
pub every_link_counts : (c : Case) (fluid j : ℕ) → j < blocks_of c.grid
    → flows_of c.grid (books_of c fluid) j
    ≡ sum 3 (λ d. sum (blocks_of c.grid) (λ i. only (eqb i j) (brought_of (books_of c fluid) true d i) +ℤ only (eqb (i + stride_of c.grid d) j) (brought_of (books_of c fluid) false d i)))
unfolding flows_of through_of
every_link_counts c fluid j l =
    sum_same 3 (λ d. through_of c.grid (books_of c fluid) d j) (λ d. sum (blocks_of c.grid) (λ i. only (eqb i j) (brought_of (books_of c fluid) true d i) +ℤ only (eqb (i + stride_of c.grid d) j) (brought_of (books_of c fluid) false d i)))
    (λ d h. sym (
    sum_add (blocks_of c.grid) (λ i. only (eqb i j) (brought_of (books_of c fluid) true d i)) (λ i. only (eqb (i + stride_of c.grid d) j) (brought_of (books_of c fluid) false d i))
    ∙ ap₂ ◌+ℤ◌ (sum_at (blocks_of c.grid) j (brought_of (books_of c fluid) true d) l) (sum_back (blocks_of c.grid) (stride_of c.grid d) j (brought_of (books_of c fluid) false d) l)
    ))
