-- The books of a case in one fluid: what every link carries, and what every block has of its own, in litres a day.
use Rattle.std.specs.Prelude.{Bool, false, true, ℕ, neg_ℤ, ℤ}
use Rattle.whole.specs.Sum.{only}
use Rattle.slices.specs.Slices.{Case}
use Rattle.wellformed.specs.Limits.{block_in}
use Rattle.wellformed.specs.Links.{live_of}
use Rattle.books.specs.declared.own.Own.{Own}
use Rattle.books.specs.Links.{carried_of, counts_of}
use Rattle.books.specs.Own.{fixed_of, own_of}

-- For each link one flow, positive from its low to its high side, and whether its water counts as this fluid on either side. For each block
-- its own terms, and whether its head in this fluid is fixed.
pub record Books : Type 0 where
  pub flow : ℕ → ℕ → ℤ
  pub low_is : ℕ → ℕ → Bool
  pub high_is : ℕ → ℕ → Bool
  pub own : ℕ → Own
  pub fixed : ℕ → Bool

-- the books of a case in a fluid; a link whose blocks are not "both active" carries nothing: "otherwise no flow"
unfoldable pub books_of : Case → ℕ → Books
books_of c fluid =
    record {
      flow = λ d i. only (live_of c.grid c.slots d i) (carried_of c fluid d i);
      low_is = λ d i. counts_of c.grid c.slots fluid d i true;
      high_is = λ d i. counts_of c.grid c.slots fluid d i false;
      own = λ i. own_of c fluid i;
      fixed = λ i. fixed_of (block_in c i) fluid;
    }

-- what a link brings to its low side as this fluid, and to its high side: "Water leaves as the fluid named for the block it leaves and arrives as the
-- fluid named for the block it enters."
unfoldable pub brought_of : Books → Bool → ℕ → ℕ → ℤ
brought_of F true d i = only (F.low_is d i) (neg_ℤ (F.flow d i))
brought_of F false d i = only (F.high_is d i) (F.flow d i)
