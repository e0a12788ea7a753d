-- The places passed are counted.
use Rattle.std.proofs.Common.{◌≡◌}
use Rattle.whole.specs.Sum.{count}
use Rattle.books.specs.Inner.{pair_of}
use Rattle.verdict.specs.Places.{counted_by}
use Rattle.verdict.proofs.search.count_places.Given as goal

abbrev pub invariant-loop-place : goal.invariant-loop-place
invariant-loop-place l = l.count ≡ count l.place (counted_by l.g l.slots (pair_of l.balances) l.code)
