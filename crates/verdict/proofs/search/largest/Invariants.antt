-- It is the largest of the places passed.
use Rattle.std.proofs.Common.{◌≡◌}
use Rattle.whole.specs.Search.{most_of}
use Rattle.books.specs.Inner.{pair_of}
use Rattle.verdict.specs.Places.{free_size_of}
use Rattle.verdict.proofs.search.largest.Given as goal

abbrev pub invariant-loop-place : goal.invariant-loop-place
invariant-loop-place l = l.most ≡ most_of l.place (free_size_of l.slots (pair_of l.balances))
