-- No block passed has a dry well.
use Rattle.std.proofs.Common.{◌≡◌}
use Rattle.whole.specs.Search.{first_of}
use Rattle.books.specs.Waters.{dry_at}
use Rattle.books.proofs.waters.first_dry.Given as goal

abbrev pub invariant-loop-block : goal.invariant-loop-block
invariant-loop-block l = first_of l.block (dry_at l.g l.slots) ≡ 0
