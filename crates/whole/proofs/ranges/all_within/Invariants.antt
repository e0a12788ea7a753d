-- The numbers passed lie within the ends.
use Rattle.std.proofs.Common.{◌≡◌, true, get_or, pos, take}
use Rattle.whole.specs.Ranges.{in_range}
use Rattle.whole.specs.Search.{every}
use Rattle.whole.proofs.ranges.all_within.Given as goal

abbrev pub invariant-loop-value : goal.invariant-loop-value
invariant-loop-value l = every l.value-index (λ k. in_range l.range (get_or (take l.count l.values) k (pos 0))) ≡ true
