-- The slots passed lie within their ends.
use Rattle.std.proofs.Common.{◌≡◌, true, get_or, length, pos}
use Rattle.whole.specs.Ranges.{in_range}
use Rattle.whole.specs.Search.{every}
use Rattle.slots.specs.Ranges.{range_of}
use Rattle.slots.proofs.ranges.ends_hold.Given as goal

abbrev pub invariant-loop-value : goal.invariant-loop-value
invariant-loop-value l = every (length l.yielded) (λ slot. in_range (range_of slot) (get_or l.part slot (pos 0))) ≡ true
