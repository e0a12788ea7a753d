-- No block passed is at fault.
use Rattle.std.proofs.Common.{◌≡◌}
use Rattle.whole.specs.Search.{first_of}
use Rattle.slices.specs.Slices.{slots_fail}
use Rattle.slices.proofs.Case.first_fault.Given as goal

abbrev pub invariant-loop-block : goal.invariant-loop-block
invariant-loop-block l = first_of l.block (slots_fail l.self.grid l.self.slots.now) ≡ 0
