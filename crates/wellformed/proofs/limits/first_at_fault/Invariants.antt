-- No block passed is at fault.
use Rattle.std.proofs.Common.{◌≡◌}
use Rattle.whole.specs.Search.{first_of}
use Rattle.slices.specs.Cases.{case_in}
use Rattle.wellformed.specs.Limits.{at_fault}
use Rattle.wellformed.proofs.limits.first_at_fault.Given as goal

abbrev pub invariant-loop-block : goal.invariant-loop-block
invariant-loop-block l = first_of l.block (at_fault (case_in l.judged.case) l.number) ≡ 0
