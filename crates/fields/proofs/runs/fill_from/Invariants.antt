-- The whole run is what the rest of it gives after the numbers passed, and past them all is as it was.
use Rattle.std.proofs.Common.{◌≡◌, ◌-◌, [], drop, length, take}
use Rattle.fields.specs.Runs.{fill_from}
use Rattle.fields.proofs.runs.fill_from.Given as goal

abbrev pub invariant-loop-k : goal.invariant-loop-k
invariant-loop-k l =
    (fill_from l.part l.file (length l.fn.out) l.fn.at [] ≡ fill_from l.part l.file (length l.fn.out - l.k) l.next (take l.k l.out))
    × (drop l.k l.out ≡ drop l.k l.fn.out)
