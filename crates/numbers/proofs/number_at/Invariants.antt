-- The number at `at` is what the rest of the reading gives, and the groups that were read are worth less than the next one's 1.
use Rattle.std.proofs.Common.{◌≡◌, ◌-◌, ◌*◌, ◌<◌, ◌^◌, min}
use Rattle.numbers.specs.Numbers.{number_at, number_from}
use Rattle.numbers.proofs.number_at.Given as goal

abbrev pub invariant-loop-group : goal.invariant-loop-group
invariant-loop-group l = (number_at l.fn.file l.fn.at ≡ number_from (5 - l.group) (min l.group 1) (2 ^ (7 * l.group)) l.value l.file l.next) × (l.value < 2 ^ (7 * l.group))
