use Rattle.std.proofs.Common.{arith}
use Rattle.slots.proofs.SlotsLaws.{screen_told}
use Rattle.slots.proofs.rules.screen_within.Goals as goal

pub returns-else-block-2 : goal.returns-else-block-2
returns-else-block-2 c = rw (screen_told c.args.block c.requires) (grind arith)
