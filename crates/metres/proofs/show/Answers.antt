use Rattle.std.proofs.Common.{◌∙◌, sym, to_z-of_z}
use Rattle.metres.proofs.AnswersLaws.{shown_abs}
use Rattle.metres.proofs.show.Goals as goal

pub metres_of-requires : goal.metres_of-requires
metres_of-requires c = rw (to_z-of_z c.ranges.tick) (shown_abs _ (rw (to_z-of_z c.ranges.tick) at (sym c.in_range.ensures) ∙ c.if-in_range.true))
