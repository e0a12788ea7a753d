use Rattle.std.proofs.Common.{◌∙◌, sym}
use Rattle.grid.proofs.JudgingLaws.{counted_where}
use Rattle.slices.proofs.Case.shape.Goals as goal

pub room_holds-requires : goal.room_holds-requires
room_holds-requires c = counted_where _ (sym c.counts_hold.ensures ∙ c.if-not-counts_hold.false)
