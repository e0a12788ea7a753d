use Rattle.std.proofs.Common.{sym}
use Rattle.grid.proofs.JudgingLaws.{counted_where}
use Rattle.slices.proofs.reaches_over.Goals as goal

pub blocks-requires : goal.blocks-requires
blocks-requires c = counted_where _ (sym c.if-counts_hold.ensures)
