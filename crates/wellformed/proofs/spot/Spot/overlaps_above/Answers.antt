use Rattle.std.proofs.Common.{◌∙◌, sym}
use Rattle.wellformed.proofs.SpotLaws.{across_room, live_ends}
use Rattle.wellformed.proofs.spot.Spot.overlaps_above.Goals as goal

pub load-requires : goal.load-requires
load-requires c = rw c.stride.ensures (across_room c.args.self.now 2 (sym c.is_live.ensures ∙ c.if-is_live.true))

pub aquifer_top-requires : goal.aquifer_top-requires
aquifer_top-requires c = rw c.load-then-is_live.ensures (live_ends c.args.self.now 2 (sym c.is_live.ensures ∙ c.if-is_live.true))
