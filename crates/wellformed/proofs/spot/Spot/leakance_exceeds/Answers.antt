use Rattle.whole.proofs.RangeLaws.{answer}
use Rattle.wellformed.proofs.SpotLaws.{spot_placed}
use Rattle.wellformed.proofs.WidthsLaws.{area_in}
use Rattle.wellformed.proofs.spot.Spot.leakance_exceeds.Goals as goal

pub over_area-requires-clause-fact_2 : goal.over_area-requires-clause-fact_2
over_area-requires-clause-fact_2 c = rw (answer c.area.type_inv c.area.ensures) (area_in (spot_placed c.args.self.now))
