use Rattle.whole.proofs.RangeLaws.{read}
use Rattle.wellformed.specs.Limits.{boundary_exceeds}
use Rattle.wellformed.proofs.SpotLaws.{active_ends}
use Rattle.wellformed.proofs.spot.Spot.boundary_exceeds.Goals as goal

pub leakance_exceeds-requires : goal.leakance_exceeds-requires
leakance_exceeds-requires c =
    let h = (active_ends c.args.self.now c.requires).boundary_leakance in
    rw (c.load.ensures, read h tt) h

pub returns : goal.returns
unfolding boundary_exceeds
returns c = rw (c.load.ensures, read (active_ends c.args.self.now c.requires).boundary_leakance tt) at c.leakance_exceeds.ensures
