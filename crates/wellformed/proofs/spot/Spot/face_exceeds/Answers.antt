use Rattle.std.proofs.Common.{◌∙◌, sym}
use Rattle.wellformed.proofs.SpotLaws.{across_room, spot_conducts}
use Rattle.wellformed.proofs.spot.Spot.face_exceeds.Goals as goal

pub load-requires-then-is_live : goal.load-requires-then-is_live
load-requires-then-is_live c = rw c.stride.ensures (across_room c.args.self.now c.args.axis (sym c.is_live.ensures ∙ c.if-is_live.true))

pub either_exceeds-requires : goal.either_exceeds-requires
either_exceeds-requires c =
    let s = c.args.self.now in
    rw (c.face.ensures, c.load.ensures, c.load-then-is_live.ensures, c.stride.ensures, s.placed)
    (spot_conducts s c.args.axis (sym c.is_live.ensures ∙ c.if-is_live.true) c.requires)
