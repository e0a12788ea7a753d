use Rattle.std.proofs.Common.{◌∙◌, sym}
use Rattle.whole.proofs.RangeLaws.{read}
use Rattle.wellformed.specs.Limits.{above_exceeds}
use Rattle.wellformed.proofs.SpotLaws.{live_ends}
use Rattle.wellformed.proofs.spot.Spot.above_exceeds.Goals as goal

pub leakance_exceeds-requires : goal.leakance_exceeds-requires
leakance_exceeds-requires c =
    let h = (live_ends c.args.self.now 2 (sym c.is_live.ensures ∙ c.if-is_live.true)).leakance in
    rw (c.load.ensures, read h tt) h

pub returns-then-is_live : goal.returns-then-is_live
unfolding above_exceeds
returns-then-is_live c =
    let live = sym c.is_live.ensures ∙ c.if-is_live.true in
    let s = c.args.self.now in
    rw live (rw (c.load.ensures, read (live_ends s 2 live).leakance tt) at c.leakance_exceeds.ensures)
