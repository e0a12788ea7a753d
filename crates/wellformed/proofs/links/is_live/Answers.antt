use Rattle.std.proofs.Common.{◌∙◌}
use Rattle.whole.proofs.SearchLaws.{holds}
use Rattle.grid.proofs.PlaceLaws.{next_inside, next_told}
use Rattle.wellformed.proofs.LinksLaws.{reach}
use Rattle.wellformed.proofs.links.is_live.Goals as goal

-- the block across is inside, and asked whether it is active only where the link is there
pub is_active-requires-then-is_active : goal.is_active-requires-then-is_active
is_active-requires-then-is_active c =
    let next = next_told c.args.g c.args.axis c.args.block c.args.place c.has_next.result c.requires.place_value c.has_next.ensures in
    let across = next_inside c.args.g c.requires.counted c.args.axis c.args.block c.requires.block_bound (holds (next ∙ c.if-has_next.true)) in
    rw c.stride.ensures (reach c.requires.g_in_bounds across)
