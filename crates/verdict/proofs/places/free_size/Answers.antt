-- A balance in range can be turned. Assumes nothing.
use Rattle.std.proofs.Common.{◌∙◌, ap, ◌%◌}
use Rattle.whole.proofs.RangeLaws.{b_eq, fits, ranges}
use Rattle.block.specs.Fluids.{in_fluid}
use Rattle.balance.proofs.BalanceLaws.{pair_in}
use Rattle.grid.specs.Place.{blocks_of}
use Rattle.verdict.proofs.PlacesLaws.{block_below}
use Rattle.verdict.proofs.places.free_size.Goals as goal

pub abs-requires : goal.abs-requires
abs-requires c =
    let balance = b_eq (c.in_fluid.ensures ∙ ap (λ f. in_fluid f (c.args.place % 2)) c.pair.ensures) (pair_in (c.args.place % 2) c.requires.bounded (block_below (blocks_of c.args.g) c.args.place c.requires.place_bound)) in
    fits (search (ranges, balance) depth 20) tt
