-- A balance in range can be turned. Assumes nothing.
use Rattle.std.proofs.Common.{◌∙◌, ap}
use Rattle.whole.proofs.RangeLaws.{b_eq, fits, ranges}
use Rattle.block.specs.Fluids.{in_fluid}
use Rattle.balance.proofs.BalanceLaws.{pair_in}
use Rattle.verdict.proofs.places.fails.Goals as goal

pub abs-requires : goal.abs-requires
abs-requires c =
    let balance = b_eq (c.in_fluid.ensures ∙ ap (λ f. in_fluid f c.args.fluid) c.pair.ensures) (pair_in c.args.fluid c.requires.bounded c.requires.block_bound) in
    fits (search (ranges, balance) depth 20) tt
