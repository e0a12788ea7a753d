-- `pumped` meets its contract. Assumes nothing.
use mathlib.Core.Path.{◌∙◌, ap}
use borrow.Author.Rules.{rules}
use Rattle.whole.proofs.RangeLaws.{answer}
use Rattle.block.specs.Fluids.{in_fluid}
use Rattle.block.specs.Inner.{levels_on}
use Rattle.block.specs.Wells.{shares_of}
use Rattle.block.proofs.BlockLaws.{lengths_thick}
use Rattle.books.proofs.own.pumped.Statement.{statement}
use Rattle.books.proofs.own.pumped.Tie as tie

shares-requires : tie.Need-shares-requires
shares-requires c κs = (c.requires.0, rw c.lengths_on.ensures (lengths_thick c.args.block (levels_on c.args.block.base c.args.waters) c.requires.1.1))

returns : tie.Need-returns
returns c = answer c.in_fluid.type_inv (c.in_fluid.ensures ∙ ap (λ f. in_fluid f c.args.fluid) (c.shares.ensures ∙ ap (shares_of c.args.block) c.lengths_on.ensures))

pub pumped_spec : {M : Type 1} → statement M
pumped_spec = tie.close (tie.spec (λ c κs. c.requires) shares-requires (λ c κs. search rules) returns)
