-- `side` meets its contract, field by field. Assumes nothing.
use mathlib.Core.Path.{◌∙◌, ap}
use borrow.Author.Rules.{rules}
use Rattle.whole.proofs.RangeLaws.{answer}
use Rattle.block.specs.Fluids.{in_fluid, new_heads}
use Rattle.block.specs.Geometry.{k_of}
use Rattle.books.specs.Links.{side_of}
use Rattle.books.proofs.WatersLaws.{active_ends}
use Rattle.books.proofs.links.side.Statement.{statement}
use Rattle.books.proofs.links.side.Tie as tie

k-in-requires : tie.Need-k_in-requires
k-in-requires c κs =
    let s = c in
    (s.requires.0.termed, rw c.load-own.ensures (active_ends s.args.g s.args.slots.now s.requires.0 s.args.block s.requires.1.1.0 s.requires.1.1.1))

returns : tie.Need-returns
unfolding side_of
returns c =
    let s = c in
    let load = c.load-own.ensures in
    λ i. record {
      k = answer c.k_in.type_inv (c.k_in.ensures ∙ ap (λ b. k_of s.args.g b s.args.fluid) load) i;
      thickness = answer c.in_fluid.type_inv (c.in_fluid.ensures ∙ ap (λ t. in_fluid t s.args.fluid) (c.pair.ensures ∙ s.requires.1.0.each s.args.block s.requires.1.1.0)) i;
      head = answer c.in_fluid-2.type_inv (c.in_fluid-2.ensures ∙ ap (λ h. in_fluid h s.args.fluid) (c.new_heads.ensures ∙ ap new_heads load)) i;
    }

pub side_spec : {M : Type 1} → statement M
side_spec =
    tie.close
    (tie.spec
    (λ c κs. search rules)
    k-in-requires
    (λ c κs. search rules)
    (λ c κs. search rules)
    (λ c κs. search rules)
    (λ c κs. search rules)
    returns)
