-- A number other than 0 is salt's. Assumes nothing.
use mathlib.Core.Path.{ap, ◌∙◌}
use Rattle.whole.proofs.RangeLaws.{answer, read}
use Rattle.whole.proofs.SearchLaws.{follows}
use Rattle.block.specs.Density.{salt_k_of}
use Rattle.block.proofs.geometry.k_in.Goals as goal

pub returns-else-fluid-eq-FRESH : goal.returns-else-fluid-eq-FRESH
returns-else-fluid-eq-FRESH c =
    rw (follows c.args.fluid c.if-fluid-eq-FRESH.false) (answer c.salt_k.type_inv (c.salt_k.ensures ∙ ap (salt_k_of c.args.g) (read c.requires.ends.k tt)))
