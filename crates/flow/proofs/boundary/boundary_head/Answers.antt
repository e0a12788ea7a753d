-- A sea's head is that of its floor. Assumes nothing.
use mathlib.Core.Path.{◌∙◌, ap, sym}
use Rattle.whole.proofs.RangeLaws.{answer, read}
use Rattle.block.specs.Density.{sea_head_of}
use Rattle.flow.specs.Boundary.{boundary_head_of}
use Rattle.flow.proofs.boundary.boundary_head.Goals as goal

pub returns-then-is_sea : goal.returns-then-is_sea
unfolding boundary_head_of
returns-then-is_sea c =
    rw (sym c.is_sea.ensures ∙ c.if-is_sea.true) (answer c.sea_head.type_inv (c.sea_head.ensures ∙ ap (sea_head_of c.args.g) (read c.requires.ends.level tt)))
