-- What counts in another fluid is none of this one. Assumes nothing.
use mathlib.Core.Path.{◌∙◌, ap, ◌≡◌}
use mir.Facts.{to_z-of_z}
use borrow.Author.Tests.{ne_eqb}
use Rattle.flow.specs.Boundary.{exchanged_as, gain_of}
use Rattle.flow.proofs.boundary.gain.Goals as goal

pub returns-else-exchanged_as-fluid : goal.returns-else-exchanged_as-fluid
unfolding gain_of
returns-else-exchanged_as-fluid c =
    let told : c.exchanged_as.result ≡ exchanged_as c.args.block c.args.upper c.args.flow = c.exchanged_as.ensures ∙ ap (exchanged_as c.args.block c.args.upper) (to_z-of_z c.ranges.flow) in
    rw (← told, ne_eqb c.exchanged_as.result c.args.fluid c.if-exchanged_as-fluid.false)
