-- The tables of no layer go over nothing, and those of one layer more over the rest behind the tables before it.
use Rattle.std.proofs.Common.{refl}
use Rattle.slices.specs.Cases.{case_in}
use Rattle.session.specs.Sessions.{layers_of}
use Rattle.session.proofs.SessionLaws.{layer_put}
use Rattle.session.proofs.WorkedCase.fill_layers.Goals as goal

pub loop-layer-init : goal.loop-layer-init
unfolding layers_of
loop-layer-init c = refl

pub loop-layer-preserved : goal.loop-layer-preserved
loop-layer-preserved c =
    layer_put (case_in c.args.self.now.well_formed.case) c.requires.wet c.args.out.now c.loop-layer.layer c.layer_on-lines.ensures c.loop-layer.invariant c.copy_front.ensures
