-- The invariant: the tables of the layers passed lie over the front.
use Rattle.std.proofs.Common.{◌≡◌}
use Rattle.whole.specs.Lent.{over}
use Rattle.slices.specs.Cases.{case_in}
use Rattle.session.specs.Sessions.{layers_of}
use Rattle.session.proofs.WorkedCase.fill_layers.Given as goal

abbrev pub invariant-loop-layer : goal.invariant-loop-layer
invariant-loop-layer l = l.out ≡ over (layers_of (case_in l.self.well_formed.case) l.layer) l.fn.out
