-- The table of the whole goes over the rest behind the tables of all layers.
use Rattle.slices.specs.Cases.{case_in}
use Rattle.session.proofs.SessionLaws.{whole_put}
use Rattle.session.proofs.WorkedCase.fill_tables.Goals as goal

pub returns : goal.returns
returns c = whole_put (case_in c.args.self.now.well_formed.case) c.requires.wet c.args.out.now c.whole_on-lines.ensures c.fill_layers.ensures c.copy_front.ensures
