use Rattle.whole.proofs.RangeLaws.{b_machine, leaf, read, within}
use Rattle.block.specs.Inner.{Heads, Thick}
use Rattle.report.specs.Reports.{report_of}
use Rattle.report.proofs.ReportLaws.{heads_within, interface_within, levels_within, waters_within}
use Rattle.report.proofs.report_of.Goals as goal

pub thicknesses-waters-requires : goal.thicknesses-waters-requires
thicknesses-waters-requires c = levels_within c.requires.ends c.args.g c.args.top _ c.levels_of.ensures

pub metres_of-requires : goal.metres_of-requires
metres_of-requires c = within (b_machine _ (leaf (heads_within c.requires.ends c.new_heads-heads.ensures).of_fresh)) tt tt

pub metres_of-requires-2 : goal.metres_of-requires-2
metres_of-requires-2 c = within (b_machine _ (leaf (heads_within c.requires.ends c.new_heads-heads.ensures).of_salt)) tt tt

pub metres_of-requires-3 : goal.metres_of-requires-3
metres_of-requires-3 c = within (b_machine _ (leaf (interface_within c.requires.ends c.args.g c.requires.termed c.new_heads-heads.ensures c.interface.ensures))) tt tt

pub metres_of-requires-4 : goal.metres_of-requires-4
metres_of-requires-4 c = within (b_machine _ (leaf (waters_within c.requires.ends c.args.g c.args.top _ c.levels_of.ensures c.thicknesses-waters.ensures).of_fresh)) tt tt

pub metres_of-requires-5 : goal.metres_of-requires-5
metres_of-requires-5 c = within (b_machine _ (leaf (waters_within c.requires.ends c.args.g c.args.top _ c.levels_of.ensures c.thicknesses-waters.ensures).of_salt)) tt tt

pub returns : goal.returns
unfolding report_of
returns c =
    let heads : Heads c.new_heads-heads.result = heads_within c.requires.ends c.new_heads-heads.ensures in
    let waters : Thick c.thicknesses-waters.result = waters_within c.requires.ends c.args.g c.args.top _ c.levels_of.ensures c.thicknesses-waters.ensures in
    let interface = interface_within c.requires.ends c.args.g c.requires.termed c.new_heads-heads.ensures c.interface.ensures in
    rw (
      c.metres_of.ensures,
      c.metres_of-2.ensures,
      c.metres_of-3.ensures,
      c.metres_of-4.ensures,
      c.metres_of-5.ensures,
      read heads.of_fresh tt,
      read heads.of_salt tt,
      read interface tt,
      read waters.of_fresh tt,
      read waters.of_salt tt,
      c.thicknesses-waters.ensures,
      c.levels_of.ensures,
      c.interface.ensures,
      c.new_heads-heads.ensures,
    )
