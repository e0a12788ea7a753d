use Rattle.std.proofs.Common.{◌∙◌, sym}
use Rattle.slices.specs.Cases.{case_in}
use Rattle.report.proofs.ReportLaws.{named_ends}
use Rattle.report.proofs.report_of_case.Goals as goal

pub report_of-requires-clause-ends : goal.report_of-requires-clause-ends
report_of-requires-clause-ends c =
    rw c.load.ensures (named_ends (case_in c.args.judged.case) c.args.number c.args.judged.judged (sym c.names_active.ensures ∙ c.if-not-names_active.false))
