use Rattle.slices.specs.Cases.{case_in}
use Rattle.slices.proofs.SlicesLaws.{judged_runs, shape_passed}
use Rattle.slices.proofs.Case.judge_ranges.Goals as goal

pub contents-requires-clause-counted : goal.contents-requires-clause-counted
contents-requires-clause-counted c = (shape_passed (case_in c.args.self) c.in_ok-shape.ensures).0

pub contents-requires-clause-roomy : goal.contents-requires-clause-roomy
contents-requires-clause-roomy c = (shape_passed (case_in c.args.self) c.in_ok-shape.ensures).1

pub invariant_of-result : goal.invariant_of-result
invariant_of-result c = record { judged = judged_runs (case_in c.args.self) c.in_ok-shape.ensures c.in_ok-contents.ensures }
