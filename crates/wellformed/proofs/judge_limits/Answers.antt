use Rattle.std.proofs.Common.{◌∙◌, sym}
use Rattle.slices.specs.Cases.{case_in}
use Rattle.wellformed.proofs.LimitsLaws.{limits_passed}
use Rattle.wellformed.proofs.judge_limits.Goals as goal

pub invariant_of-result : goal.invariant_of-result
invariant_of-result c =
    record {
      well_formed =
          limits_passed (case_in c.args.judged.case) c.args.judged.judged (sym c.first_at_fault.ensures ∙ c.in_default.is)
          (sym c.first_at_fault-2.ensures ∙ c.in_default-first_at_fault.is);
    }
