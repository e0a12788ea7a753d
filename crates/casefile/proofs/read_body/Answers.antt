use Rattle.std.proofs.Common.{◌∙◌, refl}
use Rattle.std.proofs.lemmas.Result.{err_from_is_err_and}
use Rattle.casefile.proofs.ReadingLaws.{stored_refused}
use Rattle.casefile.proofs.read_body.Goals as goal

pub returns-in_err-judge_limits : goal.returns-in_err-judge_limits
returns-in_err-judge_limits c =
    let p = err_from_is_err_and c.from_residual-in_err-judge_limits.result c.from_residual-in_err-judge_limits.ensures.1 in
    let e = c.in_ok-read_parts.ensures.read ∙ stored_refused _ c.in_err-judge_limits.field-0.0 c.in_err-judge_limits.ensures.refusal in
    record { answer = rw (p.1, p.2, e) refl; columns = rw e refl; rows = rw e refl; slots = rw e refl }
