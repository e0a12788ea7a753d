use Rattle.std.proofs.Common.{◌∙◌, ◌≡◌, ap}
use Rattle.std.proofs.lemmas.Result.{err_from_is_err_and}
use Rattle.slices.specs.Cases.{case_in}
use Rattle.slices.specs.Slices.{first_refusal}
use Rattle.wellformed.specs.Limits.{checks_of}
use Rattle.books.specs.Waters.{well_checks}
use Rattle.budget.specs.Answers.{eighteen_of, everywhere, tabled, whole_answer}
use Rattle.budget.proofs.AnswersLaws.{answer_goes_on, answer_stays, whole_marked}
use Rattle.budget.proofs.table_of_whole.Goals as goal

pub returns-in_err-check_slices : goal.returns-in_err-check_slices
unfolding whole_answer
returns-in_err-check_slices c =
    let k = case_in c.args.case in
    let p = err_from_is_err_and c.from_residual.result c.from_residual.ensures.1 in
    rw (p.1, p.2) (answer_stays (checks_of k) (well_checks k) (eighteen_of k everywhere) c.in_err-check_slices.field-0.0 c.in_err-check_slices.ensures.refusal)

pub returns : goal.returns
unfolding whole_answer
returns c =
    let w = c.in_ok-check_slices.field-0 in
    let k = case_in w.case in
    c.account.ensures
    ∙ ap (tabled (first_refusal (well_checks k))) (whole_marked k w.well_formed.judged.counted)
    ∙ rw c.in_ok-check_slices.ensures.same (answer_goes_on (checks_of (case_in c.args.case)) (well_checks (case_in c.args.case)) (eighteen_of (case_in c.args.case) everywhere) c.in_ok-check_slices.ensures.refusal)
