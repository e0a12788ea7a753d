use Rattle.std.proofs.Common.{◌∙◌, ◌≡◌, ap, arith, List, ℤ, pos, replicate}
use Rattle.std.proofs.lemmas.Result.{err_from_is_err_and}
use Rattle.slices.specs.Cases.{case_in}
use Rattle.slices.specs.Slices.{first_refusal}
use Rattle.wellformed.specs.Limits.{checks_of}
use Rattle.books.specs.Waters.{well_checks}
use Rattle.zone.specs.Zones.{marked_of}
use Rattle.budget.specs.Answers.{eighteen_of, layer_answer, layer_zone, tabled}
use Rattle.budget.proofs.AnswersLaws.{answer_goes_on, answer_stays, layer_marked}
use Rattle.budget.proofs.table_of_layer.Goals as goal

pub returns-in_err-well_formed : goal.returns-in_err-well_formed
unfolding layer_answer
returns-in_err-well_formed c =
    let k = case_in c.args.case in
    let p = err_from_is_err_and c.from_residual.result c.from_residual.ensures.1 in
    rw (p.1, p.2) (answer_stays (checks_of k) (well_checks k) (eighteen_of k (layer_zone k.grid c.args.layer)) c.in_err-well_formed.field-0.0 c.in_err-well_formed.ensures.refusal)

pub returns : goal.returns
unfolding layer_answer
returns c =
    let w = c.in_ok-well_formed.well_formed in
    let k = case_in w.case in
    c.account.ensures
    ∙ ap (λ (marks : List ℤ). tabled (first_refusal (well_checks k)) (eighteen_of k (marked_of marks))) c.fill_layer_marks.ensures
    ∙ ap (tabled (first_refusal (well_checks k))) (layer_marked k w.well_formed.judged.counted c.args.layer (replicate 512 (pos 0)) (omega (arith, w.well_formed.judged.counted.blocks_most)))
    ∙ rw c.in_ok-well_formed.ensures.same
    (answer_goes_on (checks_of (case_in c.args.case)) (well_checks (case_in c.args.case)) (eighteen_of (case_in c.args.case) (layer_zone c.args.case.grid c.args.layer)) c.in_ok-well_formed.ensures.refusal)
