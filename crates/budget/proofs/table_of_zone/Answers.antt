use Rattle.std.proofs.Common.{◌∙◌, ◌≡◌, ap, arith, length, sym, Bool, List, ℤ}
use Rattle.std.proofs.lemmas.Result.{err_from_is_err_and}
use lib.Dec.{leb→le}
use Rattle.grid.specs.Place.{blocks_of}
use Rattle.slices.specs.Cases.{case_in}
use Rattle.slices.specs.Inner.{reaches_over}
use Rattle.slices.specs.Slices.{Case}
use Rattle.wellformed.specs.Limits.{checked_lent, lent_checks_of}
use Rattle.wellformed.proofs.LimitsLaws.{lent_reached, lent_stands}
use Rattle.zone.specs.Zones.{marked_of}
use Rattle.budget.specs.Answers.{eighteen_of, marks_reach, table_checks, zone_answer, zone_of_case}
use Rattle.budget.proofs.AnswersLaws.{answer_goes_on, answer_stays}
use Rattle.budget.proofs.table_of_zone.Goals as goal

-- 7 of the marks is judged where the counts are in range
told : (k : Case) (marks : List ℤ) (reaches : Bool) → reaches ≡ reaches_over k.grid 1 (length marks) → checked_lent k reaches ≡ checked_lent k (marks_reach k.grid marks)
told k marks reaches e = ap (checked_lent k) e ∙ lent_reached k (λ b. b) 1 (length marks) (blocks_of k.grid) (omega arith)

pub returns-in_err-check_lent : goal.returns-in_err-check_lent
unfolding zone_answer
returns-in_err-check_lent c =
    let k = case_in c.args.case in
    let marks = c.args.marks.now in
    let p = err_from_is_err_and c.from_residual.result c.from_residual.ensures.1 in
    rw (p.1, p.2)
    (answer_stays (lent_checks_of k (marks_reach k.grid marks)) (table_checks k marks) (eighteen_of k (marked_of marks)) c.in_err-check_lent.field-0.0
    (c.in_err-check_lent.ensures.refusal ∙ told k marks c.reaches_over-reaches.result c.reaches_over-reaches.ensures))

pub zone_of_case-requires : goal.zone_of_case-requires
zone_of_case-requires c =
    let k = case_in c.args.case in
    let marks = c.args.marks.now in
    let stands = lent_stands k (marks_reach k.grid marks) (ap (λ r. r.number) (sym (c.in_ok-check_lent.ensures.refusal ∙ told k marks c.reaches_over-reaches.result c.reaches_over-reaches.ensures))) in
    rw c.in_ok-check_lent.ensures.same (leb→le (blocks_of k.grid) (length marks) stands.1)

pub returns : goal.returns
unfolding zone_answer zone_of_case
returns c =
    let k = case_in c.args.case in
    let marks = c.args.marks.now in
    c.zone_of_case.ensures
    ∙ rw c.in_ok-check_lent.ensures.same
    (answer_goes_on (lent_checks_of k (marks_reach k.grid marks)) (table_checks k marks) (eighteen_of k (marked_of marks))
    (c.in_ok-check_lent.ensures.refusal ∙ told k marks c.reaches_over-reaches.result c.reaches_over-reaches.ensures))
