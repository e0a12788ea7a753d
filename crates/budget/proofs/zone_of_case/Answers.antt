use Rattle.std.proofs.Common.{◌∙◌, ◌≡◌, ap, sym, [], ◌∷◌}
use Rattle.whole.specs.Ranges.{all_within, between}
use Rattle.std.specs.Prelude.{pos}
use Rattle.slices.specs.Cases.{case_in}
use Rattle.slices.specs.Slices.{first_refusal, unless}
use Rattle.books.specs.Waters.{well_checks}
use Rattle.zone.specs.Zones.{marked_of}
use Rattle.budget.specs.Answers.{eighteen_of, marks_hold, zone_of_case}
use Rattle.budget.proofs.AnswersLaws.{marks_fail, marks_pass}
use Rattle.budget.proofs.zone_of_case.Goals as goal

pub returns-then-not-all_within : goal.returns-then-not-all_within
unfolding zone_of_case
returns-then-not-all_within c = marks_fail (case_in c.args.well_formed.case) c.args.marks.now _ (ap (all_within (between (pos 0) (pos 1)) c.args.marks.now) (sym c.blocks-2.ensures) ∙ sym c.all_within.ensures ∙ c.if-not-all_within.true)

pub returns : goal.returns
unfolding zone_of_case
returns c = c.account.ensures ∙ marks_pass (case_in c.args.well_formed.case) c.args.marks.now _ (ap (all_within (between (pos 0) (pos 1)) c.args.marks.now) (sym c.blocks-2.ensures) ∙ sym c.all_within.ensures ∙ c.if-not-all_within.false)
