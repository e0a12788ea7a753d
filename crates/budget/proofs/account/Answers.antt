use Rattle.std.proofs.Common.{◌∙◌, ◌≡◌, refl, sym, ℕ}
use Rattle.std.specs.Prelude.{None, Option, Some}
use native.Mathlib.Nat.{le_refl}
use Rattle.slices.specs.Cases.{case_in}
use Rattle.books.proofs.WatersLaws.{slotted, filled_watered}
use Rattle.balance.proofs.BalanceLaws.{filled_balanced}
use Rattle.zone.specs.Zones.{marked_of}
use Rattle.budget.specs.Answers.{eighteen_of}
use Rattle.budget.proofs.AnswersLaws.{dry_found, dry_nowhere}
use Rattle.budget.proofs.account.Goals as goal

pub first_dry-requires-clause-watered : goal.first_dry-requires-clause-watered
first_dry-requires-clause-watered c = filled_watered _ _ _ (slotted (case_in c.args.well_formed.case) c.args.well_formed.well_formed.judged) c.fill_waters.ensures (le_refl 1024)

pub returns-in-Some : goal.returns-in-Some
returns-in-Some c = dry_found (case_in c.args.well_formed.case) _ _ (sym c.first_dry.ensures ∙ c.in-Some.is)

pub fill_balances-requires-clause-watered : goal.fill_balances-requires-clause-watered
fill_balances-requires-clause-watered c = filled_watered _ _ _ (slotted (case_in c.args.well_formed.case) c.args.well_formed.well_formed.judged) c.fill_waters.ensures (le_refl 1024)

pub table_on-requires : goal.table_on-requires
table_on-requires c =
    let h = c.args.well_formed.well_formed in
    let k = case_in c.args.well_formed.case in
    record {
      formed = h;
      watered = filled_watered _ _ _ (slotted k h.judged) c.fill_waters.ensures (le_refl 1024);
      balanced = filled_balanced k _ h.judged.counted c.fill_balances.ensures (le_refl 1024);
      reach = c.requires;
    }

pub returns : goal.returns
returns c = dry_nowhere (case_in c.args.well_formed.case) _ _ (sym c.first_dry.ensures ∙ nothing c.first_dry.result (λ b e. c.in_default.not-Some b e)) c.table_on.ensures
  where
    nothing : (found : Option ℕ) → ((b : ℕ) → found ≡ Some b → ⊥) → found ≡ None
    nothing None h = refl
    nothing (Some b) h = absurd (h b refl)
