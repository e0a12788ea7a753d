-- Both rows are filled with what the verdict and the tables read.
use Rattle.std.proofs.Common.{◌∙◌, ap, sym}
use native.Mathlib.Nat.{le_refl}
use Rattle.slices.specs.Cases.{case_in}
use Rattle.wellformed.proofs.LimitsLaws.{stands_checked}
use Rattle.books.proofs.WatersLaws.{filled_watered, slotted}
use Rattle.balance.proofs.BalanceLaws.{filled_balanced, row_bounded}
use Rattle.session.specs.Sessions.{first_line_only, ruling}
use Rattle.session.proofs.SessionLaws.{tables_wet, verdict_on}
use Rattle.session.proofs.session_of_case.Goals as goal

pub fill_balances-requires-clause-watered : goal.fill_balances-requires-clause-watered
fill_balances-requires-clause-watered c =
    filled_watered _ _ _ (slotted (case_in c.args.well_formed.case) c.args.well_formed.well_formed.judged) c.fill_waters.ensures (le_refl 1024)

pub verdict_of_rows-verdict-requires-clause-watered : goal.verdict_of_rows-verdict-requires-clause-watered
verdict_of_rows-verdict-requires-clause-watered c =
    filled_watered _ _ _ (slotted (case_in c.args.well_formed.case) c.args.well_formed.well_formed.judged) c.fill_waters.ensures (le_refl 1024)

pub verdict_of_rows-verdict-requires-clause-bounded : goal.verdict_of_rows-verdict-requires-clause-bounded
verdict_of_rows-verdict-requires-clause-bounded c =
    let k = case_in c.args.well_formed.case in
    let h = c.args.well_formed.well_formed in
    row_bounded k h _ (filled_balanced k _ h.judged.counted c.fill_balances.ensures (le_refl 1024))

pub invariant_of-worked : goal.invariant_of-worked
invariant_of-worked c =
    let k = case_in c.args.well_formed.case in
    let h = c.args.well_formed.well_formed in
    record {
      worked = record {
        formed = h;
        watered = filled_watered _ _ _ (slotted k h.judged) c.fill_waters.ensures (le_refl 1024);
        balanced = filled_balanced k _ h.judged.counted c.fill_balances.ensures (le_refl 1024);
      };
    }

pub ruled-requires : goal.ruled-requires
ruled-requires c e =
    let k = case_in c.args.well_formed.case in
    let h = c.args.well_formed.well_formed in
    let told = c.verdict_of_rows-verdict.ensures ∙ verdict_on k (filled_balanced k _ h.judged.counted c.fill_balances.ensures (le_refl 1024)) in
    tables_wet k (stands_checked k h) (sym (ap (λ v. first_line_only v.code) told) ∙ e)

pub returns : goal.returns
returns c =
    let k = case_in c.args.well_formed.case in
    let h = c.args.well_formed.well_formed in
    c.ruled.ensures
    ∙ ap (ruling k) (c.verdict_of_rows-verdict.ensures ∙ verdict_on k (filled_balanced k _ h.judged.counted c.fill_balances.ensures (le_refl 1024)))
