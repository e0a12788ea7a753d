-- What goes over the front of a lent slice, by what a call answered. Assumes nothing.
use Rattle.std.proofs.Common.{◌∙◌, ◌≡◌, ◌≤◌, Err, IfOk, IsOkAnd, List, MatchResult, Ok, Result, [], ap, arith, length, refl, subst, sym, ℕ, ℤ}
use Rattle.std.specs.Result.{result_unwrap_or}
use borrow.Author.Tests.{ne_eqb}
use Rattle.grid.specs.declared.Grid.{Grid}
use Rattle.grid.specs.Inner.{Counted, Termed}
use Rattle.slices.specs.declared.refusal.Refusal.{Refusal as Refused}
use Rattle.slices.specs.Refusals.{Refusal, block_of, number_of, refusal_in}
use Rattle.slices.specs.Slices.{none, refusal}
use Rattle.slices.proofs.SlicesLaws.{refused_some}
use Rattle.report.specs.Reports.{answer_in as report_in}
use Rattle.verdict.specs.declared.Verdict.{Verdict}
use Rattle.verdict.specs.Ruling.{answer_in as verdict_in}
use Rattle.budget.specs.Answers.{answer_in as table_in}
use Rattle.casefile.specs.Reading.{answer_in as record_in}
use Rattle.crossing.specs.Crossing.{handed, read_handed, verdict_handed}
use Rattle.crossing.specs.Inner.{Small}
use Rattle.crossing.proofs.CrossingLaws.{handed_small, read_in_range}

-- ---- what the definitions say of a result: its refusal, and the value beside it

pub record Says {A Z : Type 0} (of : Result A Refused → Z) (refused : Z → Refusal) (value : Z → A) : Type 0 where
  pub ok : (x : A) → (refused (of (Ok x)) ≡ none) × (value (of (Ok x)) ≡ x)
  pub err : (e : Refused) → refused (of (Err e)) ≡ refusal (number_of e) (block_of e)

pub verdict_says : Says verdict_in (λ a. a.refusal) (λ a. a.verdict)
verdict_says = record { ok = λ x. (refl, refl); err = λ e. refl }

pub table_says : Says table_in (λ a. a.refusal) (λ a. a.lines)
table_says = record { ok = λ x. (refl, refl); err = λ e. refl }

pub report_says : Says report_in (λ a. a.refusal) (λ a. a.report)
report_says = record { ok = λ x. (refl, refl); err = λ e. refl }

pub record_says : Says record_in (λ a. a.refusal) (λ a. a.grid)
record_says = record { ok = λ x. (refl, refl); err = λ e. refl }

-- ---- a row of numbers for what is answered, or the refusal

abbrev pub Rowed : {A B : Type 0} → (A → List B) → Result A Refused → Result (List B) Refused → Type 0
Rowed numbers r given = MatchResult r (λ x. given ≡ Ok (numbers x)) (λ e. given ≡ Err e)

-- as a call of `map` gives it
pub rowed : {A B : Type 0} {numbers : A → List B} {P : A → List B → Type 0} (r : Result A Refused) (given : Result (List B) Refused) → MatchResult r (λ x. IsOkAnd given (P x)) (λ e. given ≡ Err e)
    → ((x : A) (values : List B) → P x values → values ≡ numbers x) → Rowed numbers r given
rowed (Ok x) (Ok values) cases is = ap Ok (is x values cases)
rowed (Ok x) (Err e) cases is = elim cases [ ]
rowed (Err e) given cases is = cases

-- lines are a row already
pub lines_rowed : (r : Result (List ℤ) Refused) → Rowed (λ lines. lines) r r
lines_rowed (Ok lines) = refl
lines_rowed (Err e) = refl

-- what has room for a row of so many numbers, where something is answered, has room for the row
pub row_fits : {A B : Type 0} (numbers : A → List B) (n room : ℕ) (r : Result A Refused) (given : Result (List B) Refused) → Rowed numbers r given → IfOk given (λ values. length values ≡ n) → ((x : A) → r ≡ Ok x → n ≤ room)
    → IfOk given (λ values. length values ≤ room)
row_fits numbers n room (Ok x) (Ok values) row wide fits = omega (arith, fits x refl, wide)
row_fits numbers n room (Ok x) (Err e) row wide fits = tt
row_fits numbers n room (Err e) given row wide fits = rw row tt

-- beside an answer stands no refusal, and the answer is the value
pub passes : {A Z : Type 0} {of : Result A Refused → Z} {refused : Z → Refusal} {value : Z → A} {r : Result A Refused} {a : Z} → Says of refused value → of r ≡ a → (x : A) → r ≡ Ok x → ((refused a).number ≡ 0) × (value a ≡ x)
passes {of = of} {refused = refused} {value = value} says told x e =
    let same = sym told ∙ ap of e in (ap (λ z. (refused z).number) same ∙ ap (λ (q : Refusal). q.number) (says.ok x).0, ap value same ∙ (says.ok x).1)

-- what `hand` puts over the front of what is lent
abbrev pub given_in : {A : Type 0} → Result (List A) Refused → List A
given_in r = handed (refusal_in r) (result_unwrap_or r [])

-- "no lent slice changes by it": nothing is handed over beside a refusal
handed_nothing : {A : Type 0} (e : Refused) (values : List A) → handed (refusal (number_of e) (block_of e)) [] ≡ handed (refusal (number_of e) (block_of e)) values
handed_nothing e values = rw (ne_eqb (number_of e) 0 (refused_some e)) refl

pub handed_row : {A B Z : Type 0} {of : Result A Refused → Z} {refused : Z → Refusal} {value : Z → A} (numbers : A → List B) → Says of refused value → (r : Result A Refused) (given : Result (List B) Refused) (a : Z) → of r ≡ a
    → Rowed numbers r given → given_in given ≡ handed (refused a) (numbers (value a))
handed_row {A} {B} {Z} {of} {refused} {value} numbers says (Ok x) given a told row =
    ap given_in row
    ∙ ap numbers (sym (says.ok x).1)
    ∙ ap (λ (q : Refusal). handed q (numbers (value (of (Ok x))))) (sym (says.ok x).0)
    ∙ ap (λ (z : Z). handed (refused z) (numbers (value z))) told
handed_row {A} {B} {Z} {of} {refused} {value} numbers says (Err e) given a told row =
    ap given_in row
    ∙ handed_nothing e (numbers (value (of (Err e))))
    ∙ ap (λ (q : Refusal). handed q (numbers (value (of (Err e))))) (sym (says.err e))
    ∙ ap (λ (z : Z). handed (refused z) (numbers (value z))) told

-- ---- what crosses is in range

pub verdict_small : (row columns rows slots : List ℤ) (room : ℕ) (r : Result Verdict Refused) → verdict_in r ≡ verdict_handed row columns rows slots room → (v : Verdict) → r ≡ Ok v → Small v
verdict_small row columns rows slots room r told v e = subst Small (passes verdict_says told v e).1 (handed_small row columns rows slots room)

pub record_ranged : (file : List ℕ) (room : ℕ) (columns rows slots : List ℤ) (r : Result Grid Refused) → record_in r ≡ (read_handed file room columns rows slots).answer → (g : Grid) → r ≡ Ok g → Counted g × Termed g
record_ranged file room columns rows slots r told g e =
    let p = passes record_says told g e in
    subst (λ (g : Grid). Counted g × Termed g) p.1 (read_in_range file room columns rows slots p.0)
