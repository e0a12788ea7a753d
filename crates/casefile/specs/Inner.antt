-- The parts of a record, and the last part of a body, as functions of their own answer them. No answer is said with these: nothing here has to be believed.
use Rattle.std.specs.Prelude.{◌≡◌, List, MatchResult, Result, ℕ, ℤ}
use Rattle.grid.specs.Record.{counts, density, terms}
use Rattle.slices.specs.declared.refusal.Refusal.{Refusal as Fault}
use Rattle.slices.specs.Slices.{Case, first_refusal}
use Rattle.wellformed.specs.Limits.{limits_of}
use Rattle.fields.specs.declared.Part.TheVariants.{Counts, Density, Terms}
use Rattle.fields.specs.Fields.{refusal_of}
use Rattle.fields.specs.Runs.{Done, fill_of}
use Rattle.casefile.specs.Reading.{Read, giving, judging, refusing}

-- a part of the reading by what it is answered with: what is read from that part on is what follows it, or the refusal
abbrev pub Follows : {A : Type 0} → Result A Fault → Read → (A → Read) → Type 0
Follows answer from onward = MatchResult answer (λ a. from ≡ onward a) (λ e. from ≡ refusing (refusal_of e))

-- the counts, δ and the weights, and the terms, as far as they are read from a place
abbrev pub counts_at : List ℕ → List ℤ
counts_at file = (fill_of (Done 0) Counts file counts).values

abbrev pub density_at : List ℕ → ℕ → List ℤ
density_at file at = (fill_of (Done at) Density file density).values

abbrev pub terms_at : List ℕ → ℕ → List ℤ
terms_at file at = (fill_of (Done at) Terms file terms).values

-- "9, 10": a case that was read to its end, judged by these
unfoldable pub stored_of : Case → Read
stored_of c = judging (first_refusal (limits_of c)) (giving c)
