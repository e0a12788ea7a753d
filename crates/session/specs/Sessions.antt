-- What the program prints for a case (document 01, "Numbers worked by hand"), by its numbers: "It prints, in full".
use Rattle.std.specs.Prelude.{Bool, ◌||◌, cond, Err, List, Ok, Result, [], ◌++◌, ◌+◌, suc, zero, ℕ, eqb, ltb, pos, ℤ, length, replicate}
use Rattle.whole.specs.Lent.{over}
use Rattle.grid.specs.Units.{most_across}
use Rattle.slices.specs.declared.refusal.Refusal.{Refusal as Refused}
use Rattle.slices.specs.Refusals.{Refusal, refusal_in}
use Rattle.slices.specs.Slices.{Case, case_of, none, refusal, unless_refused}
use Rattle.verdict.specs.declared.Verdict.{Verdict}
use Rattle.verdict.specs.Ruling.{verdict_answer, no_verdict}
use Rattle.budget.specs.Answers.{layer_answer, whole_answer}
use Rattle.fields.specs.Fields.{most_slots}
use Rattle.casefile.specs.Reading.{Read, reading_of}
use Rattle.session.specs.declared.Session.{Session as Printed}

-- what is printed: a refusal, or beside number 0 a verdict, how many tables follow it, and the lines of the tables one after the other
pub record Session : Type 0 where
  pub refusal : Refusal
  pub verdict : Verdict
  pub tables : ℕ
  pub lines : List ℤ

-- lines of the most tables: one for each of 8 layers and one for the whole
abbrev pub most_lines : ℕ
most_lines = 162

-- 8: "in the program, before all else, a file above 28,672 bytes"
abbrev pub most_file : ℕ
most_file = 28672

-- lines that are all 0
abbrev pub no_tables : List ℤ
no_tables = replicate most_lines (pos 0)

-- "a refusal prints `refused`, number, block": beside it nothing is judged, and all is 0
abbrev pub refusing : Refusal → Session
refusing r = record { refusal = r; verdict = no_verdict; tables = 0; lines = no_tables }

-- what the functions' results say of it
abbrev pub printed_in : Printed → Session
printed_in s = record { refusal = none; verdict = s.verdict; tables = s.tables; lines = s.lines }

abbrev pub session_in : Result Printed Refused → Session
session_in (Ok s) = printed_in s
session_in (Err e) = refusing (refusal_in {A = Printed} (Err e))

-- "With verdict 21 or 22 only the first line is printed"
abbrev pub first_line_only : ℕ → Bool
first_line_only code = eqb code 21 || eqb code 22

-- the tables of the first n layers, "layers from 1", one after the other
unfoldable pub layers_of : Case → ℕ → List ℤ
layers_of c zero = []
layers_of c (suc n) = layers_of c n ++ (layer_answer c (suc n)).lines

-- all tables, "table lines in their order, layers from 1", and then the table of the whole
unfoldable pub tables_of : Case → List ℤ
tables_of c = layers_of c c.grid.layers ++ (whole_answer c).lines

-- a verdict by itself, and with the tables
abbrev pub alone : Verdict → Session
alone v = record { refusal = none; verdict = v; tables = 0; lines = no_tables }

abbrev pub with_tables : Case → Verdict → Session
with_tables c v = record { refusal = none; verdict = v; tables = c.grid.layers + 1; lines = over (tables_of c) no_tables }

-- what is printed beside an answer that is no refusal
unfoldable pub ruling : Case → Verdict → Session
ruling c v = cond (first_line_only v.code) (alone v) (with_tables c v)

-- "It prints, in full": what is printed for a case in slices
unfoldable pub session_of : Case → Session
session_of c = unless_refused (verdict_answer c).refusal (ruling c (verdict_answer c).verdict) (refusing (verdict_answer c).refusal)

-- the slices that the program lends to the reader
abbrev pub lent_widths : List ℤ
lent_widths = replicate most_across (pos 0)

abbrev pub lent_slots : List ℤ
lent_slots = replicate most_slots (pos 0)

-- the case that the lent slices hold where a file was read
unfoldable pub case_in : Read → Case
case_in r = case_of r.answer.grid (over r.columns lent_widths) (over r.rows lent_widths) (over r.slots lent_slots)

-- what is printed for a file that is not too long
unfoldable pub read_session : Read → Session
read_session r = unless_refused r.answer.refusal (session_of (case_in r)) (refusing r.answer.refusal)

-- "The program reads standard input": what is printed for a file
unfoldable pub file_session : List ℕ → Session
file_session file = cond (ltb most_file (length file)) (refusing (refusal 8 0)) (read_session (reading_of file lent_widths lent_widths lent_slots))
