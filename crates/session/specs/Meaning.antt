-- What the theorems about printed tables speak of.
use Rattle.std.specs.Prelude.{◌≢◌, ◌≡◌, ◌*◌, ℕ, drop, take}
use Rattle.slices.specs.Slices.{none}
use Rattle.budget.specs.Answers.{Answer}
use Rattle.session.specs.Sessions.{Session}

-- lines of a table: "two rows, fresh and salt, of nine lines"
abbrev pub lines_each : ℕ
lines_each = 18

-- What the theorems about printed tables speak of: tables are printed unless "a refusal prints `refused`, number, block" or "With verdict 21 or 22 only the first
-- line is printed",
pub record Tabled (s : Session) : Type 0 where
  pub unrefused : s.refusal.number ≡ 0
  pub unmoved : s.verdict.code ≢ 21
  pub undried : s.verdict.code ≢ 22

-- and table n, counted from 0, as an answer that is not refused: its lines are those that are printed
abbrev pub printed_table : Session → ℕ → Answer
printed_table s n = record { refusal = none; lines = take lines_each (drop (lines_each * n) s.lines) }
