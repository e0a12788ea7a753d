-- What the program's numbers tell (document 01, "Numbers worked by hand"): of which case, which verdict, and which table stands where. Assumes nothing.
use mathlib.Core.List.{List, ◌++◌, append_assoc}
use mathlib.Core.Logic.{◌↔◌}
use mathlib.Core.Path.{◌∙◌, ◌≡◌, ap, sym}
use Prim.Native.Nat.{◌*◌, ◌+◌, ◌<◌, ◌≤◌, ℕ}
use native.Mathlib.Decide.{ℕ_discrete}
use native.Mathlib.Omega.{arith}
use lib.ListN.{drop, length}
use lib.Seq.{drop_at, take_at}
use Rattle.slices.specs.Slices.{Case}
use Rattle.slices.specs.Inner.{Roomy}
use Rattle.wellformed.specs.Limits.{checked_of}
use Rattle.balance.specs.Balance.{balances_of}
use Rattle.verdict.specs.Acceptance.{Accepted}
use Rattle.verdict.specs.Ruling.{verdict_answer}
use Rattle.verdict.proofs.VerdictTheorems.{slices_accepted_exactly, verdict_room_unread}
use Rattle.zone.specs.Accounts.{AddUp, Closes}
use Rattle.zone.specs.Table.{lines_of}
use Rattle.budget.specs.Meaning.{Tells, read_of}
use Rattle.budget.specs.Answers.{everywhere, layer_answer, layer_zone, whole_answer}
use Rattle.budget.proofs.AnswersLaws.{tells_by_lines}
use Rattle.budget.proofs.LayersLaws.{add_up_same, layers_add_up}
use Rattle.budget.proofs.BudgetTheorems.{layer_room_unread, layer_told, table_closes, whole_room_unread, whole_told}
use Rattle.casefile.specs.Reading.{reading_of}
use Rattle.session.specs.Meaning.{Tabled, lines_each, printed_table}
use Rattle.session.specs.Sessions.{case_in, file_session, layers_of, lent_slots, lent_widths, no_tables, ruling, session_of, tables_of}
use Rattle.session.proofs.SessionLaws.{file_refused, file_unrefused, layer_among, layers_length, session_answered, tables_same, tables_told, whole_length}
use Rattle.wellformed.proofs.RoomLaws.{Alike}

-- ---- tables

-- The lines of layer n + 1 stand in their place among those that are printed, and they are what `layer_table` answers without a refusal.
pub layer_lines : (c : Case) → Tabled (session_of c) → (n : ℕ) → n < c.grid.layers
    → ((layer_answer c (n + 1)).refusal.number ≡ 0) × ((printed_table (session_of c) n).lines ≡ (layer_answer c (n + 1)).lines)
unfolding tables_of layer_answer
layer_lines c t n l =
    let told = tables_told c t in
    let layers = layers_of c c.grid.layers in
    let whole = (whole_answer c).lines in
    let rest = drop (length (tables_of c)) no_tables in
    (told.0, rw (told.1, append_assoc layers whole rest) (layer_among c n c.grid.layers (whole ++ rest) l))

-- The lines of the whole stand behind those of the layers, and they are what `whole_table` answers without a refusal.
pub whole_lines : (c : Case) → Tabled (session_of c)
    → ((whole_answer c).refusal.number ≡ 0) × ((printed_table (session_of c) c.grid.layers).lines ≡ (whole_answer c).lines)
unfolding tables_of whole_answer
whole_lines c t =
    let told = tables_told c t in
    let layers = layers_of c c.grid.layers in
    let whole = (whole_answer c).lines in
    let rest = drop (length (tables_of c)) no_tables in (
      told.0,
      rw (told.1, append_assoc layers whole rest, drop_at layers (whole ++ rest) (lines_each * c.grid.layers) (layers_length c c.grid.layers)) (take_at whole rest lines_each (whole_length c)),
    )

-- So the printed lines tell of the layer, and of the whole: what `table_closes`, `tables_add` and `error_at_most` say holds of them.
pub layer_printed : (c : Case) → Tabled (session_of c) → (n : ℕ) → n < c.grid.layers → Tells c (layer_zone c.grid (n + 1)) (printed_table (session_of c) n)
layer_printed c t n l =
    let lines = layer_lines c t n l in
    tells_by_lines (layer_answer c (n + 1)) (printed_table (session_of c) n) (sym lines.1) (layer_told c (n + 1) lines.0)

pub whole_printed : (c : Case) → Tabled (session_of c) → Tells c everywhere (printed_table (session_of c) c.grid.layers)
whole_printed c t =
    let lines = whole_lines c t in
    tells_by_lines (whole_answer c) (printed_table (session_of c) c.grid.layers) (sym lines.1) (whole_told c lines.0)

-- Every printed table closes.
pub printed_closes : (c : Case) → Tabled (session_of c) → (n fluid : ℕ) → n ≤ c.grid.layers → fluid < 2 → Closes (read_of (printed_table (session_of c) n) fluid)
printed_closes c t n fluid h l = go (ℕ_discrete n c.grid.layers)
  where
    go : Dec (n ≡ c.grid.layers) → Closes (read_of (printed_table (session_of c) n) fluid)
    go (yes e) = rw e (table_closes c everywhere (printed_table (session_of c) c.grid.layers) (whole_printed c t) fluid l)
    go (no e) = table_closes c (layer_zone c.grid (n + 1)) (printed_table (session_of c) n) (layer_printed c t n (omega arith)) fluid l

-- The printed lines of the layers add up to those of the whole.
pub printed_add_up : (c : Case) → Tabled (session_of c) → (fluid : ℕ) → fluid < 2
    → AddUp c.grid.layers (λ n. read_of (printed_table (session_of c) n) fluid) (read_of (printed_table (session_of c) c.grid.layers) fluid)
printed_add_up c t fluid l =
    let whole = whole_printed c t in
    add_up_same c.grid.layers (λ n. lines_of c (layer_zone c.grid (n + 1)) fluid) (λ n. read_of (printed_table (session_of c) n) fluid) (read_of (printed_table (session_of c) c.grid.layers) fluid)
    (λ n k. sym ((layer_printed c t n k).lines fluid l))
    (rw (whole.lines fluid l) (layers_add_up c whole.formed.judged.counted fluid))

-- ---- files

-- Demand 2, of a file: the program prints code 0 exactly where it prints no refusal and document 01 accepts the heads of the case in the file.
pub file_accepted_exactly : (file : List ℕ) → let c = case_in (reading_of file lent_widths lent_widths lent_slots) in
    ((file_session file).verdict.code ≡ 0) ↔ (((file_session file).refusal.number ≡ 0) × Accepted c.grid c.slots (balances_of c))
unfolding verdict_answer
file_accepted_exactly file = (told (ℕ_discrete (file_session file).refusal.number 0), λ h. ap (λ v. v.code) (judged h.0).1 ∙ (slices_accepted_exactly c).1 ((judged h.0).0, h.1))
  where
    c : Case
    c = case_in (reading_of file lent_widths lent_widths lent_slots)

    judged : (file_session file).refusal.number ≡ 0 → ((checked_of c).number ≡ 0) × ((file_session file).verdict ≡ (verdict_answer c).verdict)
    judged e =
        let of_case = file_unrefused file e in
        let answer = session_answered c in
        (sym (ap (λ r. r.number) answer.0) ∙ (rw of_case at e), rw of_case answer.1)

    told : Dec ((file_session file).refusal.number ≡ 0) → (file_session file).verdict.code ≡ 0 → ((file_session file).refusal.number ≡ 0) × Accepted c.grid c.slots (balances_of c)
    told (yes e) z = (e, ((slices_accepted_exactly c).0 (sym (ap (λ v. v.code) (judged e).1) ∙ z)).1)
    told (no n) z = absurd (omega (arith, ap (λ v. v.code) (file_refused file n), z))

-- "Room beyond what is needed is not touched.", nor is it read: what is printed for a case is told by the numbers that its record needs.
pub session_room_unread : (c d : Case) → Roomy c → Roomy d → Alike c d → session_of c ≡ session_of d
unfolding session_of ruling
session_room_unread c d m n a =
    let count : c.grid.layers ≡ d.grid.layers = ap (λ g. g.layers) a.grid in
    rw (verdict_room_unread c d m n a, tables_same c d count (λ layer. layer_room_unread c d layer m n a) (whole_room_unread c d m n a), count)
