-- Laws of what is printed: how many lines tables have, and what stands beside an answer. Assumes nothing.
use mathlib.Core.Bool.{Bool, ◌||◌, cond, false, true, true≢false}
use mathlib.Core.List.{List, ◌++◌, append_assoc}
use mathlib.Core.Logic.{◌↔◌, ◌≢◌, ⊎_elim}
use mathlib.Core.Path.{◌∙◌, ◌≡◌, ap, ap₂, refl, sym}
use Prim.Native.Nat.{◌*◌, ◌+◌, ◌-◌, ◌<◌, ◌≤◌, suc, zero, ℕ}
use native.Mathlib.Decide.{dec_lt, ℕ_discrete}
use native.Mathlib.Nat.{eq-or-lt_of_le, le_of_suc-le-suc}
use native.Mathlib.Numerals.{add-one}
use native.Mathlib.Omega.{arith}
use lib.Dec.{eqb}
use lib.IntN.{pos, ℤ}
use lib.ListN.{drop, length, length-append, replicate, take}
use lib.Seq.{drop_at, take_at}
use borrow.Author.Tests.{eq-eqb, le-ltb, lt-ltb, ne_eqb}
use Rattle.std.specs.Prelude.{Err, Ok, Result}
use borrow.Rule.Slice.PartMut.{put_mid}
use Rattle.whole.specs.Lent.{over}
use Rattle.whole.proofs.LentLaws.{over_rest}
use Rattle.whole.proofs.SearchLaws.{not_left, not_right}
use Rattle.grid.specs.declared.Grid.{Grid}
use Rattle.grid.specs.Place.{blocks_of}
use Rattle.slices.specs.declared.refusal.Refusal.{Refusal as Refused}
use Rattle.slices.specs.Refusals.{Refusal, number_of}
use Rattle.slices.specs.Slices.{Case, case_of, none, refusal}
use Rattle.slices.proofs.SlicesLaws.{none_refused, none_together, refused_same, refused_some}
use Rattle.wellformed.specs.Limits.{checked_of, checks_of}
use Rattle.books.specs.Inner.{Row, pair_of}
use Rattle.books.specs.Waters.{well_checks}
use Rattle.books.proofs.WatersLaws.{wet_wells}
use Rattle.balance.specs.Balance.{balances_of}
use Rattle.verdict.specs.declared.Verdict.{Verdict}
use Rattle.verdict.specs.Ruling.{no_verdict, verdict_answer, verdict_by, verdict_of}
use Rattle.verdict.proofs.RulingLaws.{verdict_same}
use Rattle.verdict.proofs.AcceptanceLaws.{ruled_wet}
use Rattle.budget.specs.Answers.{case_refusal, eighteen_of, everywhere, layer_answer, layer_zone, tabled, whole_answer}
use Rattle.budget.specs.Table.{row_of}
use Rattle.budget.proofs.AnswersLaws.{layer_given, whole_given}
use Rattle.casefile.specs.Reading.{Read, answer_in, reading_of}
use Rattle.session.specs.Meaning.{Tabled}
use Rattle.session.specs.declared.Session.{Session as Given}
use Rattle.session.specs.Sessions.{Session, alone, case_in, file_session, first_line_only, layers_of, lent_slots, lent_widths, most_file, no_tables, read_session, refusing, ruling, session_in, session_of, tables_of, with_tables}

-- ---- lines of tables

-- lines beside a refusal or none are as many
tabled_length : (r : Refusal) (lines : List ℤ) → length lines ≡ 18 → length (tabled r lines).lines ≡ 18
tabled_length r lines h = go (eqb r.number 0)
  where
    go : (b : Bool) → length (cond b lines (replicate 18 (pos 0))) ≡ 18
    go true = h
    go false = refl

-- a zone has eighteen lines
eighteen_length : (c : Case) (z : ℕ → Bool) → length (eighteen_of c z) ≡ 18
unfolding eighteen_of row_of
eighteen_length c z = refl

-- the table of a layer has eighteen lines
pub layer_length : (c : Case) (n : ℕ) → length (layer_answer c n).lines ≡ 18
unfolding layer_answer
layer_length c n = tabled_length (case_refusal c) (eighteen_of c (layer_zone c.grid n)) (eighteen_length c (layer_zone c.grid n))

-- the table of the whole has eighteen lines
pub whole_length : (c : Case) → length (whole_answer c).lines ≡ 18
unfolding whole_answer
whole_length c = tabled_length (case_refusal c) (eighteen_of c everywhere) (eighteen_length c everywhere)

-- the tables of the first n layers have eighteen lines each
pub layers_length : (c : Case) (n : ℕ) → length (layers_of c n) ≡ 18 * n
unfolding layers_of
layers_length c zero = refl
layers_length c (suc n) = omega (arith, length-append (layers_of c n) (layer_answer c (suc n)).lines, layer_length c (suc n), layers_length c n)

-- one layer more
pub layers_more : (c : Case) (n : ℕ) → layers_of c (n + 1) ≡ layers_of c n ++ (layer_answer c (n + 1)).lines
unfolding layers_of
layers_more c n = rw add-one

-- the table of one layer more goes over the rest of a slice, right behind those of the layers before it; and that of the whole behind those of all layers
module _ (c : Case) (wet : (case_refusal c).number ≡ 0) (l : List ℤ) {lines out rest : List ℤ} where
  pub layer_put : (n : ℕ) → lines ≡ eighteen_of c (layer_zone c.grid (n + 1)) → out ≡ over (layers_of c n) l → rest ≡ over lines (take (length out - 18 * n) (drop (18 * n) out))
      → put_mid (18 * n) (length out - 18 * n) out rest ≡ over (layers_of c (n + 1)) l
  layer_put n told before put =
      over_rest (layers_of c n) lines l (layers_length c n) before put ∙ ap (λ (vs : List ℤ). over vs l) (ap (λ (vs : List ℤ). layers_of c n ++ vs) (told ∙ sym (layer_given c (n + 1) wet)) ∙ sym (layers_more c n))

  pub whole_put : lines ≡ eighteen_of c everywhere → out ≡ over (layers_of c c.grid.layers) l → rest ≡ over lines (take (length out - 18 * c.grid.layers) (drop (18 * c.grid.layers) out))
      → put_mid (18 * c.grid.layers) (length out - 18 * c.grid.layers) out rest ≡ over (tables_of c) l
  unfolding tables_of
  whole_put told before put =
      over_rest (layers_of c c.grid.layers) lines l (layers_length c c.grid.layers) before put ∙ ap (λ (vs : List ℤ). over (layers_of c c.grid.layers ++ vs) l) (told ∙ sym (whole_given c wet))

-- a layer's table is found again among those of the first m layers
pub layer_among : (c : Case) (n m : ℕ) (rest : List ℤ) → n < m → take 18 (drop (18 * n) (layers_of c m ++ rest)) ≡ (layer_answer c (n + 1)).lines
unfolding layers_of
layer_among c n zero rest l = absurd (omega arith)
layer_among c n (suc m) rest l =
    let lines = (layer_answer c (suc m)).lines in
    rw (append_assoc (layers_of c m) lines rest)
    (⊎_elim (λ same. rw same (rw (drop_at (layers_of c m) (lines ++ rest) (18 * m) (layers_length c m), add-one) (take_at lines rest 18 (layer_length c (suc m)))))
    (λ less. layer_among c n m (lines ++ rest) less)
    (eq-or-lt_of_le (le_of_suc-le-suc l)))

-- cases with as many layers and the same table of each and of the whole have the same tables
layers_same : (c d : Case) → ((layer : ℕ) → layer_answer c layer ≡ layer_answer d layer) → (n : ℕ) → layers_of c n ≡ layers_of d n
unfolding layers_of
layers_same c d layers zero = refl
layers_same c d layers (suc n) = ap₂ (λ before answer. before ++ answer.lines) (layers_same c d layers n) (layers (suc n))

pub tables_same : (c d : Case) → c.grid.layers ≡ d.grid.layers → ((layer : ℕ) → layer_answer c layer ≡ layer_answer d layer) → whole_answer c ≡ whole_answer d → tables_of c ≡ tables_of d
unfolding tables_of
tables_same c d count layers whole = ap₂ (λ before answer. before ++ answer.lines) (layers_same c d layers c.grid.layers ∙ ap (layers_of d) count) whole

-- ---- what stands beside a refusal, or a verdict

-- the verdict by a row of the case's balances is that on the case
pub verdict_on : (c : Case) {balances : List ℤ} → Row (blocks_of c.grid) (balances_of c) balances → verdict_by c.grid c.slots (pair_of balances) ≡ verdict_of c
unfolding verdict_of
verdict_on c {balances} row = verdict_same c.grid c.slots (pair_of balances) (balances_of c) row.each

not_either : (m n code : ℕ) → eqb code m || eqb code n ≡ false → (code ≢ m) × (code ≢ n)
not_either m n code f = (λ e. true≢false (sym (eq-eqb code m e) ∙ not_left (eqb code m) (eqb code n) f), λ e. true≢false (sym (eq-eqb code n e) ∙ not_right (eqb code m) (eqb code n) f))

neither : (m n code : ℕ) → code ≢ m → code ≢ n → eqb code m || eqb code n ≡ false
neither m n code h k = rw (ne_eqb code m h, ne_eqb code n k)

module _ (c : Case) where
  -- the numbers of a refusal
  pub session_refused : {r : Refusal} → r ≡ checked_of c → (r.number ≡ 0 → ⊥) → refusing r ≡ session_of c
  unfolding session_of verdict_answer
  session_refused {r} told n = rw (← told, ne_eqb r.number 0 n)

  -- or what is printed beside the verdict on the case
  pub session_ruled : (checked_of c).number ≡ 0 → ruling c (verdict_of c) ≡ session_of c
  unfolding session_of verdict_answer
  session_ruled e = rw (eq-eqb (checked_of c).number 0 e)

  -- a verdict alone
  pub ruling_alone : (v : Verdict) → first_line_only v.code ≡ true → alone v ≡ ruling c v
  unfolding ruling
  ruling_alone v f = rw f

  -- a verdict and the tables
  pub ruling_tables : (v : Verdict) {lines : List ℤ} → first_line_only v.code ≡ false → lines ≡ over (tables_of c) no_tables → record { refusal = none; verdict = v; tables = c.grid.layers + 1; lines = lines } ≡ ruling c v
  unfolding ruling
  ruling_tables v f e = rw (f, e)

  -- beside which no well is dry
  pub tables_wet : (checked_of c).number ≡ 0 → first_line_only (verdict_of c).code ≡ false → (case_refusal c).number ≡ 0
  unfolding verdict_of
  tables_wet e f =
      let codes = not_either 21 22 (verdict_of c).code f in
      none_together (checks_of c) (well_checks c) e (wet_wells c (ruled_wet c.grid c.slots (balances_of c) codes.0 codes.1))

-- ---- the three ways of what is printed

data Printed (c : Case) : Type 0 where
  refused : (checked_of c).number ≢ 0 → session_of c ≡ refusing (checked_of c) → Printed c
  first_line : (checked_of c).number ≡ 0 → first_line_only (verdict_of c).code ≡ true → session_of c ≡ alone (verdict_of c) → Printed c
  in_full : (checked_of c).number ≡ 0 → first_line_only (verdict_of c).code ≡ false → session_of c ≡ with_tables c (verdict_of c) → Printed c

printed : (c : Case) → Printed c
printed c = judge (ℕ_discrete (checked_of c).number 0)
  where
    rule : (checked_of c).number ≡ 0 → (b : Bool) → first_line_only (verdict_of c).code ≡ b → Printed c
    rule e true f = first_line e f (sym (session_ruled c e) ∙ sym (ruling_alone c (verdict_of c) f))
    rule e false f = in_full e f (sym (session_ruled c e) ∙ sym (ruling_tables c (verdict_of c) f refl))

    judge : Dec ((checked_of c).number ≡ 0) → Printed c
    judge (yes e) = rule e (first_line_only (verdict_of c).code) refl
    judge (no n) = refused n (sym (session_refused c refl n))

-- As many tables as there are layers, and one for the whole, are printed exactly where the case is not refused and the code is neither 21 nor 22.
pub tables_exactly : (c : Case) → ((session_of c).tables ≡ c.grid.layers + 1) ↔ Tabled (session_of c)
tables_exactly c = (from (printed c), to (printed c))
  where
    from : Printed c → (session_of c).tables ≡ c.grid.layers + 1 → Tabled (session_of c)
    from (refused n r) e = absurd (omega (arith, e, ap (λ s. s.tables) r))
    from (first_line h f r) e = absurd (omega (arith, e, ap (λ s. s.tables) r))
    from (in_full h f r) e =
        let codes = not_either 21 22 (verdict_of c).code f in
        rw r (record { unrefused = refl; unmoved = codes.0; undried = codes.1 })

    to : Printed c → Tabled (session_of c) → (session_of c).tables ≡ c.grid.layers + 1
    to (refused n r) t = absurd (n (rw r at t).unrefused)
    to (first_line h f r) t = absurd (true≢false (sym f ∙ neither 21 22 (verdict_of c).code (rw r at t).unmoved (rw r at t).undried))
    to (in_full h f r) t = ap (λ s. s.tables) r

-- beside them no well is dry, and the lines are theirs
pub tables_told : (c : Case) → Tabled (session_of c) → ((case_refusal c).number ≡ 0) × ((session_of c).lines ≡ over (tables_of c) no_tables)
tables_told c t = go (printed c)
  where
    go : Printed c → ((case_refusal c).number ≡ 0) × ((session_of c).lines ≡ over (tables_of c) no_tables)
    go (refused n r) = absurd (n (rw r at t).unrefused)
    go (first_line h f r) = absurd (true≢false (sym f ∙ neither 21 22 (verdict_of c).code (rw r at t).unmoved (rw r at t).undried))
    go (in_full h f r) = (tables_wet c h f, ap (λ s. s.lines) r)

-- what is printed has the answer's refusal and verdict, and with them code 20 beside a refusal
pub session_answered : (c : Case) → ((session_of c).refusal ≡ (verdict_answer c).refusal) × ((session_of c).verdict ≡ (verdict_answer c).verdict)
unfolding verdict_answer
session_answered c = go (printed c)
  where
    go : Printed c → ((session_of c).refusal ≡ (verdict_answer c).refusal) × ((session_of c).verdict ≡ (verdict_answer c).verdict)
    go (refused n r) = (ap (λ s. s.refusal) r, ap (λ s. s.verdict) r ∙ rw (ne_eqb (checked_of c).number 0 n))
    go (first_line h f r) = (ap (λ s. s.refusal) r ∙ sym (none_refused (checks_of c) h), ap (λ s. s.verdict) r ∙ rw (eq-eqb (checked_of c).number 0 h))
    go (in_full h f r) = (ap (λ s. s.refusal) r ∙ sym (none_refused (checks_of c) h), ap (λ s. s.verdict) r ∙ rw (eq-eqb (checked_of c).number 0 h))

-- ---- a file

-- a file that is too long
pub file_long : (file : List ℕ) → most_file < length file → refusing (refusal 8 0) ≡ file_session file
unfolding file_session
file_long file h = rw (lt-ltb most_file (length file) h)

-- one that is not is read
pub file_read : (file : List ℕ) → length file ≤ most_file → file_session file ≡ read_session (reading_of file lent_widths lent_widths lent_slots)
unfolding file_session
file_read file h = rw (le-ltb most_file (length file) h)

-- what is printed for a file that was refused as it was read
pub read_refused : (r : Read) (e : Refused) → answer_in (Err e) ≡ r.answer → session_in (Err e) ≡ read_session r
unfolding read_session
read_refused r e told = rw (← told, ne_eqb (number_of e) 0 (refused_some e))

-- and for one that was not
pub read_unrefused : (r : Read) (g : Grid) (columns rows slots : List ℤ) → answer_in (Ok g) ≡ r.answer → columns ≡ over r.columns lent_widths → rows ≡ over r.rows lent_widths → slots ≡ over r.slots lent_slots → session_of (case_of g columns rows slots) ≡ read_session r
unfolding read_session case_in
read_unrefused r g columns rows slots told e f h = rw (← told) (λ i. session_of (case_of g (e i) (f i) (h i)))

-- a file for which no refusal is printed was read
pub file_unrefused : (file : List ℕ) → (file_session file).refusal.number ≡ 0 → file_session file ≡ session_of (case_in (reading_of file lent_widths lent_widths lent_slots))
unfolding file_session read_session
file_unrefused file = go (dec_lt most_file (length file)) (ℕ_discrete (reading_of file lent_widths lent_widths lent_slots).answer.refusal.number 0)
  where
    r : Read
    r = reading_of file lent_widths lent_widths lent_slots

    go : Dec (most_file < length file) → Dec (r.answer.refusal.number ≡ 0) → (file_session file).refusal.number ≡ 0 → file_session file ≡ session_of (case_in r)
    go (yes h) d e = let z : ◌≡◌ {A = ℕ} 8 0 = rw (lt-ltb most_file (length file) h) at e in absurd (omega arith)
    go (no h) (yes z) e = rw (le-ltb most_file (length file) (omega arith), eq-eqb r.answer.refusal.number 0 z) refl
    go (no h) (no z) e = absurd (z (rw (le-ltb most_file (length file) (omega arith), ne_eqb r.answer.refusal.number 0 z) at e))

-- and one for which a refusal is printed was not judged
pub file_refused : (file : List ℕ) → (file_session file).refusal.number ≢ 0 → (file_session file).verdict ≡ no_verdict
unfolding file_session read_session
file_refused file n = go (dec_lt most_file (length file)) (ℕ_discrete r.answer.refusal.number 0)
  where
    r : Read
    r = reading_of file lent_widths lent_widths lent_slots

    of_case : Printed (case_in r) → (session_of (case_in r)).refusal.number ≢ 0 → (session_of (case_in r)).verdict ≡ no_verdict
    of_case (refused h e) n = ap (λ s. s.verdict) e
    of_case (first_line h f e) n = absurd (n (ap (λ s. s.refusal.number) e))
    of_case (in_full h f e) n = absurd (n (ap (λ s. s.refusal.number) e))

    go : Dec (most_file < length file) → Dec (r.answer.refusal.number ≡ 0) → (file_session file).verdict ≡ no_verdict
    go (yes h) d = rw (lt-ltb most_file (length file) h)
    go (no h) (no z) = rw (le-ltb most_file (length file) (omega arith), ne_eqb r.answer.refusal.number 0 z)
    go (no h) (yes z) =
        let e = file_read file (omega arith) in
        let read : read_session r ≡ session_of (case_in r) = rw (eq-eqb r.answer.refusal.number 0 z) refl in
        rw (e, read) (of_case (printed (case_in r)) (rw (e, read) at n))

-- ---- one outcome

-- two results that are printed alike are one
pub results_one : (r s : Result Given Refused) → session_in r ≡ session_in s → r ≡ s
results_one (Ok x) (Ok y) e = λ i. Ok (record { verdict = (e i).verdict; tables = (e i).tables; lines = (e i).lines })
results_one (Ok x) (Err d) e = absurd (refused_some d (sym (ap (λ (s : Session). s.refusal.number) e)))
results_one (Err d) (Ok y) e = absurd (refused_some d (ap (λ (s : Session). s.refusal.number) e))
results_one (Err c) (Err d) e = ap Err (refused_same c d (ap (λ (s : Session). s.refusal.number) e) (ap (λ (s : Session). s.refusal.block) e))
