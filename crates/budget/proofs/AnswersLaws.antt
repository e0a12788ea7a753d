-- What a client is answered: zones without marks, refusals beside zeros, and lines beside no refusal. Assumes nothing.
use mathlib.Core.Bool.{Bool, cond, false, true}
use mathlib.Core.List.{List, [], ◌++◌, ◌∷◌}
use mathlib.Core.Logic.{◌↔◌, ◌≢◌}
use mathlib.Core.Path.{◌∙◌, ◌≡◌, ap, ap₂, refl, sym}
use Prim.Native.Nat.{◌+◌, ◌<◌, ◌≤◌, suc, zero, ℕ}
use native.Mathlib.Decide.{ℕ_discrete}
use native.Mathlib.Numerals.{add-one}
use native.Mathlib.Omega.{arith}
use lib.Dec.{T}
use lib.IntN.{pos, ℤ}
use lib.ListN.{get_or, get_or-replicate, length, length-set, replicate, set}
use lib.Seq.{get_or-set_other, get_or-set_same}
use lib.Signed.{lt_z}
use borrow.Author.Tests.{eq-eqb, ne_eqb}
use Rattle.whole.proofs.SearchLaws.{holds, true_is}
use Rattle.grid.specs.Inner.{Counted}
use Rattle.grid.specs.Place.{blocks_of}
use Rattle.grid.specs.Units.{most_blocks}
use Rattle.slots.proofs.SlotsLaws.{SameTo}
use Rattle.std.specs.Prelude.{Err, None, Ok, Option, Result, Some}
use Rattle.whole.specs.Search.{found_of}
use Rattle.slices.specs.declared.refusal.Refusal.TheVariants.{DryWell, Marks}
use Rattle.slices.proofs.SlicesLaws.{unless_alone}
use Rattle.slices.specs.declared.refusal.Refusal.{Refusal as Refused}
use Rattle.slices.specs.Refusals.{Refusal, block_of as named_by, number_of}
use Rattle.slices.proofs.SlicesLaws.{refused_same, refused_some}
use Rattle.slices.specs.Slices.{Case, blaming, contents_of, first_refusal, lent_of, none, or_else, refusal, shape_of, unless}
use Rattle.slices.proofs.SlicesLaws.{by_block, by_one, by_test, first_append, first_goes_on, first_stays, given_same, names_blames}
use Rattle.block.specs.Fluids.{fresh, salt}
use Rattle.books.specs.Bookkeeping.{books_of}
use Rattle.balance.proofs.SameLaws.{SameCases}
use Rattle.wellformed.specs.Inner.{WellFormed}
use Rattle.wellformed.specs.Limits.{checked_lent, lent_checks_of, limits_of}
use Rattle.wellformed.proofs.WellformedTheorems.{lent_refused_exactly, lent_wellformed_exactly}
use Rattle.books.specs.Waters.{dry_at, dry_of, well_checks}
use Rattle.zone.specs.declared.lines.Lines.{Lines}
use Rattle.zone.specs.Zones.{marked_of}
use Rattle.zone.proofs.LinesLaws.{lines_of_same, lines_same, lines_told}
use Rattle.budget.specs.Answers.{Answer}
use Rattle.budget.specs.Meaning.{TableRefused, Tells, eleven, read_of, slices, thirteen}
use Rattle.budget.specs.declared.Answer.{Answer as Given}
use Rattle.budget.specs.Answers.{answer_in, answer_of, refusal_of, case_refusal, eighteen_of, everywhere, layer_answer, layer_zone, marks_hold, no_lines, refusing, table_checks, tabled, whole_answer}
use Rattle.budget.specs.Inner.{flat_of, mark_of, marks_of, table_to}
use Rattle.budget.specs.Table.{row_of}

-- ---- marks put in

pub marks_start : (z : ℕ → Bool) (row : List ℤ) → marks_of 0 z row ≡ row
unfolding marks_of
marks_start z row = refl

pub marks_more : (n : ℕ) (z : ℕ → Bool) (row : List ℤ) → marks_of (n + 1) z row ≡ set (marks_of n z row) n (mark_of z n)
unfolding marks_of
marks_more n z row = rw add-one

marks_length : (n : ℕ) (z : ℕ → Bool) (row : List ℤ) → length (marks_of n z row) ≡ length row
unfolding marks_of
marks_length zero z row = refl
marks_length (suc n) z row = length-set (marks_of n z row) n (mark_of z n) ∙ marks_length n z row

marks_at : (n : ℕ) (z : ℕ → Bool) (row : List ℤ) → n ≤ length row → (i : ℕ) → i < n → get_or (marks_of n z row) i (pos 0) ≡ mark_of z i
unfolding marks_of
marks_at zero z row h i l = absurd (omega arith)
marks_at (suc n) z row h i l = step (ℕ_discrete i n) (marks_at n z row (omega (arith, h)) i)
  where
    step : Dec (i ≡ n) → (i < n → get_or (marks_of n z row) i (pos 0) ≡ mark_of z i) → get_or (set (marks_of n z row) n (mark_of z n)) i (pos 0) ≡ mark_of z i
    step (yes p) before = rw p (get_or-set_same (marks_of n z row) n (mark_of z n) (pos 0) (omega (arith, h, marks_length n z row)))
    step (no q) before = get_or-set_other (marks_of n z row) n i (mark_of z n) (pos 0) q ∙ before (omega (arith, l, q))

-- the blocks that are marked are those of the zone
marks_marked : (n : ℕ) (z : ℕ → Bool) (row : List ℤ) → n ≤ length row → (i : ℕ) → i < n → marked_of (marks_of n z row) i ≡ z i
unfolding marked_of
marks_marked n z row h i l = rw (marks_at n z row h i l) (go (z i))
  where
    go : (b : Bool) → lt_z (pos 0) (cond b (pos 1) (pos 0)) ≡ b
    go true = refl
    go false = refl

ones_marked : (i : ℕ) → i < most_blocks → marked_of (replicate most_blocks (pos 1)) i ≡ everywhere i
unfolding marked_of
ones_marked i l = rw (get_or-replicate most_blocks i (pos 1) (pos 0) l)

-- and only they count
pub eighteen_same : (c : Case) → Counted c.grid → (z w : ℕ → Bool) → ((i : ℕ) → i < blocks_of c.grid → z i ≡ w i) → eighteen_of c z ≡ eighteen_of c w
unfolding eighteen_of
eighteen_same c counted z w alike = ap₂ (λ a b. row_of a ++ row_of b) (lines_same c counted z w alike fresh) (lines_same c counted z w alike salt)

-- two cases of one record with the same books have the same lines
pub eighteen_of_same : {c e : Case} → Counted c.grid → c.grid ≡ e.grid → SameCases c e fresh → SameCases c e salt → (z : ℕ → Bool) → eighteen_of c z ≡ eighteen_of e z
unfolding eighteen_of
eighteen_of_same counted grid f s z = ap₂ (λ a b. row_of a ++ row_of b) (lines_of_same counted grid f z) (lines_of_same counted grid s z)

-- so that the marks of a layer give its lines, and marks of 1 those of the whole
pub layer_marked : (c : Case) → Counted c.grid → (layer : ℕ) (row : List ℤ) → blocks_of c.grid ≤ length row
    → eighteen_of c (marked_of (marks_of (blocks_of c.grid) (layer_zone c.grid layer) row)) ≡ eighteen_of c (layer_zone c.grid layer)
layer_marked c counted layer row h =
    let z = layer_zone c.grid layer in
    eighteen_same c counted (marked_of (marks_of (blocks_of c.grid) z row)) z (marks_marked (blocks_of c.grid) z row h)

pub whole_marked : (c : Case) → Counted c.grid → eighteen_of c (marked_of (replicate most_blocks (pos 1))) ≡ eighteen_of c everywhere
whole_marked c counted = eighteen_same c counted (marked_of (replicate most_blocks (pos 1))) everywhere (λ i l. ones_marked i (omega (arith, l, counted.blocks_most)))

-- marks alike up to the last block mark the same blocks
pub marked_same : (n : ℕ) (marks others : List ℤ) → SameTo n marks others → (i : ℕ) → i < n → marked_of marks i ≡ marked_of others i
unfolding marked_of
marked_same n marks others same i l = ap (lt_z (pos 0)) (same i l)

-- ---- answers, judged run by run

-- an answer is told by its refusal and, where nothing is refused, by its lines
pub tabled_same : {r q : Refusal} (lines others : List ℤ) → r ≡ q → (r.number ≡ 0 → lines ≡ others) → tabled r lines ≡ tabled q others
tabled_same lines others e same = λ k. record { refusal = e k; lines = given_same lines others no_lines e same k }

module _ (xs ys : List Refusal) (r : Refusal) (lines : List ℤ) (told : r ≡ first_refusal xs) where
  pub tabled_stays : (r.number ≡ 0 → ⊥) → refusing r ≡ tabled (first_refusal (xs ++ ys)) lines
  tabled_stays h = rw (← first_stays xs ys r told h, ne_eqb r.number 0 h)

  pub tabled_goes_on : r.number ≡ 0 → tabled (first_refusal ys) lines ≡ tabled (first_refusal (xs ++ ys)) lines
  tabled_goes_on h = ap (λ q. tabled q lines) (first_goes_on xs ys r told (first_refusal ys) h refl)

pub dry_tabled : (b : ℕ) (lines : List ℤ) → 0 < b → refusing (refusal 13 b) ≡ tabled (first_refusal (blaming 13 b ∷ [])) lines
unfolding first_refusal or_else
dry_tabled zero lines l = absurd (omega arith)
dry_tabled (suc b) lines l = refl

pub wet_tabled : (b : ℕ) (lines : List ℤ) → b ≤ 0 → record { refusal = none; lines = lines } ≡ tabled (first_refusal (blaming 13 b ∷ [])) lines
unfolding first_refusal or_else
wet_tabled zero lines l = refl
wet_tabled (suc b) lines l = absurd (omega arith)

-- the table of all blocks, laid flat
pub flat_table : (c : Case) (z : ℕ → Bool) → flat_of (table_to (blocks_of c.grid) c z) ≡ eighteen_of c z
unfolding flat_of table_to eighteen_of
flat_table c z =
    sym (ap₂ (λ a b. row_of a ++ row_of b) (lines_told c.grid c.slots (books_of c fresh) z) (lines_told c.grid c.slots (books_of c salt) z))

-- where a case is refused nothing, the lines of a layer and of the whole are given
pub layer_given : (c : Case) (layer : ℕ) → (case_refusal c).number ≡ 0 → (layer_answer c layer).lines ≡ eighteen_of c (layer_zone c.grid layer)
unfolding layer_answer
layer_given c layer e = rw (eq-eqb (case_refusal c).number 0 e)

pub whole_given : (c : Case) → (case_refusal c).number ≡ 0 → (whole_answer c).lines ≡ eighteen_of c everywhere
unfolding whole_answer
whole_given c e = rw (eq-eqb (case_refusal c).number 0 e)

-- where nothing is refused, the lines of a fluid are read back as they were put in
pub read_lines : (r : Refusal) (f : ℕ → Lines) → r.number ≡ 0 → (fluid : ℕ) → fluid < 2 → read_of (tabled r (row_of (f fresh) ++ row_of (f salt))) fluid ≡ f fluid
unfolding read_of row_of
read_lines r f e zero l = rw (eq-eqb r.number 0 e)
read_lines r f e (suc zero) l = rw (eq-eqb r.number 0 e)
read_lines r f e (suc (suc fluid)) l = absurd (omega arith)

-- what is told of a zone goes by the lines of an answer alone
pub tells_by_lines : {c : Case} {z : ℕ → Bool} (a b : Answer) → a.lines ≡ b.lines → Tells c z a → Tells c z b
unfolding read_of
tells_by_lines a b e told = record { formed = told.formed; wet = told.wet; lines = λ fluid l. sym (ap (λ lines. read_of (tabled none lines) fluid) e) ∙ told.lines fluid l }

-- ---- what a table is refused with, row by row of `TableRefused`

module _ (c : Case) (reaches hold : Bool) where
  abbrev checks : List Refusal
  checks = unless 11 hold ∷ well_checks c

  -- the row of a refusal
  refused_row : let r = first_refusal (lent_checks_of c reaches ++ checks) in r.number ≢ 0 → TableRefused c reaches hold r.number r.block
  unfolding first_refusal dry_of
  refused_row =
      rw (first_append (lent_checks_of c reaches) checks)
      (by_one Row (checked_lent c reaches) _ (λ some s. slices ((lent_refused_exactly c reaches _ _ some).0 refl)) λ e.
      let lent = (lent_wellformed_exactly c reaches).0 e in
      by_test Row 11 (omega arith) _ hold (λ fails s. eleven lent.0 lent.1 fails) λ held.
      by_block Row 13 (omega arith) _ (blocks_of c.grid) (dry_at c.grid c.slots) (λ block names s. thirteen lent.0 lent.1 (holds held) names) λ wet.
      λ s. absurd (s refl))
    where
      Row : Refusal → Type 0
      Row r = r.number ≢ 0 → TableRefused c reaches hold r.number r.block

  -- the refusal of a row, where 11 and 13 decide and in each case
  after_10 : (r : Refusal) → WellFormed c → T reaches → first_refusal checks ≡ r → first_refusal (lent_checks_of c reaches ++ checks) ≡ r
  after_10 r formed lent e = sym (first_goes_on (lent_checks_of c reaches) checks (checked_lent c reaches) refl r ((lent_wellformed_exactly c reaches).1 (formed, lent)) (sym e))

  row_refused : {number block : ℕ} → number ≢ 0 → TableRefused c reaches hold number block → first_refusal (lent_checks_of c reaches ++ checks) ≡ refusal number block
  unfolding first_refusal or_else dry_of
  row_refused {number} {block} some (slices row) = sym (first_stays (lent_checks_of c reaches) checks (refusal number block) (sym ((lent_refused_exactly c reaches number block some).1 row)) some)
  row_refused some (eleven formed lent fails) = after_10 (refusal 11 0) formed lent (rw fails)
  row_refused some (thirteen {block = block} formed lent held names) =
      after_10 (refusal 13 block) formed lent (rw (true_is {b = hold} held) (names_blames 13 (blocks_of c.grid) (dry_at c.grid c.slots) none block (omega arith) names))

  pub table_refused_exactly : (number block : ℕ) → number ≢ 0 → (first_refusal (lent_checks_of c reaches ++ checks) ≡ refusal number block) ↔ TableRefused c reaches hold number block
  table_refused_exactly number block some = (λ e. let row = rw e at refused_row in row some, row_refused some)

-- the same without marks
pub case_refused_exactly : (c : Case) (number block : ℕ) → number ≢ 0 → (case_refusal c ≡ refusal number block) ↔ TableRefused c true true number block
unfolding lent_of shape_of contents_of limits_of first_refusal or_else
case_refused_exactly c number block some = table_refused_exactly c true true number block some

-- ---- of what a function's result is

-- judged run by run: a refusal of the first run stays, and where it refuses nothing the second decides
module _ (xs ys : List Refusal) (lines : List ℤ) where
  pub answer_stays : (e : Refused) → refusal (number_of e) (named_by e) ≡ first_refusal xs → answer_in (Err e) ≡ tabled (first_refusal (xs ++ ys)) lines
  answer_stays e told = tabled_stays xs ys (refusal (number_of e) (named_by e)) lines told (refused_some e)

  pub answer_goes_on : none ≡ first_refusal xs → tabled (first_refusal ys) lines ≡ tabled (first_refusal (xs ++ ys)) lines
  answer_goes_on told = tabled_goes_on xs ys none lines told refl

-- and two results with one answer are one
pub results_one : (r s : Result (List ℤ) Refused) → answer_in r ≡ answer_in s → r ≡ s
results_one (Ok x) (Ok y) e = ap Ok (ap (λ (a : Answer). a.lines) e)
results_one (Ok x) (Err d) e = absurd (refused_some d (sym (ap (λ (a : Answer). a.refusal.number) e)))
results_one (Err d) (Ok y) e = absurd (refused_some d (ap (λ (a : Answer). a.refusal.number) e))
results_one (Err c) (Err d) e = ap Err (refused_same c d (ap (λ (a : Answer). a.refusal.number) e) (ap (λ (a : Answer). a.refusal.block) e))

-- and two public answers that say the same are one
pub answers_one : (a b : Given) → answer_of a ≡ answer_of b → a ≡ b
answers_one a b e =
    let refusals = go a.refusal b.refusal (ap (λ (x : Answer). x.refusal) e) in
    λ k. record { refusal = refusals k; lines = (e k).lines }
  where
    go : (r s : Option Refused) → refusal_of r ≡ refusal_of s → r ≡ s
    go None None e = refl
    go None (Some d) e = absurd (refused_some d (sym (ap (λ (r : Refusal). r.number) e)))
    go (Some d) None e = absurd (refused_some d (ap (λ (r : Refusal). r.number) e))
    go (Some c) (Some d) e = ap Some (refused_same c d (ap (λ (r : Refusal). r.number) e) (ap (λ (r : Refusal). r.block) e))

-- ---- step by step

pub dry_found : (c : Case) (b : ℕ) (lines : List ℤ) → found_of (dry_of c.grid c.slots) ≡ Some b → answer_in (Err (DryWell b)) ≡ tabled (first_refusal (well_checks c)) lines
dry_found c b lines e = go (dry_of c.grid c.slots) e
  where
    go : (n : ℕ) → found_of n ≡ Some b → answer_in (Err (DryWell b)) ≡ tabled (first_refusal (blaming 13 n ∷ [])) lines
    go zero e = cc
    go (suc n) e =
        let same : suc n ≡ b = cc in
        rw (← same) (dry_tabled (suc n) lines (omega arith))

pub dry_nowhere : (c : Case) (lines given : List ℤ) → found_of (dry_of c.grid c.slots) ≡ None → given ≡ lines → answer_in (Ok given) ≡ tabled (first_refusal (well_checks c)) lines
dry_nowhere c lines given e told = ap (λ (z : List ℤ). answer_in (Ok z)) told ∙ go (dry_of c.grid c.slots) e
  where
    go : (n : ℕ) → found_of n ≡ None → answer_in (Ok lines) ≡ tabled (first_refusal (blaming 13 n ∷ [])) lines
    go zero e = wet_tabled zero lines (omega arith)
    go (suc n) e = cc

module _ (c : Case) (marks lines : List ℤ) where
  pub marks_fail : marks_hold c.grid marks ≡ false → answer_in (Err Marks) ≡ tabled (first_refusal (table_checks c marks)) lines
  marks_fail e = answer_stays (unless 11 (marks_hold c.grid marks) ∷ []) (well_checks c) lines Marks (ap (unless 11) (sym e) ∙ unless_alone 11 (marks_hold c.grid marks) (omega arith))

  pub marks_pass : marks_hold c.grid marks ≡ true → tabled (first_refusal (well_checks c)) lines ≡ tabled (first_refusal (table_checks c marks)) lines
  marks_pass e = answer_goes_on (unless 11 (marks_hold c.grid marks) ∷ []) (well_checks c) lines (ap (unless 11) (sym e) ∙ unless_alone 11 (marks_hold c.grid marks) (omega arith))
