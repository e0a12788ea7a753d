-- Laws of what a file's runs read: how many numbers, within which ends, refused with what, and that the slots of each block stand. Assumes nothing.
use mathlib.Core.Bool.{Bool, cond, false, true}
use Rattle.std.specs.Prelude.{Result, Ok, Err, MatchResult}
use Rattle.std.specs.Result.{is_ok}
use mathlib.Core.List.{List, [], ◌++◌, ◌∷◌, append_assoc, append-nil}
use mathlib.Core.Logic.{⊎_elim}
use mathlib.Core.Path.{◌∙◌, ◌≡◌, ap, refl, subst, sym}
use Prim.Native.Nat.{◌*◌, ◌+◌, ◌<◌, ◌^◌, ◌≤◌, suc, zero, ℕ}
use native.Mathlib.Decide.{ℕ_discrete}
use native.Mathlib.Nat.{eq-or-lt_of_le, le_of_suc-le-suc}
use native.Mathlib.Numerals.{add-one}
use native.Mathlib.Omega.{arith}
use lib.Dec.{T}
use lib.IntN.{pos, ℤ}
use lib.ListN.{get_or-append, drop, drop_of_length-le, get_or, length, length-append, length-drop, take, take-append-drop}
use lib.Seq.{drop-append-le, drop_at, get_or-append_seam, length-take-le}
use borrow.Rule.Slice.PartMut.{put_mid}
use Rattle.whole.specs.Lent.{over}
use Rattle.whole.proofs.LentLaws.{over_part}
use Rattle.whole.specs.declared.ranges.Range.{Range}
use Rattle.whole.specs.Ranges.{in_range}
use Rattle.whole.specs.Inner.{In}
use Rattle.whole.proofs.SearchLaws.{holds}
use Rattle.whole.proofs.WithinLaws.{range_in}
use Rattle.numbers.specs.declared.Number.{Number as Found}
use Rattle.numbers.specs.declared.NumberError.{NumberError}
use Rattle.numbers.specs.Numbers.{Number, number_at, number_in as read_in}
use Rattle.numbers.proofs.NumbersLaws.{number_bounded}
use Rattle.grid.specs.declared.Grid.{Grid}
use Rattle.grid.specs.Place.{top_of}
use Rattle.slots.specs.Rules.{slots_hold}
use Rattle.slots.specs.Slots.{part_of}
use Rattle.slots.specs.Units.{slots_each}
use Rattle.slots.proofs.SlotsLaws.{slots_hold_same}
use Rattle.slices.specs.Refusals.{Refusal}
use Rattle.slices.specs.Slices.{refusal}
use Rattle.fields.specs.declared.Part.{Part}
use Rattle.fields.specs.declared.Part.TheVariants.{Counts, Density, Slots, Terms, Widths}
use Rattle.fields.specs.Inner.{Within}
use Rattle.fields.specs.Fields.{Got, Value, ends_of, field_at, is_sent, judged_in, meant_of, number_judged, part_refusal}
use Rattle.fields.specs.Runs.{Run, Done, Refused, Filled, block_from, blocks_from, ending_of, fill_from, fill_of, onward, ruled}
use Rattle.fields.specs.Fields as got
use Rattle.numbers.specs.Numbers as number

-- ---- one number

-- a number that was read, where what refuses it was then named otherwise, has at most 35 bits
pub read_below : {E : Type 0} (file : List ℕ) (at : ℕ) (r : Result Found NumberError) (q : Result Found E) (P : NumberError → Type 0) (n : Found) →
    read_in r ≡ number_at file at → MatchResult r (λ x. q ≡ Ok x) P → is_ok q ≡ is_ok r → q ≡ Ok n → n.value < 2 ^ 35
read_below file at (Ok x) q P n e m v h =
    let same : x ≡ n = cc in
    rw (← same) (number_bounded file at x.value x.next (sym e)).below
read_below file at (Err _) q P n e m v h =
    let z : ◌≡◌ {A = Bool} true false = sym (ap is_ok h) ∙ v in
    cc

-- a number that was refused has no value
unheard : (r : Refusal) (v : ℤ) (next : ℕ) → got.Refused r ≡ Value v next → ⊥
unheard r v next e = let z : ◌≡◌ {A = ℕ} 0 1 = cc in absurd (omega arith)

-- a number that was judged and not refused is within its ends
judged_in_lem : (w : ℤ) (at : ℕ) (ends : Range) (r : Refusal) (v : ℤ) (next : ℕ) → judged_in w at ends r ≡ Value v next → T (in_range ends v)
unfolding judged_in
judged_in_lem w at ends r v next = go (in_range ends w) refl
  where
    go : (b : Bool) → in_range ends w ≡ b → cond b (Value w at) (got.Refused r) ≡ Value v next → T (in_range ends v)
    go true h e = let same : w ≡ v = cc in holds (rw same at h)
    go false h e = absurd (unheard r v next e)

-- the same of a number as the file has it
judged_value : (n : Number) (ends : Range) (r : Refusal) (v : ℤ) (next : ℕ) → number_judged n ends r ≡ Value v next → T (in_range ends v)
unfolding number_judged
judged_value number.Ended ends r v next e = absurd (unheard (refusal 1 0) v next e)
judged_value number.TooLong ends r v next e = absurd (unheard (refusal 2 0) v next e)
judged_value (number.Value n at) ends r v next e = judged_in_lem (meant_of ends.lower n) at ends r v next e

-- a number that is sent is within its ends
sent_in : (part : Part) (file : List ℕ) (at next : ℕ) (done : List ℤ) (v : ℤ) → is_sent part done ≡ true → field_at part file at done ≡ Value v next → T (in_range (ends_of part (length done)) v)
unfolding field_at
sent_in part file at next done v sent e = judged_value (number_at file at) (ends_of part (length done)) (part_refusal part) v next (rw sent at e)

-- one more number within its ends
within_more : (part : Part) (done : List ℤ) (v : ℤ) → Within part (length done) done → T (in_range (ends_of part (length done)) v) → Within part (length done + 1) (done ++ (v ∷ []))
within_more part done v h t k l =
    ⊎_elim (λ same. rw same (rw (get_or-append_seam done v [] (pos 0)) t))
    (λ less. rw (get_or-append done (v ∷ []) (pos 0) k less) (h k less))
    (eq-or-lt_of_le (le_of_suc-le-suc (rw add-one at l)))

-- every count is sent
pub counts_sent : (d : List ℤ) → is_sent Counts d ≡ true
unfolding is_sent
counts_sent d = refl

-- every term is sent
pub terms_sent : (d : List ℤ) → is_sent Terms d ≡ true
unfolding is_sent
terms_sent d = refl

-- every width is sent
pub widths_sent : (d : List ℤ) → is_sent Widths d ≡ true
unfolding is_sent
widths_sent d = refl

-- a number of a part, by its range
pub number_in : (part : Part) (n : ℕ) (v : List ℤ) → Within part n v → (k : ℕ) → k < n → In (ends_of part k).lower (ends_of part k).upper (get_or v k (pos 0))
number_in part n v w k l = range_in (ends_of part k) (get_or v k (pos 0)) (w k l)

-- the refusals 1 to 6, of numbers and blocks, each tell something by their number
abbrev pub Early : (ℕ → Type 0) → Type 0
Early Tells = (n : ℕ) → 1 ≤ n → n ≤ 6 → Tells n

module _ (Tells : ℕ → Type 0) (early : Early Tells) where
  -- a refusal that is the same tells the same
  refused_tells : (n b : ℕ) (r : Refusal) → got.Refused (refusal n b) ≡ got.Refused r → Tells n → Tells r.number
  refused_tells n b r e h = let same : n ≡ r.number = cc in subst Tells same h

  -- what a part's numbers are refused with tells it
  part_tells : (part : Part) → Tells (part_refusal part).number
  unfolding part_refusal
  part_tells Counts = early 3 (omega arith) (omega arith)
  part_tells Density = early 4 (omega arith) (omega arith)
  part_tells Terms = early 4 (omega arith) (omega arith)
  part_tells Widths = early 5 (omega arith) (omega arith)
  part_tells (Slots block) = early 6 (omega arith) (omega arith)

  -- so does what a number in the file is refused with
  judged_tells : (n : Number) (ends : Range) (part : Part) (r : Refusal) → number_judged n ends (part_refusal part) ≡ got.Refused r → Tells r.number
  unfolding number_judged judged_in
  judged_tells number.Ended ends part r e = refused_tells 1 0 r e (early 1 (omega arith) (omega arith))
  judged_tells number.TooLong ends part r e = refused_tells 2 0 r e (early 2 (omega arith) (omega arith))
  judged_tells (number.Value n next) ends part r e = go (in_range ends (meant_of ends.lower n)) e
    where
      go : (b : Bool) → cond b (Value (meant_of ends.lower n) next) (got.Refused (part_refusal part)) ≡ got.Refused r → Tells r.number
      go true e = absurd (unheard r (meant_of ends.lower n) next (sym e))
      go false e = refused_tells (part_refusal part).number (part_refusal part).block r e (part_tells part)

  -- and what any field is refused with
  field_tells : (part : Part) (file : List ℕ) (at : ℕ) (done : List ℤ) (r : Refusal) → field_at part file at done ≡ got.Refused r → Tells r.number
  unfolding field_at
  field_tells part file at done r = go (is_sent part done)
    where
      go : (b : Bool) → cond b (number_judged (number_at file at) (ends_of part (length done)) (part_refusal part)) (Value (pos 0) at) ≡ got.Refused r → Tells r.number
      go true e = judged_tells (number_at file at) (ends_of part (length done)) part r e
      go false e = absurd (unheard r (pos 0) at (sym e))

-- ---- a run of numbers

-- a run that was refused is not done
undone : (r : Refusal) (next : ℕ) → Refused r ≡ Done next → ⊥
undone r next e = let z : ◌≡◌ {A = ℕ} 0 1 = cc in absurd (omega arith)

-- a run tells something by its refusal, where it is refused
abbrev pub Telling : (ℕ → Type 0) → Run → Type 0
Telling Tells run = (r : Refusal) → run ≡ Refused r → Tells r.number

-- a run that is done is not refused
pub done_telling : (Tells : ℕ → Type 0) (at : ℕ) → Telling Tells (Done at)
done_telling Tells at r e = absurd (undone r at (sym e))

-- a run that is refused has a number
abbrev pub Numbered : Run → Type 0
Numbered run = (r : Refusal) → run ≡ Refused r → r.number ≡ 0 → ⊥

-- one that is done meets this
pub done_numbered : (at : ℕ) → Numbered (Done at)
done_numbered = done_telling (λ n. n ≡ 0 → ⊥)

-- each of the refusals 1 to 6 has one
pub early_numbered : Early (λ n. n ≡ 0 → ⊥)
early_numbered n least most z = absurd (omega arith)

module _ (part : Part) (file : List ℕ) where
  -- what holds of a run's end, and before a number where it holds after it, holds of the whole run
  run_whole :
      (Holds : ℕ → List ℤ → Filled → Type 0) →
      ((at : ℕ) (done : List ℤ) → Holds 0 done (record { run = Done at; values = done })) →
      ((left at : ℕ) (done : List ℤ) (r : Refusal) → field_at part file at done ≡ got.Refused r → Holds (suc left) done (record { run = Refused r; values = done })) →
      ((left at next : ℕ) (done : List ℤ) (v : ℤ) (f : Filled) → field_at part file at done ≡ Value v next → Holds left (done ++ (v ∷ [])) f → Holds (suc left) done f) →
      (left at : ℕ) (done : List ℤ) → Holds left done (fill_from part file left at done)
  unfolding fill_from
  run_whole Holds ends refuses goes_on zero at done = ends at done
  run_whole Holds ends refuses goes_on (suc left) at done = go (field_at part file at done) refl (λ v next. run_whole Holds ends refuses goes_on left next (done ++ (v ∷ [])))
    where
      more : ℤ → ℕ → Filled
      more v next = fill_from part file left next (done ++ (v ∷ []))

      go : (g : Got) → field_at part file at done ≡ g → ((v : ℤ) (next : ℕ) → Holds left (done ++ (v ∷ [])) (more v next)) → Holds (suc left) done (onward g done more)
      go (Value v next) e later = goes_on left at next done v (more v next) e (later v next)
      go (got.Refused r) e later = refuses left at done r e

  -- a run that is done read as many numbers as were asked
  pub fill_length : (left at next : ℕ) (done : List ℤ) → (fill_from part file left at done).run ≡ Done next → length (fill_from part file left at done).values ≡ length done + left
  fill_length left at next done =
      run_whole (λ left done f. f.run ≡ Done next → length f.values ≡ length done + left)
      (λ at done e. omega arith)
      (λ left at done r p e. absurd (undone r next e))
      (λ left at n done v f e later h. later h ∙ omega (arith, length-append done (v ∷ [])))
      left at done

  -- and no run reads more
  fill_most : (left at : ℕ) (done : List ℤ) → length (fill_from part file left at done).values ≤ length done + left
  fill_most =
      run_whole (λ left done f. length f.values ≤ length done + left)
      (λ at done. omega arith)
      (λ left at done r p. omega arith)
      (λ left at n done v f e later. omega (arith, later, length-append done (v ∷ [])))

  -- a run tells what a number that is refused does
  fill_telling : (Tells : ℕ → Type 0) → Early Tells → (left at : ℕ) (done : List ℤ) → Telling Tells (fill_from part file left at done).run
  fill_telling Tells early =
      run_whole (λ left done f. Telling Tells f.run)
      (λ at done. done_telling Tells at)
      (λ left at done s p r e. let same : s ≡ r = cc in subst (λ (q : Refusal). Tells q.number) same (field_tells Tells early part file at done s p))
      (λ left at n done v f e later. later)

  -- where all numbers are sent, a run that is done adds to numbers within their ends only such numbers
  fill_adds : ((d : List ℤ) → is_sent part d ≡ true) → (left at next : ℕ) (done : List ℤ) → Within part (length done) done → (fill_from part file left at done).run ≡ Done next → Within part (length done + left) (fill_from part file left at done).values
  fill_adds sent left at next =
      run_whole (λ left done f. Within part (length done) done → f.run ≡ Done next → Within part (length done + left) f.values)
      (λ at done w e k l. w k (omega arith))
      (λ left at done r p w e. absurd (undone r next e))
      (λ left at n done v f e later w h k l.
      let more : length (done ++ (v ∷ [])) ≡ length done + 1 = length-append done (v ∷ []) in
      later (rw more (within_more part done v w (sent_in part file at n done v (sent done) e))) h k (omega arith))
      left at

-- ---- a run that goes on from another

-- a run that goes on from another is done only where that was
pub done_before : (from : Run) (part : Part) (file : List ℕ) (total next : ℕ) → (fill_of from part file total).run ≡ Done next → (at : ℕ) × (from ≡ Done at)
unfolding fill_of
done_before (Done at) part file total next e = (at, refl)
done_before (Refused r) part file total next e = absurd (undone r next e)

-- and tells what the other does
pub fill_of_telling : (Tells : ℕ → Type 0) → Early Tells → (from : Run) (part : Part) (file : List ℕ) (total : ℕ) → Telling Tells from → Telling Tells (fill_of from part file total).run
unfolding fill_of
fill_of_telling Tells early (Done at) part file total h = fill_telling part file Tells early total at []
fill_of_telling Tells early (Refused r) part file total h = h

-- so it is refused with a number
pub fill_of_numbered : (from : Run) (part : Part) (file : List ℕ) (total : ℕ) → Numbered from → Numbered (fill_of from part file total).run
fill_of_numbered = fill_of_telling (λ n. n ≡ 0 → ⊥) early_numbered

-- a run that goes on from another and is done read as many numbers as were asked
pub fill_of_length : (from : Run) (part : Part) (file : List ℕ) (total next : ℕ) → (fill_of from part file total).run ≡ Done next → length (fill_of from part file total).values ≡ total
unfolding fill_of
fill_of_length (Done at) part file total next e = omega (arith, fill_length part file total at next [] e)
fill_of_length (Refused r) part file total next e = absurd (undone r next e)

-- and no run reads more
pub fill_of_most : (from : Run) (part : Part) (file : List ℕ) (total : ℕ) → length (fill_of from part file total).values ≤ total
unfolding fill_of
fill_of_most (Done at) part file total = omega (arith, fill_most part file total at [])
fill_of_most (Refused r) part file total = omega arith

-- where all numbers of a part are sent, those that a done run read are within their ends
pub fill_within : (part : Part) → ((d : List ℤ) → is_sent part d ≡ true) → (file : List ℕ) (from : Run) (total next : ℕ) → (fill_of from part file total).run ≡ Done next → Within part total (fill_of from part file total).values
unfolding fill_of
fill_within part sent file (Done at) total next e k l = fill_adds part file sent total at next [] (λ j m. absurd (omega arith)) e k (omega arith)
fill_within part sent file (Refused r) total next e k l = absurd (undone r next e)

-- a run that fills a slice to its end leaves in it just what was read
pub fill_of_whole : (from : Run) (part : Part) (file : List ℕ) (total next : ℕ) (l : List ℤ) → length l ≡ total → (fill_of from part file total).run ≡ Done next → over (fill_of from part file total).values l ≡ (fill_of from part file total).values
fill_of_whole from part file total next l h e =
    let values = (fill_of from part file total).values in
    rw (drop_of_length-le l {i = length values} (omega (arith, h, fill_of_length from part file total next e))) (append-nil values)

-- a run over the whole file that nothing refuses is done
pub ended_done : (run : Run) (file : List ℕ) → Numbered run → (ending_of run file).number ≡ 0 → (next : ℕ) × (run ≡ Done next)
unfolding ending_of
ended_done (Refused r) file h e = absurd (h r refl e)
ended_done (Done at) file h e = (at, refl)

-- ---- the slots of blocks

-- what follows a block's sixteen slots does not count
pub slots_hold_front : (vs ws : List ℤ) (top : Bool) → slots_each ≤ length vs → slots_hold (vs ++ ws) top ≡ slots_hold vs top
slots_hold_front vs ws top h = slots_hold_same (vs ++ ws) vs top (λ k l. get_or-append vs ws (pos 0) k (omega arith))

-- a block's slots that were judged and not refused stand
ruled_done : (run : Run) (block next : ℕ) (stands : Bool) → ruled run block stands ≡ Done next → (run ≡ Done next) × (stands ≡ true)
unfolding ruled
ruled_done (Refused r) block next stands e = absurd (undone r next e)
ruled_done (Done at) block next true e = (e, refl)
ruled_done (Done at) block next false e = absurd (undone (refusal 6 block) next e)

-- the run over a block's slots, judged by what it left over a slice: refused where that over its numbers is, and otherwise by its rules, which are asked of
-- its own slots, whatever lies behind them
module _ (from : Run) (file : List ℕ) (block : ℕ) (top : Bool) where
  pub block_refused : (r : Refusal) → (fill_of from (Slots block) file slots_each).run ≡ Refused r → (block_from from file block top).run ≡ Refused r
  unfolding block_from ruled
  block_refused r e = rw e refl

  block_ruled : (next : ℕ) (l : List ℤ) → (fill_of from (Slots block) file slots_each).run ≡ Done next →
      (block_from from file block top).run ≡ cond (slots_hold (over (fill_of from (Slots block) file slots_each).values l) top) (Done next) (Refused (refusal 6 block))
  unfolding block_from ruled
  block_ruled next l e =
      let slots = (fill_of from (Slots block) file slots_each).values in
      rw (e, slots_hold_front slots (drop (length slots) l) top (omega (arith, fill_of_length from (Slots block) file slots_each next e))) refl

  module _ (next : ℕ) (l out : List ℤ) (done : Done next ≡ (fill_of from (Slots block) file slots_each).run) (left : out ≡ over (fill_of from (Slots block) file slots_each).values l) where
    pub block_falls : false ≡ slots_hold out top → (block_from from file block top).run ≡ Refused (refusal 6 block)
    block_falls e = block_ruled next l (sym done) ∙ rw (← left, ← e) refl

    pub block_stands : true ≡ slots_hold out top → (block_from from file block top).run ≡ Done next
    block_stands e = block_ruled next l (sym done) ∙ rw (← left, ← e) refl

  -- it leaves just what it read
  pub block_values : (block_from from file block top).values ≡ (fill_of from (Slots block) file slots_each).values
  unfolding block_from
  block_values = refl

-- a block's run tells what 6 and the run over its numbers do
ruled_telling : (Tells : ℕ → Type 0) (run : Run) (block : ℕ) (stands : Bool) → Tells 6 → Telling Tells run → Telling Tells (ruled run block stands)
unfolding ruled
ruled_telling Tells (Refused r) block stands six h = h
ruled_telling Tells (Done at) block true six h = h
ruled_telling Tells (Done at) block false six h = λ r e. let same : 6 ≡ r.number = cc in subst Tells same six

-- what a block's run that is done tells: the run before it was done, the block has all its slots, and they stand
record Stood (from : Run) (slots : List ℤ) (top : Bool) : Type 0 where
  before : (at : ℕ) × (from ≡ Done at)
  whole : length slots ≡ slots_each
  stand : T (slots_hold slots top)

-- of one block
block_stood : (from : Run) (file : List ℕ) (block next : ℕ) (top : Bool) → (block_from from file block top).run ≡ Done next → Stood from (block_from from file block top).values top
unfolding block_from
block_stood from file block next top e =
    let slots = (fill_of from (Slots block) file slots_each).values in
    let h = ruled_done (fill_of from (Slots block) file slots_each).run block next (slots_hold slots top) e in
    record {
      before = done_before from (Slots block) file slots_each next h.0;
      whole = fill_of_length from (Slots block) file slots_each next h.0;
      stand = holds h.1;
    }

-- values over the front of a part of a slice
over_mid : (m k : ℕ) (ws l : List ℤ) → length ws ≤ k → m + k ≤ length l → put_mid m k l (over ws (take k (drop m l))) ≡ take m l ++ over ws (drop m l)
over_mid m k ws l most room =
    let d = drop m l in
    let j = length ws in
    let front : j ≤ length (take k d) = rw (length-take-le k d (omega (arith, length-drop m l))) most in
    ap (λ (z : List ℤ). take m l ++ z) (append_assoc ws (drop j (take k d)) (drop k d) ∙ ap (λ (z : List ℤ). ws ++ z) (sym (drop-append-le j (take k d) (drop k d) front) ∙ ap (drop j) (take-append-drop k d)))

module _ (from : Run) (g : Grid) (file : List ℕ) where
  -- a run that is refused goes over no block more
  refused_more : (f : Filled) (r : Refusal) (block : ℕ) (top : Bool) → f.run ≡ Refused r →
      let b = block_from f.run file block top in
      let more : Filled = record { run = b.run; values = f.values ++ b.values } in
      more ≡ f
  unfolding block_from fill_of ruled
  refused_more f r block top e =
      let run : (block_from f.run file block top).run ≡ f.run = rw e refl in
      let values : f.values ++ (block_from f.run file block top).values ≡ f.values = rw e (append-nil f.values) in
      λ i. record { run = run i; values = values i }

  -- of the last of some blocks
  last_stood : (n next : ℕ) → (blocks_from from g file (suc n)).run ≡ Done next → Stood (blocks_from from g file n).run (block_from (blocks_from from g file n).run file (suc n) (top_of g n)).values (top_of g n)
  unfolding blocks_from
  last_stood n next e = block_stood (blocks_from from g file n).run file (suc n) next (top_of g n) e

  -- a run over blocks is done only where the one before it was
  pub blocks_before : (n next : ℕ) → (blocks_from from g file n).run ≡ Done next → (at : ℕ) × (from ≡ Done at)
  unfolding blocks_from
  blocks_before zero next e = (next, e)
  blocks_before (suc n) next e = let h = (last_stood n next e).before in blocks_before n h.0 h.1

  -- a done run over blocks read all slots of each
  pub blocks_length : (n next : ℕ) → (blocks_from from g file n).run ≡ Done next → length (blocks_from from g file n).values ≡ slots_each * n
  unfolding blocks_from
  blocks_length zero next e = refl
  blocks_length (suc n) next e =
      let h = last_stood n next e in
      let slots = (block_from (blocks_from from g file n).run file (suc n) (top_of g n)).values in
      omega (arith, length-append (blocks_from from g file n).values slots, h.whole, blocks_length n h.before.0 h.before.1)

  -- it tells what the one before it does
  pub blocks_telling : (Tells : ℕ → Type 0) → Early Tells → Telling Tells from → (n : ℕ) → Telling Tells (blocks_from from g file n).run
  unfolding blocks_from block_from
  blocks_telling Tells early h zero = h
  blocks_telling Tells early h (suc n) =
      let before = blocks_from from g file n in
      let f = fill_of before.run (Slots (suc n)) file slots_each in
      ruled_telling Tells f.run (suc n) (slots_hold f.values (top_of g n)) (early 6 (omega arith) (omega arith))
      (fill_of_telling Tells early before.run (Slots (suc n)) file slots_each (blocks_telling Tells early h n))

  -- the run over one block more
  pub block_next : (n at : ℕ) → Done at ≡ (blocks_from from g file n).run → (block_from (Done at) file (n + 1) (top_of g n)).run ≡ (blocks_from from g file (n + 1)).run
  unfolding blocks_from
  block_next n at e = rw (add-one, e) refl

  -- one block more, over the slots of those before it
  pub block_put : (n at : ℕ) (top : Bool) (l₀ l part : List ℤ) → Done at ≡ (blocks_from from g file n).run → top ≡ top_of g n → slots_each * n + slots_each ≤ length l →
      l ≡ over (blocks_from from g file n).values l₀ → part ≡ over (block_from (Done at) file (n + 1) top).values (take slots_each (drop (slots_each * n) l)) →
      put_mid (slots_each * n) slots_each l part ≡ over (blocks_from from g file (n + 1)).values l₀
  unfolding blocks_from
  block_put n at top l₀ l part done is_top room whole new =
      let before = blocks_from from g file n in
      let slots = (block_from before.run file (suc n) (top_of g n)).values in
      let most : length slots ≤ slots_each = rw block_values (fill_of_most before.run (Slots (suc n)) file slots_each) in
      let size : length before.values ≡ slots_each * n = blocks_length n at (sym done) in
      let put = over_mid (slots_each * n) slots_each slots l most room in
      let more = rw (← whole, size) at (over_part before.values slots l₀) in
      rw (new, add-one, done, is_top) (put ∙ more)

  -- a run over blocks that is refused reads no more of them
  pub blocks_stay : (n : ℕ) (r : Refusal) → (blocks_from from g file n).run ≡ Refused r → (m : ℕ) → n ≤ m → blocks_from from g file m ≡ blocks_from from g file n
  unfolding blocks_from
  blocks_stay n r e zero l = let same : 0 ≡ n = omega arith in ap (blocks_from from g file) same
  blocks_stay n r e (suc m) l = go (ℕ_discrete n (suc m)) (λ k. blocks_stay n r e m k)
    where
      go : Dec (n ≡ suc m) → (n ≤ m → blocks_from from g file m ≡ blocks_from from g file n) → blocks_from from g file (suc m) ≡ blocks_from from g file n
      go (yes same) before = ap (blocks_from from g file) (sym same)
      go (no less) before =
          let k = before (omega arith) in
          refused_more (blocks_from from g file m) r (suc m) (top_of g m) (ap (λ (f : Filled). f.run) k ∙ e) ∙ k

  -- so one that goes on from a run that was refused reads none
  pub blocks_ended : (r : Refusal) → from ≡ Refused r → (n : ℕ) → blocks_from from g file n ≡ record { run = Refused r; values = [] }
  unfolding blocks_from
  blocks_ended r e n = blocks_stay 0 r e n (omega arith) ∙ ap (λ (run : Run). record { run = run; values = [] }) e

  -- so a block that is refused ends the run
  pub blocks_refused : (n m at : ℕ) (top : Bool) (r : Refusal) → Done at ≡ (blocks_from from g file n).run → top ≡ top_of g n → Refused r ≡ (block_from (Done at) file (n + 1) top).run → n < m →
      ((blocks_from from g file m).run ≡ Refused r) × ((blocks_from from g file m).values ≡ (blocks_from from g file (n + 1)).values)
  blocks_refused n m at top r done is_top told less =
      let next : Refused r ≡ (blocks_from from g file (n + 1)).run = (rw is_top at told) ∙ block_next n at done in
      let stays = blocks_stay (n + 1) r (sym next) m (omega arith) in
      (ap (λ (f : Filled). f.run) stays ∙ sym next, ap (λ (f : Filled). f.values) stays)

  -- each block's slots stand
  pub blocks_hold : (n next : ℕ) → (blocks_from from g file n).run ≡ Done next → (i : ℕ) → i < n → T (slots_hold (part_of (blocks_from from g file n).values i) (top_of g i))
  unfolding blocks_from
  blocks_hold zero next e i l = absurd (omega arith)
  blocks_hold (suc n) next e i l =
      let h = last_stood n next e in
      let before = (blocks_from from g file n).values in
      let slots = (block_from (blocks_from from g file n).run file (suc n) (top_of g n)).values in
      let size = blocks_length n h.before.0 h.before.1 in
      ⊎_elim (λ same. rw same (rw (drop_at before slots (slots_each * n) size) h.stand))
      (λ less.
      let room : slots_each * i + slots_each ≤ length before = omega arith in
      rw (drop-append-le (slots_each * i) before slots (omega arith))
      (rw (slots_hold_front (part_of before i) slots (top_of g i) (omega (arith, length-drop (slots_each * i) before)))
      (blocks_hold n h.before.0 h.before.1 i less)))
      (eq-or-lt_of_le (le_of_suc-le-suc l))
