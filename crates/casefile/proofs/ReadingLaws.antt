-- Laws of the whole reading: a case that was read is judged, what follows a refusal and a run, and what every answer is. Assumes nothing.
use mathlib.Core.Bool.{Bool, ◌&&◌, false, not, true}
use mathlib.Core.List.{List, [], ◌++◌, ◌∷◌, append-nil}
use mathlib.Core.Path.{◌∙◌, ◌≡◌, ap, ap₂, refl, sym}
use Prim.Native.Nat.{◌*◌, ◌<◌, ◌≤◌, suc, zero, ℕ}
use native.Mathlib.Decide.{ℕ_discrete}
use native.Mathlib.Nat.{le_of_eq}
use native.Mathlib.Omega.{arith}
use lib.Dec.{T, leb}
use lib.IntN.{pos, ℤ}
use lib.ListN.{drop_of_length-le, get_or, length}
use borrow.Author.Tests.{eq-eqb, ne_eqb}
use Rattle.whole.specs.Lent.{over}
use Rattle.whole.specs.Ranges.{all_within, between, in_range}
use Rattle.whole.specs.Inner.{In}
use Rattle.whole.proofs.OrderLaws.{in_abs}
use Rattle.whole.proofs.RangeLaws.{leaf, within}
use Rattle.whole.proofs.SearchLaws.{every_passes, follows, none_first, true_is}
use Rattle.grid.specs.declared.Grid.{Grid}
use Rattle.grid.specs.Inner.{Counted, Termed}
use Rattle.grid.specs.Judging.{counts_hold, density_holds, terms_hold}
use Rattle.grid.specs.Place.{blocks_of, top_of}
use Rattle.grid.specs.Record.{counts, density, record_of, terms}
use Rattle.grid.proofs.JudgingLaws.{counted_counts, density_weighed, termed_terms}
use Rattle.slots.specs.Rules.{slots_hold}
use Rattle.slots.specs.Slots.{part_of}
use Rattle.slots.specs.Units.{slots_each}
use Rattle.slices.specs.declared.refusal.Refusal.{Refusal as Fault}
use Rattle.slices.specs.Refusals.{Refusal, refusal_in}
use Rattle.std.specs.Prelude.{IfOk, Result, Ok, Err}
use Rattle.slices.specs.Slices.{Case, blaming, case_of, contents_of, fault_of, first_refusal, most_width, none, or_else, refusal, room_holds, shape_of, slots_fail, unless, widths_hold}
use Rattle.slices.specs.Inner.{Judged, Roomy, judged_of}
use Rattle.slices.proofs.SlicesLaws.{contents_pass, here, judged_stands, later, none_among, none_refused, none_together, or_first, or_next, refused_some, shape_passes}
use Rattle.wellformed.specs.Limits.{checked_of, checks_of, first_at_fault, limits_of}
use Rattle.fields.specs.declared.Part.{Part}
use Rattle.fields.specs.declared.Part.TheVariants.{Counts, Density, Terms, Widths}
use Rattle.fields.specs.Inner.{Within}
use Rattle.fields.specs.Fields.{ends_of, record_range, refusal_of}
use Rattle.fields.specs.Runs.{Done, Filled, Refused, Run, blocks_from, ending_of, fill_of}
use Rattle.fields.proofs.FilledLaws.{Early, Numbered, Telling, counts_sent, blocks_before, blocks_hold, blocks_length, blocks_stay, blocks_telling, done_before, done_numbered, done_telling, early_numbered, ended_done, fill_of_length, fill_of_numbered, fill_of_telling, fill_of_whole, fill_within, number_in, terms_sent, widths_sent}
use Rattle.casefile.specs.Reading.{Read, giving, after, after_counts, after_density, body_of, case_from, columns_from, counted_of, end_checks, judging, reading_of, refusing, rows_from, slots_from, termed_of, weighed_of}
use Rattle.casefile.specs.Inner.{Follows, counts_at, density_at, stored_of, terms_at}

-- ---- a case that was read

-- the terms change neither δ nor the weights
termed_density : (g : Grid) (v : List ℤ) → T (density_holds g) → T (density_holds (termed_of g v))
unfolding termed_of density_holds
termed_density g v t = t

-- terms within their ends, beside δ and weights in range, are what later parts require
pub termed_within : (g : Grid) (v : List ℤ) → T (density_holds g) → Within Terms terms v → Termed (termed_of g v)
unfolding termed_of ends_of record_range
termed_within g v t w = record {
  density = termed_density g v t;
  weighed = density_weighed (termed_of g v) (termed_density g v t);
  flag = in_abs (within (leaf (term 0 (omega arith))) tt tt);
  step = term 1 (omega arith);
  tolerance = term 2 (omega arith);
}
  where
    term : (k : ℕ) → k < terms → In (ends_of Terms k).lower (ends_of Terms k).upper (get_or v k (pos 0))
    term = number_in Terms terms v w

-- a body that was read to its end has as many widths and slots as its record needs
pub body_lengths : (g : Grid) (file : List ℕ) (at next : ℕ) → (slots_from g file at).run ≡ Done next →
    (length (columns_from g file at).values ≡ g.columns) × ((length (rows_from g file at).values ≡ g.rows) × (length (slots_from g file at).values ≡ slots_each * blocks_of g))
body_lengths g file at next e =
    let columns = (columns_from g file at).run in
    let rows = (rows_from g file at).run in
    let row = blocks_before rows g file (blocks_of g) next e in
    let column = done_before columns Widths file g.rows row.0 row.1 in (
      fill_of_length (Done at) Widths file g.columns column.0 column.1,
      (fill_of_length columns Widths file g.rows row.0 row.1, blocks_length rows g file (blocks_of g) next e),
    )

-- so it has room for them
pub body_roomy : (g : Grid) (file : List ℕ) (at next : ℕ) → (slots_from g file at).run ≡ Done next → Roomy (case_from g file at)
unfolding case_from
body_roomy g file at next e =
    let sizes = body_lengths g file at next e in
    record { columns = le_of_eq (sym sizes.0); rows = le_of_eq (sym sizes.1.0); slots = le_of_eq (sym sizes.1.1) }

-- widths that a done run read pass 5
widths_hold_lem : (from : Run) (file : List ℕ) (total next : ℕ) → (fill_of from Widths file total).run ≡ Done next → all_within (between (pos 1) (pos most_width)) (fill_of from Widths file total).values total ≡ true
unfolding all_within ends_of
widths_hold_lem from file total next e = every_passes (λ k. in_range (between (pos 1) (pos most_width)) (get_or (fill_of from Widths file total).values k (pos 0))) total (fill_within Widths widths_sent file from total next e)

-- a body that was read to its end is refused by none of 3, 7, 4, 5 and 6, where the counts and terms of its record are in range
body_judged : (g : Grid) (file : List ℕ) (at next : ℕ) → T (counts_hold g) → T (terms_hold g) → (slots_from g file at).run ≡ Done next → (judged_of (case_from g file at)).number ≡ 0
unfolding case_from widths_hold fault_of
body_judged g file at next counted termed e =
    let c = case_from g file at in
    let columns = (columns_from g file at).run in
    let rows = (rows_from g file at).run in
    let row = blocks_before rows g file (blocks_of g) next e in
    let column = done_before columns Widths file g.rows row.0 row.1 in
    let slots = (slots_from g file at).values in
    let widths = ap₂ ◌&&◌ (widths_hold_lem (Done at) file g.columns column.0 column.1) (widths_hold_lem columns file g.rows row.0 row.1) in
    let fault = none_first (slots_fail g slots) (blocks_of g) (λ i l. ap not (true_is {b = slots_hold (part_of slots i) (top_of g i)} (blocks_hold rows g file (blocks_of g) next e i l))) in
    none_together (shape_of c) (contents_of c) (shape_passes c counted (body_roomy g file at next e)) (contents_pass c (true_is termed) widths fault)

-- so it is judged
pub case_judged : (g : Grid) (file : List ℕ) (at next : ℕ) → Counted g → Termed g → (slots_from g file at).run ≡ Done next → Judged (case_from g file at)
case_judged g file at next counted termed e = judged_stands (case_from g file at) (body_judged g file at next (counted_counts g counted) (termed_terms g termed) e)

-- what stands in a record after its counts changes neither these nor the room, nor what 3 and 7 ask for
module _ (g : Grid) (δ fresh salt : ℤ) (flag : ℕ) (step tolerance : ℤ) where
  abbrev further : Grid
  further = record_of g.columns g.rows g.layers δ fresh salt flag step tolerance

  further_counted : Counted g → Counted further
  further_counted h =
      record {
        columns_some = h.columns_some;
        columns_most = h.columns_most;
        rows_some = h.rows_some;
        rows_most = h.rows_most;
        layers_some = h.layers_some;
        layers_most = h.layers_most;
        blocks_most = h.blocks_most;
      }

  further_roomy : (columns rows slots : List ℤ) → Roomy (case_of g columns rows slots) → Roomy (case_of further columns rows slots)
  further_roomy columns rows slots h = record { columns = h.columns; rows = h.rows; slots = h.slots }

  further_shape : (columns rows slots : List ℤ) → shape_of (case_of further columns rows slots) ≡ shape_of (case_of g columns rows slots)
  unfolding shape_of counts_hold room_holds
  further_shape columns rows slots = refl

-- so do δ and the weights, and the terms
module _ (g : Grid) (v : List ℤ) where
  pub weighed_counted : Counted g → Counted (weighed_of g v)
  unfolding weighed_of
  weighed_counted = further_counted g _ _ _ _ _ _

  pub termed_counted : Counted g → Counted (termed_of g v)
  unfolding termed_of
  termed_counted = further_counted g _ _ _ _ _ _

  module _ (columns rows slots : List ℤ) where
    pub weighed_roomy : Roomy (case_of g columns rows slots) → Roomy (case_of (weighed_of g v) columns rows slots)
    unfolding weighed_of
    weighed_roomy = further_roomy g _ _ _ _ _ _ columns rows slots

    pub termed_roomy : Roomy (case_of g columns rows slots) → Roomy (case_of (termed_of g v) columns rows slots)
    unfolding termed_of
    termed_roomy = further_roomy g _ _ _ _ _ _ columns rows slots

    weighed_shape : shape_of (case_of (weighed_of g v) columns rows slots) ≡ shape_of (case_of g columns rows slots)
    unfolding weighed_of
    weighed_shape = further_shape g _ _ _ _ _ _ columns rows slots

    termed_shape : shape_of (case_of (termed_of g v) columns rows slots) ≡ shape_of (case_of g columns rows slots)
    unfolding termed_of
    termed_shape = further_shape g _ _ _ _ _ _ columns rows slots

-- the run over a file's body tells what the refusals 1 to 6 do
pub body_telling : (Tells : ℕ → Type 0) → Early Tells → (g : Grid) (file : List ℕ) (at : ℕ) → Telling Tells (slots_from g file at).run
body_telling Tells early g file at =
    blocks_telling (rows_from g file at).run g file Tells early
    (fill_of_telling Tells early (columns_from g file at).run Widths file g.rows (fill_of_telling Tells early (Done at) Widths file g.columns (done_telling Tells at)))
    (blocks_of g)

-- so it is done where nothing refuses it
pub body_done : (g : Grid) (file : List ℕ) (at : ℕ) → (ending_of (slots_from g file at).run file).number ≡ 0 → (next : ℕ) × ((slots_from g file at).run ≡ Done next)
body_done g file at = ended_done (slots_from g file at).run file (body_telling (λ n. n ≡ 0 → ⊥) early_numbered g file at)

-- values that fill a slice to its end
over_whole : (values l : List ℤ) → length values ≡ length l → over values l ≡ values
over_whole values l e = rw (drop_of_length-le l {i = length values} (omega arith)) (append-nil values)

-- what such a run left over three slices that it filled is the case that was read
pub body_case : (g : Grid) (file : List ℕ) (at next : ℕ) (c r s : List ℤ) → length c ≡ g.columns → length r ≡ g.rows → length s ≡ slots_each * blocks_of g → (slots_from g file at).run ≡ Done next →
    case_of g (over (columns_from g file at).values c) (over (rows_from g file at).values r) (over (slots_from g file at).values s) ≡ case_from g file at
unfolding case_from
body_case g file at next c r s columns rows slots e =
    let sizes = body_lengths g file at next e in
    λ i. case_of g
    (over_whole (columns_from g file at).values c (sizes.0 ∙ sym columns) i)
    (over_whole (rows_from g file at).values r (sizes.1.0 ∙ sym rows) i)
    (over_whole (slots_from g file at).values s (sizes.1.1 ∙ sym slots) i)

-- ---- what follows a refusal, and a run

-- a refusal stays
pub judging_stays : (r s : Refusal) (more : Read) → r ≡ s → (r.number ≡ 0 → ⊥) → judging s more ≡ refusing r
unfolding judging
judging_stays r s more e h = rw (← e, ne_eqb r.number 0 h) refl

-- and none lets go on
pub judging_goes_on : (r s : Refusal) (more : Read) → r ≡ s → r.number ≡ 0 → judging s more ≡ more
unfolding judging
judging_goes_on r s more e h = rw (← e, eq-eqb r.number 0 h) refl

-- the same of what the functions refuse with, and of none
pub judging_refused : (e : Fault) (s : Refusal) (more : Read) → refusal_of e ≡ s → judging s more ≡ refusing (refusal_of e)
judging_refused e s more told = judging_stays (refusal_of e) s more told (refused_some e)

pub judging_passed : (s : Refusal) (more : Read) → none ≡ s → judging s more ≡ more
judging_passed s more told = judging_goes_on none s more told refl

pub stored_refused : (c : Case) (e : Fault) → refusal_of e ≡ first_refusal (limits_of c) → stored_of c ≡ refusing (refusal_of e)
unfolding stored_of
stored_refused c e told = judging_refused e (first_refusal (limits_of c)) (giving c) told

pub stored_passed : (c : Case) → none ≡ first_refusal (limits_of c) → stored_of c ≡ giving c
unfolding stored_of
stored_passed c told = judging_passed (first_refusal (limits_of c)) (giving c) told

-- the end of the run is judged first, and where it is none the case is
pub body_stays : (g : Grid) (file : List ℕ) (at : ℕ) (r : Refusal) → r ≡ ending_of (slots_from g file at).run file → (r.number ≡ 0 → ⊥) → body_of g file at ≡ refusing r
unfolding body_of end_checks first_refusal
body_stays g file at r e h = judging_stays r _ _ (e ∙ sym (or_first _ (first_refusal (limits_of (case_from g file at))) (λ z. h (ap (λ s. s.number) e ∙ z)))) h

pub body_goes_on : (g : Grid) (file : List ℕ) (at : ℕ) → (ending_of (slots_from g file at).run file).number ≡ 0 → body_of g file at ≡ stored_of (case_from g file at)
unfolding body_of end_checks first_refusal stored_of
body_goes_on g file at z = ap (λ r. judging r (giving (case_from g file at))) (or_next (ending_of (slots_from g file at).run file) (first_refusal (limits_of (case_from g file at))) z)

-- the run over a file's body, where that over the columns or the rows is refused
module _ (g : Grid) (file : List ℕ) (at : ℕ) where
  pub rows_refused : (r : Refusal) → Refused r ≡ (rows_from g file at).run → Refused r ≡ (slots_from g file at).run
  unfolding blocks_from
  rows_refused r e = e ∙ sym (ap (λ (f : Filled). f.run) (blocks_stay (rows_from g file at).run g file 0 r (sym e) (blocks_of g) (omega arith)))

  pub columns_refused : (r : Refusal) → Refused r ≡ (columns_from g file at).run → Refused r ≡ (slots_from g file at).run
  unfolding fill_of
  columns_refused r e = rows_refused r (ap (λ (run : Run). (fill_of run Widths file g.rows).run) e)

  -- what then is answered
  pub body_refused : (e : Fault) → Refused (refusal_of e) ≡ (slots_from g file at).run → body_of g file at ≡ refusing (refusal_of e)
  unfolding ending_of
  body_refused e told = body_stays g file at (refusal_of e) (rw (← told) refl) (refused_some e)

  -- a body that was read to its end is judged, whatever it is answered with
  pub body_stands : {A : Type 0} (next : ℕ) (c : Case) (q : Result A Fault) → Counted g → Termed g → Done next ≡ (slots_from g file at).run → c ≡ case_from g file at → IfOk q (λ (_ : A). Judged c)
  body_stands next c (Ok x) counted termed done same = rw same (case_judged g file at next counted termed (sym done))
  body_stands next c (Err e) counted termed done same = tt

  -- what is answered for a body, by what its run is refused with at its end
  module _ {A : Type 0} (c : Case) (q : Result A Fault) (told : refusal_in q ≡ ending_of (slots_from g file at).run file) (same : (next : ℕ) → (slots_from g file at).run ≡ Done next → c ≡ case_from g file at) where
    ends_well : (x : A) → q ≡ Ok x → (ending_of (slots_from g file at).run file).number ≡ 0
    ends_well x e = ap (λ (r : Refusal). r.number) (sym told ∙ ap refusal_in e)

    read_whole : (x : A) → q ≡ Ok x → c ≡ case_from g file at
    read_whole x e = let done = body_done g file at (ends_well x e) in same done.0 done.1

    pub body_ended : Follows q (body_of g file at) (λ (_ : A). stored_of c)
    body_ended = go q refl
      where
        go : (p : Result A Fault) → q ≡ p → Follows p (body_of g file at) (λ (_ : A). stored_of c)
        go (Ok x) e = rw (read_whole x e) (body_goes_on g file at (ends_well x e))
        go (Err r) e = body_stays g file at (refusal_of r) (ap refusal_in (sym e) ∙ told) (refused_some r)

    -- and what was read to its end is judged
    pub ended_stands : Counted g → Termed g → IfOk q (λ (_ : A). Judged c)
    ended_stands counted termed = go q refl
      where
        go : (p : Result A Fault) → q ≡ p → IfOk p (λ (_ : A). Judged c)
        go (Ok x) e = let done = body_done g file at (ends_well x e) in rw (same done.0 done.1) (case_judged g file at done.0 counted termed done.1)
        go (Err r) e = tt

-- a run that is refused ends the reading, and one that is done lets it go on
pub after_refused : (run : Run) (r : Refusal) (more : ℕ → Read) → run ≡ Refused r → after run more ≡ refusing r
unfolding after
after_refused run r more e = rw e refl

pub after_done : (run : Run) (at : ℕ) (more : ℕ → Read) → run ≡ Done at → after run more ≡ more at
unfolding after
after_done run at more e = rw e refl

-- a run that is done left just what it read in a slice that it filled: of the counts, of δ and the weights, and of the terms
abbrev three : List ℤ
three = pos 0 ∷ pos 0 ∷ pos 0 ∷ []

module _ (file : List ℕ) (next : ℕ) (out : List ℤ) where
  pub counts_left : Done next ≡ (fill_of (Done 0) Counts file counts).run → out ≡ over (counts_at file) three → (out ≡ counts_at file) × Within Counts counts out
  counts_left done e =
      let left = e ∙ fill_of_whole (Done 0) Counts file counts next three refl (sym done) in
      (left, rw left (fill_within Counts counts_sent file (Done 0) counts next (sym done)))

  module _ (at : ℕ) where
    pub density_left : Done next ≡ (fill_of (Done at) Density file density).run → out ≡ over (density_at file at) three → out ≡ density_at file at
    density_left done e = e ∙ fill_of_whole (Done at) Density file density next three refl (sym done)

    pub terms_left : Done next ≡ (fill_of (Done at) Terms file terms).run → out ≡ over (terms_at file at) three → (out ≡ terms_at file at) × Within Terms terms out
    terms_left done e =
        let left = e ∙ fill_of_whole (Done at) Terms file terms next three refl (sym done) in
        (left, rw left (fill_within Terms terms_sent file (Done at) terms next (sym done)))

-- what follows δ and the weights, by the run over the terms
module _ (g : Grid) (file : List ℕ) (at : ℕ) where
  pub terms_refused : (r : Refusal) → Refused r ≡ (fill_of (Done at) Terms file terms).run → after_density g file at ≡ refusing r
  unfolding after_density
  terms_refused r e = after_refused (fill_of (Done at) Terms file terms).run r _ (sym e)

  pub terms_done : (h : Grid) (next : ℕ) → Done next ≡ (fill_of (Done at) Terms file terms).run → h ≡ termed_of g (terms_at file at) → after_density g file at ≡ body_of h file next
  unfolding after_density
  terms_done h next d s = after_done (fill_of (Done at) Terms file terms).run next (body_of (termed_of g (terms_at file at)) file) (sym d) ∙ ap (λ k. body_of k file next) (sym s)

  -- what follows the counts, by the run over δ and the weights
  pub density_refused : (r : Refusal) → Refused r ≡ (fill_of (Done at) Density file density).run → after_counts g file at ≡ refusing r
  unfolding after_counts
  density_refused r e = after_refused (fill_of (Done at) Density file density).run r _ (sym e)

  module _ (h : Grid) (next : ℕ) (done : Done next ≡ (fill_of (Done at) Density file density).run) (same : h ≡ weighed_of g (density_at file at)) where
    density_done : after_counts g file at ≡ judging (unless 4 (density_holds h)) (after_density h file next)
    unfolding after_counts
    density_done =
        let more : Grid → ℕ → Read = λ k next. judging (unless 4 (density_holds k)) (after_density k file next) in
        after_done (fill_of (Done at) Density file density).run next (more (weighed_of g (density_at file at))) (sym done) ∙ ap (λ k. more k next) (sym same)

    -- 4 where they are out of range, and otherwise what follows them
    pub density_fails : false ≡ density_holds h → after_counts g file at ≡ refusing (refusal 4 0)
    density_fails e = density_done ∙ judging_stays (refusal 4 0) (unless 4 (density_holds h)) (after_density h file next) (rw (← e) refl) (omega arith)

    pub density_passes : true ≡ density_holds h → after_counts g file at ≡ after_density h file next
    density_passes e = density_done ∙ judging_goes_on none (unless 4 (density_holds h)) (after_density h file next) (rw (← e) refl) refl

-- the whole file, by the run over the counts
module _ (file : List ℕ) (columns rows slots : List ℤ) where
  pub counts_refused : (r : Refusal) → Refused r ≡ (fill_of (Done 0) Counts file counts).run → reading_of file columns rows slots ≡ refusing r
  unfolding reading_of
  counts_refused r e = after_refused (fill_of (Done 0) Counts file counts).run r _ (sym e)

  pub counts_done : (g : Grid) (next : ℕ) → Done next ≡ (fill_of (Done 0) Counts file counts).run → g ≡ counted_of (counts_at file) → reading_of file columns rows slots ≡ judging (first_refusal (shape_of (case_of g columns rows slots))) (after_counts g file next)
  unfolding reading_of
  counts_done g next d s =
      let f = fill_of (Done 0) Counts file counts in
      let k = counted_of f.values in
      after_done f.run next (λ at. judging (first_refusal (shape_of (case_of k columns rows slots))) (after_counts k file at)) (sym d)
      ∙ ap (λ k. judging (first_refusal (shape_of (case_of k columns rows slots))) (after_counts k file next)) (sym s)

-- ---- a file that is not refused

-- where nothing is refused, nothing was before, and what follows is the answer
judging_none : (r : Refusal) (more : Read) → (judging r more).answer.refusal.number ≡ 0 → (r.number ≡ 0) × (judging r more ≡ more)
judging_none r more = go (ℕ_discrete r.number 0)
  where
    go : Dec (r.number ≡ 0) → (judging r more).answer.refusal.number ≡ 0 → (r.number ≡ 0) × (judging r more ≡ more)
    go (yes h) e = (h, judging_goes_on r r more refl h)
    go (no h) e = absurd (h (rw (judging_stays r r more refl h) at e))

-- and the run before it was done
after_none : (run : Run) (more : ℕ → Read) → Numbered run → (after run more).answer.refusal.number ≡ 0 → (at : ℕ) × (run ≡ Done at)
unfolding after
after_none (Refused r) more h e = absurd (h r refl e)
after_none (Done at) more h e = (at, refl)

-- two refusals that are none
none_two : (x y : Refusal) → x.number ≡ 0 → y.number ≡ 0 → (first_refusal (x ∷ y ∷ [])).number ≡ 0
unfolding first_refusal
none_two x y h k = ap (λ r. r.number) (or_next x (or_else y none) h ∙ or_next y none k)

-- a file's body that is not refused: it was read to its end, passes 9 and 10, and is the answer
body_none : (g : Grid) (file : List ℕ) (at : ℕ) → (body_of g file at).answer.refusal.number ≡ 0 →
    ((ending_of (slots_from g file at).run file).number ≡ 0) × (((first_refusal (limits_of (case_from g file at))).number ≡ 0) × (body_of g file at ≡ giving (case_from g file at)))
unfolding body_of end_checks limits_of
body_none g file at e =
    let c = case_from g file at in
    let overlap = blaming 9 (first_at_fault c 9) in
    let limit = blaming 10 (first_at_fault c 10) in
    let refused = judging_none (first_refusal (end_checks g file at)) (giving c) e in (
      none_among {x = ending_of (slots_from g file at).run file} {xs = end_checks g file at} (search (here, later)) refused.0,
      (
        none_two overlap limit (none_among {x = overlap} {xs = end_checks g file at} (search (here, later)) refused.0) (none_among {x = limit} {xs = end_checks g file at} (search (here, later)) refused.0),
        refused.1,
      ),
    )

-- terms within their ends pass 4
terms_hold_lem : (g : Grid) (v : List ℤ) → T (density_holds g) → Within Terms terms v → T (terms_hold (termed_of g v))
terms_hold_lem g v t w = termed_terms (termed_of g v) (termed_within g v t w)

-- a test that refuses nothing holds
unless_none : (n : ℕ) (b : Bool) → 1 ≤ n → (unless n b).number ≡ 0 → T b
unless_none n true h e = tt
unless_none n false h e = absurd (omega (arith, e))

-- what a file that is not refused tells: a record that passes 3 and 7 with the lent slices, and 4; a body that was read to its end and passes 9 and 10; and that
-- these are the answer
pub record Unrefused (file : List ℕ) (columns rows slots : List ℤ) : Type 0 where
  pub grid : Grid
  pub from : ℕ
  pub next : ℕ
  pub shape : (first_refusal (shape_of (case_of grid columns rows slots))).number ≡ 0
  pub termed : T (terms_hold grid)
  pub done : (slots_from grid file from).run ≡ Done next
  pub limits : (first_refusal (limits_of (case_from grid file from))).number ≡ 0
  pub is : reading_of file columns rows slots ≡ giving (case_from grid file from)

-- the law that it does
pub unrefused : (file : List ℕ) (columns rows slots : List ℤ) → (reading_of file columns rows slots).answer.refusal.number ≡ 0 → Unrefused file columns rows slots
unfolding reading_of after_counts after_density
unrefused file columns rows slots e =
    let head = fill_of (Done 0) Counts file counts in
    let g = counted_of head.values in
    let shape = first_refusal (shape_of (case_of g columns rows slots)) in
    let more : ℕ → Read = λ at. judging shape (after_counts g file at) in
    let counted = after_none head.run more (fill_of_numbered (Done 0) Counts file counts (done_numbered 0)) e in
    let at = counted.0 in
    let to-shape = after_done head.run at more counted.1 in
    let room = judging_none shape (after_counts g file at) (rw to-shape at e) in
    let middle = fill_of (Done at) Density file density in
    let h = weighed_of g middle.values in
    let pair = unless 4 (density_holds h) in
    let later : ℕ → Read = λ at. judging pair (after_density h file at) in
    let weighed = after_none middle.run later (fill_of_numbered (Done at) Density file density (done_numbered at)) (rw (to-shape ∙ room.1) at e) in
    let from = weighed.0 in
    let to-pair = to-shape ∙ room.1 ∙ after_done middle.run from later weighed.1 in
    let paired = judging_none pair (after_density h file from) (rw to-pair at e) in
    let tail = fill_of (Done from) Terms file terms in
    let whole = termed_of h tail.values in
    let ran = after_none tail.run (body_of whole file) (fill_of_numbered (Done from) Terms file terms (done_numbered from)) (rw (to-pair ∙ paired.1) at e) in
    let to-body = to-pair ∙ paired.1 ∙ after_done tail.run ran.0 (body_of whole file) ran.1 in
    let body = body_none whole file ran.0 (rw to-body at e) in
    let done = body_done whole file ran.0 body.0 in
    record {
      grid = whole;
      from = ran.0;
      next = done.0;
      shape = rw (termed_shape h tail.values columns rows slots ∙ weighed_shape g middle.values columns rows slots) room.0;
      termed = terms_hold_lem h tail.values (unless_none 4 (density_holds h) (omega arith) paired.0) (fill_within Terms terms_sent file (Done from) terms ran.0 ran.1);
      done = done.1;
      limits = body.1.0;
      is = to-body ∙ body.1.1;
    }

-- a body that was read to its end passes all checks of slices, where its record passes 3 and 4, and it 9 and 10
pub body_passes : (g : Grid) (file : List ℕ) (at next : ℕ) → T (counts_hold g) → T (terms_hold g) → (slots_from g file at).run ≡ Done next → (first_refusal (limits_of (case_from g file at))).number ≡ 0 →
    checked_of (case_from g file at) ≡ none
body_passes g file at next counted termed e limits =
    let c = case_from g file at in
    none_refused (checks_of c) (none_together (shape_of c ++ contents_of c) (limits_of c) (body_judged g file at next counted termed e) limits)

-- ---- every answer

-- one of the refusals of a file
abbrev pub Listed : ℕ → Type 0
Listed n = (1 ≤ n) × (n ≤ 10)

-- 1 to 6 are
early_listed : Early Listed
early_listed n least most = (least, omega arith)

-- what a test refuses with is at most the last of them
unless_most : (n : ℕ) (b : Bool) → n ≤ 10 → (unless n b).number ≤ 10
unless_most n true h = omega arith
unless_most n false h = h

-- so is what a blamed block does
blaming_most : (n b : ℕ) → n ≤ 10 → (blaming n b).number ≤ 10
blaming_most n zero h = omega arith
blaming_most n (suc b) h = h

-- and the first of some that are
data EachMost : List Refusal → Type 0 where
  none_left : EachMost []
  and_more : {x : Refusal} {xs : List Refusal} → x.number ≤ 10 → EachMost xs → EachMost (x ∷ xs)

first_most : (xs : List Refusal) → EachMost xs → (first_refusal xs).number ≤ 10
unfolding first_refusal
first_most [] none_left = omega arith
first_most (x ∷ xs) (and_more h rest) = go (ℕ_discrete x.number 0) (first_most xs rest)
  where
    go : Dec (x.number ≡ 0) → (first_refusal xs).number ≤ 10 → (or_else x (first_refusal xs)).number ≤ 10
    go (yes z) k = rw (or_next x (first_refusal xs) z) k
    go (no z) k = rw (or_first x (first_refusal xs) z) h

-- 3 and 7
shape_most : (c : Case) → (first_refusal (shape_of c)).number ≤ 10
unfolding shape_of
shape_most c =
    let counts = unless_most 3 (counts_hold c.grid) (omega arith) in
    let room = unless_most 7 (room_holds c) (omega arith) in
    first_most (shape_of c) (search (none_left, and_more, counts, room))

-- 8, after what a run tells
ending_most : (run : Run) (file : List ℕ) → Telling Listed run → (ending_of run file).number ≤ 10
unfolding ending_of
ending_most (Refused r) file h = (h r refl).1
ending_most (Done at) file h = unless_most 8 (leb (length file) at) (omega arith)

-- 8, 9 and 10
end_most : (g : Grid) (file : List ℕ) (at : ℕ) → (first_refusal (end_checks g file at)).number ≤ 10
unfolding end_checks limits_of
end_most g file at =
    let c = case_from g file at in
    let end = ending_most (slots_from g file at).run file (body_telling Listed early_listed g file at) in
    let overlap = blaming_most 9 (first_at_fault c 9) (omega arith) in
    let limit = blaming_most 10 (first_at_fault c 10) (omega arith) in
    first_most (end_checks g file at) (search (none_left, and_more, end, overlap, limit))

-- what holds of every case that is unrefused and of every refusal from 1 to 10 holds of whatever a file is answered with
module _ (Holds : Read → Type 0) (accepts : (c : Case) → Holds (giving c)) (refuses : (r : Refusal) → Listed r.number → Holds (refusing r)) where
  -- of what follows a refusal that may be none
  judging_holds : (r : Refusal) (more : Read) → r.number ≤ 10 → Holds more → Holds (judging r more)
  judging_holds r more most h = go (ℕ_discrete r.number 0)
    where
      go : Dec (r.number ≡ 0) → Holds (judging r more)
      go (yes z) = rw (judging_goes_on r r more refl z) h
      go (no z) = rw (judging_stays r r more refl z) (refuses r (omega (arith, follows r.number z), most))

  -- of what follows a run
  after_holds : (run : Run) (more : ℕ → Read) → Telling Listed run → ((at : ℕ) → Holds (more at)) → Holds (after run more)
  unfolding after
  after_holds (Refused r) more t h = refuses r (t r refl)
  after_holds (Done at) more t h = h at

  -- of what follows the terms
  body_holds : (g : Grid) (file : List ℕ) (at : ℕ) → Holds (body_of g file at)
  unfolding body_of
  body_holds g file at = judging_holds (first_refusal (end_checks g file at)) (giving (case_from g file at)) (end_most g file at) (accepts (case_from g file at))

  -- and of the whole file
  pub read_holds : (file : List ℕ) (columns rows slots : List ℤ) → Holds (reading_of file columns rows slots)
  unfolding reading_of after_counts after_density
  read_holds file columns rows slots =
      let head = fill_of (Done 0) Counts file counts in
      let g = counted_of head.values in
      let c = case_of g columns rows slots in
      after_holds head.run (λ at. judging (first_refusal (shape_of c)) (after_counts g file at)) (run_listed 0 Counts counts)
      (λ at. judging_holds (first_refusal (shape_of c)) (after_counts g file at) (shape_most c)
      (let middle = fill_of (Done at) Density file density in
      let h = weighed_of g middle.values in
      after_holds middle.run (λ from. judging (unless 4 (density_holds h)) (after_density h file from)) (run_listed at Density density)
      (λ from. judging_holds (unless 4 (density_holds h)) (after_density h file from) (unless_most 4 (density_holds h) (omega arith))
      (let tail = fill_of (Done from) Terms file terms in
      let whole = termed_of h tail.values in
      after_holds tail.run (body_of whole file) (run_listed from Terms terms) (body_holds whole file)))))
    where
      run_listed : (at : ℕ) (part : Part) (total : ℕ) → Telling Listed (fill_of (Done at) part file total).run
      run_listed at part total = fill_of_telling Listed early_listed (Done at) part file total (done_telling Listed at)
