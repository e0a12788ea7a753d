-- Laws of judging: the order of refusals, which block is named, and what a case that is not refused gives, both ways. Assumes nothing.
use mathlib.Core.Bool.{Bool, ◌&&◌, cond, false, not, true}
use Rattle.std.specs.Prelude.{Option, Some, None, Result, Ok, Err, slice_get}
use mathlib.Core.List.{List, [], ◌++◌, ◌∷◌}
use mathlib.Core.Path.{◌∙◌, ◌≡◌, ap, ap₂, refl, sym}
use Prim.Native.Nat.{◌*◌, ◌+◌, ◌-◌, ◌<◌, ◌≤◌, suc, zero, ℕ}
use native.Mathlib.Decide.{ℕ_discrete}
use native.Mathlib.Omega.{arith}
use lib.Dec.{T, eqb, leb, leb→le, le→leb}
use lib.IntN.{pos, ℤ}
use lib.ListN.{length}
use borrow.Author.Tests.{eq-eqb, ne_eqb, not-false}
use Rattle.whole.specs.declared.ranges.Range.{Range}
use Rattle.whole.specs.Ranges.{all_within, between}
use Rattle.whole.specs.Search.{first_of, found_of}
use Rattle.whole.proofs.SearchLaws.{both, first_found, first_is, first_none, holds, joint, none_first, true_is}
use Rattle.whole.proofs.WithinLaws.{within_all, within_at}
use Rattle.grid.specs.declared.Grid.{Grid}
use Rattle.grid.specs.Judging.{counts_hold, terms_hold}
use Rattle.grid.specs.Inner.{Counted}
use Rattle.grid.specs.Place.{blocks_of, top_of}
use Rattle.grid.proofs.JudgingLaws.{counted_counts, counts_counted, termed_terms, terms_termed}
use Rattle.slots.specs.Rules.{slots_hold}
use Rattle.slots.specs.Slots.{part_of}
use Rattle.slots.specs.Units.{slots_each}
use Rattle.slots.proofs.SlotsLaws.{slots_active, slots_inactive, slots_stand}
use Rattle.slices.specs.Refusals.{Refusal, block_of, number_of, refusal_in}
use Rattle.slices.specs.declared.refusal.Refusal.{Refusal as Refused}
use Rattle.slices.specs.declared.refusal.Refusal.TheVariants.{Ended, TooLong, Counts, Terms, Widths, Slots, Short, Excess, Overlap, Conductance, Marks, Double, DryWell, NoBlock}
use Rattle.slices.specs.Slices.{Case, blaming, contents_of, fault_of, first_refusal, lent_of, most_width, none, or_else, refusal, room_holds, shape_of, slots_fail, unless, unless_refused, widths_hold}
use Rattle.slices.specs.Inner.{Judged, Roomy, judged_lent, judged_of}
use Rattle.slices.specs.Meaning.{NamesFirst}

-- ---- the order of refusals

pub or_first : (x y : Refusal) → (x.number ≡ 0 → ⊥) → or_else x y ≡ x
unfolding or_else
or_first x y h = rw (ne_eqb x.number 0 h)

pub or_next : (x y : Refusal) → x.number ≡ 0 → or_else x y ≡ y
unfolding or_else
or_next x y h = rw (eq-eqb x.number 0 h)

-- the first of two runs of refusals
pub first_append : (xs ys : List Refusal) → first_refusal (xs ++ ys) ≡ or_else (first_refusal xs) (first_refusal ys)
unfolding first_refusal or_else
first_append [] ys = refl
first_append (x ∷ xs) ys = rw (first_append xs ys) (regroup x (first_refusal xs) (first_refusal ys))
  where
    regroup : (x y z : Refusal) → or_else x (or_else y z) ≡ or_else (or_else x y) z
    regroup x y z = go (eqb x.number 0) refl
      where
        go : (b : Bool) → eqb x.number 0 ≡ b → cond b (or_else y z) x ≡ cond (eqb (cond b y x).number 0) z (cond b y x)
        go true e = refl
        go false e = rw e

-- judged run by run: a refusal of the first run stays, and where it refuses nothing the second decides
module _ (xs ys : List Refusal) (r : Refusal) (told : r ≡ first_refusal xs) where
  pub first_stays : (r.number ≡ 0 → ⊥) → r ≡ first_refusal (xs ++ ys)
  first_stays h = sym (first_append xs ys ∙ rw (← told) (or_first r (first_refusal ys) h))

  pub first_goes_on : (q : Refusal) → r.number ≡ 0 → q ≡ first_refusal ys → q ≡ first_refusal (xs ++ ys)
  first_goes_on q h e = sym (first_append xs ys ∙ rw (← told, ← e) (or_next r q h))

-- what two runs come to together is told by what each comes to
pub runs_same : (xs ys zs ws : List Refusal) → first_refusal xs ≡ first_refusal zs → first_refusal ys ≡ first_refusal ws → first_refusal (xs ++ ys) ≡ first_refusal (zs ++ ws)
runs_same xs ys zs ws p q = first_append xs ys ∙ ap₂ or_else p q ∙ sym (first_append zs ws)

-- what is given beside a refusal is asked only where nothing is refused
pub given_same : {A : Type 0} {r q : Refusal} (x y otherwise : A) → r ≡ q → (r.number ≡ 0 → x ≡ y) → unless_refused r x otherwise ≡ unless_refused q y otherwise
given_same {A} {r} x y otherwise e same = go (ℕ_discrete r.number 0) ∙ ap (λ (q : Refusal). unless_refused q y otherwise) e
  where
    go : Dec (r.number ≡ 0) → unless_refused r x otherwise ≡ unless_refused r y otherwise
    go (yes h) = ap (λ (z : A). unless_refused r z otherwise) (same h)
    go (no h) = rw (ne_eqb r.number 0 h)

-- a block that is blamed, and none
pub blames_some : (n b : ℕ) (y : Refusal) → (n ≡ 0 → ⊥) → 0 < b → refusal n b ≡ or_else (blaming n b) y
blames_some n zero y h l = absurd (omega arith)
blames_some n (suc b) y h l = sym (or_first (refusal n (suc b)) y h)

pub blames_on : (n b : ℕ) (y : Refusal) → b ≤ 0 → y ≡ or_else (blaming n b) y
blames_on n zero y l = sym (or_next none y refl)
blames_on n (suc b) y l = absurd (omega arith)

-- the same of a block that was looked for
pub blames_found : (n b x : ℕ) (y : Refusal) → (n ≡ 0 → ⊥) → found_of x ≡ Some b → refusal n b ≡ or_else (blaming n x) y
blames_found n b zero y h e = cc
blames_found n b (suc x) y h e =
    let same : suc x ≡ b = cc in
    rw (← same) (blames_some n (suc x) y h (omega arith))

pub blames_nobody : (n x : ℕ) (y : Refusal) → found_of x ≡ None → y ≡ or_else (blaming n x) y
blames_nobody n zero y e = blames_on n zero y (omega arith)
blames_nobody n (suc x) y e = cc

-- neither run refuses
pub or_none : (x y : Refusal) → (or_else x y).number ≡ 0 → (x.number ≡ 0) × (y.number ≡ 0)
unfolding or_else
or_none x y e = go (ℕ_discrete x.number 0)
  where
    go : Dec (x.number ≡ 0) → (x.number ≡ 0) × (y.number ≡ 0)
    go (yes h) = (h, rw (eq-eqb x.number 0 h) at e)
    go (no h) = absurd (h (rw (ne_eqb x.number 0 h) at e))

-- two runs together refuse nothing exactly where neither does
pub none_apart : (xs ys : List Refusal) → (first_refusal (xs ++ ys)).number ≡ 0 → ((first_refusal xs).number ≡ 0) × ((first_refusal ys).number ≡ 0)
none_apart xs ys e = or_none (first_refusal xs) (first_refusal ys) (rw (first_append xs ys) at e)

pub none_together : (xs ys : List Refusal) → (first_refusal xs).number ≡ 0 → (first_refusal ys).number ≡ 0 → (first_refusal (xs ++ ys)).number ≡ 0
none_together xs ys h k = ap (λ r. r.number) (first_append xs ys ∙ or_next (first_refusal xs) (first_refusal ys) h) ∙ k

-- refusals that come to number 0 come to none
pub none_refused : (xs : List Refusal) → (first_refusal xs).number ≡ 0 → first_refusal xs ≡ none
unfolding first_refusal
none_refused [] e = refl
none_refused (x ∷ xs) e = let h = or_none x (first_refusal xs) e in or_next x (first_refusal xs) h.0 ∙ none_refused xs h.1

-- one test alone
pub unless_alone : (n : ℕ) (b : Bool) → (n ≡ 0 → ⊥) → unless n b ≡ first_refusal (unless n b ∷ [])
unfolding first_refusal
unless_alone n true h = sym (or_next none none refl)
unless_alone n false h = sym (or_first (refusal n 0) none h)

pub unless_passes : (n : ℕ) (b : Bool) → T b → (first_refusal (unless n b ∷ [])).number ≡ 0
unfolding first_refusal or_else
unless_passes n true t = refl
unless_passes n false t = elim t [ ]

-- a refusal among those judged, wherever in their order
pub data Among (x : Refusal) : List Refusal → Type 0 where
  here : {xs : List Refusal} → Among x (x ∷ xs)
  later : {y : Refusal} {xs : List Refusal} → Among x xs → Among x (y ∷ xs)

pub none_among : {x : Refusal} {xs : List Refusal} → Among x xs → (first_refusal xs).number ≡ 0 → x.number ≡ 0
unfolding first_refusal
none_among {x} (here {xs = xs}) e = (or_none x (first_refusal xs) e).0
none_among (later {y = y} {xs = xs} m) e = none_among m (or_none y (first_refusal xs) e).1

-- a test among those judged holds, and a block among those blamed is none
pub holds_among : (n : ℕ) (b : Bool) {xs : List Refusal} → (n ≡ 0 → ⊥) → Among (unless n b) xs → (first_refusal xs).number ≡ 0 → T b
holds_among n true h m e = tt
holds_among n false h m e = h (none_among m e)

pub blames_none : (n b : ℕ) {xs : List Refusal} → (n ≡ 0 → ⊥) → Among (blaming n b) xs → (first_refusal xs).number ≡ 0 → b ≡ 0
blames_none n zero h m e = refl
blames_none n (suc b) h m e = absurd (h (none_among m e))

-- ---- what the functions answer with

-- a refusal that is answered has a number
pub refused_some : (e : Refused) → number_of e ≡ 0 → ⊥
refused_some e h = go e h
  where
    go : (e : Refused) → number_of e ≡ 0 → ⊥
    go Ended h = cc
    go TooLong h = cc
    go Counts h = cc
    go Terms h = cc
    go Widths h = cc
    go (Slots block) h = cc
    go Short h = cc
    go Excess h = cc
    go (Overlap block) h = cc
    go (Conductance block) h = cc
    go Marks h = cc
    go Double h = cc
    go (DryWell block) h = cc
    go (NoBlock number) h = cc

-- a refusal by its number and its block
refused_by : ℕ → ℕ → Option Refused
refused_by n b =
    slice_get
    (Ended ∷ Ended ∷ TooLong ∷ Counts ∷ Terms ∷ Widths ∷ Slots b ∷ Short ∷ Excess ∷ Overlap b ∷ Conductance b ∷ Marks ∷ Double ∷ DryWell b ∷ NoBlock b ∷ [])
    n

refused_back : (e : Refused) → refused_by (number_of e) (block_of e) ≡ Some e
unfolding refused_by
refused_back Ended = refl
refused_back TooLong = refl
refused_back Counts = refl
refused_back Terms = refl
refused_back Widths = refl
refused_back (Slots block) = refl
refused_back Short = refl
refused_back Excess = refl
refused_back (Overlap block) = refl
refused_back (Conductance block) = refl
refused_back Marks = refl
refused_back Double = refl
refused_back (DryWell block) = refl
refused_back (NoBlock number) = refl

-- so number and block tell which it is
pub refused_same : (e f : Refused) → number_of e ≡ number_of f → block_of e ≡ block_of f → e ≡ f
refused_same e f p q =
    let a = refused_back e in
    let b = refused_back f in
    let same : Some e ≡ Some f = sym a ∙ ap₂ refused_by p q ∙ b in
    cc

-- and so does what is answered, where any two values that pass are the same
pub answers_same : {A : Type 0} (r s : Result A Refused) → ((x y : A) → r ≡ Ok x → s ≡ Ok y → x ≡ y) → refusal_in r ≡ refusal_in s → r ≡ s
answers_same (Ok x) (Ok y) same e = ap Ok (same x y refl refl)
answers_same (Ok x) (Err d) same e = absurd (refused_some d (sym (ap (λ r. r.number) e)))
answers_same (Err d) (Ok y) same e = absurd (refused_some d (ap (λ r. r.number) e))
answers_same (Err c) (Err d) same e = ap Err (refused_same c d (ap (λ r. r.number) e) (ap (λ r. r.block) e))

-- ---- which block is named

module _ (blocks : ℕ) (fault : ℕ → Bool) where
  -- the first that is found
  pub found_named : (p : ℕ) → first_of blocks fault ≡ suc p → NamesFirst blocks fault (suc p)
  found_named p e =
      let h = first_is fault blocks p e in
      let same : suc p - 1 ≡ p = omega arith in
      record {
        some = omega arith;
        inside = h.0;
        at_fault = holds (ap fault same ∙ h.1.0);
        none_before = λ i l. first_none fault p h.1.1 i (omega arith);
      }

  -- and only that one
  pub named_found : (number : ℕ) → NamesFirst blocks fault number → first_of blocks fault ≡ number
  named_found number h =
      let same : number - 1 + 1 ≡ number = omega (arith, h.some) in
      first_found fault (number - 1) blocks (omega (arith, h.some, h.inside))
      (none_first fault (number - 1) (λ i l. h.none_before i (omega arith)))
      (true_is h.at_fault)
      ∙ same

-- what holds of the first refusal of several: of one that is given, whatever it is, or by its ground, a test that fails or a block at fault; and otherwise of
-- those that follow
pub by_one : (P : Refusal → Type 0) (x rest : Refusal) → ((x.number ≡ 0 → ⊥) → P x) → (x.number ≡ 0 → P rest) → P (or_else x rest)
by_one P x rest given passes = go (ℕ_discrete x.number 0)
  where
    go : Dec (x.number ≡ 0) → P (or_else x rest)
    go (yes e) = rw (or_next x rest e) (passes e)
    go (no some) = rw (or_first x rest some) (given some)

module _ (P : Refusal → Type 0) (n : ℕ) (some : n ≡ 0 → ⊥) (rest : Refusal) where
  pub by_test : (b : Bool) → (b ≡ false → P (refusal n 0)) → (b ≡ true → P rest) → P (or_else (unless n b) rest)
  by_test true fails passes = rw (or_next none rest refl) (passes refl)
  by_test false fails passes = rw (or_first (refusal n 0) rest some) (fails refl)

  pub by_block : (blocks : ℕ) (fault : ℕ → Bool) → ((block : ℕ) → NamesFirst blocks fault block → P (refusal n block)) → (((i : ℕ) → i < blocks → fault i ≡ false) → P rest) → P (or_else (blaming n (first_of blocks fault)) rest)
  by_block blocks fault fails passes = go (first_of blocks fault) refl
    where
      go : (b : ℕ) → first_of blocks fault ≡ b → P (or_else (blaming n b) rest)
      go zero e = rw (or_next none rest refl) (passes (first_none fault blocks e))
      go (suc p) e = rw (or_first (refusal n (suc p)) rest some) (fails (suc p) (found_named blocks fault p e))

-- and the other way round: a block that is named, and none
module _ (n blocks : ℕ) (fault : ℕ → Bool) (rest : Refusal) where
  pub names_blames : (block : ℕ) → (n ≡ 0 → ⊥) → NamesFirst blocks fault block → or_else (blaming n (first_of blocks fault)) rest ≡ refusal n block
  names_blames block some names = rw (named_found blocks fault block names) (sym (blames_some n block rest some names.some))

  pub none_blames : ((i : ℕ) → i < blocks → fault i ≡ false) → or_else (blaming n (first_of blocks fault)) rest ≡ rest
  none_blames h = rw (none_first fault blocks h) (or_next none rest refl)

-- ---- 7, of all that is lent

module _ (c : Case) (reaches : Bool) where
  -- where 3 and 7 do not refuse the case itself, what is lent besides decides
  pub lent_alone : (first_refusal (shape_of c)).number ≡ 0 → unless 7 reaches ≡ first_refusal (lent_of c reaches)
  unfolding lent_of
  lent_alone e = first_goes_on (shape_of c) (unless 7 reaches ∷ []) (first_refusal (shape_of c)) refl (unless 7 reaches) e (unless_alone 7 reaches (omega arith))

  -- where neither refuses, the case itself is not refused so far, and what is lent besides is long enough
  pub lent_apart : (first_refusal (lent_of c reaches)).number ≡ 0 → ((first_refusal (shape_of c)).number ≡ 0) × T reaches
  unfolding lent_of
  lent_apart e =
      let h = none_apart (shape_of c) (unless 7 reaches ∷ []) e in
      (h.0, holds_among 7 reaches (omega arith) here h.1)

  pub judged_apart : (judged_lent c reaches).number ≡ 0 → ((judged_of c).number ≡ 0) × T reaches
  judged_apart e =
      let h = none_apart (lent_of c reaches) (contents_of c) e in
      let l = lent_apart h.0 in
      (none_together (shape_of c) (contents_of c) l.0 h.1, l.1)

  pub judged_joint : (judged_of c).number ≡ 0 → T reaches → (judged_lent c reaches).number ≡ 0
  unfolding lent_of shape_of first_refusal or_else
  judged_joint e t = rw (true_is {b = reaches} t) e

-- ---- a case judged step by step, with all that is lent

module _ (c : Case) (reaches : Bool) where
  pub judged_shape : (r : Refusal) → (r.number ≡ 0 → ⊥) → r ≡ first_refusal (shape_of c) → r ≡ judged_lent c reaches
  unfolding lent_of
  judged_shape r some e = first_stays (lent_of c reaches) (contents_of c) r (first_stays (shape_of c) (unless 7 reaches ∷ []) r e some) some

  pub judged_short : none ≡ first_refusal (shape_of c) → reaches ≡ false → refusal 7 0 ≡ judged_lent c reaches
  judged_short e short =
      first_stays (lent_of c reaches) (contents_of c) (refusal 7 0) (ap (unless 7) (sym short) ∙ lent_alone c reaches (ap (λ r. r.number) (sym e))) (omega arith)

  pub judged_contents : (r : Refusal) → none ≡ first_refusal (shape_of c) → reaches ≡ true → r ≡ first_refusal (contents_of c) → r ≡ judged_lent c reaches
  judged_contents r e long told =
      first_goes_on (lent_of c reaches) (contents_of c) (unless 7 true) (ap (unless 7) (sym long) ∙ lent_alone c reaches (ap (λ r. r.number) (sym e))) r refl told

-- ---- what holds of a case that is not refused

pub room_roomy : (c : Case) → T (room_holds c) → Roomy c
unfolding room_holds
room_roomy c t =
    let a = both (leb c.grid.columns (length c.columns)) (leb c.grid.rows (length c.rows) && leb (slots_each * blocks_of c.grid) (length c.slots)) t in
    let b = both (leb c.grid.rows (length c.rows)) (leb (slots_each * blocks_of c.grid) (length c.slots)) a.1 in
    record { columns = leb→le _ _ a.0; rows = leb→le _ _ b.0; slots = leb→le _ _ b.1 }

-- slices that are long enough pass 7
pub roomy_room : (c : Case) → Roomy c → room_holds c ≡ true
unfolding room_holds
roomy_room c h =
    let columns = leb c.grid.columns (length c.columns) in
    let rows = leb c.grid.rows (length c.rows) in
    let slots = leb (slots_each * blocks_of c.grid) (length c.slots) in
    true_is (joint columns (rows && slots) (le→leb _ _ h.columns) (joint rows slots (le→leb _ _ h.rows) (le→leb _ _ h.slots)))

faultless : (g : Grid) (slots : List ℤ) → fault_of g slots ≡ 0 → (i : ℕ) → i < blocks_of g → T (slots_hold (part_of slots i) (top_of g i))
unfolding fault_of
faultless g slots e i l =
    holds (not-false (slots_hold (part_of slots i) (top_of g i)) (first_none (slots_fail g slots) (blocks_of g) e i l))

-- 3 and 7 did not refuse
pub shape_stands : (c : Case) → (first_refusal (shape_of c)).number ≡ 0 → Counted c.grid × Roomy c
unfolding shape_of
shape_stands c e = (
  counts_counted c.grid (holds_among 3 (counts_hold c.grid) (omega arith) (search (here, later)) e),
  room_roomy c (holds_among 7 (room_holds c) (omega arith) (search (here, later)) e),
)

pub shape_passed : (c : Case) → none ≡ first_refusal (shape_of c) → Counted c.grid × Roomy c
shape_passed c e = shape_stands c (ap (λ r. r.number) (sym e))

-- nor do they, where the counts are in range and there is room
pub shape_passes : (c : Case) → T (counts_hold c.grid) → Roomy c → (first_refusal (shape_of c)).number ≡ 0
unfolding shape_of first_refusal or_else
shape_passes c t m = rw (true_is {b = counts_hold c.grid} t, roomy_room c m) refl

-- 4, 5 and 6 refuse nothing where the terms, the widths and the blocks pass
pub contents_pass : (c : Case) → terms_hold c.grid ≡ true → widths_hold c.grid c.columns c.rows ≡ true → fault_of c.grid c.slots ≡ 0 → (first_refusal (contents_of c)).number ≡ 0
unfolding contents_of first_refusal or_else
contents_pass c t w f = rw (t, w, f) refl

-- 4, 5 and 6 did not refuse
abbrev wide : Range
wide = between (pos 1) (pos most_width)

module _ (c : Case) (e : (first_refusal (contents_of c)).number ≡ 0) where
  terms_stand : T (terms_hold c.grid)
  unfolding contents_of
  terms_stand = holds_among 4 (terms_hold c.grid) (omega arith) (search (here, later)) e

  widths_stand : T (all_within wide c.columns c.grid.columns) × T (all_within wide c.rows c.grid.rows)
  unfolding contents_of widths_hold
  widths_stand = both (all_within wide c.columns c.grid.columns) (all_within wide c.rows c.grid.rows) (holds_among 5 (widths_hold c.grid c.columns c.rows) (omega arith) (search (here, later)) e)

  no_fault : fault_of c.grid c.slots ≡ 0
  unfolding contents_of
  no_fault = blames_none 6 (fault_of c.grid c.slots) (omega arith) (search (here, later)) e

-- The law that a case which is not refused has the ranges that later parts require.
pub judged_stands : (c : Case) → (judged_of c).number ≡ 0 → Judged c
judged_stands c e =
    let h = none_apart (shape_of c) (contents_of c) e in
    let shape = shape_stands c h.0 in
    let widths = widths_stand c h.1 in
    let stands = faultless c.grid c.slots (no_fault c h.1) in
    record {
      counted = shape.0;
      roomy = shape.1;
      termed = terms_termed c.grid (terms_stand c h.1);
      column = within_at wide c.columns c.grid.columns widths.0;
      row = within_at wide c.rows c.grid.rows widths.1;
      active = λ i l. slots_active (part_of c.slots i) (top_of c.grid i) (stands i l);
      inactive = λ i l. slots_inactive (part_of c.slots i) (top_of c.grid i) (stands i l);
    }

pub judged_runs : (c : Case) → none ≡ first_refusal (shape_of c) → none ≡ first_refusal (contents_of c) → Judged c
judged_runs c e f = judged_stands c (none_together (shape_of c) (contents_of c) (ap (λ r. r.number) (sym e)) (ap (λ r. r.number) (sym f)))

-- And the other way round: a case with these ranges is not refused.
pub stands_judged : (c : Case) → Judged c → (judged_of c).number ≡ 0
unfolding widths_hold fault_of
stands_judged c h =
    let widths = ap₂ ◌&&◌ (within_all wide c.columns c.grid.columns h.column) (within_all wide c.rows c.grid.rows h.row) in
    let stand : (i : ℕ) → i < blocks_of c.grid → slots_fail c.grid c.slots i ≡ false = λ i l. ap not (slots_stand (part_of c.slots i) (top_of c.grid i) (h.active i l) (h.inactive i l)) in
    none_together (shape_of c) (contents_of c) (shape_passes c (counted_counts c.grid h.counted) h.roomy)
    (contents_pass c (true_is (termed_terms c.grid h.termed)) widths (none_first (slots_fail c.grid c.slots) (blocks_of c.grid) stand))
