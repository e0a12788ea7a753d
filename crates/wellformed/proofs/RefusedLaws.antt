-- What slices are refused with, row by row of `SlicesRefused`: the row of a refusal, and the refusal of a row. Assumes nothing.
use mathlib.Core.Bool.{Bool, ◌&&◌, false, true, true≢false}
use mathlib.Core.List.{◌++◌}
use mathlib.Core.Logic.{◌≢◌}
use mathlib.Core.Path.{◌∙◌, ◌≡◌, ap, ap₂, refl, sym}
use Prim.Native.Nat.{◌<◌, ℕ}
use native.Mathlib.Omega.{arith}
use lib.Dec.{T}
use Rattle.whole.proofs.SearchLaws.{holds, none_first, true_is}
use Rattle.grid.specs.Inner.{Counted, Termed}
use Rattle.grid.specs.Judging.{counts_hold, terms_hold}
use Rattle.grid.specs.Place.{blocks_of}
use Rattle.grid.proofs.JudgingLaws.{counted_counts, counts_counted, termed_terms, terms_termed}
use Rattle.slices.specs.Refusals.{Refusal}
use Rattle.slices.specs.Slices.{Case, contents_of, fault_of, first_refusal, lent_of, or_else, refusal, room_holds, shape_of, slots_fail, unless, widths_hold}
use Rattle.slices.specs.Inner.{Judged, Roomy, judged_lent}
use Rattle.slices.proofs.SlicesLaws.{by_block, by_test, contents_pass, first_goes_on, judged_joint, judged_stands, names_blames, none_blames, none_together, room_roomy, roomy_room, shape_passes, stands_judged}
use Rattle.wellformed.specs.Meaning.{SlicesRefused, five, four, nine, seven, six, ten, three}
use Rattle.wellformed.specs.Limits.{at_fault, block_exceeds, checked_lent, first_at_fault, limits_of, overlaps}

module _ (c : Case) (reaches : Bool) where
  abbrev blocks : ℕ
  blocks = blocks_of c.grid

  -- ---- the row of a refusal, test by test

  -- where 3, 7, 4, 5 and 6 pass
  judged_passes : Counted c.grid → Roomy c → terms_hold c.grid ≡ true → widths_hold c.grid c.columns c.rows ≡ true → ((i : ℕ) → i < blocks → slots_fail c.grid c.slots i ≡ false) → Judged c
  unfolding fault_of
  judged_passes counted roomy terms widths stand =
      judged_stands c
      (none_together (shape_of c) (contents_of c) (shape_passes c (counted_counts c.grid counted) roomy) (contents_pass c terms widths (none_first (slots_fail c.grid c.slots) blocks stand)))

  pub refused_row : let r = checked_lent c reaches in r.number ≢ 0 → SlicesRefused c reaches r.number r.block
  unfolding lent_of shape_of contents_of limits_of fault_of first_at_fault at_fault first_refusal
  refused_row =
      by_test Row 3 (omega arith) _ (counts_hold c.grid) (λ fails s. three fails) λ counts.
      let counted = counts_counted c.grid (holds counts) in
      by_test Row 7 (omega arith) _ (room_holds c) (λ fails s. seven counted (ap (λ b. b && reaches) fails)) λ room.
      let roomy = room_roomy c (holds room) in
      by_test Row 7 (omega arith) _ reaches (λ fails s. seven counted (ap₂ ◌&&◌ room fails)) λ lent.
      by_test Row 4 (omega arith) _ (terms_hold c.grid) (λ fails s. four counted roomy (holds lent) fails) λ terms.
      let termed = terms_termed c.grid (holds terms) in
      by_test Row 5 (omega arith) _ (widths_hold c.grid c.columns c.rows) (λ fails s. five counted roomy (holds lent) termed fails) λ widths.
      by_block Row 6 (omega arith) _ blocks (slots_fail c.grid c.slots) (λ block names s. six counted roomy (holds lent) termed (holds widths) names) λ stand.
      let judged = judged_passes counted roomy terms widths stand in
      by_block Row 9 (omega arith) _ blocks (overlaps c) (λ block names s. nine judged (holds lent) names) λ apart.
      by_block Row 10 (omega arith) _ blocks (block_exceeds c) (λ block names s. ten judged (holds lent) apart names) λ below.
      λ s. absurd (s refl)
    where
      Row : Refusal → Type 0
      Row r = r.number ≢ 0 → SlicesRefused c reaches r.number r.block

  -- ---- the refusal of a row

  counts_pass : Counted c.grid → counts_hold c.grid ≡ true
  counts_pass counted = true_is {b = counts_hold c.grid} (counted_counts c.grid counted)

  terms_pass : Termed c.grid → terms_hold c.grid ≡ true
  terms_pass termed = true_is {b = terms_hold c.grid} (termed_terms c.grid termed)

  -- after 3 and 7, and after 6 too
  after_7 : (r : Refusal) → Counted c.grid → Roomy c → T reaches → first_refusal (contents_of c ++ limits_of c) ≡ r → checked_lent c reaches ≡ r
  unfolding lent_of shape_of first_refusal or_else
  after_7 r counted roomy lent e = rw (counts_pass counted, roomy_room c roomy, true_is {b = reaches} lent) e

  after_6 : (r : Refusal) → Judged c → T reaches → first_refusal (limits_of c) ≡ r → checked_lent c reaches ≡ r
  after_6 r judged lent e =
      sym (first_goes_on (lent_of c reaches ++ contents_of c) (limits_of c) (judged_lent c reaches) refl r (judged_joint c reaches (stands_judged c judged) lent) (sym e))

  pub row_refused : {number block : ℕ} → SlicesRefused c reaches number block → checked_lent c reaches ≡ refusal number block
  unfolding lent_of shape_of contents_of limits_of fault_of first_at_fault at_fault first_refusal or_else
  row_refused (three fails) = rw fails
  row_refused (seven counted fails) = rw (counts_pass counted) (short (room_holds c) reaches fails)
    where
      short : (a b : Bool) → a && b ≡ false → or_else (unless 7 a) (or_else (unless 7 b) (first_refusal (contents_of c ++ limits_of c))) ≡ refusal 7 0
      short true true e = absurd (true≢false e)
      short true false e = refl
      short false b e = refl
  row_refused (four counted roomy lent fails) = after_7 (refusal 4 0) counted roomy lent (rw fails)
  row_refused (five counted roomy lent termed fails) = after_7 (refusal 5 0) counted roomy lent (rw (terms_pass termed, fails))
  row_refused (six {block = block} counted roomy lent termed widths names) =
      after_7 (refusal 6 block) counted roomy lent
      (rw (terms_pass termed, true_is {b = widths_hold c.grid c.columns c.rows} widths) (names_blames 6 blocks (slots_fail c.grid c.slots) _ block (omega arith) names))
  row_refused (nine {block = block} judged lent names) = after_6 (refusal 9 block) judged lent (names_blames 9 blocks (overlaps c) _ block (omega arith) names)
  row_refused (ten {block = block} judged lent apart names) =
      after_6 (refusal 10 block) judged lent (none_blames 9 blocks (overlaps c) _ apart ∙ names_blames 10 blocks (block_exceeds c) _ block (omega arith) names)
