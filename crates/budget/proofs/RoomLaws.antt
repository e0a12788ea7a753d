-- Cases of one record that are alike in the numbers that it needs are answered alike. Assumes nothing.
use mathlib.Core.Bool.{Bool}
use mathlib.Core.List.{List, [], ◌∷◌}
use mathlib.Core.Path.{◌∙◌, ◌≡◌, ap, refl, sym}
use Prim.Native.Nat.{ℕ}
use lib.Dec.{T}
use lib.IntN.{pos, ℤ}
use Rattle.whole.specs.Ranges.{between}
use Rattle.grid.specs.Place.{blocks_of}
use Rattle.slots.proofs.SlotsLaws.{SameTo}
use Rattle.slices.specs.Slices.{Case, blaming, case_of, first_refusal, unless}
use Rattle.slices.specs.Inner.{Roomy}
use Rattle.slices.proofs.SlicesLaws.{none_apart, runs_same}
use Rattle.block.specs.Fluids.{fresh, salt}
use Rattle.wellformed.specs.Limits.{checked_of, checks_of, lent_checks_of}
use Rattle.wellformed.specs.Inner.{WellFormed}
use Rattle.wellformed.proofs.LimitsLaws.{checked_stands, lent_long, lent_stands}
use Rattle.wellformed.proofs.RoomLaws.{Alike, block_in_same, room_unread, within_same}
use Rattle.books.specs.Waters.{well_checks}
use Rattle.books.proofs.AlikeLaws.{dry_same, dry_wells_same}
use Rattle.balance.proofs.SameLaws.{alike_cases}
use Rattle.zone.specs.Zones.{marked_of}
use Rattle.budget.specs.Answers.{case_refusal, eighteen_of, everywhere, layer_answer, layer_zone, marks_hold, marks_reach, table_checks, tabled, whole_answer, zone_answer, zone_refusal}
use Rattle.budget.proofs.AnswersLaws.{eighteen_of_same, eighteen_same, marked_same, tabled_same}

module _ (c : Case) (columns rows slots : List ℤ) (alike : Alike c (case_of c.grid columns rows slots)) (roomy : Roomy c) (other-roomy : Roomy (case_of c.grid columns rows slots)) where
  abbrev other : Case
  other = case_of c.grid columns rows slots

  -- they are refused alike
  checked_alike : checked_of c ≡ checked_of other
  checked_alike = room_unread c other roomy other-roomy alike

  wells_alike : first_refusal (well_checks c) ≡ first_refusal (well_checks other)
  wells_alike = ap (λ (b : ℕ). first_refusal (blaming 13 b ∷ [])) (dry_wells_same c.grid c.slots slots (λ i l. dry_same c.grid c.slots slots i (block_in_same c columns rows slots alike i l)))

  case_alike : case_refusal c ≡ case_refusal other
  case_alike = runs_same (checks_of c) (well_checks c) (checks_of other) (well_checks other) checked_alike wells_alike

  -- and have the same lines where they are not refused
  lines_alike : WellFormed c → (z : ℕ → Bool) → eighteen_of c z ≡ eighteen_of other z
  lines_alike formed =
      let counted = formed.judged.counted in
      eighteen_of_same counted refl (alike_cases c columns rows slots alike counted fresh) (alike_cases c columns rows slots alike counted salt)

  tabled_alike : (z : ℕ → Bool) → tabled (case_refusal c) (eighteen_of c z) ≡ tabled (case_refusal other) (eighteen_of other z)
  tabled_alike z = tabled_same (eighteen_of c z) (eighteen_of other z) case_alike (λ e. lines_alike (checked_stands c (none_apart (checks_of c) (well_checks c) e).0) z)

  pub layer_alike : (layer : ℕ) → layer_answer c layer ≡ layer_answer other layer
  unfolding layer_answer
  layer_alike layer = tabled_alike (layer_zone c.grid layer)

  pub whole_alike : whole_answer c ≡ whole_answer other
  unfolding whole_answer
  whole_alike = tabled_alike everywhere

  module _ (marks others : List ℤ) (reach : T (marks_reach c.grid marks)) (others-reach : T (marks_reach c.grid others)) (same : SameTo (blocks_of c.grid) marks others) where
    zone_refused_alike : zone_refusal c marks ≡ zone_refusal other others
    zone_refused_alike =
        runs_same (lent_checks_of c (marks_reach c.grid marks)) (table_checks c marks) (lent_checks_of other (marks_reach c.grid others)) (table_checks other others)
        (lent_long c (marks_reach c.grid marks) reach ∙ checked_alike ∙ sym (lent_long other (marks_reach c.grid others) others-reach))
        (runs_same (unless 11 (marks_hold c.grid marks) ∷ []) (well_checks c) (unless 11 (marks_hold c.grid others) ∷ []) (well_checks other)
        (ap (λ b. first_refusal (unless 11 b ∷ [])) (within_same (between (pos 0) (pos 1)) (blocks_of c.grid) marks others same)) wells_alike)

    pub zone_alike : zone_answer c marks ≡ zone_answer other others
    unfolding zone_answer
    zone_alike =
        tabled_same (eighteen_of c (marked_of marks)) (eighteen_of other (marked_of others)) zone_refused_alike
        (λ e.
        let formed = (lent_stands c (marks_reach c.grid marks) (none_apart (lent_checks_of c (marks_reach c.grid marks)) (table_checks c marks) e).0).0 in
        eighteen_same c formed.judged.counted (marked_of marks) (marked_of others) (marked_same (blocks_of c.grid) marks others same) ∙ lines_alike formed (marked_of others))
