-- The theorems about a block's report (document 01, "Metres"). Assumes nothing.
use mathlib.Core.Bool.{Bool, cond, false, true, true≢false}
use mathlib.Core.List.{List, [], ◌∷◌}
use mathlib.Core.Logic.{◌↔◌, ◌≢◌}
use mathlib.Core.Path.{◌∙◌, ◌≡◌, ap, refl, subst, sym}
use Prim.Native.Nat.{◌-◌, ℕ}
use native.Mathlib.Decide.{ℕ_discrete}
use lib.IntN.{pos, ℤ}
use borrow.Author.Tests.{eq-eqb}
use Rattle.whole.specs.Inner.{Abs}
use Rattle.whole.proofs.RangeLaws.{leaf, within}
use Rattle.grid.specs.Place.{top_of}
use Rattle.slots.specs.declared.Block.{Block}
use Rattle.slots.specs.Inner.{Ends}
use Rattle.slots.specs.Slots.{block_of}
use Rattle.slots.specs.Units.{most_level}
use Rattle.slices.specs.Slices.{Case, case_of, first_refusal, none, refusal}
use Rattle.slices.specs.Inner.{Judged, Roomy}
use Rattle.slices.proofs.SlicesLaws.{given_same, none_apart, runs_same}
use Rattle.block.specs.declared.Fluids.{Fluids}
use Rattle.block.specs.Density.{interface_of}
use Rattle.block.specs.Inner.{Heads, Thick}
use Rattle.block.specs.Fluids.{new_heads}
use Rattle.block.specs.Geometry.{levels_of, thicknesses_of}
use Rattle.block.proofs.BlockLaws.{levels_levelled, thicknesses_thick}
use Rattle.block.proofs.DensityLaws.{interface_in}
use Rattle.block.proofs.FluidLaws.{new_heads_in}
use Rattle.metres.specs.Meaning.{Shows}
use Rattle.metres.specs.Metres.{metres_of, taken, taken_of}
use Rattle.metres.proofs.MetresTheorems.{shown_again, shown_told}
use Rattle.metres.proofs.ShownLaws.{metres_exact}
use Rattle.wellformed.specs.Inner.{WellFormed}
use Rattle.wellformed.specs.Limits.{checked_of, checks_of}
use Rattle.wellformed.proofs.RoomLaws.{Alike, block_in_same, by_record, room_unread}
use Rattle.report.specs.declared.Report.{Report}
use Rattle.report.specs.Meaning.{Named, ReportRefused, fourteen, slices}
use Rattle.report.specs.Reports.{in_metres, names_active, naming, no_report, report_answer, report_of, report_refusal, telling}
use Rattle.report.proofs.ReportLaws.{case_reported, check_refuses, named, named_inside, names, names_same, naming_none, refusal_is, unreported}
use Rattle.wellformed.proofs.WellformedTheorems.{slices_refused_exactly, wellformed_exactly}

-- ---- who is answered

-- A report is given exactly for a well-formed case and the number of an active block.
pub reported_exactly : (c : Case) (number : ℕ) → ((report_answer c number).refusal.number ≡ 0) ↔ (WellFormed c × Named c number)
unfolding report_answer
reported_exactly c number = (
  λ e.
      let h = none_apart (checks_of c) (naming c number ∷ []) e in
      ((wellformed_exactly c).0 h.0, named c number (naming_none number (names_active c.grid c.slots number) h.1)),
  λ h. ap (λ r. r.number) (sym (refusal_is c number ((wellformed_exactly c).1 h.0)) ∙ ap (λ b. cond b none (refusal 14 number)) (names c number h.1)),
)

-- Slices that are refused are so before the number is looked at,
pub slices_first : (c : Case) (number : ℕ) → (checked_of c).number ≢ 0 → (report_answer c number).refusal ≡ checked_of c
slices_first c number h = ap (λ a. a.refusal) (sym (check_refuses c number (checked_of c) refl h))

-- and otherwise a number that names no active block is refused with 14, which names it.
pub fourteen_asked : (c : Case) (number : ℕ) → WellFormed c → (Named c number → ⊥) → (report_answer c number).refusal ≡ refusal 14 number
fourteen_asked c number formed n =
    ap (λ a. a.refusal) (sym (unreported c number (go (names_active c.grid c.slots number) (named c number)) ∙ case_reported c number ((wellformed_exactly c).1 formed)))
  where
    go : (b : Bool) → (b ≡ true → Named c number) → b ≡ false
    go true h = absurd (n (h refl))
    go false h = refl

-- A number is given, and a block named, exactly where a row of `ReportRefused` says so.
pub report_refused_exactly : (c : Case) (asked number block : ℕ) → number ≢ 0 → ((report_answer c asked).refusal ≡ refusal number block) ↔ ReportRefused c asked number block
report_refused_exactly c asked number block some = (row_of (ℕ_discrete (checked_of c).number 0) (names_active c.grid c.slots asked) refl, given some)
  where
    given : {number block : ℕ} → number ≢ 0 → ReportRefused c asked number block → (report_answer c asked).refusal ≡ refusal number block
    given {number} {block} some (slices row) =
        let told = (slices_refused_exactly c number block some).1 row in
        slices_first c asked (λ z. some (sym (ap (λ r. r.number) told) ∙ z)) ∙ told
    given some (fourteen formed unnamed) = fourteen_asked c asked formed unnamed

    row_of : Dec ((checked_of c).number ≡ 0) → (b : Bool) → names_active c.grid c.slots asked ≡ b → (report_answer c asked).refusal ≡ refusal number block → ReportRefused c asked number block
    row_of (no refused) b is e = slices ((slices_refused_exactly c number block some).0 (sym (slices_first c asked refused) ∙ e))
    row_of (yes passed) true is e = absurd (some (sym (ap (λ r. r.number) e) ∙ (reported_exactly c asked).1 ((wellformed_exactly c).0 passed, named c asked is)))
    row_of (yes passed) false is e =
        let formed = (wellformed_exactly c).0 passed in
        let unnamed : Named c asked → ⊥ = λ n. true≢false (sym (names c asked n) ∙ is) in
        subst (λ r. ReportRefused c asked r.number r.block) (sym (fourteen_asked c asked formed unnamed) ∙ e) (fourteen formed unnamed)

-- ---- what is reported

-- a tick's metres are taken in as it
again : (t : ℤ) → Abs most_level t → taken_of (pos most_level) (metres_of t) ≡ taken none t
again t h = sym (ap (λ a. taken_of (pos most_level) a.metres) (shown_told t (within (leaf h) tt tt))) ∙ shown_again (pos most_level) t h h.high

-- of a number that is answered
module _ (c : Case) (number : ℕ) (e : (report_answer c number).refusal.number ≡ 0) where
  abbrev own : Block
  own = block_of c.slots (number - 1)

  abbrev heads : Fluids
  heads = new_heads own

  abbrev waters : Fluids
  waters = thicknesses_of (levels_of c.grid own (top_of c.grid (number - 1)) heads)

  told : (report_answer c number).report ≡ in_metres heads (interface_of c.grid heads) waters
  unfolding report_answer report_of
  told = ap (λ b. cond b (report_of c.grid own (top_of c.grid (number - 1))) no_report) (eq-eqb (report_refusal c number).number 0 e)

  judged : Judged c
  judged = ((reported_exactly c number).0 e).0.judged

  ends : Ends own
  ends =
      let n = ((reported_exactly c number).0 e).1 in
      (judged.active (number - 1) (named_inside c number n) n.1.1).ends

  heads_in : Heads heads
  heads_in = new_heads_in own ends

  waters_in : Thick waters
  waters_in = thicknesses_thick (levels_of c.grid own (top_of c.grid (number - 1)) heads) (levels_levelled c.grid own (top_of c.grid (number - 1)) heads ends)

  -- Each of the five doubles is exact: both heads, ζ by these heads, and both thicknesses.
  pub report_exact : let r = (report_answer c number).report in
      Shows r.fresh_head heads.fresh
      × (Shows r.salt_head heads.salt × (Shows r.interface (interface_of c.grid heads) × (Shows r.fresh_thickness waters.fresh × Shows r.salt_thickness waters.salt)))
  report_exact = rw told (
    metres_exact heads.fresh (within (leaf heads_in.of_fresh) tt tt),
    (
      metres_exact heads.salt (within (leaf heads_in.of_salt) tt tt),
      (
        metres_exact (interface_of c.grid heads) (within (leaf (interface_in c.grid heads judged.termed heads_in)) tt tt),
        (metres_exact waters.fresh (within (leaf waters_in.of_fresh) tt tt), metres_exact waters.salt (within (leaf waters_in.of_salt) tt tt)),
      ),
    ),
  )

  -- Taken in again, heads and thicknesses are what they were.
  pub report_again : let r = (report_answer c number).report in
      (taken_of (pos most_level) r.fresh_head ≡ taken none heads.fresh)
      × ((taken_of (pos most_level) r.salt_head ≡ taken none heads.salt)
      × ((taken_of (pos most_level) r.fresh_thickness ≡ taken none waters.fresh) × (taken_of (pos most_level) r.salt_thickness ≡ taken none waters.salt)))
  report_again = rw told (
    again heads.fresh heads_in.of_fresh,
    (again heads.salt heads_in.of_salt, (again waters.fresh (within (leaf waters_in.of_fresh) tt tt), again waters.salt (within (leaf waters_in.of_salt) tt tt))),
  )

-- ---- room

-- cases of one record, alike in the numbers that it needs, have one report
report_alike : (c : Case) (columns rows slots : List ℤ) (number : ℕ) → let other = case_of c.grid columns rows slots in Roomy c → Roomy other → Alike c other → report_answer c number ≡ report_answer other number
unfolding report_answer
report_alike c columns rows slots number m n alike =
    let other = case_of c.grid columns rows slots in
    let block = number - 1 in
    let report : Block → Report = λ b. report_of c.grid b (top_of c.grid block) in
    let blocks = block_in_same c columns rows slots alike in
    let named = names_same c.grid c.slots slots blocks number in
    let refused : report_refusal c number ≡ report_refusal other number = runs_same (checks_of c) (naming c number ∷ []) (checks_of other) (naming other number ∷ []) (room_unread c other m n alike) (λ k. first_refusal (cond (named k) none (refusal 14 number) ∷ [])) in
    λ k. telling (refused k)
    (given_same (report (block_of c.slots block)) (report (block_of slots block)) no_report refused (λ e. ap report (blocks block (named_inside c number ((reported_exactly c number).0 e).1))) k)

-- "Room beyond what is needed is not touched.", nor is it read: a report is told by the numbers that the record needs.
pub report_room_unread : (c d : Case) (number : ℕ) → Roomy c → Roomy d → Alike c d → report_answer c number ≡ report_answer d number
report_room_unread c d number m n a =
    by_record (λ d. Roomy d → Alike c d → report_answer c number ≡ report_answer d number) d a.grid (report_alike c d.columns d.rows d.slots number m) n a
