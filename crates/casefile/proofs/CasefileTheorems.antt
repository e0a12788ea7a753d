-- What the reader of a case file promises, whatever bytes and slices it is given (document 01, "The case file" and "Refusal numbers"). Assumes nothing.
use mathlib.Core.List.{List}
use mathlib.Core.Path.{◌∙◌, ◌≡◌, refl, sym}
use Prim.Native.Nat.{◌*◌, ◌≤◌, ℕ}
use native.Mathlib.Omega.{arith}
use lib.IntN.{pos, ℤ}
use lib.ListN.{drop, length}
use Rattle.whole.specs.Lent.{over}
use Rattle.whole.proofs.LentLaws.{over_behind, over_room, over_same}
use Rattle.grid.specs.declared.Grid.{Grid}
use Rattle.grid.specs.Judging.{counts_hold}
use Rattle.grid.specs.Place.{blocks_of}
use Rattle.slots.specs.Units.{slots_each}
use Rattle.slices.specs.Inner.{Roomy}
use Rattle.slices.specs.Slices.{case_of, none, shape_of}
use Rattle.slices.proofs.SlicesLaws.{here, holds_among}
use Rattle.wellformed.specs.Limits.{checked_of}
use Rattle.wellformed.proofs.RoomLaws.{Alike, room_unread}
use Rattle.casefile.specs.Reading.{case_from, columns_from, reading_of, rows_from, slots_from}
use Rattle.casefile.proofs.ReadingLaws.{unrefused, body_lengths, body_passes, body_roomy, read_holds}

-- Demand 1: a refusal leaves every lent slice as it was.
pub refused_unchanged : (file : List ℕ) (columns rows slots : List ℤ) → let r = reading_of file columns rows slots in (r.answer.refusal.number ≡ 0 → ⊥) →
    (over r.columns columns ≡ columns) × ((over r.rows rows ≡ rows) × (over r.slots slots ≡ slots))
refused_unchanged file columns rows slots =
    read_holds (λ r. (r.answer.refusal.number ≡ 0 → ⊥) → (over r.columns columns ≡ columns) × ((over r.rows rows ≡ rows) × (over r.slots slots ≡ slots)))
    (λ c some. absurd (some refl))
    (λ r listed some. (refl, (refl, refl)))
    file columns rows slots

-- A file that is not refused: the numbers read are as many as its record needs.
pub needed_read : (file : List ℕ) (columns rows slots : List ℤ) → let r = reading_of file columns rows slots in let g = r.answer.grid in r.answer.refusal.number ≡ 0 →
    (length r.columns ≡ g.columns) × ((length r.rows ≡ g.rows) × (length r.slots ≡ slots_each * blocks_of g))
unfolding case_from
needed_read file columns rows slots e =
    let a = unrefused file columns rows slots e in
    rw a.is (body_lengths a.grid file a.from a.next a.done)

-- "Room beyond what is needed is not touched."
pub beyond_untouched : (file : List ℕ) (columns rows slots : List ℤ) → let r = reading_of file columns rows slots in let g = r.answer.grid in r.answer.refusal.number ≡ 0 →
    (drop g.columns (over r.columns columns) ≡ drop g.columns columns)
    × ((drop g.rows (over r.rows rows) ≡ drop g.rows rows) × (drop (slots_each * blocks_of g) (over r.slots slots) ≡ drop (slots_each * blocks_of g) slots))
beyond_untouched file columns rows slots e =
    let r = reading_of file columns rows slots in
    let g = r.answer.grid in
    let sizes = needed_read file columns rows slots e in (
      over_behind g.columns r.columns columns sizes.0,
      (over_behind g.rows r.rows rows sizes.1.0, over_behind (slots_each * blocks_of g) r.slots slots sizes.1.1),
    )

module _ (g : Grid) (c r s columns rows slots : List ℤ) (sizes : (length c ≡ g.columns) × ((length r ≡ g.rows) × (length s ≡ slots_each * blocks_of g))) where
  -- so with as many widths and slots as a record needs
  over_roomy : Roomy (case_of g (over c columns) (over r rows) (over s slots))
  over_roomy = record {
    columns = over_room g.columns c columns sizes.0;
    rows = over_room g.rows r rows sizes.1.0;
    slots = over_room (slots_each * blocks_of g) s slots sizes.1.1;
  }

  -- and the case there is alike to that in these alone
  over_alike : Alike (case_of g c r s) (case_of g (over c columns) (over r rows) (over s slots))
  over_alike = record {
    grid = refl;
    columns = over_same (pos 0) g.columns c columns sizes.0;
    rows = over_same (pos 0) g.rows r rows sizes.1.0;
    slots = over_same (pos 0) (slots_each * blocks_of g) s slots sizes.1.1;
  }

-- What was read passes `check_slices` with the same record, in the lent slices as they then are.
pub read_passes : (file : List ℕ) (columns rows slots : List ℤ) → let r = reading_of file columns rows slots in r.answer.refusal.number ≡ 0 →
    checked_of (case_of r.answer.grid (over r.columns columns) (over r.rows rows) (over r.slots slots)) ≡ none
unfolding case_from shape_of
read_passes file columns rows slots e =
    let a = unrefused file columns rows slots e in
    let g = a.grid in
    let sizes = body_lengths g file a.from a.next a.done in
    let c = (columns_from g file a.from).values in
    let r = (rows_from g file a.from).values in
    let s = (slots_from g file a.from).values in
    let same = room_unread (case_from g file a.from) (case_of g (over c columns) (over r rows) (over s slots)) (body_roomy g file a.from a.next a.done) (over_roomy g c r s columns rows slots sizes) (over_alike g c r s columns rows slots sizes) in
    let counted = holds_among 3 (counts_hold g) (omega arith) here a.shape in
    rw a.is (sym same ∙ body_passes g file a.from a.next counted a.termed a.done a.limits)

-- A refusal of a file is one of 1 to 10.
pub ten_refusals : (file : List ℕ) (columns rows slots : List ℤ) → (reading_of file columns rows slots).answer.refusal.number ≤ 10
ten_refusals = read_holds (λ r. r.answer.refusal.number ≤ 10) (λ c. omega arith) (λ r listed. listed.1)
