-- Numbers worked by hand (document 01): "512 blocks pass, 513 refused", and the case of its printed session. Assumes nothing.
use mathlib.Core.Path.{◌≡◌, refl}
use mathlib.Core.List.{List, [], ◌∷◌}
use Prim.Native.Nat.{ℕ, ◌≤◌}
use borrow.Author.Tests.{le-leb}
use lib.IntN.{ℤ, pos, neg_ℤ}
use lib.ListN.{length}
use Rattle.whole.specs.Search.{every, first_of}
use Rattle.whole.specs.Ranges.{in_range, all_within}
use Rattle.grid.specs.declared.Grid.{Grid}
use Rattle.grid.specs.Place.{place_of, top_of}
use Rattle.grid.specs.Record.{record_of}
use Rattle.grid.specs.Judging.{counts_hold, density_holds, terms_hold}
use Rattle.slots.specs.Ranges.{range_of, ends_hold}
use Rattle.slots.specs.Slots.{slots_at}
use Rattle.slots.specs.Rules.{all_zero, screen_within, screens_hold, layer_holds, boundary_holds, rules_hold, slots_hold}
use Rattle.slices.specs.Slices.{Case, case_of, none, refusal, or_else, first_refusal, room_holds, widths_hold, fault_of, shape_of, contents_of}
use Rattle.slices.specs.Inner.{judged_of}

abbrev pub sized : ℕ → ℕ → ℕ → Grid
sized columns rows layers = record_of columns rows layers (pos 40) (pos 0) (pos 0) 0 (pos 30) (pos 5)

-- 64 x 8 x 1 blocks are refused neither with 3 nor, in slices that are long enough, with 7
pub blocks_512_pass : (columns rows slots : List ℤ) → 64 ≤ length columns → 8 ≤ length rows → 8192 ≤ length slots → first_refusal (shape_of (case_of (sized 64 8 1) columns rows slots)) ≡ none
unfolding or_else first_refusal counts_hold room_holds shape_of
blocks_512_pass columns rows slots c r s = rw (le-leb 64 (length columns) c, le-leb 8 (length rows) r, le-leb 8192 (length slots) s)

-- 27 x 19 x 1 blocks are refused with 3, whatever the slices hold
pub blocks_513_refused : (columns rows slots : List ℤ) → judged_of (case_of (sized 27 19 1) columns rows slots) ≡ refusal 3 0
unfolding or_else first_refusal counts_hold shape_of contents_of
blocks_513_refused columns rows slots = refl

-- the case that document 01 prints: two active blocks
abbrev pub printed_case : Case
printed_case =
    case_of (sized 2 1 1) (pos 100 ∷ pos 100 ∷ []) (pos 100 ∷ [])
    (pos 10000 ∷ neg_ℤ (pos 204800) ∷ pos 245760 ∷ pos 200 ∷ pos 0 ∷ pos 0 ∷ pos 0 ∷ pos 0 ∷ pos 0 ∷ pos 5 ∷ pos 0 ∷ pos 0 ∷ pos 8192 ∷ pos 0 ∷ pos 8192 ∷ pos 0
    ∷ pos 10000 ∷ neg_ℤ (pos 204800) ∷ pos 245760 ∷ pos 200 ∷ pos 0 ∷ pos 0 ∷ pos 150 ∷ neg_ℤ (pos 4096) ∷ pos 4096 ∷ pos 0 ∷ pos 0 ∷ pos 0 ∷ pos 8191 ∷ pos 0 ∷ pos 8191 ∷ pos 0
    ∷ [])

-- it is refused with none of the five: what `Judged` asks can be met
pub printed_case_passes : judged_of printed_case ≡ none
unfolding every first_of in_range all_within place_of top_of range_of ends_hold slots_at screen_within screens_hold layer_holds boundary_holds rules_hold all_zero slots_hold counts_hold density_holds terms_hold or_else first_refusal room_holds widths_hold fault_of shape_of contents_of
printed_case_passes = refl
