-- Numbers worked by hand (document 01), by the definitions: the printed case file. Assumes nothing.
use mathlib.Core.List.{List, [], ◌++◌, ◌∷◌}
use mathlib.Core.Path.{◌≡◌, refl}
use Prim.Native.Nat.{ℕ}
use lib.IntN.{pos, ℤ}
use lib.ListN.{replicate, take}
use Rattle.whole.specs.Ranges.{in_range}
use Rattle.whole.specs.Search.{every, first_of}
use Rattle.numbers.specs.Numbers.{number_from, signed_of}
use Rattle.grid.specs.Judging.{counts_hold, density_holds}
use Rattle.grid.specs.Place.{has_next, next_of, place_of, top_of}
use Rattle.grid.specs.Weights.{weights_of}
use Rattle.slots.specs.Ranges.{ends_hold, range_of}
use Rattle.slots.specs.Rules.{boundary_holds, layer_holds, rules_hold, screen_within, screens_hold, slots_hold}
use Rattle.slots.specs.Slots.{slots_at}
use Rattle.slices.specs.Slices.{first_refusal, or_else, refusal, room_holds, shape_of}
use Rattle.slices.proofs.WorkedTheorems.{printed_case}
use Rattle.block.specs.Density.{salt_k_of}
use Rattle.flow.specs.Lateral.{conductance_of, face_k_of}
use Rattle.flow.specs.Litres.{over_area_of}
use Rattle.wellformed.specs.Limits.{above_exceeds, at_fault, block_exceeds, boundary_exceeds, either_exceeds, face_exceeds, first_at_fault, greatest_of, limits_of, overlaps}
use Rattle.wellformed.specs.Links.{live_of}
use Rattle.wellformed.specs.Widths.{area_at}
use Rattle.fields.specs.Fields.{ends_of, field_at, record_range, is_sent, judged_in, number_judged, meant_of, slot_sent, weight_sent}
use Rattle.fields.specs.Runs.{block_from, blocks_from, ending_of, fill_from, fill_of, ruled}
use Rattle.casefile.specs.Reading.{after, after_counts, after_density, body_of, case_from, counted_of, end_checks, giving, judging, reading_of, termed_of, weighed_of}

-- "This case file holds 2 1 1 40 0 30 5, 100 100, 100, then 10000 -204800 245760 200 0 0 0 0 0 5 8192 0 8192 0, then 10000 -204800 245760 200 0 0 150 -4096 4096 0
-- 8191 0 8191 0."
abbrev printed : List ℕ
printed =
    2 ∷ 1 ∷ 1 ∷ 40 ∷ 0 ∷ 30 ∷ 5 ∷ 100 ∷ 100 ∷ 100
    ∷ 144 ∷ 78 ∷ 255 ∷ 255 ∷ 24 ∷ 128 ∷ 128 ∷ 15 ∷ 200 ∷ 1 ∷ 0 ∷ 0 ∷ 0 ∷ 0 ∷ 0 ∷ 5 ∷ 128 ∷ 128 ∷ 1 ∷ 0 ∷ 128 ∷ 128 ∷ 1 ∷ 0
    ∷ 144 ∷ 78 ∷ 255 ∷ 255 ∷ 24 ∷ 128 ∷ 128 ∷ 15 ∷ 200 ∷ 1 ∷ 0 ∷ 0 ∷ 172 ∷ 2 ∷ 255 ∷ 63 ∷ 128 ∷ 64 ∷ 0 ∷ 254 ∷ 127 ∷ 0 ∷ 254 ∷ 127 ∷ 0 ∷ []

-- n zeros, as a caller lends them
abbrev lent : ℕ → List ℤ
lent n = replicate n (pos 0)

-- it is read as the case that document 01 prints
pub printed_read : reading_of printed (lent 2) (lent 1) (lent 32) ≡ giving printed_case
unfolding every first_of in_range number_from signed_of place_of top_of has_next next_of counts_hold density_holds range_of ends_hold slots_at screen_within screens_hold layer_holds boundary_holds rules_hold slots_hold or_else first_refusal room_holds shape_of weights_of salt_k_of over_area_of face_k_of conductance_of area_at live_of overlaps greatest_of either_exceeds face_exceeds above_exceeds boundary_exceeds block_exceeds at_fault first_at_fault limits_of record_range slot_sent weight_sent is_sent ends_of meant_of judged_in number_judged field_at fill_from fill_of ruled block_from blocks_from ending_of judging after counted_of weighed_of termed_of case_from end_checks body_of after_density after_counts reading_of
printed_read = refl

-- with 31 slots lent it is refused: "a lent slice is too short"; and that comes "straight after layers", where the rest of the file is missing too
pub short_slots : (reading_of (take 3 printed) (lent 2) (lent 1) (lent 31)).answer.refusal ≡ refusal 7 0
unfolding in_range number_from counts_hold density_holds or_else first_refusal room_holds shape_of record_range is_sent ends_of meant_of judged_in number_judged field_at fill_from fill_of judging after counted_of reading_of
short_slots = refl

-- without its last byte it is refused: "the file ends where a byte is still needed"
pub cut_short : (reading_of (take 58 printed) (lent 2) (lent 1) (lent 32)).answer.refusal ≡ refusal 1 0
unfolding every in_range number_from signed_of place_of top_of counts_hold density_holds range_of ends_hold slots_at screens_hold layer_holds boundary_holds rules_hold slots_hold or_else first_refusal room_holds shape_of record_range slot_sent weight_sent is_sent ends_of meant_of judged_in number_judged field_at fill_from fill_of ruled block_from blocks_from ending_of judging after counted_of weighed_of termed_of end_checks body_of after_density after_counts reading_of
cut_short = refl

-- with one byte more it is refused: "bytes follow the last block"
pub one_more : (reading_of (printed ++ (0 ∷ [])) (lent 2) (lent 1) (lent 32)).answer.refusal ≡ refusal 8 0
unfolding every in_range number_from signed_of place_of top_of counts_hold density_holds range_of ends_hold slots_at screen_within screens_hold layer_holds boundary_holds rules_hold slots_hold or_else first_refusal room_holds shape_of record_range slot_sent weight_sent is_sent ends_of meant_of judged_in number_judged field_at fill_from fill_of ruled block_from blocks_from ending_of judging after counted_of weighed_of termed_of end_checks body_of after_density after_counts reading_of
one_more = refl
