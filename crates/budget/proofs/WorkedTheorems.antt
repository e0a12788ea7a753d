-- Tables worked out: of the case that document 01 prints, as it prints them, and of a zone with water in all lines but two. Assumes nothing.
use mathlib.Core.List.{List, [], ◌∷◌}
use mathlib.Core.Path.{◌≡◌, refl}
use lib.IntN.{neg_ℤ, pos, ℤ}
use Rattle.whole.specs.Ranges.{all_within, in_range}
use Rattle.whole.specs.Search.{every, first_of}
use Rattle.whole.specs.Sum.{back, sum}
use Rattle.whole.specs.Whole.{clamp_of}
use Rattle.grid.specs.Judging.{counts_hold, density_holds, terms_hold}
use Rattle.grid.specs.Place.{behind_of, has_next, has_previous, neighbour_of, next_of, place_of, previous_of, top_of}
use Rattle.grid.specs.Record.{record_of}
use Rattle.grid.specs.Weights.{weights_of}
use Rattle.slots.specs.Ranges.{ends_hold, range_of}
use Rattle.slots.specs.Rules.{all_zero, boundary_holds, layer_holds, open_holds, rules_hold, screen_within, screens_hold, slots_hold}
use Rattle.slots.specs.Slots.{slots_at}
use Rattle.slices.specs.Slices.{Case, case_of, contents_of, fault_of, first_refusal, lent_of, none, or_else, room_holds, shape_of, widths_hold}
use Rattle.slices.proofs.WorkedTheorems.{printed_case}
use Rattle.block.specs.Density.{fresh_equivalent_of, interface_of, salt_k_of, sea_head_of}
use Rattle.block.specs.Geometry.{aquifer_top_of, has_water_table, held_of, levels_of, saturated_top_of, thicknesses_of}
use Rattle.block.specs.Storage.{storage_of, volume_of}
use Rattle.block.specs.Wells.{fresh_share_of, is_dry, length_within, lengths_of, shares_of}
use Rattle.flow.specs.Boundary.{below_top, boundary_head_of, boundary_of, exchange_of, exchanged_as, gain_of, recharge_of}
use Rattle.flow.specs.Lateral.{conductance_of, face_conductance_of, face_k_of, face_thickness_of, lateral_of, tip_of}
use Rattle.flow.specs.Leakage.{difference_of, leakage_of, lowermost_of, uppermost_of}
use Rattle.flow.specs.Litres.{leaving_of, litres_of, over_area_of}
use Rattle.wellformed.specs.Limits.{above_exceeds, at_fault, block_exceeds, boundary_exceeds, either_exceeds, face_exceeds, first_at_fault, greatest_of, limits_of, overlaps}
use Rattle.wellformed.specs.Links.{live_of}
use Rattle.wellformed.specs.Widths.{area_at}
use Rattle.books.specs.Waters.{dry_at, dry_of, levels_at, waters_of}
use Rattle.books.specs.Bookkeeping.{books_of, brought_of}
use Rattle.books.specs.Links.{lateral_at, leakage_at, named_of, side_of, tip_behind_of}
use Rattle.books.specs.Own.{fixed_of, own_of, pumped_at, storage_at}
use Rattle.balance.specs.Balance.{balance_in, flows_of, through_of}
use Rattle.zone.specs.Exchange.{changes, converted_at, edge_of, edges_of}
use Rattle.zone.specs.Holdings.{own_in, settled_of}
use Rattle.zone.specs.Table.{lines_by}
use Rattle.zone.specs.Zones.{in_zone, marked_of}
use Rattle.budget.specs.Answers.{Answer}
use Rattle.budget.specs.Answers.{eighteen_of, layer_answer, layer_zone, whole_answer, zone_answer}
use Rattle.budget.specs.Table.{row_of}

-- lines beside no refusal
abbrev given : List ℤ → Answer
given lines = record { refusal = none; lines = lines }

-- storage, edge in, edge out, converted, wells, recharge, boundary, supply, error: of fresh water, then of salt
abbrev printed : List ℤ
printed =
    pos 0 ∷ pos 0 ∷ pos 0 ∷ pos 0 ∷ neg_ℤ (pos 150) ∷ pos 0 ∷ pos 0 ∷ pos 146 ∷ neg_ℤ (pos 4)
    ∷ pos 0 ∷ pos 0 ∷ pos 0 ∷ pos 0 ∷ pos 0 ∷ pos 0 ∷ pos 0 ∷ pos 0 ∷ pos 0 ∷ []

-- the whole is one layer, so that "all" and "layer 1" have the same lines
pub printed_tables : (whole_answer printed_case ≡ given printed) × (layer_answer printed_case 1 ≡ given printed)
unfolding first_of in_range place_of slots_at or_else first_refusal has_next next_of aquifer_top_of salt_k_of over_area_of face_k_of conductance_of area_at live_of overlaps greatest_of either_exceeds face_exceeds above_exceeds boundary_exceeds block_exceeds at_fault first_at_fault limits_of every all_within top_of range_of ends_hold screen_within screens_hold layer_holds boundary_holds rules_hold all_zero slots_hold counts_hold density_holds terms_hold room_holds widths_hold fault_of shape_of contents_of sum back clamp_of has_previous previous_of neighbour_of behind_of weights_of interface_of fresh_equivalent_of sea_head_of has_water_table saturated_top_of held_of levels_of thicknesses_of volume_of storage_of length_within lengths_of fresh_share_of shares_of below_top recharge_of boundary_head_of exchange_of exchanged_as gain_of boundary_of tip_of face_thickness_of face_conductance_of lateral_of uppermost_of lowermost_of difference_of leakage_of litres_of leaving_of levels_at waters_of books_of brought_of side_of tip_behind_of lateral_at leakage_at named_of pumped_at storage_at own_of fixed_of through_of flows_of balance_in in_zone edge_of edges_of changes converted_at own_in settled_of lines_by row_of eighteen_of layer_zone is_dry dry_at dry_of layer_answer whole_answer
printed_tables = (refl, refl)

-- A grid of two columns, two rows and three layers, of which 1 1 0 1, 0 0 1 0 and 0 1 1 1 are marked, layer by layer. The lines were worked out by
-- another program, written from documents 01 and 02.
abbrev twelve_blocks : Case
twelve_blocks =
    case_of (record_of 2 2 3 (pos 1) (pos 0) (pos 0) 1 (pos 1) (pos 1000000000)) (pos 100 ∷ pos 100 ∷ []) (pos 100 ∷ pos 100 ∷ [])
    (pos 22197 ∷ neg_ℤ (pos 277932) ∷ pos 40960 ∷ pos 1000 ∷ pos 1000000 ∷ pos 0 ∷ pos 0 ∷ pos 0 ∷ pos 0 ∷ pos 3 ∷ pos 0 ∷ pos 0 ∷ neg_ℤ (pos 14090) ∷ neg_ℤ (pos 131573) ∷ neg_ℤ (pos 14090) ∷ neg_ℤ (pos 132059)
    ∷ pos 1493 ∷ neg_ℤ (pos 277932) ∷ pos 245760 ∷ pos 200 ∷ pos 52954 ∷ pos 0 ∷ pos 150 ∷ neg_ℤ (pos 277932) ∷ neg_ℤ (pos 32172) ∷ pos 5 ∷ pos 0 ∷ pos 0 ∷ neg_ℤ (pos 14016) ∷ neg_ℤ (pos 112968) ∷ neg_ℤ (pos 14016) ∷ neg_ℤ (pos 112968)
    ∷ pos 25668 ∷ neg_ℤ (pos 257932) ∷ pos 108850 ∷ pos 200 ∷ pos 0 ∷ pos 0 ∷ pos 0 ∷ pos 0 ∷ pos 0 ∷ pos 0 ∷ pos 0 ∷ pos 0 ∷ neg_ℤ (pos 14035) ∷ neg_ℤ (pos 103559) ∷ neg_ℤ (pos 14035) ∷ neg_ℤ (pos 103559)
    ∷ pos 1056 ∷ neg_ℤ (pos 273836) ∷ pos 245760 ∷ pos 1000 ∷ pos 1000 ∷ pos 0 ∷ neg_ℤ (pos 1000001) ∷ neg_ℤ (pos 273836) ∷ neg_ℤ (pos 273834) ∷ pos 5 ∷ pos 0 ∷ pos 0 ∷ neg_ℤ (pos 14014) ∷ neg_ℤ (pos 266805) ∷ neg_ℤ (pos 14014) ∷ neg_ℤ (pos 266805)
    ∷ pos 41583 ∷ neg_ℤ (pos 216972) ∷ pos 186530 ∷ pos 1 ∷ pos 50 ∷ pos 0 ∷ neg_ℤ (pos 1073741824) ∷ neg_ℤ (pos 216972) ∷ neg_ℤ (pos 30442) ∷ pos 0 ∷ pos 0 ∷ pos 0 ∷ neg_ℤ (pos 14113) ∷ neg_ℤ (pos 36686) ∷ neg_ℤ (pos 14113) ∷ neg_ℤ (pos 36686)
    ∷ pos 11120 ∷ neg_ℤ (pos 32172) ∷ pos 72461 ∷ pos 178 ∷ pos 44700 ∷ pos 0 ∷ pos 0 ∷ pos 0 ∷ pos 0 ∷ pos 4 ∷ pos 0 ∷ pos 0 ∷ neg_ℤ (pos 14054) ∷ neg_ℤ (pos 23116) ∷ neg_ℤ (pos 14054) ∷ neg_ℤ (pos 23116)
    ∷ pos 39600 ∷ neg_ℤ (pos 149082) ∷ pos 57897 ∷ pos 188 ∷ pos 42294 ∷ pos 0 ∷ pos 0 ∷ pos 0 ∷ pos 0 ∷ pos 0 ∷ pos 0 ∷ pos 0 ∷ neg_ℤ (pos 90086) ∷ neg_ℤ (pos 91488) ∷ neg_ℤ (pos 91406) ∷ neg_ℤ (pos 91296)
    ∷ pos 21760 ∷ neg_ℤ (pos 28076) ∷ pos 36252 ∷ pos 1000 ∷ pos 1 ∷ pos 0 ∷ pos 1000001 ∷ neg_ℤ (pos 9219) ∷ pos 653 ∷ pos 3 ∷ pos 0 ∷ pos 0 ∷ pos 295 ∷ neg_ℤ (pos 626) ∷ pos 295 ∷ neg_ℤ (pos 213)
    ∷ pos 40928 ∷ neg_ℤ (pos 30442) ∷ pos 104481 ∷ pos 200 ∷ pos 0 ∷ pos 5000 ∷ pos 0 ∷ pos 0 ∷ pos 0 ∷ pos 4 ∷ pos 0 ∷ pos 0 ∷ pos 66361 ∷ pos 70067 ∷ pos 66097 ∷ pos 70067
    ∷ pos 34780 ∷ pos 44385 ∷ pos 1 ∷ pos 116 ∷ pos 0 ∷ pos 1000000 ∷ pos 0 ∷ pos 0 ∷ pos 0 ∷ pos 0 ∷ pos 0 ∷ pos 0 ∷ neg_ℤ (pos 2688698) ∷ neg_ℤ (pos 4194029) ∷ pos 44386 ∷ pos 44386
    ∷ pos 48762 ∷ neg_ℤ (pos 91185) ∷ pos 245760 ∷ pos 1 ∷ pos 0 ∷ pos 5000 ∷ pos 0 ∷ pos 0 ∷ pos 0 ∷ pos 3 ∷ pos 0 ∷ pos 0 ∷ neg_ℤ (pos 14048) ∷ neg_ℤ (pos 38945) ∷ neg_ℤ (pos 14048) ∷ neg_ℤ (pos 38873)
    ∷ pos 36288 ∷ pos 8177 ∷ pos 245760 ∷ pos 1 ∷ pos 0 ∷ pos 1 ∷ pos 0 ∷ pos 0 ∷ pos 0 ∷ pos 2 ∷ pos 0 ∷ pos 1 ∷ pos 255677 ∷ pos 254807 ∷ pos 255677 ∷ pos 254807
    ∷ [])

abbrev seven_marks : List ℤ
seven_marks = pos 1 ∷ pos 1 ∷ pos 0 ∷ pos 1 ∷ pos 0 ∷ pos 0 ∷ pos 1 ∷ pos 0 ∷ pos 0 ∷ pos 1 ∷ pos 1 ∷ pos 1 ∷ []

pub seven_of_twelve : zone_answer twelve_blocks seven_marks ≡ given (
    pos 1590585 ∷ pos 437293321 ∷ pos 5281 ∷ pos 10825963 ∷ pos 999892 ∷ pos 50000 ∷ pos 0 ∷ neg_ℤ (pos 432589338) ∷ pos 14983972
    ∷ neg_ℤ (pos 1590303) ∷ pos 86616729 ∷ pos 6825940 ∷ neg_ℤ (pos 10825963) ∷ neg_ℤ (pos 41) ∷ pos 0 ∷ neg_ℤ (pos 624) ∷ pos 299004 ∷ pos 70853468 ∷ [])
unfolding first_of in_range place_of slots_at or_else first_refusal has_next next_of aquifer_top_of salt_k_of over_area_of face_k_of conductance_of area_at live_of overlaps greatest_of either_exceeds face_exceeds above_exceeds boundary_exceeds block_exceeds at_fault first_at_fault limits_of every all_within top_of range_of ends_hold screen_within screens_hold layer_holds open_holds boundary_holds rules_hold all_zero slots_hold counts_hold density_holds terms_hold room_holds widths_hold fault_of shape_of contents_of sum back clamp_of has_previous previous_of neighbour_of behind_of weights_of interface_of fresh_equivalent_of sea_head_of has_water_table saturated_top_of held_of levels_of thicknesses_of volume_of storage_of length_within lengths_of fresh_share_of shares_of below_top recharge_of boundary_head_of exchange_of exchanged_as gain_of boundary_of tip_of face_thickness_of face_conductance_of lateral_of uppermost_of lowermost_of difference_of leakage_of litres_of leaving_of levels_at waters_of books_of brought_of side_of tip_behind_of lateral_at leakage_at named_of pumped_at storage_at own_of fixed_of through_of flows_of balance_in in_zone edge_of edges_of changes converted_at own_in settled_of lines_by row_of eighteen_of marked_of is_dry dry_at dry_of lent_of zone_answer
seven_of_twelve = refl
