-- The case that document 01 prints has the verdict that it prints: "verdict 0 0 0 4". Assumes nothing.
use mathlib.Core.Path.{◌≡◌, refl}
use lib.IntN.{pos}
use Rattle.whole.specs.Ranges.{in_range}
use Rattle.whole.specs.Search.{first_of, most_of}
use Rattle.whole.specs.Sum.{back, count, sum}
use Rattle.whole.specs.Whole.{clamp_of}
use Rattle.grid.specs.Place.{behind_of, has_next, has_previous, neighbour_of, next_of, place_of, top_of}
use Rattle.grid.specs.Weights.{weights_of}
use Rattle.slots.specs.Slots.{slots_at}
use Rattle.slices.proofs.WorkedTheorems.{printed_case}
use Rattle.block.specs.Density.{fresh_equivalent_of, interface_of, salt_k_of, sea_head_of}
use Rattle.block.specs.Geometry.{aquifer_top_of, has_water_table, held_of, levels_of, saturated_top_of, thicknesses_of}
use Rattle.block.specs.Storage.{storage_of, volume_of}
use Rattle.block.specs.Wells.{fresh_share_of, is_dry, length_within, lengths_of, shares_of}
use Rattle.flow.specs.Boundary.{below_top, boundary_head_of, boundary_of, exchange_of, exchanged_as, gain_of, recharge_of}
use Rattle.flow.specs.Lateral.{conductance_of, face_conductance_of, face_k_of, face_thickness_of, lateral_of, tip_of}
use Rattle.flow.specs.Leakage.{difference_of, leakage_of, lowermost_of, uppermost_of}
use Rattle.flow.specs.Litres.{leaving_of, litres_of, over_area_of}
use Rattle.wellformed.specs.Links.{live_of}
use Rattle.wellformed.specs.Widths.{area_at}
use Rattle.books.specs.Waters.{dry_at, levels_at, waters_of}
use Rattle.books.specs.Bookkeeping.{books_of, brought_of}
use Rattle.books.specs.Links.{lateral_at, leakage_at, named_of, side_of, tip_behind_of}
use Rattle.books.specs.Own.{fixed_of, own_of, pumped_at, storage_at}
use Rattle.balance.specs.Balance.{balance_in, balance_of, flows_of, through_of}
use Rattle.verdict.specs.Places.{counted_at, fails_at, free_at, free_size_of, moved_at}
use Rattle.verdict.specs.Ruling.{by_balance, concerning, count_of, first_place, largest_of, verdict_by, verdict_of}

pub printed_verdict : verdict_of printed_case ≡ record { code = 0; block = 0; count = 0; largest = pos 4 }
unfolding first_of most_of count is_dry dry_at moved_at free_at fails_at counted_at free_size_of first_place count_of largest_of concerning by_balance verdict_by verdict_of in_range sum back clamp_of place_of top_of has_next has_previous next_of neighbour_of behind_of slots_at weights_of interface_of salt_k_of fresh_equivalent_of sea_head_of aquifer_top_of has_water_table saturated_top_of held_of levels_of thicknesses_of volume_of storage_of length_within lengths_of fresh_share_of shares_of below_top recharge_of boundary_head_of exchange_of exchanged_as gain_of boundary_of face_k_of conductance_of tip_of face_thickness_of face_conductance_of lateral_of uppermost_of lowermost_of difference_of leakage_of litres_of leaving_of over_area_of live_of area_at levels_at waters_of books_of brought_of side_of tip_behind_of lateral_at leakage_at named_of pumped_at storage_at own_of fixed_of through_of flows_of balance_in balance_of
printed_verdict = refl
