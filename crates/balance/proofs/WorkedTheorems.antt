-- Worked numbers of balances: the case that document 01 prints, and a case with a tip face. Assumes nothing.
use mathlib.Core.Bool.{true}
use mathlib.Core.List.{List, [], ◌++◌, ◌∷◌}
use mathlib.Core.Path.{◌≡◌, refl}
use lib.IntN.{neg_ℤ, pos, ℤ}
use Rattle.whole.specs.Ranges.{in_range}
use Rattle.whole.specs.Sum.{back, sum}
use Rattle.whole.specs.Whole.{clamp_of}
use Rattle.grid.specs.Place.{behind_of, has_next, has_previous, neighbour_of, next_of, place_of, previous_of, top_of}
use Rattle.grid.specs.Weights.{weights_of}
use Rattle.slots.specs.Slots.{slots_at}
use Rattle.slices.specs.Slices.{Case, case_of}
use Rattle.slices.proofs.WorkedTheorems.{printed_case, sized}
use Rattle.block.specs.Density.{fresh_equivalent_of, interface_of, salt_k_of, sea_head_of}
use Rattle.block.specs.Fluids.{fluids_of, in_fluid, salt}
use Rattle.block.specs.Geometry.{aquifer_top_of, has_water_table, held_of, levels_of, saturated_top_of, thicknesses_of}
use Rattle.block.specs.Storage.{storage_of, volume_of}
use Rattle.block.specs.Wells.{fresh_share_of, length_within, lengths_of, shares_of}
use Rattle.flow.specs.Boundary.{below_top, boundary_head_of, boundary_of, exchange_of, exchanged_as, gain_of, recharge_of}
use Rattle.flow.specs.Lateral.{conductance_of, face_conductance_of, face_k_of, face_thickness_of, lateral_of, tip_of}
use Rattle.flow.specs.Leakage.{difference_of, leakage_of, lowermost_of, uppermost_of}
use Rattle.flow.specs.Litres.{leaving_of, litres_of, over_area_of}
use Rattle.wellformed.specs.Links.{live_of}
use Rattle.wellformed.specs.Widths.{area_at}
use Rattle.books.specs.Waters.{levels_at, waters_of}
use Rattle.books.specs.Bookkeeping.{books_of, brought_of}
use Rattle.books.specs.Links.{lateral_at, leakage_at, named_of, side_of, tip_behind_of}
use Rattle.books.specs.Own.{fixed_of, own_of, pumped_at, storage_at}
use Rattle.balance.specs.Balance.{balance_in, balance_of, balances_of, flows_of, through_of}

-- the two blocks of the printed session: the second is free, and off by 4 litres a day in fresh water
pub printed_balances : (balances_of printed_case 0 ≡ fluids_of (neg_ℤ (pos 146)) (pos 0)) × (balances_of printed_case 1 ≡ fluids_of (neg_ℤ (pos 4)) (pos 0))
unfolding in_range sum back clamp_of place_of top_of has_next has_previous next_of previous_of neighbour_of behind_of slots_at weights_of interface_of salt_k_of fresh_equivalent_of sea_head_of aquifer_top_of has_water_table saturated_top_of held_of levels_of thicknesses_of volume_of storage_of length_within lengths_of fresh_share_of shares_of below_top recharge_of boundary_head_of exchange_of exchanged_as gain_of boundary_of face_k_of conductance_of tip_of face_thickness_of face_conductance_of lateral_of uppermost_of lowermost_of difference_of leakage_of litres_of leaving_of over_area_of live_of area_at levels_at waters_of books_of brought_of side_of tip_behind_of lateral_at leakage_at named_of pumped_at storage_at own_of fixed_of through_of flows_of balance_in balance_of
printed_balances = (refl, refl)

-- a block at rest in the numbers of rows a to c, by its heads
pub resting : ℤ → ℤ → List ℤ
resting Φf Φs = pos 10000 ∷ neg_ℤ (pos 204800) ∷ pos 245760 ∷ pos 200 ∷ pos 0 ∷ pos 0 ∷ pos 0 ∷ pos 0 ∷ pos 0 ∷ pos 0 ∷ pos 0 ∷ pos 0 ∷ Φf ∷ Φs ∷ Φf ∷ Φs ∷ []

-- three in a row, of which the third holds no salt water
pub tip_case : Case
tip_case = case_of (sized 3 1 1) (pos 100 ∷ pos 100 ∷ pos 100 ∷ []) (pos 100 ∷ []) (resting (pos 4096) (pos 0) ++ (resting (pos 4500) (pos 0) ++ resting (pos 8192) (neg_ℤ (pos 100))))

-- Salt thicknesses are 40,960, 24,800 and 0. The tip's face is 16,720 thick, and 1,021 litres a day leave the second block through it and
-- enter the third, whose balance they are.
pub tip_face_counts :
    (in_fluid (waters_of tip_case.grid tip_case.slots 2) salt ≡ pos 0) × ((brought_of (books_of tip_case salt) true 0 1 ≡ neg_ℤ (pos 1021)) × (balance_of tip_case salt 2 ≡ pos 1021))
unfolding resting tip_case in_range sum back clamp_of place_of top_of has_next has_previous next_of previous_of neighbour_of behind_of slots_at weights_of interface_of salt_k_of fresh_equivalent_of sea_head_of aquifer_top_of has_water_table saturated_top_of held_of levels_of thicknesses_of volume_of storage_of length_within lengths_of fresh_share_of shares_of below_top recharge_of boundary_head_of exchange_of exchanged_as gain_of boundary_of face_k_of conductance_of tip_of face_thickness_of face_conductance_of lateral_of uppermost_of lowermost_of difference_of leakage_of litres_of leaving_of over_area_of live_of area_at levels_at waters_of books_of brought_of side_of tip_behind_of lateral_at leakage_at named_of pumped_at storage_at own_of fixed_of through_of flows_of balance_in balance_of
tip_face_counts = (refl, (refl, refl))
