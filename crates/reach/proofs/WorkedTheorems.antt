-- The reach is as large as it must be and no larger: its ends along each axis, and two cases of 75 blocks in which one block's heads change the
-- balances of all eleven blocks of its reach and of no other. Assumes nothing.
use mathlib.Core.Bool.{Bool, ◌&&◌, ◌||◌, false, not, true}
use mathlib.Core.List.{List, [], ◌++◌, ◌∷◌}
use mathlib.Core.Logic.{◌↔◌}
use mathlib.Core.Path.{◌∙◌, ◌≡◌, ap, refl, subst, sym}
use lib.Dec.{T}
use Prim.Native.Nat.{◌<◌, suc, zero, ℕ}
use lib.IntN.{◌-ℤ◌, neg_ℤ, pos, ℤ}
use Rattle.whole.specs.Ranges.{all_within, in_range}
use Rattle.whole.specs.Search.{every, first_of}
use Rattle.whole.specs.Sum.{back, sum}
use Rattle.whole.specs.Whole.{clamp_of, is_zero}
use Rattle.whole.proofs.OrderLaws.{no_difference}
use Rattle.whole.proofs.SearchLaws.{every_all, holds, true_is}
use Rattle.grid.specs.Place.{behind_of, has_next, has_previous, neighbour_of, next_of, place_of, previous_of, top_of}
use Rattle.grid.specs.Weights.{weights_of}
use Rattle.slots.specs.Slots.{slots_at}
use Rattle.slots.specs.Ranges.{ends_hold, range_of}
use Rattle.slots.specs.Rules.{all_zero, boundary_holds, layer_holds, rules_hold, screen_within, screens_hold, slots_hold}
use Rattle.slices.specs.Slices.{Case, case_of, contents_of, fault_of, first_refusal, or_else, room_holds, shape_of, widths_hold}
use Rattle.grid.specs.Judging.{counts_hold, density_holds, terms_hold}
use Rattle.slices.proofs.WorkedTheorems.{sized}
use Rattle.block.specs.declared.Fluids.{Fluids}
use Rattle.block.specs.Density.{fresh_equivalent_of, interface_of, salt_k_of, sea_head_of}
use Rattle.block.specs.Fluids.{fluids_of}
use Rattle.block.specs.Geometry.{aquifer_top_of, has_water_table, held_of, levels_of, saturated_top_of, thicknesses_of}
use Rattle.block.specs.Storage.{storage_of, volume_of}
use Rattle.block.specs.Wells.{fresh_share_of, is_dry, length_within, lengths_of, shares_of}
use Rattle.flow.specs.Boundary.{below_top, boundary_head_of, boundary_of, exchange_of, exchanged_as, gain_of, recharge_of}
use Rattle.flow.specs.Lateral.{conductance_of, face_conductance_of, face_k_of, face_thickness_of, lateral_of, tip_of}
use Rattle.flow.specs.Leakage.{difference_of, leakage_of, lowermost_of, uppermost_of}
use Rattle.flow.specs.Litres.{leaving_of, litres_of, over_area_of}
use Rattle.wellformed.specs.Links.{live_of}
use Rattle.wellformed.specs.Limits.{above_exceeds, at_fault, block_exceeds, boundary_exceeds, checked_of, either_exceeds, face_exceeds, first_at_fault, greatest_of, limits_of, overlaps}
use Rattle.wellformed.specs.Widths.{area_at}
use Rattle.books.specs.Waters.{dry_at, dry_of, levels_at, waters_of, well_checks}
use Rattle.books.specs.Bookkeeping.{books_of, brought_of}
use Rattle.books.specs.Links.{lateral_at, leakage_at, named_of, side_of, tip_behind_of}
use Rattle.books.specs.Own.{fixed_of, own_of, pumped_at, storage_at}
use Rattle.balance.specs.Balance.{balance_in, balance_of, balances_of, flows_of, through_of}
use Rattle.books.proofs.WatersLaws.{wells_wet}
use Rattle.reach.specs.Meaning.{tuned_of}
use Rattle.reach.specs.Reach.{in_column, in_row, near, over_or_under, reach_of}
use Rattle.reach.proofs.ReachTheorems.{heads_reach_wet, heads_tuned}

-- ---- the ends of the reach

-- from a block that is fourth of its row, fourth of its column and in layer 3 of 8, number 123 when counted from 0 in a grid of 8 x 6 x 8: two columns and two rows
-- away are reached, three are not; the layers directly below and above are, two away are not; nor is the next row of the next column, or the next column of the
-- layer above
pub reach_ends :
    (((reach_of (sized 8 6 8) 123 121 ≡ true) × (reach_of (sized 8 6 8) 123 125 ≡ true)) × ((reach_of (sized 8 6 8) 123 120 ≡ false) × (reach_of (sized 8 6 8) 123 126 ≡ false)))
    × ((((reach_of (sized 8 6 8) 123 107 ≡ true) × (reach_of (sized 8 6 8) 123 139 ≡ true)) × (reach_of (sized 8 6 8) 123 99 ≡ false))
    × ((((reach_of (sized 8 6 8) 123 75 ≡ true) × (reach_of (sized 8 6 8) 123 171 ≡ true)) × ((reach_of (sized 8 6 8) 123 27 ≡ false) × (reach_of (sized 8 6 8) 123 219 ≡ false)))
    × ((reach_of (sized 8 6 8) 123 132 ≡ false) × (reach_of (sized 8 6 8) 123 172 ≡ false))))
unfolding place_of near in_row in_column over_or_under reach_of
reach_ends = (((refl, refl), (refl, refl)), (((refl, refl), refl), (((refl, refl), (refl, refl)), (refl, refl))))

-- ---- two cases

-- a block at rest, 60 m thick, by its base in ticks, its leakance to the block above in 10⁻⁶/day and its heads in ticks, old as new
lying : ℤ → ℤ → ℤ → ℤ → List ℤ
lying base leakance Φf Φs = pos 10000 ∷ base ∷ pos 245760 ∷ pos 200 ∷ leakance ∷ pos 0 ∷ pos 0 ∷ pos 0 ∷ pos 0 ∷ pos 0 ∷ pos 0 ∷ pos 0 ∷ Φf ∷ Φs ∷ Φf ∷ Φs ∷ []

-- so many alike, before the rest
times : ℕ → List ℤ → List ℤ → List ℤ
times zero some rest = rest
times (suc n) some rest = some ++ times n some rest

-- Five columns, five rows and three layers. In the middle layer salt water stands as a mound: 40,960 ticks of it in the middle block, number 37 when counted from
-- 0, 24,800 in the four beside it, none in the others of the layer.
pub mound : Case
mound =
    let middle : ℤ → ℤ → List ℤ = lying (neg_ℤ (pos 204800)) (pos 1000) in
    let fresh = middle (pos 8192) (neg_ℤ (pos 100)) in
    let beside = middle (pos 4500) (pos 0) in
    let widths = times 5 (pos 100 ∷ []) [] in
    case_of (sized 5 5 3) widths widths
    (times 25 (lying (neg_ℤ (pos 450560)) (pos 1000) (pos 4096) (pos 0))
    (times 7 fresh (beside ++ times 3 fresh (beside ++ (middle (pos 4096) (pos 0) ++ (beside ++ times 3 fresh (beside ++ times 7 fresh
    (times 25 (lying (pos 40960) (pos 0) (pos 4096) (pos 0)) []))))))))

-- the same with other heads in the middle block: 4,000 ticks fresh and 10 ticks salt
pub tuned : Case
tuned = tuned_of mound 37 (fluids_of (pos 4000) (pos 10)) (fluids_of (pos 4000) (pos 10))

-- neither is refused, and neither has a dry well
pub both_pass : ((checked_of mound).number ≡ 0) × ((checked_of tuned).number ≡ 0)
unfolding lying times mound tuned_of tuned first_of in_range place_of slots_at or_else first_refusal has_next next_of aquifer_top_of salt_k_of over_area_of face_k_of conductance_of area_at live_of overlaps greatest_of either_exceeds face_exceeds above_exceeds boundary_exceeds block_exceeds at_fault first_at_fault limits_of every all_within top_of range_of ends_hold screen_within screens_hold layer_holds boundary_holds rules_hold all_zero slots_hold counts_hold density_holds terms_hold room_holds widths_hold fault_of shape_of contents_of clamp_of weights_of interface_of has_water_table saturated_top_of held_of levels_of length_within lengths_of levels_at is_dry dry_at dry_of
both_pass = (refl, refl)

both_wet : ((first_refusal (well_checks mound)).number ≡ 0) × ((first_refusal (well_checks tuned)).number ≡ 0)
unfolding lying times mound tuned_of tuned first_of in_range place_of slots_at or_else first_refusal has_next next_of aquifer_top_of salt_k_of over_area_of face_k_of conductance_of area_at live_of overlaps greatest_of either_exceeds face_exceeds above_exceeds boundary_exceeds block_exceeds at_fault first_at_fault limits_of every all_within top_of range_of ends_hold screen_within screens_hold layer_holds boundary_holds rules_hold all_zero slots_hold counts_hold density_holds terms_hold room_holds widths_hold fault_of shape_of contents_of clamp_of weights_of interface_of has_water_table saturated_top_of held_of levels_of length_within lengths_of levels_at is_dry dry_at dry_of
both_wet = (refl, refl)

-- ---- what changes, in litres a day

-- the balances of some blocks, and so many alike
pub balances_at : Case → List ℕ → List Fluids
balances_at c [] = []
balances_at c (i ∷ is) = balances_of c i ∷ balances_at c is

pub alike : ℕ → Fluids → List Fluids
alike zero b = []
alike (suc n) b = b ∷ alike n b

-- "The two-away blocks count because of extrapolated tips.": two away in its row and in its column, through the tip's face, 1,021 litres of salt water come in,
-- and 892 then
pub two_away_change :
    (balances_at mound (27 ∷ 35 ∷ 39 ∷ 47 ∷ []) ≡ alike 4 (fluids_of (neg_ℤ (pos 531032)) (pos 1021)))
    × (balances_at tuned (27 ∷ 35 ∷ 39 ∷ 47 ∷ []) ≡ alike 4 (fluids_of (neg_ℤ (pos 531032)) (pos 892)))
unfolding balances_at alike lying times mound tuned_of tuned in_range sum back clamp_of place_of top_of has_next has_previous next_of previous_of neighbour_of behind_of slots_at weights_of interface_of salt_k_of fresh_equivalent_of sea_head_of aquifer_top_of has_water_table saturated_top_of held_of levels_of thicknesses_of volume_of storage_of length_within lengths_of fresh_share_of shares_of below_top recharge_of boundary_head_of exchange_of exchanged_as gain_of boundary_of face_k_of conductance_of tip_of face_thickness_of face_conductance_of lateral_of uppermost_of lowermost_of difference_of leakage_of litres_of leaving_of over_area_of live_of area_at levels_at waters_of books_of brought_of side_of tip_behind_of lateral_at leakage_at named_of pumped_at storage_at own_of fixed_of through_of flows_of balance_in balance_of
two_away_change = (refl, refl)

-- the blocks directly below and above
pub below_and_above_change :
    (balances_at mound (12 ∷ 62 ∷ []) ≡ fluids_of (pos 0) (pos 0) ∷ fluids_of (pos 0) (pos 0) ∷ [])
    × (balances_at tuned (12 ∷ 62 ∷ []) ≡ fluids_of (pos 0) (pos 24) ∷ fluids_of (neg_ℤ (pos 234)) (pos 0) ∷ [])
unfolding balances_at lying times mound tuned_of tuned in_range sum back clamp_of place_of top_of has_next has_previous next_of previous_of neighbour_of behind_of slots_at weights_of interface_of salt_k_of fresh_equivalent_of sea_head_of aquifer_top_of has_water_table saturated_top_of held_of levels_of thicknesses_of volume_of storage_of length_within lengths_of fresh_share_of shares_of below_top recharge_of boundary_head_of exchange_of exchanged_as gain_of boundary_of face_k_of conductance_of tip_of face_thickness_of face_conductance_of lateral_of uppermost_of lowermost_of difference_of leakage_of litres_of leaving_of over_area_of live_of area_at levels_at waters_of books_of brought_of side_of tip_behind_of lateral_at leakage_at named_of pumped_at storage_at own_of fixed_of through_of flows_of balance_in balance_of
below_and_above_change = (refl, refl)

-- two balances differ, in either fluid
differ : Fluids → Fluids → Bool
differ x y = not (is_zero (x.fresh -ℤ y.fresh) && is_zero (x.salt -ℤ y.salt))

differ_not : (x : Fluids) → differ x x ≡ false
unfolding differ
differ_not x = rw (no_difference x.fresh, no_difference x.salt)

reached_change : every 75 (λ j. not (reach_of (sized 5 5 3) 37 j) || differ (balances_of mound j) (balances_of tuned j)) ≡ true
unfolding every near in_row in_column over_or_under reach_of differ lying times mound tuned_of tuned in_range sum back clamp_of place_of top_of has_next has_previous next_of previous_of neighbour_of behind_of slots_at weights_of interface_of salt_k_of fresh_equivalent_of sea_head_of aquifer_top_of has_water_table saturated_top_of held_of levels_of thicknesses_of volume_of storage_of length_within lengths_of fresh_share_of shares_of below_top recharge_of boundary_head_of exchange_of exchanged_as gain_of boundary_of face_k_of conductance_of tip_of face_thickness_of face_conductance_of lateral_of uppermost_of lowermost_of difference_of leakage_of litres_of leaving_of over_area_of live_of area_at levels_at waters_of books_of brought_of side_of tip_behind_of lateral_at leakage_at named_of pumped_at storage_at own_of fixed_of through_of flows_of balance_in balance_of
reached_change = refl

-- The middle block's heads change the balances of the blocks that they reach, all eleven, so that a smaller reach is false; and they change no others.
pub eleven_change : (j : ℕ) → j < 75 → (balances_of mound j ≡ balances_of tuned j) ↔ (reach_of (sized 5 5 3) 37 j ≡ false)
unfolding mound tuned
eleven_change j l = (
  go (reach_of (sized 5 5 3) 37 j) refl,
  heads_reach_wet mound tuned 37 j both_pass.0 both_pass.1 (wells_wet mound both_wet.0) (wells_wet tuned both_wet.1) (heads_tuned mound 37 (fluids_of (pos 4000) (pos 10)) (fluids_of (pos 4000) (pos 10))) l,
)
  where
    go : (b : Bool) → reach_of (sized 5 5 3) 37 j ≡ b → balances_of mound j ≡ balances_of tuned j → b ≡ false
    go false r e = refl
    go true r e =
        let t = every_all (λ j. not (reach_of (sized 5 5 3) 37 j) || differ (balances_of mound j) (balances_of tuned j)) 75 (holds reached_change) j l in
        let differs = true_is (subst (λ (b : Bool). T (not b || differ (balances_of mound j) (balances_of tuned j))) r t) in
        sym differs ∙ ap (differ (balances_of mound j)) (sym e) ∙ differ_not (balances_of mound j)
