-- Numbers worked by hand (document 01): rows a to l as one table, and rows a and c as reports. Assumes nothing.
use mathlib.Core.Bool.{false, true}
use mathlib.Core.Path.{◌≡◌, refl}
use lib.Ieee.{fin, round}
use lib.IntN.{pos}
use Rattle.whole.specs.Ranges.{in_range}
use Rattle.whole.specs.Whole.{clamp_of}
use Rattle.grid.specs.Weights.{weights_of}
use Rattle.block.specs.Density.{fresh_equivalent_of, interface_of}
use Rattle.block.specs.Geometry.{aquifer_top_of, has_water_table, held_of, levels_of, saturated_top_of, thicknesses_of}
use Rattle.block.specs.Storage.{storage_of, volume_of}
use Rattle.block.specs.Wells.{fresh_share_of, shares_of}
use Rattle.metres.specs.Metres.{is_taken, metres_of, taken_of, tick_of, ticks_in}
use Rattle.flow.specs.Lateral.{conductance_of, face_k_of, tip_of}
use Rattle.flow.specs.Litres.{litres_of}
use Rattle.report.specs.Reports.{report_of}
use Rattle.report.specs.WorkedByHand.{headed, printed, grid_with, water_of, worked_out}

-- "Prove rows a to l below as a single table about the definitions": they give what document 01 prints, and in row g what W-206 says. The edit `cut_in_row_g` tries it.
pub rows_a_to_l : worked_out ≡ printed
unfolding water_of weights_of interface_of aquifer_top_of has_water_table saturated_top_of held_of levels_of thicknesses_of clamp_of volume_of storage_of shares_of fresh_share_of fresh_equivalent_of face_k_of conductance_of litres_of tip_of taken_of is_taken tick_of ticks_in in_range
rows_a_to_l = refl

-- row a: 1.0 m and 0.0 m of head, the interface at -40.0 m, 50.0 m of fresh water and 10.0 m of salt
pub report_a : report_of (grid_with 0) (headed (pos 4096)) true
    ≡ record { fresh_head = fin false 1 (pos 0); salt_head = fin false 0 (pos 0); interface = fin true 5 (pos 3); fresh_thickness = fin false 25 (pos 1); salt_thickness = fin false 5 (pos 1) }
unfolding report_of metres_of weights_of interface_of aquifer_top_of has_water_table saturated_top_of held_of levels_of thicknesses_of clamp_of round
report_a = refl

-- row c: 2.0 m of fresh head, and 60.0 m of fresh water only; ζ is -80.0 m, though the base is at -50.0 m
pub report_c : report_of (grid_with 0) (headed (pos 8192)) true
    ≡ record { fresh_head = fin false 1 (pos 1); salt_head = fin false 0 (pos 0); interface = fin true 5 (pos 4); fresh_thickness = fin false 15 (pos 2); salt_thickness = fin false 0 (pos 0) }
unfolding report_of metres_of weights_of interface_of aquifer_top_of has_water_table saturated_top_of held_of levels_of thicknesses_of clamp_of round
report_c = refl
