-- Numbers worked by hand (document 01): "Prove rows a to l below as a single table about the definitions". `rows_a_to_l` says that `worked_out` is `printed`.
use Rattle.std.specs.Prelude.{false, true, List, [], ◌++◌, ◌∷◌, ℕ, Float, neg_ℤ, pos, ℤ}
use Rattle.std.specs.Float.{fin}
use Rattle.grid.specs.declared.Grid.{Grid}
use Rattle.grid.specs.Record.{record_of}
use Rattle.slots.specs.declared.Block.{Block}
use Rattle.slots.specs.Units.{most_level}
use Rattle.slices.specs.Slices.{unless_refused}
use Rattle.block.specs.declared.Fluids.{Fluids}
use Rattle.block.specs.Density.{fresh_equivalent_of, interface_of}
use Rattle.block.specs.Fluids.{fluids_of, new_heads}
use Rattle.block.specs.Geometry.{levels_of, thicknesses_of}
use Rattle.block.specs.Storage.{storage_of, volume_of}
use Rattle.block.specs.Wells.{shares_of}
use Rattle.metres.specs.Metres.{taken_of}
use Rattle.flow.specs.declared.lateral.Behind.{Behind}
use Rattle.flow.specs.declared.lateral.Face.{Face}
use Rattle.flow.specs.Lateral.{conductance_of, face_k_of, tip_of}
use Rattle.flow.specs.Litres.{litres_of}

-- "δ 40", "over 30 days", and the water-table flag of a row
abbrev pub grid_with : ℕ → Grid
grid_with flag = record_of 1 1 1 (pos 40) (pos 0) (pos 0) flag (pos 30) (pos 5)

-- "Base -204,800, thickness 245,760, δ 40, salt head 0 for a to c." "Porosity 200", and the fresh head and the pumpage of a row
abbrev pub block_with : ℤ → ℤ → Block
block_with head pumpage =
    record {
      k = pos 10000;
      base = neg_ℤ (pos 204800);
      thickness = pos 245760;
      porosity = pos 200;
      leakance = pos 0;
      recharge = pos 0;
      pumpage = pumpage;
      screen_bottom = pos 0;
      screen_top = pos 0;
      kind = pos 0;
      level = pos 0;
      boundary_leakance = pos 0;
      old_fresh = pos 0;
      old_salt = pos 0;
      new_fresh = head;
      new_salt = pos 0;
    }

-- a block without a well
abbrev pub headed : ℤ → Block
headed head = block_with head (pos 0)

-- Bf and Bs of such a block in the top layer, by flag and fresh head
unfoldable pub water_of : ℕ → ℤ → Fluids
water_of flag head = thicknesses_of (levels_of (grid_with flag) (headed head) true (new_heads (headed head)))

-- "With widths L1, L2 along the line and W across", of a W of 100
abbrev pub widths_of : ℤ → ℤ → Face
widths_of low high = record { low = low; high = high; across = pos 100 }

-- "let p be the block on a's other side", of a width of 100, by its thickness Bp
abbrev pub behind_with : ℤ → Behind
behind_with thickness = record { width = pos 100; thickness = thickness }

-- "A double becomes the nearest tick": that tick, and none where the double is refused. `fin false m e` is m · 2^e.
abbrev pub tick_taken : Float → List ℤ
tick_taken x = let answer = taken_of (pos most_level) x in unless_refused answer.refusal (answer.tick ∷ []) []

-- the numbers that the definitions give, in the order of each sentence
abbrev pub worked_out : List (List ℤ)
worked_out =
    -- a. "Fresh head 4,096: ζ -163,840, Bf 204,800, Bs 40,960."
    (interface_of (grid_with 0) (new_heads (headed (pos 4096))) ∷ (water_of 0 (pos 4096)).fresh ∷ (water_of 0 (pos 4096)).salt ∷ [])
    -- b. "The same, water table: Bf 167,936."
    ∷ ((water_of 1 (pos 4096)).fresh ∷ [])
    -- c. "Fresh head 8,192: Bs 0, Bf 245,760."
    ∷ ((water_of 0 (pos 8192)).salt ∷ (water_of 0 (pos 8192)).fresh ∷ [])
    -- d. "K 10,000 and 30,000, widths 100, 100: Kf 15,000."
    ∷ (face_k_of (widths_of (pos 100) (pos 100)) (pos 10000) (pos 30000) ∷ [])
    -- e. "Widths 100, 300: Kf 20,000."
    ∷ (face_k_of (widths_of (pos 100) (pos 300)) (pos 10000) (pos 30000) ∷ [])
    -- f. "Kf 15,000, B 40,960, W 100, widths 100: C 150,000."
    ∷ (conductance_of (widths_of (pos 100) (pos 100)) (pos 15000) (pos 40960) ∷ [])
    -- g. "C 150,000, difference 1: 36; -1: -36." W-206 of document 02: "In document 01's row g the answers become 37 and -37"
    ∷ (litres_of (pos 150000) (pos 1) ∷ litres_of (pos 150000) (neg_ℤ (pos 1)) ∷ [])
    -- h. "Ba 4,096, Bp 8,192, equal widths: face 2,048; Bp 12,288: 0."
    ∷ (tip_of (pos 100) (pos 4096) (behind_with (pos 8192)) ∷ tip_of (pos 100) (pos 4096) (behind_with (pos 12288)) ∷ [])
    -- i. "Porosity 200, area 10,000 m²: 4,096 ticks more hold 2,000,000 litres; over 30 days 66,666 a day."
    ∷ (volume_of (headed (pos 0)) (pos 10000) (pos 4096) ∷ storage_of (grid_with 0) (headed (pos 0)) (pos 10000) (pos 4096) (pos 0) ∷ [])
    -- j. "Pumpage 1,000,001, lengths 3 and 1: 750,000 fresh, 250,001 salt."
    ∷ (let shares = shares_of (block_with (pos 0) (pos 1000001)) (fluids_of (pos 3) (pos 1)) in shares.fresh ∷ shares.salt ∷ [])
    -- k. "Salt head 0 at -163,840: fresh equivalent 4,096."
    ∷ (fresh_equivalent_of (grid_with 0) (pos 0) (neg_ℤ (pos 163840)) ∷ [])
    -- l. "2⁻¹³ m: tick 0; 3·2⁻¹³ m: tick 2."
    ∷ (tick_taken (fin false 1 (neg_ℤ (pos 13))) ++ tick_taken (fin false 3 (neg_ℤ (pos 13))))
    ∷ []

-- the numbers that document 01 prints, in the same order, and in row g those of W-206
abbrev pub printed : List (List ℤ)
printed =
    (neg_ℤ (pos 163840) ∷ pos 204800 ∷ pos 40960 ∷ [])  -- a. ζ, Bf, Bs
    ∷ (pos 167936 ∷ [])  -- b. Bf
    ∷ (pos 0 ∷ pos 245760 ∷ [])  -- c. Bs, Bf
    ∷ (pos 15000 ∷ [])  -- d. Kf
    ∷ (pos 20000 ∷ [])  -- e. Kf
    ∷ (pos 150000 ∷ [])  -- f. C
    ∷ (pos 37 ∷ neg_ℤ (pos 37) ∷ [])  -- g. litres a day
    ∷ (pos 2048 ∷ pos 0 ∷ [])  -- h. face thicknesses
    ∷ (pos 2000000 ∷ pos 66666 ∷ [])  -- i. litres, litres a day
    ∷ (pos 750000 ∷ pos 250001 ∷ [])  -- j. fresh, salt
    ∷ (pos 4096 ∷ [])  -- k. fresh equivalent
    ∷ (pos 0 ∷ pos 2 ∷ [])  -- l. ticks
    ∷ []
