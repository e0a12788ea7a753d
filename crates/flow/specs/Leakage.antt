-- Leakage (document 01, "Leakage, river and sea"): "Leakage joins a block and the one directly above". Heads, thicknesses
-- and levels are in ticks, the flow in litres a day.
use Rattle.std.specs.Prelude.{cond, suc, zero, ℕ, eqb, ◌-ℤ◌, pos, ℤ}
use Rattle.std.specs.Int.Signed.{lt_z}
use Rattle.grid.specs.declared.Grid.{Grid}
use Rattle.block.specs.declared.Fluids.{Fluids}
use Rattle.block.specs.Density.{fresh_equivalent_of}
use Rattle.block.specs.Fluids.{fresh, in_fluid, salt, together_of}
use Rattle.flow.specs.declared.leakage.LeakageSide.{LeakageSide}
use Rattle.flow.specs.Litres.{leaving_of, litres_of}

-- "Fluid of the lower block: fresh if its Bf > 0, else salt."
unfoldable pub uppermost_of : Fluids → ℕ
uppermost_of t = cond (lt_z (pos 0) t.fresh) fresh salt

-- "Fluid of the upper: salt if its Bs > 0, else fresh."
unfoldable pub lowermost_of : Fluids → ℕ
lowermost_of t = cond (lt_z (pos 0) t.salt) salt fresh

-- "the fresh head", or "the fresh equivalent of the salt one" at a level
abbrev pub fresh_head_of : Grid → Fluids → ℕ → ℤ → ℤ
fresh_head_of g h zero level = h.fresh
fresh_head_of g h (suc n) level = fresh_equivalent_of g h.salt level

-- "Like fluids use their own heads. Unlike fluids use the fresh head and the fresh equivalent of the salt one at the lower block's top."
unfoldable pub difference_of : Grid → Fluids → Fluids → ℕ → ℕ → ℤ → ℤ
difference_of g lower upper low high level =
    cond (eqb low high)
    (in_fluid lower low -ℤ in_fluid upper high)
    (fresh_head_of g lower low level -ℤ fresh_head_of g upper high level)

-- "flow = cut(C·difference/4,096)", with W-206 rounded, from the lower to the upper block. "None leaves a block with both thicknesses 0."
unfoldable pub leakage_of : Grid → ℤ → LeakageSide → LeakageSide → ℤ → ℤ
leakage_of g conductance lower upper level =
    leaving_of (together_of lower.thickness) (together_of upper.thickness)
    (litres_of conductance (difference_of g lower.heads upper.heads (uppermost_of lower.thickness) (lowermost_of upper.thickness) level))
