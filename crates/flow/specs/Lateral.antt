-- A lateral face (document 01): "Neighbours in a row or column of one layer". The low side is the block with the lower number. Widths are in
-- metres, K in mm/day, thicknesses and heads in ticks, conductances in litres a day for each metre of head difference, flows in litres a day.
use Rattle.std.specs.Prelude.{cond, ◌*ℤ◌, ◌+ℤ◌, ◌-ℤ◌, pos, ℤ}
use Rattle.std.specs.Int.Signed.{lt_z}
use Rattle.whole.specs.Whole.{floor_of, max_ℤ}
use Rattle.block.specs.Units.{ticks}
use Rattle.flow.specs.declared.lateral.Behind.{Behind}
use Rattle.flow.specs.declared.lateral.Face.{Face}
use Rattle.flow.specs.declared.lateral.Side.{Side}
use Rattle.flow.specs.Litres.{leaving_of, litres_of}

-- "With widths L1, L2 along the line and W across: Kf = floor((L1+L2)K1K2 / (L1K2+L2K1))"
unfoldable pub face_k_of : Face → ℤ → ℤ → ℤ
face_k_of f K1 K2 = floor_of ((f.low +ℤ f.high) *ℤ K1 *ℤ K2) (f.low *ℤ K2 +ℤ f.high *ℤ K1)

-- "conductance C = floor(2·Kf·B·W / ((L1+L2)·4,096)) for face thickness B"
unfoldable pub conductance_of : Face → ℤ → ℤ → ℤ
conductance_of f Kf B = floor_of (pos 2 *ℤ Kf *ℤ B *ℤ f.across) ((f.low +ℤ f.high) *ℤ pos ticks)

-- "Only block a holds it: let p be the block on a's other side. If p is outside, inactive or without the fluid, B = 0. Otherwise
-- B = Ba - floor(D·La/(Lp+La)), D = Bp - Ba or 0 if that is negative, and B is never below 0." A p that is not there has thickness 0.
unfoldable pub tip_of : ℤ → ℤ → Behind → ℤ
tip_of La Ba p = cond (lt_z (pos 0) p.thickness) (max_ℤ (pos 0) (Ba -ℤ floor_of (max_ℤ (pos 0) (p.thickness -ℤ Ba) *ℤ La) (p.width +ℤ La))) (pos 0)

-- "Both blocks hold the fluid (its thickness is above 0): B = floor((B1+B2)/2)." "Neither: no flow."
unfoldable pub face_thickness_of : Face → ℤ → ℤ → Behind → ℤ
face_thickness_of f B1 B2 p =
    cond (lt_z (pos 0) B1)
    (cond (lt_z (pos 0) B2) (floor_of (B1 +ℤ B2) (pos 2)) (tip_of f.low B1 p))
    (cond (lt_z (pos 0) B2) (tip_of f.high B2 p) (pos 0))

-- C of a face in one fluid, for its K, its thicknesses and the block p behind the one that holds it
unfoldable pub face_conductance_of : Face → Side → Side → Behind → ℤ
face_conductance_of f a b p = conductance_of f (face_k_of f a.k b.k) (face_thickness_of f a.thickness b.thickness p)

-- "Flow = cut(C·(difference of that fluid's heads)/4,096) litres/day", with W-206 rounded. "No flow leaves the block without the fluid."
unfoldable pub lateral_of : Face → Side → Side → Behind → ℤ
lateral_of f a b p = leaving_of a.thickness b.thickness (litres_of (face_conductance_of f a b p) (a.head -ℤ b.head))
