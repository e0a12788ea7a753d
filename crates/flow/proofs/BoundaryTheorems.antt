-- Sea water that comes in is salt (document 02, W-201): which fluid's balance and boundary line an exchange counts in, in litres a day. Assumes nothing.
use mathlib.Core.Bool.{Bool, ◌&&◌, cond, false, not, true}
use mathlib.Core.Logic.{⊎_elim}
use mathlib.Core.Path.{◌≡◌, refl, sym}
use Prim.Native.Nat.{◌≤◌, ℕ, suc, zero}
use native.Mathlib.Omega.{arith}
use lib.Dec.{eqb, leb→le}
use lib.IntN.{+ℤ_idl, +ℤ_idr, ◌+ℤ◌, ◌-ℤ◌, negsuc, pos, ℤ}
use lib.Signed.{◌<ℤ◌, ◌≤ℤ◌, clash_ℤ, lt_z, ≤ℤ_refl}
use Rattle.whole.specs.Inner.{In}
use Rattle.whole.specs.Ranges.{between}
use Rattle.whole.specs.Sum.{only}
use Rattle.whole.specs.Whole.{is_zero}
use Rattle.whole.proofs.OrderLaws.{≤ℤ_or-<}
use Rattle.whole.proofs.RangeLaws.{lt_false, not_above}
use Rattle.whole.proofs.SearchLaws.{cond_both, holds}
use Rattle.whole.proofs.SumLaws.{only_swap}
use Rattle.whole.proofs.WithinLaws.{range_in}
use Rattle.grid.specs.declared.Grid.{Grid}
use Rattle.slots.specs.declared.Block.{Block}
use Rattle.slots.specs.Rules.{is_kind, is_open, is_sea}
use Rattle.block.specs.declared.Fluids.{Fluids}
use Rattle.block.specs.Fluids.{fresh, salt}
use Rattle.flow.specs.Boundary.{below_top, boundary_of, exchange_of, exchanged_as, gain_of}
use Rattle.flow.specs.Leakage.{uppermost_of}
use Rattle.flow.specs.Meaning.{as_uppermost, exchanged_of}
use Rattle.flow.proofs.LeakageLaws.{uppermost_is}

-- ---- of any block: whether it exchanges water, whether with a sea, its upper fluid, and the litres

inflow_salt : (exchanges sea : Bool) (upper : ℕ) (x : ℤ) → sea ≡ true → pos 0 <ℤ only exchanges x
    → (only exchanges (only (eqb (cond (sea && lt_z (pos 0) x) salt upper) fresh) x) ≡ pos 0) × (only exchanges (only (eqb (cond (sea && lt_z (pos 0) x) salt upper) salt) x) ≡ only exchanges x)
inflow_salt false sea upper x e h = clash_ℤ h (≤ℤ_refl (pos 0))
inflow_salt true sea upper x e h = rw e (go (lt_z (pos 0) x) refl)
  where
    go : (above : Bool) → lt_z (pos 0) x ≡ above → (only (eqb (cond above salt upper) fresh) x ≡ pos 0) × (only (eqb (cond above salt upper) salt) x ≡ x)
    go true k = (refl, refl)
    go false k = clash_ℤ h (lt_false (pos 0) x k)

outflow_upper : (exchanges sea : Bool) (upper fluid : ℕ) (x : ℤ) → only exchanges x ≤ℤ pos 0
    → only exchanges (only (eqb (cond (sea && lt_z (pos 0) x) salt upper) fluid) x) ≡ only (eqb upper fluid) (only exchanges x)
outflow_upper exchanges false upper fluid x h = only_swap exchanges (eqb upper fluid) x
outflow_upper false true upper fluid x h = only_swap false (eqb upper fluid) x
outflow_upper true true upper fluid x h = rw (not_above (pos 0) x h)

no_gain : (counts : Bool) (x : ℤ) → x ≤ℤ pos 0 → only counts x ≤ℤ pos 0
no_gain true x h = h
no_gain false x h = ≤ℤ_refl (pos 0)

in_one : (exchanges : Bool) (fluid : ℕ) (x : ℤ) → fluid ≤ salt → only exchanges (only (eqb fluid fresh) x) +ℤ only exchanges (only (eqb fluid salt) x) ≡ only exchanges x
in_one false fluid x l = refl
in_one true zero x l = +ℤ_idr x
in_one true (suc zero) x l = +ℤ_idl x
in_one true (suc (suc n)) x l = absurd (omega arith)

-- kinds 1 and 2 are a river and a sea
open_is_sea : (b : Block) → is_kind b (pos 1) ≡ false → is_open b ≡ true → is_sea b ≡ true
open_is_sea b e k = go b.kind e (range_in (between (pos 1) (pos 2)) b.kind (holds k))
  where
    go : (k : ℤ) → is_zero (k -ℤ pos 1) ≡ false → In (pos 1) (pos 2) k → is_zero (k -ℤ pos 2) ≡ true
    go (pos zero) e h = absurd h.low.le
    go (pos (suc zero)) e h = absurd (holds {b = false} (sym e))
    go (pos (suc (suc zero))) e h = refl
    go (pos (suc (suc (suc n)))) e h = absurd (omega (arith, leb→le (suc (suc (suc n))) 2 h.high.le))
    go (negsuc n) e h = absurd h.low.le

closed : (g : Grid) (b : Block) (top : Bool) (area : ℤ) (t : Fluids) (fluid : ℕ) → is_open b ≡ false → boundary_of g b top area t fluid ≡ pos 0
unfolding boundary_of
closed g b top area t fluid e = rw e

-- ---- the theorems

-- "inflow through a sea boundary always enters the block's salt balance and the salt row's boundary line": in full, and no fresh water
pub sea_in_is_salt : (g : Grid) (b : Block) (top : Bool) (area : ℤ) (t : Fluids) → is_sea b ≡ true → pos 0 <ℤ exchanged_of g b top area t
    → (boundary_of g b top area t fresh ≡ pos 0) × (boundary_of g b top area t salt ≡ exchanged_of g b top area t)
unfolding boundary_of gain_of exchanged_as
sea_in_is_salt g b top area t e h = inflow_salt (is_open b && not (below_top g b top)) (is_sea b) (uppermost_of t) (exchange_of g b area (uppermost_of t)) e h

-- "outflow stays the uppermost fluid": as in document 01
pub out_as_uppermost : (g : Grid) (b : Block) (top : Bool) (area : ℤ) (t : Fluids) → exchanged_of g b top area t ≤ℤ pos 0
    → (fluid : ℕ) → boundary_of g b top area t fluid ≡ as_uppermost g b top area t fluid
unfolding boundary_of gain_of exchanged_as
out_as_uppermost g b top area t h fluid = outflow_upper (is_open b && not (below_top g b top)) (is_sea b) (uppermost_of t) fluid (exchange_of g b area (uppermost_of t)) h

-- "Rivers do not change."
pub river_stays : (g : Grid) (b : Block) (top : Bool) (area : ℤ) (t : Fluids) → is_sea b ≡ false → (fluid : ℕ) → boundary_of g b top area t fluid ≡ as_uppermost g b top area t fluid
unfolding boundary_of gain_of exchanged_as
river_stays g b top area t e fluid = rw e (only_swap (is_open b && not (below_top g b top)) (eqb (uppermost_of t) fluid) (exchange_of g b area (uppermost_of t)))

-- Every litre counts in one of the two fluids.
pub counts_in_full : (g : Grid) (b : Block) (top : Bool) (area : ℤ) (t : Fluids) → boundary_of g b top area t fresh +ℤ boundary_of g b top area t salt ≡ exchanged_of g b top area t
unfolding boundary_of gain_of exchanged_as
counts_in_full g b top area t =
    let x = exchange_of g b area (uppermost_of t) in
    in_one (is_open b && not (below_top g b top)) (cond (is_sea b && lt_z (pos 0) x) salt (uppermost_of t)) x
    (cond_both (λ (n : ℕ). n ≤ salt) (is_sea b && lt_z (pos 0) x) {x = salt} {y = uppermost_of t} (omega arith) (uppermost_is t))

-- A sea brings no fresh water.
pub sea_fresh_never_gains : (g : Grid) (b : Block) (top : Bool) (area : ℤ) (t : Fluids) → is_sea b ≡ true → boundary_of g b top area t fresh ≤ℤ pos 0
sea_fresh_never_gains g b top area t e =
    ⊎_elim (λ h. rw (out_as_uppermost g b top area t h fresh) (no_gain (eqb (uppermost_of t) fresh) (exchanged_of g b top area t) h)) (λ h. rw (sea_in_is_salt g b top area t e h).0 (≤ℤ_refl (pos 0)))
    (≤ℤ_or-< (exchanged_of g b top area t) (pos 0))

-- Nor does any block bring it that has no river.
pub no_river_no_fresh : (g : Grid) (b : Block) (top : Bool) (area : ℤ) (t : Fluids) → is_kind b (pos 1) ≡ false → boundary_of g b top area t fresh ≤ℤ pos 0
no_river_no_fresh g b top area t e = go (is_open b) refl
  where
    go : (r : Bool) → is_open b ≡ r → boundary_of g b top area t fresh ≤ℤ pos 0
    go true k = sea_fresh_never_gains g b top area t (open_is_sea b e k)
    go false k = rw (closed g b top area t fresh k) (≤ℤ_refl (pos 0))
