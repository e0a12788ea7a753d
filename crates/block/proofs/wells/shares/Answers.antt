-- The two ways are the definition's two cases. Assumes nothing.
use mathlib.Core.Bool.{true}
use mathlib.Core.Path.{◌∙◌, ◌≡◌, ap₂}
use lib.IntN.{◌*ℤ◌, pos, ℤ}
use lib.Signed.{lt_z}
use mir.Syntax.{w64}
use mir.Val.{of_z, to_z}
use Rattle.whole.specs.Whole.{cut_of}
use Rattle.whole.proofs.OrderLaws.{one_least}
use Rattle.whole.proofs.RangeLaws.{Bounds, answer, b_eq, exact, fits, lt_true, ranges}
use Rattle.slots.specs.declared.Block.{Block}
use Rattle.slots.specs.Inner.{Ends}
use Rattle.block.specs.declared.Fluids.{Fluids}
use Rattle.block.specs.Inner.{Thick}
use Rattle.block.specs.Fluids.{together_of}
use Rattle.block.specs.Wells.{fresh_share_of, shares_of}
use Rattle.block.proofs.BlockLaws.{fresh_part, parts_in}
use Rattle.block.proofs.FluidLaws.{both_same}
use Rattle.block.proofs.wells.shares.Goals as goal

product : (b : Block) (l : Fluids) → Ends b → Thick l → to_z w64 (of_z w64 (to_z w64 (of_z w64 b.pumpage) *ℤ to_z w64 (of_z w64 l.fresh))) ≡ b.pumpage *ℤ l.fresh
product b l e t = exact (search ranges depth 20)

-- the fresh share of a screen that is wet, as the machine works it out, with its range
abbrev share : {w z : ℤ} (b : Block) (l : Fluids) → Ends b → Thick l → w ≡ together_of l → lt_z (pos 0) w ≡ true
    → z ≡ cut_of (to_z w64 (of_z w64 (to_z w64 (of_z w64 b.pumpage) *ℤ to_z w64 (of_z w64 l.fresh)))) w → Bounds z
share b l e t f h k =
    let some = one_least (lt_true (pos 0) (together_of l) (rw (← f) h)) in
    b_eq (k ∙ ap₂ cut_of (product b l e t) f) (parts_in b.pumpage l.fresh (together_of l) t.of_fresh.low (fresh_part l t) some e.pumpage).0

pub overflow_mul-block : goal.overflow_mul-block
overflow_mul-block c = fits (search ranges depth 20) tt

pub overflow_sub-result : goal.overflow_sub-result
overflow_sub-result c =
    let r = c.requires in
    let wetted = answer c.together-wetted.type_inv c.together-wetted.ensures in
    fits (search (ranges, share c.args.block c.args.lengths r.ends r.thick wetted c.if-wetted-gt0.true c.cut_div-fresh.ensures) depth 20) tt

pub returns-then-wetted-gt0 : goal.returns-then-wetted-gt0
unfolding shares_of fresh_share_of
returns-then-wetted-gt0 c =
    let r = c.requires in
    let wetted = answer c.together-wetted.type_inv c.together-wetted.ensures in
    let fresh = share c.args.block c.args.lengths r.ends r.thick wetted c.if-wetted-gt0.true c.cut_div-fresh.ensures in
    let wet : lt_z (pos 0) (together_of c.args.lengths) ≡ true = rw (← wetted) c.if-wetted-gt0.true in
    rw wet (both_same (exact (search (ranges, fresh) depth 20)) (exact (search (ranges, fresh) depth 20)))

pub returns-else-wetted-gt0 : goal.returns-else-wetted-gt0
unfolding shares_of
returns-else-wetted-gt0 c = rw (← answer c.together-wetted.type_inv c.together-wetted.ensures, c.if-wetted-gt0.false)
