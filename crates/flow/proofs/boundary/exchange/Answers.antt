-- The calls are the definition's steps. Assumes nothing.
use mathlib.Core.Path.{◌∙◌, ◌≡◌, ap₂}
use Prim.Native.Nat.{ℕ}
use lib.IntN.{ℤ}
use Rattle.whole.proofs.RangeLaws.{Bounds, answer, b_eq, exact, fits, ranges, read, within}
use Rattle.grid.specs.declared.Grid.{Grid}
use Rattle.grid.specs.Inner.{Termed}
use Rattle.slots.specs.declared.Block.{Block}
use Rattle.slots.specs.Inner.{Ends}
use Rattle.block.specs.declared.Fluids.{Fluids}
use Rattle.block.specs.Fluids.{new_heads}
use Rattle.block.specs.Geometry.{aquifer_top_of}
use Rattle.block.proofs.BlockLaws.{aquifer_top_in}
use Rattle.block.proofs.FluidLaws.{new_heads_in}
use Rattle.flow.specs.Boundary.{boundary_head_of, exchange_of}
use Rattle.flow.specs.Leakage.{fresh_head_of}
use Rattle.flow.specs.Litres.{litres_of, over_area_of}
use Rattle.flow.proofs.BoundaryLaws.{boundary_head_in}
use Rattle.flow.proofs.LeakageLaws.{fresh_head_in}
use Rattle.flow.proofs.LitresLaws.{over_area_in}
use Rattle.flow.proofs.boundary.exchange.Goals as goal

-- both heads, with their ranges
abbrev own : {z level : ℤ} {heads : Fluids} (g : Grid) (b : Block) (upper : ℕ) → Termed g → Ends b → heads ≡ new_heads b → level ≡ aquifer_top_of b → z ≡ fresh_head_of g heads upper level → Bounds z
own g b upper t e p q h = b_eq (h ∙ (λ i. fresh_head_of g (p i) upper (q i))) (fresh_head_in g (new_heads b) upper (aquifer_top_of b) t (new_heads_in b e) (aquifer_top_in b e))

abbrev head : {z : ℤ} (g : Grid) (b : Block) → Termed g → Ends b → z ≡ boundary_head_of g b → Bounds z
head g b t e h = b_eq h (boundary_head_in g b t e)

pub fresh_head-own-requires-clause-level : goal.fresh_head-own-requires-clause-level
fresh_head-own-requires-clause-level c = rw (answer c.aquifer_top.type_inv c.aquifer_top.ensures) (aquifer_top_in c.args.block c.requires.ends)

pub overflow_sub-boundary_head : goal.overflow_sub-boundary_head
overflow_sub-boundary_head c =
    let a = c.args in
    let r = c.requires in
    let top = answer c.aquifer_top.type_inv c.aquifer_top.ensures in
    fits (search (ranges, head a.g a.block r.termed r.ends c.boundary_head.ensures, own a.g a.block a.upper r.termed r.ends c.new_heads.ensures top c.fresh_head-own.ensures) depth 20) tt

pub litres-requires-clause-fact : goal.litres-requires-clause-fact
litres-requires-clause-fact c =
    let a = c.args in
    let r = c.requires in
    rw (answer c.over_area-through.type_inv (c.over_area-through.ensures ∙ ap₂ over_area_of (read r.ends.boundary_leakance tt) (read r.fact tt)))
    (record { low = (over_area_in a.block.boundary_leakance a.area r.ends.boundary_leakance r.fact).low; high = r.area_bound })

pub litres-requires-clause-abs : goal.litres-requires-clause-abs
litres-requires-clause-abs c =
    let a = c.args in
    let r = c.requires in
    let top = answer c.aquifer_top.type_inv c.aquifer_top.ensures in
    within (search (ranges, head a.g a.block r.termed r.ends c.boundary_head.ensures, own a.g a.block a.upper r.termed r.ends c.new_heads.ensures top c.fresh_head-own.ensures) depth 20) tt tt

pub returns : goal.returns
unfolding exchange_of
returns c =
    let a = c.args in
    let r = c.requires in
    let top = answer c.aquifer_top.type_inv c.aquifer_top.ensures in
    let through = answer c.over_area-through.type_inv (c.over_area-through.ensures ∙ ap₂ over_area_of (read r.ends.boundary_leakance tt) (read r.fact tt)) in
    answer c.litres.type_inv (c.litres.ensures ∙ ap₂ litres_of through (exact (search (ranges, head a.g a.block r.termed r.ends c.boundary_head.ensures, own a.g a.block a.upper r.termed r.ends c.new_heads.ensures top c.fresh_head-own.ensures) depth 20)))
