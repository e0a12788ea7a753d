-- Like fluids by their own heads, unlike ones by fresh heads. Assumes nothing.
use mathlib.Core.Path.{◌∙◌, ◌≡◌, ap}
use Prim.Native.Nat.{ℕ}
use lib.IntN.{ℤ}
use mir.Syntax.{w64}
use mir.Val.{of_z, to_z}
use borrow.Author.Tests.{eq-eqb, ne_eqb}
use Rattle.whole.proofs.RangeLaws.{Bounds, b_eq, exact, fits, ranges, read}
use Rattle.grid.specs.declared.Grid.{Grid}
use Rattle.grid.specs.Inner.{Termed}
use Rattle.block.specs.declared.Fluids.{Fluids}
use Rattle.block.specs.Fluids.{in_fluid}
use Rattle.block.specs.Inner.{Heads, Level}
use Rattle.block.proofs.FluidLaws.{in_fluid_in}
use Rattle.flow.specs.Leakage.{difference_of, fresh_head_of}
use Rattle.flow.proofs.LeakageLaws.{fresh_head_in}
use Rattle.flow.proofs.leakage.difference.Goals as goal

-- a fluid's own head, and its fresh head at a level that was read back
abbrev own : {z : ℤ} (h : Fluids) (fluid : ℕ) → Heads h → z ≡ in_fluid h fluid → Bounds z
own h fluid k e = b_eq e (in_fluid_in h fluid k)

abbrev in_fresh : {z level : ℤ} (g : Grid) (h : Fluids) (fluid : ℕ) → Termed g → Heads h → Level level → z ≡ fresh_head_of g h fluid (to_z w64 (of_z w64 level)) → Bounds z
in_fresh {level = level} g h fluid t k l e = b_eq (e ∙ ap (fresh_head_of g h fluid) (read l tt)) (fresh_head_in g h fluid level t k l)

pub overflow_sub-result : goal.overflow_sub-result
overflow_sub-result c =
    let a = c.args in
    fits (search (ranges, own a.lower a.low c.requires.heads c.in_fluid.ensures, own a.upper a.high c.requires.heads_2 c.in_fluid-then-low-high.ensures) depth 20) tt

pub returns-then-low-high : goal.returns-then-low-high
unfolding difference_of
returns-then-low-high c =
    let a = c.args in
    rw (eq-eqb a.low a.high c.if-low-high.true)
    (exact (search (ranges, own a.lower a.low c.requires.heads c.in_fluid.ensures, own a.upper a.high c.requires.heads_2 c.in_fluid-then-low-high.ensures) depth 20))

pub overflow_sub-result-else-low-high : goal.overflow_sub-result-else-low-high
overflow_sub-result-else-low-high c =
    let a = c.args in
    let r = c.requires in
    fits (search (ranges, in_fresh a.g a.lower a.low r.termed r.heads r.level c.fresh_head.ensures, in_fresh a.g a.upper a.high r.termed r.heads_2 r.level c.fresh_head-else-low-high.ensures) depth 20) tt

pub returns-else-low-high : goal.returns-else-low-high
unfolding difference_of
returns-else-low-high c =
    let a = c.args in
    let r = c.requires in
    rw (ne_eqb a.low a.high c.if-low-high.false)
    (exact (search (ranges, in_fresh a.g a.lower a.low r.termed r.heads r.level c.fresh_head.ensures, in_fresh a.g a.upper a.high r.termed r.heads_2 r.level c.fresh_head-else-low-high.ensures) depth 20))
