-- The two heads are compared where the kind fixes them. Assumes nothing.
use Rattle.std.proofs.Common.{◌≡◌, ◌∙◌, ap, ap₂, sym, not, true, ◌-ℤ◌, ℤ}
use Rattle.whole.specs.Whole.{is_zero}
use Rattle.slots.specs.Slots.{block_of}
use Rattle.block.specs.Fluids.{in_fluid, new_heads, old_heads}
use Rattle.wellformed.specs.Links.{active_of}
use Rattle.books.specs.Own.{fixed_of}
use Rattle.verdict.specs.Places.{moved_at}
use Rattle.verdict.proofs.PlacesLaws.{apart_bits}
use Rattle.verdict.proofs.places.has_moved.Goals as goal

pub returns-then-is_fixed : goal.returns-then-is_fixed
unfolding moved_at
returns-then-is_fixed c =
    let loaded = c.load-own.ensures in
    let active : active_of c.args.slots.now c.args.block ≡ true = sym c.is_active.ensures ∙ c.if-not-is_active.false in
    let fixed : fixed_of (block_of c.args.slots.now c.args.block) c.args.fluid ≡ true =
    sym (c.is_fixed.ensures ∙ ap (λ b. fixed_of b c.args.fluid) loaded) ∙ c.if-is_fixed.true in
    let new = c.in_fluid.ensures ∙ ap (λ f. in_fluid f c.args.fluid) (c.new_heads.ensures ∙ ap new_heads loaded) in
    let old = c.in_fluid-then-is_fixed.ensures ∙ ap (λ f. in_fluid f c.args.fluid) (c.old_heads.ensures ∙ ap old_heads loaded) in
    rw (active, fixed)
    (ap not (apart_bits c.in_fluid.result c.in_fluid-then-is_fixed.result c.in_fluid.type_inv c.in_fluid-then-is_fixed.type_inv ∙ ap₂ (λ (x y : ℤ). is_zero (x -ℤ y)) new old))
