-- `stored` meets its contract: its calls are the definition's steps. Assumes nothing.
use mathlib.Core.Path.{◌∙◌, ◌≡◌, ap}
use mir.Syntax.{w64}
use mir.Val.{of_z, to_z}
use borrow.Author.Rules.{rules}
use Rattle.whole.proofs.RangeLaws.{answer, read}
use Rattle.block.specs.declared.geometry.Levels.{Levels}
use Rattle.block.specs.Fluids.{in_fluid, old_heads}
use Rattle.block.specs.Inner.{Levelled}
use Rattle.block.specs.Geometry.{levels_of, thicknesses_of}
use Rattle.block.specs.Storage.{storage_of}
use Rattle.block.proofs.BlockLaws.{levels_levelled, thicknesses_thick}
use Rattle.block.proofs.FluidLaws.{in_fluid_in, old_heads_in}
use Rattle.books.proofs.own.stored.Statement.{statement}
use Rattle.books.proofs.own.stored.Tie as tie

abbrev oldLevelsIn : tie.Start → Levels
oldLevelsIn c = levels_of c.args.g c.args.block c.args.top (old_heads c.args.block)

levels-of-requires : tie.Need-levels_of-requires
levels-of-requires c κs = (c.requires.0, (c.requires.1.0, rw c.old_heads.ensures (old_heads_in c.args.block c.requires.1.0)))

levels-told : (c : tie.After-levels_of) → c.levels_of.result ≡ oldLevelsIn c.before.before
levels-told c = c.levels_of.ensures ∙ ap (levels_of c.args.g c.args.block c.args.top) c.old_heads.ensures

levelled : (c : tie.Start) → Levelled (oldLevelsIn c)
levelled c = levels_levelled c.args.g c.args.block c.args.top (old_heads c.args.block) c.requires.1.0

-- the area and both thicknesses of the fluid, read back
over-told : (c : tie.Start) → to_z w64 (of_z w64 c.args.over) ≡ c.args.over
over-told c = read c.requires.1.1.0 tt

new_told : (c : tie.After-in_fluid) → to_z w64 (of_z w64 c.in_fluid.result) ≡ in_fluid c.args.waters c.args.fluid
new_told c = answer c.in_fluid.type_inv c.in_fluid.ensures

old-told : (c : tie.After-in_fluid-2) → to_z w64 (of_z w64 c.in_fluid-2.result) ≡ in_fluid (thicknesses_of (oldLevelsIn c.before.before.before.before.before)) c.args.fluid
old-told c = answer c.in_fluid-2.type_inv (c.in_fluid-2.ensures ∙ ap (λ f. in_fluid f c.args.fluid) (c.thicknesses-old.ensures ∙ ap thicknesses_of (levels-told c.before.before.before)))

storage-requires : tie.Need-storage-requires
storage-requires c κs =
    let s = c.before.before.before.before.before in (
      s.requires.0,
      (
        s.requires.1.0,
        (
          rw (over-told s) s.requires.1.1.0,
          (
            rw (new_told c.before) (in_fluid_in s.args.waters s.args.fluid s.requires.1.1.1),
            rw (old-told c) (in_fluid_in (thicknesses_of (oldLevelsIn s)) s.args.fluid (thicknesses_thick (oldLevelsIn s) (levelled s))),
          ),
        ),
      ),
    )

returns : tie.Need-returns
returns c = answer c.storage.type_inv (c.storage.ensures ∙ (λ k. storage_of c.args.g c.args.block (over-told c.before.before.before.before.before.before k) (new_told c.before.before k) (old-told c.before k)))

pub stored_spec : {M : Type 1} → statement M
stored_spec =
    tie.close
    (tie.spec
    (λ c κs. search rules)
    levels-of-requires
    (λ c κs. rw (levels-told c) (levelled c.before.before))
    (λ c κs. search rules)
    (λ c κs. search rules)
    storage-requires
    returns)
