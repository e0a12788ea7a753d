-- `waters_of` meets its contract: its calls are the definition's steps. Assumes nothing.
use mathlib.Core.Bool.{true}
use mathlib.Core.Path.{◌∙◌, ◌≡◌, ap, sym}
use borrow.Author.Rules.{rules}
use Rattle.slots.specs.Slots.{block_of}
use Rattle.block.specs.Fluids.{new_heads}
use Rattle.block.specs.Geometry.{levels_of, thicknesses_of}
use Rattle.block.proofs.FluidLaws.{new_heads_in}
use Rattle.wellformed.specs.Links.{active_of}
use Rattle.books.specs.Waters.{levels_at, new_levels}
use Rattle.books.proofs.WatersLaws.{active_ends, new_levelled, waters_off, waters_on}
use Rattle.books.proofs.waters.waters_of.Statement.{statement}
use Rattle.books.proofs.waters.waters_of.Tie as tie

active : (c : tie.Then-is_active) → active_of c.args.slots.now c.args.block ≡ true
active c = sym c.is_active.ensures ∙ c.if-is_active.true

heads-told : (c : tie.After-new_heads) → c.new_heads.result ≡ new_heads (block_of c.args.slots.now c.args.block)
heads-told c = c.new_heads.ensures ∙ ap new_heads c.load-own.ensures

levels-of-requires : tie.Need-levels_of-requires
levels-of-requires c κs =
    let s = c in
    let ends = active_ends s.args.g s.args.slots.now s.requires.0 s.args.block s.requires.1 (active c.before.before.before) in
    (s.requires.0.termed, (rw c.load-own.ensures ends, rw (heads-told c) (new_heads_in (block_of s.args.slots.now s.args.block) ends)))

levels-told : (c : tie.After-levels_of) → c.levels_of.result ≡ new_levels c.args.g c.args.slots.now c.args.block
unfolding levels_at
levels-told c = c.levels_of.ensures ∙ (λ i. levels_of c.args.g (c.load-own.ensures i) (c.is_top.ensures i) (heads-told c.before i))

thicknesses-requires : tie.Need-thicknesses-requires
thicknesses-requires c κs =
    let s = c in
    rw (levels-told c) (new_levelled s.args.g s.args.slots.now s.requires.0 s.args.block s.requires.1 (active c.before.before.before.before))

returns : tie.Need-returns-then-is_active
returns c =
    let s = c.args in
    c.thicknesses.ensures ∙ ap thicknesses_of (levels-told c.before) ∙ sym (waters_on s.g s.slots.now s.block (active c.before.before.before.before.before))

returns-2 : tie.Need-returns
returns-2 c =
    let s = c.args in
    sym (waters_off s.g s.slots.now s.block (sym c.is_active.ensures ∙ c.if-is_active.false))

pub waters_of_spec : {M : Type 1} → statement M
waters_of_spec =
    tie.close
    (tie.spec
    (λ c κs. search rules)
    (λ c κs. search rules)
    (λ c κs. search rules)
    (λ c κs. search rules)
    levels-of-requires
    thicknesses-requires
    returns
    returns-2)
