-- `is_dry_at` meets its contract: the levels of a block are those on which its waters stand. Assumes nothing.
use mathlib.Core.Bool.{true}
use mathlib.Core.Path.{◌∙◌, ◌≡◌, ap₂, sym}
use borrow.Author.Rules.{rules}
use Rattle.slots.specs.Slots.{block_of}
use Rattle.block.specs.Wells.{is_dry, lengths_of}
use Rattle.wellformed.specs.Links.{active_of}
use Rattle.books.specs.Waters.{dry_at, new_levels, waters_of}
use Rattle.books.proofs.WatersLaws.{active_ends, lengths_are, lengths_in, lengths_ready}
use Rattle.books.proofs.waters.is_dry_at.Statement.{statement}
use Rattle.books.proofs.waters.is_dry_at.Tie as tie

active : (c : tie.Then-is_active) → active_of c.args.slots.now c.args.block ≡ true
active c = sym c.is_active.ensures ∙ c.if-is_active.true

waters-told : (c : tie.After-pair) → c.pair.result ≡ waters_of c.args.g c.args.slots.now c.args.block
waters-told c = c.pair.ensures ∙ c.requires.1.0.each c.args.block c.requires.1.1

lengths-on-requires : tie.Need-lengths_on-requires
lengths-on-requires c κs =
    let s = c in
    rw (c.load-own.ensures, waters-told c) (lengths_ready s.args.g s.args.slots.now s.requires.0 s.args.block s.requires.1.1 (active c.before.before))

lengths-told : (c : tie.After-lengths_on) → c.lengths_on.result ≡ lengths_of (block_of c.args.slots.now c.args.block) (new_levels c.args.g c.args.slots.now c.args.block)
lengths-told c =
    let s = c in
    lengths_are s.args.g s.args.slots.now s.requires.0 s.args.block s.requires.1.1 (active c.before.before.before) c.load-own.result c.pair.result c.lengths_on.result c.load-own.ensures (waters-told c.before) c.lengths_on.ensures

is-dry-requires : tie.Need-is_dry-requires
is-dry-requires c κs =
    let s = c in (
      rw c.load-own.ensures (active_ends s.args.g s.args.slots.now s.requires.0 s.args.block s.requires.1.1 (active c.before.before.before)),
      rw (lengths-told c) (lengths_in s.args.g s.args.slots.now s.requires.0 s.args.block s.requires.1.1 (active c.before.before.before)),
    )

returns : tie.Need-returns-then-is_active
unfolding dry_at
returns c = rw (active c.before.before.before.before) (c.is_dry.ensures ∙ ap₂ is_dry c.load-own.ensures (lengths-told c.before))

returns-2 : tie.Need-returns
unfolding dry_at
returns-2 c = rw (sym c.is_active.ensures ∙ c.if-is_active.false)

pub is_dry_at_spec : {M : Type 1} → statement M
is_dry_at_spec =
    tie.close
    (tie.spec
    (λ c κs. search rules)
    (λ c κs. search rules)
    (λ c κs. search rules)
    lengths-on-requires
    is-dry-requires
    returns
    returns-2)
