use Rattle.std.proofs.Common.{◌≡◌, ◌∙◌, ◌+◌, add-one, arith, sym}
use Rattle.whole.specs.Search.{first_of}
use Rattle.whole.proofs.SearchLaws.{first_found, first_more, first_start}
use Rattle.grid.specs.Place.{blocks_of}
use Rattle.books.specs.Waters.{dry_at, dry_of}
use Rattle.books.proofs.waters.first_dry.Goals as goal

pub loop-block-init : goal.loop-block-init
loop-block-init c = first_start (dry_at c.args.g c.args.slots.now)

pub returns-then-is_dry_at : goal.returns-then-is_dry_at
unfolding dry_of
returns-then-is_dry_at c =
    let dry = dry_at c.args.g c.args.slots.now in
    let blocks = blocks_of c.args.g in
    let first : first_of blocks dry ≡ c.loop-block.block + 1 = first_found dry c.loop-block.block blocks (omega arith) c.loop-block.invariant (sym c.is_dry_at.ensures ∙ c.if-is_dry_at.true) in
    rw (first, add-one)

pub loop-block-preserved : goal.loop-block-preserved
loop-block-preserved c = first_more (dry_at c.args.g c.args.slots.now) c.loop-block.block c.loop-block.invariant (sym c.is_dry_at.ensures ∙ c.if-is_dry_at.false)

pub returns : goal.returns
unfolding dry_of
returns c =
    let e : c.loop-block.block ≡ c.blocks-total.result = omega arith in
    rw (← c.blocks-total.ensures, ← e, c.loop-block.invariant)
