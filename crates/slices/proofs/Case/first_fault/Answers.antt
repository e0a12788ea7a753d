use Rattle.std.proofs.Common.{◌≡◌, ◌∙◌, ◌*◌, ap, ◌+◌, ap₂, sym, not, add-one, arith}
use Rattle.whole.specs.Search.{first_of}
use Rattle.grid.specs.Place.{blocks_of}
use Rattle.whole.proofs.LentLaws.{rest_all}
use Rattle.whole.proofs.SearchLaws.{first_found, first_more, first_start}
use Rattle.slots.specs.Rules.{slots_hold}
use Rattle.slices.specs.Slices.{fault_of, slots_fail}
use Rattle.slices.proofs.Case.first_fault.Goals as goal
use Rattle.slices.proofs.Case.first_fault.Goals.{After-slots_hold}

-- what the call tells of the block
told : (c : After-slots_hold) → slots_fail c.args.self.now.grid c.args.self.now.slots.now c.loop-block.block ≡ not c.slots_hold.result
told c = ap not (sym (c.slots_hold.ensures ∙ ap₂ slots_hold (rest_all (16 * c.loop-block.block) c.args.self.now.slots.now) c.is_top.ensures))

pub loop-block-init : goal.loop-block-init
loop-block-init c = first_start (slots_fail c.args.self.now.grid c.args.self.now.slots.now)

pub returns-then-not-slots_hold : goal.returns-then-not-slots_hold
unfolding fault_of
returns-then-not-slots_hold c =
    let fails = slots_fail c.args.self.now.grid c.args.self.now.slots.now in
    let blocks = blocks_of c.args.self.now.grid in
    let first : first_of blocks fails ≡ c.loop-block.block + 1 = first_found fails c.loop-block.block blocks (omega arith) c.loop-block.invariant (told c.before ∙ ap not c.if-not-slots_hold.true) in
    rw (first, add-one)

pub loop-block-preserved : goal.loop-block-preserved
loop-block-preserved c = first_more (slots_fail c.args.self.now.grid c.args.self.now.slots.now) c.loop-block.block c.loop-block.invariant (told c.before ∙ ap not c.if-not-slots_hold.false)

pub returns : goal.returns
unfolding fault_of
returns c =
    let e : c.loop-block.block ≡ c.blocks-total.result = omega arith in
    rw (← c.blocks-total.ensures, ← e, c.loop-block.invariant)
