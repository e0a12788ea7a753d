use Rattle.std.proofs.Common.{◌≡◌, ◌∙◌, ◌+◌, add-one, arith, sym}
use Rattle.whole.specs.Search.{first_of}
use Rattle.whole.proofs.SearchLaws.{first_found, first_more, first_start}
use Rattle.grid.specs.Place.{blocks_of}
use Rattle.slices.specs.Cases.{case_in}
use Rattle.wellformed.specs.Limits.{at_fault, first_at_fault}
use Rattle.wellformed.proofs.limits.first_at_fault.Goals as goal

pub loop-block-init : goal.loop-block-init
loop-block-init c = first_start (at_fault (case_in c.args.judged.case) c.args.number)

pub returns-then-is_at_fault : goal.returns-then-is_at_fault
unfolding first_at_fault
returns-then-is_at_fault c =
    let fails = at_fault (case_in c.args.judged.case) c.args.number in
    let blocks = blocks_of c.args.judged.case.grid in
    let first : first_of blocks fails ≡ c.loop-block.block + 1 = first_found fails c.loop-block.block blocks (omega arith) c.loop-block.invariant (sym c.is_at_fault.ensures ∙ c.if-is_at_fault.true) in
    rw (first, add-one)

pub loop-block-preserved : goal.loop-block-preserved
loop-block-preserved c =
    first_more (at_fault (case_in c.args.judged.case) c.args.number) c.loop-block.block c.loop-block.invariant (sym c.is_at_fault.ensures ∙ c.if-is_at_fault.false)
