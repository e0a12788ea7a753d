-- The run and the numbers of the blocks passed are the definition's.
use Rattle.std.proofs.Common.{◌≡◌}
use Rattle.whole.specs.Lent.{over}
use Rattle.fields.specs.Runs.{Done, blocks_from}
use Rattle.fields.proofs.runs.fill_blocks_from.Given as goal

abbrev pub invariant-loop-block : goal.invariant-loop-block
invariant-loop-block l =
    (Done l.next ≡ (blocks_from (Done l.fn.at) l.g l.file l.block).run)
    × (l.out ≡ over (blocks_from (Done l.fn.at) l.g l.file l.block).values l.fn.out)
