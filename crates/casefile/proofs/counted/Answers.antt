use Rattle.std.proofs.Common.{arith}
use Rattle.whole.proofs.RangeLaws.{fits, leaf, no_less, unsign_ok}
use Rattle.grid.specs.Record.{counts}
use Rattle.fields.specs.declared.Part.TheVariants.{Counts}
use Rattle.fields.specs.Fields.{ends_of, record_range}
use Rattle.fields.proofs.FilledLaws.{number_in}
use Rattle.casefile.proofs.counted.Goals as goal

-- a count within its ends is not negative
pub overflow_cast-result : goal.overflow_cast-result
unfolding ends_of record_range
overflow_cast-result c = let h = number_in Counts counts c.args.values.now c.requires.within 0 (omega arith) in unsign_ok (no_less (leaf h) tt) (fits (leaf h) tt)

pub overflow_cast-result-2 : goal.overflow_cast-result-2
unfolding ends_of record_range
overflow_cast-result-2 c = let h = number_in Counts counts c.args.values.now c.requires.within 1 (omega arith) in unsign_ok (no_less (leaf h) tt) (fits (leaf h) tt)

pub overflow_cast-result-3 : goal.overflow_cast-result-3
unfolding ends_of record_range
overflow_cast-result-3 c = let h = number_in Counts counts c.args.values.now c.requires.within 2 (omega arith) in unsign_ok (no_less (leaf h) tt) (fits (leaf h) tt)
