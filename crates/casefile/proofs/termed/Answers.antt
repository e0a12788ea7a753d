use Rattle.std.proofs.Common.{arith}
use Rattle.whole.proofs.RangeLaws.{fits, leaf, no_less, unsign_ok}
use Rattle.grid.specs.Record.{terms}
use Rattle.fields.specs.declared.Part.TheVariants.{Terms}
use Rattle.fields.specs.Fields.{ends_of, record_range}
use Rattle.fields.proofs.FilledLaws.{number_in}
use Rattle.casefile.proofs.termed.Goals as goal

-- a flag within its ends is not negative
pub overflow_cast-result : goal.overflow_cast-result
unfolding ends_of record_range
overflow_cast-result c = let h = number_in Terms terms c.args.values.now c.requires.within 0 (omega arith) in unsign_ok (no_less (leaf h) tt) (fits (leaf h) tt)
