use Rattle.fields.proofs.FilledLaws.{read_below}
use Rattle.fields.proofs.sent_at.Goals as goal

-- a number has at most 35 bits
pub meant-value-requires : goal.meant-value-requires
meant-value-requires c = read_below c.args.file.now c.args.at c.read_number.result c.map_err.result _ c.in_ok-number.number c.read_number.ensures c.map_err.ensures.cases c.map_err.ensures.variant c.in_ok-number.was
