-- One outcome (document 01): "For each input the contract of a public function leaves one result". What a contract permits is read off the function itself,
-- as `Learnt`, what a caller learns of a call. Assumes nothing.
use mathlib.Core.Path.{◌∙◌, sym}
use Rattle.whole.specs.Outcome.{OneResult}
use Rattle.block.proofs.in_fluid.Reads.{Learnt as in-fluid}
use Rattle.block.proofs.old_heads.Reads.{Learnt as old-heads}
use Rattle.block.proofs.new_heads.Reads.{Learnt as new-heads}
use Rattle.block.proofs.geometry.has_water_table.Reads.{Learnt as has-water-table}

pub one_outcome_in_fluid : OneResult in-fluid
one_outcome_in_fluid κs a z w e f p q = p ∙ sym q

pub one_outcome_old_heads : OneResult old-heads
one_outcome_old_heads κs a z w e f p q = p ∙ sym q

pub one_outcome_new_heads : OneResult new-heads
one_outcome_new_heads κs a z w e f p q = p ∙ sym q

pub one_outcome_has_water_table : OneResult has-water-table
one_outcome_has_water_table κs a z w e f p q = p ∙ sym q
