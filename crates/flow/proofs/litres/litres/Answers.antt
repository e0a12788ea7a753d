-- The product fits, and can be rounded, by the ranges of conductance and difference. Assumes nothing.
use mathlib.Core.Path.{◌∙◌, ◌≡◌, ap}
use lib.IntN.{◌*ℤ◌, pos, ℤ}
use mir.Syntax.{w64}
use mir.Val.{of_z, to_z}
use Rattle.whole.specs.Inner.{Abs, In}
use Rattle.whole.specs.Whole.{rounded_of}
use Rattle.whole.proofs.RangeLaws.{answer, exact, fits, ranges, within}
use Rattle.block.specs.Units.{ticks}
use Rattle.flow.specs.Inner.{most_difference}
use Rattle.flow.specs.Litres.{litres_of, most_conductance}
use Rattle.flow.proofs.litres.litres.Goals as goal

product : (c d : ℤ) → In (pos 0) (pos most_conductance) c → Abs most_difference d → to_z w64 (of_z w64 (to_z w64 (of_z w64 c) *ℤ to_z w64 (of_z w64 d))) ≡ c *ℤ d
product c d h k = exact (search ranges depth 20)

pub overflow_mul-conductance : goal.overflow_mul-conductance
overflow_mul-conductance c = fits (search ranges depth 20) tt

pub round_div-requires : goal.round_div-requires
round_div-requires c = record { abs = within (search ranges depth 20) tt tt; fact = within (search ranges depth 20) tt tt }

pub returns : goal.returns
unfolding litres_of
returns c = answer c.round_div.type_inv (c.round_div.ensures ∙ ap (λ z. rounded_of z (pos ticks)) (product c.args.conductance c.args.difference c.requires.fact c.requires.abs))
