-- Under a water table the fresh head is held between the base and the aquifer top. Assumes nothing.
use mathlib.Core.Path.{sym, ◌∙◌}
use Rattle.whole.specs.Whole.{clamp_of}
use Rattle.whole.proofs.RangeLaws.{answer, read}
use Rattle.block.specs.Geometry.{saturated_top_of}
use Rattle.block.proofs.geometry.saturated_top.Goals as goal

pub returns-then-has_water_table : goal.returns-then-has_water_table
unfolding saturated_top_of
returns-then-has_water_table c =
    let r = c.requires in
    let most = answer c.aquifer_top-top_of_aquifer.type_inv c.aquifer_top-top_of_aquifer.ensures in
    rw (sym c.has_water_table.ensures ∙ c.if-has_water_table.true)
    (answer c.clamp.type_inv (c.clamp.ensures ∙ (λ i. clamp_of (read r.ends.base tt i) (most i) (read r.heads.of_fresh tt i))))
