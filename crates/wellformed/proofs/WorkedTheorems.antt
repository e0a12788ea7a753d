-- The case of document 01's printed session is refused with none of 3, 7, 4, 5, 6, 9 and 10: what `WellFormed` asks can be met. Assumes nothing.
use mathlib.Core.List.{◌++◌}
use mathlib.Core.Path.{◌∙◌, ◌≡◌, ap, refl}
use Rattle.whole.specs.Ranges.{in_range}
use Rattle.whole.specs.Search.{first_of}
use Rattle.grid.specs.Place.{has_next, next_of, place_of}
use Rattle.grid.specs.Weights.{weights_of}
use Rattle.slots.specs.Slots.{slots_at}
use Rattle.slices.specs.Slices.{contents_of, first_refusal, none, or_else, shape_of}
use Rattle.slices.specs.Inner.{judged_of}
use Rattle.slices.proofs.SlicesLaws.{first_append, or_next}
use Rattle.slices.proofs.WorkedTheorems.{printed_case_passes, printed_case}
use Rattle.block.specs.Density.{salt_k_of}
use Rattle.block.specs.Geometry.{aquifer_top_of}
use Rattle.flow.specs.Lateral.{conductance_of, face_k_of}
use Rattle.flow.specs.Litres.{over_area_of}
use Rattle.wellformed.specs.Inner.{WellFormed}
use Rattle.wellformed.specs.Limits.{above_exceeds, at_fault, block_exceeds, boundary_exceeds, either_exceeds, face_exceeds, first_at_fault, greatest_of, limits_of, overlaps}
use Rattle.wellformed.specs.Links.{live_of}
use Rattle.wellformed.specs.Widths.{area_at}
use Rattle.wellformed.proofs.LimitsLaws.{checked_stands}

limits_hold : first_refusal (limits_of printed_case) ≡ none
unfolding first_of in_range place_of slots_at or_else first_refusal has_next next_of aquifer_top_of weights_of salt_k_of over_area_of face_k_of conductance_of area_at live_of overlaps greatest_of either_exceeds face_exceeds above_exceeds boundary_exceeds block_exceeds at_fault first_at_fault limits_of
limits_hold = refl

pub printed_case_stands : WellFormed printed_case
printed_case_stands =
    checked_stands printed_case
    (ap (λ r. r.number) (first_append (shape_of printed_case ++ contents_of printed_case) (limits_of printed_case) ∙ or_next (judged_of printed_case) (first_refusal (limits_of printed_case)) (ap (λ r. r.number) printed_case_passes))
    ∙ ap (λ r. r.number) limits_hold)
