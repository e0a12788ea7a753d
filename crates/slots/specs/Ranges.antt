-- "The lower and upper end for each slot stand in one fixed table." (document 01, "Units and ranges")
use Rattle.std.specs.Prelude.{Bool, List, [], ◌∷◌, ℕ, ℤ, pos, neg_ℤ, get_or}
use Rattle.whole.specs.declared.ranges.Range.{Range}
use Rattle.whole.specs.Ranges.{between, in_range}
use Rattle.whole.specs.Search.{every}
use Rattle.slots.specs.Units.{slots_each, most_k, most_level, most_thickness, most_porosity, most_leakance, most_recharge, most_pumpage, most_screen, most_kind}

-- "K, base, thickness, porosity, leakance, recharge, pumpage, screen bottom, screen top, kind, stage or floor, boundary leakance, old fresh,
-- old salt, new fresh, new salt." "There screens run from -4,194,304 to 8,388,608, stage or floor over ±4,194,304, and boundary leakance from 0."
abbrev pub ranges : List Range
ranges =
    between (pos 0) (pos most_k)
    ∷ between (neg_ℤ (pos most_level)) (pos most_level)
    ∷ between (pos 1) (pos most_thickness)
    ∷ between (pos 1) (pos most_porosity)
    ∷ between (pos 0) (pos most_leakance)
    ∷ between (pos 0) (pos most_recharge)
    ∷ between (neg_ℤ (pos most_pumpage)) (pos most_pumpage)
    ∷ between (neg_ℤ (pos most_level)) (pos most_screen)
    ∷ between (neg_ℤ (pos most_level)) (pos most_screen)
    ∷ between (pos 0) (pos most_kind)
    ∷ between (neg_ℤ (pos most_level)) (pos most_level)
    ∷ between (pos 0) (pos most_leakance)
    ∷ between (neg_ℤ (pos most_level)) (pos most_level)
    ∷ between (neg_ℤ (pos most_level)) (pos most_level)
    ∷ between (neg_ℤ (pos most_level)) (pos most_level)
    ∷ between (neg_ℤ (pos most_level)) (pos most_level)
    ∷ []

-- the ends of a slot, counted from 0; 0 and 0 where there is no such slot
unfoldable pub range_of : ℕ → Range
range_of slot = get_or ranges slot (between (pos 0) (pos 0))

-- every slot of a block within its ends
unfoldable pub ends_hold : List ℤ → Bool
ends_hold s = every slots_each (λ slot. in_range (range_of slot) (get_or s slot (pos 0)))
