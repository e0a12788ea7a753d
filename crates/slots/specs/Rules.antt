-- The rules that a block's slots follow beyond their ends (document 01, "Units and ranges").
use Rattle.std.specs.Prelude.{Bool, true, false, cond, ◌&&◌, ◌||◌, List, ℤ, pos, ◌+ℤ◌, ◌-ℤ◌}
use Rattle.std.specs.Int.Signed.{le_z, lt_z}
use Rattle.whole.specs.Whole.{is_zero}
use Rattle.whole.specs.Ranges.{between, in_range, all_within}
use Rattle.slots.specs.declared.Block.{Block}
use Rattle.slots.specs.Units.{slots_each}
use Rattle.slots.specs.Ranges.{ends_hold}
use Rattle.slots.specs.Slots.{slots_at, is_active}

-- "An inactive block has all 16 zero."
unfoldable pub all_zero : List ℤ → Bool
all_zero s = all_within (between (pos 0) (pos 0)) s slots_each

-- "base ≤ bottom < top ≤ aquifer top"
unfoldable pub screen_within : ℤ → ℤ → ℤ → ℤ → Bool
screen_within base bottom top aquiferTop = le_z base bottom && (lt_z bottom top && le_z top aquiferTop)

-- "screen bottom, top | base ≤ bottom < top ≤ aquifer top; both 0 if pumpage is 0"
unfoldable pub screens_hold : Block → Bool
screens_hold b =
    cond (is_zero b.pumpage)
    (is_zero b.screen_bottom && is_zero b.screen_top)
    (screen_within b.base b.screen_bottom b.screen_top (b.base +ℤ b.thickness))

-- "leakance to the block above, 10⁻⁶/day | .. 0 in the top layer"; "recharge, µm/day | .. 0 below the top layer"
unfoldable pub layer_holds : Block → Bool → Bool
layer_holds b true = is_zero b.leakance
layer_holds b false = is_zero b.recharge

-- "boundary kind | .. 1 river, 2 sea"
abbrev pub is_open : Block → Bool
is_open b = in_range (between (pos 1) (pos 2)) b.kind

-- a block is of a boundary kind
abbrev pub is_kind : Block → ℤ → Bool
is_kind b kind = is_zero (b.kind -ℤ kind)

-- "boundary kind | .. 2 sea"
abbrev pub is_sea : Block → Bool
is_sea b = is_kind b (pos 2)

-- "boundary leakance | 1..=1,000,000"; "sea floor | -4,194,304..=0"
unfoldable pub open_holds : ℤ → ℤ → ℤ → Bool
open_holds kind level leakance = le_z (pos 1) leakance && (le_z kind (pos 1) || le_z level (pos 0))

-- "Kinds 1 and 2 occur only in the top layer." "Kinds other than 1 and 2 have zero in their two boundary slots."
unfoldable pub boundary_holds : Block → Bool → Bool
boundary_holds b top =
    cond (is_open b)
    (top && open_holds b.kind b.level b.boundary_leakance)
    (is_zero b.level && is_zero b.boundary_leakance)

-- "a block's remaining slot rules (screens, kind, layer)"
unfoldable pub rules_hold : Block → Bool → Bool
rules_hold b top = screens_hold b && (layer_holds b top && boundary_holds b top)

-- 6: "a slot is out of range": whether a block's slots stand, in the top layer or below it
unfoldable pub slots_hold : List ℤ → Bool → Bool
slots_hold s top = cond (is_active (slots_at s)) (ends_hold s && rules_hold (slots_at s) top) (all_zero s)
