-- Wells (document 01, "Leakage, river and sea"): lengths of a screen in ticks, and what it takes in litres a day.
use Rattle.std.specs.Prelude.{Bool, ◌&&◌, cond, not, ◌*ℤ◌, ◌-ℤ◌, pos, ℤ}
use Rattle.std.specs.Int.Signed.{lt_z}
use Rattle.whole.specs.Whole.{cut_of, is_zero, max_ℤ, min_ℤ}
use Rattle.slots.specs.declared.Block.{Block}
use Rattle.block.specs.declared.Fluids.{Fluids}
use Rattle.block.specs.declared.geometry.Levels.{Levels}
use Rattle.block.specs.Fluids.{fluids_of, together_of}

-- "the screen's lengths inside" two levels
unfoldable pub length_within : Block → ℤ → ℤ → ℤ
length_within b low high = max_ℤ (pos 0) (min_ℤ b.screen_top high -ℤ max_ℤ b.screen_bottom low)

-- "the screen's lengths inside fresh [Z, U] and salt [base, Z] are counted"
unfoldable pub lengths_of : Block → Levels → Fluids
lengths_of b l = fluids_of (length_within b l.interface l.top) (length_within b l.base l.interface)

-- "Pumpage other than 0 with wetted length 0 is a dry well." The wetted length is both together.
unfoldable pub is_dry : Block → Fluids → Bool
is_dry b lengths = not (is_zero b.pumpage) && is_zero (together_of lengths)

-- "Fresh share = cut(pumpage·fresh length/wetted length)"
unfoldable pub fresh_share_of : Block → Fluids → ℤ
fresh_share_of b lengths = cut_of (b.pumpage *ℤ lengths.fresh) (together_of lengths)

-- "salt the remainder; both 0 for pumpage 0". The test is for a wetted length: with pumpage 0 the screen has none, or its slots are refused before, with 6; and a
-- dry well takes nothing, where document 01 gives no shares
unfoldable pub shares_of : Block → Fluids → Fluids
shares_of b lengths =
    cond (lt_z (pos 0) (together_of lengths))
    (fluids_of (fresh_share_of b lengths) (b.pumpage -ℤ fresh_share_of b lengths))
    (fluids_of (pos 0) (pos 0))
