-- What the record of a case is refused with (document 01, "Refusal numbers").
use Rattle.std.specs.Prelude.{Bool, ◌&&◌, cond, ℕ, leb, ◌-ℤ◌, pos, ℤ}
use Rattle.std.specs.Int.Signed.{le_z}
use Rattle.whole.specs.Ranges.{between, in_range}
use Rattle.whole.specs.Whole.{is_zero}
use Rattle.grid.specs.declared.Grid.{Grid}
use Rattle.grid.specs.Units.{least_apart, least_fresh_weight, least_salt_weight, most_across, most_blocks, most_delta, most_fresh_weight, most_layers, most_salt_weight, most_step, most_tolerance}
use Rattle.grid.specs.Place.{blocks_of}

-- a count lies between 1 and the most that there may be
abbrev pub count_within : ℕ → ℕ → Bool
count_within n most = leb 1 n && leb n most

-- 3: "a count or the block total is out of range"
unfoldable pub counts_hold : Grid → Bool
counts_hold g = count_within g.columns most_across && (count_within g.rows most_across && (count_within g.layers most_layers && leb (blocks_of g) most_blocks))

-- document 02, W-209: "fresh weight 990..=1,010 and salt weight 1,011..=1,050, at least 5 apart"
unfoldable pub pair_holds : ℤ → ℤ → Bool
pair_holds fresh salt =
    in_range (between (pos least_fresh_weight) (pos most_fresh_weight)) fresh
    && (in_range (between (pos least_salt_weight) (pos most_salt_weight)) salt && le_z (pos least_apart) (salt -ℤ fresh))

-- "δ, whole | 1..=100"; W-209: "A δ of 0 in the case now means that two more numbers follow"; "4 for a weight or pair out of range, or in slices a weight other
-- than 0 beside a whole δ"
unfoldable pub density_holds : Grid → Bool
density_holds g =
    cond (is_zero g.delta)
    (pair_holds g.fresh_weight g.salt_weight)
    (in_range (between (pos 1) (pos most_delta)) g.delta && (is_zero g.fresh_weight && is_zero g.salt_weight))

-- 4: "δ, flag, step or tolerance is out of range", and the weights "judged right after δ"; "water-table flag | 0, 1", and the other ends by their names in Units
unfoldable pub terms_hold : Grid → Bool
terms_hold g =
    density_holds g
    && (leb g.flag 1 && (in_range (between (pos 1) (pos most_step)) g.step && in_range (between (pos 0) (pos most_tolerance)) g.tolerance))
