-- What the waters of a case weigh, as a pair of weights (document 02, W-209). Every rule that reads them reads this pair.
use Rattle.std.specs.Prelude.{cond, ◌+ℤ◌, pos, ℤ}
use Rattle.whole.specs.Whole.{is_zero}
use Rattle.grid.specs.declared.Grid.{Grid}
use Rattle.grid.specs.declared.weights.Weights.{Weights}

-- a weight for each of the two waters
abbrev pub pair_of : ℤ → ℤ → Weights
pair_of fresh salt = record { fresh = fresh; salt = salt }

-- "A whole δ is the pair δ and δ+1"
abbrev pub whole_pair : ℤ → Weights
whole_pair δ = pair_of δ (δ +ℤ pos 1)

-- "A δ of 0 in the case now means that two more numbers follow: fresh weight .. and salt weight ..", in grams a litre
unfoldable pub weights_of : Grid → Weights
weights_of g = cond (is_zero g.delta) (pair_of g.fresh_weight g.salt_weight) (whole_pair g.delta)
