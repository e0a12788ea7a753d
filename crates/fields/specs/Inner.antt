-- What inner functions require of numbers that were read. No answer is said with it: nothing here has to be believed.
use Rattle.std.specs.Prelude.{List, ◌<◌, ℕ, T, pos, ℤ, get_or}
use Rattle.whole.specs.Ranges.{in_range}
use Rattle.fields.specs.declared.Part.{Part}
use Rattle.fields.specs.Fields.{ends_of}

-- ---- what is required of numbers that were read: each of the first n within its ends
abbrev pub Within : Part → ℕ → List ℤ → Type 0
Within part n values = (k : ℕ) → k < n → T (in_range (ends_of part k) (get_or values k (pos 0)))
