-- The bits of a double, as inner functions read them: a sign, an exponent's field of 11 bits and 52 digits. No answer is said with these: nothing here has
-- to be believed.
use Rattle.std.specs.Prelude.{◌%◌, ◌+◌, ◌/◌, ◌^◌, ℕ}

-- the exponent's field
abbrev pub field_of : ℕ → ℕ
field_of b = b / 2 ^ 52 % 2 ^ 11

-- the digits, with the leading one that the bits leave out
abbrev pub digits_of : ℕ → ℕ
digits_of b = 2 ^ 52 + b % 2 ^ 52

-- from this field on a double has 2,048 m or more without sign, or it is infinite or no number
abbrev pub far : ℕ
far = 1034

-- up to this field it has less than half a tick without sign
abbrev pub near : ℕ
near = 1009
