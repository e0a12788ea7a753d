-- Whole numbers (document 01, "Units and ranges").
use Rattle.std.specs.Prelude.{◌+◌, ◌/◌, suc, Bool, false, cond, eqb, ℤ, pos, negsuc, nat_abs, neg_ℤ}
use Rattle.std.specs.Int.Signed.{le_z, quot_z}

-- "Floor means toward minus infinity": z / d for a divisor d of 1 or more. `negsuc a` is -1 - a, and its floor is -1 - a / d.
abbrev pub floor_of : ℤ → ℤ → ℤ
floor_of (pos a) d = pos (a / nat_abs d)
floor_of (negsuc a) d = negsuc (a / nat_abs d)

-- "cut means toward zero"
abbrev pub cut_of : ℤ → ℤ → ℤ
cut_of z d = quot_z z d

-- "rounded to the nearest litre, halves away from zero" (document 02, W-206): z / d for a divisor d of 1 or more. Half the divisor is added to the size
-- of z before it is divided, and `negsuc a` is -(1 + a).
abbrev pub rounded_of : ℤ → ℤ → ℤ
rounded_of (pos a) d = pos ((a + nat_abs d / 2) / nat_abs d)
rounded_of (negsuc a) d = neg_ℤ (pos ((suc a + nat_abs d / 2) / nat_abs d))

-- z is 0
abbrev pub is_zero : ℤ → Bool
is_zero (pos a) = eqb a 0
is_zero (negsuc a) = false

-- the lesser and the greater of two
abbrev pub min_ℤ : ℤ → ℤ → ℤ
min_ℤ a b = cond (le_z a b) a b

abbrev pub max_ℤ : ℤ → ℤ → ℤ
max_ℤ a b = cond (le_z a b) b a

-- z held between low and high; low where the two are the wrong way round
unfoldable pub clamp_of : ℤ → ℤ → ℤ → ℤ
clamp_of low high z = max_ℤ low (min_ℤ z high)
