-- Numbers worked by hand (document 01), by the definitions: which fields are signed. Assumes nothing.
use mathlib.Core.Bool.{cond}
use mathlib.Core.List.{List, [], ◌++◌, ◌∷◌}
use mathlib.Core.Path.{◌≡◌, refl}
use Prim.Native.Nat.{suc, zero, ℕ}
use lib.IntN.{pos}
use lib.Signed.{lt_z}
use Rattle.slots.specs.Ranges.{range_of}
use Rattle.slots.specs.Units.{slots_each}

-- the first n slots whose lower end is below zero
abbrev signed_before : ℕ → List ℕ
signed_before zero = []
signed_before (suc slot) = signed_before slot ++ cond (lt_z (range_of slot).lower (pos 0)) (slot ∷ []) []

-- "Signed fields (base, pumpage, screens, stage or floor, heads)", by their slots
pub signed_fields : signed_before slots_each ≡ 1 ∷ 6 ∷ 7 ∷ 8 ∷ 10 ∷ 12 ∷ 13 ∷ 14 ∷ 15 ∷ []
unfolding range_of
signed_fields = refl
