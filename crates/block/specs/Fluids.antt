-- The two fluids, by number: 0 fresh, 1 salt; any greater number means salt.
use Rattle.std.specs.Prelude.{suc, zero, ℕ, ◌+ℤ◌, ℤ}
use Rattle.slots.specs.declared.Block.{Block}
use Rattle.block.specs.declared.Fluids.{Fluids}

abbrev pub fresh : ℕ
fresh = 0

abbrev pub salt : ℕ
salt = 1

-- a number for each fluid, fresh before salt
abbrev pub fluids_of : ℤ → ℤ → Fluids
fluids_of a b = record { fresh = a; salt = b }

-- of two numbers the one for a fluid
abbrev pub in_fluid : Fluids → ℕ → ℤ
in_fluid f zero = f.fresh
in_fluid f (suc n) = f.salt

-- both numbers together
abbrev pub together_of : Fluids → ℤ
together_of f = f.fresh +ℤ f.salt

-- "old fresh, old salt, new fresh, new salt"
abbrev pub old_heads : Block → Fluids
old_heads b = fluids_of b.old_fresh b.old_salt

abbrev pub new_heads : Block → Fluids
new_heads b = fluids_of b.new_fresh b.new_salt
