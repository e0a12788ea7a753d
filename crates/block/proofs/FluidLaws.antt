-- Laws of the two fluids and of a number for each. Assumes nothing.
use mathlib.Core.Path.{◌≡◌}
use Prim.Native.Nat.{suc, zero, ℕ}
use lib.IntN.{ℤ}
use Rattle.whole.specs.Inner.{In}
use Rattle.slots.specs.declared.Block.{Block}
use Rattle.slots.specs.Inner.{Ends}
use Rattle.block.specs.declared.Fluids.{Fluids}
use Rattle.block.specs.Inner.{EachIn, Heads}
use Rattle.block.specs.Fluids.{fluids_of, in_fluid, new_heads, old_heads}

pub both_same : {a b c d : ℤ} → a ≡ c → b ≡ d → fluids_of a b ≡ fluids_of c d
both_same p q = λ i. fluids_of (p i) (q i)

pub in_fluid_in : {lo hi : ℤ} (f : Fluids) (fluid : ℕ) → EachIn lo hi f → In lo hi (in_fluid f fluid)
in_fluid_in f zero h = h.of_fresh
in_fluid_in f (suc n) h = h.of_salt

-- the heads of a block whose slots are within their ends
pub new_heads_in : (b : Block) → Ends b → Heads (new_heads b)
new_heads_in b e = record { of_fresh = e.new_fresh; of_salt = e.new_salt }

pub old_heads_in : (b : Block) → Ends b → Heads (old_heads b)
old_heads_in b e = record { of_fresh = e.old_fresh; of_salt = e.old_salt }
