-- Flows to the nearest litre (document 02, W-206), for every conductance and every difference. That opposite differences give opposite flows is
-- `litres_neg` (LitresLaws). Assumes nothing.
use mathlib.Core.Path.{◌≡◌, sym}
use native.Mathlib.Nat.{le_antisymm}
use native.Mathlib.Omega.{arith}
use lib.IntN.{◌*ℤ◌, ℤ, ℤ_discrete}
use Rattle.whole.proofs.RoundedLaws.{rounded_further, rounded_nearest}
use Rattle.block.specs.Units.{ticks}
use Rattle.flow.specs.Litres.{litres_of}
use Rattle.flow.specs.Meaning.{Nearest, away_from}

-- A flow is the nearest whole number of litres a day, and of two equally near the one further from zero;
pub litres_nearest : (c d : ℤ) → Nearest c d (litres_of c d)
unfolding litres_of
litres_nearest c d =
    record {
      none_nearer = λ m. rounded_nearest ticks (c *ℤ d) m (omega arith);
      further = λ m. rounded_further ticks (c *ℤ d) m (omega arith);
    }

-- and no other number is.
pub nearest_is_litres : (c d n : ℤ) → Nearest c d n → n ≡ litres_of c d
nearest_is_litres c d n h = elim (ℤ_discrete n (litres_of c d)) [
  | yes e ↦ e
  | no other ↦
      let flow = litres_nearest c d in
      let alike : away_from c d n ≡ away_from c d (litres_of c d) = le_antisymm (h.none_nearer (litres_of c d)) (flow.none_nearer n) in
      absurd (omega (arith, h.further (litres_of c d) (λ e. other (sym e)) alike, flow.further n other (sym alike)))
]
