-- What callers cite of litres: opposite differences give opposite litres, and bounds. Assumes nothing.
use mathlib.Core.Bool.{cond}
use mathlib.Core.Path.{◌∙◌, ◌≡◌, ap}
use Prim.Native.Nat.{ℕ}
use native.Mathlib.Omega.{arith}
use lib.IntN.{◌*ℤ◌, neg_ℤ, pos, ℤ}
use lib.Signed.{lt_z}
use Rattle.whole.specs.Inner.{Abs, In}
use Rattle.whole.specs.Whole.{rounded_of}
use Rattle.whole.proofs.LinearLaws.{#, linear, signed}
use Rattle.whole.proofs.RangeLaws.{ranges, within}
use Rattle.whole.proofs.RoundedLaws.{rounded_in, rounded_neg}
use Rattle.whole.proofs.SumLaws.{only_abs}
use Rattle.block.specs.Inner.{most_area}
use Rattle.block.specs.Units.{ticks}
use Rattle.flow.specs.Litres.{leaving_of, litres_of, most_conductance, over_area_of}
use Rattle.flow.specs.Inner.{most_difference, most_flow, most_over_area, most_rate}

pub litres_neg : (c d : ℤ) → litres_of c (neg_ℤ d) ≡ neg_ℤ (litres_of c d)
unfolding litres_of
litres_neg c d = ap (λ z. rounded_of z (pos ticks)) (turned c d) ∙ rounded_neg (c *ℤ d) ticks (omega arith)
  where
    turned : (c d : ℤ) → c *ℤ neg_ℤ d ≡ neg_ℤ (c *ℤ d)
    turned c d = linear (search (signed, # c, # d) depth 30) (omega arith)

pub litres_in : (c d : ℤ) → In (pos 0) (pos most_conductance) c → Abs most_difference d → Abs most_flow (litres_of c d)
unfolding litres_of
litres_in c d h k = rounded_in (c *ℤ d) ticks (omega arith) (within (search ranges depth 20) tt tt)

pub leaving_in : (low high flow : ℤ) {m : ℕ} → Abs m flow → Abs m (leaving_of low high flow)
unfolding leaving_of
leaving_in low high flow h = only_abs (lt_z (pos 0) (cond (lt_z (pos 0) flow) low high)) h

pub over_area_in : (rate area : ℤ) → In (pos 0) (pos most_rate) rate → In (pos 0) (pos most_area) area → In (pos 0) (pos most_over_area) (over_area_of rate area)
unfolding over_area_of
over_area_in rate area h k = within (search ranges depth 20) tt tt
