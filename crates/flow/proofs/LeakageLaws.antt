-- What callers cite of leakage: the fluids named, and bounds. Assumes nothing.
use Prim.Native.Nat.{◌≤◌, suc, zero, ℕ}
use native.Mathlib.Omega.{arith}
use lib.IntN.{pos, ℤ}
use lib.Signed.{lt_z}
use borrow.Author.Tests.{ne_eqb}
use Rattle.whole.specs.Inner.{Abs, In}
use Rattle.whole.proofs.RangeLaws.{leaf, ranges, within}
use Rattle.whole.proofs.SearchLaws.{cond_both}
use Rattle.grid.specs.declared.Grid.{Grid}
use Rattle.grid.specs.Inner.{Termed}
use Rattle.block.specs.declared.Fluids.{Fluids}
use Rattle.block.specs.Inner.{Heads, Level, most_equivalent}
use Rattle.block.specs.Fluids.{fresh, salt, together_of}
use Rattle.block.proofs.DensityLaws.{equivalent_in}
use Rattle.flow.specs.declared.leakage.LeakageSide.{LeakageSide}
use Rattle.flow.specs.Inner.{LeakageSideIn, most_difference, most_flow}
use Rattle.flow.specs.Leakage.{difference_of, fresh_head_of, leakage_of, lowermost_of, uppermost_of}
use Rattle.flow.specs.Litres.{litres_of, most_conductance}
use Rattle.flow.proofs.LitresLaws.{leaving_in, litres_in}

-- a named fluid is fresh or salt
pub uppermost_is : (t : Fluids) → uppermost_of t ≤ salt
unfolding uppermost_of
uppermost_is t = cond_both (λ (n : ℕ). n ≤ salt) (lt_z (pos 0) t.fresh) {x = fresh} {y = salt} (omega arith) (omega arith)

pub lowermost_is : (t : Fluids) → lowermost_of t ≤ salt
unfolding lowermost_of
lowermost_is t = cond_both (λ (n : ℕ). n ≤ salt) (lt_z (pos 0) t.salt) {x = salt} {y = fresh} (omega arith) (omega arith)

-- a head in fresh water
pub fresh_head_in : (g : Grid) (h : Fluids) (fluid : ℕ) (z : ℤ) → Termed g → Heads h → Level z → Abs most_equivalent (fresh_head_of g h fluid z)
fresh_head_in g h zero z t k l = within (search (ranges, leaf k.of_fresh) depth 20) tt tt
fresh_head_in g h (suc n) z t k l = equivalent_in g h.salt z t k.of_salt l

-- two fluids that differ are fresh and salt, in either order
pub difference_in : (g : Grid) (lower upper : Fluids) (low high : ℕ) (z : ℤ) → Termed g → Heads lower → Heads upper → low ≤ salt → high ≤ salt → Level z → Abs most_difference (difference_of g lower upper low high z)
unfolding difference_of
difference_in g lower upper zero zero z t k l p q r = within (search (ranges, leaf k.of_fresh, leaf l.of_fresh) depth 20) tt tt
difference_in g lower upper zero (suc n) z t k l p q r = rw (ne_eqb 0 (suc n) (omega arith)) (within (search (ranges, leaf k.of_fresh, leaf (equivalent_in g upper.salt z t l.of_salt r)) depth 20) tt tt)
difference_in g lower upper (suc m) zero z t k l p q r = rw (ne_eqb (suc m) 0 (omega arith)) (within (search (ranges, leaf l.of_fresh, leaf (equivalent_in g lower.salt z t k.of_salt r)) depth 20) tt tt)
difference_in g lower upper (suc zero) (suc zero) z t k l p q r = within (search (ranges, leaf k.of_salt, leaf l.of_salt) depth 20) tt tt
difference_in g lower upper (suc zero) (suc (suc n)) z t k l p q r = absurd (omega arith)
difference_in g lower upper (suc (suc m)) (suc n) z t k l p q r = absurd (omega arith)

pub leakage_in : (g : Grid) (c : ℤ) (lower upper : LeakageSide) (z : ℤ) → Termed g → In (pos 0) (pos most_conductance) c → LeakageSideIn lower → LeakageSideIn upper → Level z → Abs most_flow (leakage_of g c lower upper z)
unfolding leakage_of
leakage_in g c lower upper z t h k l r =
    let low = uppermost_of lower.thickness in
    let high = lowermost_of upper.thickness in
    let d = difference_of g lower.heads upper.heads low high z in
    leaving_in (together_of lower.thickness) (together_of upper.thickness) (litres_of c d)
    (litres_in c d h (difference_in g lower.heads upper.heads low high z t k.heads l.heads (uppermost_is lower.thickness) (lowermost_is upper.thickness) r))
