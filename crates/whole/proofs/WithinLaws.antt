-- What numbers within their ends tell. Assumes nothing.
use mathlib.Core.Bool.{Bool, false, true}
use mathlib.Core.List.{List}
use mathlib.Core.Logic.{◌⊎◌, ⊎_elim}
use mathlib.Core.Path.{◌≡◌, refl}
use Prim.Native.Nat.{◌<◌, ℕ}
use lib.Dec.{T}
use lib.IntN.{pos, ℤ}
use lib.ListN.{get_or}
use lib.Signed.{◌<ℤ◌, clash_ℤ, le_z, le_z_yes}
use Rattle.whole.specs.declared.ranges.Range.{Range}
use Rattle.whole.specs.Ranges.{all_within, in_range}
use Rattle.whole.specs.Inner.{In}
use Rattle.whole.proofs.SearchLaws.{both, every_all, every_passes, holds, joint, true_is}

pub range_in : (r : Range) (v : ℤ) → T (in_range r v) → In r.lower r.upper v
unfolding in_range
range_in r v t =
    let h = both (le_z r.lower v) (le_z v r.upper) t in
    record { low = le_z_yes h.0; high = le_z_yes h.1 }

-- the test of a number within its ends, and of one beyond an end
pub in_ranged : (r : Range) (v : ℤ) → In r.lower r.upper v → in_range r v ≡ true
unfolding in_range
in_ranged r v h = true_is (joint (le_z r.lower v) (le_z v r.upper) h.low.le h.high.le)

pub out_ranged : (r : Range) (v : ℤ) → (v <ℤ r.lower) ⊎ (r.upper <ℤ v) → in_range r v ≡ false
out_ranged r v out = go (in_range r v) refl
  where
    go : (b : Bool) → in_range r v ≡ b → b ≡ false
    go true e = let h = range_in r v (holds e) in ⊎_elim (λ l. clash_ℤ l h.low) (λ l. clash_ℤ l h.high) out
    go false e = refl

pub within_at : (r : Range) (values : List ℤ) (n : ℕ) → T (all_within r values n) → (k : ℕ) → k < n → In r.lower r.upper (get_or values k (pos 0))
unfolding all_within
within_at r values n t k l = range_in r (get_or values k (pos 0)) (every_all (λ k. in_range r (get_or values k (pos 0))) n t k l)

-- and so they are all within, where each is
pub within_all : (r : Range) (values : List ℤ) (n : ℕ) → ((k : ℕ) → k < n → In r.lower r.upper (get_or values k (pos 0))) → all_within r values n ≡ true
unfolding all_within
within_all r values n h = every_passes (λ k. in_range r (get_or values k (pos 0))) n (λ k l. holds (in_ranged r (get_or values k (pos 0)) (h k l)))
