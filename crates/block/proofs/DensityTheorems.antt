-- What the waters weigh (document 02, W-209): "A whole δ is the pair δ and δ+1 and gives every answer it gave before", and numbers worked by hand. Assumes nothing.
use mathlib.Core.Path.{◌∙◌, ◌≡◌, ap, refl, subst}
use mathlib.Core.Bool.{Bool, false, true}
use native.Mathlib.Omega.{arith}
use lib.IntN.{◌*ℤ◌, ◌+ℤ◌, ◌-ℤ◌, neg_ℤ, pos, ℤ}
use lib.Signed.{◌≤ℤ◌, le_z_yes}
use Rattle.whole.specs.Whole.{floor_of, is_zero}
use Rattle.whole.proofs.DivisionLaws.{floor_mul}
use Rattle.whole.proofs.LinearLaws.{#, linear, signed}
use Rattle.whole.proofs.OrderLaws.{zero_is}
use Rattle.whole.proofs.SearchLaws.{holds}
use Rattle.grid.specs.declared.Grid.{Grid}
use Rattle.grid.specs.Record.{record_of}
use Rattle.grid.specs.Weights.{weights_of, whole_pair}
use Rattle.block.specs.declared.Fluids.{Fluids}
use Rattle.block.specs.Density.{fresh_equivalent_of, interface_of, salt_k_of, sea_head_of}
use Rattle.block.specs.Fluids.{fluids_of}

-- a δ of 1 or more is not 0, and so the pair is δ and δ + 1
whole_pair_lem : (g : Grid) → pos 1 ≤ℤ g.delta → weights_of g ≡ whole_pair g.delta
unfolding weights_of
whole_pair_lem g h = rw (some (is_zero g.delta) refl) refl
  where
    some : (b : Bool) → is_zero g.delta ≡ b → is_zero g.delta ≡ false
    some false e = e
    some true e = absurd (subst (λ z. pos 1 ≤ℤ z) (zero_is g.delta (holds e)) h).le

-- their difference is 1, which divides without a rest
by_one : (z d : ℤ) → d ≡ pos 1 → floor_of z d ≡ z
by_one z d e = ap (floor_of z) e ∙ ap (λ x. floor_of x (pos 1)) (one z) ∙ floor_mul z (pos 1) (le_z_yes tt)
  where
    one : (z : ℤ) → z ≡ z *ℤ pos 1
    one z = linear (search (signed, # z) depth 30) (omega arith)

difference : (δ : ℤ) → (δ +ℤ pos 1) -ℤ δ ≡ pos 1
difference δ = linear (search (signed, # δ) depth 30) (omega arith)

-- For every whole δ each of the four rules is document 01's formula. No other rule reads δ or the weights, so every answer is what it was.
pub whole_as_before : (g : Grid) → pos 1 ≤ℤ g.delta → let δ = g.delta in
    ((heads : Fluids) → interface_of g heads ≡ (pos 1 +ℤ δ) *ℤ heads.salt -ℤ δ *ℤ heads.fresh)
    × (((k : ℤ) → salt_k_of g k ≡ floor_of (k *ℤ (δ +ℤ pos 1)) δ)
    × (((head z : ℤ) → fresh_equivalent_of g head z ≡ floor_of ((δ +ℤ pos 1) *ℤ head -ℤ z) δ)
    × ((level : ℤ) → sea_head_of g level ≡ floor_of (neg_ℤ level) δ)))
unfolding interface_of salt_k_of fresh_equivalent_of sea_head_of
whole_as_before g h = rw (whole_pair_lem g h) (
  λ heads. interface g.delta heads.salt heads.fresh,
  (λ k. refl, (λ head z. ap (λ d. floor_of d g.delta) (equivalent g.delta head z), λ level. ap (λ d. floor_of d g.delta) (sea g.delta level))),
)
  where
    sum : (δ s f : ℤ) → (δ +ℤ pos 1) *ℤ s -ℤ δ *ℤ f ≡ (pos 1 +ℤ δ) *ℤ s -ℤ δ *ℤ f
    sum δ s f = linear (search (signed, # δ, # s, # f) depth 40) (omega arith)

    interface : (δ s f : ℤ) → floor_of ((δ +ℤ pos 1) *ℤ s -ℤ δ *ℤ f) ((δ +ℤ pos 1) -ℤ δ) ≡ (pos 1 +ℤ δ) *ℤ s -ℤ δ *ℤ f
    interface δ s f = by_one ((δ +ℤ pos 1) *ℤ s -ℤ δ *ℤ f) ((δ +ℤ pos 1) -ℤ δ) (difference δ) ∙ sum δ s f

    equivalent : (δ head z : ℤ) → (δ +ℤ pos 1) *ℤ head -ℤ ((δ +ℤ pos 1) -ℤ δ) *ℤ z ≡ (δ +ℤ pos 1) *ℤ head -ℤ z
    equivalent δ head z = linear (search (signed, # δ, # head, # z) depth 40) (omega arith)

    sea : (δ level : ℤ) → neg_ℤ level *ℤ ((δ +ℤ pos 1) -ℤ δ) ≡ neg_ℤ level
    sea δ level = linear (search (signed, # δ, # level) depth 40) (omega arith)

-- "Our lagoon water weighs 1,023 grams a litre, and 1,000/23 is no whole number."
abbrev lagoon : Grid
lagoon = record_of 1 1 1 (pos 0) (pos 1000) (pos 1023) 0 (pos 30) (pos 5)

-- ζ of heads 1 m and 0: floor(-4,096,000/23), below -178,086.9; the other way round floor(4,190,208/23), below 182,183
pub lagoon_interface : (interface_of lagoon (fluids_of (pos 4096) (pos 0)) ≡ neg_ℤ (pos 178087)) × (interface_of lagoon (fluids_of (pos 0) (pos 4096)) ≡ pos 182182)
unfolding weights_of interface_of
lagoon_interface = (refl, refl)

-- salt K of 10,000 and of 999 mm/day: 10,230, and floor(1,021.977)
pub lagoon_salt_k : (salt_k_of lagoon (pos 10000) ≡ pos 10230) × (salt_k_of lagoon (pos 999) ≡ pos 1021)
unfolding weights_of salt_k_of
lagoon_salt_k = (refl, refl)

-- the fresh equivalent of a salt head of 0 at level -178,087 ticks, floor(4,096,001/1,000), and at 1 m, floor(-94.208)
pub lagoon_equivalent : (fresh_equivalent_of lagoon (pos 0) (neg_ℤ (pos 178087)) ≡ pos 4096) × (fresh_equivalent_of lagoon (pos 0) (pos 4096) ≡ neg_ℤ (pos 95))
unfolding weights_of fresh_equivalent_of
lagoon_equivalent = (refl, refl)

-- the head of a sea 1 m deep: floor(94.208)
pub lagoon_sea : sea_head_of lagoon (neg_ℤ (pos 4096)) ≡ pos 94
unfolding weights_of sea_head_of
lagoon_sea = refl
