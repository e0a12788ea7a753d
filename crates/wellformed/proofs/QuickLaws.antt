-- A face that is far within the limit exceeds it in neither fluid. Assumes nothing.
use mathlib.Core.Bool.{false, true}
use mathlib.Core.List.{[], ◌∷◌}
use mathlib.Core.Path.{◌∙◌, ◌≡◌, ap₂, subst}
use Prim.Native.Nat.{◌<◌, ◌^◌, suc, zero, ℕ}
use native.Mathlib.Omega.{arith}
use lib.Dec.{T}
use lib.IntN.{◌*ℤ◌, ◌+ℤ◌, pos, ℤ}
use lib.Signed.{◌<ℤ◌, ◌≤ℤ◌, le_z_yes, mag}
use mir.Syntax.{w64}
use mir.Val.{of_z, to_z}
use Rattle.std.specs.Int.{int_max}
use Rattle.whole.specs.Inner.{In}
use Rattle.whole.specs.Whole.{floor_of, max_ℤ}
use Rattle.whole.proofs.DivisionLaws.{floor-<}
use Rattle.whole.proofs.LinearLaws.{#, from1, from2, signed}
use Rattle.whole.proofs.OrderLaws.{greatest_is, max_ℤ_l, max_ℤ_r, mul_mono, ≤ℤ_trans}
use Rattle.whole.proofs.RangeLaws.{answer, leaf, lt_true, no_less, not_above, ok, ranges, read}
use Rattle.whole.proofs.RingLaws.{polynomials, ring}
use Rattle.grid.specs.declared.Grid.{Grid}
use Rattle.slots.specs.declared.Block.{Block}
use Rattle.block.specs.Fluids.{fresh, salt}
use Rattle.block.specs.Geometry.{k_of}
use Rattle.block.specs.Units.{ticks}
use Rattle.block.proofs.BlockLaws.{k_in_range}
use Rattle.block.proofs.DensityLaws.{salt_k_most}
use Rattle.flow.specs.declared.lateral.Face.{Face}
use Rattle.flow.specs.Lateral.{conductance_of, face_k_of}
use Rattle.flow.specs.Litres.{most_conductance}
use Rattle.flow.specs.Inner.{over_conductance}
use Rattle.flow.proofs.LateralLaws.{face_k_most}
use Rattle.wellformed.specs.Inner.{Conducts, far_within}
use Rattle.wellformed.specs.Limits.{either_exceeds, exceeds, greatest_of}

not_over : (z : ℤ) → z <ℤ pos over_conductance → exceeds z ≡ false
not_over z l = not_above (pos most_conductance) z (from1 l (search (signed, # z) depth 30) (omega arith))

module _ (g : Grid) (f : Face) (a b : Block) (h : Conducts g f a b) (quick : far_within f (max_ℤ a.k b.k) (max_ℤ a.thickness b.thickness) ≡ true) where
  abbrev most : ℤ
  most = max_ℤ a.k b.k

  abbrev thick : ℤ
  thick = max_ℤ a.thickness b.thickness

  twice : (x : Block) (fluid : ℕ) → pos 0 ≤ℤ x.k → x.k ≤ℤ most → k_of g x fluid ≤ℤ (pos 2 *ℤ most)
  twice x zero p l = from2 p l (search (signed, # x.k, # most) depth 30) (omega arith)
  twice x (suc n) p l = ≤ℤ_trans (salt_k_most g x.k h.termed p) (mul_mono (pos 2) x.k most (le_z_yes tt) l)

  kf : ℕ → ℤ
  kf fluid = face_k_of f (k_of g a fluid) (k_of g b fluid)

  kf_most : (fluid : ℕ) → face_k_of f (k_of g a fluid) (k_of g b fluid) ≤ℤ (pos 2 *ℤ most)
  kf_most fluid =
      face_k_most f (k_of g a fluid) (k_of g b fluid) h.face (k_in_range g a fluid h.termed h.low h.low_some) (k_in_range g b fluid h.termed h.high h.high_some) (pos 2 *ℤ most)
      (twice a fluid h.low.k.low (max_ℤ_l a.k b.k)) (twice b fluid h.high.k.low (max_ℤ_r a.k b.k))

  divisor : pos 1 ≤ℤ ((f.low +ℤ f.high) *ℤ pos ticks)
  divisor = no_less (search (ranges, leaf h.face.low, leaf h.face.high) depth 20) tt

  factor : pos 0 ≤ℤ (pos 2 *ℤ thick *ℤ f.across)
  factor = no_less (search (ranges, leaf h.low.thickness, leaf h.high.thickness, leaf h.face.across) depth 20) tt

  turn : (K : ℤ) → (pos 2 *ℤ thick *ℤ f.across) *ℤ K ≡ pos 2 *ℤ K *ℤ thick *ℤ f.across
  turn K = ring (K ∷ thick ∷ f.across ∷ []) (search polynomials depth 40) (search polynomials depth 40) tt

  turn_most : (pos 2 *ℤ thick *ℤ f.across) *ℤ (pos 2 *ℤ most) ≡ pos 4 *ℤ most *ℤ thick *ℤ f.across
  turn_most = ring (most ∷ thick ∷ f.across ∷ []) (search polynomials depth 40) (search polynomials depth 40) tt

  turn_over : pos over_conductance *ℤ ((f.low +ℤ f.high) *ℤ pos ticks) ≡ ((f.low +ℤ f.high) *ℤ pos ticks) *ℤ pos over_conductance
  turn_over = ring (f.low ∷ f.high ∷ []) (search polynomials depth 40) (search polynomials depth 40) tt

  below : (fluid : ℕ) → (pos 2 *ℤ face_k_of f (k_of g a fluid) (k_of g b fluid) *ℤ thick *ℤ f.across) ≤ℤ (pos 4 *ℤ most *ℤ thick *ℤ f.across)
  below fluid =
      let K = face_k_of f (k_of g a fluid) (k_of g b fluid) in
      subst (λ z. z ≤ℤ (pos 4 *ℤ most *ℤ thick *ℤ f.across)) (turn K) (subst (λ z. ((pos 2 *ℤ thick *ℤ f.across) *ℤ K) ≤ℤ z) turn_most (mul_mono (pos 2 *ℤ thick *ℤ f.across) K (pos 2 *ℤ most) factor (kf_most fluid)))

  far : (pos 4 *ℤ most *ℤ thick *ℤ f.across) <ℤ (((f.low +ℤ f.high) *ℤ pos ticks) *ℤ pos over_conductance)
  unfolding far_within
  far = subst (λ z. (pos 4 *ℤ most *ℤ thick *ℤ f.across) <ℤ z) turn_over (lt_true _ _ quick)

  chain : (x y z : ℤ) → x ≤ℤ y → y <ℤ z → x <ℤ z
  chain x y z p q = from2 p q (search (signed, # x, # y, # z) depth 30) (omega arith)

  within_limit : (fluid : ℕ) → exceeds (greatest_of g f a b fluid) ≡ false
  unfolding greatest_of conductance_of
  within_limit fluid =
      not_over (floor_of (pos 2 *ℤ face_k_of f (k_of g a fluid) (k_of g b fluid) *ℤ thick *ℤ f.across) ((f.low +ℤ f.high) *ℤ pos ticks))
      (floor-< (pos 2 *ℤ face_k_of f (k_of g a fluid) (k_of g b fluid) *ℤ thick *ℤ f.across) ((f.low +ℤ f.high) *ℤ pos ticks) (pos over_conductance) divisor (chain _ _ _ (below fluid) far))

  pub far_neither : either_exceeds g f a b ≡ false
  unfolding either_exceeds
  far_neither = rw (within_limit fresh, within_limit salt)

-- ---- the greater of two, as `a.max(b)` gives it
module _ {l h a b : ℤ} (low : In l h a) (high : In l h b) (t : T (ok l h)) where
  pub greater_told : {z : ℤ} → mag z < 2 ^ 63 → z ≡ int_max (to_z w64 (of_z w64 a)) (to_z w64 (of_z w64 b)) → to_z w64 (of_z w64 z) ≡ max_ℤ a b
  greater_told m e = answer m (e ∙ ap₂ int_max (read low t) (read high t) ∙ greatest_is a b)
