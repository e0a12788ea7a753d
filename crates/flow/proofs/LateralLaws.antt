-- What callers cite of a lateral face: bounds, and that the actual conductance never exceeds the one of refusal 10. Assumes nothing.
use mathlib.Core.Bool.{Bool, cond, false, true}
use mathlib.Core.List.{[], ◌∷◌}
use mathlib.Core.Path.{◌∙◌, ◌≡◌, ap, subst}
use native.Mathlib.Omega.{arith}
use lib.IntN.{◌*ℤ◌, ◌+ℤ◌, ◌-ℤ◌, pos, ℤ}
use lib.Signed.{◌≤ℤ◌, le_z_yes, lt_z, ≤ℤ_refl}
use Rattle.whole.specs.Inner.{Abs, In}
use Rattle.whole.specs.Whole.{floor_of, max_ℤ}
use Rattle.whole.proofs.DivisionLaws.{floor_mono, floor_mul, floor-≤, floor-≥}
use Rattle.whole.proofs.LinearLaws.{#, from1, from2, signed}
use Rattle.whole.proofs.OrderLaws.{max_ℤ_l, max_ℤ_r, max_ℤ-≤, mul_mono, mul_nonneg, ≤ℤ_trans}
use Rattle.whole.proofs.RangeLaws.{no_less, ranges, within}
use Rattle.whole.proofs.RingLaws.{polynomials, ring}
use Rattle.slots.specs.Units.{most_thickness}
use Rattle.block.specs.Inner.{most_fluid_k}
use Rattle.block.specs.Units.{ticks}
use Rattle.flow.specs.declared.lateral.Behind.{Behind}
use Rattle.flow.specs.declared.lateral.Face.{Face}
use Rattle.flow.specs.declared.lateral.Side.{Side}
use Rattle.flow.specs.Inner.{BehindIn, FaceIn, SideIn, most_flow}
use Rattle.flow.specs.Lateral.{conductance_of, face_conductance_of, face_k_of, face_thickness_of, lateral_of, tip_of}
use Rattle.flow.specs.Litres.{litres_of, most_conductance}
use Rattle.flow.proofs.LitresLaws.{leaving_in, litres_in}

-- ---- face conductivity

module _ (f : Face) (K1 K2 : ℤ) (h : FaceIn f) (k : In (pos 1) (pos most_fluid_k) K1) (l : In (pos 1) (pos most_fluid_k) K2) where
  -- its divisor
  face_divisor : pos 1 ≤ℤ (f.low *ℤ K2 +ℤ f.high *ℤ K1)
  face_divisor = no_less (search ranges depth 20) tt

  -- no more than the greatest K
  dividend : (L1 L2 M : ℤ) → pos 0 ≤ℤ L1 → pos 0 ≤ℤ L2 → pos 0 ≤ℤ K1 → pos 0 ≤ℤ K2 → K1 ≤ℤ M → K2 ≤ℤ M → ((L1 +ℤ L2) *ℤ K1 *ℤ K2) ≤ℤ (M *ℤ (L1 *ℤ K2 +ℤ L2 *ℤ K1))
  dividend L1 L2 M a b c d p q =
      subst (λ z. z ≤ℤ (M *ℤ (L1 *ℤ K2 +ℤ L2 *ℤ K1))) left
      (subst (λ z. ((L1 *ℤ K2) *ℤ K1 +ℤ (L2 *ℤ K1) *ℤ K2) ≤ℤ z) right
      (add_mono (mul_mono (L1 *ℤ K2) K1 M (mul_nonneg L1 K2 a d) p) (mul_mono (L2 *ℤ K1) K2 M (mul_nonneg L2 K1 b c) q)))
    where
      left : (L1 *ℤ K2) *ℤ K1 +ℤ (L2 *ℤ K1) *ℤ K2 ≡ (L1 +ℤ L2) *ℤ K1 *ℤ K2
      left = ring (L1 ∷ L2 ∷ K1 ∷ K2 ∷ []) (search polynomials depth 40) (search polynomials depth 40) tt

      right : (L1 *ℤ K2) *ℤ M +ℤ (L2 *ℤ K1) *ℤ M ≡ M *ℤ (L1 *ℤ K2 +ℤ L2 *ℤ K1)
      right = ring (L1 ∷ L2 ∷ K1 ∷ K2 ∷ M ∷ []) (search polynomials depth 40) (search polynomials depth 40) tt

      add_mono : {a b c d : ℤ} → a ≤ℤ c → b ≤ℤ d → (a +ℤ b) ≤ℤ (c +ℤ d)
      add_mono {a} {b} {c} {d} p q = from2 p q (search (signed, # a, # b, # c, # d) depth 30) (omega arith)

  product : ((f.low *ℤ K2 +ℤ f.high *ℤ K1) *ℤ pos 0) ≤ℤ ((f.low +ℤ f.high) *ℤ K1 *ℤ K2)
  product = from1 nonneg (search (signed, # (f.low *ℤ K2 +ℤ f.high *ℤ K1), # ((f.low +ℤ f.high) *ℤ K1 *ℤ K2)) depth 30) (omega arith)
    where
      nonneg : pos 0 ≤ℤ ((f.low +ℤ f.high) *ℤ K1 *ℤ K2)
      nonneg = no_less (search ranges depth 20) tt

  pub face_k_in : In (pos 0) (pos most_fluid_k) (face_k_of f K1 K2)
  unfolding face_k_of
  face_k_in =
      let zero_one : pos 0 ≤ℤ pos 1 = le_z_yes tt in
      record {
        low = floor-≥ ((f.low +ℤ f.high) *ℤ K1 *ℤ K2) (f.low *ℤ K2 +ℤ f.high *ℤ K1) (pos 0) face_divisor product;
        high =
            floor-≤ ((f.low +ℤ f.high) *ℤ K1 *ℤ K2) (f.low *ℤ K2 +ℤ f.high *ℤ K1) (pos most_fluid_k) face_divisor
            (dividend f.low f.high (pos most_fluid_k) (≤ℤ_trans zero_one h.low.low) (≤ℤ_trans zero_one h.high.low) (≤ℤ_trans zero_one k.low) (≤ℤ_trans zero_one l.low) k.high l.high);
      }

  -- no more than what both are within
  pub face_k_most : (M : ℤ) → K1 ≤ℤ M → K2 ≤ℤ M → face_k_of f K1 K2 ≤ℤ M
  unfolding face_k_of
  face_k_most M p q =
      let zero_one : pos 0 ≤ℤ pos 1 = le_z_yes tt in
      floor-≤ ((f.low +ℤ f.high) *ℤ K1 *ℤ K2) (f.low *ℤ K2 +ℤ f.high *ℤ K1) M face_divisor
      (dividend f.low f.high M (≤ℤ_trans zero_one h.low.low) (≤ℤ_trans zero_one h.high.low) (≤ℤ_trans zero_one k.low) (≤ℤ_trans zero_one l.low) p q)

-- two blocks with one K: Kf is that K, whatever the widths
pub face_k_equal : (f : Face) (K : ℤ) → FaceIn f → In (pos 1) (pos most_fluid_k) K → face_k_of f K K ≡ K
unfolding face_k_of
face_k_equal f K h k = ap (λ z. floor_of z (f.low *ℤ K +ℤ f.high *ℤ K)) (turn f.low f.high) ∙ floor_mul K (f.low *ℤ K +ℤ f.high *ℤ K) (face_divisor f K K h k k)
  where
    turn : (a b : ℤ) → (a +ℤ b) *ℤ K *ℤ K ≡ K *ℤ (a *ℤ K +ℤ b *ℤ K)
    turn a b = ring (a ∷ b ∷ K ∷ []) (search polynomials depth 40) (search polynomials depth 40) tt

-- ---- conductance

module _ (f : Face) (K : ℤ) (h : FaceIn f) (k : In (pos 0) (pos most_fluid_k) K) where
  -- a thicker face conducts no less
  pub conductance_mono : (B C : ℤ) → B ≤ℤ C → conductance_of f K B ≤ℤ conductance_of f K C
  unfolding conductance_of
  conductance_mono B C l =
      floor_mono (pos 2 *ℤ K *ℤ B *ℤ f.across) (pos 2 *ℤ K *ℤ C *ℤ f.across) ((f.low +ℤ f.high) *ℤ pos ticks) divisor
      (subst (λ z. z ≤ℤ (pos 2 *ℤ K *ℤ C *ℤ f.across)) (turn B) (subst (λ z. ((pos 2 *ℤ K *ℤ f.across) *ℤ B) ≤ℤ z) (turn C) (mul_mono (pos 2 *ℤ K *ℤ f.across) B C factor l)))
    where
      turn : (B : ℤ) → (pos 2 *ℤ K *ℤ f.across) *ℤ B ≡ pos 2 *ℤ K *ℤ B *ℤ f.across
      turn B = ring (K ∷ B ∷ f.across ∷ []) (search polynomials depth 40) (search polynomials depth 40) tt

      divisor : pos 1 ≤ℤ ((f.low +ℤ f.high) *ℤ pos ticks)
      divisor = no_less (search ranges depth 20) tt

      factor : pos 0 ≤ℤ (pos 2 *ℤ K *ℤ f.across)
      factor = no_less (search ranges depth 20) tt

  pub conductance_nonneg : (B : ℤ) → In (pos 0) (pos most_thickness) B → pos 0 ≤ℤ conductance_of f K B
  unfolding conductance_of
  conductance_nonneg B l = no_less (search ranges depth 20) tt

-- ---- face thickness

-- a tip is no thicker than the block that holds the fluid
pub tip_in : (m La Ba : ℤ) (p : Behind) → In (pos 0) m Ba → pos 1 ≤ℤ La → pos 0 ≤ℤ p.width → In (pos 0) m (tip_of La Ba p)
unfolding tip_of
tip_in m La Ba p h l w = go (lt_z (pos 0) p.thickness)
  where
    D : ℤ
    D = max_ℤ (pos 0) (p.thickness -ℤ Ba)

    q : ℤ
    q = floor_of (D *ℤ La) (p.width +ℤ La)

    lost : pos 0 ≤ℤ q
    lost =
        floor-≥ (D *ℤ La) (p.width +ℤ La) (pos 0) (from2 w l (search (signed, # p.width, # La) depth 30) (omega arith))
        (from1 (mul_nonneg D La (max_ℤ_l (pos 0) (p.thickness -ℤ Ba)) (≤ℤ_trans (le_z_yes tt) l)) (search (signed, # p.width, # La, # D) depth 30) (omega arith))

    go : (b : Bool) → In (pos 0) m (cond b (max_ℤ (pos 0) (Ba -ℤ q)) (pos 0))
    go true =
        record {
          low = max_ℤ_l (pos 0) (Ba -ℤ q);
          high = max_ℤ-≤ (pos 0) (Ba -ℤ q) m (≤ℤ_trans h.low h.high) (≤ℤ_trans (from1 lost (search (signed, # Ba, # q) depth 30) (omega arith)) h.high);
        }
    go false = record { low = ≤ℤ_refl (pos 0); high = ≤ℤ_trans h.low h.high }

-- a face of which only the low, or only the high side holds the fluid is a tip
pub tip_low : (f : Face) (B1 B2 : ℤ) (p : Behind) → lt_z (pos 0) B1 ≡ true → lt_z (pos 0) B2 ≡ false → face_thickness_of f B1 B2 p ≡ tip_of f.low B1 p
unfolding face_thickness_of
tip_low f B1 B2 p a b = rw (a, b)

pub tip_high : (f : Face) (B1 B2 : ℤ) (p : Behind) → lt_z (pos 0) B1 ≡ false → lt_z (pos 0) B2 ≡ true → face_thickness_of f B1 B2 p ≡ tip_of f.high B2 p
unfolding face_thickness_of
tip_high f B1 B2 p a b = rw (a, b)

-- a face is no thicker than the thicker of its blocks
pub face_thickness_in : (m : ℤ) (f : Face) (B1 B2 : ℤ) (p : Behind) → FaceIn f → BehindIn p → In (pos 0) m B1 → In (pos 0) m B2 → In (pos 0) m (face_thickness_of f B1 B2 p)
unfolding face_thickness_of
face_thickness_in m f B1 B2 p h b k l = go (lt_z (pos 0) B1) (lt_z (pos 0) B2)
  where
    mean : In (pos 0) m (floor_of (B1 +ℤ B2) (pos 2))
    mean =
        record {
          low = floor-≥ (B1 +ℤ B2) (pos 2) (pos 0) (le_z_yes tt) (from2 k.low l.low (search (signed, # B1, # B2) depth 30) (omega arith));
          high = floor-≤ (B1 +ℤ B2) (pos 2) m (le_z_yes tt) (from2 k.high l.high (search (signed, # B1, # B2, # m) depth 30) (omega arith));
        }

    go : (x y : Bool) → In (pos 0) m (cond x (cond y (floor_of (B1 +ℤ B2) (pos 2)) (tip_of f.low B1 p)) (cond y (tip_of f.high B2 p) (pos 0)))
    go true true = mean
    go true false = tip_in m f.low B1 p k h.low.low b.width.low
    go false true = tip_in m f.high B2 p l h.high.low b.width.low
    go false false = record { low = ≤ℤ_refl (pos 0); high = ≤ℤ_trans k.low k.high }

-- ---- a face with its two sides

module _ (f : Face) (a b : Side) (p : Behind) (h : FaceIn f) (k : SideIn a) (l : SideIn b) (q : BehindIn p) where
  pub through_k : In (pos 0) (pos most_fluid_k) (face_k_of f a.k b.k)
  through_k = face_k_in f a.k b.k h k.k l.k

  pub through_thickness : In (pos 0) (pos most_thickness) (face_thickness_of f a.thickness b.thickness p)
  through_thickness = face_thickness_in (pos most_thickness) f a.thickness b.thickness p h q k.thickness l.thickness

  pub through_nonneg : pos 0 ≤ℤ face_conductance_of f a b p
  unfolding face_conductance_of
  through_nonneg = conductance_nonneg f (face_k_of f a.k b.k) h through_k (face_thickness_of f a.thickness b.thickness p) through_thickness

  -- The actual conductance never exceeds the one of refusal 10, "worked out with the greater aquifer thickness of the two blocks".
  pub through_most : (t u : ℤ) → a.thickness ≤ℤ t → b.thickness ≤ℤ u → face_conductance_of f a b p ≤ℤ conductance_of f (face_k_of f a.k b.k) (max_ℤ t u)
  unfolding face_conductance_of
  through_most t u x y =
      conductance_mono f (face_k_of f a.k b.k) h through_k (face_thickness_of f a.thickness b.thickness p) (max_ℤ t u)
      (face_thickness_in (max_ℤ t u) f a.thickness b.thickness p h q
      (record { low = k.thickness.low; high = ≤ℤ_trans x (max_ℤ_l t u) })
      (record { low = l.thickness.low; high = ≤ℤ_trans y (max_ℤ_r t u) })).high

  pub lateral_in : face_conductance_of f a b p ≤ℤ pos most_conductance → Abs most_flow (lateral_of f a b p)
  unfolding lateral_of
  lateral_in m =
      leaving_in a.thickness b.thickness (litres_of (face_conductance_of f a b p) (a.head -ℤ b.head))
      (litres_in (face_conductance_of f a b p) (a.head -ℤ b.head) (record { low = through_nonneg; high = m }) (within (search ranges depth 20) tt tt))
