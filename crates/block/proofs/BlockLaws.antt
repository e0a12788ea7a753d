-- What callers cite of a block: levels in their order, thicknesses that are not negative and add up, bounds of every number, shares that add
-- up to the pumpage. Assumes nothing.
use mathlib.Core.Bool.{Bool, ◌&&◌, cond, false, not, true, true≢false}
use mathlib.Core.Logic.{⊎_elim}
use mathlib.Core.Path.{◌∙◌, ◌≡◌, ap, refl, subst, sym}
use Prim.Native.Nat.{suc, zero, ℕ}
use native.Mathlib.Omega.{arith}
use lib.IntN.{◌*ℤ◌, ◌+ℤ◌, ◌-ℤ◌, neg_ℤ, pos, ℤ}
use lib.Signed.{◌≤ℤ◌, le_z_yes, lt_z, ≤ℤ_refl}
use Rattle.whole.specs.Inner.{Abs, In}
use Rattle.whole.specs.Whole.{clamp_of, cut_of, is_zero, max_ℤ, min_ℤ}
use Rattle.whole.proofs.DivisionLaws.{cut_mono, cut_mul, cut_nonneg}
use Rattle.whole.proofs.LinearLaws.{#, from1, from2, from3, linear, signed}
use Rattle.whole.proofs.OrderLaws.{<ℤ-≤ℤ, clamp_above, clamp_below, max_ℤ_l, max_ℤ_r, max_ℤ-≤, min_ℤ_r, mul_anti, mul_mono, mul_nonneg, one_least, zero_is, ≤ℤ_antisymm, ≤ℤ_or-<, ≤ℤ_trans}
use Rattle.whole.proofs.RangeLaws.{leaf, lt_false, lt_true, ranges, within}
use Rattle.whole.proofs.SearchLaws.{holds}
use Rattle.grid.specs.declared.Grid.{Grid}
use Rattle.grid.specs.Inner.{Termed}
use Rattle.slots.specs.declared.Block.{Block}
use Rattle.slots.specs.Inner.{Ends}
use Rattle.slots.specs.Units.{most_pumpage, most_thickness}
use Rattle.block.specs.declared.Fluids.{Fluids}
use Rattle.block.specs.declared.geometry.Levels.{Levels}
use Rattle.block.specs.Density.{interface_of}
use Rattle.block.specs.Inner.{EachIn, Level, Levelled, Thick, levels_on, most_area, most_fluid_k, most_volume}
use Rattle.block.specs.Fluids.{fluids_of, in_fluid, together_of}
use Rattle.block.specs.Geometry.{aquifer_top_of, has_water_table, held_of, k_of, levels_of, saturated_top_of, thicknesses_of}
use Rattle.block.specs.Storage.{storage_of, volume_of}
use Rattle.block.specs.Wells.{fresh_share_of, is_dry, length_within, lengths_of, shares_of}
use Rattle.block.proofs.DensityLaws.{salt_k_least, salt_k_most}

-- ---- levels

module _ (b : Block) (e : Ends b) where
  -- an aquifer top is a level, above the base
  pub aquifer_top_in : Level (aquifer_top_of b)
  unfolding aquifer_top_of
  aquifer_top_in = within (search ranges depth 20) tt tt

  pub aquifer_top_above : b.base ≤ℤ aquifer_top_of b
  unfolding aquifer_top_of
  aquifer_top_above = from1 e.thickness.low (search (signed, # b.base, # b.thickness) depth 30) (omega arith)

  -- the saturated top lies from the base to the aquifer top
  pub saturated_above : (g : Grid) (top : Bool) (h : Fluids) → b.base ≤ℤ saturated_top_of g b top h
  unfolding saturated_top_of
  saturated_above g top h = go (has_water_table g top)
    where
      go : (t : Bool) → b.base ≤ℤ cond t (clamp_of b.base (aquifer_top_of b) h.fresh) (aquifer_top_of b)
      go true = clamp_above b.base (aquifer_top_of b) h.fresh
      go false = aquifer_top_above

  pub saturated_below : (g : Grid) (top : Bool) (h : Fluids) → saturated_top_of g b top h ≤ℤ aquifer_top_of b
  unfolding saturated_top_of
  saturated_below g top h = go (has_water_table g top)
    where
      go : (t : Bool) → cond t (clamp_of b.base (aquifer_top_of b) h.fresh) (aquifer_top_of b) ≤ℤ aquifer_top_of b
      go true = clamp_below b.base (aquifer_top_of b) h.fresh aquifer_top_above
      go false = ≤ℤ_refl (aquifer_top_of b)

-- three levels in their order, no further apart than an aquifer is thick
module _ (l : Levels) (most : ℤ) (lowest : Level l.base) (highest : Level most) (thick : In (pos 0) (pos most_thickness) (most -ℤ l.base)) where
  in_order : l.base ≤ℤ l.interface → l.interface ≤ℤ l.top → l.top ≤ℤ most → Levelled l
  in_order p q r =
      record {
        base = lowest;
        interface = record { low = ≤ℤ_trans lowest.low p; high = ≤ℤ_trans q (≤ℤ_trans r highest.high) };
        top = record { low = ≤ℤ_trans lowest.low (≤ℤ_trans p q); high = ≤ℤ_trans r highest.high };
        of_fresh = record { low = from1 q (search (signed, # l.interface, # l.top) depth 30) (omega arith); high = from3 p r thick.high (search (signed, # l.base, # l.interface, # l.top, # most) depth 30) (omega arith) };
        of_salt = record { low = from1 p (search (signed, # l.base, # l.interface) depth 30) (omega arith); high = from3 q r thick.high (search (signed, # l.base, # l.interface, # l.top, # most) depth 30) (omega arith) };
      }

pub levels_levelled : (g : Grid) (b : Block) (top : Bool) (h : Fluids) → Ends b → Levelled (levels_of g b top h)
unfolding levels_of held_of aquifer_top_of
levels_levelled g b top h e =
    in_order (levels_of g b top h) (aquifer_top_of b) (within (search (ranges, leaf e.base) depth 20) tt tt) (aquifer_top_in b e) (apart b e)
    (clamp_above b.base (saturated_top_of g b top h) (interface_of g h))
    (clamp_below b.base (saturated_top_of g b top h) (interface_of g h) (saturated_above b e g top h))
    (saturated_below b e g top h)
  where
    apart : (b : Block) → Ends b → In (pos 0) (pos most_thickness) (aquifer_top_of b -ℤ b.base)
    apart b e =
        let t = e.thickness in
        record {
          low = from1 t.low (search (signed, # b.base, # b.thickness) depth 30) (omega arith);
          high = from1 t.high (search (signed, # b.base, # b.thickness) depth 30) (omega arith);
        }

-- "Fresh thickness Bf", "salt thickness Bs": not negative, and together the saturated thickness
pub thicknesses_thick : (l : Levels) → Levelled l → Thick (thicknesses_of l)
unfolding thicknesses_of
thicknesses_thick l h = record { of_fresh = h.of_fresh; of_salt = h.of_salt }

pub thicknesses_add : (l : Levels) → (thicknesses_of l).fresh +ℤ (thicknesses_of l).salt ≡ l.top -ℤ l.base
unfolding thicknesses_of
thicknesses_add l = linear (search (signed, # l.base, # l.interface, # l.top) depth 30) (omega arith)

-- no fluid is thicker than the aquifer
between : (base interface top thickness : ℤ) → pos 0 ≤ℤ (top -ℤ interface) → pos 0 ≤ℤ (interface -ℤ base) → top ≤ℤ (base +ℤ thickness) → ((top -ℤ interface) ≤ℤ thickness) × ((interface -ℤ base) ≤ℤ thickness)
between base interface top thickness h k m = (
  from3 h k m (search (signed, # base, # interface, # top, # thickness) depth 40) (omega arith),
  from3 h k m (search (signed, # base, # interface, # top, # thickness) depth 40) (omega arith),
)

pub thickness_within : (g : Grid) (b : Block) (top : Bool) (h : Fluids) (fluid : ℕ) → Ends b → in_fluid (thicknesses_of (levels_of g b top h)) fluid ≤ℤ b.thickness
unfolding thicknesses_of levels_of aquifer_top_of
thickness_within g b top h zero e =
    let levelled = levels_levelled g b top h e in
    (between b.base (held_of g b top h) (saturated_top_of g b top h) b.thickness levelled.of_fresh.low levelled.of_salt.low (saturated_below b e g top h)).0
thickness_within g b top h (suc n) e =
    let levelled = levels_levelled g b top h e in
    (between b.base (held_of g b top h) (saturated_top_of g b top h) b.thickness levelled.of_fresh.low levelled.of_salt.low (saturated_below b e g top h)).1

-- levels with equal fields
pub levels_same : {a b c x y z : ℤ} → a ≡ x → b ≡ y → c ≡ z → ◌≡◌ {A = Levels} (record { base = a; interface = b; top = c }) (record { base = x; interface = y; top = z })
levels_same p q r = λ i. record { base = p i; interface = q i; top = r i }

pub levels_base : (g : Grid) (b : Block) (top : Bool) (h : Fluids) → b.base ≡ (levels_of g b top h).base
unfolding levels_of
levels_base g b top h = refl

-- a block stands on its base as high as its waters are thick
pub levels_back : (l : Levels) → levels_on l.base (thicknesses_of l) ≡ l
unfolding levels_on thicknesses_of
levels_back l = λ k. record { base = l.base; interface = up l.base l.interface k; top = (ap (λ z. z +ℤ (l.top -ℤ l.interface)) (up l.base l.interface) ∙ up l.interface l.top) k }
  where
    up : (a b : ℤ) → a +ℤ (b -ℤ a) ≡ b
    up a b = linear (search (signed, # a, # b) depth 30) (omega arith)

-- ---- K in a fluid, of an active block

pub k_in_range : (g : Grid) (b : Block) (fluid : ℕ) → Termed g → Ends b → pos 1 ≤ℤ b.k → In (pos 1) (pos most_fluid_k) (k_of g b fluid)
k_in_range g b zero t e h = record { low = h; high = ≤ℤ_trans e.k.high (le_z_yes tt) }
k_in_range g b (suc n) t e h =
    let k = b.k in
    record {
      low = ≤ℤ_trans h (salt_k_least g k t e.k.low);
      high = ≤ℤ_trans (salt_k_most g k t e.k.low) (from1 e.k.high (search (signed, # k) depth 30) (omega arith));
    }

-- ---- storage

pub volume_in : (b : Block) (area thickness : ℤ) → Ends b → In (pos 0) (pos most_area) area → In (pos 0) (pos most_thickness) thickness → In (pos 0) (pos most_volume) (volume_of b area thickness)
unfolding volume_of
volume_in b area thickness e a t = within (search ranges depth 20) tt tt

pub storage_in : (g : Grid) (b : Block) (area new old : ℤ) → Termed g → Ends b → In (pos 0) (pos most_area) area → In (pos 0) (pos most_thickness) new → In (pos 0) (pos most_thickness) old → Abs most_volume (storage_of g b area new old)
unfolding storage_of
storage_in g b area new old t e a n o = within (search (ranges, leaf (volume_in b area new e a n), leaf (volume_in b area old e a o)) depth 20) tt tt

-- ---- wells

-- a screen's length between two levels is no more than lies between them
length_in : (b : Block) (low high : ℤ) → In (pos 0) (pos most_thickness) (high -ℤ low) → In (pos 0) (pos most_thickness) (length_within b low high)
unfolding length_within
length_in b low high h =
    let t = min_ℤ b.screen_top high in
    let s = max_ℤ b.screen_bottom low in
    record {
      low = max_ℤ_l (pos 0) (t -ℤ s);
      high = max_ℤ-≤ (pos 0) (t -ℤ s) (pos most_thickness) (le_z_yes tt) (from3 (min_ℤ_r b.screen_top high) (max_ℤ_r b.screen_bottom low) h.high (search (signed, # t, # s, # low, # high) depth 30) (omega arith));
    }

pub lengths_thick : (b : Block) (l : Levels) → Levelled l → Thick (lengths_of b l)
unfolding lengths_of
lengths_thick b l h = record { of_fresh = length_in b l.interface l.top h.of_fresh; of_salt = length_in b l.base l.interface h.of_salt }

-- a part of a number, cut, lies between 0 and the number
module _ (p f w : ℤ) (low : pos 0 ≤ℤ f) (high : f ≤ℤ w) (some : pos 1 ≤ℤ w) where
  part_below : pos 0 ≤ℤ p → (pos 0 ≤ℤ cut_of (p *ℤ f) w) × (cut_of (p *ℤ f) w ≤ℤ p)
  part_below h = (cut_nonneg (p *ℤ f) w (mul_nonneg p f h low) some, subst (λ x. cut_of (p *ℤ f) w ≤ℤ x) (cut_mul p w some) (cut_mono (p *ℤ f) (p *ℤ w) w some (mul_mono p f w h high)))

  part_above : p ≤ℤ pos 0 → (p ≤ℤ cut_of (p *ℤ f) w) × (cut_of (p *ℤ f) w ≤ℤ pos 0)
  part_above h = (
    subst (λ x. x ≤ℤ cut_of (p *ℤ f) w) (cut_mul p w some) (cut_mono (p *ℤ w) (p *ℤ f) w some (mul_anti p f w h high)),
    subst (λ x. cut_of (p *ℤ f) w ≤ℤ x) (cut_mul (pos 0) w some) (cut_mono (p *ℤ f) (pos 0 *ℤ w) w some (from1 (mul_anti p (pos 0) f h low) (search (signed, # p, # f, # w) depth 30) (omega arith))),
  )

  -- and so does the rest
  pub parts_in : Abs most_pumpage p → Abs most_pumpage (cut_of (p *ℤ f) w) × Abs most_pumpage (p -ℤ cut_of (p *ℤ f) w)
  parts_in k = ⊎_elim (λ h. between k (part_below h)) (λ h. across k (part_above (<ℤ-≤ℤ h))) (≤ℤ_or-< (pos 0) p)
    where
      c : ℤ
      c = cut_of (p *ℤ f) w

      between : Abs most_pumpage p → (pos 0 ≤ℤ c) × (c ≤ℤ p) → Abs most_pumpage c × Abs most_pumpage (p -ℤ c)
      between k h = (
        record { low = ≤ℤ_trans (le_z_yes tt) h.0; high = ≤ℤ_trans h.1 k.high },
        record { low = from1 h.1 (search (signed, # p, # c) depth 30) (omega arith); high = from2 h.0 k.high (search (signed, # p, # c) depth 30) (omega arith) },
      )

      across : Abs most_pumpage p → (p ≤ℤ c) × (c ≤ℤ pos 0) → Abs most_pumpage c × Abs most_pumpage (p -ℤ c)
      across k h = (
        record { low = ≤ℤ_trans k.low h.0; high = ≤ℤ_trans h.1 (le_z_yes tt) },
        record { low = from2 h.1 k.low (search (signed, # p, # c) depth 30) (omega arith); high = from1 h.0 (search (signed, # p, # c) depth 30) (omega arith) },
      )

-- a screen's fresh length is part of its wetted length
pub fresh_part : (lengths : Fluids) → Thick lengths → lengths.fresh ≤ℤ together_of lengths
fresh_part lengths t = from1 t.of_salt.low (search (signed, # lengths.fresh, # lengths.salt) depth 30) (omega arith)

-- the shares, by whether the screen is wet
abbrev shares_if : Block → Fluids → Bool → Fluids
shares_if b lengths wet = cond wet (fluids_of (fresh_share_of b lengths) (b.pumpage -ℤ fresh_share_of b lengths)) (fluids_of (pos 0) (pos 0))

pub shares_in : (b : Block) (lengths : Fluids) → Ends b → Thick lengths → EachIn (neg_ℤ (pos most_pumpage)) (pos most_pumpage) (shares_of b lengths)
unfolding shares_of fresh_share_of
shares_in b lengths e t = go (lt_z (pos 0) (together_of lengths)) refl
  where
    go : (wet : Bool) → lt_z (pos 0) (together_of lengths) ≡ wet → EachIn (neg_ℤ (pos most_pumpage)) (pos most_pumpage) (shares_if b lengths wet)
    go true h =
        let parts = parts_in b.pumpage lengths.fresh (together_of lengths) t.of_fresh.low (fresh_part lengths t) (one_least (lt_true (pos 0) (together_of lengths) h)) e.pumpage in
        record { of_fresh = parts.0; of_salt = parts.1 }
    go false h = record { of_fresh = within (search ranges depth 20) tt tt; of_salt = within (search ranges depth 20) tt tt }

wetted_low : (lengths : Fluids) → Thick lengths → pos 0 ≤ℤ together_of lengths
wetted_low lengths t = from2 t.of_fresh.low t.of_salt.low (search (signed, # lengths.fresh, # lengths.salt) depth 30) (omega arith)

zero_holds : (z : ℤ) → z ≤ℤ pos 0 → pos 0 ≤ℤ z → is_zero z ≡ true
zero_holds z h k = rw (≤ℤ_antisymm h k)

-- a well that is not dry takes its pumpage
pub shares_add : (b : Block) (lengths : Fluids) → Thick lengths → is_dry b lengths ≡ false → (shares_of b lengths).fresh +ℤ (shares_of b lengths).salt ≡ b.pumpage
unfolding shares_of is_dry
shares_add b lengths t d = go (lt_z (pos 0) (together_of lengths)) refl
  where
    unpumped : (z : Bool) → is_zero b.pumpage ≡ z → not z && true ≡ false → b.pumpage ≡ pos 0
    unpumped true e h = zero_is b.pumpage (holds e)
    unpumped false e h = absurd (true≢false h)

    go : (wet : Bool) → lt_z (pos 0) (together_of lengths) ≡ wet → (shares_if b lengths wet).fresh +ℤ (shares_if b lengths wet).salt ≡ b.pumpage
    go true h = linear (search (signed, # b.pumpage, # (fresh_share_of b lengths)) depth 30) (omega arith)
    go false h = sym (unpumped (is_zero b.pumpage) refl (rw (zero_holds (together_of lengths) (lt_false (pos 0) (together_of lengths) h) (wetted_low lengths t)) at d))
