-- A case that is not refused is well formed, and the other way round, and what follows for a face's flow. Assumes nothing.
use mathlib.Core.Bool.{Bool, ◌||◌, false, true}
use mathlib.Core.List.{[], ◌++◌, ◌∷◌}
use mathlib.Core.Path.{◌∙◌, ◌≡◌, ap, refl}
use Prim.Native.Nat.{◌*◌, ◌+◌, ◌<◌, ◌≤◌, suc, zero, ℕ}
use native.Mathlib.Omega.{arith}
use lib.Dec.{T, leb}
use lib.IntN.{pos, ℤ}
use lib.Signed.{◌≤ℤ◌, lt_z}
use Rattle.std.specs.Prelude.{None}
use Rattle.whole.specs.Search.{found_of}
use Rattle.whole.proofs.OrderLaws.{≤ℤ_trans}
use Rattle.whole.proofs.RangeLaws.{lt_false, not_above}
use Rattle.whole.proofs.SearchLaws.{first_none, neither, none_first, not_left, not_right, not_second, second_not, true_is}
use Rattle.grid.specs.Judging.{counts_hold}
use Rattle.grid.specs.Place.{blocks_of, stride_of}
use Rattle.grid.specs.Units.{next_row}
use Rattle.slices.specs.declared.Case.{Case as Lent}
use Rattle.slices.specs.Cases.{case_in}
use Rattle.slices.specs.Refusals.{Refusal}
use Rattle.slices.specs.Slices.{Case, contents_of, first_refusal, lent_of, none, or_else, room_holds, shape_of, unless}
use Rattle.slices.specs.Inner.{Judged, judged_lent, judged_of, reaches_over}
use Rattle.slices.proofs.SlicesLaws.{blames_none, first_append, first_goes_on, first_stays, here, judged_apart, judged_stands, later, none_apart, none_together, or_none, stands_judged}
use Rattle.block.specs.Fluids.{fresh, salt}
use Rattle.block.specs.Geometry.{aquifer_top_of, k_of}
use Rattle.flow.specs.declared.lateral.Behind.{Behind}
use Rattle.flow.specs.declared.lateral.Side.{Side}
use Rattle.flow.specs.Inner.{BehindIn, SideIn}
use Rattle.flow.specs.Lateral.{face_conductance_of}
use Rattle.flow.specs.Litres.{most_conductance, over_area_of}
use Rattle.flow.proofs.LateralLaws.{through_most}
use Rattle.wellformed.specs.Inner.{Conducts, WellFormed}
use Rattle.wellformed.specs.Limits.{above_exceeds, at_fault, block_exceeds, boundary_exceeds, checked_lent, checked_of, either_exceeds, exceeds, face_exceeds, first_at_fault, greatest_of, across_in, limits_of, block_in, overlaps}
use Rattle.wellformed.specs.Links.{active_of, live_of}
use Rattle.wellformed.specs.Widths.{area_of, face_of}
use Rattle.wellformed.proofs.LinksLaws.{live_high, live_low, live_next, live_inside}
use Rattle.wellformed.proofs.WidthsLaws.{face_in}

-- ---- two active blocks and their face

pub conducts : (c : Case) → Judged c → (d i : ℕ) → d ≤ 1 → i < blocks_of c.grid → T (live_of c.grid c.slots d i) → Conducts c.grid (face_of c d i) (block_in c i) (across_in c d i)
conducts c judged d i h l t =
    let low = judged.active i l (live_low c.grid c.slots d i t) in
    let high = judged.active (i + stride_of c.grid d) (live_inside c.grid c.slots d i t judged.counted l) (live_high c.grid c.slots d i t) in
    record {
      termed = judged.termed;
      face = face_in c judged i l d h (live_next c.grid c.slots d i t);
      low = low.ends;
      high = high.ends;
      low_some = low.k_some;
      high_some = high.k_some;
    }

-- ---- tests that did not find a fault

module _ (c : Case) (e : (first_refusal (limits_of c)).number ≡ 0) (i : ℕ) (l : i < blocks_of c.grid) where
  no_fault : (number : ℕ) → first_at_fault c number ≡ 0 → at_fault c number i ≡ false
  unfolding first_at_fault
  no_fault number h = first_none (at_fault c number) (blocks_of c.grid) h i l

  not_9 : overlaps c i ≡ false
  unfolding limits_of at_fault
  not_9 = no_fault 9 (blames_none 9 (first_at_fault c 9) (omega arith) (search (here, later)) e)

  not_10 : block_exceeds c i ≡ false
  unfolding limits_of at_fault
  not_10 = no_fault 10 (blames_none 10 (first_at_fault c 10) (omega arith) (search (here, later)) e)

  -- 10, part by part
  parts : T (active_of c.slots i) → face_exceeds c 0 i || (face_exceeds c 1 i || (above_exceeds c i || boundary_exceeds c i)) ≡ false
  unfolding block_exceeds
  parts a = not_second (active_of c.slots i) (face_exceeds c 0 i || (face_exceeds c 1 i || (above_exceeds c i || boundary_exceeds c i))) not_10 a

  face_not : (d : ℕ) → d ≤ 1 → T (active_of c.slots i) → face_exceeds c d i ≡ false
  face_not zero h a = not_left (face_exceeds c 0 i) (face_exceeds c 1 i || (above_exceeds c i || boundary_exceeds c i)) (parts a)
  face_not (suc zero) h a = not_left (face_exceeds c 1 i) (above_exceeds c i || boundary_exceeds c i) (not_right (face_exceeds c 0 i) (face_exceeds c 1 i || (above_exceeds c i || boundary_exceeds c i)) (parts a))
  face_not (suc (suc d)) h a = absurd (omega arith)

  rest : T (active_of c.slots i) → above_exceeds c i || boundary_exceeds c i ≡ false
  rest a = not_right (face_exceeds c 1 i) (above_exceeds c i || boundary_exceeds c i) (not_right (face_exceeds c 0 i) (face_exceeds c 1 i || (above_exceeds c i || boundary_exceeds c i)) (parts a))

  within_stacked : T (live_of c.grid c.slots 2 i) → aquifer_top_of (block_in c i) ≤ℤ (across_in c 2 i).base
  unfolding overlaps
  within_stacked t = lt_false (across_in c 2 i).base (aquifer_top_of (block_in c i)) (not_second (live_of c.grid c.slots 2 i) (lt_z (across_in c 2 i).base (aquifer_top_of (block_in c i))) not_9 t)

  within_lateral : (d fluid : ℕ) → d ≤ 1 → T (live_of c.grid c.slots d i) → greatest_of c.grid (face_of c d i) (block_in c i) (across_in c d i) fluid ≤ℤ pos most_conductance
  unfolding face_exceeds either_exceeds greatest_of
  within_lateral d fluid h t = go fluid
    where
      of_fluid : ℕ → ℤ
      of_fluid fluid = greatest_of c.grid (face_of c d i) (block_in c i) (across_in c d i) fluid

      neither : exceeds (of_fluid fresh) || exceeds (of_fluid salt) ≡ false
      neither = not_second (live_of c.grid c.slots d i) (exceeds (of_fluid fresh) || exceeds (of_fluid salt)) (face_not d h (live_low c.grid c.slots d i t)) t

      go : (fluid : ℕ) → of_fluid fluid ≤ℤ pos most_conductance
      go zero = lt_false (pos most_conductance) (of_fluid fresh) (not_left (exceeds (of_fluid fresh)) (exceeds (of_fluid salt)) neither)
      go (suc n) = lt_false (pos most_conductance) (of_fluid salt) (not_right (exceeds (of_fluid fresh)) (exceeds (of_fluid salt)) neither)

  within_above : T (live_of c.grid c.slots 2 i) → over_area_of (block_in c i).leakance (area_of c i) ≤ℤ pos most_conductance
  unfolding above_exceeds
  within_above t =
      let z = over_area_of (block_in c i).leakance (area_of c i) in
      lt_false (pos most_conductance) z (not_second (live_of c.grid c.slots 2 i) (exceeds z) (not_left (above_exceeds c i) (boundary_exceeds c i) (rest (live_low c.grid c.slots 2 i t))) t)

  within_boundary : T (active_of c.slots i) → over_area_of (block_in c i).boundary_leakance (area_of c i) ≤ℤ pos most_conductance
  unfolding boundary_exceeds
  within_boundary a = lt_false (pos most_conductance) (over_area_of (block_in c i).boundary_leakance (area_of c i)) (not_right (above_exceeds c i) (boundary_exceeds c i) (rest a))

-- The law that a case which is not refused is well formed.
pub checked_stands : (c : Case) → (checked_of c).number ≡ 0 → WellFormed c
checked_stands c e =
    let h = or_none (judged_of c) (first_refusal (limits_of c)) (rw (first_append (shape_of c ++ contents_of c) (limits_of c)) at e) in
    record {
      judged = judged_stands c h.0;
      stacked = λ i l t. within_stacked c h.1 i l t;
      lateral = λ d i fluid k l t. within_lateral c h.1 i l d fluid k t;
      leakage = λ i l t. within_above c h.1 i l t;
      boundary = λ i l a. within_boundary c h.1 i l a;
    }

-- And of one that is judged, where 9 and 10 found no block.
pub limits_passed : (c : Case) → Judged c → found_of (first_at_fault c 9) ≡ None → found_of (first_at_fault c 10) ≡ None → WellFormed c
unfolding limits_of first_refusal or_else
limits_passed c judged h k =
    checked_stands c (none_together (shape_of c ++ contents_of c) (limits_of c) (stands_judged c judged) (rw (found_none (first_at_fault c 9) h, found_none (first_at_fault c 10) k) refl))
  where
    found_none : (n : ℕ) → found_of n ≡ None → n ≡ 0
    found_none zero e = refl
    found_none (suc n) e = cc

-- ---- and the other way round: a well-formed case is not refused

module _ (c : Case) (formed : WellFormed c) (i : ℕ) (l : i < blocks_of c.grid) where
  apart : overlaps c i ≡ false
  unfolding overlaps
  apart = second_not (live_of c.grid c.slots 2 i) (lt_z (across_in c 2 i).base (aquifer_top_of (block_in c i))) (λ t. not_above (across_in c 2 i).base (aquifer_top_of (block_in c i)) (formed.stacked i l t))

  face_below : (d : ℕ) → d ≤ next_row → face_exceeds c d i ≡ false
  unfolding face_exceeds either_exceeds
  face_below d h = second_not (live_of c.grid c.slots d i) (either_exceeds c.grid (face_of c d i) (block_in c i) (across_in c d i)) (λ t. neither _ _ (not_above _ _ (formed.lateral d i fresh h l t)) (not_above _ _ (formed.lateral d i salt h l t)))

  above_below : above_exceeds c i ≡ false
  unfolding above_exceeds
  above_below = second_not (live_of c.grid c.slots 2 i) (exceeds (over_area_of (block_in c i).leakance (area_of c i))) (λ t. not_above _ _ (formed.leakage i l t))

  below : block_exceeds c i ≡ false
  unfolding block_exceeds boundary_exceeds
  below =
      second_not (active_of c.slots i) (face_exceeds c 0 i || (face_exceeds c 1 i || (above_exceeds c i || boundary_exceeds c i)))
      (λ t. neither _ _ (face_below 0 (omega arith)) (neither _ _ (face_below 1 (omega arith)) (neither _ _ above_below (not_above _ _ (formed.boundary i l t)))))

-- 9 and 10 refuse nothing where no block is at fault
limits_pass : (c : Case) → ((i : ℕ) → i < blocks_of c.grid → overlaps c i ≡ false) → ((i : ℕ) → i < blocks_of c.grid → block_exceeds c i ≡ false) → (first_refusal (limits_of c)).number ≡ 0
unfolding limits_of first_at_fault at_fault first_refusal or_else
limits_pass c h k = rw (none_first (overlaps c) (blocks_of c.grid) h, none_first (block_exceeds c) (blocks_of c.grid) k) refl

pub stands_checked : (c : Case) → WellFormed c → (checked_of c).number ≡ 0
stands_checked c formed = none_together (shape_of c ++ contents_of c) (limits_of c) (stands_judged c formed.judged) (limits_pass c (apart c formed) (below c formed))

-- ---- more is lent than the case itself

-- nothing more
pub lent_reaches : (c : Case) → checked_lent c true ≡ checked_of c
unfolding lent_of shape_of first_refusal or_else
lent_reaches c = refl

-- or what is long enough
pub lent_long : (c : Case) (reaches : Bool) → T reaches → checked_lent c reaches ≡ checked_of c
lent_long c reaches t = ap (checked_lent c) (true_is {b = reaches} t) ∙ lent_reaches c

-- whether it is long enough is asked where the counts are in range: 3 comes first
lent_same : (c : Case) (a b : Bool) → (T (counts_hold c.grid) → a ≡ b) → checked_lent c a ≡ checked_lent c b
unfolding lent_of shape_of first_refusal or_else
lent_same c a b h = go (counts_hold c.grid) h
  where
    checked : Bool → Bool → Refusal
    checked counted reaches = first_refusal ((((unless 3 counted ∷ unless 7 (room_holds c) ∷ []) ++ (unless 7 reaches ∷ [])) ++ contents_of c) ++ limits_of c)

    go : (counted : Bool) → (T counted → a ≡ b) → checked counted a ≡ checked counted b
    go true h = ap (checked true) (h tt)
    go false h = refl

-- so that a slice with `each` numbers to a block is measured by the blocks, alone or beside others
pub lent_reached : (c : Case) (f : Bool → Bool) (each room need : ℕ) → each * blocks_of c.grid ≡ need → checked_lent c (f (reaches_over c.grid each room)) ≡ checked_lent c (f (leb need room))
lent_reached c f each room need e =
    lent_same c (f (reaches_over c.grid each room)) (f (leb need room))
    (λ t. ap f (rw (true_is {b = counts_hold c.grid} t) (ap (λ (n : ℕ). leb n room) e)))

-- where nothing is refused, the case is well formed, and all is long enough
pub lent_stands : (c : Case) (reaches : Bool) → (checked_lent c reaches).number ≡ 0 → WellFormed c × T reaches
lent_stands c reaches e =
    let h = none_apart (lent_of c reaches ++ contents_of c) (limits_of c) e in
    let judged = judged_apart c reaches h.0 in
    (checked_stands c (none_together (shape_of c ++ contents_of c) (limits_of c) judged.0 h.1), judged.1)

-- and the other way round
pub stands_lent : (c : Case) (reaches : Bool) → WellFormed c → T reaches → (checked_lent c reaches).number ≡ 0
stands_lent c reaches formed t = ap (λ r. r.number) (lent_long c reaches t) ∙ stands_checked c formed

-- judged step by step: a refusal by 3, 7, 4, 5 or 6 stays, and where they refuse nothing 9 and 10 decide
module _ (c : Lent) (reaches : Bool) (r : Refusal) where
  pub ranges_refuse : (r.number ≡ 0 → ⊥) → r ≡ judged_lent (case_in c) reaches → r ≡ checked_lent (case_in c) reaches
  ranges_refuse some e = first_stays (lent_of (case_in c) reaches ++ contents_of (case_in c)) (limits_of (case_in c)) r e some

  pub limits_decide : (d : Lent) → d ≡ c → none ≡ judged_lent (case_in c) reaches → r ≡ first_refusal (limits_of (case_in d)) → r ≡ checked_lent (case_in c) reaches
  limits_decide d same e told =
      first_goes_on (lent_of (case_in c) reaches ++ contents_of (case_in c)) (limits_of (case_in c)) none e r refl (rw same at told)

-- In a well-formed case no face conducts beyond the limit, whatever of the two aquifers the fluid fills.
pub face_passes :
    (c : Case) → WellFormed c → (d i fluid : ℕ) → d ≤ next_row → i < blocks_of c.grid → T (live_of c.grid c.slots d i)
    → (a b : Side) (p : Behind) → SideIn a → SideIn b → BehindIn p
    → a.k ≡ k_of c.grid (block_in c i) fluid → b.k ≡ k_of c.grid (across_in c d i) fluid
    → a.thickness ≤ℤ (block_in c i).thickness → b.thickness ≤ℤ (across_in c d i).thickness
    → face_conductance_of (face_of c d i) a b p ≤ℤ pos most_conductance
unfolding greatest_of
face_passes c formed d i fluid h l t a b p k m q x y low high =
    ≤ℤ_trans
    (through_most (face_of c d i) a b p (face_in c formed.judged i l d h (live_next c.grid c.slots d i t)) k m q (block_in c i).thickness (across_in c d i).thickness low high)
    (rw (x, y) (formed.lateral d i fluid h l t))
