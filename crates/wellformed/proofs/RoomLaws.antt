-- What slices are refused with is asked of the numbers that a case needs, and of no room beyond them. Assumes nothing.
use mathlib.Core.Bool.{Bool, ◌&&◌, ◌||◌, cond, false, not, true}
use mathlib.Core.List.{List, [], ◌++◌, ◌∷◌}
use mathlib.Core.Path.{◌∙◌, ◌≡◌, ap, ap₂, refl, subst, sym}
use Prim.Native.Nat.{◌*◌, ◌+◌, ◌<◌, ◌≤◌, suc, zero, ℕ}
use native.Mathlib.Omega.{arith}
use lib.Dec.{T, eqb, ltb→lt}
use lib.IntN.{◌*ℤ◌, pos, ℤ}
use lib.ListN.{get_or}
use lib.Seq.{get_or-drop}
use lib.Signed.{lt_z}
use Rattle.whole.specs.declared.ranges.Range.{Range}
use Rattle.whole.specs.Ranges.{all_within, between, in_range}
use Rattle.whole.proofs.SearchLaws.{every_same, first_same, holds}
use Rattle.grid.specs.declared.Grid.{Grid}
use Rattle.grid.specs.Judging.{counts_hold, terms_hold}
use Rattle.grid.specs.Inner.{Counted}
use Rattle.grid.specs.Place.{blocks_of, has_next, next_of, place_of, stride_of, top_of}
use Rattle.grid.specs.Units.{above, next_column, next_row}
use Rattle.grid.proofs.JudgingLaws.{counts_counted}
use Rattle.grid.proofs.PlaceLaws.{next_inside, place_inside}
use Rattle.slots.specs.Rules.{slots_hold}
use Rattle.slots.specs.Slots.{block_of, is_active, part_of}
use Rattle.slots.specs.Units.{slots_each}
use Rattle.slots.proofs.SlotsLaws.{SameTo, slots_hold_same, slots_same}
use Rattle.slices.specs.Slices.{Case, blaming, case_of, contents_of, fault_of, first_refusal, most_width, refusal, shape_of, unless, widths_hold}
use Rattle.slices.specs.Inner.{Roomy}
use Rattle.slices.proofs.SlicesLaws.{or_first, roomy_room}
use Rattle.block.specs.Geometry.{aquifer_top_of}
use Rattle.flow.specs.Litres.{over_area_of}
use Rattle.wellformed.specs.Limits.{above_exceeds, at_fault, block_exceeds, boundary_exceeds, checked_of, either_exceeds, exceeds, face_exceeds, first_at_fault, across_in, limits_of, block_in, overlaps}
use Rattle.wellformed.specs.Links.{active_of, live_of}
use Rattle.wellformed.specs.Widths.{along_of, area_at, area_of, face_of, width_at}
use Rattle.wellformed.proofs.LinksLaws.{live_next}

-- ---- tests alike

-- the second of two tests is asked only where the first passes
pub and_same : (a b x y : Bool) → a ≡ b → (T a → x ≡ y) → (a && x) ≡ (b && y)
and_same a b x y e h = rw (← e) (go a h)
  where
    go : (a : Bool) → (T a → x ≡ y) → (a && x) ≡ (a && y)
    go true h = h tt
    go false h = refl

-- ---- lists alike in their first n numbers

-- all of them within one pair of ends
pub within_same : (r : Range) (n : ℕ) (s t : List ℤ) → SameTo n s t → all_within r s n ≡ all_within r t n
unfolding all_within
within_same r n s t h = every_same n (λ k. in_range r (get_or s k (pos 0))) (λ k. in_range r (get_or t k (pos 0))) (λ k l. ap (in_range r) (h k l))

-- slots alike up to the last of n blocks are alike in each block's part
part_same : (n i : ℕ) (s t : List ℤ) → SameTo (slots_each * n) s t → i < n → SameTo slots_each (part_of s i) (part_of t i)
part_same n i s t h l k m = get_or-drop (slots_each * i) s k (pos 0) ∙ h (slots_each * i + k) (omega arith) ∙ sym (get_or-drop (slots_each * i) t k (pos 0))

-- one of n blocks
pub block_same : (n i : ℕ) (s t : List ℤ) → SameTo (slots_each * n) s t → i < n → block_of s i ≡ block_of t i
block_same n i s t h l = slots_same (part_of s i) (part_of t i) (part_same n i s t h l)

-- a link is live, or not, by the block that it leads on from and, where it leads to one, by that
pub live_by_blocks : (g : Grid) (s t : List ℤ) (d i : ℕ) → block_of s i ≡ block_of t i → (T (next_of g d i) → block_of s (i + stride_of g d) ≡ block_of t (i + stride_of g d)) → live_of g s d i ≡ live_of g t d i
unfolding live_of
live_by_blocks g s t d i low high =
    and_same (next_of g d i) (next_of g d i) (active_of s i && active_of s (i + stride_of g d)) (active_of t i && active_of t (i + stride_of g d)) refl
    (λ next. ap₂ (λ a b. is_active a && is_active b) low (high next))

-- ---- two cases

-- two cases alike in their record and in the numbers that it needs: columns, rows and slots may differ beyond them
pub record Alike (c d : Case) : Type 0 where
  pub grid : c.grid ≡ d.grid
  pub columns : SameTo c.grid.columns c.columns d.columns
  pub rows : SameTo c.grid.rows c.rows d.rows
  pub slots : SameTo (slots_each * blocks_of c.grid) c.slots d.slots

-- A fact of a case may be shown of its slices under an equal record, so that laws of two alike cases are said over one record.
pub by_record : (P : Case → Type 0) {g : Grid} (d : Case) → g ≡ d.grid → P (case_of g d.columns d.rows d.slots) → P d
by_record P d e p = subst (λ g. P (case_of g d.columns d.rows d.slots)) e p

module _ (c : Case) (columns rows slots : List ℤ) (alike : Alike c (case_of c.grid columns rows slots)) where
  -- the record, and the second case
  abbrev g : Grid
  g = c.grid

  abbrev other : Case
  other = case_of g columns rows slots

  -- 5 asks for the widths of the columns and rows that there are
  widths_same : widths_hold g c.columns c.rows ≡ widths_hold g columns rows
  unfolding widths_hold
  widths_same =
      let wide = between (pos 1) (pos most_width) in
      ap₂ ◌&&◌ (within_same wide g.columns c.columns columns alike.columns) (within_same wide g.rows c.rows rows alike.rows)

  -- 6 asks for the slots of the blocks that there are
  fault_same : fault_of g c.slots ≡ fault_of g slots
  unfolding fault_of
  fault_same =
      first_same (blocks_of g) (λ i. not (slots_hold (part_of c.slots i) (top_of g i))) (λ i. not (slots_hold (part_of slots i) (top_of g i)))
      (λ i l. ap not (slots_hold_same (part_of c.slots i) (part_of slots i) (top_of g i) (part_same (blocks_of g) i c.slots slots alike.slots l)))

  -- a block that there is
  pub block_in_same : (i : ℕ) → i < blocks_of g → block_in c i ≡ block_in other i
  block_in_same i l = block_same (blocks_of g) i c.slots slots alike.slots l

  -- 9 and 10 ask for a block, the blocks across its links, and the widths at its place
  module _ (counted : Counted g) (i : ℕ) (l : i < blocks_of g) where
    -- the block across a link
    pub across_in_same : (d : ℕ) → T (next_of g d i) → across_in c d i ≡ across_in other d i
    across_in_same d t = block_in_same (i + stride_of g d) (next_inside g counted d i l t)

    -- the widths at its place, its area and its faces
    column_same : width_at c.columns (place_of g i).column ≡ width_at columns (place_of g i).column
    column_same = alike.columns (place_of g i).column (place_inside g counted i l).column

    row_same : width_at c.rows (place_of g i).row ≡ width_at rows (place_of g i).row
    row_same = alike.rows (place_of g i).row (place_inside g counted i l).row

    pub along_same : (d : ℕ) → along_of c d i ≡ along_of other d i
    along_same zero = column_same
    along_same (suc d) = row_same

    pub area_same : area_of c i ≡ area_of other i
    unfolding area_at
    area_same = ap₂ ◌*ℤ◌ column_same row_same

    pub face_same : (d : ℕ) → d ≤ next_row → T (next_of g d i) → face_of c d i ≡ face_of other d i
    unfolding next_of has_next
    face_same zero h t = λ k. record { low = column_same k; high = alike.columns ((place_of g i).column + 1) (ltb→lt _ _ t) k; across = row_same k }
    face_same (suc zero) h t = λ k. record { low = row_same k; high = alike.rows ((place_of g i).row + 1) (ltb→lt _ _ t) k; across = column_same k }
    face_same (suc (suc d)) h t = absurd (omega arith)

    -- a link is live, or not
    pub live_same : (d : ℕ) → live_of g c.slots d i ≡ live_of g slots d i
    live_same d = live_by_blocks g c.slots slots d i (block_in_same i l) (across_in_same d)

    -- a test of a live link
    of_live : (d : ℕ) (x y : Bool) → (T (next_of g d i) → x ≡ y) → (live_of g c.slots d i && x) ≡ (live_of g slots d i && y)
    of_live d x y h = and_same (live_of g c.slots d i) (live_of g slots d i) x y (live_same d) (λ t. h (live_next g c.slots d i t))

    -- 9
    overlaps_same : overlaps c i ≡ overlaps other i
    unfolding overlaps
    overlaps_same = of_live above _ _ (λ t. ap₂ (λ a b. lt_z b.base (aquifer_top_of a)) (block_in_same i l) (across_in_same above t))

    -- 10: a face, the link above, the boundary, and all of these
    face_exceeds_same : (d : ℕ) → d ≤ next_row → face_exceeds c d i ≡ face_exceeds other d i
    unfolding face_exceeds
    face_exceeds_same d h = of_live d _ _ (λ t k. either_exceeds g (face_same d h t k) (block_in_same i l k) (across_in_same d t k))

    above_exceeds_same : above_exceeds c i ≡ above_exceeds other i
    unfolding above_exceeds
    above_exceeds_same = of_live above _ _ (λ t k. exceeds (over_area_of (block_in_same i l k).leakance (area_same k)))

    boundary_exceeds_same : boundary_exceeds c i ≡ boundary_exceeds other i
    unfolding boundary_exceeds
    boundary_exceeds_same = λ k. exceeds (over_area_of (block_in_same i l k).boundary_leakance (area_same k))

    block_exceeds_same : block_exceeds c i ≡ block_exceeds other i
    unfolding block_exceeds
    block_exceeds_same =
        λ k. is_active (block_in_same i l k) && (face_exceeds_same next_column (omega arith) k || (face_exceeds_same next_row (omega arith) k || (above_exceeds_same k || boundary_exceeds_same k)))

    -- at fault by 9, or by 10
    at_fault_same : (number : ℕ) → at_fault c number i ≡ at_fault other number i
    unfolding at_fault
    at_fault_same number = ap₂ (cond (eqb number 9)) overlaps_same block_exceeds_same

  -- and so the first block at fault
  first_at_fault_same : Counted g → (number : ℕ) → first_at_fault c number ≡ first_at_fault other number
  unfolding first_at_fault
  first_at_fault_same counted number = first_same (blocks_of g) (at_fault c number) (at_fault other number) (λ i l. at_fault_same counted i l number)

  -- 3 and 7
  shape_same : Roomy c → Roomy other → shape_of c ≡ shape_of other
  unfolding shape_of
  shape_same m n = ap (λ b. unless 3 (counts_hold g) ∷ unless 7 b ∷ []) (roomy_room c m ∙ sym (roomy_room other n))

  -- 4, 5 and 6
  contents_same : contents_of c ≡ contents_of other
  unfolding contents_of
  contents_same = λ k. unless 4 (terms_hold g) ∷ unless 5 (widths_same k) ∷ blaming 6 (fault_same k) ∷ []

  -- 9 and 10
  limits_same : Counted g → limits_of c ≡ limits_of other
  unfolding limits_of
  limits_same counted = λ k. blaming 9 (first_at_fault_same counted 9 k) ∷ blaming 10 (first_at_fault_same counted 10 k) ∷ []

  -- all of them: where 3 refuses, nothing else is asked
  checked_same : Roomy c → Roomy other → checked_of c ≡ checked_of other
  unfolding shape_of first_refusal
  checked_same m n = go (counts_hold g) refl
    where
      go : (b : Bool) → counts_hold g ≡ b → checked_of c ≡ checked_of other
      go true e = λ k. first_refusal ((shape_same m n k ++ contents_same k) ++ limits_same (counts_counted g (holds e)) k)
      go false e = rw e (or_first (refusal 3 0) _ (omega arith) ∙ sym (or_first (refusal 3 0) _ (omega arith)))

-- what a case is refused with is asked of the numbers that it needs alone
pub room_unread : (c d : Case) → Roomy c → Roomy d → Alike c d → checked_of c ≡ checked_of d
room_unread c d m n a = by_record (λ d. Alike c d → Roomy d → checked_of c ≡ checked_of d) d a.grid (λ a n. checked_same c d.columns d.rows d.slots a m n) a n
