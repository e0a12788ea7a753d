-- By column, row and layer, a block that the heads of block k do not reach is not k, and neither one step from k along an axis nor two along its row or its
-- column. Assumes nothing.
use mathlib.Core.Bool.{Bool, ◌&&◌, ◌||◌, false, true, true≢false}
use mathlib.Core.Logic.{◌≢◌}
use mathlib.Core.Path.{◌∙◌, ◌≡◌, refl, subst, sym}
use Prim.Native.Nat.{◌+◌, ◌-◌, ◌<◌, ◌≤◌, suc, zero, ℕ}
use native.Mathlib.Omega.{arith}
use lib.Dec.{T, eqb, le→leb, leb}
use borrow.Author.Tests.{eq-eqb}
use Rattle.std.specs.Prelude.{Some}
use Rattle.whole.proofs.SearchLaws.{holds, joint, not_left, not_right, true_is}
use Rattle.grid.specs.declared.Grid.{Grid}
use Rattle.grid.specs.declared.place.Place.{Place}
use Rattle.grid.specs.Inner.{Counted}
use Rattle.grid.specs.Place.{blocks_of, coordinate_of, neighbour_of, next_of, place_of, previous_of, stride_of}
use Rattle.grid.specs.Units.{above}
use Rattle.grid.proofs.PlaceLaws.{across_inside, link_beside, previous_beside, there_at}
use Rattle.reach.specs.Reach.{in_column, in_row, most_above, most_away, near, over_or_under, reach_of}

-- two blocks in one line along an axis, at most so many steps apart
record Away (g : Grid) (d most i j : ℕ) : Type 0 where
  pub further : coordinate_of (place_of g i) d ≤ coordinate_of (place_of g j) d + most
  pub before : coordinate_of (place_of g j) d ≤ coordinate_of (place_of g i) d + most
  pub alike : (e : ℕ) → e < 3 → (e ≡ d → ⊥) → coordinate_of (place_of g i) e ≡ coordinate_of (place_of g j) e

-- ---- how far apart steps lead

none_away : (g : Grid) (d i : ℕ) → Away g d 0 i i
none_away g d i = record { further = omega arith; before = omega arith; alike = λ e h n. refl }

one_away : (g : Grid) → Counted g → (d i j : ℕ) (on : Bool) → d < 3 → i < blocks_of g → neighbour_of g d i on ≡ Some j → Away g d 1 j i
unfolding neighbour_of
one_away g counted d i j true h l e =
    let s = (there_at (next_of g d i) (i + stride_of g d) j).0 e in
    let b = link_beside g counted d i j h l (across_inside g counted d i j true l e) s.0 s.1 in
    record { further = omega (arith, b.further); before = omega (arith, b.further); alike = b.alike }
one_away g counted d i j false h l e =
    let s = (there_at (previous_of g d i) (i - stride_of g d) j).0 e in
    let b = previous_beside g counted d i j h l (across_inside g counted d i j false l e) s.0 s.1 in
    record { further = omega (arith, b.further); before = omega (arith, b.further); alike = λ e k n. sym (b.alike e k n) }

added_away : {g : Grid} {d m n i j k : ℕ} → Away g d m i j → Away g d n j k → Away g d (m + n) i k
added_away a b =
    record { further = omega (arith, a.further, b.further); before = omega (arith, a.before, b.before); alike = λ e h n. a.alike e h n ∙ b.alike e h n }

-- ---- what the heads of a block do not reach

-- how far they reach along an axis
abbrev most_along : ℕ → ℕ
most_along zero = most_away
most_along (suc zero) = most_away
most_along (suc (suc d)) = most_above

near_within : (most n a b : ℕ) → n ≤ most → a ≤ b + n → b ≤ a + n → T (near most a b)
unfolding near
near_within most n a b h further before = joint (leb a (b + most)) (leb b (a + most)) (le→leb a (b + most) (omega (arith, h, further))) (le→leb b (a + most) (omega (arith, h, before)))

-- two coordinates are the same and the third is near
line : (a b c e most n x y : ℕ) → a ≡ b → c ≡ e → n ≤ most → x ≤ y + n → y ≤ x + n → (eqb a b && (eqb c e && near most x y)) ≡ true
line a b c e most n x y first second h further before =
    true_is (joint (eqb a b) (eqb c e && near most x y) (holds (eq-eqb a b first)) (joint (eqb c e) (near most x y) (holds (eq-eqb c e second)) (near_within most n x y h further before)))

-- a step along any axis leads no further, nor do two in a row or a column
one_reached : (d : ℕ) → 1 ≤ most_along d
one_reached zero = omega arith
one_reached (suc zero) = omega arith
one_reached (suc (suc d)) = omega arith

two_reached : (d : ℕ) → d < above → 2 ≤ most_along d
two_reached zero h = omega arith
two_reached (suc zero) h = omega arith
two_reached (suc (suc d)) h = absurd (omega arith)

-- a block of the grid other than k
abbrev pub Other : Grid → ℕ → ℕ → Type 0
Other g k i = (i < blocks_of g) × (i ≢ k)

module _ (g : Grid) (k j : ℕ) (out : reach_of g k j ≡ false) where
  abbrev p : Place
  p = place_of g k

  abbrev q : Place
  q = place_of g j

  row_clear : in_row p q ≡ false
  unfolding reach_of
  row_clear = not_left (in_row p q) (in_column p q || over_or_under p q) out

  column_clear : in_column p q ≡ false
  unfolding reach_of
  column_clear = not_left (in_column p q) (over_or_under p q) (not_right (in_row p q) (in_column p q || over_or_under p q) out)

  above_clear : over_or_under p q ≡ false
  unfolding reach_of
  above_clear = not_right (in_column p q) (over_or_under p q) (not_right (in_row p q) (in_column p q || over_or_under p q) out)

  -- the block is not in one line with k, or further away than a head reaches there
  clear : (d n : ℕ) → d < 3 → n ≤ most_along d → Away g d n k j → ⊥
  unfolding in_row in_column over_or_under
  clear zero n h m a =
      true≢false (sym (line p.layer q.layer p.row q.row most_away n p.column q.column (a.alike 2 (omega arith) (λ e. absurd (omega arith))) (a.alike 1 (omega arith) (λ e. absurd (omega arith))) m a.further a.before) ∙ row_clear)
  clear (suc zero) n h m a =
      true≢false (sym (line p.layer q.layer p.column q.column most_away n p.row q.row (a.alike 2 (omega arith) (λ e. absurd (omega arith))) (a.alike 0 (omega arith) (λ e. absurd (omega arith))) m a.further a.before) ∙ column_clear)
  clear (suc (suc zero)) n h m a =
      true≢false (sym (line p.row q.row p.column q.column most_above n p.layer q.layer (a.alike 1 (omega arith) (λ e. absurd (omega arith))) (a.alike 0 (omega arith) (λ e. absurd (omega arith))) m a.further a.before) ∙ above_clear)
  clear (suc (suc (suc d))) n h m a = absurd (omega arith)

  -- all that its balance looks at is another block than k
  module _ (counted : Counted g) (l : j < blocks_of g) where
    other_than : (d n i : ℕ) → d < 3 → n ≤ most_along d → Away g d n i j → i ≢ k
    other_than d n i h m a e = clear d n h m (subst (λ (x : ℕ). Away g d n x j) e a)

    pub itself_other : Other g k j
    itself_other = (l, other_than 0 0 j (omega arith) (omega arith) (none_away g 0 j))

    pub one_step_other : (d : ℕ) (on : Bool) (x : ℕ) → d < 3 → neighbour_of g d j on ≡ Some x → Other g k x
    one_step_other d on x h e = (across_inside g counted d j x on l e, other_than d 1 x h (one_reached d) (one_away g counted d j x on h l e))

    pub two_steps_other : (d : ℕ) (on : Bool) (m x : ℕ) → d < above → neighbour_of g d j on ≡ Some m → neighbour_of g d m on ≡ Some x → Other g k x
    two_steps_other d on m x h e f =
        let axis : d < 3 = omega (arith, h) in
        let n = across_inside g counted d j m on l e in
        (across_inside g counted d m x on n f, other_than d 2 x axis (two_reached d h) (added_away (one_away g counted d m x on axis n f) (one_away g counted d j m on axis l e)))
