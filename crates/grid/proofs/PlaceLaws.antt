-- Laws of places and links: block and place determine each other, a link's two ends are inside, a link joins two blocks that touch and two that touch are
-- joined, and what a link that ends in a block brings is what the link behind it does.
-- Assumes nothing.
use mathlib.Core.Bool.{Bool, ◌&&◌, false, not, true}
use mathlib.Core.Logic.{◌↔◌}
use mathlib.Core.Path.{◌∙◌, ◌≡◌, ap, refl, subst, sym}
use Prim.Native.Nat.{◌%◌, ◌*◌, ◌+◌, ◌-◌, ◌/◌, ◌<◌, ◌≤◌, suc, zero, ℕ}
use native.Mathlib.Decide.{ℕ_discrete}
use native.Mathlib.Nat.{div-add-mod', div-lt_iff_lt-mul, mod-lt}
use native.Mathlib.Omega.{arith}
use lib.Arith.{digits_div, digits_lt, digits_mod}
use lib.Dec.{T, eqb, leb, leb→le, le→leb, ltb, ltb→lt, lt→ltb}
use lib.IntN.{ℤ}
use borrow.Author.Tests.{eq-eqb, le-leb, lt-leb, ltb-false, ne_eqb}
use Rattle.std.specs.Prelude.{Some, None}
use Rattle.whole.specs.Sum.{back, only}
use Rattle.whole.proofs.SearchLaws.{both, holds, joint, same_test}
use Rattle.whole.proofs.SumLaws.{only_and}
use Rattle.grid.specs.declared.Grid.{Grid}
use Rattle.grid.specs.declared.place.Place.{Place}
use Rattle.grid.specs.Meaning.{Beside}
use Rattle.grid.specs.Inner.{Counted, Inside, block_at, earlier_of}
use Rattle.grid.specs.Place.{behind_of, blocks_of, coordinate_of, extent_of, has_next, has_previous, neighbour_of, next_of, place_of, previous_of, stride_of, there, top_of}
use Rattle.grid.specs.Units.{above}

-- ---- block and place

module _ (g : Grid) where
  pub place_block : (p : Place) → Inside g p → place_of g (block_at g p) ≡ p
  unfolding place_of block_at
  place_block p inside =
      let line = p.layer * g.rows + p.row in
      let over : (line * g.columns + p.column) / g.columns ≡ line = digits_div line inside.column in
      λ k. record {
        column = digits_mod line inside.column k;
        row = (ap (λ (n : ℕ). n % g.rows) over ∙ digits_mod p.layer inside.row) k;
        layer = (ap (λ (n : ℕ). n / g.rows) over ∙ digits_div p.layer inside.row) k;
      }

  pub block_place : (i : ℕ) → block_at g (place_of g i) ≡ i
  unfolding place_of block_at
  block_place i = ap (λ (line : ℕ). line * g.columns + i % g.columns) (div-add-mod' (i / g.columns) g.rows) ∙ div-add-mod' i g.columns

  pub block_inside : (p : Place) → Inside g p → block_at g p < blocks_of g
  unfolding block_at
  block_inside p inside = omega (arith, digits_lt (digits_lt inside.layer inside.row) inside.column)

pub place_inside : (g : Grid) → Counted g → (i : ℕ) → i < blocks_of g → Inside g (place_of g i)
unfolding place_of
place_inside g counted i l = record { column = mod-lt i counted.columns_some; row = mod-lt (i / g.columns) counted.rows_some; layer = layer }
  where
    line : i / g.columns < g.layers * g.rows
    line = (div-lt_iff_lt-mul counted.columns_some).1 (omega arith)

    layer : i / g.columns / g.rows < g.layers
    layer = (div-lt_iff_lt-mul counted.rows_some).1 line

-- ---- one step along an axis

moved : Place → ℕ → Place
moved p zero = record { column = p.column + 1; row = p.row; layer = p.layer }
moved p (suc zero) = record { column = p.column; row = p.row + 1; layer = p.layer }
moved p (suc (suc d)) = record { column = p.column; row = p.row; layer = p.layer + 1 }

module _ (g : Grid) where
  moved_block : (p : Place) (d : ℕ) → block_at g (moved p d) ≡ block_at g p + stride_of g d
  unfolding moved block_at
  moved_block p zero = omega arith
  moved_block p (suc zero) = omega arith
  moved_block p (suc (suc d)) = omega arith

  moved_inside : (p : Place) (d : ℕ) → Inside g p → T (has_next g p d) → Inside g (moved p d)
  unfolding moved has_next
  moved_inside p zero i t = record { column = ltb→lt _ _ t; row = i.row; layer = i.layer }
  moved_inside p (suc zero) i t = record { column = i.column; row = ltb→lt _ _ t; layer = i.layer }
  moved_inside p (suc (suc d)) i t = record { column = i.column; row = i.row; layer = ltb→lt _ _ t }

-- one step back
on_again : (n : ℕ) → T (ltb 0 n) → n - 1 + 1 ≡ n
on_again n t = omega (arith, ltb→lt 0 n t)

within_again : (n m : ℕ) → n < m → T (ltb 0 n) → T (ltb (n - 1 + 1) m)
within_again n m l t = lt→ltb (n - 1 + 1) m (omega (arith, ltb→lt 0 n t))

moved_earlier : (p : Place) (d : ℕ) → T (has_previous p d) → moved (earlier_of p d) d ≡ p
unfolding moved has_previous
moved_earlier p zero t = λ k. record { column = on_again p.column t k; row = p.row; layer = p.layer }
moved_earlier p (suc zero) t = λ k. record { column = p.column; row = on_again p.row t k; layer = p.layer }
moved_earlier p (suc (suc d)) t = λ k. record { column = p.column; row = p.row; layer = on_again p.layer t k }

module _ (g : Grid) (p : Place) (inside : Inside g p) where
  earlier_inside : (d : ℕ) → Inside g (earlier_of p d)
  earlier_inside zero = record { column = omega (arith, inside.column); row = inside.row; layer = inside.layer }
  earlier_inside (suc zero) = record { column = inside.column; row = omega (arith, inside.row); layer = inside.layer }
  earlier_inside (suc (suc d)) = record { column = inside.column; row = inside.row; layer = omega (arith, inside.layer) }

  earlier_next : (d : ℕ) → T (has_previous p d) → T (has_next g (earlier_of p d) d)
  unfolding has_previous has_next
  earlier_next zero t = within_again p.column g.columns inside.column t
  earlier_next (suc zero) t = within_again p.row g.rows inside.row t
  earlier_next (suc (suc d)) t = within_again p.layer g.layers inside.layer t

-- ---- a link's two ends

module _ (g : Grid) (counted : Counted g) (d i : ℕ) (l : i < blocks_of g) where
  next_inside_place : T (next_of g d i) → Inside g (moved (place_of g i) d)
  unfolding next_of
  next_inside_place t = moved_inside g (place_of g i) d (place_inside g counted i l) t

  next_block : block_at g (moved (place_of g i) d) ≡ i + stride_of g d
  next_block = moved_block g (place_of g i) d ∙ ap (λ (k : ℕ). k + stride_of g d) (block_place g i)

  -- both ends are inside the grid
  pub next_inside : T (next_of g d i) → i + stride_of g d < blocks_of g
  next_inside t = rw (← next_block) (block_inside g (moved (place_of g i) d) (next_inside_place t))

  next_place : T (next_of g d i) → place_of g (i + stride_of g d) ≡ moved (place_of g i) d
  next_place t = rw (← next_block) (place_block g (moved (place_of g i) d) (next_inside_place t))

-- the top layer is the one that none follows
last : (l n : ℕ) → l < n → not (ltb (l + 1) n) ≡ eqb (l + 1) n
last l n h = go (ltb (l + 1) n) refl
  where
    go : (b : Bool) → ltb (l + 1) n ≡ b → not b ≡ eqb (l + 1) n
    go true e = sym (ne_eqb (l + 1) n (λ p. absurd (omega (arith, p, ltb→lt (l + 1) n (holds e)))))
    go false e = sym (eq-eqb (l + 1) n (omega (arith, h, ltb-false (l + 1) n e)))

pub top_last : (g : Grid) → Counted g → (i : ℕ) → i < blocks_of g → (p : Place) → p ≡ place_of g i → not (has_next g p above) ≡ top_of g i
unfolding has_next top_of
top_last g counted i l p at = rw at (last (place_of g i).layer g.layers (place_inside g counted i l).layer)

-- and the one whose next block above would stand outside
far_top : (g : Grid) (p : Place) → Inside g p → has_next g p above ≡ false → blocks_of g ≤ block_at g p + stride_of g above
unfolding has_next block_at
far_top g p h none =
    let last-layer : g.layers ≡ p.layer + 1 = omega (arith, h.layer, ltb-false (p.layer + 1) g.layers none) in
    rw last-layer (omega arith)

pub top_outside : (g : Grid) → Counted g → (i : ℕ) → i < blocks_of g → leb (blocks_of g) (i + stride_of g above) ≡ top_of g i
unfolding next_of
top_outside g counted i l = go (has_next g (place_of g i) above) refl ∙ top_last g counted i l (place_of g i) refl
  where
    go : (b : Bool) → has_next g (place_of g i) above ≡ b → leb (blocks_of g) (i + stride_of g above) ≡ not (has_next g (place_of g i) above)
    go true e = rw e (lt-leb (blocks_of g) (i + stride_of g above) (next_inside g counted above i l (holds e)))
    go false e = rw e (le-leb (blocks_of g) (i + stride_of g above) (subst (λ (k : ℕ). blocks_of g ≤ k + stride_of g above) (block_place g i) (far_top g (place_of g i) (place_inside g counted i l) e)))

-- what a block's place tells of its links
module _ (g : Grid) (d i : ℕ) (p : Place) (q : Bool) (at : p ≡ place_of g i) where
  pub next_told : q ≡ has_next g p d → next_of g d i ≡ q
  unfolding next_of
  next_told e = rw (← at, e)

  pub previous_told : q ≡ has_previous p d → previous_of g d i ≡ q
  unfolding previous_of
  previous_told e = rw (← at, e)

moved_has : (p : Place) (d : ℕ) → T (has_previous (moved p d) d)
unfolding moved has_previous
moved_has p zero = lt→ltb 0 (p.column + 1) (omega arith)
moved_has p (suc zero) = lt→ltb 0 (p.row + 1) (omega arith)
moved_has p (suc (suc d)) = lt→ltb 0 (p.layer + 1) (omega arith)

-- a link ends in block i where one leads on from i - stride
module _ (g : Grid) (counted : Counted g) (d i : ℕ) (l : i < blocks_of g) where
  previous_block : T (previous_of g d i) → block_at g (earlier_of (place_of g i) d) + stride_of g d ≡ i
  unfolding previous_of
  previous_block t = sym (moved_block g (earlier_of (place_of g i) d) d) ∙ ap (block_at g) (moved_earlier (place_of g i) d t) ∙ block_place g i

  pub previous_low : T (previous_of g d i) → stride_of g d ≤ i
  previous_low t = omega (arith, previous_block t)

  low_block : T (previous_of g d i) → i - stride_of g d ≡ block_at g (earlier_of (place_of g i) d)
  low_block t = omega (arith, previous_block t)

  pub previous_next : T (previous_of g d i) → T (next_of g d (i - stride_of g d))
  unfolding previous_of next_of
  previous_next t =
      let inside = earlier_inside g (place_of g i) (place_inside g counted i l) d in
      rw (low_block t, place_block g (earlier_of (place_of g i) d) inside) (earlier_next g (place_of g i) (place_inside g counted i l) d t)

  pub previous_place : T (previous_of g d i) → place_of g (i - stride_of g d) ≡ earlier_of (place_of g i) d
  previous_place t = ap (place_of g) (low_block t) ∙ place_block g (earlier_of (place_of g i) d) (earlier_inside g (place_of g i) (place_inside g counted i l) d)

  pub next_previous : stride_of g d ≤ i → T (next_of g d (i - stride_of g d)) → T (previous_of g d i)
  unfolding previous_of
  next_previous h t =
      let e : i - stride_of g d + stride_of g d ≡ i = omega arith in
      subst (λ (k : ℕ). T (has_previous (place_of g k) d)) e (rw (next_place g counted d (i - stride_of g d) (omega arith) t) (moved_has (place_of g (i - stride_of g d)) d))

-- what is there, and what is not
pub there_at : (b : Bool) (i p : ℕ) → (there b i ≡ Some p) ↔ (T b × (p ≡ i))
there_at true i p = (λ e. (tt, cc), λ h. ap Some (sym h.1))
there_at false i p = (λ e. let z : ◌≡◌ {A = ℕ} 0 1 = cc in absurd (omega arith), λ h. absurd h.0)

pub there_outside : (b : Bool) (i : ℕ) → (there b i ≡ None) ↔ (b ≡ false)
there_outside true i = (λ e. let z : ◌≡◌ {A = ℕ} 0 1 = cc in absurd (omega arith), λ e. let z : ◌≡◌ {A = ℕ} 0 1 = cc in absurd (omega arith))
there_outside false i = (λ e. refl, λ e. refl)

-- the block across a link, and so the block behind one, is inside
pub across_inside : (g : Grid) → Counted g → (d i p : ℕ) (on : Bool) → i < blocks_of g → neighbour_of g d i on ≡ Some p → p < blocks_of g
unfolding neighbour_of
across_inside g counted d i p true l e = let h = (there_at (next_of g d i) (i + stride_of g d) p).0 e in rw h.1 (next_inside g counted d i l h.0)
across_inside g counted d i p false l e = omega (arith, ((there_at (previous_of g d i) (i - stride_of g d) p).0 e).1)

pub behind_inside : (g : Grid) → Counted g → (d i p : ℕ) (low : Bool) → i + stride_of g d < blocks_of g → behind_of g d i low ≡ Some p → p < blocks_of g
unfolding behind_of
behind_inside g counted d i p true l e = across_inside g counted d i p false (omega (arith, l)) e
behind_inside g counted d i p false l e = across_inside g counted d (i + stride_of g d) p true l e

-- ---- a block's neighbours

moved_further : (p : Place) (d : ℕ) → coordinate_of (moved p d) d ≡ coordinate_of p d + 1
unfolding moved
moved_further p zero = refl
moved_further p (suc zero) = refl
moved_further p (suc (suc d)) = refl

moved_alike : (p : Place) (d e : ℕ) → d < 3 → e < 3 → (e ≡ d → ⊥) → coordinate_of (moved p d) e ≡ coordinate_of p e
unfolding moved
moved_alike p zero zero k l n = absurd (n refl)
moved_alike p zero (suc zero) k l n = refl
moved_alike p zero (suc (suc e)) k l n = refl
moved_alike p (suc zero) zero k l n = refl
moved_alike p (suc zero) (suc zero) k l n = absurd (n refl)
moved_alike p (suc zero) (suc (suc e)) k l n = refl
moved_alike p (suc (suc d)) zero k l n = refl
moved_alike p (suc (suc d)) (suc zero) k l n = refl
moved_alike p (suc (suc d)) (suc (suc e)) k l n = absurd (n (omega arith))

pub coordinate_inside : (g : Grid) (p : Place) (d : ℕ) → Inside g p → coordinate_of p d < extent_of g d
coordinate_inside g p zero h = h.column
coordinate_inside g p (suc zero) h = h.row
coordinate_inside g p (suc (suc d)) h = h.layer

-- a place is its three coordinates
place_same : (p q : Place) → ((e : ℕ) → e < 3 → coordinate_of p e ≡ coordinate_of q e) → p ≡ q
place_same p q h = λ k. record { column = h 0 (omega arith) k; row = h 1 (omega arith) k; layer = h 2 (omega arith) k }

module _ (g : Grid) (counted : Counted g) (d i j : ℕ) (axis : d < 3) (l : i < blocks_of g) (m : j < blocks_of g) where
  -- a link joins two blocks that touch
  pub link_beside : T (next_of g d i) → j ≡ i + stride_of g d → Beside g d i j
  link_beside t e =
      let moves : place_of g j ≡ moved (place_of g i) d = ap (place_of g) e ∙ next_place g counted d i l t in
      record {
        further = ap (λ p. coordinate_of p d) moves ∙ moved_further (place_of g i) d;
        alike = λ e k n. ap (λ p. coordinate_of p e) moves ∙ moved_alike (place_of g i) d e axis k n;
      }

  moves_on : Beside g d i j → place_of g j ≡ moved (place_of g i) d
  moves_on b = place_same (place_of g j) (moved (place_of g i) d) (λ e k. go e k (ℕ_discrete e d))
    where
      go : (e : ℕ) → e < 3 → Dec (e ≡ d) → coordinate_of (place_of g j) e ≡ coordinate_of (moved (place_of g i) d) e
      go e k (yes p) = rw p (b.further ∙ sym (moved_further (place_of g i) d))
      go e k (no n) = b.alike e k n ∙ sym (moved_alike (place_of g i) d e axis k n)

  -- and two that touch are joined by a link
  pub beside_link : Beside g d i j → T (next_of g d i) × (j ≡ i + stride_of g d)
  unfolding next_of has_next
  beside_link b = (
    lt→ltb (coordinate_of (place_of g i) d + 1) (extent_of g d) (rw (← b.further) (coordinate_inside g (place_of g j) d (place_inside g counted j m))),
    sym (block_place g j) ∙ ap (block_at g) (moves_on b) ∙ next_block g counted d i l,
  )

-- the same of the link that ends in a block
module _ (g : Grid) (counted : Counted g) (d i j : ℕ) (axis : d < 3) (l : i < blocks_of g) (m : j < blocks_of g) where
  pub previous_beside : T (previous_of g d i) → j ≡ i - stride_of g d → Beside g d j i
  previous_beside t e = link_beside g counted d j i axis m l (rw e (previous_next g counted d i l t)) (omega (arith, e, previous_low g counted d i l t))

  pub beside_previous : Beside g d j i → T (previous_of g d i) × (j ≡ i - stride_of g d)
  beside_previous b =
      let h = beside_link g counted d j i axis m l b in
      let e : j ≡ i - stride_of g d = omega (arith, h.1) in
      (next_previous g counted d i l (omega (arith, h.1)) (rw (← e) h.0), e)

-- ---- from blocks to links: what a block gets by the link that ends in it, told of the block behind
pub previous_is : (g : Grid) → Counted g → (d i : ℕ) → i < blocks_of g → (y : ℕ → ℤ)
    → only (previous_of g d i) (y (i - stride_of g d)) ≡ back (stride_of g d) (λ k. only (next_of g d k) (y k)) i
unfolding back
previous_is g counted d i l y =
    ap (λ (b : Bool). only b (y (i - stride_of g d)))
    (same_test (previous_of g d i) (leb (stride_of g d) i && next_of g d (i - stride_of g d))
    (λ t. joint (leb (stride_of g d) i) (next_of g d (i - stride_of g d)) (le→leb (stride_of g d) i (previous_low g counted d i l t)) (previous_next g counted d i l t))
    (λ t. let h = both (leb (stride_of g d) i) (next_of g d (i - stride_of g d)) t in next_previous g counted d i l (leb→le (stride_of g d) i h.0) h.1))
    ∙ sym (only_and (leb (stride_of g d) i) (next_of g d (i - stride_of g d)) (y (i - stride_of g d)))
