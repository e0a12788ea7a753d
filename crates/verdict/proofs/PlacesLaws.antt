-- Laws of places: a place is its block and its fluid, and what grid, slots and balances in range give at each. Assumes nothing.
use mathlib.Core.Bool.{Bool, ◌&&◌, false, not, true, true≢false}
use mathlib.Core.List.{List}
use mathlib.Core.Path.{◌∙◌, ◌≡◌, ap, ap₂, refl, sym}
use Prim.Native.Nat.{◌%◌, ◌*◌, ◌+◌, ◌/◌, ◌<◌, ◌^◌, ◌≤◌, suc, zero, ℕ}
use native.Mathlib.Nat.{div-add-mod', div-lt_iff_lt-mul, mod-lt, mul_comm}
use native.Mathlib.Omega.{arith}
use lib.Arith.{digits_div, digits_mod}
use lib.Dec.{T, eqb}
use lib.IntN.{◌-ℤ◌, pos, ℤ}
use lib.ListN.{length}
use lib.Signed.{◌≤ℤ◌, lt_z, mag}
use mir.Syntax.{w64}
use mir.Val.{of_z}
use borrow.Author.Tests.{eq-eqb, ne_eqb}
use Rattle.whole.specs.Sum.{count}
use Rattle.whole.specs.Whole.{is_zero}
use Rattle.whole.proofs.LinearLaws.{linear, signed}
use Rattle.whole.proofs.OrderLaws.{no_difference, none_apart}
use Rattle.whole.proofs.RangeLaws.{lt_false, not_above, same_bits}
use Rattle.whole.proofs.SearchLaws.{holds, not_second, second_not}
use Rattle.whole.proofs.SumLaws.{only_on}
use Rattle.grid.specs.declared.Grid.{Grid}
use Rattle.slots.specs.Slots.{block_of}
use Rattle.block.specs.declared.Fluids.{Fluids}
use Rattle.block.specs.Fluids.{in_fluid, new_heads, old_heads}
use Rattle.wellformed.specs.Links.{active_of}
use Rattle.books.specs.Own.{fixed_of}
use Rattle.balance.specs.Inner.{Bounded}
use Rattle.verdict.specs.Places.{counted_at, counted_by, fails_at, free_at, free_size_of, moved_at, size_of}

-- ---- a place is a block and a fluid
pub block_of_lem : (i fluid : ℕ) → fluid < 2 → (2 * i + fluid) / 2 ≡ i
block_of_lem i fluid l = rw (mul_comm 2 i) (digits_div i l)

pub fluid_of : (i fluid : ℕ) → fluid < 2 → (2 * i + fluid) % 2 ≡ fluid
fluid_of i fluid l = rw (mul_comm 2 i) (digits_mod i l)

pub place_is : (p : ℕ) → 2 * (p / 2) + p % 2 ≡ p
place_is p = rw (mul_comm 2 (p / 2)) (div-add-mod' p 2)

pub block_below : (n p : ℕ) → p < 2 * n → p / 2 < n
block_below n p l = (div-lt_iff_lt-mul {k = 2} {x = p} {y = n} (omega arith)).1 (omega arith)

pub fluid_below : (p : ℕ) → p % 2 < 2
fluid_below p = mod-lt p (omega arith)

-- places that pass a test are counted fluid by fluid
pub count_by_fluid : (n : ℕ) (test : ℕ → ℕ → Bool) → count (2 * n) (λ p. test (p % 2) (p / 2)) ≡ count n (test 0) + count n (test 1)
unfolding count
count_by_fluid zero test = refl
count_by_fluid (suc n) test =
    let e : 2 * suc n ≡ suc (suc (2 * n)) = omega arith in
    let first : 2 * n ≡ 2 * n + 0 = omega arith in
    let second : suc (2 * n) ≡ 2 * n + 1 = omega arith in
    let fresh-told : test (2 * n % 2) (2 * n / 2) ≡ test 0 n = rw first (ap₂ test (fluid_of n 0 (omega arith)) (block_of_lem n 0 (omega arith))) in
    let salt-told : test (suc (2 * n) % 2) (suc (2 * n) / 2) ≡ test 1 n = rw second (ap₂ test (fluid_of n 1 (omega arith)) (block_of_lem n 1 (omega arith))) in
    rw (e, fresh-told, salt-told) (omega (arith, count_by_fluid n test))

-- what a code counts at a block and a fluid, by place
pub counted_by_lem : (g : Grid) (slots : List ℤ) (β : ℕ → Fluids) (code i fluid : ℕ) → fluid < 2 → counted_by g slots β code (2 * i + fluid) ≡ counted_at g slots β code fluid i
counted_by_lem g slots β code i fluid l = ap₂ (counted_at g slots β code) (fluid_of i fluid l) (block_of_lem i fluid l)

-- the balance without sign at a place, where it is free and where it is not
pub free_size_on : (slots : List ℤ) (β : ℕ → Fluids) (p : ℕ) → free_at slots (p % 2) (p / 2) ≡ true → free_size_of slots β p ≡ size_of (in_fluid (β (p / 2)) (p % 2))
unfolding free_size_of
free_size_on slots β p e = rw e

pub free_size_off : (slots : List ℤ) (β : ℕ → Fluids) (p : ℕ) → free_at slots (p % 2) (p / 2) ≡ false → free_size_of slots β p ≡ pos 0
unfolding free_size_of
free_size_off slots β p e = rw e

-- and at a free block and fluid
pub free_size_is : (slots : List ℤ) (β : ℕ → Fluids) (i fluid : ℕ) → fluid < 2 → T (free_at slots fluid i) → free_size_of slots β (2 * i + fluid) ≡ size_of (in_fluid (β i) fluid)
unfolding free_size_of
free_size_is slots β i fluid l t = rw (fluid_of i fluid l, block_of_lem i fluid l) (only_on (free_at slots fluid i) (size_of (in_fluid (β i) fluid)) t)

-- ---- what is in range gives at each block
pub paired : {n i : ℕ} {row : List ℤ} → Bounded n row → i < n → 2 * i + 2 ≤ length row
paired b l = omega (arith, b.room, l)

-- ---- two heads differ where their bits do, which the machine compares
pub apart_bits : (a b : ℤ) → mag a < 2 ^ 63 → mag b < 2 ^ 63 → eqb (of_z w64 a) (of_z w64 b) ≡ is_zero (a -ℤ b)
apart_bits a b f g = go (is_zero (a -ℤ b)) refl
  where
    go : (t : Bool) → is_zero (a -ℤ b) ≡ t → eqb (of_z w64 a) (of_z w64 b) ≡ t
    go true e = eq-eqb (of_z w64 a) (of_z w64 b) (ap (of_z w64) (none_apart a b (holds e)))
    go false e =
        ne_eqb (of_z w64 a) (of_z w64 b)
        (λ q. absurd (true≢false (sym (no_difference b) ∙ ap (λ z. is_zero (z -ℤ b)) (sym (same_bits {x = a} {y = b} (record { sfits = f }) (record { sfits = g }) q)) ∙ e)))

-- ---- a number without its sign
pub size_least : (z : ℤ) → pos 0 ≤ℤ size_of z
size_least z = linear (search signed depth 30) (omega arith)

-- ---- tests of a place, in two lists of slots: they look at its block alone
module _ (s t : List ℤ) (i : ℕ) (same : block_of s i ≡ block_of t i) (fluid : ℕ) where
  pub moved_same : moved_at s fluid i ≡ moved_at t fluid i
  unfolding moved_at
  moved_same = rw same

  pub free_same : free_at s fluid i ≡ free_at t fluid i
  unfolding free_at
  free_same = rw same

-- ---- tests of a place as facts

-- a fixed head that did not move
pub still : (slots : List ℤ) (fluid i : ℕ) → moved_at slots fluid i ≡ false → T (active_of slots i) → T (fixed_of (block_of slots i) fluid)
    → in_fluid (new_heads (block_of slots i)) fluid ≡ in_fluid (old_heads (block_of slots i)) fluid
unfolding moved_at
still slots fluid i e a f = go (active_of slots i) (fixed_of (block_of slots i) fluid) (is_zero (new -ℤ old)) a f refl e
  where
    new : ℤ
    new = in_fluid (new_heads (block_of slots i)) fluid

    old : ℤ
    old = in_fluid (old_heads (block_of slots i)) fluid

    go : (a b z : Bool) → T a → T b → is_zero (new -ℤ old) ≡ z → a && (b && not z) ≡ false → new ≡ old
    go true true true s t h e = none_apart new old (holds h)
    go true true false s t h e = absurd (true≢false e)
    go true false z s t h e = absurd t
    go false b z s t h e = absurd s

pub unmoved : (slots : List ℤ) (fluid i : ℕ)
    → (T (active_of slots i) → T (fixed_of (block_of slots i) fluid) → in_fluid (new_heads (block_of slots i)) fluid ≡ in_fluid (old_heads (block_of slots i)) fluid)
    → moved_at slots fluid i ≡ false
unfolding moved_at
unmoved slots fluid i h = go (active_of slots i) (fixed_of (block_of slots i) fluid) h
  where
    new : ℤ
    new = in_fluid (new_heads (block_of slots i)) fluid

    old : ℤ
    old = in_fluid (old_heads (block_of slots i)) fluid

    go : (a b : Bool) → (T a → T b → new ≡ old) → a && (b && not (is_zero (new -ℤ old))) ≡ false
    go true true h = ap (λ z. not (is_zero (z -ℤ old))) (h tt tt) ∙ ap not (no_difference old)
    go true false h = refl
    go false b h = refl

-- a free place that does not fail
pub within_tolerance : (g : Grid) (slots : List ℤ) (β : ℕ → Fluids) (fluid i : ℕ) → fails_at g slots β fluid i ≡ false → T (free_at slots fluid i) → size_of (in_fluid (β i) fluid) ≤ℤ g.tolerance
unfolding fails_at
within_tolerance g slots β fluid i e t = lt_false g.tolerance (size_of (in_fluid (β i) fluid)) (not_second (free_at slots fluid i) (lt_z g.tolerance (size_of (in_fluid (β i) fluid))) e t)

pub holds_within : (g : Grid) (slots : List ℤ) (β : ℕ → Fluids) (fluid i : ℕ) → (T (free_at slots fluid i) → size_of (in_fluid (β i) fluid) ≤ℤ g.tolerance) → fails_at g slots β fluid i ≡ false
unfolding fails_at
holds_within g slots β fluid i h =
    let size = size_of (in_fluid (β i) fluid) in
    second_not (free_at slots fluid i) (lt_z g.tolerance size) (λ free. not_above g.tolerance size (h free))
