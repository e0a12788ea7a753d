-- Rows: what is put in is there, and a row that was filled holds what it was filled with. Assumes nothing.
use mathlib.Core.List.{List}
use mathlib.Core.Path.{◌∙◌, ◌≡◌, refl, sym}
use Prim.Native.Nat.{◌*◌, ◌+◌, ◌<◌, ◌≤◌, suc, zero, ℕ}
use native.Mathlib.Decide.{ℕ_discrete}
use native.Mathlib.Numerals.{add-one}
use native.Mathlib.Omega.{arith}
use lib.IntN.{pos, ℤ}
use lib.ListN.{get_or, length, length-set, set}
use lib.Seq.{get_or-set_other, get_or-set_same}
use Rattle.block.specs.declared.Fluids.{Fluids}
use Rattle.block.proofs.FluidLaws.{both_same}
use Rattle.books.specs.Inner.{Row, filled_of, pair_of, put_of}

pub put_length : (row : List ℤ) (i : ℕ) (two : Fluids) → length (put_of row i two) ≡ length row
put_length row i two = length-set (set row (2 * i) two.fresh) (2 * i + 1) two.salt ∙ length-set row (2 * i) two.fresh

-- the numbers of the block itself, and of another
pub put_here : (row : List ℤ) (i : ℕ) (two : Fluids) → 2 * i + 2 ≤ length row → pair_of (put_of row i two) i ≡ two
put_here row i two h =
    let first = set row (2 * i) two.fresh in
    let long : 2 * i + 1 < length first = omega (arith, h, length-set row (2 * i) two.fresh) in
    both_same
    (get_or-set_other first (2 * i + 1) (2 * i) two.salt (pos 0) (λ e. absurd (omega (arith, e))) ∙ get_or-set_same row (2 * i) two.fresh (pos 0) (omega (arith, h)))
    (get_or-set_same first (2 * i + 1) two.salt (pos 0) long)

pub put_elsewhere : (row : List ℤ) (i j : ℕ) (two : Fluids) → (j ≡ i → ⊥) → pair_of (put_of row i two) j ≡ pair_of row j
put_elsewhere row i j two n = both_same (go (2 * j) (λ e. n (omega (arith, e))) (λ e. absurd (omega (arith, e)))) (go (2 * j + 1) (λ e. absurd (omega (arith, e))) (λ e. n (omega (arith, e))))
  where
    go : (k : ℕ) → (k ≡ 2 * i → ⊥) → (k ≡ 2 * i + 1 → ⊥) → get_or (put_of row i two) k (pos 0) ≡ get_or row k (pos 0)
    go k a b = get_or-set_other (set row (2 * i) two.fresh) (2 * i + 1) k two.salt (pos 0) b ∙ get_or-set_other row (2 * i) k two.fresh (pos 0) a

-- ---- a filled row

pub filled_start : (f : ℕ → Fluids) (row : List ℤ) → filled_of 0 f row ≡ row
unfolding filled_of
filled_start f row = refl

pub filled_more : (n : ℕ) (f : ℕ → Fluids) (row : List ℤ) → filled_of (n + 1) f row ≡ put_of (filled_of n f row) n (f n)
unfolding filled_of
filled_more n f row = rw add-one

-- a turn of a loop that fills a row
pub filled_turn : (n : ℕ) (f : ℕ → Fluids) (row₀ : List ℤ) {row next : List ℤ} {two : Fluids} → row ≡ filled_of n f row₀ → two ≡ f n → next ≡ put_of row n two → next ≡ filled_of (n + 1) f row₀
filled_turn n f row₀ e h p = p ∙ (λ i. put_of (e i) n (h i)) ∙ sym (filled_more n f row₀)

pub filled_length : (n : ℕ) (f : ℕ → Fluids) (row : List ℤ) → length (filled_of n f row) ≡ length row
unfolding filled_of
filled_length zero f row = refl
filled_length (suc n) f row = put_length (filled_of n f row) n (f n) ∙ filled_length n f row

put_each : (n : ℕ) (f : ℕ → Fluids) (row : List ℤ) → 2 * n + 2 ≤ length row → ((i : ℕ) → i < n → pair_of row i ≡ f i) → (i : ℕ) → i < suc n → pair_of (put_of row n (f n)) i ≡ f i
put_each n f row h all i l = go (ℕ_discrete i n)
  where
    go : Dec (i ≡ n) → pair_of (put_of row n (f n)) i ≡ f i
    go (yes p) = rw p (put_here row n (f n) h)
    go (no q) = put_elsewhere row n i (f n) q ∙ all i (omega (arith, q))

filled_each : (n : ℕ) (f : ℕ → Fluids) (row : List ℤ) → 2 * n ≤ length row → (i : ℕ) → i < n → pair_of (filled_of n f row) i ≡ f i
unfolding filled_of
filled_each zero f row h i l = absurd (omega arith)
filled_each (suc n) f row h i l = put_each n f (filled_of n f row) (omega (arith, h, filled_length n f row)) (filled_each n f row (omega (arith, h))) i l

pub filled_row : (n : ℕ) (f : ℕ → Fluids) (row : List ℤ) → 2 * n ≤ length row → Row n f (filled_of n f row)
filled_row n f row h = record { room = rw (filled_length n f row) h; each = filled_each n f row h }
