-- Laws of sums over the numbers below n: alike, split, swapped, one term alone, moved by some places, bounded.
-- Assumes nothing.
use mathlib.Core.Path.{◌≡◌, refl, sym, ◌∙◌, ap, ap₂, subst}
use mathlib.Core.Logic.{◌≢◌}
use mathlib.Core.Bool.{Bool, true, false, cond, ◌&&◌}
use Prim.Native.Nat.{ℕ, zero, suc, ◌+◌, ◌*◌, ◌-◌, ◌<◌, ◌≤◌}
use native.Mathlib.Omega.{arith}
use native.Mathlib.Nat.{mul-le-mul_left}
use native.Mathlib.Numerals.{add-one}
use native.Mathlib.Decide.{ℕ_discrete, dec_le, dec_lt}
use lib.IntN.{ℤ, pos, neg_ℤ, nat_abs, ◌+ℤ◌, ◌-ℤ◌, +ℤ_idl, +ℤ_idr, neg_ℤ-+ℤ}
use lib.Signed.{◌≤ℤ◌, ≤ℤ_refl}
use lib.Dec.{T, leb, eqb, leb→le, le→leb, eqb→eq, eqb_refl}
use Rattle.whole.specs.Inner.{Abs}
use Rattle.whole.specs.Sum.{only, sum, back, count}
use Rattle.whole.proofs.LinearLaws.{linear, from2, signed, sizes, #}
use Rattle.whole.proofs.OrderLaws.{abs_in, in_abs, abs_zero}

-- ---- a test before a term
pub only_on : (b : Bool) (x : ℤ) → T b → only b x ≡ x
only_on true x h = refl
only_on false x h = absurd h

pub only_off : (b : Bool) (x : ℤ) → (T b → ⊥) → only b x ≡ pos 0
only_off true x h = absurd (h tt)
only_off false x h = refl

pub only_same : (b : Bool) (x y : ℤ) → (T b → x ≡ y) → only b x ≡ only b y
only_same true x y h = h tt
only_same false x y h = refl

pub only_add : (b : Bool) (x y : ℤ) → only b (x +ℤ y) ≡ only b x +ℤ only b y
only_add true x y = refl
only_add false x y = refl

pub only_zero : (b : Bool) → only b (pos 0) ≡ pos 0
only_zero true = refl
only_zero false = refl

pub only_swap : (a b : Bool) (x : ℤ) → only a (only b x) ≡ only b (only a x)
only_swap true b x = refl
only_swap false b x = sym (only_zero b)

pub only_and : (a b : Bool) (x : ℤ) → only a (only b x) ≡ only (a && b) x
only_and true b x = refl
only_and false b x = refl

pub only_abs : (b : Bool) {m : ℕ} {x : ℤ} → Abs m x → Abs m (only b x)
only_abs true h = h
only_abs false {m} h = abs_zero m

-- ---- alike, split, swapped
pub sum_same : (n : ℕ) (f g : ℕ → ℤ) → ((i : ℕ) → i < n → f i ≡ g i) → sum n f ≡ sum n g
unfolding sum
sum_same zero f g h = refl
sum_same (suc n) f g h = ap₂ (λ x y. x +ℤ y) (sum_same n f g (λ i l. h i (omega arith))) (h n (omega arith))

four : (a b c d : ℤ) → (a +ℤ b) +ℤ (c +ℤ d) ≡ (a +ℤ c) +ℤ (b +ℤ d)
four a b c d = linear (search (signed, # a, # b, # c, # d) depth 30) (omega arith)

pub sum_add : (n : ℕ) (f g : ℕ → ℤ) → sum n (λ i. f i +ℤ g i) ≡ sum n f +ℤ sum n g
unfolding sum
sum_add zero f g = refl
sum_add (suc n) f g = ap (λ x. x +ℤ (f n +ℤ g n)) (sum_add n f g) ∙ four (sum n f) (sum n g) (f n) (g n)

pub sum_neg : (n : ℕ) (f : ℕ → ℤ) → sum n (λ i. neg_ℤ (f i)) ≡ neg_ℤ (sum n f)
unfolding sum
sum_neg zero f = refl
sum_neg (suc n) f = ap (λ x. x +ℤ neg_ℤ (f n)) (sum_neg n f) ∙ sym (neg_ℤ-+ℤ (sum n f) (f n))

-- the sum of differences and a third number
pub sum_less_add : (n : ℕ) (f g h : ℕ → ℤ) → sum n (λ i. f i -ℤ g i +ℤ h i) ≡ sum n f -ℤ sum n g +ℤ sum n h
sum_less_add n f g h = sum_add n (λ i. f i -ℤ g i) h ∙ ap (λ x. x +ℤ sum n h) (sum_add n f (λ i. neg_ℤ (g i)) ∙ ap (λ x. sum n f +ℤ x) (sum_neg n g))

pub sum_zero : (n : ℕ) → sum n (λ i. pos 0) ≡ pos 0
unfolding sum
sum_zero zero = refl
sum_zero (suc n) = ap (λ x. x +ℤ pos 0) (sum_zero n)

pub sum_none : (n : ℕ) (g : ℕ → ℤ) → ((i : ℕ) → i < n → g i ≡ pos 0) → sum n g ≡ pos 0
sum_none n g h = sum_same n g (λ i. pos 0) h ∙ sum_zero n

pub sum_swap : (m n : ℕ) (g : ℕ → ℕ → ℤ) → sum m (λ d. sum n (λ i. g d i)) ≡ sum n (λ i. sum m (λ d. g d i))
unfolding sum
sum_swap zero n g = sym (sum_zero n)
sum_swap (suc m) n g = ap (λ x. x +ℤ sum n (λ i. g m i)) (sum_swap m n g) ∙ sym (sum_add n (λ i. sum m (λ d. g d i)) (λ i. g m i))

-- a test before a sum is a test before each of its terms
pub only_sum : (b : Bool) (n : ℕ) (g : ℕ → ℤ) → only b (sum n g) ≡ sum n (λ i. only b (g i))
only_sum true n g = refl
only_sum false n g = sym (sum_zero n)

-- none, and one term more, as a loop counts
pub sum_start : (g : ℕ → ℤ) → sum 0 g ≡ pos 0
unfolding sum
sum_start g = refl

pub sum_more : (n : ℕ) (g : ℕ → ℤ) → sum (n + 1) g ≡ sum n g +ℤ g n
unfolding sum
sum_more n g = rw add-one

-- ---- one term alone
pub sum_one : (n k : ℕ) (g : ℕ → ℤ) → k < n → ((i : ℕ) → i < n → i ≢ k → g i ≡ pos 0) → sum n g ≡ g k
unfolding sum
sum_one zero k g l h = absurd (omega arith)
sum_one (suc n) k g l h = go (sum_one n k g) (ℕ_discrete n k)
  where
    go : (k < n → ((i : ℕ) → i < n → i ≢ k → g i ≡ pos 0) → sum n g ≡ g k) → Dec (n ≡ k) → sum n g +ℤ g n ≡ g k
    go r (yes e) = ap (λ x. x +ℤ g n) (sum_none n g (λ i m. h i (omega arith) (omega arith))) ∙ +ℤ_idl (g n) ∙ ap g e
    go r (no d) = ap (λ x. sum n g +ℤ x) (h n (omega arith) d) ∙ +ℤ_idr (sum n g) ∙ r (omega arith) (λ i m. h i (omega arith))

pub eq→eqb : (a b : ℕ) → a ≡ b → T (eqb a b)
eq→eqb a b e = subst (λ (y : ℕ). T (eqb a y)) e (eqb_refl a)

pub sum_at : (n k : ℕ) (x : ℕ → ℤ) → k < n → sum n (λ i. only (eqb i k) (x i)) ≡ x k
sum_at n k x l =
    sum_one n k (λ i. only (eqb i k) (x i)) l (λ i m d. only_off (eqb i k) (x i) (λ t. d (eqb→eq i k t)))
    ∙ only_on (eqb k k) (x k) (eqb_refl k)

-- ---- moved by s places
pub sum_back : (n s j : ℕ) (x : ℕ → ℤ) → j < n → sum n (λ i. only (eqb (i + s) j) (x i)) ≡ back s x j
unfolding back
sum_back n s j x l = go (dec_le s j)
  where
    term : ℕ → ℤ
    term i = only (eqb (i + s) j) (x i)

    other : (i : ℕ) → (i + s ≡ j → ⊥) → term i ≡ pos 0
    other i d = only_off (eqb (i + s) j) (x i) (λ t. d (eqb→eq (i + s) j t))

    go : Dec (s ≤ j) → sum n term ≡ only (leb s j) (x (j - s))
    go (yes h) =
        sum_one n (j - s) term (omega arith) (λ i m d. other i (λ e. d (omega arith)))
        ∙ only_on (eqb (j - s + s) j) (x (j - s)) (eq→eqb (j - s + s) j (omega arith))
        ∙ sym (only_on (leb s j) (x (j - s)) (le→leb s j h))
    go (no h) =
        sum_none n term (λ i m. other i (λ e. h (omega arith)))
        ∙ sym (only_off (leb s j) (x (j - s)) (λ t. h (leb→le s j t)))

-- nothing is lost if what would leave the range was nothing
pub sum_move : (n s : ℕ) (x : ℕ → ℤ) → ((i : ℕ) → i < n → (i + s < n → ⊥) → x i ≡ pos 0) → sum n (back s x) ≡ sum n x
sum_move n s x h =
    sum_same n (back s x) (λ j. sum n (λ i. only (eqb (i + s) j) (x i))) (λ j l. sym (sum_back n s j x l))
    ∙ sum_swap n n (λ j i. only (eqb (i + s) j) (x i))
    ∙ sum_same n (λ i. sum n (λ j. only (eqb (i + s) j) (x i))) x (λ i l. lands i l (dec_lt (i + s) n))
  where
    lands : (i : ℕ) → i < n → Dec (i + s < n) → sum n (λ j. only (eqb (i + s) j) (x i)) ≡ x i
    lands i k (yes l) =
        sum_one n (i + s) (λ j. only (eqb (i + s) j) (x i)) l (λ j m d. only_off (eqb (i + s) j) (x i) (λ t. d (sym (eqb→eq (i + s) j t))))
        ∙ only_on (eqb (i + s) (i + s)) (x i) (eqb_refl (i + s))
    lands i k (no d) =
        sum_none n (λ j. only (eqb (i + s) j) (x i)) (λ j m. ap (only (eqb (i + s) j)) (h i k d) ∙ only_zero (eqb (i + s) j))
        ∙ sym (h i k d)

-- a test on the place itself goes along
pub only_back : (s : ℕ) (m : ℕ → Bool) (x : ℕ → ℤ) (j : ℕ) → only (m j) (back s x j) ≡ back s (λ i. only (m (i + s)) (x i)) j
unfolding back
only_back s m x j =
    only_swap (m j) (leb s j) (x (j - s))
    ∙ only_same (leb s j) (only (m j) (x (j - s))) (only (m (j - s + s)) (x (j - s))) (λ t. ap (λ (k : ℕ). only (m k) (x (j - s))) (there (leb→le s j t)))
  where
    there : s ≤ j → j ≡ j - s + s
    there h = omega arith

-- ---- bounded
pub abs_add : (a b : ℤ) (s t : ℕ) → nat_abs a ≤ s → nat_abs b ≤ t → nat_abs (a +ℤ b) ≤ s + t
abs_add a b s t = linear (search (sizes, # a, # b) depth 30) (omega arith)

-- terms of at most t each, of which only those that pass the test count
pub sum_bound : (n t : ℕ) (test : ℕ → Bool) (g : ℕ → ℤ) → ((i : ℕ) → i < n → T (test i) → nat_abs (g i) ≤ t) → nat_abs (sum n (λ i. only (test i) (g i))) ≤ t * count n test
unfolding sum count
sum_bound zero t test g h = omega arith
sum_bound (suc n) t test g h = go (test n) (sum_bound n t test g (λ i l. h i (omega arith))) (h n (omega arith))
  where
    rest : ℤ
    rest = sum n (λ i. only (test i) (g i))

    go : (b : Bool) → nat_abs rest ≤ t * count n test → (T b → nat_abs (g n) ≤ t) → nat_abs (rest +ℤ only b (g n)) ≤ t * (count n test + cond b 1 0)
    go true r k = omega (arith, abs_add rest (g n) (t * count n test) t r (k tt))
    go false r k = omega (arith, abs_add rest (pos 0) (t * count n test) 0 r (omega arith))

pub count_most : (n : ℕ) (test : ℕ → Bool) → count n test ≤ n
unfolding count
count_most zero test = omega arith
count_most (suc n) test = go (test n) (count_most n test)
  where
    go : (b : Bool) → count n test ≤ n → count n test + cond b 1 0 ≤ suc n
    go true h = omega arith
    go false h = omega arith

-- n terms, at most k of them, of at most t each
pub sum_in : (n k t : ℕ) (g : ℕ → ℤ) → n ≤ k → ((i : ℕ) → i < n → Abs t (g i)) → Abs (t * k) (sum n g)
sum_in n k t g l h =
    abs_in (omega (arith, sum_bound n t (λ i. true) g (λ i m u. in_abs (h i m)), count_most n (λ i. true), mul-le-mul_left t (all n), mul-le-mul_left t l))
  where
    all : (n : ℕ) → count n (λ i. true) ≤ n
    all n = count_most n (λ i. true)

-- terms that are no greater add up to no more
pub sum_order : (n : ℕ) (f g : ℕ → ℤ) → ((i : ℕ) → i < n → f i ≤ℤ g i) → sum n f ≤ℤ sum n g
unfolding sum
sum_order zero f g h = ≤ℤ_refl (pos 0)
sum_order (suc n) f g h = from2 (sum_order n f g (λ i l. h i (omega arith))) (h n (omega arith)) (search (signed, # (sum n f), # (f n), # (sum n g), # (g n)) depth 30) (omega arith)

pub sum_not_negative : (n : ℕ) (f : ℕ → ℤ) → ((i : ℕ) → i < n → pos 0 ≤ℤ f i) → pos 0 ≤ℤ sum n f
sum_not_negative n f h = rw (← sum_zero n) (sum_order n (λ i. pos 0) f h)

pub sum_not_positive : (n : ℕ) (f : ℕ → ℤ) → ((i : ℕ) → i < n → f i ≤ℤ pos 0) → sum n f ≤ℤ pos 0
sum_not_positive n f h = rw (← sum_zero n) (sum_order n f (λ i. pos 0) h)

-- ---- how many pass a test: alike, and as a loop counts
pub count_same : (n : ℕ) (f g : ℕ → Bool) → ((i : ℕ) → i < n → f i ≡ g i) → count n f ≡ count n g
unfolding count
count_same zero f g h = refl
count_same (suc n) f g h = ap₂ (λ (k : ℕ) (b : Bool). k + cond b 1 0) (count_same n f g (λ i l. h i (omega arith))) (h n (omega arith))

pub count_start : (test : ℕ → Bool) → count 0 test ≡ 0
unfolding count
count_start test = refl

pub count_more : (n : ℕ) (test : ℕ → Bool) → count (n + 1) test ≡ count n test + cond (test n) 1 0
unfolding count
count_more n test = rw add-one
