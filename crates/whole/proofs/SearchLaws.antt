-- Laws of tests over the numbers below n, and of the greatest of n numbers: what a loop that looks at one after the other shows, and what the answer
-- tells of each.
-- Assumes nothing.
use mathlib.Core.Path.{◌≡◌, refl, sym, ap₂, ◌∙◌, subst}
use mathlib.Core.Logic.{◌⊎◌, inl, inr, ⊎_elim}
use mathlib.Core.Bool.{Bool, true, false, cond, ◌&&◌, not, ◌||◌, true≢false}
use Prim.Native.Nat.{ℕ, zero, suc, ◌+◌, ◌-◌, ◌≤◌, ◌<◌}
use native.Mathlib.Nat.{not-suc-le-zero, le_of_suc-le-suc, eq-or-lt_of_le}
use native.Mathlib.Numerals.{add-one}
use native.Mathlib.Omega.{arith}
use lib.Dec.{T, eqb}
use lib.IntN.{ℤ, pos}
use lib.Signed.{◌≤ℤ◌, ≤ℤ_refl}
use borrow.Author.Tests.{ne_eqb}
use Rattle.whole.specs.Whole.{max_ℤ}
use Rattle.whole.specs.Sum.{count}
use Rattle.whole.specs.Search.{every, first_of, most_of}
use Rattle.whole.proofs.OrderLaws.{≤ℤ_antisymm, ≤ℤ_trans, max_ℤ_l, max_ℤ_r, max_ℤ-≤, max_ℤ_or}

-- ---- tests as facts
pub holds : {b : Bool} → b ≡ true → T b
holds e = subst T (sym e) tt

pub true_is : {b : Bool} → T b → b ≡ true
true_is {b} t = go b t
  where
    go : (b : Bool) → T b → b ≡ true
    go true t = refl
    go false t = absurd t

pub both : (a b : Bool) → T (a && b) → T a × T b
both true b t = (tt, t)
both false b t = absurd t

pub joint : (a b : Bool) → T a → T b → T (a && b)
joint true b s t = t
joint false b s t = absurd s

-- two tests that tell the same
pub same_test : (a b : Bool) → (T a → T b) → (T b → T a) → a ≡ b
same_test true true f g = refl
same_test true false f g = absurd (f tt)
same_test false true f g = absurd (g tt)
same_test false false f g = refl

-- none of several
pub not_left : (a b : Bool) → (a || b) ≡ false → a ≡ false
not_left true b e = absurd (true≢false e)
not_left false b e = refl

pub not_right : (a b : Bool) → (a || b) ≡ false → b ≡ false
not_right true b e = absurd (true≢false e)
not_right false b e = e

-- the second of two, where the first holds
pub not_second : (a b : Bool) → (a && b) ≡ false → T a → b ≡ false
not_second true b e t = e
not_second false b e t = absurd t

-- and neither of two, nor both of them
pub neither : (a b : Bool) → a ≡ false → b ≡ false → (a || b) ≡ false
neither true b e f = e
neither false b e f = f

pub second_not : (a b : Bool) → (T a → b ≡ false) → (a && b) ≡ false
second_not true b h = h tt
second_not false b h = refl

-- one of two, by a test
pub cond_true : (c a b : Bool) → T (cond c a b) → T c → T a
cond_true true a b t u = t
cond_true false a b t u = absurd u

pub cond_false : (c a b : Bool) → T (cond c a b) → T (not c) → T b
cond_false true a b t u = absurd u
cond_false false a b t u = t

pub one_or_other : {A : Type 0} (b : Bool) (x y : A) → (cond b x y ≡ x) ⊎ (cond b x y ≡ y)
one_or_other true x y = inl refl
one_or_other false x y = inr refl

-- what holds of both
pub cond_both : {A : Type 0} (P : A → Type 0) (b : Bool) {x y : A} → P x → P y → P (cond b x y)
cond_both P true h k = h
cond_both P false h k = k

-- a number that is not 0 follows another
pub follows : (n : ℕ) → (n ≡ 0 → ⊥) → n ≡ suc (n - 1)
follows zero h = absurd (h refl)
follows (suc n) h = omega arith

-- ---- all of them pass
module _ (test : ℕ → Bool) where
  pub every_start : every 0 test ≡ true
  unfolding every
  every_start = refl

  pub every_more : (i : ℕ) → every i test ≡ true → test i ≡ true → every (i + 1) test ≡ true
  unfolding every
  every_more i e h = rw (add-one, e, h)

  -- the one at i does not
  pub every_fails : (i n : ℕ) → i < n → test i ≡ false → every n test ≡ false
  unfolding every
  every_fails i zero l h = absurd (not-suc-le-zero l)
  every_fails i (suc n) l h = ⊎_elim (λ p. rw (← p, h) (ends (every i test))) (λ q. rw (every_fails i n q h)) (eq-or-lt_of_le (le_of_suc-le-suc l))
    where
      ends : (b : Bool) → b && false ≡ false
      ends true = refl
      ends false = refl

  pub every_all : (n : ℕ) → T (every n test) → (i : ℕ) → i < n → T (test i)
  unfolding every
  every_all zero t i l = absurd (not-suc-le-zero l)
  every_all (suc n) t i l =
      let h = both (every n test) (test n) t in
      ⊎_elim (λ p. rw p h.1) (λ q. every_all n h.0 i q) (eq-or-lt_of_le (le_of_suc-le-suc l))

  -- and so they do, where each passes
  pub every_passes : (n : ℕ) → ((i : ℕ) → i < n → T (test i)) → every n test ≡ true
  unfolding every
  every_passes zero h = refl
  every_passes (suc n) h = ap₂ ◌&&◌ (every_passes n (λ i l. h i (omega arith))) (true_is (h n (omega arith)))

-- ---- the first of them that passes
module _ (test : ℕ → Bool) where
  pub first_start : first_of 0 test ≡ 0
  unfolding first_of
  first_start = refl

  pub first_more : (i : ℕ) → first_of i test ≡ 0 → test i ≡ false → first_of (i + 1) test ≡ 0
  unfolding first_of
  first_more i e h = rw (add-one, e, h)

  pub first_found : (i n : ℕ) → i < n → first_of i test ≡ 0 → test i ≡ true → first_of n test ≡ i + 1
  unfolding first_of
  first_found i zero l e h = absurd (not-suc-le-zero l)
  first_found i (suc n) l e h =
      ⊎_elim (λ p. rw (← p, e, h) (sym (add-one i))) (λ q. rw (first_found i n q e h, ne_eqb (i + 1) 0 (omega arith))) (eq-or-lt_of_le (le_of_suc-le-suc l))

  -- where there is none, none passes
  pub first_none : (n : ℕ) → first_of n test ≡ 0 → (i : ℕ) → i < n → test i ≡ false
  unfolding first_of
  first_none zero e i l = absurd (not-suc-le-zero l)
  first_none (suc n) e i l =
      let h = last (first_of n test) (test n) refl e in
      ⊎_elim (λ p. rw p h.1) (λ q. first_none n h.0 i q) (eq-or-lt_of_le (le_of_suc-le-suc l))
    where
      last : (k : ℕ) (b : Bool) → first_of n test ≡ k → cond (eqb k 0) (cond b (suc n) 0) k ≡ 0 → (first_of n test ≡ 0) × (b ≡ false)
      last zero true p e = absurd (omega arith)
      last zero false p e = (p, refl)
      last (suc k) b p e = absurd (omega (arith, rw (ne_eqb (suc k) 0 (omega arith)) at e))

  -- none passes, so there is none
  pub none_first : (n : ℕ) → ((i : ℕ) → i < n → test i ≡ false) → first_of n test ≡ 0
  unfolding first_of
  none_first zero h = refl
  none_first (suc n) h = rw (none_first n (λ i l. h i (omega arith)), h n (omega arith))

  -- the first passes, and none before it does
  pub first_is : (n p : ℕ) → first_of n test ≡ suc p → (p < n) × ((test p ≡ true) × (first_of p test ≡ 0))
  unfolding first_of
  first_is zero p e = absurd (omega arith)
  first_is (suc n) p e = last (first_of n test) (test n) refl refl (first_is n p) e
    where
      First : ℕ → Type 0
      First m = (p < m) × ((test p ≡ true) × (first_of p test ≡ 0))

      last : (k : ℕ) (b : Bool) → first_of n test ≡ k → test n ≡ b → (first_of n test ≡ suc p → First n) → cond (eqb k 0) (cond b (suc n) 0) k ≡ suc p → First (suc n)
      last zero true r t h e =
          let same : p ≡ n = omega arith in
          (omega arith, (rw same t, rw same r))
      last zero false r t h e = absurd (omega arith)
      last (suc k) b r t h e =
          let f = h (r ∙ (rw (ne_eqb (suc k) 0 (omega arith)) at e)) in
          (omega (arith, f.0), f.1)

  pub first_most : (n : ℕ) → first_of n test ≤ n
  unfolding first_of
  first_most zero = omega arith
  first_most (suc n) = last (first_of n test) (test n) (first_most n)
    where
      last : (k : ℕ) (b : Bool) → k ≤ n → cond (eqb k 0) (cond b (suc n) 0) k ≤ suc n
      last zero true h = omega arith
      last zero false h = omega arith
      last (suc k) b h = rw (ne_eqb (suc k) 0 (omega arith)) (omega arith)

  -- none is counted where there is no first, and only there
  pub count_none : (n : ℕ) → first_of n test ≡ 0 → count n test ≡ 0
  unfolding count
  count_none zero e = refl
  count_none (suc n) e = rw (count_none n (none_first n (λ i l. first_none (suc n) e i (omega arith))), first_none (suc n) e n (omega arith))

  pub none_counted : (n : ℕ) → count n test ≡ 0 → first_of n test ≡ 0
  unfolding count first_of
  none_counted zero e = refl
  none_counted (suc n) e = last (test n) (none_counted n) e
    where
      last : (b : Bool) → (count n test ≡ 0 → first_of n test ≡ 0) → count n test + cond b 1 0 ≡ 0 → cond (eqb (first_of n test) 0) (cond b (suc n) 0) (first_of n test) ≡ 0
      last true h e = absurd (omega arith)
      last false h e = rw (h (omega arith))

-- a test of all numbers below n asks nothing of the others
pub every_same : (n : ℕ) (f g : ℕ → Bool) → ((i : ℕ) → i < n → f i ≡ g i) → every n f ≡ every n g
unfolding every
every_same zero f g h = refl
every_same (suc n) f g h = ap₂ ◌&&◌ (every_same n f g (λ i l. h i (omega arith))) (h n (omega arith))

pub first_same : (n : ℕ) (f g : ℕ → Bool) → ((i : ℕ) → i < n → f i ≡ g i) → first_of n f ≡ first_of n g
unfolding first_of
first_same zero f g h = refl
first_same (suc n) f g h = ap₂ (λ (k : ℕ) (b : Bool). cond (eqb k 0) (cond b (suc n) 0) k) (first_same n f g (λ i l. h i (omega arith))) (h n (omega arith))

-- ---- the greatest of them, and of 0
pub most_same : (n : ℕ) (f g : ℕ → ℤ) → ((i : ℕ) → i < n → f i ≡ g i) → most_of n f ≡ most_of n g
unfolding most_of
most_same zero f g h = refl
most_same (suc n) f g h = ap₂ max_ℤ (most_same n f g (λ i l. h i (omega arith))) (h n (omega arith))

module _ (f : ℕ → ℤ) where
  pub most_start : most_of 0 f ≡ pos 0
  unfolding most_of
  most_start = refl

  pub most_more : (n : ℕ) → most_of (n + 1) f ≡ max_ℤ (most_of n f) (f n)
  unfolding most_of
  most_more n = rw add-one

  pub most_least : (n : ℕ) → pos 0 ≤ℤ most_of n f
  unfolding most_of
  most_least zero = ≤ℤ_refl (pos 0)
  most_least (suc n) = ≤ℤ_trans (most_least n) (max_ℤ_l (most_of n f) (f n))

  -- each is at most the greatest
  pub most_bounds : (n i : ℕ) → i < n → f i ≤ℤ most_of n f
  unfolding most_of
  most_bounds zero i l = absurd (not-suc-le-zero l)
  most_bounds (suc n) i l =
      ⊎_elim (λ p. rw p (max_ℤ_r (most_of n f) (f n))) (λ q. ≤ℤ_trans (most_bounds n i q) (max_ℤ_l (most_of n f) (f n))) (eq-or-lt_of_le (le_of_suc-le-suc l))

  -- and the greatest is at most what bounds each, and 0
  pub most_within : (n : ℕ) (z : ℤ) → pos 0 ≤ℤ z → ((i : ℕ) → i < n → f i ≤ℤ z) → most_of n f ≤ℤ z
  unfolding most_of
  most_within zero z o h = o
  most_within (suc n) z o h = max_ℤ-≤ (most_of n f) (f n) z (most_within n z o (λ i l. h i (omega arith))) (h n (omega arith))

  -- 0 where each is
  pub most_none : (n : ℕ) → ((i : ℕ) → i < n → f i ≡ pos 0) → most_of n f ≡ pos 0
  most_none n h = ≤ℤ_antisymm (most_within n (pos 0) (≤ℤ_refl (pos 0)) (λ i l. rw (h i l) (≤ℤ_refl (pos 0)))) (most_least n)

  -- the greatest is one of them, or 0
  pub most_reached : (n : ℕ) → (most_of n f ≡ pos 0) ⊎ ((i : ℕ) × ((i < n) × (most_of n f ≡ f i)))
  unfolding most_of
  most_reached zero = inl refl
  most_reached (suc n) =
      ⊎_elim (λ h. inr (n, (omega arith, h.0)))
      (λ h. ⊎_elim (λ e. inl (h.0 ∙ e)) (λ w. inr (w.0, (omega (arith, w.1.0), h.0 ∙ w.1.1))) (most_reached n))
      (max_ℤ_or (most_of n f) (f n))
