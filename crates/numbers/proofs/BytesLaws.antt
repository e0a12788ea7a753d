-- Laws of a number's bytes: those of its shortest form are read back, what was read stands in that form, and which answer comes after bytes that have their
-- high bit set. Assumes nothing.
use mathlib.Core.List.{List, [], ◌++◌, ◌∷◌}
use mathlib.Core.Logic.{◌⊎◌, inl, inr, ⊎_elim}
use mathlib.Core.Path.{◌∙◌, ◌≡◌, ap, ap₂, refl, sym}
use Prim.Native.Nat.{◌%◌, ◌*◌, ◌+◌, ◌-◌, ◌/◌, ◌<◌, ◌^◌, ◌≤◌, min, suc, zero, ℕ}
use native.Mathlib.Decide.{dec_lt, ℕ_discrete}
use native.Mathlib.Nat.{add-mul, div-add-mod', mul_assoc, mul_comm}
use native.Mathlib.Numerals.{add-one}
use native.Mathlib.Omega.{arith}
use lib.ListN.{drop, get_or, length, length-append, length-drop}
use lib.Pow.{pow_pos}
use lib.Seq.{append_snoc, drop-cons, get_or-append_seam}
use borrow.Author.Tests.{le-ltb, lt-ltb}
use Rattle.numbers.specs.Meaning.{Continues}
use Rattle.numbers.specs.Numbers.{Ended, Number, TooLong, Value, bytes_from, bytes_of, most_bytes, number_at, number_from}
use Rattle.numbers.proofs.NumbersLaws.{ended, long, more, pow_seven, spent, value}

bytes_last : (left n : ℕ) → n < 128 → bytes_from (suc left) n ≡ n ∷ []
unfolding bytes_from
bytes_last left n h = simp (lt-ltb n 128 h)

bytes_more : (left n : ℕ) → 128 ≤ n → bytes_from (suc left) n ≡ (128 + n % 128) ∷ bytes_from left (n / 128)
unfolding bytes_from
bytes_more left n h = simp (le-ltb n 128 h)

-- one group and the rest make the number
regroup : (v n w : ℕ) → v + n % 128 * w + n / 128 * (w * 128) ≡ v + n * w
regroup v n w =
    let e : n / 128 * (w * 128) ≡ n / 128 * 128 * w = ap (λ (k : ℕ). n / 128 * k) (mul_comm w 128) ∙ sym (mul_assoc (n / 128) 128 w) in
    let f : (n / 128 * 128 + n % 128) * w ≡ n * w = ap (λ (k : ℕ). k * w) (div-add-mod' n 128) in
    omega (arith, add-mul (n / 128 * 128) (n % 128) w)

more_left : (left n : ℕ) → n < 2 ^ (7 * suc left) → 128 ≤ n → 0 < left
more_left zero n h k = absurd (omega arith)
more_left (suc left) n h k = omega arith

-- the shortest form of a number is read back, after groups that were worth v
pub read_back : (left least w v n : ℕ) (pre rest : List ℕ) → n < 2 ^ (7 * left) → 0 < left → least ≤ n →
    number_from left least w v (pre ++ (bytes_from left n ++ rest)) (length pre) ≡ Value (v + n * w) (length pre + length (bytes_from left n))
read_back zero least w v n pre rest h k l = absurd (omega arith)
read_back (suc left) least w v n pre rest h k l = go (dec_lt n 128) (read_back left 1 (w * 128) (v + n % 128 * w) (n / 128) (pre ++ ((128 + n % 128) ∷ [])) rest)
  where
    b : ℕ
    b = 128 + n % 128

    tl : List ℕ
    tl = bytes_from left (n / 128) ++ rest

    go : Dec (n < 128) →
        (n / 128 < 2 ^ (7 * left) → 0 < left → 1 ≤ n / 128 →
        number_from left 1 (w * 128) (v + n % 128 * w) ((pre ++ (b ∷ [])) ++ tl) (length (pre ++ (b ∷ [])))
        ≡ Value (v + n % 128 * w + n / 128 * (w * 128)) (length (pre ++ (b ∷ [])) + length (bytes_from left (n / 128)))) →
        number_from (suc left) least w v (pre ++ (bytes_from (suc left) n ++ rest)) (length pre) ≡ Value (v + n * w) (length pre + length (bytes_from (suc left) n))
    go (yes e) ih =
        let g : get_or (pre ++ (n ∷ rest)) (length pre) 0 ≡ n = get_or-append_seam pre n rest 0 in
        let m : n % 128 ≡ n = omega arith in
        rw (bytes_last left n e) (value (pre ++ (n ∷ rest)) (length pre) least w v (suc left) (omega arith) (simp length-append (omega arith)) (rw g e) (rw g l) ∙ rw g (rw m refl))
    go (no e) ih =
        let g : get_or (pre ++ (b ∷ tl)) (length pre) 0 ≡ b = get_or-append_seam pre b tl 0 in
        let m : b % 128 ≡ n % 128 = omega arith in
        let q : suc left - 1 ≡ left = omega arith in
        let f : n / 128 < 2 ^ (7 * left) = omega (arith, pow_seven left) in
        let len : length (pre ++ (b ∷ [])) ≡ length pre + 1 = length-append pre (b ∷ []) in
        let r = rw (append_snoc pre b tl, len) at (ih f (more_left left n h (omega arith)) (omega arith)) in
        rw (bytes_more left n (omega arith))
        (more (pre ++ (b ∷ tl)) (length pre) least w v (suc left) (omega arith) (simp length-append (omega arith)) (rw g (omega arith))
        ∙ rw (g, m, q) (r ∙ ap₂ Value (regroup v n w) (omega arith)))

-- what was read, after groups that were worth v: a number n whose shortest form stands at its place
pub record Written (left least w v x next at : ℕ) (s : List ℕ) : Type 0 where
  pub n : ℕ
  pub is : x ≡ v + n * w
  pub least_is : least ≤ n
  pub below : n < 2 ^ (7 * left)
  pub stands : drop at s ≡ bytes_from left n ++ drop next s
  pub moves : next ≡ at + length (bytes_from left n)

pub write_back : (left least w v x next at : ℕ) (s : List ℕ) → ((i : ℕ) → get_or s i 0 < 256) → least ≤ 1 →
    number_from left least w v s at ≡ Value x next → Written left least w v x next at s
write_back zero least w v x next at s by k e = let z : ◌≡◌ {A = ℕ} 0 1 = cc (spent s at least w v 0 (omega arith)) in absurd (omega arith)
write_back (suc left) least w v x next at s by k e = go (dec_lt at (length s)) (dec_lt (get_or s at 0) 128) (write_back left 1 (w * 128) (v + get_or s at 0 % 128 * w) x next (at + 1) s by (omega arith))
  where
    b : ℕ
    b = get_or s at 0

    last : at < length s → b < 128 → least ≤ b → Written (suc left) least w v x next at s
    last i f l =
        let m = value s at least w v (suc left) (omega arith) i f l in
        let xe : x ≡ v + b % 128 * w = cc in
        let ne : next ≡ at + 1 = cc in
        let bb : b % 128 ≡ b = omega arith in
        let bl : bytes_from (suc left) b ≡ b ∷ [] = bytes_last left b f in
        record {
          n = b;
          is = xe ∙ rw bb refl;
          least_is = l;
          below = omega (arith, pow_seven left, pow_pos (7 * left));
          stands = rw (bl, ne, add-one) (drop-cons s at 0 i);
          moves = rw bl ne;
        }

    more_of : at < length s → 128 ≤ b → Written left 1 (w * 128) (v + b % 128 * w) x next (at + 1) s → Written (suc left) least w v x next at s
    more_of i f r =
        let n' : ℕ = r.n * 128 + b % 128 in
        let low : n' % 128 ≡ b % 128 = omega arith in
        let high : n' / 128 ≡ r.n = omega arith in
        let whole : 128 + n' % 128 ≡ b = omega (arith, by at) in
        let bm = rw (high, whole) at (bytes_more left n' (omega (arith, r.least_is))) in
        record {
          n = n';
          is = r.is ∙ (rw (low, high) at (regroup v n' w));
          least_is = omega (arith, r.least_is);
          below = omega (arith, pow_seven left, r.below);
          stands = rw bm (drop-cons s at 0 i ∙ ap (λ (l : List ℕ). b ∷ l) (rw (← add-one) r.stands));
          moves = rw bm (omega (arith, r.moves));
        }

    long_not : at < length s → b < 128 → b < least → Written (suc left) least w v x next at s
    long_not i f l = let m = long s at least w v (suc left) (omega arith) i f l in let z : ◌≡◌ {A = ℕ} 0 1 = cc in absurd (omega arith)

    short : at < length s → b < 128 → Dec (b < least) → Written (suc left) least w v x next at s
    short i f (yes l) = long_not i f l
    short i f (no l) = last i f (omega arith)

    go : Dec (at < length s) → Dec (b < 128) → (number_from left 1 (w * 128) (v + b % 128 * w) s (at + 1) ≡ Value x next → Written left 1 (w * 128) (v + b % 128 * w) x next (at + 1) s) → Written (suc left) least w v x next at s
    go (no i) f r = let z : ◌≡◌ {A = ℕ} 0 1 = cc (ended s at least w v (suc left) (omega arith) (omega arith)) in absurd (omega arith)
    go (yes i) (yes f) r = short i f (dec_lt b least)
    go (yes i) (no f) r =
        let q : suc left - 1 ≡ left = omega arith in
        let m = rw q at (more s at least w v (suc left) (omega arith) i (omega arith)) in
        more_of i (omega arith) (r (sym m ∙ e))

some_bytes : (left n : ℕ) → 1 ≤ length (bytes_from (suc left) n)
some_bytes left n = go (dec_lt n 128)
  where
    go : Dec (n < 128) → 1 ≤ length (bytes_from (suc left) n)
    go (yes h) = rw (bytes_last left n h) (omega arith)
    go (no h) = rw (bytes_more left n (omega arith)) (omega arith)

-- where a file has bytes from a place on, the place is inside
pub starts_inside : (file rest : List ℕ) (at n : ℕ) → drop at file ≡ bytes_of n ++ rest → at < length file
starts_inside file rest at n e = omega (arith, some_bytes 4 n, length-append (bytes_of n) rest, length-drop at file, ap length e)

-- ---- bytes that have their high bit set

module _ (s : List ℕ) (at : ℕ) where
  -- After k of them the number goes on with the byte that follows; where there are any, its last byte must be at least 1.
  goes_on : (k : ℕ) → k ≤ most_bytes → Continues s at k → (w : ℕ) × (v : ℕ) × (number_at s at ≡ number_from (most_bytes - k) (min k 1) w v s (at + k))
  goes_on zero h c = let e : at + 0 ≡ at = omega arith in (1, 0, rw e refl)
  goes_on (suc k) h c =
      let r = goes_on k (omega arith) (λ i l. c i (omega arith)) in
      let b = c k (omega arith) in
      let p : most_bytes - k - 1 ≡ most_bytes - suc k = omega arith in
      let q : at + k + 1 ≡ at + suc k = omega arith in
      let m : min (suc k) 1 ≡ 1 = omega arith in
      (r.0 * 128, r.1 + get_or s (at + k) 0 % 128 * r.0, rw m (r.2 ∙ rw (p, q) at (more s (at + k) (min k 1) r.0 r.1 (most_bytes - k) (omega arith) b.0 b.1)))

  -- what follows k of them, where they are fewer than five: the end of the file, or a last byte, which is 0 or not
  module _ (k : ℕ) (fewer : k < most_bytes) (c : Continues s at k) where
    pub end_follows : length s ≤ at + k → number_at s at ≡ Ended
    end_follows e = let r = goes_on k (omega arith) c in r.2 ∙ ended s (at + k) (min k 1) r.0 r.1 (most_bytes - k) (omega arith) e

    pub zero_follows : 1 ≤ k → at + k < length s → get_or s (at + k) 0 ≡ 0 → number_at s at ≡ TooLong
    zero_follows some i z = let r = goes_on k (omega arith) c in r.2 ∙ long s (at + k) (min k 1) r.0 r.1 (most_bytes - k) (omega arith) i (omega arith) (omega arith)

    last_follows : at + k < length s → get_or s (at + k) 0 < 128 → min k 1 ≤ get_or s (at + k) 0 → (n : ℕ) × (next : ℕ) × (number_at s at ≡ Value n next)
    last_follows i b l = let r = goes_on k (omega arith) c in (_, _, r.2 ∙ value s (at + k) (min k 1) r.0 r.1 (most_bytes - k) (omega arith) i b l)

  pub five_high : Continues s at most_bytes → number_at s at ≡ TooLong
  five_high c = let r = goes_on most_bytes (omega arith) c in r.2 ∙ spent s (at + most_bytes) 1 r.0 r.1 0 (omega arith)

-- each way in which such bytes come to an end, with the answer that it gives
pub data Found (s : List ℕ) (at : ℕ) : Number → Type 0 where
  ends : (k : ℕ) → k < most_bytes → Continues s at k → length s ≤ at + k → Found s at Ended
  five : Continues s at most_bytes → Found s at TooLong
  zero_last : (k : ℕ) → 1 ≤ k → k < most_bytes → Continues s at k → at + k < length s → get_or s (at + k) 0 ≡ 0 → Found s at TooLong
  number : (n next : ℕ) → Found s at (Value n next)

module _ (s : List ℕ) (at : ℕ) where
  one_more : (k : ℕ) → Continues s at k → at + k < length s → 128 ≤ get_or s (at + k) 0 → Continues s at (suc k)
  one_more k c i b = λ j l. go j l (ℕ_discrete j k)
    where
      go : (j : ℕ) → j < suc k → Dec (j ≡ k) → (at + j < length s) × (128 ≤ get_or s (at + j) 0)
      go j l (yes e) = rw e (i, b)
      go j l (no e) = c j (omega arith)

  look : (most : ℕ) → most ≤ most_bytes → Continues s at most ⊎ Found s at (number_at s at)
  look zero h = inl (λ i l. absurd (omega arith))
  look (suc k) h = go (look k (omega arith)) (dec_lt (at + k) (length s)) (dec_lt (get_or s (at + k) 0) 128) (dec_lt (get_or s (at + k) 0) (min k 1))
    where
      go : Continues s at k ⊎ Found s at (number_at s at) → Dec (at + k < length s) → Dec (get_or s (at + k) 0 < 128) → Dec (get_or s (at + k) 0 < min k 1) → Continues s at (suc k) ⊎ Found s at (number_at s at)
      go (inr f) i b z = inr f
      go (inl c) (no i) b z = inr (rw (end_follows s at k (omega arith) c (omega arith)) (ends k (omega arith) c (omega arith)))
      go (inl c) (yes i) (no b) z = inl (one_more k c i (omega arith))
      go (inl c) (yes i) (yes b) (yes z) = inr (rw (zero_follows s at k (omega arith) c (omega arith) i (omega arith)) (zero_last k (omega arith) (omega arith) c i (omega arith)))
      go (inl c) (yes i) (yes b) (no z) = let v = last_follows s at k (omega arith) c i b (omega arith) in inr (rw v.2 (number v.0 v.1))

  pub found : Found s at (number_at s at)
  found = ⊎_elim (λ c. rw (five_high s at c) (five c)) (λ f. f) (look most_bytes (omega arith))
