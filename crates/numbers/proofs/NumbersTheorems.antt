-- What the numbers of a case file are: exactly those in their shortest form; which bytes are none, with 1 and with 2; and signed ones without loss. Assumes
-- nothing.
use mathlib.Core.List.{List, ◌++◌}
use mathlib.Core.Logic.{◌↔◌, ◌⊎◌, inl, inr, ⊎_elim}
use mathlib.Core.Path.{◌∙◌, ◌≡◌, refl, subst}
use Prim.Native.Nat.{◌%◌, ◌*◌, ◌+◌, ◌/◌, ◌<◌, ◌^◌, ◌≤◌, ℕ}
use native.Mathlib.Decide.{ℕ_discrete}
use native.Mathlib.Omega.{arith}
use lib.IntN.{negsuc, pos, ℤ}
use lib.ListN.{drop, get_or, length, take, take-append-drop}
use lib.Seq.{length-take-le}
use borrow.Author.Tests.{eq-eqb, ne_eqb}
use Rattle.numbers.specs.Meaning.{Continues}
use Rattle.numbers.specs.Numbers.{Ended, TooLong, Value, bytes_of, most_bytes, number_at, sent_of, signed_of}
use Rattle.numbers.proofs.BytesLaws.{Found, end_follows, five_high, found, starts_inside, read_back, write_back, zero_follows}
use Rattle.numbers.proofs.BytesLaws.Found.{ends, five, zero_last}

-- A number below 2^35 that stands in its shortest form is read, wherever in a file it stands.
pub read_written : (n : ℕ) (pre rest : List ℕ) → n < 2 ^ 35 → number_at (pre ++ (bytes_of n ++ rest)) (length pre) ≡ Value n (length pre + length (bytes_of n))
read_written n pre rest h =
    let e : 0 + n * 1 ≡ n = omega arith in
    read_back 5 0 1 0 n pre rest h (omega arith) (omega arith) ∙ rw e refl

-- What is read is below 2^35 and stood in its shortest form: the bytes from its place on are that form, and the reader's next place is right after it.
pub shortest_read : (file : List ℕ) (at n next : ℕ) → ((i : ℕ) → get_or file i 0 < 256) → number_at file at ≡ Value n next
    → (n < 2 ^ 35) × (drop at file ≡ bytes_of n ++ drop next file) × (next ≡ at + length (bytes_of n))
shortest_read file at n next bytes e =
    let w = write_back most_bytes 0 1 0 n next at file bytes (omega arith) e in
    let m : w.n ≡ n = omega (arith, w.is) in
    rw (← m) (w.below, w.stands, w.moves)

-- A number is read exactly where it is below 2^35 and stands in its shortest form.
pub value_exactly : (file : List ℕ) (at n next : ℕ) → ((i : ℕ) → get_or file i 0 < 256)
    → (number_at file at ≡ Value n next) ↔ ((n < 2 ^ 35) × (drop at file ≡ bytes_of n ++ drop next file) × (next ≡ at + length (bytes_of n)))
value_exactly file at n next bytes = (shortest_read file at n next bytes, λ h. stands h.0 h.1 h.2)
  where
    stands : n < 2 ^ 35 → drop at file ≡ bytes_of n ++ drop next file → next ≡ at + length (bytes_of n) → number_at file at ≡ Value n next
    stands below from moves =
        let front = length-take-le at file (omega (arith, starts_inside file (drop next file) at n from)) in
        rw moves (rw (← from, take-append-drop, front) at (read_written n (take at file) (drop next file) below))

-- 1: "the file ends where a byte is still needed". Fewer than five bytes from the place on have their high bit set, and the file ends after them.
pub ended_exactly : (file : List ℕ) (at : ℕ)
    → (number_at file at ≡ Ended) ↔ ((k : ℕ) × (k < most_bytes) × Continues file at k × (length file ≤ at + k))
ended_exactly file at = (λ e. go (subst (Found file at) e (found file at)), λ h. end_follows file at h.0 h.1 h.2 h.3)
  where
    go : Found file at Ended → (k : ℕ) × (k < most_bytes) × Continues file at k × (length file ≤ at + k)
    go (ends k h c l) = (k, h, c, l)

-- 2: "a number is longer than its shortest form, or a fifth byte has its high bit set". Five bytes from the place on have it set; or fewer do, at least
-- one, and the byte after them is 0.
pub too_long_exactly : (file : List ℕ) (at : ℕ)
    → (number_at file at ≡ TooLong)
    ↔ (Continues file at most_bytes ⊎ ((k : ℕ) × (1 ≤ k) × (k < most_bytes) × Continues file at k × (at + k < length file) × (get_or file (at + k) 0 ≡ 0)))
too_long_exactly file at = (
  λ e. go (subst (Found file at) e (found file at)),
  ⊎_elim (five_high file at) (λ h. zero_follows file at h.0 h.2 h.3 h.1 h.4 h.5),
)
  where
    go : Found file at TooLong
        → Continues file at most_bytes ⊎ ((k : ℕ) × (1 ≤ k) × (k < most_bytes) × Continues file at k × (at + k < length file) × (get_or file (at + k) 0 ≡ 0))
    go (five c) = inl c
    go (zero_last k some h c i z) = inr (k, some, h, c, i, z)

-- "Signed fields .. are sent as 2n for n ≥ 0 and -2n-1 below zero", and nothing is lost: each signed number is sent and read back, and each number that is sent is one.
pub signed_sent : (z : ℤ) → signed_of (sent_of z) ≡ z
unfolding signed_of
signed_sent (pos m) =
    let q : m * 2 / 2 ≡ m = omega arith in
    simp (eq-eqb (m * 2 % 2) 0 (omega arith), q)
signed_sent (negsuc m) =
    let q : (m * 2 + 1) / 2 ≡ m = omega arith in
    simp (ne_eqb ((m * 2 + 1) % 2) 0 (omega arith), q)

pub sent_signed : (n : ℕ) → sent_of (signed_of n) ≡ n
unfolding signed_of
sent_signed n = go (ℕ_discrete (n % 2) 0)
  where
    go : Dec (n % 2 ≡ 0) → sent_of (signed_of n) ≡ n
    go (yes e) = simp (eq-eqb (n % 2) 0 e) (omega arith)
    go (no e) = simp (ne_eqb (n % 2) 0 e) (omega arith)
