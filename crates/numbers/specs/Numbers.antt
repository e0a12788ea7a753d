-- Numbers of a case file (document 01, "The case file").
use Rattle.std.specs.Prelude.{cond, List, [], ◌∷◌, ℕ, zero, suc, ◌+◌, ◌*◌, ◌/◌, ◌%◌, eqb, leb, ltb, ℤ, pos, negsuc, length, get_or, Result, Ok, Err}
use Rattle.numbers.specs.declared.Number.{Number as Found}
use Rattle.numbers.specs.declared.NumberError.{NumberError}
use Rattle.numbers.specs.declared.NumberError.TheVariants as error

-- What stands at a place of a file: a number and the place after it; or the file "ends where a byte is still needed"; or "a number is longer than its
-- shortest form, or a fifth byte has its high bit set".
pub data Number : Type 0 where
  Value : (value next : ℕ) → Number
  Ended : Number
  TooLong : Number

-- the same of what the functions answer with
abbrev pub number_in : Result Found NumberError → Number
number_in (Ok n) = Value n.value n.next
number_in (Err error.Ended) = Ended
number_in (Err error.TooLong) = TooLong

-- "at most five bytes"
abbrev pub most_bytes : ℕ
most_bytes = 5

-- "Numbers in groups of seven bits, low group first, high bit set on all but the last byte, at most five bytes, shortest form only." The number of which
-- some bytes were read, and whose next byte is at the place `at`:
--   left: how many bytes may still be read, "at most five bytes"
--   least: the least that its last byte may be, "shortest form only": 0 for the first byte, and 1 after it, where a last byte of 0 would add nothing
--   weight: what a 1 in the next byte's group is worth, "groups of seven bits, low group first": 1 for the first byte, then 128 times as much each time
--   sum: what the groups that were read are worth together
unfoldable pub number_from : ℕ → ℕ → ℕ → ℕ → List ℕ → ℕ → Number
-- 2: "a fifth byte has its high bit set"
number_from zero least weight sum file at = TooLong
number_from (suc left) least weight sum file at =
    let byte = get_or file at 0 in
    let total = sum + byte % 128 * weight in
    -- 1: "the file ends where a byte is still needed"
    cond (leb (length file) at) Ended
    -- "high bit set on all but the last byte": the number goes on
    (cond (leb 128 byte) (number_from left 1 (weight * 128) total file (at + 1))
    -- 2: "a number is longer than its shortest form"
    (cond (ltb byte least) TooLong
    -- this was its last byte
    (Value total (at + 1))))

-- the number whose first byte is at a place: nothing was read before it
abbrev pub number_at : List ℕ → ℕ → Number
number_at file at = number_from most_bytes 0 1 0 file at

-- "low group first, high bit set on all but the last byte, .. shortest form only": the bytes of a number, in at most `left` bytes
unfoldable pub bytes_from : ℕ → ℕ → List ℕ
bytes_from zero n = []
bytes_from (suc left) n = cond (ltb n 128) (n ∷ []) ((128 + n % 128) ∷ bytes_from left (n / 128))

abbrev pub bytes_of : ℕ → List ℕ
bytes_of n = bytes_from most_bytes n

-- "Signed fields .. are sent as 2n for n ≥ 0 and -2n-1 below zero"; negsuc m is -(m + 1), for which -2n-1 is 2m + 1
abbrev pub sent_of : ℤ → ℕ
sent_of (pos m) = m * 2
sent_of (negsuc m) = m * 2 + 1

-- the signed number that is sent so
unfoldable pub signed_of : ℕ → ℤ
signed_of n = cond (eqb (n % 2) 0) (pos (n / 2)) (negsuc (n / 2))
