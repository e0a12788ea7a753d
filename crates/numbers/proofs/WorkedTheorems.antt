-- Numbers worked by hand (document 01), by the definitions: "300 is AC 02; 80 00 is refused with 2; -1 is sent as 1." Assumes nothing.
use mathlib.Core.List.{[], ◌∷◌}
use mathlib.Core.Path.{◌≡◌, refl}
use lib.IntN.{negsuc}
use Rattle.numbers.specs.Numbers.{Ended, TooLong, Value, bytes_from, bytes_of, number_at, number_from, sent_of, signed_of}

pub three_hundred : number_at (0xAC ∷ 0x02 ∷ []) 0 ≡ Value 300 2
unfolding number_from
three_hundred = refl

pub three_hundred_sent : bytes_of 300 ≡ 0xAC ∷ 0x02 ∷ []
unfolding bytes_from
three_hundred_sent = refl

pub not_shortest : number_at (0x80 ∷ 0x00 ∷ []) 0 ≡ TooLong
unfolding number_from
not_shortest = refl

pub minus_one : (sent_of (negsuc 0) ≡ 1) × (signed_of 1 ≡ negsuc 0)
unfolding signed_of
minus_one = (refl, refl)

-- four bytes with their high bit are a file that ends too early, a fifth 0 makes the number too long, and so does a fifth byte with its high bit
pub five_bytes :
    (number_at (0x80 ∷ 0x80 ∷ 0x80 ∷ 0x80 ∷ []) 0 ≡ Ended)
    × ((number_at (0x80 ∷ 0x80 ∷ 0x80 ∷ 0x80 ∷ 0x00 ∷ []) 0 ≡ TooLong)
    × ((number_at (0x80 ∷ 0x80 ∷ 0x80 ∷ 0x80 ∷ 0x80 ∷ []) 0 ≡ TooLong)
    × (number_at (0xFF ∷ 0xFF ∷ 0xFF ∷ 0xFF ∷ 0x7F ∷ []) 0 ≡ Value 34359738367 5)))
unfolding number_from
five_bytes = (refl, (refl, (refl, refl)))
