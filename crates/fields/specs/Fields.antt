-- The numbers that a case file sends, one at a time (document 01, "The case file" and "Refusal numbers").
use Rattle.std.specs.Prelude.{Bool, ◌&&◌, cond, false, true, List, [], ◌∷◌, ◌+◌, ℕ, eqb, leb, pos, ℤ, get_or, length, Result, Ok, Err}
use Rattle.std.specs.Int.Signed.{lt_z}
use Rattle.whole.specs.declared.ranges.Range.{Range}
use Rattle.whole.specs.Ranges.{between, in_range}
use Rattle.whole.specs.Whole.{is_zero}
use Rattle.numbers.specs.Numbers.{Number, number_at, signed_of}
use Rattle.grid.specs.Record.{counts, density}
use Rattle.grid.specs.Units.{least_fresh_weight, least_salt_weight, most_across, most_delta, most_fresh_weight, most_layers, most_salt_weight, most_step, most_tolerance}
use Rattle.slots.specs.Ranges.{range_of}
use Rattle.slots.specs.Rules.{is_open}
use Rattle.slots.specs.Slots.{is_active, slots_at}
use Rattle.slices.specs.declared.refusal.Refusal.{Refusal as Fault}
use Rattle.slices.specs.Refusals.{Refusal, block_of, number_of}
use Rattle.slices.specs.Slices.{most_width, refusal}
use Rattle.fields.specs.declared.Field.{Field}
use Rattle.fields.specs.declared.Part.{Part}
use Rattle.fields.specs.declared.Part.TheVariants.{Counts, Density, Slots, Terms, Widths}
use Rattle.numbers.specs.Numbers as number
use Rattle.numbers.specs.declared.NumberError.{NumberError}
use Rattle.numbers.specs.declared.NumberError.TheVariants as error

-- A number that was read, and the place after it; or a refusal.
pub data Got : Type 0 where
  Value : (value : ℤ) → (next : ℕ) → Got
  Refused : (refusal : Refusal) → Got

-- what the functions refuse with, by its number and block
abbrev pub refusal_of : Fault → Refusal
refusal_of e = record { number = number_of e; block = block_of e }

-- what no number is refused with, by its number and block
abbrev pub unread_of : NumberError → Refusal
unread_of error.Ended = refusal 1 0
unread_of error.TooLong = refusal 2 0

-- a number or a refusal as the functions answer with it
abbrev pub got_in : Result Field Fault → Got
got_in (Ok f) = Value f.value f.next
got_in (Err e) = Refused (refusal_of e)

-- "columns, rows; layers | 1..=64 each; 1..=8", "δ, whole | 1..=100", "water-table flag | 0, 1", "time step, days | 1..=36,525", "tolerance, litres/day |
-- 0..=1,000,000,000", in the order "columns, rows, layers, δ, flag, step, tolerance". Document 02, W-209: "A δ of 0 in the case now means that two more numbers
-- follow: fresh weight 990..=1,010 and salt weight 1,011..=1,050", in grams a litre
abbrev pub record_ranges : List Range
record_ranges =
    between (pos 1) (pos most_across)
    ∷ between (pos 1) (pos most_across)
    ∷ between (pos 1) (pos most_layers)
    ∷ between (pos 0) (pos most_delta)
    ∷ between (pos least_fresh_weight) (pos most_fresh_weight)
    ∷ between (pos least_salt_weight) (pos most_salt_weight)
    ∷ between (pos 0) (pos 1)
    ∷ between (pos 1) (pos most_step)
    ∷ between (pos 0) (pos most_tolerance)
    ∷ []

-- more than any part of a file has: the slots of 512 blocks
abbrev pub most_slots : ℕ
most_slots = 8192

-- the ends of a number of the record, counted from 0; 0 and 0 where there is no such number
unfoldable pub record_range : ℕ → Range
record_range n = get_or record_ranges n (between (pos 0) (pos 0))

-- "the two boundary slots": stage or floor, and boundary leakance
abbrev pub is_boundary_slot : ℕ → Bool
is_boundary_slot slot = leb 10 slot && leb slot 11

-- "then per block K alone if 0, otherwise its slots in order, the two boundary slots only for kinds 1 and 2": whether the next slot of a block is sent, after
-- the slots so far. Of these `slots_at` is asked for K, which stands first, and for the kind, which stands before the boundary slots; slots that are yet to come
-- count as 0 there, and are not asked for
unfoldable pub slot_sent : List ℤ → Bool
slot_sent done =
    cond (eqb (length done) 0) true
    (cond (is_active (slots_at done))
    (cond (is_boundary_slot (length done)) (is_open (slots_at done)) true)
    false)

-- W-209: "A δ of 0 in the case now means that two more numbers follow": whether δ or the next weight is sent, after those so far
unfoldable pub weight_sent : List ℤ → Bool
weight_sent done = cond (eqb (length done) 0) true (is_zero (get_or done 0 (pos 0)))

-- whether the next number of a part is sent, after those so far
unfoldable pub is_sent : Part → List ℤ → Bool
is_sent Counts done = true
is_sent Density done = weight_sent done
is_sent Terms done = true
is_sent Widths done = true
is_sent (Slots block) done = slot_sent done

-- the ends of a number of a part, counted from 0; "for a slot its ends from the fixed table"
unfoldable pub ends_of : Part → ℕ → Range
ends_of Counts n = record_range n
ends_of Density n = record_range (counts + n)
ends_of Terms n = record_range (counts + density + n)
ends_of Widths n = between (pos 1) (pos most_width)
ends_of (Slots block) n = range_of n

-- 3: "a count or the block total is out of range"; 4: "δ, flag, step or tolerance is out of range", and W-209: "4 for a weight or pair out of range"; 5: "a width
-- is out of range"; 6: "a slot is out of range". "Refusals 6, 9, 10, 13 and 14 name the first block at fault"; "Others name 0."
unfoldable pub part_refusal : Part → Refusal
part_refusal Counts = refusal 3 0
part_refusal Density = refusal 4 0
part_refusal Terms = refusal 4 0
part_refusal Widths = refusal 5 0
part_refusal (Slots block) = refusal 6 block

-- "Signed fields (base, pumpage, screens, stage or floor, heads)": those that can be below zero
unfoldable pub meant_of : ℤ → ℕ → ℤ
meant_of lower n = cond (lt_z lower (pos 0)) (signed_of n) (pos n)

-- a number within its ends, or the refusal
unfoldable pub judged_in : ℤ → ℕ → Range → Refusal → Got
judged_in v next ends r = cond (in_range ends v) (Value v next) (Refused r)

-- "A file is judged number by number: 1 or 2, then its range"
unfoldable pub number_judged : Number → Range → Refusal → Got
number_judged number.Ended ends r = Refused (refusal 1 0)
number_judged number.TooLong ends r = Refused (refusal 2 0)
number_judged (number.Value n next) ends r = judged_in (meant_of ends.lower n) next ends r

-- the next number of a part, from a place, after those so far; one that is not sent is 0
unfoldable pub field_at : Part → List ℕ → ℕ → List ℤ → Got
field_at part file at done = cond (is_sent part done) (number_judged (number_at file at) (ends_of part (length done)) (part_refusal part)) (Value (pos 0) at)
