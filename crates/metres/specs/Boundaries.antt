-- A boundary as the client writes it (document 01, "Metres"), and what it sets in a block's kind slot and its level slot.
use Rattle.std.specs.Prelude.{Result, Ok, Err, pos, ℤ}
use Rattle.slots.specs.Units.{most_level}
use Rattle.slices.specs.declared.refusal.Refusal.{Refusal as Refused}
use Rattle.slices.specs.Refusals.{Refusal, refusal_in}
use Rattle.slices.specs.Slices.{none, unless_refused}
use Rattle.metres.specs.declared.boundary.Boundary.{Boundary}
use Rattle.metres.specs.declared.boundary.Boundary.TheVariants.{BothFixed, FixedFresh, FixedSalt, None, River, Sea}
use Rattle.metres.specs.declared.boundary.BoundarySlots.{BoundarySlots as Set}
use Rattle.metres.specs.Metres.{Taken, taken_of}

-- what a boundary sets: a refusal, or beside number 0 what goes into the kind slot and the level slot, ticks. Both are 0 beside a refusal.
pub record BoundarySlots : Type 0 where
  pub refusal : Refusal
  pub kind : ℤ
  pub level : ℤ

-- a refusal, and what goes into the kind slot and the level slot, ticks
abbrev pub setting : Refusal → ℤ → ℤ → BoundarySlots
setting r kind level = record { refusal = r; kind = kind; level = level }

-- what is answered, as a refusal and what is set
abbrev pub boundary_slots_in : Result Set Refused → BoundarySlots
boundary_slots_in (Ok set) = setting none set.kind set.level
boundary_slots_in (Err e) = setting (refusal_in {A = Set} (Err e)) (pos 0) (pos 0)

-- a kind with "0 without a level"
abbrev pub without_level : ℤ → BoundarySlots
without_level kind = setting none kind (pos 0)

-- a kind with the level that was taken in, or what that was refused with beside zeros
abbrev pub with_level : ℤ → Taken → BoundarySlots
with_level kind level = unless_refused level.refusal (setting level.refusal kind level.tick) (setting level.refusal (pos 0) (pos 0))

-- "A boundary as the client writes it is none, river with stage in metres, sea with floor in metres, or one of the three fixed kinds. It sets the kind and
-- level slots, 0 without a level." "boundary kind | 0 none, 1 river, 2 sea, 3 fixed fresh, 4 fixed salt, 5 both fixed"
unfoldable pub boundary_slots_of : Boundary → BoundarySlots
boundary_slots_of None = without_level (pos 0)
boundary_slots_of (River stage) = with_level (pos 1) (taken_of (pos most_level) stage)
boundary_slots_of (Sea floor) = with_level (pos 2) (taken_of (pos 0) floor)
boundary_slots_of FixedFresh = without_level (pos 3)
boundary_slots_of FixedSalt = without_level (pos 4)
boundary_slots_of BothFixed = without_level (pos 5)
