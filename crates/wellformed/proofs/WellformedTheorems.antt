-- What slices are refused with (document 01, "Refusal numbers"): which numbers, exactly when, and which block they name. Assumes nothing.
use mathlib.Core.Bool.{Bool, true}
use mathlib.Core.Logic.{◌↔◌, ◌≢◌}
use mathlib.Core.Path.{◌≡◌, ap}
use Prim.Native.Nat.{ℕ}
use native.Mathlib.Omega.{arith}
use lib.Dec.{T}
use Rattle.grid.specs.Place.{blocks_of}
use Rattle.slices.specs.Slices.{Case, refusal, slots_fail}
use Rattle.slices.specs.Meaning.{NamesFirst}
use Rattle.wellformed.specs.Meaning.{SlicesRefused, nine, six, ten}
use Rattle.wellformed.specs.Inner.{WellFormed}
use Rattle.wellformed.specs.Limits.{block_exceeds, checked_lent, checked_of, overlaps}
use Rattle.wellformed.proofs.LimitsLaws.{checked_stands, lent_reaches, lent_stands, stands_checked, stands_lent}
use Rattle.wellformed.proofs.RefusedLaws.{refused_row, row_refused}

-- ---- which slices are refused

-- A case is not refused exactly where it is well formed,
pub wellformed_exactly : (c : Case) → ((checked_of c).number ≡ 0) ↔ WellFormed c
wellformed_exactly c = (checked_stands c, stands_checked c)

-- and, where more is lent beside it, exactly where that is long enough too.
pub lent_wellformed_exactly : (c : Case) (reaches : Bool) → ((checked_lent c reaches).number ≡ 0) ↔ (WellFormed c × T reaches)
lent_wellformed_exactly c reaches = (lent_stands c reaches, λ h. stands_lent c reaches h.0 h.1)

-- ---- with which number and block

-- A number is given, and a block named, exactly where a row of `SlicesRefused` says so: where more is lent beside the case,
pub lent_refused_exactly : (c : Case) (reaches : Bool) (number block : ℕ) → number ≢ 0 → (checked_lent c reaches ≡ refusal number block) ↔ SlicesRefused c reaches number block
lent_refused_exactly c reaches number block some = (λ e. let row = rw e at (refused_row c reaches) in row some, row_refused c reaches)

-- and of a case alone.
pub slices_refused_exactly : (c : Case) (number block : ℕ) → number ≢ 0 → (checked_of c ≡ refusal number block) ↔ SlicesRefused c true number block
slices_refused_exactly c number block some = rw (lent_reaches c) at (lent_refused_exactly c true number block some)

-- So 6, 9 and 10 name the first block at fault, and 9 the lower one of the two.
module _ (c : Case) where
  row_of : (number : ℕ) → number ≢ 0 → (checked_of c).number ≡ number → SlicesRefused c true number (checked_of c).block
  row_of number some e = (slices_refused_exactly c number (checked_of c).block some).0 (ap (λ (n : ℕ). refusal n (checked_of c).block) e)

  pub six_names_first : (checked_of c).number ≡ 6 → NamesFirst (blocks_of c.grid) (slots_fail c.grid c.slots) (checked_of c).block
  six_names_first e = go (row_of 6 (omega arith) e)
    where
      go : {block : ℕ} → SlicesRefused c true 6 block → NamesFirst (blocks_of c.grid) (slots_fail c.grid c.slots) block
      go (six counted roomy lent termed widths names) = names

  pub nine_names_first : (checked_of c).number ≡ 9 → NamesFirst (blocks_of c.grid) (overlaps c) (checked_of c).block
  nine_names_first e = go (row_of 9 (omega arith) e)
    where
      go : {block : ℕ} → SlicesRefused c true 9 block → NamesFirst (blocks_of c.grid) (overlaps c) block
      go (nine judged lent names) = names

  pub ten_names_first : (checked_of c).number ≡ 10 → NamesFirst (blocks_of c.grid) (block_exceeds c) (checked_of c).block
  ten_names_first e = go (row_of 10 (omega arith) e)
    where
      go : {block : ℕ} → SlicesRefused c true 10 block → NamesFirst (blocks_of c.grid) (block_exceeds c) block
      go (ten judged lent apart names) = names
