-- Zones (document 01, "Balance, verdict, table"). A zone is a test of block numbers, counted from 0.
use Rattle.std.specs.Prelude.{Bool, ◌&&◌, cond, not, List, ℕ, pos, ℤ, get_or}
use Rattle.std.specs.Int.Signed.{lt_z}
use Rattle.wellformed.specs.Links.{active_of}

-- "A zone is a mark 0 or 1 per block." The test is for a number above 0: a mark that is neither 0 nor 1 is refused before, with 11.
unfoldable pub marked_of : List ℤ → ℕ → Bool
marked_of marks i = lt_z (pos 0) (get_or marks i (pos 0))

-- "marked active blocks"
unfoldable pub in_zone : List ℤ → (ℕ → Bool) → ℕ → Bool
in_zone slots z i = z i && active_of slots i

-- of two tests one alone passes
abbrev pub differ : Bool → Bool → Bool
differ a b = cond a (not b) b
