-- What a block gives to a zone's lines by itself (document 01, "Balance, verdict, table"), by the books of a fluid, in litres a day.
use Rattle.std.specs.Prelude.{Bool, ◌&&◌, cond, not, List, ℕ, neg_ℤ, pos, ℤ}
use Rattle.whole.specs.Sum.{only}
use Rattle.books.specs.declared.own.Own.{Own}
use Rattle.books.specs.Bookkeeping.{Books}
use Rattle.zone.specs.declared.holdings.Settlement.{Settlement}
use Rattle.zone.specs.Zones.{in_zone}

-- the own terms of a block that is not marked or not active
abbrev pub nothing : Own
nothing = record { recharge = pos 0; boundary = pos 0; pumped = pos 0; storage = pos 0 }

-- "Storage, wells (negative where pumped), recharge and boundary are sums over marked active blocks."
unfoldable pub own_in : List ℤ → Books → (ℕ → Bool) → ℕ → Own
own_in slots F z i = cond (in_zone slots z i) (F.own i) nothing

-- "Supply is minus the balance, summed over marked active blocks fixed in that fluid; error is the balance summed over the other marked active
-- blocks."
unfoldable pub settled_of : Bool → Bool → ℤ → Settlement
settled_of marked fixed balance =
    record {
      supply = only (marked && fixed) (neg_ℤ balance);
      error = only (marked && not fixed) balance;
    }
