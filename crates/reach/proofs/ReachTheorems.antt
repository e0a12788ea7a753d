-- How far a head reaches (document 02, W-207). Assumes nothing.
use mathlib.Core.Bool.{false}
use mathlib.Core.Logic.{◌≢◌}
use mathlib.Core.Path.{◌∙◌, ◌≡◌, refl, sym}
use Prim.Native.Nat.{◌*◌, ◌+◌, ◌<◌, ◌≤◌, ℕ}
use native.Mathlib.Omega.{arith}
use lib.IntN.{pos}
use lib.ListN.{set}
use lib.Seq.{get_or-drop, get_or-set_other}
use Rattle.grid.specs.Inner.{Counted}
use Rattle.grid.specs.Place.{blocks_of}
use Rattle.slots.specs.Slots.{part_of}
use Rattle.slots.specs.Units.{slots_each}
use Rattle.slots.proofs.SlotsLaws.{slots_same}
use Rattle.slices.specs.Slices.{Case, case_of}
use Rattle.block.specs.declared.Fluids.{Fluids}
use Rattle.wellformed.specs.Limits.{checked_of}
use Rattle.wellformed.proofs.LimitsLaws.{checked_stands}
use Rattle.wellformed.proofs.RoomLaws.{by_record}
use Rattle.books.specs.Waters.{Wet}
use Rattle.balance.specs.Balance.{balances_of}
use Rattle.reach.specs.Meaning.{AlikeBut, HeadsAlone, first_head, slot_in, tuned_of}
use Rattle.reach.specs.Reach.{reach_of}
use Rattle.reach.proofs.ReachLaws.{Other, itself_other, one_step_other, two_steps_other}
use Rattle.reach.proofs.SeenLaws.{balances_seen}

-- A change of one block, whatever its slots are before and after, changes no balance outside the block's reach.
pub block_reach : (c e : Case) (k j : ℕ) → AlikeBut k c e → Counted c.grid → j < blocks_of c.grid → reach_of c.grid k j ≡ false → balances_of c j ≡ balances_of e j
block_reach c e k j alike counted l out = by_record (λ e. AlikeBut k c e → balances_of c j ≡ balances_of e j) e alike.grid go alike
  where
    go : AlikeBut k c (case_of c.grid e.columns e.rows e.slots) → balances_of c j ≡ balances_of (case_of c.grid e.columns e.rows e.slots) j
    go a =
        balances_seen c e.columns e.rows e.slots (record { grid = refl; columns = a.columns; rows = a.rows; slots = λ n m. refl }) counted
        (Other c.grid k)
        (λ i s. s.0)
        (λ i s. slots_same (part_of c.slots i) (part_of e.slots i) (a.others i s.0 s.1))
        j l
        (record { itself = itself_other c.grid k j out counted l; one = one_step_other c.grid k j out counted l; two = two_steps_other c.grid k j out counted l })

-- W-207: "two cases alike in everything but one block's old and new heads have equal balances everywhere except in that block, the blocks one or two away in its
-- row or its column within its layer, and the ones directly above and below", in both fluids, with dry wells or without.
pub heads_reach : (c e : Case) (k j : ℕ) → HeadsAlone k c e → Counted c.grid → j < blocks_of c.grid → reach_of c.grid k j ≡ false → balances_of c j ≡ balances_of e j
heads_reach c e k j alone = block_reach c e k j alone.elsewhere

-- The same as the request states it, of two cases that are not refused and "without a dry well on either side".
pub heads_reach_wet : (c e : Case) (k j : ℕ) → (checked_of c).number ≡ 0 → (checked_of e).number ≡ 0 → Wet c.grid c.slots → Wet e.grid e.slots
    → HeadsAlone k c e → j < blocks_of c.grid → reach_of c.grid k j ≡ false → balances_of c j ≡ balances_of e j
heads_reach_wet c e k j passed passed-too wet wet-too alone = heads_reach c e k j alone (checked_stands c passed).judged.counted

-- Other heads set in a block, whatever they are, make a case that is alike in everything but that block's heads.
pub heads_tuned : (c : Case) (k : ℕ) (old new : Fluids) → HeadsAlone k c (tuned_of c k old new)
unfolding tuned_of
heads_tuned c k old new =
    record {
      elsewhere = record { grid = refl; columns = λ n l. refl; rows = λ n l. refl; others = λ i l n slot m. stays i slot (λ at low high e. n (omega (arith, m, low, high, e))) };
      rest = λ slot m. stays k slot (λ at low high e. absurd (omega (arith, m, low, e)));
    }
  where
    heads : ℕ
    heads = slots_each * k + first_head

    stays : (i slot : ℕ) → ((at : ℕ) → heads ≤ at → at ≤ heads + 3 → slots_each * i + slot ≢ at) → slot_in c i slot ≡ slot_in (tuned_of c k old new) i slot
    stays i slot apart =
        let n : ℕ = slots_each * i + slot in
        let one = set c.slots heads old.fresh in
        let two = set one (heads + 1) old.salt in
        let three = set two (heads + 2) new.fresh in
        get_or-drop (slots_each * i) c.slots slot (pos 0)
        ∙ sym (get_or-set_other three (heads + 3) n new.salt (pos 0) (apart (heads + 3) (omega arith) (omega arith))
        ∙ get_or-set_other two (heads + 2) n new.fresh (pos 0) (apart (heads + 2) (omega arith) (omega arith))
        ∙ get_or-set_other one (heads + 1) n old.salt (pos 0) (apart (heads + 1) (omega arith) (omega arith))
        ∙ get_or-set_other c.slots heads n old.fresh (pos 0) (apart heads (omega arith) (omega arith)))
        ∙ sym (get_or-drop (slots_each * i) (set three (heads + 3) new.salt) slot (pos 0))
