use Rattle.std.proofs.Common.{◌≡◌, get_or, of_z, pos, rules, to_z, true, w64}
use Rattle.whole.proofs.SearchLaws.{holds}
use Rattle.slots.specs.Ranges.{ends_hold}
use Rattle.slots.proofs.SlotsLaws.{ends_of_lem, slots_told}
use Rattle.slots.proofs.rules.slots_hold.Goals as goal

pub rules_hold-requires : goal.rules_hold-requires
rules_hold-requires c =
    let within : ends_hold c.args.part.now ≡ true = cc in
    rw c.slots_at.ensures (ends_of_lem c.args.part.now (holds within))

pub returns-then-ends_hold : goal.returns-then-ends_hold
returns-then-ends_hold c =
    let k = get_or c.args.part.now 0 (pos 0) in
    let read : to_z w64 (of_z w64 k) ≡ k = search rules in
    let active = rw read at c.if-part-gt0.true in
    let within : ends_hold c.args.part.now ≡ true = cc in
    rw (slots_told c.args.part.now c.args.top, active, within, ← c.slots_at.ensures) c.rules_hold.ensures
