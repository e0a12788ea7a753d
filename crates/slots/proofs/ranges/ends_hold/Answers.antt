use Rattle.std.proofs.Common.{◌≡◌, ◌∙◌, ap₂, arith, get_or, length, length-append, of_z, pos, rules, sym, take, to_z, w64, ◌<◌, Bool, List, ℕ, ℤ}
use Rattle.std.proofs.lemmas.List.{get_or-take}
use Rattle.std.proofs.lemmas.Slice.Zip.{zip_end, zip_turn}
use Rattle.std.proofs.Math.ListN.{length-take}
use Rattle.whole.specs.Ranges.{between, in_range}
use Rattle.whole.proofs.SearchLaws.{every_fails, every_more, every_start}
use Rattle.slots.specs.Ranges.{ends_hold, range_of, ranges}
use Rattle.slots.proofs.ranges.ends_hold.Goals as goal
use Rattle.slots.proofs.ranges.ends_hold.Goals.{After-in_range}

abbrev within : List ℤ → ℕ → Bool
within part slot = in_range (range_of slot) (get_or part slot (pos 0))

-- the call judges the slot whose turn it is
told : (c : After-in_range) → (length c.loop-value.yielded < 16) × (within c.args.part.now (length c.loop-value.yielded) ≡ c.in_range.result)
unfolding range_of
told c =
    let given = c.into_iter-value-iterator.ensures.into_iter_gives in
    let turn =
    zip_turn (take 16 c.args.part.now) ranges c.loop-value.yielded c.into_iter-value-iterator.result c.loop-value.value-iterator c.next.new.self c.next.result
    (cc (given, c.zip-value-items.ensures.first, c.iter.ensures.rest))
    (cc (given, c.zip-value-items.ensures.second, c.iter-2.ensures.rest))
    c.loop-value.yielded_by
    (c.in-Some.value, c.in-Some.range)
    c.in-Some.is
    c.next.ensures.steps in
    let value : to_z w64 (of_z w64 c.in-Some.value.now) ≡ c.in-Some.value.now = search rules in
    (turn.1, sym (c.in_range.ensures ∙ ap₂ in_range (turn.3 (between (pos 0) (pos 0))) (value ∙ (turn.2 (pos 0) ∙ get_or-take 16 c.args.part.now (length c.loop-value.yielded) (pos 0) turn.1))))

pub loop-value-init : goal.loop-value-init
loop-value-init c = every_start (within c.args.part.now)

pub returns-then-not-in_range : goal.returns-then-not-in_range
unfolding ends_hold
returns-then-not-in_range c =
    let t = told c.before in
    sym (every_fails (within c.args.part.now) (length c.loop-value.yielded) 16 t.0 (t.1 ∙ c.if-not-in_range.true))

pub loop-value-preserved : goal.loop-value-preserved
loop-value-preserved c = rw length-append (every_more (within c.args.part.now) (length c.loop-value.yielded) c.loop-value.invariant ((told c.before).1 ∙ c.if-not-in_range.false))

pub returns : goal.returns
unfolding ends_hold
returns c =
    let given = c.into_iter-value-iterator.ensures.into_iter_gives in
    let all =
    zip_end (take 16 c.args.part.now) ranges c.loop-value.yielded c.into_iter-value-iterator.result c.loop-value.value-iterator c.next.new.self c.next.result
    (cc (given, c.zip-value-items.ensures.first, c.iter.ensures.rest))
    (cc (given, c.zip-value-items.ensures.second, c.iter-2.ensures.rest))
    c.loop-value.yielded_by
    c.in-None.is
    c.next.ensures.steps in
    let sixteen : length c.loop-value.yielded ≡ 16 = omega (arith, all, length-take 16 c.args.part.now, c.requires) in
    rw (← sixteen) (sym c.loop-value.invariant)
