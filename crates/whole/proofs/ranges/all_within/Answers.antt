use Rattle.std.proofs.Common.{◌≡◌, ◌∙◌, ap, arith, sym, get_or, pos, take, ◌<◌, ℕ, Bool}
use Rattle.std.proofs.lemmas.List.{get_or-take}
use Rattle.std.proofs.Math.ListN.{length-take}
use Rattle.whole.specs.Ranges.{all_within, in_range}
use Rattle.whole.proofs.RangeLaws.{read_back}
use Rattle.whole.proofs.SearchLaws.{every_fails, every_more, every_same, every_start}
use Rattle.whole.proofs.ranges.all_within.Goals as goal
use Rattle.whole.proofs.ranges.all_within.Goals.{After-in_range}

-- whether a number of those asked lies within the ends
abbrev within : (c : After-in_range) → ℕ → Bool
within c k = in_range c.args.range (get_or (take c.args.count c.args.values.now) k (pos 0))

-- and what the call tells of it
told : (c : After-in_range) → within c c.loop-value.value-index ≡ c.in_range.result
told c = sym (c.in_range.ensures ∙ ap (in_range c.args.range) (read_back _ c.in_range-arg-1.given))

pub loop-value-init : goal.loop-value-init
loop-value-init c = every_start (λ k. in_range c.args.range (get_or (take c.args.count c.args.values.now) k (pos 0)))

pub returns-then-not-in_range : goal.returns-then-not-in_range
unfolding all_within
returns-then-not-in_range c =
    let k = c.loop-value.value-index in
    let inside = c.loop-value-test.true in
    let below : k < c.args.count = omega (arith, length-take c.args.count c.args.values.now) in
    sym (every_fails (λ k. in_range c.args.range (get_or c.args.values.now k (pos 0))) k c.args.count below
    (ap (in_range c.args.range) (sym (get_or-take c.args.count c.args.values.now k (pos 0) below)) ∙ told c.before ∙ c.if-not-in_range.true))

pub loop-value-preserved : goal.loop-value-preserved
loop-value-preserved c = every_more (within c.before) c.loop-value.value-index c.loop-value.invariant (told c.before ∙ c.if-not-in_range.false)

pub returns : goal.returns
unfolding all_within
returns c =
    let count : c.loop-value.value-index ≡ c.args.count = omega (arith, length-take c.args.count c.args.values.now) in
    rw (← count)
    (sym (every_same c.loop-value.value-index (λ k. in_range c.args.range (get_or c.args.values.now k (pos 0))) (λ k. in_range c.args.range (get_or (take c.args.count c.args.values.now) k (pos 0))) (λ k l. ap (in_range c.args.range) (sym (get_or-take c.args.count c.args.values.now k (pos 0) (omega arith)))) ∙ c.loop-value.invariant))
