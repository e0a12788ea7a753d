-- Each place that is counted adds one. Assumes nothing.
use Rattle.std.proofs.Common.{◌≡◌, ◌∙◌, add-zero, ap, arith, cond, sym, ◌+◌, ℕ}
use Rattle.whole.proofs.SumLaws.{count_more, count_most, count_start}
use Rattle.books.specs.Inner.{pair_of}
use Rattle.verdict.specs.Places.{counted_by, places_of}
use Rattle.verdict.specs.Ruling.{count_of}
use Rattle.verdict.proofs.search.count_places.Goals as goal
use Rattle.verdict.proofs.search.count_places.Goals.{then-counted_at, else-counted_at}

pub loop-place-init : goal.loop-place-init
loop-place-init c = sym (count_start (counted_by c.args.g c.args.slots.now (pair_of c.args.balances.now) c.args.code))

pub overflow_add-count : goal.overflow_add-count
overflow_add-count c = omega (arith, c.loop-place.invariant, count_most c.loop-place.place (counted_by c.args.g c.args.slots.now (pair_of c.args.balances.now) c.args.code))

pub loop-place-preserved : goal.loop-place-preserved
loop-place-preserved c =
    let test = counted_by c.args.g c.args.slots.now (pair_of c.args.balances.now) c.args.code in
    let k = c.loop-place.place in
    let turn : c.if-counted_at.count ≡ c.loop-place.count + cond (test k) 1 0 = elim c.if-counted_at.branch [
      | then-counted_at w ↦ w.count-is ∙ rw (sym c.counted_at.ensures ∙ w.if-counted_at.true)
      | else-counted_at w ↦ w.count-is ∙ rw (sym c.counted_at.ensures ∙ w.if-counted_at.false, add-zero)
    ] in
    turn ∙ ap (λ (n : ℕ). n + cond (test k) 1 0) c.loop-place.invariant ∙ sym (count_more k test)

pub returns : goal.returns
unfolding count_of
returns c =
    let all : c.loop-place.place ≡ places_of c.args.g = omega arith in
    rw (← all) c.loop-place.invariant
