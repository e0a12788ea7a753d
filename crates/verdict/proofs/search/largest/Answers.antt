-- The greater of the largest so far and the next is the largest of both. Assumes nothing.
use Rattle.std.proofs.Common.{◌≡◌, ◌∙◌, ap₂, arith, sym}
use Rattle.std.specs.Int.{int_max}
use Rattle.whole.specs.Search.{most_of}
use Rattle.whole.proofs.OrderLaws.{greatest_is}
use Rattle.whole.proofs.RangeLaws.{answer}
use Rattle.whole.proofs.SearchLaws.{most_more, most_start}
use Rattle.books.specs.Inner.{pair_of}
use Rattle.verdict.specs.Places.{free_size_of, places_of}
use Rattle.verdict.specs.Ruling.{largest_of}
use Rattle.verdict.proofs.search.largest.Goals as goal

pub loop-place-init : goal.loop-place-init
loop-place-init c = sym (most_start (free_size_of c.args.slots.now (pair_of c.args.balances.now)))

pub loop-place-preserved : goal.loop-place-preserved
loop-place-preserved c =
    let sizes = free_size_of c.args.slots.now (pair_of c.args.balances.now) in
    let size = c.free_size.ensures in
    answer c.max-most.type_inv (c.max-most.ensures.value ∙ ap₂ int_max c.loop-place.invariant (answer c.free_size.type_inv size)
    ∙ greatest_is (most_of c.loop-place.place sizes) (sizes c.loop-place.place))
    ∙ sym (most_more sizes c.loop-place.place)

pub returns : goal.returns
unfolding largest_of
returns c =
    let all : c.loop-place.place ≡ places_of c.args.g = omega arith in
    rw (← all) c.loop-place.invariant
