-- `first_place` meets its contract. Both loops: nothing is found yet, and no place passed is counted. Assumes nothing.
use mathlib.Core.Path.{◌∙◌, ◌≡◌, refl, sym}
use Prim.Native.Nat.{◌*◌, ◌+◌, ◌-◌, ◌≤◌}
use native.Mathlib.Omega.{arith}
use Rattle.whole.specs.Search.{first_of}
use Rattle.whole.proofs.SearchLaws.{first_found, first_more, first_start}
use Rattle.grid.specs.Place.{blocks_of}
use Rattle.books.specs.Inner.{pair_of}
use Rattle.verdict.specs.Places.{counted_by, places_of}
use Rattle.verdict.specs.Ruling.{first_place}
use Rattle.verdict.proofs.PlacesLaws.{counted_by_lem}
use Rattle.verdict.proofs.search.first_place.Statement.{statement}
use Rattle.verdict.proofs.search.first_place.Tie as tie

abbrev invariant-loop : tie.invariant-loop-fluid
invariant-loop g slots waters balances code total found₀ block fluid₀ found fluid = (fluid ≤ 2) × ((found ≡ 0) × (first_of (2 * block + fluid) (counted_by g slots (pair_of balances) code) ≡ 0))

abbrev decreases-loop : tie.decreases-loop-fluid
decreases-loop g slots waters balances code total found₀ block fluid₀ found fluid = 2 - fluid

abbrev invariant-search : tie.invariant-search
invariant-search g slots waters balances code total found₀ block₀ found block = (block ≤ total) × ((found ≡ 0) × (first_of (2 * block) (counted_by g slots (pair_of balances) code) ≡ 0))

abbrev decreases-search : tie.decreases-search
decreases-search g slots waters balances code total found₀ block₀ found block = total - block

search-holds : tie.Need-search-init invariant-loop decreases-loop invariant-search decreases-search
search-holds c =
    let s = c.args in
    (omega arith, (refl, first_start (counted_by s.g s.slots.now (pair_of s.balances.now) s.code)))

loop-holds : tie.Need-loop-fluid-init invariant-loop decreases-loop invariant-search decreases-search
loop-holds c =
    let e : 2 * c.search.block + 0 ≡ 2 * c.search.block = omega arith in
    (omega arith, (c.search.invariant.1.0, rw e c.search.invariant.1.1))

counted-at-requires : tie.Need-counted_at-requires invariant-loop decreases-loop invariant-search decreases-search
counted-at-requires c κs =
    let h = c.requires in
    (h.0, (h.1.0, (h.1.1, omega arith)))

-- what the call tells of the place
told : (c : tie.After-counted_at invariant-loop decreases-loop invariant-search decreases-search) → counted_by c.args.g c.args.slots.now (pair_of c.args.balances.now) c.args.code (2 * c.search.block + c.loop-fluid.fluid) ≡ c.counted_at.result
told c =
    let s = c.args in
    counted_by_lem s.g s.slots.now (pair_of s.balances.now) s.code c.search.block c.loop-fluid.fluid (omega arith) ∙ sym c.counted_at.ensures

loop-again : tie.Need-loop-fluid-preserved invariant-loop decreases-loop invariant-search decreases-search
loop-again c =
    let s = c.args in
    let l = c.loop-fluid in
    let e : 2 * c.search.block + (l.fluid + 1) ≡ 2 * c.search.block + l.fluid + 1 = omega arith in
    (omega arith, (l.invariant.1.0, rw e (first_more (counted_by s.g s.slots.now (pair_of s.balances.now) s.code) (2 * c.search.block + l.fluid) l.invariant.1.1 (told c.before ∙ c.if-counted_at.false))))

search-again : tie.Need-search-preserved invariant-loop decreases-loop invariant-search decreases-search
search-again c =
    let l = c.loop-fluid in
    let e : 2 * (c.search.block + 1) ≡ 2 * c.search.block + l.fluid = omega arith in
    (omega arith, (l.invariant.1.0, rw e l.invariant.1.1))

returns : tie.Need-returns-after-search invariant-loop decreases-loop invariant-search decreases-search
unfolding first_place
returns c =
    let e : c.search.block ≡ blocks_of c.args.g = omega arith in
    c.search.invariant.1.0 ∙ rw (← e) (sym c.search.invariant.1.1)

returns-2 : tie.Need-returns-then-counted_at invariant-loop decreases-loop invariant-search decreases-search
unfolding first_place
returns-2 c =
    let s = c.args in
    sym (first_found (counted_by s.g s.slots.now (pair_of s.balances.now) s.code) (2 * c.search.block + c.loop-fluid.fluid) (places_of s.g) (omega arith) c.loop-fluid.invariant.1.1 (told c.before ∙ c.if-counted_at.true))

pub first_place_spec : {M : Type 1} → statement M
first_place_spec =
    tie.close
    (tie.spec
    invariant-loop
    decreases-loop
    invariant-search
    decreases-search
    (λ c κs. c.requires.0.counted)
    search-holds
    loop-holds
    counted-at-requires
    (λ c. omega arith)
    (λ c. omega arith)
    (λ c. omega arith)
    (λ c. omega arith)
    (λ c. omega arith)
    loop-again
    (λ c. omega arith)
    (λ c. omega arith)
    search-again
    returns
    returns-2)
