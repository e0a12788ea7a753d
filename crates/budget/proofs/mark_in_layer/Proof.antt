-- `mark_in_layer` meets its contract. Assumes nothing.
use mathlib.Core.Path.{◌≡◌, ap}
use Prim.Native.Nat.{◌+◌}
use native.Mathlib.Omega.{arith}
use borrow.Author.Tests.{eq-eqb, ne_eqb}
use Rattle.grid.specs.Place.{place_of}
use Rattle.grid.proofs.PlaceLaws.{place_inside}
use Rattle.budget.specs.Answers.{layer_zone}
use Rattle.budget.proofs.mark_in_layer.Statement.{statement}
use Rattle.budget.proofs.mark_in_layer.Tie as tie

layer_told : (c : tie.After-place_of-place) → c.place_of-place.result.layer ≡ (place_of c.args.g c.args.block).layer
layer_told c = ap (λ p. p.layer) c.place_of-place.ensures

add-if1 : tie.Need-overflow_add-place
add-if1 c =
    let s = c in
    omega (arith, layer_told c.before, (place_inside s.args.g s.requires.0 s.args.block s.requires.1).layer, s.requires.0.layers_most)

returns : tie.Need-returns-then-place-layer
unfolding layer_zone
returns c =
    let s = c.args in
    rw (eq-eqb ((place_of s.g s.block).layer + 1) s.layer (omega (arith, layer_told c.before.before, c.if-place-layer.true)))

returns-2 : tie.Need-returns-else-place-layer
unfolding layer_zone
returns-2 c =
    let s = c.args in
    rw (ne_eqb ((place_of s.g s.block).layer + 1) s.layer (λ e. absurd (omega (arith, e, layer_told c.before.before, c.if-place-layer.false))))

pub mark_in_layer_spec : {M : Type 1} → statement M
mark_in_layer_spec = tie.close (tie.spec (λ c κs. c.requires.0) add-if1 returns returns-2)
