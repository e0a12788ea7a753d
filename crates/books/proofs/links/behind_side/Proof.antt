-- `behind_side` meets its contract, by what stands behind. Assumes nothing.
use mathlib.Core.Path.{◌∙◌, ◌≡◌, ap, sym}
use Prim.Native.Nat.{◌<◌}
use native.Mathlib.Omega.{arith}
use borrow.Author.Rules.{rules}
use Rattle.std.specs.Prelude.{Some}
use Rattle.whole.proofs.RangeLaws.{answer}
use Rattle.grid.specs.Place.{behind_of, blocks_of}
use Rattle.grid.proofs.PlaceLaws.{behind_inside}
use Rattle.slices.specs.Slices.{case_of}
use Rattle.block.specs.Fluids.{in_fluid}
use Rattle.wellformed.specs.Widths.{along_at}
use Rattle.wellformed.proofs.WidthsLaws.{placed}
use Rattle.books.proofs.links.behind_side.Statement.{statement}
use Rattle.books.proofs.links.behind_side.Tie as tie

-- the block behind is inside
behind-told : (c : tie.In-Some) → behind_of c.args.g c.args.axis c.args.block c.args.low ≡ Some c.in-Some.p
behind-told c = sym c.behind-found.ensures ∙ c.in-Some.is

inside : (c : tie.In-Some) → c.in-Some.p < blocks_of c.args.g
inside c =
    let s = c in
    behind_inside s.args.g s.requires.0.judged.counted s.args.axis s.args.block c.in-Some.p s.args.low s.requires.1.1 (behind-told c)

along-requires : tie.Need-along-requires
along-requires c κs =
    let s = c in
    rw c.place_of.ensures (placed (case_of s.args.g s.args.columns.now s.args.rows.now s.args.slots.now) s.requires.0.judged c.in-Some.p (inside c.before))

pair-requires : tie.Need-pair-requires
pair-requires c κs = omega (arith, inside c.before.before, c.requires.1.0.room)

returns : tie.Need-returns-in-Some
returns c =
    let s = c in
    let p = c.in-Some.p in
    rw (behind-told c.before.before.before.before) (λ i. record {
      width = answer c.along.type_inv (c.along.ensures ∙ ap (λ q. along_at s.args.columns.now s.args.rows.now q s.args.axis) c.place_of.ensures) i;
      thickness = answer c.in_fluid.type_inv (c.in_fluid.ensures ∙ ap (λ t. in_fluid t s.args.fluid) (c.pair.ensures ∙ s.requires.1.0.each p (inside c.before.before.before.before))) i;
    })

returns-2 : tie.Need-returns-in-None
returns-2 c = rw (sym c.behind-found.ensures ∙ c.in-None.is)

pub behind_side_spec : {M : Type 1} → statement M
behind_side_spec =
    tie.close
    (tie.spec
    (λ c κs. search rules)
    (λ c. search rules)
    (λ c κs. search rules)
    along-requires
    pair-requires
    (λ c κs. search rules)
    (λ c. search rules)
    returns
    returns-2)
