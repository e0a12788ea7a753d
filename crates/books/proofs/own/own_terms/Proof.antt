-- `own_terms` meets its contract, field by field. Assumes nothing.
use mathlib.Core.Bool.{not}
use mathlib.Core.Path.{◌∙◌, ◌≡◌, ap}
use lib.IntN.{pos}
use mir.Syntax.{w64}
use mir.Val.{of_z, to_z}
use borrow.Author.Rules.{rules}
use Rattle.whole.specs.Inner.{In}
use Rattle.whole.proofs.RangeLaws.{answer}
use Rattle.whole.proofs.SearchLaws.{holds}
use Rattle.grid.specs.Place.{place_of, top_of}
use Rattle.grid.proofs.PlaceLaws.{top_last}
use Rattle.slots.specs.Inner.{Ends}
use Rattle.slots.specs.Slots.{block_of}
use Rattle.slices.specs.Slices.{case_of}
use Rattle.block.specs.Fluids.{in_fluid, old_heads}
use Rattle.block.specs.Geometry.{levels_of, thicknesses_of}
use Rattle.block.specs.Inner.{levels_on, most_area}
use Rattle.block.specs.Storage.{storage_of}
use Rattle.block.specs.Wells.{lengths_of, shares_of}
use Rattle.flow.specs.Boundary.{boundary_of, recharge_of}
use Rattle.wellformed.specs.Widths.{area_at}
use Rattle.wellformed.proofs.WidthsLaws.{placed}
use Rattle.books.specs.Inner.{Slotted}
use Rattle.books.specs.Waters.{levels_at, waters_of}
use Rattle.books.specs.Own.{own_of, pumped_at, storage_at}
use Rattle.books.proofs.WatersLaws.{active_ends, lengths_ready, levels_on_waters, slotted, waters_on, waters_thick}
use Rattle.books.proofs.OwnLaws.{over_in}
use Rattle.books.proofs.own.own_terms.Statement.{statement}
use Rattle.books.proofs.own.own_terms.Tie as tie

ready : (c : tie.Start) → Slotted c.args.g c.args.slots.now
ready c = slotted (case_of c.args.g c.args.columns.now c.args.rows.now c.args.slots.now) c.requires.0.judged

ends : (c : tie.Start) → Ends (block_of c.args.slots.now c.args.block)
ends c = active_ends c.args.g c.args.slots.now (ready c) c.args.block c.requires.1.1.0 c.requires.1.1.1.1

top-told : (c : tie.After-has_next-top) → not c.has_next-top.result ≡ top_of c.args.g c.args.block
top-told c =
    let s = c in
    ap not c.has_next-top.ensures ∙ top_last s.args.g s.requires.0.judged.counted s.args.block s.requires.1.1.0 s.args.place s.requires.1.1.1.0

area-requires : tie.Need-area-over-requires
area-requires c κs =
    let s = c in
    rw s.requires.1.1.1.0 (placed (case_of s.args.g s.args.columns.now s.args.rows.now s.args.slots.now) s.requires.0.judged s.args.block s.requires.1.1.0)

area-told : (c : tie.After-area-over) → to_z w64 (of_z w64 c.area-over.result) ≡ area_at c.args.columns.now c.args.rows.now (place_of c.args.g c.args.block)
area-told c = answer c.area-over.type_inv (c.area-over.ensures ∙ ap (area_at c.args.columns.now c.args.rows.now) c.requires.1.1.1.0)

area-within : (c : tie.After-area-over) → In (pos 0) (pos most_area) (to_z w64 (of_z w64 c.area-over.result))
area-within c =
    let s = c in
    rw (area-told c) (over_in (case_of s.args.g s.args.columns.now s.args.rows.now s.args.slots.now) s.requires.0 s.args.fluid s.args.block s.requires.1.1.0 s.requires.1.1.1.1)

waters-told : (c : tie.After-pair-thickness) → c.pair-thickness.result ≡ waters_of c.args.g c.args.slots.now c.args.block
waters-told c = c.pair-thickness.ensures ∙ c.requires.1.0.each c.args.block c.requires.1.1.0

recharge-requires : tie.Need-recharge-requires
recharge-requires c κs = (rw c.load-own.ensures (ends c.before.before.before.before), area-within c.before)

boundary-requires : tie.Need-boundary-requires
boundary-requires c κs =
    let s = c.before.before.before.before.before in (
      s.requires.0.judged.termed,
      (
        rw c.load-own.ensures (ends s),
        (
          area-within c.before.before,
          (
            rw (c.load-own.ensures, area-told c.before.before) (s.requires.0.boundary s.args.block s.requires.1.1.0 (holds s.requires.1.1.1.1)),
            rw (waters-told c.before) (waters_thick s.args.g s.args.slots.now (ready s) s.args.block s.requires.1.1.0),
          ),
        ),
      ),
    )

pumped-requires : tie.Need-pumped-requires
pumped-requires c κs =
    let s = c.before.before.before.before.before.before in
    rw (c.load-own.ensures, waters-told c.before.before) (lengths_ready s.args.g s.args.slots.now (ready s) s.args.block s.requires.1.1.0 s.requires.1.1.1.1)

stored-requires : tie.Need-stored-requires
stored-requires c κs =
    let s = c.before.before.before.before.before.before.before in
    (s.requires.0.judged.termed, (rw c.load-own.ensures (ends s), (area-within c.before.before.before.before, rw (waters-told c.before.before.before) (waters_thick s.args.g s.args.slots.now (ready s) s.args.block s.requires.1.1.0))))

-- what the well takes and what is stored, by the block and its waters as they were loaded and read
pumped-told : (c : tie.After-pumped) → c.pumped.result ≡ pumped_at c.args.g c.args.slots.now c.args.fluid c.args.block
unfolding pumped_at
pumped-told c =
    let s = c.before.before.before.before.before.before.before in
    let own = block_of s.args.slots.now s.args.block in
    let loaded = c.load-own.ensures in
    c.pumped.ensures
    ∙ (λ k. in_fluid (shares_of (loaded k) (lengths_of (loaded k) (levels_on (loaded k).base (waters-told c.before.before.before k)))) s.args.fluid)
    ∙ ap (λ l. in_fluid (shares_of own (lengths_of own l)) s.args.fluid) (levels_on_waters s.args.g s.args.slots.now (ready s) s.args.block s.requires.1.1.0 s.requires.1.1.1.1)

stored-told : (c : tie.After-stored) → c.stored.result ≡ storage_at (case_of c.args.g c.args.columns.now c.args.rows.now c.args.slots.now) c.args.fluid c.args.block
unfolding storage_at levels_at
stored-told c =
    let s = c in
    let loaded = c.load-own.ensures in
    let waters = waters-told c.before.before.before.before ∙ waters_on s.args.g s.args.slots.now s.args.block s.requires.1.1.1.1 in
    c.stored.ensures
    ∙ (λ k. storage_of s.args.g (loaded k) (area-told c.before.before.before.before.before k) (in_fluid (waters k) s.args.fluid) (in_fluid (thicknesses_of (levels_of s.args.g (loaded k) (top-told c.before.before.before.before.before.before k) (old_heads (loaded k)))) s.args.fluid))

returns : tie.Need-returns
unfolding own_of
returns c =
    let s = c.args in
    λ i. record {
      recharge = answer c.recharge.type_inv (c.recharge.ensures ∙ (λ j. recharge_of s.g (c.load-own.ensures j) (top-told c.before.before.before.before.before.before j) (area-told c.before.before.before.before.before j) s.fluid)) i;
      boundary = answer c.boundary.type_inv (c.boundary.ensures ∙ (λ j. boundary_of s.g (c.load-own.ensures j) (top-told c.before.before.before.before.before.before j) (area-told c.before.before.before.before.before j) (waters-told c.before.before.before.before j) s.fluid)) i;
      pumped = answer c.pumped.type_inv (pumped-told c.before) i;
      storage = answer c.stored.type_inv (stored-told c) i;
    }

pub own_terms_spec : {M : Type 1} → statement M
own_terms_spec =
    tie.close
    (tie.spec
    (λ c κs. search rules)
    (λ c κs. search rules)
    area-requires
    (λ c κs. search rules)
    recharge-requires
    boundary-requires
    pumped-requires
    stored-requires
    returns)
