-- `leakage_flow` meets its contract: its calls are the definition's steps. Assumes nothing.
use mathlib.Core.Bool.{true}
use mathlib.Core.Path.{◌∙◌, ◌≡◌, ap, ap₂}
use Prim.Native.Nat.{◌+◌, ◌<◌, ℕ}
use native.Mathlib.Omega.{arith}
use lib.Dec.{T}
use mir.Syntax.{w64}
use mir.Val.{of_z, to_z}
use borrow.Author.Rules.{rules}
use Rattle.whole.proofs.RangeLaws.{answer, read}
use Rattle.whole.proofs.SearchLaws.{holds, true_is}
use Rattle.grid.specs.Place.{blocks_of, place_of, stride_of}
use Rattle.grid.specs.Units.{above}
use Rattle.slots.specs.Inner.{Ends}
use Rattle.slots.specs.Slots.{block_of}
use Rattle.slices.specs.Slices.{case_of}
use Rattle.block.specs.Fluids.{new_heads}
use Rattle.block.specs.Geometry.{aquifer_top_of}
use Rattle.block.proofs.BlockLaws.{aquifer_top_in}
use Rattle.flow.specs.declared.leakage.LeakageSide.{LeakageSide}
use Rattle.flow.specs.Leakage.{leakage_of}
use Rattle.flow.specs.Litres.{over_area_of}
use Rattle.wellformed.specs.Links.{active_of, live_of}
use Rattle.wellformed.specs.Inner.{Placed}
use Rattle.wellformed.specs.Widths.{area_at}
use Rattle.wellformed.proofs.LinksLaws.{live_high, live_low, reach, live_inside}
use Rattle.wellformed.proofs.WidthsLaws.{area_in, placed}
use Rattle.books.specs.Inner.{Slotted, pair_of}
use Rattle.books.specs.Links.{leakage_at, leakage_side_at}
use Rattle.books.proofs.WatersLaws.{active_ends, slotted}
use Rattle.books.proofs.CarriedLaws.{leakage_conductance_in, waters_in}
use Rattle.books.proofs.links.leakage_flow.Statement.{statement}
use Rattle.books.proofs.links.leakage_flow.Tie as tie

joined : (c : tie.Start) → T (live_of c.args.g c.args.slots.now above c.args.block)
joined c = holds c.requires.1.1.1.1

-- the block above is inside
far : (c : tie.Start) → c.args.block + stride_of c.args.g above < blocks_of c.args.g
far c = live_inside c.args.g c.args.slots.now above c.args.block (joined c) c.requires.0.judged.counted c.requires.1.1.0

ready : (c : tie.Start) → Slotted c.args.g c.args.slots.now
ready c = slotted (case_of c.args.g c.args.columns.now c.args.rows.now c.args.slots.now) c.requires.0.judged

low_active : (c : tie.Start) → active_of c.args.slots.now c.args.block ≡ true
low_active c = true_is (live_low c.args.g c.args.slots.now above c.args.block (joined c))

ends : (c : tie.Start) → Ends (block_of c.args.slots.now c.args.block)
ends c = active_ends c.args.g c.args.slots.now (ready c) c.args.block c.requires.1.1.0 (low_active c)

wide : (c : tie.Start) → Placed c.args.columns.now c.args.rows.now (place_of c.args.g c.args.block)
wide c = placed (case_of c.args.g c.args.columns.now c.args.rows.now c.args.slots.now) c.requires.0.judged c.args.block c.requires.1.1.0

area-requires : tie.Need-area-requires
area-requires c κs = rw c.requires.1.1.1.0 (wide c.before)

-- leakance, area and conductance, read back
leakance-told : (c : tie.After-load-own) → to_z w64 (of_z w64 c.load-own.result.leakance) ≡ (block_of c.args.slots.now c.args.block).leakance
leakance-told c = rw c.load-own.ensures (read (ends c.before).leakance tt)

area-told : (c : tie.After-area) → to_z w64 (of_z w64 c.area.result) ≡ area_at c.args.columns.now c.args.rows.now (place_of c.args.g c.args.block)
area-told c = answer c.area.type_inv (c.area.ensures ∙ ap (area_at c.args.columns.now c.args.rows.now) c.requires.1.1.1.0)

over-area-requires : tie.Need-over_area-conductance-requires
over-area-requires c κs = (rw (leakance-told c.before.before) (ends c.before.before.before).leakance, rw (area-told c.before) (area_in (wide c.before.before.before)))

conductance-told : (c : tie.After-over_area-conductance) → to_z w64 (of_z w64 c.over_area-conductance.result) ≡ over_area_of (block_of c.args.slots.now c.args.block).leakance (area_at c.args.columns.now c.args.rows.now (place_of c.args.g c.args.block))
conductance-told c = answer c.over_area-conductance.type_inv (c.over_area-conductance.ensures ∙ ap₂ over_area_of (leakance-told c.before.before.before) (area-told c.before.before))

add-upper : tie.Need-overflow_add-upper
add-upper c = omega (arith, far c.before.before.before.before.before, c.stride.ensures, c.requires.0.judged.counted.blocks_most)

load-requires-2 : tie.Need-load-requires
load-requires-2 c κs = rw c.stride.ensures (reach (ready c.before.before.before.before.before.before.before).room (far c.before.before.before.before.before.before.before))

pair-requires-2 : tie.Need-pair-requires-2
pair-requires-2 c κs = omega (arith, far c.before.before.before.before.before.before.before.before.before, c.stride.ensures, c.requires.1.0.room)

aquifer-top-requires : tie.Need-aquifer_top-requires
aquifer-top-requires c κs = rw c.load-own.ensures (ends c.before.before.before.before.before.before.before.before.before.before)

-- what leakage sees of the two blocks
below-told : (c : tie.After-pair) → ◌≡◌ {A = LeakageSide} (record { heads = c.new_heads.result; thickness = c.pair.result }) (leakage_side_at c.args.g c.args.slots.now c.args.block)
below-told c = λ i. record { heads = (c.new_heads.ensures ∙ ap new_heads c.load-own.ensures) i; thickness = (c.pair.ensures ∙ c.requires.1.0.each c.args.block c.requires.1.1.0) i }

above-told : (c : tie.After-pair-2) → ◌≡◌ {A = LeakageSide} (record { heads = c.new_heads-2.result; thickness = c.pair-2.result }) (leakage_side_at c.args.g c.args.slots.now (c.args.block + stride_of c.args.g above))
above-told c =
    let s = c.before.before.before.before.before.before.before.before.before.before in
    λ i. record {
      heads = (c.new_heads-2.ensures ∙ ap new_heads (c.load.ensures ∙ ap (λ (n : ℕ). block_of s.args.slots.now (s.args.block + n)) c.stride.ensures)) i;
      thickness = (c.pair-2.ensures ∙ ap (λ (n : ℕ). pair_of s.args.waters.now (s.args.block + n)) c.stride.ensures ∙ s.requires.1.0.each (s.args.block + stride_of s.args.g above) (far s)) i;
    }

top-told : (c : tie.After-aquifer_top) → to_z w64 (of_z w64 c.aquifer_top.result) ≡ aquifer_top_of (block_of c.args.slots.now c.args.block)
top-told c = answer c.aquifer_top.type_inv (c.aquifer_top.ensures ∙ ap aquifer_top_of c.load-own.ensures)

leakage-requires : tie.Need-leakage-requires
leakage-requires c κs =
    let s = c.before.before.before.before.before.before.before.before.before.before.before in
    let k = case_of s.args.g s.args.columns.now s.args.rows.now s.args.slots.now in (
      s.requires.0.judged.termed,
      (
        rw (conductance-told c.before.before.before.before.before.before.before) (leakage_conductance_in k s.requires.0 s.args.block s.requires.1.1.0 (joined s)),
        (
          rw (below-told c.before.before.before.before) (waters_in s.args.g s.args.slots.now (ready s) s.args.block s.requires.1.1.0 (low_active s)),
          (
            rw (above-told c.before) (waters_in s.args.g s.args.slots.now (ready s) (s.args.block + stride_of s.args.g above) (far s) (true_is (live_high s.args.g s.args.slots.now above s.args.block (joined s)))),
            rw (top-told c) (aquifer_top_in (block_of s.args.slots.now s.args.block) (ends s)),
          ),
        ),
      ),
    )

returns : tie.Need-returns
unfolding leakage_at
returns c = answer c.leakage.type_inv (c.leakage.ensures ∙ (λ i. leakage_of c.args.g (conductance-told c.before.before.before.before.before.before.before.before i) (below-told c.before.before.before.before.before i) (above-told c.before.before i) (top-told c.before i)))

pub leakage_flow_spec : {M : Type 1} → statement M
leakage_flow_spec =
    tie.close
    (tie.spec
    (λ c κs. search rules)
    area-requires
    over-area-requires
    (λ c κs. search rules)
    add-upper
    (λ c κs. search rules)
    (λ c κs. search rules)
    load-requires-2
    (λ c κs. search rules)
    pair-requires-2
    aquifer-top-requires
    leakage-requires
    returns)
