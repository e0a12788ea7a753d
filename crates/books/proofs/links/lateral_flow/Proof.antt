-- `lateral_flow` meets its contract: its calls are the definition's steps, and nothing exceeds the limit. Assumes nothing.
use mathlib.Core.Path.{◌∙◌, ◌≡◌, ap}
use Prim.Native.Nat.{◌+◌, ◌<◌, ℕ}
use native.Mathlib.Omega.{arith}
use lib.Dec.{T}
use mir.Syntax.{w64}
use mir.Val.{of_z, to_z}
use borrow.Author.Rules.{rules}
use Rattle.whole.proofs.RangeLaws.{answer, read}
use Rattle.whole.proofs.SearchLaws.{holds, true_is}
use Rattle.grid.specs.Place.{blocks_of, place_of, stride_of}
use Rattle.slices.specs.Slices.{case_of}
use Rattle.flow.specs.Lateral.{lateral_of}
use Rattle.wellformed.specs.Links.{live_of}
use Rattle.wellformed.specs.Widths.{face_at}
use Rattle.wellformed.proofs.LinksLaws.{live_high, live_low, live_next, live_inside}
use Rattle.wellformed.proofs.WidthsLaws.{face_in, onward, placed}
use Rattle.books.specs.Links.{lateral_at, side_of, tip_behind_of}
use Rattle.books.proofs.WatersLaws.{slotted}
use Rattle.books.proofs.CarriedLaws.{high_side_in, low_side_in, passes, tip_behind_in}
use Rattle.books.proofs.links.lateral_flow.Statement.{statement}
use Rattle.books.proofs.links.lateral_flow.Tie as tie

joined : (c : tie.Start) → T (live_of c.args.g c.args.slots.now c.args.axis c.args.block)
joined c = holds c.requires.1.1.1.1.1

far : (c : tie.Start) → c.args.block + stride_of c.args.g c.args.axis < blocks_of c.args.g
far c = live_inside c.args.g c.args.slots.now c.args.axis c.args.block (joined c) c.requires.0.judged.counted c.requires.1.1.0

side-requires : tie.Need-side-a-requires
side-requires c κs =
    let k = case_of c.args.g c.args.columns.now c.args.rows.now c.args.slots.now in
    (slotted k c.requires.0.judged, (c.requires.1.0, (c.requires.1.1.0, true_is (live_low c.args.g c.args.slots.now c.args.axis c.args.block (joined c)))))

add-side : tie.Need-overflow_add-block
add-side c = omega (arith, far c.before.before, c.stride.ensures, c.requires.0.judged.counted.blocks_most)

side-requires-2 : tie.Need-side-b-requires
side-requires-2 c κs =
    let s = c.before.before in
    let k = case_of s.args.g s.args.columns.now s.args.rows.now s.args.slots.now in
    rw c.stride.ensures (slotted k s.requires.0.judged, (s.requires.1.0, (far s, true_is (live_high s.args.g s.args.slots.now s.args.axis s.args.block (joined s)))))

high-told : (c : tie.After-side-b) → c.side-b.result ≡ side_of c.args.g c.args.slots.now c.args.fluid (c.args.block + stride_of c.args.g c.args.axis)
high-told c = c.side-b.ensures ∙ ap (λ (n : ℕ). side_of c.args.g c.args.slots.now c.args.fluid (c.args.block + n)) c.stride.ensures

tip-behind-requires : tie.Need-tip_behind-p-requires
tip-behind-requires c κs = (c.requires.0, (c.requires.1.0, far c.before.before.before.before.before))

face-requires : tie.Need-face-requires
face-requires c κs =
    let s = c.before.before.before.before.before.before in
    let k = case_of s.args.g s.args.columns.now s.args.rows.now s.args.slots.now in
    rw s.requires.1.1.1.0 (
      placed k s.requires.0.judged s.args.block s.requires.1.1.0,
      onward k s.requires.0.judged s.args.block s.requires.1.1.0 s.args.axis s.requires.1.1.1.1.0 (live_next s.args.g s.args.slots.now s.args.axis s.args.block (joined s)),
    )

face-told : (c : tie.After-face) → c.face.result ≡ face_at c.args.columns.now c.args.rows.now (place_of c.args.g c.args.block) c.args.axis
face-told c = c.face.ensures ∙ ap (λ p. face_at c.args.columns.now c.args.rows.now p c.args.axis) c.requires.1.1.1.0

-- the two thicknesses, read back
low_read : (c : tie.After-side-a) → to_z w64 (of_z w64 c.side-a.result.thickness) ≡ (side_of c.args.g c.args.slots.now c.args.fluid c.args.block).thickness
low_read c =
    let s = c.before in
    rw c.side-a.ensures (read (low_side_in (case_of s.args.g s.args.columns.now s.args.rows.now s.args.slots.now) s.requires.0 s.args.fluid s.args.axis s.args.block s.requires.1.1.0 (joined s)).thickness tt)

high_read : (c : tie.After-side-b) → to_z w64 (of_z w64 c.side-b.result.thickness) ≡ (side_of c.args.g c.args.slots.now c.args.fluid (c.args.block + stride_of c.args.g c.args.axis)).thickness
high_read c =
    let s = c.before.before.before in
    rw (high-told c) (read (high_side_in (case_of s.args.g s.args.columns.now s.args.rows.now s.args.slots.now) s.requires.0 s.args.fluid s.args.axis s.args.block s.requires.1.1.0 (joined s)).thickness tt)

behind-told : (c : tie.After-tip_behind-p) → c.tip_behind-p.result ≡ tip_behind_of (case_of c.args.g c.args.columns.now c.args.rows.now c.args.slots.now) c.args.fluid c.args.axis c.args.block (side_of c.args.g c.args.slots.now c.args.fluid c.args.block).thickness (side_of c.args.g c.args.slots.now c.args.fluid (c.args.block + stride_of c.args.g c.args.axis)).thickness
behind-told c =
    let s = c in
    let k = case_of s.args.g s.args.columns.now s.args.rows.now s.args.slots.now in
    c.tip_behind-p.ensures ∙ (λ i. tip_behind_of k s.args.fluid s.args.axis s.args.block (low_read c.before.before.before.before.before i) (high_read c.before.before.before i))

lateral-requires : tie.Need-lateral-requires
lateral-requires c κs =
    let s = c.before.before.before.before.before.before.before in
    let k = case_of s.args.g s.args.columns.now s.args.rows.now s.args.slots.now in
    let low = side_of s.args.g s.args.slots.now s.args.fluid s.args.block in
    let high = side_of s.args.g s.args.slots.now s.args.fluid (s.args.block + stride_of s.args.g s.args.axis) in
    let behind = tip_behind_in k s.requires.0.judged s.args.fluid s.args.axis s.args.block low.thickness high.thickness (far s) in
    rw (face-told c, c.side-a.ensures, high-told c.before.before.before.before, behind-told c.before) (
      face_in k s.requires.0.judged s.args.block s.requires.1.1.0 s.args.axis s.requires.1.1.1.1.0 (live_next s.args.g s.args.slots.now s.args.axis s.args.block (joined s)),
      (
        low_side_in k s.requires.0 s.args.fluid s.args.axis s.args.block s.requires.1.1.0 (joined s),
        (
          high_side_in k s.requires.0 s.args.fluid s.args.axis s.args.block s.requires.1.1.0 (joined s),
          (behind, passes k s.requires.0 s.args.fluid s.args.axis s.args.block s.requires.1.1.0 (joined s) s.requires.1.1.1.1.0 (tip_behind_of k s.args.fluid s.args.axis s.args.block low.thickness high.thickness) behind),
        ),
      ),
    )

returns : tie.Need-returns
unfolding lateral_at
returns c = answer c.lateral.type_inv (c.lateral.ensures ∙ (λ i. lateral_of (face-told c.before i) (c.side-a.ensures i) (high-told c.before.before.before.before.before i) (behind-told c.before.before i)))

pub lateral_flow_spec : {M : Type 1} → statement M
lateral_flow_spec =
    tie.close
    (tie.spec
    side-requires
    (λ c κs. search rules)
    add-side
    side-requires-2
    tip-behind-requires
    face-requires
    lateral-requires
    returns)
