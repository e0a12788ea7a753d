-- `fill_layer_marks` meets its contract. The invariant: the marks of the blocks passed are put in. Assumes nothing.
use mathlib.Core.Path.{◌∙◌, ◌≡◌, refl, sym}
use Prim.Native.Nat.{◌-◌, ◌≤◌}
use native.Mathlib.Omega.{arith}
use lib.ListN.{length, length-set, set}
use Rattle.whole.proofs.RangeLaws.{answer}
use Rattle.grid.specs.Place.{blocks_of}
use Rattle.budget.specs.Answers.{layer_zone}
use Rattle.budget.specs.Inner.{marks_of}
use Rattle.budget.proofs.AnswersLaws.{marks_more, marks_start}
use Rattle.budget.proofs.fill_layer_marks.Statement.{statement}
use Rattle.budget.proofs.fill_layer_marks.Tie as tie

abbrev invariant-loop : tie.invariant-loop-block
invariant-loop g layer marks₀ total block₀ marks block = (block ≤ total) × ((length marks ≡ length marks₀) × (marks ≡ marks_of block (layer_zone g layer) marks₀))

abbrev decreases-loop : tie.decreases-loop-block
decreases-loop g layer marks₀ total block₀ marks block = total - block

loop-holds : tie.Need-loop-block-init invariant-loop decreases-loop
loop-holds c = (omega arith, (refl, sym (marks_start (layer_zone c.args.g c.args.layer) c.args.marks.now)))

mark-in-layer-requires : tie.Need-mark_in_layer-mark-requires invariant-loop decreases-loop
mark-in-layer-requires c κs = (c.requires.0, omega arith)

loop-again : tie.Need-loop-block-preserved invariant-loop decreases-loop
loop-again c =
    let s = c.args in
    let l = c.loop-block in (
      omega arith,
      (
        simp length-set l.invariant.1.0,
        (λ k. set (l.invariant.1.1 k) l.block (answer c.mark_in_layer-mark.type_inv c.mark_in_layer-mark.ensures k)) ∙ sym (marks_more l.block (layer_zone s.g s.layer) s.marks.now),
      ),
    )

returns : tie.Need-returns invariant-loop decreases-loop
returns c =
    let e : c.loop-block.block ≡ blocks_of c.args.g = omega arith in
    rw (← e) c.loop-block.invariant.1.1

pub fill_layer_marks_spec : {M : Type 1} → statement M
fill_layer_marks_spec =
    tie.close
    (tie.spec
    invariant-loop
    decreases-loop
    (λ c κs. c.requires.0)
    loop-holds
    mark-in-layer-requires
    (λ c. omega arith)
    (λ c. omega arith)
    (λ c. omega arith)
    (λ c. omega arith)
    loop-again
    (λ c. c.loop-block.invariant.1.0)
    returns)
