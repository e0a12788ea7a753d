-- `layer_on` meets its contract: the blocks of the layer are marked. Assumes nothing.
use mathlib.Core.List.{List}
use mathlib.Core.Path.{◌∙◌, ◌≡◌, ap}
use Prim.Native.Nat.{◌≤◌}
use native.Mathlib.Omega.{arith}
use lib.IntN.{pos, ℤ}
use lib.ListN.{length, replicate}
use borrow.Author.Rules.{rules}
use Rattle.grid.specs.Place.{blocks_of}
use Rattle.slices.specs.Slices.{Case, case_of}
use Rattle.zone.specs.Zones.{marked_of}
use Rattle.budget.specs.Answers.{eighteen_of}
use Rattle.budget.proofs.AnswersLaws.{layer_marked}
use Rattle.budget.proofs.layer_on.Statement.{statement}
use Rattle.budget.proofs.layer_on.Tie as tie

abbrev case_in : tie.Start → Case
case_in c = case_of c.args.g c.args.columns.now c.args.rows.now c.args.slots.now

room : (c : tie.Start) → blocks_of c.args.g ≤ 512
room c = omega (arith, c.requires.formed.judged.counted.blocks_most)

table-on-requires : tie.Need-table_on-requires
table-on-requires c κs =
    let s = c.before.before.before.before in
    let long : length c.fill_layer_marks.new.marks ≡ 512 = c.fill_layer_marks.auto.marks in
    record { formed = s.requires.formed; watered = s.requires.watered; balanced = s.requires.balanced; reach = omega (arith, room s, long) }

returns : tie.Need-returns
returns c =
    let s = c.before.before.before.before.before in
    c.table_on.ensures
    ∙ ap (λ (marks : List ℤ). eighteen_of (case_in s) (marked_of marks)) c.fill_layer_marks.ensures
    ∙ layer_marked (case_in s) s.requires.formed.judged.counted s.args.layer (replicate 512 (pos 0)) (room s)

pub layer_on_spec : {M : Type 1} → statement M
layer_on_spec =
    tie.close
    (tie.spec
    (λ c. search rules)
    (λ c κs. (c.requires.formed.judged.counted, room c.before))
    (λ c. search rules)
    table-on-requires
    returns)
