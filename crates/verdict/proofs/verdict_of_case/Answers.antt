use Rattle.std.proofs.Common.{◌∙◌, ◌*◌, ◌≤◌, arith}
use native.Mathlib.Nat.{le_refl}
use Rattle.grid.specs.Place.{blocks_of}
use Rattle.slices.specs.Cases.{case_in}
use Rattle.slices.specs.Slices.{Case}
use Rattle.wellformed.specs.Inner.{WellFormed}
use Rattle.books.specs.Inner.{Slotted, pair_of}
use Rattle.books.proofs.WatersLaws.{slotted, filled_watered}
use Rattle.balance.specs.Balance.{balances_of}
use Rattle.balance.proofs.BalanceLaws.{filled_balanced, filled_bounded}
use Rattle.verdict.specs.Ruling.{verdict_of}
use Rattle.verdict.proofs.RulingLaws.{verdict_same}
use Rattle.verdict.proofs.verdict_of_case.Goals as goal

-- two numbers to a block fit into a row
room : {c : Case} → WellFormed c → 2 * blocks_of c.grid ≤ 1024
room h = omega (arith, h.judged.counted.blocks_most)

ready : {c : Case} → WellFormed c → Slotted c.grid c.slots
ready {c} h = slotted c h.judged

pub fill_waters-requires : goal.fill_waters-requires
fill_waters-requires c = let h = c.args.well_formed.well_formed in record { slotted = ready h; g_in_bounds = room h }

pub fill_balances-requires : goal.fill_balances-requires
fill_balances-requires c =
    let h = c.args.well_formed.well_formed in
    record { well_formed = h; watered = filled_watered _ _ _ (ready h) c.fill_waters.ensures (le_refl 1024); g_in_bounds = room h }

pub verdict_of_rows-requires : goal.verdict_of_rows-requires
verdict_of_rows-requires c =
    let h = c.args.well_formed.well_formed in
    record {
      slotted = ready h;
      watered = filled_watered _ _ _ (ready h) c.fill_waters.ensures (le_refl 1024);
      bounded = rw c.fill_balances.ensures (filled_bounded (case_in c.args.well_formed.case) h _ (room h));
    }

pub returns : goal.returns
unfolding verdict_of
returns c =
    let k = case_in c.args.well_formed.case in
    let h = c.args.well_formed.well_formed in
    c.verdict_of_rows.ensures
    ∙ verdict_same k.grid k.slots (pair_of c.fill_balances.new.row) (balances_of k) (filled_balanced k _ h.judged.counted c.fill_balances.ensures (le_refl 1024)).each
