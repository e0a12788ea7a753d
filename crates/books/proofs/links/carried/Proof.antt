-- `carried` meets its contract, by axis. Assumes nothing.
use mathlib.Core.Bool.{true}
use mathlib.Core.Path.{◌∙◌, ◌≡◌, subst, sym}
use Prim.Native.Nat.{ℕ}
use native.Mathlib.Omega.{arith}
use Rattle.whole.proofs.RangeLaws.{answer}
use Rattle.grid.specs.Units.{above}
use Rattle.slices.specs.Slices.{case_of}
use Rattle.wellformed.specs.Links.{live_of}
use Rattle.books.proofs.CarriedLaws.{carried_lateral}
use Rattle.books.proofs.links.carried.Statement.{statement}
use Rattle.books.proofs.links.carried.Tie as tie

lateral-flow-requires : tie.Need-lateral_flow-requires
lateral-flow-requires c κs =
    let h = c.requires in
    (h.0, (h.1.0, (h.1.1.0, (h.1.1.1.0, (omega arith, h.1.1.1.1.1)))))

returns : tie.Need-returns-then-axis-lt-ABOVE
returns c =
    let s = c.args in
    answer c.lateral_flow.type_inv (c.lateral_flow.ensures ∙ sym (carried_lateral (case_of s.g s.columns.now s.rows.now s.slots.now) s.fluid s.axis s.block (omega arith)))

upward : (c : tie.Else-axis-lt-ABOVE) → c.args.axis ≡ above
upward c = omega (arith, c.requires.1.1.1.1.0)

leakage-flow-requires : tie.Need-leakage_flow-requires
leakage-flow-requires c κs =
    let h = c.requires in
    let s = c.args in
    (h.0, (h.1.0, (h.1.1.0, (h.1.1.1.0, subst (λ (d : ℕ). live_of s.g s.slots.now d s.block ≡ true) (upward c) h.1.1.1.1.1))))

returns-2 : tie.Need-returns
returns-2 c = rw (upward c.before) (answer c.leakage_flow.type_inv c.leakage_flow.ensures)

pub carried_spec : {M : Type 1} → statement M
carried_spec = tie.close (tie.spec lateral-flow-requires returns leakage-flow-requires returns-2)
