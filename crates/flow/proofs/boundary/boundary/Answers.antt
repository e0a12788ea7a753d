-- A part of the exchange, where there is one. Assumes nothing.
use mathlib.Core.Path.{◌∙◌, sym}
use Rattle.whole.proofs.RangeLaws.{answer, read}
use Rattle.flow.specs.Boundary.{boundary_of, exchange_of, gain_of}
use Rattle.flow.proofs.boundary.boundary.Goals as goal

pub returns-then-not-below_top : goal.returns-then-not-below_top
unfolding boundary_of
returns-then-not-below_top c =
    let a = c.args in
    let through = answer c.exchange.type_inv (c.exchange.ensures ∙ (λ i. exchange_of a.g a.block (read c.requires.fact tt i) (c.uppermost-upper.ensures i))) in
    rw (sym c.is_open.ensures ∙ c.if-is_open.true, sym c.below_top.ensures ∙ c.if-not-below_top.true)
    (answer c.gain.type_inv (c.gain.ensures ∙ (λ i. gain_of a.block (c.uppermost-upper.ensures i) a.fluid (through i))))
