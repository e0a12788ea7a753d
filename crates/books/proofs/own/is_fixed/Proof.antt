-- `is_fixed` meets its contract: the second kind is asked where the first is not the block's. Assumes nothing.
use mathlib.Core.Path.{◌∙◌, ◌≡◌, ap, sym}
use mir.Syntax.{w64}
use mir.Val.{of_z, to_z}
use borrow.Author.Rules.{rules}
use Rattle.whole.proofs.RangeLaws.{answer}
use Rattle.slots.specs.Rules.{is_kind}
use Rattle.books.specs.Own.{fixed_of, fixing_of}
use Rattle.books.proofs.OwnLaws.{fixing_in}
use Rattle.books.proofs.own.is_fixed.Statement.{statement}
use Rattle.books.proofs.own.is_fixed.Tie as tie

kind-told : (c : tie.After-fixing) → to_z w64 (of_z w64 c.fixing.result) ≡ fixing_of c.args.fluid
kind-told c = answer c.fixing.type_inv c.fixing.ensures

is-kind-requires : tie.Need-is_kind-requires
is-kind-requires c κs = (c.requires, rw (kind-told c) (fixing_in c.args.fluid))

told : (c : tie.After-is_kind) → is_kind c.args.block (fixing_of c.args.fluid) ≡ c.is_kind.result
told c = sym (c.is_kind.ensures ∙ ap (is_kind c.args.block) (kind-told c.before))

returns : tie.Need-returns-then-is_kind
unfolding fixed_of
returns c = rw (told c.before ∙ c.if-is_kind.true)

returns-2 : tie.Need-returns
unfolding fixed_of
returns-2 c = rw (told c.before.before ∙ c.if-is_kind.false) c.is_kind-2.ensures

pub is_fixed_spec : {M : Type 1} → statement M
is_fixed_spec = tie.close (tie.spec (λ c κs. search rules) is-kind-requires returns (λ c κs. search rules) returns-2)
