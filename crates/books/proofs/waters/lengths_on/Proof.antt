-- `lengths_on` meets its contract: its calls are the definition's steps. Assumes nothing.
use mathlib.Core.Path.{◌∙◌, ◌≡◌, ap}
use Rattle.whole.proofs.RangeLaws.{read}
use Rattle.block.specs.Inner.{levels_on}
use Rattle.block.specs.Wells.{lengths_of}
use Rattle.books.proofs.waters.lengths_on.Statement.{statement}
use Rattle.books.proofs.waters.lengths_on.Tie as tie

levels-told : (c : tie.After-levels_on) → c.levels_on.result ≡ levels_on c.args.block.base c.args.waters
levels-told c = c.levels_on.ensures ∙ ap (λ z. levels_on z c.args.waters) (read c.requires.0.base tt)

levels-on-requires : tie.Need-levels_on-requires
levels-on-requires c κs = (rw (read c.requires.0.base tt) c.requires.0.base, c.requires.1.0)

screen-lengths-requires : tie.Need-screen_lengths-requires
screen-lengths-requires c κs = (c.requires.0, rw (levels-told c) c.requires.1.1)

returns : tie.Need-returns
returns c = c.screen_lengths.ensures ∙ ap (lengths_of c.args.block) (levels-told c.before)

pub lengths_on_spec : {M : Type 1} → statement M
lengths_on_spec = tie.close (tie.spec levels-on-requires screen-lengths-requires returns)
