use Rattle.casefile.proofs.ReadingLaws.{terms_left, termed_within}
use Rattle.casefile.proofs.read_terms.Goals as goal

pub returns-clause-stands : goal.returns-clause-stands
returns-clause-stands c =
    let read = c.in_ok-next.ensures in
    rw c.termed.ensures (termed_within c.args.head.grid c.fill.new.out c.requires (terms_left c.args.file.now c.in_ok-next.next c.fill.new.out c.args.head.next read.run read.values).1)
