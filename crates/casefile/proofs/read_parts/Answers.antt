use Rattle.std.proofs.Common.{◌≡◌, ◌∙◌, ap, ℕ}
use Rattle.slices.specs.Slices.{case_of}
use Rattle.slices.specs.Refusals.{refusal_in}
use Rattle.fields.specs.Runs.{Done, ending_of}
use Rattle.casefile.specs.Reading.{case_from, slots_from}
use Rattle.casefile.proofs.ReadingLaws.{body_case, body_ended, ended_stands}
use Rattle.casefile.proofs.read_parts.Goals as goal
use Rattle.casefile.proofs.read_parts.Goals.{After-ending}

-- what the run is refused with at its end
told : (c : After-ending) → refusal_in c.ending.result ≡ ending_of (slots_from c.args.head.grid c.args.file.now c.args.head.next).run c.args.file.now
told c =
    let first = rw c.requires.columns_room at c.fill-columns_read.ensures.run in
    let second = rw (c.requires.rows_room, first) at c.fill-rows_read.ensures.run in
    let third = rw second at c.fill_blocks-run.ensures.run in
    c.ending.ensures ∙ ap (λ run. ending_of run c.args.file.now) third

-- the case that was read
same : (c : After-ending) (next : ℕ) → (slots_from c.args.head.grid c.args.file.now c.args.head.next).run ≡ Done next →
    case_of c.args.head.grid c.fill-columns_read.new.out c.fill-rows_read.new.out c.fill_blocks-run.new.out ≡ case_from c.args.head.grid c.args.file.now c.args.head.next
same c next done =
    let a = c.args in
    let g = a.head.grid in
    let first = rw c.requires.columns_room at c.fill-columns_read.ensures in
    let second = rw (c.requires.rows_room, first.run) at c.fill-rows_read.ensures in
    let third = rw second.run at c.fill_blocks-run.ensures in
    (λ i. case_of g (first.values i) (second.values i) (third.values i))
    ∙ body_case g a.file.now a.head.next next a.columns.now a.rows.now a.slots.now c.requires.columns_room c.requires.rows_room c.requires.slots_room done

pub returns-clause-read : goal.returns-clause-read
returns-clause-read c = body_ended c.args.head.grid c.args.file.now c.args.head.next _ c.ending.result (told c) (same c)

pub returns-clause-judged : goal.returns-clause-judged
returns-clause-judged c = ended_stands c.args.head.grid c.args.file.now c.args.head.next _ c.ending.result (told c) (same c) c.requires.counted c.requires.termed
