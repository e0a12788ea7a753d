use Rattle.std.proofs.Common.{◌≡◌, ◌*◌, ◌+◌, ◌-◌, ◌≤◌, ◌∙◌, ap, arith, length, sym}
use Rattle.std.proofs.lemmas.Result.{err_from_is_err_and}
use Rattle.whole.specs.Lent.{over}
use Rattle.grid.specs.Place.{blocks_of}
use Rattle.fields.specs.Runs.{Done, block_from}
use Rattle.fields.proofs.FilledLaws.{block_next, block_put, blocks_refused}
use Rattle.fields.proofs.runs.fill_blocks_from.Goals as goal

pub returns-in_err-next-clause-run : goal.returns-in_err-next-clause-run
returns-in_err-next-clause-run c =
    let a = c.args in
    let l = c.loop-block in
    let p = err_from_is_err_and c.from_residual.result c.from_residual.ensures.1 in
    let ends = blocks_refused (Done a.at) a.g a.file.now l.block (blocks_of a.g) l.next c.is_top.result _ l.invariant.0 c.is_top.ensures c.in_err-next.ensures.run (omega arith) in
    rw (p.1, p.2) (sym ends.0)

pub returns-in_err-next-clause-values : goal.returns-in_err-next-clause-values
returns-in_err-next-clause-values c =
    let a = c.args in
    let l = c.loop-block in
    let n = l.block in
    let ends = blocks_refused (Done a.at) a.g a.file.now n (blocks_of a.g) l.next c.is_top.result _ l.invariant.0 c.is_top.ensures c.in_err-next.ensures.run (omega arith) in
    let sixteen : 16 * n + 16 - 16 * n ≡ 16 = omega arith in
    let room : 16 * n + 16 ≤ length l.out = omega arith in
    let values = rw sixteen at c.in_err-next.ensures.values in
    rw sixteen
    (block_put (Done a.at) a.g a.file.now n l.next c.is_top.result a.out.now l.out c.fill_block.new.out l.invariant.0 c.is_top.ensures room l.invariant.1 values
    ∙ sym (ap (λ values. over values a.out.now) ends.1))

pub loop-block-preserved : goal.loop-block-preserved
loop-block-preserved c =
    let a = c.args in
    let l = c.loop-block in
    let n = l.block in
    let sixteen : 16 * n + 16 - 16 * n ≡ 16 = omega arith in
    let room : 16 * n + 16 ≤ length l.out = omega arith in
    let block = rw sixteen at c.in_ok-next.ensures in
    rw sixteen (
      block.run ∙ ap (λ top. (block_from (Done l.next) a.file.now (n + 1) top).run) c.is_top.ensures ∙ block_next (Done a.at) a.g a.file.now n l.next l.invariant.0,
      block_put (Done a.at) a.g a.file.now n l.next c.is_top.result a.out.now l.out c.fill_block.new.out l.invariant.0 c.is_top.ensures room l.invariant.1 block.values,
    )
