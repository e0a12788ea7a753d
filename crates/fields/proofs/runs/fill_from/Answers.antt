use Rattle.std.proofs.Common.{◌≡◌, ◌+◌, ◌-◌, ◌∙◌, FitsSigned, arith, length, refl, rules, sym, take, to_z-of_z, w64}
use Rattle.whole.proofs.LentLaws.{stored_drop, stored_take}
use Rattle.fields.proofs.RunsLaws.{fill_value}
use Rattle.fields.proofs.runs.fill_from.Goals as goal

pub loop-k-preserved : goal.loop-k-preserved
loop-k-preserved c =
    let a = c.args in
    let l = c.loop-k in
    let f = c.in_ok-field.field in
    let fits : FitsSigned w64 f.value = search rules in
    let less : length a.out.now - l.k - 1 ≡ length a.out.now - (l.k + 1) = omega arith in
    rw (to_z-of_z fits) (
      l.invariant.0
          ∙ fill_value a.part a.file.now (length a.out.now - l.k) l.next (take l.k l.out) f.value f.next (omega arith) (sym c.in_ok-field.ensures)
          ∙ rw (stored_take l.k l.out f.value (omega arith), less) refl,
      stored_drop l.k l.out a.out.now f.value l.invariant.1,
    )
