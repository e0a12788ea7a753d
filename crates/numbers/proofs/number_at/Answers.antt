-- A number's last byte, and one that it goes on after. Five groups fit 64 bits.
use Rattle.std.proofs.Common.{◌≡◌, ◌*◌, ◌+◌, ◌-◌, ◌^◌, ◌∙◌, add-one, arith, get_or, min, sym}
use Rattle.numbers.proofs.NumbersLaws.{group, more, pow_seven, value, worth}
use Rattle.numbers.proofs.number_at.Goals as goal

pub returns-then-byte-lt128 : goal.returns-then-byte-lt128
returns-then-byte-lt128 c =
    let l = c.loop-group in
    let there = c.in-Some.ensures.lookup.3 in
    let byte : c.in-Some.byte.now ≡ get_or c.args.file.now l.next 0 = there.1 0 in
    rw (worth c.from.result l.group (omega arith) (omega arith), c.from.ensures, byte)
    (sym (l.invariant.0 ∙ value _ _ _ _ _ (5 - l.group) (omega arith) there.0 (omega arith) (omega arith)))

pub loop-group-preserved : goal.loop-group-preserved
loop-group-preserved c =
    let l = c.loop-group in
    let there = c.in-Some.ensures.lookup.3 in
    let byte : c.in-Some.byte.now ≡ get_or c.args.file.now l.next 0 = there.1 0 in
    let left : 5 - l.group - 1 ≡ 5 - (l.group + 1) = omega arith in
    let least : 1 ≡ min (l.group + 1) 1 = omega arith in
    let weight : 2 ^ (7 * (l.group + 1)) ≡ 2 ^ (7 * l.group) * 128 = rw add-one (pow_seven l.group) in
    rw (worth c.from.result l.group (omega arith) (omega arith), weight) (
      l.invariant.0 ∙ rw (c.from.ensures, byte, ← left, ← least) (more _ _ _ _ _ (5 - l.group) (omega arith) there.0 (omega arith)),
      group l.value c.from.result (2 ^ (7 * l.group)) (omega arith) l.invariant.1,
    )
