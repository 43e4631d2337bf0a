use Rattle.std.proofs.Common.{rules, arith, ◌+◌, ◌<◌, length}
use Rattle.stream_text.proofs.Steps.{next_value, no_step}
use Rattle.stream_text.proofs.step_text.step_value.Goals as goal

pub returns-in_err-next : goal.returns-in_err-next
returns-in_err-next c =
    let l : c.loop-digit.digit-index < length c.args.digits.now = omega arith in
    no_step c.args.digits.now (c.loop-digit.digit-index + 1) _ (search rules)
    (omega (arith, c.in_err-next.ensures, c.loop-digit.invariant, next_value c.args.digits.now c.loop-digit.digit-index l (c.requires _ l)))

pub returns-in_err-value : goal.returns-in_err-value
returns-in_err-value c =
    let l : c.loop-digit.digit-index < length c.args.digits.now = omega arith in
    no_step c.args.digits.now (c.loop-digit.digit-index + 1) _ (search rules)
    (omega (
      arith,
      c.in_err-value.ensures,
      c.in_ok-next.ensures,
      c.from.ensures,
      c.loop-digit.invariant,
      next_value c.args.digits.now c.loop-digit.digit-index l
          (c.requires _ l),
    ))

pub loop-digit-preserved : goal.loop-digit-preserved
loop-digit-preserved c =
    let l : c.loop-digit.digit-index < length c.args.digits.now = omega arith in
    let n = next_value c.args.digits.now c.loop-digit.digit-index l (c.requires _ l) in
    grind (arith, n)
