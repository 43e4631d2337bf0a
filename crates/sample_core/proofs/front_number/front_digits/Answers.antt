use Rattle.std.proofs.Common.{◌≡◌, ◌≤◌, ◌<◌, true, get_or, length, arith, sym, ◌∙◌}
use Rattle.std.specs.Char.{is_ascii_digit}
use Rattle.sample_core.proofs.FrontNumber.{digit_in_range, digits_more, few_digits, value_more}
use Rattle.sample_core.proofs.front_number.front_digits.Goals as goal

pub returns-then-not-is_ascii_digit-clause-small : goal.returns-then-not-is_ascii_digit-clause-small
returns-then-not-is_ascii_digit-clause-small c =
    omega (arith, c.loop-len.invariant.value, few_digits c.args.text.now c.loop-len.len 18 (omega arith) c.loop-len.invariant.digits)

pub overflow_mul-n : goal.overflow_mul-n
overflow_mul-n c = omega (arith, c.loop-len.invariant.value, few_digits c.args.text.now c.loop-len.len 17 (omega arith) c.loop-len.invariant.digits)

pub overflow_add-n : goal.overflow_add-n
overflow_add-n c =
    omega (arith, c.from.ensures, c.loop-len.invariant.value, few_digits c.args.text.now c.loop-len.len 17 (omega arith) c.loop-len.invariant.digits)

pub loop-len-preserved : goal.loop-len-preserved
loop-len-preserved c =
    let l : c.loop-len.len < length c.args.text.now = omega arith in
    let d : is_ascii_digit (get_or c.args.text.now c.loop-len.len 0) ≡ true = sym c.is_ascii_digit.ensures.value ∙ c.if-not-is_ascii_digit.false in
    let r : (48 ≤ get_or c.args.text.now c.loop-len.len 0) × (get_or c.args.text.now c.loop-len.len 0 ≤ 57) = digit_in_range _ d in
    let v = value_more c.args.text.now c.loop-len.len l d in
    record {
      digits = digits_more c.args.text.now c.loop-len.len l d c.loop-len.invariant.digits;
      value = omega (arith, c.from.ensures, c.loop-len.invariant.value, v);
    }

pub returns-clause-small : goal.returns-clause-small
returns-clause-small c =
    omega (arith, c.loop-len.invariant.value, few_digits c.args.text.now c.loop-len.len 18 (omega arith) c.loop-len.invariant.digits)
