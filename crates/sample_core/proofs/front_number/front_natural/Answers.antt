use Rattle.std.proofs.Common.{◌≡◌, ◌++◌, ◌<◌, ◌^◌, length, take, drop, refl, sym, ap, ◌∙◌}
use Rattle.std.specs.Fmt.{decimal}
use Rattle.std.specs.Str.Parse.{digits_value}
use Rattle.sample_core.proofs.FrontNumber.{front_spelled}
use Rattle.sample_core.proofs.front_number.front_natural.Goals as goal

pub returns-clause-spelled : goal.returns-clause-spelled
returns-clause-spelled c =
    let f : c.split_at.result.0.now ≡ take c.front_digits-len.result.0 c.args.text.now = c.split_at.ensures.front in
    let s : 0 < length (take c.front_digits-len.result.0 c.args.text.now) = rw f at (c.if-not-is_one_spelling.ensures.some refl) in
    let o = rw f at (c.if-not-is_one_spelling.ensures.first refl) in
    let v : c.front_digits-len.result.1 ≡ digits_value 10 (take c.front_digits-len.result.0 c.args.text.now) = c.front_digits-len.ensures.value in
    let l : digits_value 10 (take c.front_digits-len.result.0 c.args.text.now) < 10 ^ 18 = rw v at c.front_digits-len.ensures.small in
    front_spelled c.args.text.now c.front_digits-len.result.0 c.front_digits-len.ensures.digits s o l ∙
    ap (λ n. decimal n ++ drop c.front_digits-len.result.0 c.args.text.now) (sym v) ∙
    ap (λ x. decimal c.front_digits-len.result.1 ++ x) (sym c.split_at.ensures.back)
