use Rattle.std.proofs.Common.{◌≡◌, arith, ◌∙◌}
use Rattle.std.specs.Str.{IsUtf8}
use Rattle.std.proofs.lemmas.Grind.{common_steps}
use Rattle.std.proofs.lemmas.Str.{IsUtf8-from_ascii}
use Rattle.sample_core.proofs.NumberParse.{number_is_ascii, parse_is}
use Rattle.sample_core.proofs.number.number.Goals as goal

pub returns-in_err-ok : goal.returns-in_err-ok
returns-in_err-ok c =
    let u : IsUtf8 c.args.word.now = IsUtf8-from_ascii c.args.word.now (number_is_ascii c.args.word.now c.requires) in
    grind (arith, common_steps, u)

pub returns : goal.returns
returns c =
    let e : c.in_ok-ok.field-0.now ≡ c.args.word.now = grind (arith, common_steps) in
    c.ok-2.ensures.value ∙ parse_is c.args.word.now c.parse.result (rw e at c.parse.ensures.value.0) c.requires
