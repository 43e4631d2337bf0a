use Rattle.std.proofs.Common.{◌∙◌, rules}
use Rattle.code_text.proofs.NamedLemmas.{each_step, each_last, each_printed, each_ended}
use Rattle.code_text.proofs.named.push_with_each.Goals as goal

pub loop-before-preserved : goal.loop-before-preserved
loop-before-preserved c =
    let l = c.loop-before in
    let cut = each_step c.args.mark c.args.by.now l.rest.now c.split_once.result c.split_once.ensures.cases c.requires _ c.in-Some.is in
    (each_printed _ _ _ _ _ _ _ c.in_ok-push_str.ensures.bytes c.in_ok-push_str-2.ensures.bytes cut ∙ l.invariant.0, search rules)

pub returns : goal.returns
returns c =
    let l = c.loop-before in
    let none = each_last c.args.mark c.args.by.now l.rest.now c.split_once.result c.split_once.ensures.cases c.requires c.in_default.is in
    each_ended _ _ _ _ _ c.in_ok-push_str-3.ensures.bytes none l.invariant.0
