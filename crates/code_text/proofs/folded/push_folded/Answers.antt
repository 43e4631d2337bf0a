use Rattle.std.proofs.Common.{◌∙◌, rules}
use Rattle.code_text.proofs.FoldedLemmas.{line_step, line_ends}
use Rattle.code_text.proofs.NamedLemmas.{each_printed, each_ended}
use Rattle.code_text.proofs.folded.push_folded.Goals as goal

pub loop-line-preserved : goal.loop-line-preserved
loop-line-preserved c =
    let l = c.loop-line in
    let cut = line_step l.rest.now c.split_once.result c.split_once.ensures.cases _ c.in-Some.is in
    (each_printed _ _ _ _ _ _ _ c.in_ok-push_line.ensures c.in_ok-push_str.ensures.bytes cut ∙ l.invariant.0, search rules)

pub returns : goal.returns
returns c =
    let l = c.loop-line in
    let none = line_ends l.rest.now c.split_once.result c.split_once.ensures.cases c.in_default.is in
    each_ended _ _ _ _ _ c.in_ok-push_line-2.ensures none l.invariant.0
