use Rattle.std.proofs.Common.{◌∙◌, rules}
use Rattle.code_text.proofs.FoldedLemmas.{word_step, word_ends}
use Rattle.code_text.proofs.NamedLemmas.{each_printed, each_ended}
use Rattle.code_text.proofs.folded.push_line.Goals as goal

pub loop-word-preserved : goal.loop-word-preserved
loop-word-preserved c =
    let l = c.loop-word in
    let cut = word_step l.rest.now c.split_once.result c.split_once.ensures.cases l.room _ c.in-Some.is in (
      rw (c.in_ok-room.ensures.room, c.saturating_sub.ensures)
          (each_printed _ _ _ _ _ _ _ c.in_ok-push_str.ensures.bytes
          (rw c.saturating_sub.ensures at c.in_ok-room.ensures.text) cut
          ∙ l.invariant.0),
      search rules,
    )

pub returns : goal.returns
returns c =
    let l = c.loop-word in
    let none = word_ends l.rest.now c.split_once.result c.split_once.ensures.cases l.room c.in_default.is in
    each_ended _ _ _ _ _ c.in_ok-push_str-2.ensures.bytes none l.invariant.0
