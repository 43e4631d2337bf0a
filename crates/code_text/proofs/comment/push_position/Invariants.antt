use Rattle.std.proofs.Common.{◌≡◌, ◌++◌, drop, string_bytes}
use Rattle.code_text.specs.CommentText.{position_text}
use Rattle.code_text.proofs.comment.push_position.Given as goal

-- what stands there, with the numbers to come, is the whole
abbrev pub invariant-loop-k : goal.invariant-loop-k
invariant-loop-k l =
    string_bytes l.text ++ position_text (drop l.k-index l.position)
    ≡ string_bytes l.initial.text ++ position_text l.position
