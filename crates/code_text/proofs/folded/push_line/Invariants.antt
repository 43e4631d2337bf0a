use Rattle.std.proofs.Common.{◌≡◌, ◌++◌, length, string_bytes, IsUtf8}
use Rattle.code_text.specs.FoldedText.{folded}
use Rattle.code_text.proofs.folded.push_line.Given as goal

-- what stands there, with the rest, is the whole
abbrev pub invariant-loop-word : goal.invariant-loop-word
invariant-loop-word l =
    (string_bytes l.text ++ folded l.room l.rest
    ≡ string_bytes l.initial.text ++ folded 97 l.line)
    × IsUtf8 l.rest

-- the rest grows shorter
abbrev pub decreases-loop-word : goal.decreases-loop-word
decreases-loop-word l = length l.rest
