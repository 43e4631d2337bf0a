use Rattle.std.proofs.Common.{◌≡◌, ◌++◌, [], length, string_bytes, IsUtf8}
use Rattle.code_text.specs.FoldedText.{folded_lines}
use Rattle.code_text.proofs.folded.push_folded.Given as goal

-- what stands there, with the lines of the rest, is the whole
abbrev pub invariant-loop-line : goal.invariant-loop-line
invariant-loop-line l =
    (string_bytes l.text ++ folded_lines [] l.rest
    ≡ string_bytes l.initial.text ++ folded_lines [] l.lines)
    × IsUtf8 l.rest

-- the rest grows shorter
abbrev pub decreases-loop-line : goal.decreases-loop-line
decreases-loop-line l = length l.rest
