use Rattle.std.proofs.Common.{◌≡◌, ◌++◌, length, string_bytes, IsUtf8}
use Rattle.code_text.specs.NamedText.{with_each}
use Rattle.code_text.proofs.named.push_with_each.Given as goal

-- what stands there, with the rest, is the whole
abbrev pub invariant-loop-before : goal.invariant-loop-before
invariant-loop-before l =
    (string_bytes l.text ++ with_each l.mark l.by l.rest
    ≡ string_bytes l.initial.text ++ with_each l.mark l.by l.marked)
    × IsUtf8 l.rest

-- the rest grows shorter
abbrev pub decreases-loop-before : goal.decreases-loop-before
decreases-loop-before l = length l.rest
