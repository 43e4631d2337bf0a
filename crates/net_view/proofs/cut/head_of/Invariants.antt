use Rattle.std.proofs.Common.{◌≡◌, ◌++◌, string_bytes, drop}
use Rattle.net_view.specs.Cut.{head}
use Rattle.net_view.proofs.cut.head_of.Given as goal

-- what is there, and what the bytes to come show, is the whole
abbrev pub invariant-loop-byte : goal.invariant-loop-byte
invariant-loop-byte l = string_bytes l.text ++ head (drop l.byte-index l.whole) ≡ head l.whole
