use Rattle.std.proofs.Common.{◌≡◌, ◌≤◌, ◌++◌, string_bytes, drop}
use Rattle.net_view.specs.Cut.{to_depth}
use Rattle.net_view.proofs.cut.to_depth.Given as goal

-- what is shown, and what the bytes to come show, is the whole; each bracket has a byte
abbrev pub invariant-loop-byte : goal.invariant-loop-byte
invariant-loop-byte l =
    (string_bytes l.text ++ to_depth l.most l.depth (drop l.byte-index l.whole) ≡ to_depth l.most 0 l.whole)
    × (l.depth ≤ l.byte-index)
