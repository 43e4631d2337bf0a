use Rattle.std.proofs.Common.{◌≡◌, drop, true}
use Rattle.yampa_run.specs.Words.{parts_from}
use Rattle.yampa_run.proofs.words.has_parts.Given as goal

-- the bytes so far are of parts, behind which the next one begins or goes on
abbrev pub invariant-loop-byte : goal.invariant-loop-byte
invariant-loop-byte l = parts_from l.begins (drop l.byte-index l.bytes) ≡ parts_from true l.bytes
