use Rattle.std.proofs.Common.{◌≡◌, drop}
use Rattle.std.specs.List.{fold}
use Rattle.code_text.specs.Fingerprint.{fingerprint, mixed}
use Rattle.code_text.proofs.fingerprint.fingerprint.Given as goal

-- the sum so far, with the bytes to come, is the whole one
abbrev pub invariant-loop-byte : goal.invariant-loop-byte
invariant-loop-byte l = fold mixed l.hash (drop l.byte-index l.bytes) ≡ fingerprint l.bytes
