use Rattle.std.proofs.Common.{◌≡◌, ◌++◌, nat_lt, string_bytes, drop, filter}
use Rattle.net_view.proofs.cut.ascii_of.Given as goal

-- what is there, and what the bytes to come add, is the whole
abbrev pub invariant-loop-byte : goal.invariant-loop-byte
invariant-loop-byte l =
    string_bytes l.text ++ filter (λ c. nat_lt c 128) (drop l.byte-index l.bytes) ≡ filter (λ c. nat_lt c 128) l.bytes
