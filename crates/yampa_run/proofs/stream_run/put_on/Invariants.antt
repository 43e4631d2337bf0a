use Rattle.std.proofs.Common.{◌≤◌, ℕ, List, Option, length, take}
use Rattle.std.specs.Io.KnownBytes.{Appends}
use Rattle.yampa_run.proofs.stream_run.put_on.Given as goal

abbrev pub invariant-loop-turn : goal.invariant-loop-turn
invariant-loop-turn g l = (l.done ≤ length l.bytes) × ((from : Option (List ℕ)) → Appends from (g.W.Write.contents l.fn.writer) (take l.first l.bytes)
    → Appends from (g.W.Write.contents l.writer) (take l.done l.bytes))
