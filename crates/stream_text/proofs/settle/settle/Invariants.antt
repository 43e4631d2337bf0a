use Rattle.std.proofs.Common.{◌≡◌, ◌≤◌, ◌-◌, []}
use Rattle.std.specs.Prelude.{◌⊎◌}
use Rattle.stream_text.specs.TextLines.{front_lines}
use Rattle.stream_text.proofs.Settling.{Asked}
use Rattle.stream_text.proofs.settle.settle.Given as goal
use Rattle.stream_text.specs.declared.settle.TheConstants.{MOST_READS}

abbrev pub invariant-loop-size : goal.invariant-loop-size
invariant-loop-size g l = (l.reads ≤ MOST_READS)
    × Asked (g.R.Read.remaining l.fn.source) (g.R.Read.remaining l.source) l.number l.fn.kept l.kept l.fn.reads l.reads
    × ((l.kept ≡ l.fn.kept × l.source ≡ l.fn.source) ⊎ (front_lines l.number l.fn.kept ≡ []))

abbrev pub decreases-loop-size : goal.decreases-loop-size
decreases-loop-size g l = MOST_READS - l.reads
