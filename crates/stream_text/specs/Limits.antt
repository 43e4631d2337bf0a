-- How much is read of what is counted.
use Rattle.std.specs.Prelude.{◌≡◌, ◌^◌}
use Rattle.stream_text.specs.declared.line.TheConstants.{MOST_SAMPLES, MOST_BYTES}
use Rattle.stream_text.specs.declared.held.TheConstants.{ROOM}
use Rattle.stream_text.specs.declared.kept.TheConstants.{PIECE}
use Rattle.stream_text.specs.declared.settle.TheConstants.{MOST_READS}

-- lines of a stream; bytes of a line, and of what one read asks for; reads of a stream; bytes of output
-- that are held back
abbrev pub StreamLimitsAre : Type 0
StreamLimitsAre = (MOST_SAMPLES ≡ 1000000) × (MOST_BYTES ≡ 65536) × (PIECE ≡ 4096) × (MOST_READS ≡ 2 ^ 40)
    × (ROOM ≡ 65536)
