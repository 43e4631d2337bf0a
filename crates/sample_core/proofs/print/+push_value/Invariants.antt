use Rattle.std.proofs.Common.{◌≡◌, ◌++◌, string_bytes, drop, map}
use Rattle.sample_core.specs.ValueView.{datum_of}
use Rattle.sample_core.specs.Adding.{Extends}
use Rattle.sample_core.specs.Datum.{list_of}
use Rattle.sample_core.specs.Spelling.{spellings}
use Rattle.sample_core.proofs.print.+push_value.Given as goal

-- the text begins as it did, and what stands there and the spelling of the elements to come is the whole
abbrev pub invariant-push_list-loop-v : goal.invariant-push_list-loop-v
invariant-push_list-loop-v l =
    Extends (string_bytes l.initial.text) (string_bytes l.text)
    × (string_bytes l.text ++ spellings (list_of (map datum_of (drop l.v-index l.v-items))) ≡ string_bytes l.initial.text
    ++ spellings (list_of (map datum_of l.v-items)))
