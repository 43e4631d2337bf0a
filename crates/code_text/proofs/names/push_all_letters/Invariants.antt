use Rattle.std.proofs.Common.{◌≡◌, ◌++◌, map, drop, string_bytes}
use Rattle.sample_core.specs.TypeView.{type_of}
use Rattle.code_text.specs.FileText.{all_letters}
use Rattle.code_text.proofs.names.push_all_letters.Given as goal

-- what stands there, with the names to come, is the whole
abbrev pub invariant-loop-k : goal.invariant-loop-k
invariant-loop-k l =
    string_bytes l.text ++ all_letters l.prefix l.all l.k (map type_of (drop l.k l.types))
    ≡ string_bytes l.initial.text ++ all_letters l.prefix l.all 0 (map type_of l.types)
