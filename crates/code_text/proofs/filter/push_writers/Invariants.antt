use Rattle.std.proofs.Common.{◌≡◌, ◌++◌, map, drop, string_bytes}
use Rattle.sample_core.specs.TypeView.{type_of}
use Rattle.code_text.specs.FilterText.{writers_text}
use Rattle.code_text.proofs.filter.push_writers.Given as goal

-- what stands there, with the writers to come, is the whole
abbrev pub invariant-loop-ty : goal.invariant-loop-ty
invariant-loop-ty l =
    string_bytes l.text
    ++ writers_text l.prefix (type_of l.output) (map type_of (drop l.ty-index l.types))
    ≡ string_bytes l.initial.text
    ++ writers_text l.prefix (type_of l.output) (map type_of l.types)
