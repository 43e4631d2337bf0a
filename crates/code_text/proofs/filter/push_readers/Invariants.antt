use Rattle.std.proofs.Common.{◌≡◌, ◌++◌, map, drop, string_bytes}
use Rattle.sample_core.specs.TypeView.{type_of}
use Rattle.code_text.specs.FilterText.{readers_text}
use Rattle.code_text.proofs.filter.push_readers.Given as goal

-- what stands there, with the readers to come, is the whole
abbrev pub invariant-loop-ty : goal.invariant-loop-ty
invariant-loop-ty l =
    string_bytes l.text
    ++ readers_text l.prefix l.most (type_of l.input) (map type_of (drop l.ty-index l.types))
    ≡ string_bytes l.initial.text
    ++ readers_text l.prefix l.most (type_of l.input) (map type_of l.types)
