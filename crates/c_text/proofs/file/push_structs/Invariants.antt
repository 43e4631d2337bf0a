use Rattle.std.proofs.Common.{◌≡◌, ◌++◌, drop, string_bytes}
use Rattle.c_text.specs.FileText.{structs_text}
use Rattle.c_text.proofs.file.push_structs.Given as goal

-- what stands there, with the structs to come, is the whole
abbrev pub invariant-loop-k : goal.invariant-loop-k
invariant-loop-k l =
    string_bytes l.text
    ++ structs_text l.naming.prefix.now l.naming.empty.now l.k (drop l.k l.structs)
    ≡ string_bytes l.initial.text ++ structs_text l.naming.prefix.now l.naming.empty.now 0 l.structs
