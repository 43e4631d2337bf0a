use Rattle.std.proofs.Common.{◌≡◌, ◌++◌, true, drop, string_bytes}
use Rattle.c_text.specs.FileText.{params_text}
use Rattle.c_text.proofs.file.push_params.Given as goal

-- what stands there, with the parameters to come, is the whole
abbrev pub invariant-loop-k : goal.invariant-loop-k
invariant-loop-k l =
    string_bytes l.text
    ++ params_text l.naming.prefix.now l.naming.empty.now l.first l.k (drop l.k l.params)
    ≡ string_bytes l.initial.text
    ++ params_text l.naming.prefix.now l.naming.empty.now true 0 l.params
