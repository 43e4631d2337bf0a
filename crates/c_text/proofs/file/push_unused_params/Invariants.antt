use Rattle.std.proofs.Common.{◌≡◌, ◌++◌, drop, string_bytes}
use Rattle.c_text.specs.FileText.{unused_params}
use Rattle.c_text.proofs.file.push_unused_params.Given as goal

-- what stands there, with the parameters to come, is the whole
abbrev pub invariant-loop-k : goal.invariant-loop-k
invariant-loop-k l =
    string_bytes l.text
    ++ unused_params l.naming.prefix.now l.naming.empty.now l.used l.k (drop l.k l.params)
    ≡ string_bytes l.initial.text
    ++ unused_params l.naming.prefix.now l.naming.empty.now l.used 0 l.params
