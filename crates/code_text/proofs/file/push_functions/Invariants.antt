use Rattle.std.proofs.Common.{◌≡◌, ◌≤◌, ◌++◌, drop, string_bytes}
use Rattle.code_text.specs.FileText.{functions_text, options_in}
use Rattle.code_text.proofs.file.push_functions.Given as goal

-- what stands there, with the functions to come, is the whole; a step is at most one function of the file
abbrev pub invariant-loop-i : goal.invariant-loop-i
invariant-loop-i l =
    (string_bytes l.text
    ++ functions_text l.source.program.now (options_in l.source.options) l.source.built.now l.source.empty.now
    l.i l.k (drop l.i l.functions)
    ≡ string_bytes l.initial.text
    ++ functions_text l.source.program.now (options_in l.source.options) l.source.built.now l.source.empty.now
    0 0 l.functions)
    × (l.k ≤ l.i)
