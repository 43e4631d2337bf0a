use Rattle.std.proofs.Common.{◌≡◌, ◌++◌, drop, string_bytes}
use Rattle.c_text.specs.TermText.{elements_text}
use Rattle.c_text.proofs.term.+push_term.Given as goal

-- what stands there, with the elements to come, is the whole
abbrev pub invariant-push_elements-loop-i : goal.invariant-push_elements-loop-i
invariant-push_elements-loop-i l =
    string_bytes l.text ++ elements_text l.scope.prefix.now l.scope.structs.now l.scope.locals.now l.i (drop l.i l.all)
    ≡ string_bytes l.initial.text
    ++ elements_text l.scope.prefix.now l.scope.structs.now l.scope.locals.now 0 l.all
