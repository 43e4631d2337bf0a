use Rattle.std.proofs.Common.{◌≡◌, ◌++◌, true, drop, string_bytes}
use Rattle.c_text.specs.CommandText.{arguments_text, printed}
use Rattle.c_text.proofs.command.Context.push_arguments.Given as goal

-- what stands there, with the arguments to come, is the whole
abbrev pub invariant-loop-argument : goal.invariant-loop-argument
invariant-loop-argument l =
    string_bytes l.text ++ printed arguments_text l.self l.first (drop l.argument-index l.all)
    ≡ string_bytes l.initial.text ++ printed arguments_text l.self true l.all
