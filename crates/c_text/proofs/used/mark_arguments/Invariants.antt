use Rattle.std.proofs.Common.{◌≡◌, drop}
use Rattle.c_text.specs.Used.{arguments_used}
use Rattle.c_text.proofs.used.mark_arguments.Given as goal

-- what is marked so far, with the arguments to come, is all
abbrev pub invariant-loop-argument : goal.invariant-loop-argument
invariant-loop-argument l = arguments_used l.used.items (drop l.argument-index l.all) ≡ arguments_used l.initial.used.items l.all
