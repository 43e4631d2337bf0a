use Rattle.std.proofs.Common.{◌≡◌, drop}
use Rattle.c_text.specs.Used.{commands_used}
use Rattle.c_text.proofs.used.+mark_command.Given as goal

-- what is marked so far, with the commands to come, is all
abbrev pub invariant-mark_commands-loop-command : goal.invariant-mark_commands-loop-command
invariant-mark_commands-loop-command l = commands_used l.used.items (drop l.command-index l.all) ≡ commands_used l.initial.used.items l.all
