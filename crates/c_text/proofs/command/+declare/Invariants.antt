use Rattle.std.proofs.Common.{◌≡◌, drop}
use Rattle.c_text.specs.CommandText.{after_all}
use Rattle.c_text.proofs.command.+declare.Given as goal

-- the locals so far, with those of the commands to come, are all
abbrev pub invariant-declare_all-loop-command : goal.invariant-declare_all-loop-command
invariant-declare_all-loop-command l =
    after_all l.locals.items (drop l.command-index l.all) ≡ after_all l.initial.locals.items l.all
