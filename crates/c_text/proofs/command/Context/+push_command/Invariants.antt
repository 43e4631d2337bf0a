use Rattle.std.proofs.Common.{◌≡◌, ◌++◌, drop, string_bytes}
use Rattle.c_text.specs.CommandText.{lines_text, printed}
use Rattle.c_text.proofs.command.Context.+push_command.Given as goal

-- what stands there, with the commands to come, is the whole
abbrev pub invariant-push_block-loop-command : goal.invariant-push_block-loop-command
invariant-push_block-loop-command l =
    string_bytes l.text
    ++ lines_text l.self.prefix.now l.self.empty.now l.self.structs.now l.self.result l.self.used.now l.self.margin.now
    l.grown.items (drop l.command-index l.all)
    ≡ string_bytes l.initial.text ++ printed lines_text l.self l.all
