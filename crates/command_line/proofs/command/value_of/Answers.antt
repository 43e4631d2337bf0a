use Rattle.command_line.proofs.Matches.{valued}
use Rattle.command_line.proofs.command.value_of.Goals as goal

pub returns : goal.returns
returns c = valued c.args.matches.now c.args.id.now _ c.get_str.ensures
