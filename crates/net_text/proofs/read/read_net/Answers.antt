use Rattle.net_text.proofs.FileRead.{net_found, net_only, net_refused}
use Rattle.net_text.proofs.read.read_net.Goals as goal

pub returns-clause-found : goal.returns-clause-found
returns-clause-found c = net_found c.args.text.now c.file.result c.file.ensures.exact

pub returns-clause-only : goal.returns-clause-only
returns-clause-only c = net_only c.args.text.now c.file.result c.file.ensures.exact

pub returns-clause-refused : goal.returns-clause-refused
returns-clause-refused c = net_refused c.args.text.now c.file.result c.file.ensures.exact
