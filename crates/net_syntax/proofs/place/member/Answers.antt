use Rattle.net_syntax.proofs.ChildNumbers.{member_found}
use Rattle.net_syntax.proofs.place.member.Goals as goal

pub returns : goal.returns
returns c = member_found c.as_slice.result.now c.args.fs.now c.args.k c.get.result c.as_slice.ensures c.get.ensures.lookup.1 c.get.ensures.lookup.3
