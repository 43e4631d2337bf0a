use Rattle.std.proofs.Common.{arith}
use Rattle.std.proofs.lemmas.Grind.{common_steps}
use Rattle.net_tree.specs.NetworkView.{tree_of}
use Rattle.net_syntax.proofs.ChangedChildren.{member_put, no_member_put}
use Rattle.net_syntax.proofs.replacing.put_member.Goals as goal

pub returns-then-k-all : goal.returns-then-k-all
returns-then-k-all c = grind (arith, common_steps, no_member_put c.as_slice-all.result.now c.args.fs.now c.args.k (tree_of c.args.other) c.as_slice-all.ensures c.if-k-all.true)

pub returns : goal.returns
returns c = grind (arith, common_steps, member_put c.as_slice-all.result.now c.args.fs.now c.args.k c.args.other c.as_slice-all.ensures c.if-k-all.false)
