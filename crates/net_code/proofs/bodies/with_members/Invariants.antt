use Rattle.std.proofs.Common.{◌≡◌, take}
use Rattle.net_code.specs.Bodies.{member_statements}
use Rattle.net_code.proofs.bodies.with_members.Given as goal

-- the statements of the members so far
abbrev pub invariant-loop-member : goal.invariant-loop-member
invariant-loop-member l = l.all.items ≡ member_statements (take l.member-index l.members)
