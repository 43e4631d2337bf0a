use Rattle.std.proofs.Common.{arith, ap, sym, ◌∙◌, Err}
use Rattle.net_types.specs.declared.fault.TypeFault.TheVariants.{Members}
use Rattle.net_types.proofs.ScopeLists.{members_passed, members_failed}
use Rattle.net_types.proofs.walk.Walk.count_members.Goals as goal
use Rattle.net_types.proofs.walk.Walk.count_members.Goals.{else-count-ge1-via-then-count-ge1+else-count-le-MOST_MEMBERS, else-count-ge1-via-else-count-ge1}

pub returns-then-count-le-MOST_MEMBERS-clause-answer :
    goal.returns-then-count-le-MOST_MEMBERS-clause-answer
returns-then-count-le-MOST_MEMBERS-clause-answer c = members_passed c.args.self.now.path.items c.args.members.now c.if-count-ge1.true c.if-count-le-MOST_MEMBERS.true

pub returns-clause-answer : goal.returns-clause-answer
returns-clause-answer c =
    λ h. members_failed c.args.self.now.path.items c.args.members.now
    (λ low high.
    elim c.else-count-ge1.branch [
      | else-count-ge1-via-then-count-ge1+else-count-le-MOST_MEMBERS w ↦ omega arith
      | else-count-ge1-via-else-count-ge1 w ↦ omega arith
    ])
    ∙ ap (λ Q. Err (Members Q)) (sym (c.in_ok-position.ensures ∙ c.deref.ensures.value))
