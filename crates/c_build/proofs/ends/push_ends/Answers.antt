use Rattle.std.proofs.Common.{◌≡◌, ℕ, List, map, ap, sym, ◌∙◌}
use Rattle.c_build.specs.Growing.{known_limits}
use Rattle.c_build.specs.Scopes.{table}
use Rattle.c_build.proofs.Calls.{ended_plain, ended_guarded}
use Rattle.c_build.proofs.ends.push_ends.Goals as goal

pub returns-then-unchecked : goal.returns-then-unchecked
returns-then-unchecked c = λ d known same h.
    let T = table c.args.scope in
    let n = known_limits c.args.known in
    rw c.if-unchecked.true
    (ended_plain T n d _ _ _ _ _ c.in_ok-push.ensures.items (c.in_ok-init.ensures n d.shape h.state)
    c.in_ok-push-2.ensures.items (c.in_ok-step.ensures n d h))

pub returns : goal.returns
returns c = λ d known same h.
    let T = table c.args.scope in
    let n = known_limits c.args.known in
    rw c.if-unchecked.false
    (ended_guarded T n d _ _ _ _ _ _ _ c.in_ok-push.ensures.items (c.in_ok-init.ensures n d.shape h.state)
    (c.len-j.ensures ∙ c.push.new.self.ok.0) c.in_ok-push-3.ensures.items (c.in_ok-step-2.ensures n d h)
    (c.in_ok-push_guards.ensures d known same h))
