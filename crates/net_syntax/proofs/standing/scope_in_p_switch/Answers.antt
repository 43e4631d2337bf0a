use Rattle.std.proofs.Common.{◌≡◌, ◌-◌, ap, sym, ◌∙◌, subst, arith}
use Rattle.sample_core.specs.TypeView.{type_of}
use Rattle.net_syntax.specs.ArrowView.{arrow_of}
use Rattle.net_syntax.specs.FoundType.{Finds}
use Rattle.net_tree.specs.NetworkView.{tree, trees}
use Rattle.net_tree.specs.Place.{◌>>=◌}
use Rattle.net_syntax.specs.StandingWalk.{frozen, standing_of, with_scope}
use Rattle.net_meaning.specs.Typing.{members}
use Rattle.net_syntax.proofs.ChildNumbers.{continuation_at}
use Rattle.net_syntax.proofs.standing.scope_in_p_switch.Goals as goal

pub overflow_sub-k : goal.overflow_sub-k
overflow_sub-k c = let h = continuation_at (trees c.args.fs.now) c.args.k c.requires in omega (arith, h)

pub returns : goal.returns
returns c =
    let h = continuation_at (trees c.args.fs.now) c.args.k c.requires in
    let n : c.args.k - 1 ≡ members (trees c.args.fs.now) = omega (arith, h) in
    subst (λ z. Finds (λ s. with_scope (standing_of c.args.at.now) s) c.freezing.result z)
    (ap (λ k. frozen (standing_of c.args.at.now) k (type_of c.in_ok-types.outputs) (tree c.args.e.now) (arrow_of c.in_ok-types.types)) n
    ∙ sym (ap (λ o. o >>= (λ p. frozen (standing_of c.args.at.now) (members (trees c.args.fs.now)) p.1 (tree c.args.e.now) p.0)) c.in_ok-types.ensures)) c.freezing.ensures
