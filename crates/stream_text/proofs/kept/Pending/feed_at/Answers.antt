use Rattle.std.proofs.Common.{◌+◌, drop, subst, arith}
use Rattle.std.proofs.lemmas.Grind.{common_steps}
use Rattle.stream_text.specs.TextLines.{IsFeedFree, IsFirstFeed}
use Rattle.stream_text.proofs.Lines.{free_take}
use Rattle.stream_text.proofs.KeptBytes.{first_kept, none_kept}
use Rattle.stream_text.proofs.kept.Pending.feed_at.Goals as goal

pub invariant_of-self : goal.invariant_of-self
invariant_of-self c =
    let h : IsFirstFeed (drop c.self.inside.start c.self.inside.bytes.items) (c.self.inside.searched + c.in-Some.at) =
    first_kept _ _ _ _ _ c.deref.ensures.value c.self.invariant.2 c.in-Some.ensures.found in
    let within = h.within in
    (grind (arith, common_steps), c.self.invariant.1, h.none_before)

pub invariant_of-self-in-None : goal.invariant_of-self-in-None
invariant_of-self-in-None c =
    let free : IsFeedFree (drop c.self.inside.start c.self.inside.bytes.items) =
    none_kept _ _ _ _ c.deref.ensures.value c.self.invariant.2 c.in-None.ensures.none in
    let within = c.self.invariant.0 in
    let len = c.len.ensures in
    (grind (arith, common_steps), c.self.invariant.1, free_take _ _ free)

pub returns-in-Some-clause-found : goal.returns-in-Some-clause-found
returns-in-Some-clause-found c = subst (λ xs. IsFirstFeed xs (c.self.inside.searched + c.in-Some.at)) c.self.view_is
    (first_kept _ _ _ _ _ c.deref.ensures.value c.self.invariant.2 c.in-Some.ensures.found)

pub returns-in-None-clause-none : goal.returns-in-None-clause-none
returns-in-None-clause-none c = subst IsFeedFree c.self.view_is
    (none_kept _ _ _ _ c.deref.ensures.value c.self.invariant.2 c.in-None.ensures.none)
