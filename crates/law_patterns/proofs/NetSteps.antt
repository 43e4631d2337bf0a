-- Single steps of matching and building networks.
use Rattle.std.proofs.Common.{◌≡◌, ℕ, zero, suc, ◌+◌, ◌-◌, ◌<◌, ◌≤◌, arith, Bool, IsTrue, ◌↔◌, List, [], ◌∷◌, Option, Some, None, length, get_or, drop, refl, sym, ap, ◌∙◌}
use Rattle.std.proofs.lemmas.List.{drop_more}
use Rattle.leaf_core.specs.Expression.{Expression}
use Rattle.leaf_core.specs.ExpressionCode.{expression_code}
use Rattle.leaf_core.specs.EqualityByCode.{same_by_is}
use Rattle.net_tree.specs.Network.{Network}
use Rattle.net_tree.specs.NetworkCode.{network_code}
use Rattle.law_patterns.specs.declared.net_sym.NetLetter.{NetLetter}
use Rattle.law_patterns.specs.declared.net_sym.NetSym.{NetSym}
use Rattle.law_patterns.specs.NetPattern.{NetAssignment, Written, net_put_before, net_put_before_some, net_written, only_net, net_filled}
use Rattle.law_patterns.specs.NetMatching.{NetFound, NetMatching, net_failed, net_going, net_bound, net_step, net_matched, net_ended}

-- a letter that has a network already
pub net_bound-again : (o : Option (Network Expression)) (m n : Network Expression) (k : NetLetter) (es : List Expression) (fs : List (Network Expression)) (s : NetFound) (r : Bool)
    → Some m ≡ o → IsTrue r ↔ (m ≡ n) → net_going r es fs s ≡ net_bound o k n es fs s
net_bound-again o m n k es fs s r p h =
    ap (λ b. net_going b es fs s) (same_by_is (network_code expression_code) m n r h) ∙ ap (λ o. net_bound o k n es fs s) p

-- a match that has failed stays so
pub net_matched-failed : (ss : List NetSym) → net_matched ss net_failed ≡ net_failed
net_matched-failed [] = refl
net_matched-failed (s ∷ ss) = net_matched-failed ss

-- a pattern whose symbol at i doesn't fit
pub net_fails-later : (ss : List NetSym) (i : ℕ) (d : NetSym) (m n : NetMatching) → i < length ss → net_failed ≡ net_step (get_or ss i d) m
    → net_matched (drop i ss) m ≡ n → net_ended n ≡ None
net_fails-later ss i d m n lt f q =
    ap net_ended (sym q ∙ ap (λ xs. net_matched xs m) (drop_more ss i d lt) ∙ ap (net_matched (drop (i + 1) ss)) (sym f) ∙ net_matched-failed (drop (i + 1) ss))

-- a pattern whose end writes nothing
net_none-behind : (a : NetAssignment) (i : ℕ) (ss : List NetSym) → net_written a (drop i ss) ≡ None → net_written a ss ≡ None
net_none-behind a zero ss p = p
net_none-behind a (suc i) [] p = absurd (cc)
net_none-behind a (suc i) (s ∷ ss) p = ap (net_put_before_some a s) (net_none-behind a i ss p)

-- a pattern where the form before the rest lacks parts
pub net_lacks-parts : (a : NetAssignment) (ss : List NetSym) (n : ℕ) (d : NetSym) (w : Written) → 0 < n → n ≤ length ss
    → net_written a (drop n ss) ≡ Some w → None ≡ net_put_before a (get_or ss (n - 1) d) w → net_filled a ss ≡ None
net_lacks-parts a ss n d w lt le p q =
    let here : (n - 1) + 1 ≡ n = omega arith in
    let within : n - 1 < length ss = omega arith in
    ap only_net
    (net_none-behind a (n - 1) ss
    (ap (net_written a) (drop_more ss (n - 1) d within)
    ∙ ap (λ m. net_put_before_some a (get_or ss (n - 1) d) (net_written a (drop m ss))) here
    ∙ ap (net_put_before_some a (get_or ss (n - 1) d)) p
    ∙ sym q))
