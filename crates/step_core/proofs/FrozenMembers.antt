-- Members frozen one by one.
use Rattle.std.proofs.Common.{◌≡◌, ℕ, ◌+◌, List, [], ◌∷◌, ◌++◌, Some, None, refl, sym, ap, ap₂, ◌∙◌, length}
use Rattle.std.proofs.lemmas.List.{length-append}
use Rattle.net_tree.specs.Network.{Network, Networks, no_members, and_member}
use Rattle.state_core.specs.State.{Scope, Frozens, no_frozen, and_frozen, append_frozens}
use Rattle.state_core.specs.StateView.{frozen_of, frozens_in}
use Rattle.state_core.specs.declared.env.Frozen.{Frozen as CodeFrozen}
use Rattle.state_core.proofs.FrozenLists.{frozens_append}
use Rattle.step_core.specs.Flow.{Past, past_behind, placed, all_placed}
use Rattle.step_core.proofs.Kepts.{behind_both}
use Rattle.step_core.proofs.Switches.{also_placed}

append_assoc : (fs gs hs : Frozens ℕ) → append_frozens (append_frozens fs gs) hs ≡ append_frozens fs (append_frozens gs hs)
append_assoc no_frozen gs hs = refl
append_assoc (and_frozen f fs) gs hs = ap (and_frozen f) (append_assoc fs gs hs)

append_none : (fs : Frozens ℕ) → fs ≡ append_frozens fs no_frozen
append_none no_frozen = refl
append_none (and_frozen f fs) = ap (and_frozen f) (append_none fs)

-- no member is left
pub none_left : (gs : Networks ℕ) (s : Scope ℕ) (q : Past) (fs : Frozens ℕ) → gs ≡ no_members → fs ≡ append_frozens fs (all_placed gs s q)
none_left gs s q fs e = append_none fs ∙ ap (append_frozens fs) (sym (ap (λ ns. all_placed ns s q) e ∙ none q))
  where
    none : (q : Past) → all_placed no_members s q ≡ no_frozen
    none None = refl
    none (Some k) = refl

-- one member more is frozen
pub one_frozen : (gs : Networks ℕ) (f : Network ℕ) (fs : Networks ℕ) (s : Scope ℕ) (p : Past) (before mid now : List CodeFrozen) (one : CodeFrozen)
    → gs ≡ and_member f fs → frozen_of one ≡ placed f s (past_behind (0, length before) p) → mid ≡ before ++ one ∷ []
    → frozens_in now ≡ append_frozens (frozens_in mid) (all_placed fs s (past_behind (0, length mid) p))
    → frozens_in now ≡ append_frozens (frozens_in before) (all_placed gs s (past_behind (0, length before) p))
one_frozen gs f fs s p before mid now one e ef em rest =
    let q = past_behind (0, length before) p in
    let count : length mid ≡ length before + 1 = ap length em ∙ length-append before (one ∷ []) in
    let from : (0, length mid) ≡ (0 + 0, length before + 1) = λ i. (0, count i) in
    let behind : past_behind (0, length mid) p ≡ past_behind (0, 1) q = sym (behind_both (0, 1) (0, length before) (0, length mid) p from) in
    rest ∙ ap₂ append_frozens (ap frozens_in em ∙ frozens_append before (one ∷ [])) (ap (all_placed fs s) behind)
    ∙ append_assoc (frozens_in before) (and_frozen (frozen_of one) no_frozen) (all_placed fs s (past_behind (0, 1) q))
    ∙ ap (λ w. append_frozens (frozens_in before) (and_frozen w (all_placed fs s (past_behind (0, 1) q)))) ef
    ∙ ap (append_frozens (frozens_in before)) (sym (ap (λ ns. all_placed ns s q) e ∙ also_placed f fs s q))
