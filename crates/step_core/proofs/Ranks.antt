-- What scopes weigh, by what is put in them.
use Rattle.std.proofs.Common.{◌≡◌, ℕ, zero, suc, ◌∷◌, ◌++◌, refl, sym, ap, Option, Some, None}
use Rattle.sample_core.specs.Datum.{Datum}
use Rattle.net_tree.specs.Network.{Networks, no_members, and_member}
use Rattle.net_tree.specs.Weight.{weight, weights, weight_at}
use Rattle.state_core.specs.State.{States, Scope, Frozens, Frozen, no_state, and_state, scope, no_frozen, and_frozen, append_frozens, frozens_of, frozen_at, push_param, push_olds, all_unstarted, all_paused}
use Rattle.step_core.specs.Rank.{rank, ranks, ranks_in, frozen_ranks, frozen_rank}

module _ {L : Type 0} where
  pub ranks-param : (s : Scope L) (c : Datum) → ranks_in (push_param s c) ≡ ranks_in s
  ranks-param (scope ps fs) c = refl

  frozen_ranks-append : (fs gs : Frozens L) → frozen_ranks (append_frozens fs gs) ≡ frozen_ranks fs ++ frozen_ranks gs
  frozen_ranks-append no_frozen gs = refl
  frozen_ranks-append (and_frozen f fs) gs = ap (λ ns. frozen_rank f ∷ ns) (frozen_ranks-append fs gs)

  -- in what a switch puts in scope
  pub ranks-olds : (s : Scope L) (c : Datum) (gs : Frozens L) → ranks_in (push_olds (push_param s c) gs) ≡ ranks_in s ++ frozen_ranks gs
  ranks-olds (scope ps fs) c gs = frozen_ranks-append fs gs

  pub ranks-unstarted : (fs : Networks L) (s : Scope L) → frozen_ranks (all_unstarted fs s) ≡ weights fs (ranks_in s)
  ranks-unstarted no_members s = refl
  ranks-unstarted (and_member f fs) s = ap (λ ns. weight f (ranks_in s) ∷ ns) (ranks-unstarted fs s)

  pub ranks-paused : (as' : States L) (d : ℕ) → frozen_ranks (all_paused as' d) ≡ ranks as'
  ranks-paused no_state d = refl
  ranks-paused (and_state a as') d = ap (λ ns. rank a ∷ ns) (ranks-paused as' d)

  abbrev frozen_else : Frozen L → Option (Frozen L) → Frozen L
  frozen_else g None = g
  frozen_else g (Some f) = f

  rank-at : (fs : Frozens L) (k : ℕ) (f : Frozen L) → frozen_at fs k ≡ Some f → frozen_rank f ≡ weight_at (frozen_ranks fs) k
  rank-at no_frozen k f e = cc
  rank-at (and_frozen g fs) zero f e = sym (ap (λ o. frozen_rank (frozen_else g o)) e)
  rank-at (and_frozen g fs) (suc k) f e = rank-at fs k f e

  pub rank-in : (s : Scope L) (k : ℕ) (f : Frozen L) → frozen_at (frozens_of s) k ≡ Some f → frozen_rank f ≡ weight_at (ranks_in s) k
  rank-in (scope ps fs) k f e = rank-at fs k f e
