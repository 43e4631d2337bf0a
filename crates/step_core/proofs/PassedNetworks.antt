-- What a `-->` or a `>--` is once it has started.
use Rattle.std.proofs.Common.{◌≡◌, ℕ, ◌≤◌, List, refl, sym, ap, ◌∙◌, subst, arith, Some}
use Rattle.sample_core.specs.Datum.{Datum}
use Rattle.leaf_core.specs.KeyTree.{KeyTree}
use Rattle.net_tree.specs.Network.{Network, arr, seq, first, par, loop_pre, initial_out, initial_in, i_pre, delay, hold, accum_by, after, repeatedly, time, integral, switch, r_switch, rp_switch, k_switch, p_switch, old}
use Rattle.state_core.specs.State.{State, Scope, paused}
use Rattle.state_core.specs.Tree.{Kept, Width, width_of, width, behind, tree, passed}
use Rattle.step_core.specs.Flow.{Past, past_behind, flowed, Flows}
use Rattle.step_core.specs.Rank.{frozen_rank}
use Rattle.step_core.specs.Runs.{RunsWhere}
use Rattle.step_core.proofs.Levels.{level}

-- what goes on keeps as much, is the same state, and is no `-->` or `>--`
pub record Passes (net : Network ℕ) : Type 0 where
  pub same_width : width (passed net) ≡ width net
  pub same_tree : (s : Scope ℕ) (k : Kept ℕ) → tree (passed net) s k ≡ tree net s k
  pub low : level (passed net) ≤ 19

itself : (net : Network ℕ) → passed net ≡ net → level net ≤ 19 → Passes net
itself net e l = record {
  same_width = ap width e;
  same_tree = λ s k. ap (λ f. tree f s k) e;
  low = let same : level (passed net) ≡ level net = ap level e in omega (arith, same, l);
}

pub passes : (net : Network ℕ) → Passes net
passes (initial_out c f) = let p = passes f in record { same_width = p.same_width; same_tree = p.same_tree; low = p.low }
passes (initial_in c f) = let p = passes f in record { same_width = p.same_width; same_tree = p.same_tree; low = p.low }
passes (arr e) = itself (arr e) refl (omega arith)
passes (seq f g) = itself (seq f g) refl (omega arith)
passes (first f) = itself (first f) refl (omega arith)
passes (par fs) = itself (par fs) refl (omega arith)
passes (loop_pre c f) = itself (loop_pre c f) refl (omega arith)
passes (i_pre c) = itself (i_pre c) refl (omega arith)
passes (delay q c) = itself (delay q c) refl (omega arith)
passes (hold c) = itself (hold c) refl (omega arith)
passes (accum_by g z) = itself (accum_by g z) refl (omega arith)
passes (after q c) = itself (after q c) refl (omega arith)
passes (repeatedly q c) = itself (repeatedly q c) refl (omega arith)
passes time = itself time refl (omega arith)
passes integral = itself integral refl (omega arith)
passes (switch tm f t) = itself (switch tm f t) refl (omega arith)
passes (r_switch tm f t) = itself (r_switch tm f t) refl (omega arith)
passes (rp_switch fs m t) = itself (rp_switch fs m t) refl (omega arith)
passes (k_switch f e t) = itself (k_switch f e t) refl (omega arith)
passes (p_switch r fs e t) = itself (p_switch r fs e t) refl (omega arith)
passes (old k) = itself (old k) refl (omega arith)

-- the same state goes on
passed_is : (net : Network ℕ) (s : Scope ℕ) (w : Width) (k : Kept ℕ) (d : ℕ)
    → flowed (passed net) s (past_behind w (Some (k, d))) ≡ flowed net s (past_behind w (Some (k, d)))
passed_is net s w k d = ap (λ (a : State ℕ). paused a d) ((passes net).same_tree s (behind w k))

-- and it weighs as much
pub passed_falls : (net low : Network ℕ) (s : Scope ℕ) (w : Width) (p : Past) (k : Kept ℕ) (d : ℕ) → low ≡ passed net → p ≡ Some (k, d)
    → (frozen_rank (flowed low s (past_behind w p)) ≡ frozen_rank (flowed net s (past_behind w p))) × (level low ≤ 19)
passed_falls net low s w p k d e h =
    let low_is : level low ≡ level (passed net) = ap level e in
    let same : frozen_rank (flowed (passed net) s (past_behind w p)) ≡ frozen_rank (flowed net s (past_behind w p)) =
    subst (λ q. frozen_rank (flowed (passed net) s (past_behind w q)) ≡ frozen_rank (flowed net s (past_behind w q))) (sym h)
    (ap frozen_rank (passed_is net s w k d)) in
    (ap (λ z. frozen_rank (flowed z s (past_behind w p))) e ∙ same, omega (arith, low_is, (passes net).low))

-- what flows through what goes on flows through the whole
pub passed_flows : (keys : List KeyTree) (net low : Network ℕ) (s : Scope ℕ) (p : Past) (k : Kept ℕ) (d : ℕ) (x y : Datum) (before now : Kept ℕ) (n : ℕ)
    → low ≡ passed net → p ≡ Some (k, d) → Flows keys low s p x before now y n → Flows keys net s p x before now y n
passed_flows keys net low s p k d x y before now n e h f = subst (λ q. Flows keys net s q x before now y n) (sym h)
    (by_passed (subst (λ q. Flows keys (passed net) s q x before now y n) h (subst (λ z. Flows keys z s p x before now y n) e f)))
  where
    by_passed : Flows keys (passed net) s (Some (k, d)) x before now y n → Flows keys net s (Some (k, d)) x before now y n
    by_passed g = record {
      kept = g.kept;
      added = g.added;
      is_width = g.is_width ∙ (passes net).same_width;
      runs = subst (λ w. RunsWhere keys w x (tree net s g.kept) y n) (passed_is net s (width_of before) k d)
          (subst (λ a. RunsWhere keys (flowed (passed net) s (past_behind (width_of before) (Some (k, d)))) x a y n) ((passes net).same_tree s g.kept) g.runs);
    }
