-- Networks that keep what they keep in one list: all but switches and resumed ones.
use Rattle.std.proofs.Common.{◌≡◌, ◌≢◌, ℕ, List, Some, None, refl, sym, ap, ◌∙◌, subst}
use Rattle.sample_core.specs.Datum.{Datum}
use Rattle.leaf_core.specs.KeyTree.{KeyTree}
use Rattle.leaf_table.specs.declared.table.LeafId.{LeafId}
use Rattle.net_tree.specs.Network.{Network, Networks}
use Rattle.net_tree.specs.declared.net.Net.{Net}
use Rattle.net_tree.specs.declared.net.Net.TheVariants as V
use Rattle.state_core.specs.RowsView.{rows_in}
use Rattle.state_core.specs.State.{State, Scope, paused}
use Rattle.state_core.specs.Tree.{Kept, width_of, joined, nothing, tree, running}
use Rattle.step_core.specs.Flow.{Past, past_behind, flowed, standing, Flows}
use Rattle.step_core.specs.Runs.{RunsWhere}
use Rattle.step_core.proofs.Kepts.{from_start}

-- the state of such a network is its tree
pub plain : (n : Net LeafId) → ((k : ℕ) → n ≢ V.Old k) → ((f t : Network LeafId) → n ≢ V.Switch f t) → ((f t : Network LeafId) → n ≢ V.DSwitch f t)
    → ((f e t : Network LeafId) → n ≢ V.KSwitch f e t) → ((r : LeafId) (fs : Networks LeafId) (e t : Network LeafId) → n ≢ V.PSwitch r fs e t)
    → ((fs : Networks LeafId) (m : LeafId) (t : Network LeafId) → n ≢ V.RpSwitch fs m t)
    → (s : Scope ℕ) (k : Kept ℕ) → running (rows_in n) s k ≡ tree (rows_in n) s k
plain (V.Arr e) ho hs hd hk hp hr sc ke = refl
plain (V.Seq f g) ho hs hd hk hp hr sc ke = refl
plain (V.First f) ho hs hd hk hp hr sc ke = refl
plain (V.Par fs) ho hs hd hk hp hr sc ke = refl
plain (V.LoopPre c f) ho hs hd hk hp hr sc ke = refl
plain (V.InitialOut c f) ho hs hd hk hp hr sc ke = refl
plain (V.InitialIn c f) ho hs hd hk hp hr sc ke = refl
plain (V.IPre c) ho hs hd hk hp hr sc ke = refl
plain (V.Delay q c) ho hs hd hk hp hr sc ke = refl
plain (V.Hold c) ho hs hd hk hp hr sc ke = refl
plain (V.AccumBy g z) ho hs hd hk hp hr sc ke = refl
plain (V.After q c) ho hs hd hk hp hr sc ke = refl
plain (V.Repeatedly q c) ho hs hd hk hp hr sc ke = refl
plain V.Time ho hs hd hk hp hr sc ke = refl
plain V.Integral ho hs hd hk hp hr sc ke = refl
plain (V.Switch f t) ho hs hd hk hp hr sc ke = absurd (hs f t refl)
plain (V.DSwitch f t) ho hs hd hk hp hr sc ke = absurd (hd f t refl)
plain (V.RSwitch f t) ho hs hd hk hp hr sc ke = refl
plain (V.DrSwitch f t) ho hs hd hk hp hr sc ke = refl
plain (V.RpSwitch fs m t) ho hs hd hk hp hr sc ke = absurd (hr fs m t refl)
plain (V.KSwitch f e t) ho hs hd hk hp hr sc ke = absurd (hk f e t refl)
plain (V.PSwitch r fs e t) ho hs hd hk hp hr sc ke = absurd (hp r fs e t refl)
plain (V.Old k) ho hs hd hk hp hr sc ke = absurd (ho k refl)

standing_flowed : (net : Network ℕ) (s : Scope ℕ) (p : Past) → ((k : Kept ℕ) → running net s k ≡ tree net s k) → standing net s p ≡ flowed net s p
standing_flowed net s None h = refl
standing_flowed net s (Some (k, d)) h = ap (λ (a : State ℕ). paused a d) (h k)

-- what flowed from the start ran
pub flows_run : (keys : List KeyTree) (net m : Network ℕ) (s s0 : Scope ℕ) (p : Past) (x y : Datum) (before now last : Kept ℕ) (n : ℕ)
    → ((k : Kept ℕ) → running net s k ≡ tree net s k) → (m ≡ net) × (s0 ≡ s) × (before ≡ nothing) → last ≡ now → Flows keys net s p x before now y n
    → RunsWhere keys (standing net s p) x (running m s0 last) y n
flows_run keys net m s s0 p x y before now last n h b e f =
    let state : running m s0 last ≡ tree net s f.kept =
    ap (λ z. running z s0 last) b.0 ∙ ap (λ z. running net z last) b.1 ∙ ap (running net s) (e ∙ f.added ∙ ap (λ (k : Kept ℕ). joined k f.kept) b.2) ∙ h f.kept in
    let past : past_behind (width_of before) p ≡ p = ap (λ (k : Kept ℕ). past_behind (width_of k) p) b.2 ∙ from_start p in
    subst (λ a. RunsWhere keys (standing net s p) x a y n) (sym state) (subst (λ w. RunsWhere keys w x (tree net s f.kept) y n)
    (ap (flowed net s) past ∙ sym (standing_flowed net s p h)) f.runs)
