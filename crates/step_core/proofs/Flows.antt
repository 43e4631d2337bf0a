-- What a sample does to networks, form by form, by what it does to the parts.
use Rattle.std.proofs.Common.{◌≡◌, ℕ, suc, ◌+◌, ◌<◌, ◌^◌, List, [], ◌∷◌, ◌++◌, Option, Some, None, length, refl, sym, ap, ◌∙◌, subst, arith, append_assoc, append-nil}
use Rattle.std.specs.Prelude.{slice_get, slice_set}
use Rattle.std.proofs.lemmas.List.{length-append}
use Rattle.std.proofs.Math.Seq.{set-append_seam}
use Rattle.sample_core.specs.Datum.{Datum, unit, left, right, pair, list, list_of}
use Rattle.leaf_core.specs.KeyTree.{KeyTree}
use Rattle.net_tree.specs.Network.{Timing, at_once, delayed, Network, Networks, arr, seq, first, par, loop_pre, initial_out, initial_in, accum_by, switch, r_switch, rp_switch, k_switch, p_switch, old, no_members, and_member}
use Rattle.net_meaning.specs.Typing as N
use Rattle.cell_core.specs.Cell.{Cell, previous, accumulator_of, cell_step}
use Rattle.cell_core.specs.declared.form.Form.{Form}
use Rattle.state_core.specs.State.{State, Scope, arr_state, seq_state, cell_state, accum_state, no_state, and_state, and_frozen, unstarted, paused, params_of, push_param}
use Rattle.state_core.specs.Tree.{Kept, Width, wider, width_of, width, behind, joined, nothing, one_cell, one_place, head_cell, fed_back, tree, trees}
use Rattle.step_core.specs.Called.{Called}
use Rattle.step_core.specs.Stepping as G
use Rattle.step_core.specs.Stepping.{Resumes, restart_in}
use Rattle.step_core.specs.StateTyping as T
use Rattle.step_core.specs.StateTyping.{row_value}
use Rattle.step_core.specs.Outcome.{outcome}
use Rattle.step_core.specs.Flow as F
use Rattle.step_core.specs.Flow.{Past, past_behind, flowed, all_flowed, placed, Flows, AllFlow, Runs, IsCell, IsOneCell, IsKept, IsFedBack}
use Rattle.step_core.specs.Runs as R
use Rattle.step_core.specs.Runs.{RunsWhere, RunEachWhere, SeqBy, FirstBy, ParBy, LoopBy, RSwitchBy, to_all}
use Rattle.step_core.proofs.CalledRows.{called_value}
use Rattle.step_core.proofs.RunCells.{cell_runs}
use Rattle.step_core.proofs.RunForms.{seq_runs, first_runs, loop_runs, r_switch_goes, cuts_at_once, cuts_delayed, initial_out_runs, initial_in_runs}
use Rattle.step_core.proofs.RunMembers.{none_runs, also_runs, par_runs}
use Rattle.step_core.proofs.StateTypings.{params_typed}
use Rattle.step_core.proofs.Kepts.{behind_both, head_at, joined_assoc, joined_nothing, width_joined, one_of_two, others_of_two}

-- the parts of what flows
pub seq_by : (f g : Network ℕ) (s : Scope ℕ) (q : Past) → SeqBy (flowed (seq f g) s q) (flowed f s q) (flowed g s (past_behind (width f) q))
seq_by f g s None = R.seq_new
seq_by f g s (Some p) = R.seq_on

pub first_by : (f : Network ℕ) (s : Scope ℕ) (q : Past) → FirstBy (flowed (first f) s q) (flowed f s q)
first_by f s None = R.first_new
first_by f s (Some p) = R.first_on

pub par_by : (fs : Networks ℕ) (s : Scope ℕ) (q : Past) → ParBy (flowed (par fs) s q) (all_flowed fs s q)
par_by fs s None = R.par_new
par_by fs s (Some p) = R.par_on

pub also_by : (f : Network ℕ) (fs : Networks ℕ) (s : Scope ℕ) (q : Past)
    → all_flowed (and_member f fs) s q ≡ and_frozen (flowed f s q) (all_flowed fs s (past_behind (width f) q))
also_by f fs s None = refl
also_by f fs s (Some p) = refl

pub r_switch_by : (tm : Timing) (f t : Network ℕ) (s : Scope ℕ) (q : Past) → RSwitchBy tm (flowed (r_switch tm f t) s q) (placed f s q) t s
r_switch_by tm f t s None = R.r_switch_new
r_switch_by tm f t s (Some p) = R.r_switch_on

-- the networks that run at a place of their own
pub data IsPlaced : Network ℕ → Type 0 where
  is_switch : {tm : Timing} {f t : Network ℕ} → IsPlaced (switch tm f t)
  is_k_switch : {f e t : Network ℕ} → IsPlaced (k_switch f e t)
  is_p_switch : {r : ℕ} {fs : Networks ℕ} {e t : Network ℕ} → IsPlaced (p_switch r fs e t)
  is_rp_switch : {fs : Networks ℕ} {m : ℕ} {t : Network ℕ} → IsPlaced (rp_switch fs m t)
  is_old : {k : ℕ} → IsPlaced (old k)

-- such a network, by an equation
pub placed_by : (net m : Network ℕ) → net ≡ m → IsPlaced m → IsPlaced net
placed_by net m e h = subst IsPlaced (sym e) h

placed_is : (net : Network ℕ) (s : Scope ℕ) (a : State ℕ) → IsPlaced net → (width net ≡ (0, 1)) × (tree net s (one_place a) ≡ a)
placed_is _ s a is_switch = (refl, refl)
placed_is _ s a is_k_switch = (refl, refl)
placed_is _ s a is_p_switch = (refl, refl)
placed_is _ s a is_rp_switch = (refl, refl)
placed_is _ s a is_old = (refl, refl)

pub flowed_placed : (net : Network ℕ) (s : Scope ℕ) (q : Past) → IsPlaced net → flowed net s q ≡ placed net s q
flowed_placed _ s None i = refl
flowed_placed _ s (Some p) is_switch = refl
flowed_placed _ s (Some p) is_k_switch = refl
flowed_placed _ s (Some p) is_p_switch = refl
flowed_placed _ s (Some p) is_rp_switch = refl
flowed_placed _ s (Some p) is_old = refl

-- what runs at a place looks at the places alone
pub placed_at : (net : Network ℕ) (s : Scope ℕ) (i j n : ℕ) (p : Past) → placed net s (past_behind (i, n) p) ≡ placed net s (past_behind (j, n) p)
placed_at net s i j n None = refl
placed_at net s i j n (Some p) = refl

-- a list of no length is empty
pub no_items : {A : Type 0} (xs : List A) → length xs ≡ 0 → xs ≡ []
no_items [] e = refl
no_items (x ∷ xs) e = absurd (omega (arith, e))

-- a cell, by an equation
pub cell_as : (net m : Network ℕ) (form : Form) (c : Option ℕ) → net ≡ m → IsCell m form c → IsOneCell net
cell_as net m form c e h = (form, c, subst (λ z. IsCell z form c) (sym e) h)

-- the forms of cells
pub ruleset cell_forms = (F.is_i_pre, F.is_delay, F.is_hold, F.is_after, F.is_repeatedly, F.is_time, F.is_integral)

module _ (keys : List KeyTree) where
  -- v is what the past of a `loopPre` feeds back
  abbrev IsFed : ℕ → List Datum → Past → Datum → Type 0
  IsFed c ps None v = IsKept keys c ps None 0 v
  IsFed c ps (Some p) v = fed_back (head_cell p.0.0) ≡ v

  fed_at : (c : ℕ) (ps : List Datum) (p : Past) (w : Width) (v : Datum) → IsKept keys c ps p w.0 v → IsFed c ps (past_behind w p) v
  fed_at c ps None w v h = h
  fed_at c ps (Some (k, d)) w v h = ap fed_back (head_at k.0 w.0 (previous v) h)

  loop_by : (c : ℕ) (f : Network ℕ) (s : Scope ℕ) (q : Past) (v : Datum) → IsFed c (params_of s) q v
      → LoopBy keys (flowed (loop_pre c f) s q) v (flowed f s (past_behind (1, 0) q))
  loop_by c f s None v h = R.loop_new h
  loop_by c f s (Some (k, d)) v h =
      subst (λ u. LoopBy keys (paused (tree (loop_pre c f) s k) d) u (paused (tree f s (behind (1, 0) k)) d)) h R.loop_on

  -- a part behind another one
  behind_part : (g : Network ℕ) (s : Scope ℕ) (v w u : Width) (p : Past) (x y : Datum) (a : State ℕ) (n : ℕ) → u ≡ wider w v
      → RunsWhere keys (flowed g s (past_behind u p)) x a y n → RunsWhere keys (flowed g s (past_behind v (past_behind w p))) x a y n
  behind_part g s v w u p x y a n e h = subst (λ q. RunsWhere keys (flowed g s q) x a y n) (sym (behind_both v w u p e)) h

  arr_runs : (k : ℕ) (s : Scope ℕ) (q : Past) (x y : Datum) → Called keys k (params_of s) x y → RunsWhere keys (flowed (arr k) s q) x (arr_state k (params_of s)) y 1
  arr_runs k s None x y h A B (T.unstarted_typed (N.arr_typed r) ts) t =
      let e : row_value keys k (params_of s) x ≡ y = sym (called_value keys k (params_of s) x y h r (params_typed keys ts) t) in
      record {
        visits = 1;
        resumes = subst (λ v. Resumes (row_value keys) (unstarted (arr k) s) x (arr_state k (params_of s)) v 1) e (G.resume_unstarted G.start_arr);
        is_count = λ _. refl;
      }
  arr_runs k s (Some (j, d)) x y h A B (T.paused_typed (T.arr_state_typed tp r)) t =
      let e : row_value keys k (params_of s) x ≡ y = sym (called_value keys k (params_of s) x y h r tp t) in
      record {
        visits = 1;
        resumes = subst (λ v. Resumes (row_value keys) (paused (arr_state k (params_of s)) d) x (arr_state k (params_of s)) v 1) e (G.resume_paused G.step_arr);
        is_count = λ _. refl;
      }

  pub arr_flows : (net : Network ℕ) (k : ℕ) (s : Scope ℕ) (p : Past) (x y : Datum) (before : Kept ℕ) (n : ℕ) → net ≡ arr k → n ≡ 1
      → Called keys k (params_of s) x y → Flows keys net s p x before before y n
  arr_flows net k s p x y before n e one h =
      subst (λ m. Flows keys m s p x before before y n) (sym e) (subst (λ m. Flows keys (arr k) s p x before before y m) (sym one) (record {
        kept = nothing;
        added = joined_nothing before;
        is_width = refl;
        runs = arr_runs k s (past_behind (width_of before) p) x y h;
      }))

  pub seq_flows : (f g : Network ℕ) (s : Scope ℕ) (p : Past) (x v y : Datum) (before mid now : Kept ℕ) (m n c : ℕ) → Flows keys f s p x before mid v m
      → Flows keys g s p v mid now y n → (suc (m + n) < 2 ^ 32 → c ≡ suc (m + n)) → Flows keys (seq f g) s p x before now y c
  seq_flows f g s p x v y before mid now m n c one two hc =
      let q = past_behind (width_of before) p in
      let from : width_of mid ≡ wider (width_of before) (width f) =
      ap width_of one.added ∙ width_joined before one.kept ∙ ap (wider (width_of before)) one.is_width in
      let state : tree (seq f g) s (joined one.kept two.kept) ≡ seq_state (tree f s one.kept) (tree g s two.kept) = λ i. seq_state
      (one_of_two f s one.kept two.kept one.is_width i) (tree g s (others_of_two (width f) one.kept two.kept one.is_width i)) in
      record {
        kept = joined one.kept two.kept;
        added = two.added ∙ ap (λ k. joined k two.kept) one.added ∙ joined_assoc before one.kept two.kept;
        is_width = width_joined one.kept two.kept ∙ (λ i. wider (one.is_width i) (two.is_width i));
        runs = seq_runs keys (flowed f s q) (flowed g s (past_behind (width f) q)) x v y (tree f s one.kept) (tree g s two.kept) _ m n c state one.runs
            (behind_part g s (width f) (width_of before) (width_of mid) p v y _ n from two.runs) hc (flowed (seq f g) s q) (seq_by f g s q);
      }

  -- what the rest of a chain leads to, the whole leads to, after so many visits
  abbrev pub ChainFlows : Network ℕ → Network ℕ → Scope ℕ → Past → Datum → Datum → Kept ℕ → Kept ℕ → ℕ → Type 0
  ChainFlows net rest s p x z before mid m = (now : Kept ℕ) (y : Datum) (n c : ℕ) → Flows keys rest s p z mid now y n → (m + n < 2 ^ 32 → c ≡ m + n)
      → Flows keys net s p x before now y c

  -- a link of a chain, by an equation, whose answer stands in another place
  pub chain_goes : (net rest f g : Network ℕ) (s : Scope ℕ) (p : Past) (x z v u : Datum) (before mid last : Kept ℕ) (m k j : ℕ) → rest ≡ seq f g → u ≡ v
      → ChainFlows net rest s p x z before mid m → Flows keys f s p z mid last v k → (suc (m + k) < 2 ^ 32 → j ≡ suc (m + k))
      → ChainFlows net g s p x u before last j
  chain_goes net rest f g s p x z v u before mid last m k j e same all one ej now y n c two hc =
      all now y (suc (k + n)) c (subst (λ r. Flows keys r s p z mid now y (suc (k + n))) (sym e)
      (seq_flows f g s p z v y mid last now k n (suc (k + n)) one (subst (λ w. Flows keys g s p w last now y n) same two) (λ _. refl)))
      (λ l. let a : j ≡ suc (m + k) = ej (omega (arith, l)) in let b : c ≡ j + n = hc (omega (arith, l, a)) in omega (arith, a, b))

  pub first_flows : (f : Network ℕ) (s : Scope ℕ) (p : Past) (x l v u y : Datum) (before now : Kept ℕ) (m c : ℕ) → l ≡ left x → u ≡ right x → y ≡ pair v u
      → Flows keys f s p l before now v m → (suc (m + 0) < 2 ^ 32 → c ≡ suc (m + 0)) → Flows keys (first f) s p x before now y c
  first_flows f s p x l v u y before now m c el eu ey one hc =
      let q = past_behind (width_of before) p in
      record {
        kept = one.kept;
        added = one.added;
        is_width = one.is_width;
        runs = first_runs keys (flowed f s q) x l v u y (tree f s one.kept) _ m c refl el eu ey one.runs hc (flowed (first f) s q) (first_by f s q);
      }

  pub loop_flows : (c : ℕ) (f : Network ℕ) (s : Scope ℕ) (p : Past) (x z v y : Datum) (before : Kept ℕ) (mid now : List Cell) (inner : Kept ℕ) (m n : ℕ)
      → IsFedBack keys c (params_of s) p x before.0 mid z → Flows keys f s p z (mid, before.1) inner v m → y ≡ left v
      → now ≡ slice_set inner.0 (length before.0) (previous (right v)) → (suc (m + 0) < 2 ^ 32 → n ≡ suc (m + 0))
      → Flows keys (loop_pre c f) s p x before (now, inner.1) y n
  loop_flows c f s p x z v y before mid now inner m n fed one ey en hn =
      let q = past_behind (width_of before) p in
      let one_more : length mid ≡ length before.0 + 1 = ap length fed.3 ∙ length-append before.0 (previous fed.0 ∷ []) in
      let from : width_of (mid, before.1) ≡ wider (width_of before) (1, 0) =
      let same : length before.1 ≡ length before.1 + 0 = omega arith in λ i. (one_more i, same i) in
      let cells : now ≡ before.0 ++ previous (right v) ∷ one.kept.0 = en ∙ ap (λ ks. slice_set ks (length before.0) (previous (right v)))
      (ap (λ (k : Kept ℕ). k.0) one.added ∙ ap (λ ks. ks ++ one.kept.0) fed.3 ∙ append_assoc before.0 (previous fed.0 ∷ []) one.kept.0)
      ∙ set-append_seam before.0 (previous fed.0) one.kept.0 (previous (right v)) in
      let m0 : suc (length one.kept.0) ≡ 1 + (width f).0 = let e : length one.kept.0 ≡ (width f).0 = ap (λ (w : Width). w.0) one.is_width in omega (arith, e) in
      let m1 : length one.kept.1 ≡ 0 + (width f).1 = let e : length one.kept.1 ≡ (width f).1 = ap (λ (w : Width). w.1) one.is_width in omega (arith, e) in
      record {
        kept = (previous (right v) ∷ one.kept.0, one.kept.1);
        added = λ i. (cells i, (one.added i).1);
        is_width = λ i. (m0 i, m1 i);
        runs = loop_runs keys (flowed f s (past_behind (1, 0) q)) x fed.0 z v y (right v) (tree f s one.kept) _ m n refl fed.2 ey refl
            (behind_part f s (1, 0) (width_of before) (width_of (mid, before.1)) p z v _ m from one.runs) hn (flowed (loop_pre c f) s q)
            (loop_by c f s q fed.0 (fed_at c (params_of s) p (width_of before) fed.0 fed.1));
      }

  pub none_flow : (fs : Networks ℕ) (s : Scope ℕ) (p : Past) (x : Datum) (before : Kept ℕ) (ys zs : List Datum) → fs ≡ no_members → zs ≡ ys
      → AllFlow keys fs s p x before before ys zs 0
  none_flow fs s p x before ys zs e same = subst (λ gs. AllFlow keys gs s p x before before ys zs 0) (sym e) (record {
    kept = nothing;
    answers = [];
    added = joined_nothing before;
    answered = same ∙ sym (append-nil ys);
    is_width = refl;
    runs = λ i. none_at i (past_behind (width_of before) p);
  })
    where
      none_at : (i : ℕ) (q : Past) → RunEachWhere keys to_all i (all_flowed no_members s q) x no_state [] 0
      none_at i None = none_runs keys to_all i x
      none_at i (Some k) = none_runs keys to_all i x

  pub also_flow : (gs : Networks ℕ) (f : Network ℕ) (fs : Networks ℕ) (s : Scope ℕ) (p : Past) (x y : Datum) (before mid now : Kept ℕ)
      (xs ys zs : List Datum) (m n c : ℕ) → gs ≡ and_member f fs → Flows keys f s p x before mid y m → ys ≡ xs ++ y ∷ []
      → AllFlow keys fs s p x mid now ys zs n → (m + n < 2 ^ 32 → c ≡ m + n) → AllFlow keys gs s p x before now xs zs c
  also_flow gs f fs s p x y before mid now xs ys zs m n c e one ey rest hc = subst (λ hs. AllFlow keys hs s p x before now xs zs c) (sym e) (
      let q = past_behind (width_of before) p in
      let from : width_of mid ≡ wider (width_of before) (width f) =
      ap width_of one.added ∙ width_joined before one.kept ∙ ap (wider (width_of before)) one.is_width in
      let others : (i : ℕ) → RunEachWhere keys to_all i (all_flowed fs s (past_behind (width f) q)) x (trees fs s rest.kept) rest.answers n = λ i.
      subst (λ u. RunEachWhere keys to_all i (all_flowed fs s u) x (trees fs s rest.kept) rest.answers n)
      (sym (behind_both (width f) (width_of before) (width_of mid) p from)) (rest.runs i) in
      let state : trees (and_member f fs) s (joined one.kept rest.kept) ≡ and_state (tree f s one.kept) (trees fs s rest.kept) = λ j. and_state
      (one_of_two f s one.kept rest.kept one.is_width j) (trees fs s (others_of_two (width f) one.kept rest.kept one.is_width j)) in
      record {
        kept = joined one.kept rest.kept;
        answers = y ∷ rest.answers;
        added = rest.added ∙ ap (λ k. joined k rest.kept) one.added ∙ joined_assoc before one.kept rest.kept;
        answered = rest.answered ∙ ap (λ vs. vs ++ rest.answers) ey ∙ append_assoc xs (y ∷ []) rest.answers;
        is_width = width_joined one.kept rest.kept ∙ (λ i. wider (one.is_width i) (rest.is_width i));
        runs = λ i. subst (λ ws. RunEachWhere keys to_all i ws x (trees (and_member f fs) s (joined one.kept rest.kept)) (y ∷ rest.answers) c)
            (sym (also_by f fs s q)) (subst (λ as'. RunEachWhere keys to_all i (and_frozen (flowed f s q) (all_flowed fs s (past_behind (width f) q))) x as'
            (y ∷ rest.answers) c) (sym state) (also_runs keys to_all i (flowed f s q) (all_flowed fs s (past_behind (width f) q)) x x y (tree f s one.kept)
            (trees fs s rest.kept) rest.answers m n c refl one.runs (others (suc i)) hc));
      })

  -- what the members to come lead to, all lead to, after so many visits
  abbrev pub EachFlows : Networks ℕ → Networks ℕ → Scope ℕ → Past → Datum → Kept ℕ → Kept ℕ → List Datum → ℕ → Type 0
  EachFlows all rest s p x before mid ys m = (now : Kept ℕ) (zs : List Datum) (n c : ℕ) → AllFlow keys rest s p x mid now ys zs n
      → (m + n < 2 ^ 32 → c ≡ m + n) → AllFlow keys all s p x before now [] zs c

  pub each_begins : (all : Networks ℕ) (s : Scope ℕ) (p : Past) (x : Datum) (before : Kept ℕ) (ys : List Datum) → ys ≡ []
      → EachFlows all all s p x before before ys 0
  each_begins all s p x before ys ey now zs n c f e =
      let g : AllFlow keys all s p x before now [] zs n = subst (λ vs. AllFlow keys all s p x before now vs zs n) ey f in
      record {
        kept = g.kept;
        answers = g.answers;
        added = g.added;
        answered = g.answered;
        is_width = g.is_width;
        runs = λ i k A D B hd l tf t.
            let r = g.runs i k A D B hd l tf t in
            record {
              visits = r.visits;
              runs = r.runs;
              is_count = λ b. let h : n ≡ r.visits = r.is_count b in e (omega (arith, h, b)) ∙ omega (arith, h);
            };
      }

  -- one member more, by an equation
  pub each_goes : (all rest : Networks ℕ) (f : Network ℕ) (fs : Networks ℕ) (s : Scope ℕ) (p : Past) (x y : Datum) (before mid last : Kept ℕ) (ys vs : List Datum)
      (m k j : ℕ) → rest ≡ and_member f fs → EachFlows all rest s p x before mid ys m → Flows keys f s p x mid last y k → vs ≡ ys ++ y ∷ []
      → (m + k < 2 ^ 32 → j ≡ m + k) → EachFlows all fs s p x before last vs j
  each_goes all rest f fs s p x y before mid last ys vs m k j e go one ey ej now zs n c others hc =
      go now zs (k + n) c (also_flow rest f fs s p x y mid last now ys vs zs k n (k + n) e one ey others (λ _. refl))
      (λ l. let a : j ≡ m + k = ej (omega (arith, l)) in let b : c ≡ j + n = hc (omega (arith, l, a)) in omega (arith, a, b))

  -- `parB`, whose answers became one list
  pub par_flows : (fs : Networks ℕ) (s : Scope ℕ) (p : Past) (x y : Datum) (before now : Kept ℕ) (xs ys : List Datum) (m c : ℕ)
      → AllFlow keys fs s p x before now xs ys m
      → xs ≡ [] → y ≡ list (list_of ys) → (suc (m + 0) < 2 ^ 32 → c ≡ suc (m + 0)) → Flows keys (par fs) s p x before now y c
  par_flows fs s p x y before now xs ys m c all ex ey hc =
      let q = past_behind (width_of before) p in
      let out : y ≡ list (list_of all.answers) = ey ∙ ap (λ vs. list (list_of vs)) (all.answered ∙ ap (λ vs. vs ++ all.answers) ex) in
      record {
        kept = all.kept;
        added = all.added;
        is_width = all.is_width;
        runs = par_runs keys (flowed (par fs) s q) (all_flowed fs s q) x (trees fs s all.kept) all.answers m (outcome (tree (par fs) s all.kept) y c)
            (par_by fs s q) (all.runs 0) (refl, out, hc);
      }

  -- what runs at a place of its own
  pub placed_flows : (net : Network ℕ) (s : Scope ℕ) (p : Past) (x y : Datum) (before now : Kept ℕ) (n : ℕ) → IsPlaced net
      → Runs keys (placed net s (past_behind (0, length before.1) p)) x before now y n → Flows keys net s p x before now y n
  placed_flows net s p x y before now n i r = record {
    kept = one_place r.state;
    added = r.added;
    is_width = sym (placed_is net s r.state i).0;
    runs = subst (λ w. RunsWhere keys w x (tree net s (one_place r.state)) y n)
        (sym (flowed_placed net s (past_behind (width_of before) p) i ∙ placed_at net s (length before.0) 0 (length before.1) p))
        (subst (λ a. RunsWhere keys (placed net s (past_behind (0, length before.1) p)) x a y n) (sym (placed_is net s r.state i).1) r.runs);
  }

  -- `rSwitch` and `drSwitch` that go on
  pub restart_goes : (tm : Timing) (f t : Network ℕ) (s : Scope ℕ) (p : Past) (x l y : Datum) (before now : Kept ℕ) (m c : ℕ) → l ≡ left x
      → restart_in x ≡ None → Runs keys (placed f s (past_behind (0, length before.1) p)) l before now y m → (suc (m + 0) < 2 ^ 32 → c ≡ suc (m + 0))
      → Flows keys (r_switch tm f t) s p x before now y c
  restart_goes tm f t s p x l y before now m c el ev r hc = record {
    kept = one_place r.state;
    added = r.added;
    is_width = refl;
    runs = r_switch_goes keys tm (placed f s (past_behind (width_of before) p)) t s x l y r.state m c el ev
        (subst (λ w. RunsWhere keys w l r.state y m) (placed_at f s 0 (length before.0) (length before.1) p) r.runs) hc
        (flowed (r_switch tm f t) s (past_behind (width_of before) p)) (r_switch_by tm f t s (past_behind (width_of before) p));
  }

  -- `rSwitch` that starts anew
  pub restart_cuts : (f t : Network ℕ) (s s' : Scope ℕ) (p q : Past) (x v u y : Datum) (before now : Kept ℕ) (m c : ℕ) → restart_in x ≡ Some (v, u)
      → s' ≡ push_param s u → q ≡ None → Runs keys (placed t s' (past_behind (0, length before.1) q)) v before now y m
      → (suc (m + 0) < 2 ^ 32 → c ≡ suc (m + 0)) → Flows keys (r_switch at_once f t) s p x before now y c
  restart_cuts f t s s' p q x v u y before now m c ev es eq r hc = record {
    kept = one_place r.state;
    added = r.added;
    is_width = refl;
    runs = cuts_at_once keys (placed f s (past_behind (width_of before) p)) t s s' x v u y r.state m c es ev
        (subst (λ z. RunsWhere keys (placed t s' (past_behind (0, length before.1) z)) v r.state y m) eq r.runs) hc
        (flowed (r_switch at_once f t) s (past_behind (width_of before) p)) (r_switch_by at_once f t s (past_behind (width_of before) p));
  }

  -- `drSwitch` in which another network starts, which stands at the place then
  pub late_cuts : (f t : Network ℕ) (s : Scope ℕ) (p : Past) (x v u y z : Datum) (a b : State ℕ) (before : Kept ℕ) (cells : List Cell)
      (places : List (State ℕ)) (at m n c : ℕ) → restart_in x ≡ Some (v, u) → at ≡ length before.1
      → RunsWhere keys (placed f s (past_behind (0, at) p)) v a y m → RunsWhere keys (unstarted t (push_param s u)) v b z n
      → cells ≡ before.0 → places ≡ before.1 ++ b ∷ [] → (suc (m + n) < 2 ^ 32 → c ≡ suc (m + n))
      → Flows keys (r_switch delayed f t) s p x before (cells, places) y c
  late_cuts f t s p x v u y z a b before cells places at m n c ev ea one two ec ep hc =
      let same : cells ≡ before.0 ++ [] = ec ∙ sym (append-nil before.0) in
      let from : placed f s (past_behind (0, at) p) ≡ placed f s (past_behind (width_of before) p) =
      ap (λ i. placed f s (past_behind (0, i) p)) ea ∙ placed_at f s 0 (length before.0) (length before.1) p in
      record {
        kept = one_place b;
        added = λ i. (same i, ep i);
        is_width = refl;
        runs = cuts_delayed keys (placed f s (past_behind (width_of before) p)) t s x v u y z a b m n c ev
            (subst (λ w. RunsWhere keys w v a y m) from one) two hc (flowed (r_switch delayed f t) s (past_behind (width_of before) p))
            (r_switch_by delayed f t s (past_behind (width_of before) p));
      }

  -- `-->` and `>--` that start
  pub initial_out_starts : (c : ℕ) (f : Network ℕ) (s : Scope ℕ) (p : Past) (x v y : Datum) (before now : Kept ℕ) (m n : ℕ) → p ≡ None
      → Flows keys f s p x before now v m → Called keys c (params_of s) unit y → (suc (m + 0) < 2 ^ 32 → n ≡ suc (m + 0))
      → Flows keys (initial_out c f) s p x before now y n
  initial_out_starts c f s p x v y before now m n e one h hc = subst (λ q. Flows keys (initial_out c f) s q x before now y n) (sym e)
      (starts (subst (λ q. Flows keys f s q x before now v m) e one))
    where
      starts : Flows keys f s None x before now v m → Flows keys (initial_out c f) s None x before now y n
      starts r = record {
        kept = r.kept;
        added = r.added;
        is_width = r.is_width;
        runs = initial_out_runs keys c f s x v y (tree f s r.kept) m n r.runs h hc;
      }

  pub initial_in_starts : (c : ℕ) (f : Network ℕ) (s : Scope ℕ) (p : Past) (x u y : Datum) (before now : Kept ℕ) (m n : ℕ) → p ≡ None
      → Flows keys f s p u before now y m → Called keys c (params_of s) unit u → (suc (m + 0) < 2 ^ 32 → n ≡ suc (m + 0))
      → Flows keys (initial_in c f) s p x before now y n
  initial_in_starts c f s p x u y before now m n e one h hc = subst (λ q. Flows keys (initial_in c f) s q x before now y n) (sym e)
      (starts (subst (λ q. Flows keys f s q u before now y m) e one))
    where
      starts : Flows keys f s None u before now y m → Flows keys (initial_in c f) s None x before now y n
      starts r = record {
        kept = r.kept;
        added = r.added;
        is_width = r.is_width;
        runs = initial_in_runs keys c f s x u y (tree f s r.kept) m n r.runs h hc;
      }

  -- a cell's start and its step
  cell_is : (net : Network ℕ) (form : Form) (c : Option ℕ) (s : Scope ℕ) (k : Kept ℕ) → IsCell net form c
      → (tree net s k ≡ cell_state (head_cell k.0)) × (width net ≡ (1, 0))
  cell_is _ _ _ s k F.is_i_pre = (refl, refl)
  cell_is _ _ _ s k F.is_delay = (refl, refl)
  cell_is _ _ _ s k F.is_hold = (refl, refl)
  cell_is _ _ _ s k F.is_after = (refl, refl)
  cell_is _ _ _ s k F.is_repeatedly = (refl, refl)
  cell_is _ _ _ s k F.is_time = (refl, refl)
  cell_is _ _ _ s k F.is_integral = (refl, refl)

  -- what runs by its head cell, or has not started
  abbrev CellRuns : Network ℕ → Scope ℕ → Past → Datum → Cell → Datum → Type 0
  CellRuns net s None x k y = RunsWhere keys (unstarted net s) x (cell_state k) y 1
  CellRuns net s (Some p) x k y = RunsWhere keys (paused (cell_state (head_cell p.0.0)) p.1) x (cell_state k) y 1

  cell_runs_by : (net : Network ℕ) (form : Form) (c : Option ℕ) (s : Scope ℕ) (q : Past) (x y : Datum) (k : Cell) → IsCell net form c
      → CellRuns net s q x k y → RunsWhere keys (flowed net s q) x (cell_state k) y 1
  cell_runs_by net form c s None x y k i h = h
  cell_runs_by net form c s (Some (j, d)) x y k i h =
      subst (λ (a : State ℕ). RunsWhere keys (paused a d) x (cell_state k) y 1) (sym (cell_is net form c s j i).0) h

  one_more_cell : (before : Kept ℕ) (now : List Cell) (k : Cell) → now ≡ before.0 ++ k ∷ [] → (now, before.1) ≡ joined before (one_cell k)
  one_more_cell before now k e = λ i. (e i, sym (append-nil before.1) i)

  cell_flow : (net : Network ℕ) (form : Form) (c : Option ℕ) (s : Scope ℕ) (p : Past) (x y : Datum) (k : Cell) (before : Kept ℕ) (now : List Cell)
      → IsCell net form c → now ≡ before.0 ++ k ∷ [] → CellRuns net s (past_behind (width_of before) p) x k y
      → Flows keys net s p x before (now, before.1) y 1
  cell_flow net form c s p x y k before now i e h = record {
    kept = one_cell k;
    added = one_more_cell before now k e;
    is_width = sym (cell_is net form c s nothing i).1;
    runs = subst (λ (a : State ℕ). RunsWhere keys (flowed net s (past_behind (width_of before) p)) x a y 1) (sym (cell_is net form c s (one_cell k) i).0)
        (cell_runs_by net form c s (past_behind (width_of before) p) x y k i h);
  }

  pub cell_starts : (net : Network ℕ) (form : Form) (c : Option ℕ) (s : Scope ℕ) (x y z : Datum) (k : Cell) (before : Kept ℕ) (now : List Cell) (n : ℕ)
      → IsCell net form c → now ≡ before.0 ++ k ∷ [] → y ≡ z → n ≡ 1
      → ((net : Network ℕ) (s' : Scope ℕ) → IsCell net form c → params_of s' ≡ params_of s → RunsWhere keys (unstarted net s') x (cell_state k) z 1)
      → Flows keys net s None x before (now, before.1) y n
  cell_starts net form c s x y z k before now n i e ey en h =
      subst (λ v. Flows keys net s None x before (now, before.1) v n) (sym ey) (subst (λ m. Flows keys net s None x before (now, before.1) z m) (sym en)
      (cell_flow net form c s None x z k before now i e (h net s i refl)))

  pub cell_steps : (net : Network ℕ) (form : Form) (c : Option ℕ) (s : Scope ℕ) (p : Past) (j : Kept ℕ) (d i n : ℕ) (x y z : Datum) (h k : Cell)
      (before : Kept ℕ) (now : List Cell) → IsCell net form c → now ≡ before.0 ++ k ∷ [] → p ≡ Some (j, d) → i ≡ length before.0 → slice_get j.0 i ≡ Some h
      → y ≡ z → n ≡ 1 → (k, z) ≡ cell_step h (d, x) → Flows keys net s p x before (now, before.1) y n
  cell_steps net form c s p j d i n x y z h k before now is e ep ei ej ey en ek = subst (λ q. Flows keys net s q x before (now, before.1) y n) (sym ep)
      (subst (λ v. Flows keys net s (Some (j, d)) x before (now, before.1) v n) (sym ey)
      (subst (λ m. Flows keys net s (Some (j, d)) x before (now, before.1) z m) (sym en) (cell_flow net form c s (Some (j, d)) x z k before now is e
      (subst (λ g. RunsWhere keys (paused (cell_state g) d) x (cell_state k) z 1) (sym (head_at j.0 (length before.0) h (ap (slice_get j.0) (sym ei) ∙ ej)))
      (cell_runs keys h d x (k, z) ek)))))

  -- `accumBy`
  abbrev AccumRuns : ℕ → ℕ → Scope ℕ → Past → Datum → Cell → Datum → Type 0
  AccumRuns g z s None x k y = RunsWhere keys (unstarted (accum_by g z) s) x (accum_state g (params_of s) (accumulator_of k)) y 1
  AccumRuns g z s (Some p) x k y =
      RunsWhere keys (paused (accum_state g (params_of s) (accumulator_of (head_cell p.0.0))) p.1) x (accum_state g (params_of s) (accumulator_of k)) y 1

  accum_runs_by : (g z : ℕ) (s : Scope ℕ) (q : Past) (x y : Datum) (k : Cell) → AccumRuns g z s q x k y
      → RunsWhere keys (flowed (accum_by g z) s q) x (accum_state g (params_of s) (accumulator_of k)) y 1
  accum_runs_by g z s None x y k h = h
  accum_runs_by g z s (Some p) x y k h = h

  accum_flow : (g z : ℕ) (s : Scope ℕ) (p : Past) (x y : Datum) (k : Cell) (before : Kept ℕ) (now : List Cell) → now ≡ before.0 ++ k ∷ []
      → AccumRuns g z s (past_behind (width_of before) p) x k y → Flows keys (accum_by g z) s p x before (now, before.1) y 1
  accum_flow g z s p x y k before now e h = record {
    kept = one_cell k;
    added = one_more_cell before now k e;
    is_width = refl;
    runs = accum_runs_by g z s (past_behind (width_of before) p) x y k h;
  }

  pub accum_starts : (g z : ℕ) (s : Scope ℕ) (p : Past) (x y v : Datum) (k : Cell) (before : Kept ℕ) (now : List Cell) (n : ℕ) → now ≡ before.0 ++ k ∷ []
      → p ≡ None → y ≡ v → n ≡ 1 → ((s' : Scope ℕ) → params_of s' ≡ params_of s
      → RunsWhere keys (unstarted (accum_by g z) s') x (accum_state g (params_of s) (accumulator_of k)) v 1)
      → Flows keys (accum_by g z) s p x before (now, before.1) y n
  accum_starts g z s p x y v k before now n e ep ey en h = subst (λ q. Flows keys (accum_by g z) s q x before (now, before.1) y n) (sym ep)
      (subst (λ u. Flows keys (accum_by g z) s None x before (now, before.1) u n) (sym ey)
      (subst (λ m. Flows keys (accum_by g z) s None x before (now, before.1) v m) (sym en) (accum_flow g z s None x v k before now e (h s refl))))

  pub accum_steps : (g z : ℕ) (s : Scope ℕ) (p : Past) (j : Kept ℕ) (d i n : ℕ) (x y v : Datum) (h k : Cell) (before : Kept ℕ) (now : List Cell)
      → now ≡ before.0 ++ k ∷ [] → p ≡ Some (j, d) → i ≡ length before.0 → slice_get j.0 i ≡ Some h → y ≡ v → n ≡ 1
      → ((d : ℕ) → RunsWhere keys (paused (accum_state g (params_of s) (accumulator_of h)) d) x (accum_state g (params_of s) (accumulator_of k)) v 1)
      → Flows keys (accum_by g z) s p x before (now, before.1) y n
  accum_steps g z s p j d i n x y v h k before now e ep ei ej ey en go = subst (λ q. Flows keys (accum_by g z) s q x before (now, before.1) y n) (sym ep)
      (subst (λ u. Flows keys (accum_by g z) s (Some (j, d)) x before (now, before.1) u n) (sym ey)
      (subst (λ m. Flows keys (accum_by g z) s (Some (j, d)) x before (now, before.1) v m) (sym en) (accum_flow g z s (Some (j, d)) x v k before now e
      (subst (λ c. RunsWhere keys (paused (accum_state g (params_of s) (accumulator_of c)) d) x (accum_state g (params_of s) (accumulator_of k)) v 1)
      (sym (head_at j.0 (length before.0) h (ap (slice_get j.0) (sym ei) ∙ ej))) (go d)))))
