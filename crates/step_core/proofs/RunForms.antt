-- What one sample does, form by form, by what it does to the parts.
use Rattle.std.proofs.Common.{◌≡◌, ℕ, suc, ◌+◌, ◌<◌, ◌^◌, List, Some, None, refl, sym, ap, ◌∙◌, subst, arith}
use Rattle.sample_core.specs.Datum.{Datum, unit, left, right, pair}
use Rattle.sample_core.specs.TypeTree.{TypeTree, pair_ty, event_ty}
use Rattle.sample_core.specs.HasType.{HasType, pair_has, unit_has}
use Rattle.leaf_core.specs.KeyTree.{KeyTree}
use Rattle.net_tree.specs.Network.{Timing, at_once, delayed, Network, initial_out, initial_in}
use Rattle.net_meaning.specs.Typing as N
use Rattle.state_core.specs.State.{State, Scope, Frozen, seq_state, first_state, loop_state, switch_state, r_switch_state, k_switch_state, unstarted, paused, params_of, push_param, push_old}
use Rattle.net_meaning.specs.SignalFunction.{event_in, heard}
use Rattle.step_core.specs.Stepping.{restart_in}
use Rattle.step_core.specs.Stepping as G
use Rattle.step_core.specs.Stepping.{Starts, Resumes, Steps}
use Rattle.step_core.specs.Called.{Called}
use Rattle.step_core.specs.StateTyping as T
use Rattle.step_core.specs.StateTyping.{row_value}
use Rattle.step_core.specs.Runs as R
use Rattle.step_core.specs.Runs.{Ran, RunsWhere, SeqBy, FirstBy, LoopBy, SwitchBy, RSwitchBy, KSwitchBy, OldBy}
use Rattle.step_core.proofs.StateTypings.{resumes_typed, row_typed, event_typed, cut_typed, pushed_param, pushed_olds, old_typed, params_typed}
use Rattle.step_core.proofs.CalledRows.{called_value}

left_typed : {v : Datum} {A B : TypeTree} → HasType v (pair_ty A B) → HasType (left v) A
left_typed (pair_has a b) = a

right_typed : {v : Datum} {A B : TypeTree} → HasType v (pair_ty A B) → HasType (right v) B
right_typed (pair_has a b) = b

module _ (keys : List KeyTree) where
  pub started : {net : Network ℕ} {s : Scope ℕ} {x : Datum} {a : State ℕ} {y : Datum} {n : ℕ} → Resumes (row_value keys) (unstarted net s) x a y n
      → Starts (row_value keys) net s x a y n
  started (G.resume_unstarted k) = k

  pub stepped : {a : State ℕ} {d : ℕ} {x : Datum} {b : State ℕ} {y : Datum} {n : ℕ} → Resumes (row_value keys) (paused a d) x b y n
      → Steps (row_value keys) a (d, x) b y n
  stepped (G.resume_paused k) = k

  -- what a part led to leads what is round it to this, with one visit more
  round_one : {p w : Frozen ℕ} {l x v y : Datum} {a r : State ℕ} (m c : ℕ) → Ran keys p l a v m → (suc (m + 0) < 2 ^ 32 → c ≡ suc (m + 0))
      → ((k : ℕ) → Resumes (row_value keys) p l a v k → Resumes (row_value keys) w x r y (suc k)) → Ran keys w x r y c
  round_one m c one hc go = record {
    visits = suc one.visits;
    resumes = go one.visits one.resumes;
    is_count = λ h. let i : m ≡ one.visits = one.is_count (omega arith) in let e : c ≡ suc (m + 0) = hc (omega arith) in omega arith;
  }

  -- the same of two parts
  round_two : {p q w : Frozen ℕ} {l z x v u y : Datum} {a b r : State ℕ} (m n c : ℕ) (sum : ℕ → ℕ → ℕ) → ((j k : ℕ) → sum j k ≡ suc (j + k))
      → Ran keys p l a v m → Ran keys q z b u n → (suc (m + n) < 2 ^ 32 → c ≡ suc (m + n))
      → ((j k : ℕ) → Resumes (row_value keys) p l a v j → Resumes (row_value keys) q z b u k → Resumes (row_value keys) w x r y (sum j k)) → Ran keys w x r y c
  round_two m n c sum is one two hc go = record {
    visits = sum one.visits two.visits;
    resumes = go one.visits two.visits one.resumes two.resumes;
    is_count = λ h.
        let s : sum one.visits two.visits ≡ suc (one.visits + two.visits) = is one.visits two.visits in
        let i : m ≡ one.visits = one.is_count (omega arith) in
        let j : n ≡ two.visits = two.is_count (omega arith) in
        let e : c ≡ suc (m + n) = hc (omega arith) in
        omega arith;
  }

  -- the same of two parts and of what takes over
  round_three : {p q g w : Frozen ℕ} {l z i x v u o y : Datum} {a b d r : State ℕ} (m n k c : ℕ) → Ran keys p l a v m → Ran keys q z b u n
      → Ran keys g i d o k → (suc (m + n) + k < 2 ^ 32 → c ≡ suc (m + n) + k)
      → ((j1 j2 j3 : ℕ) → Resumes (row_value keys) p l a v j1 → Resumes (row_value keys) q z b u j2 → Resumes (row_value keys) g i d o j3
      → Resumes (row_value keys) w x r y (suc (j1 + j2) + j3)) → Ran keys w x r y c
  round_three m n k c one two three hc go = record {
    visits = suc (one.visits + two.visits) + three.visits;
    resumes = go one.visits two.visits three.visits one.resumes two.resumes three.resumes;
    is_count = λ h.
        let i : m ≡ one.visits = one.is_count (omega arith) in
        let j : n ≡ two.visits = two.is_count (omega arith) in
        let f : k ≡ three.visits = three.is_count (omega arith) in
        let e : c ≡ suc (m + n) + k = hc (omega arith) in
        omega arith;
  }

  seq_at : (p q : Frozen ℕ) (x v y : Datum) (a b : State ℕ) (m n c : ℕ) → RunsWhere keys p x a v m → RunsWhere keys q v b y n
      → (suc (m + n) < 2 ^ 32 → c ≡ suc (m + n)) → (w : Frozen ℕ) → SeqBy w p q → RunsWhere keys w x (seq_state a b) y c
  seq_at p q x v y a b m n c hp hq hc w R.seq_new A B (T.unstarted_typed (N.seq_typed {B = M} tf tg) ts) t =
      let one = hp A M (T.unstarted_typed tf ts) t in
      let tv : HasType v M = (resumes_typed keys one.resumes (T.unstarted_typed tf ts) t).1 in
      round_two m n c (λ j k. suc (j + k)) (λ j k. refl) one (hq M B (T.unstarted_typed tg ts) tv) hc
      (λ j k i o. G.resume_unstarted (G.start_seq (started i) (started o)))
  seq_at p q x v y a b m n c hp hq hc w R.seq_on A B (T.paused_typed (T.seq_state_typed {B = M} ta tb)) t =
      let one = hp A M (T.paused_typed ta) t in
      let tv : HasType v M = (resumes_typed keys one.resumes (T.paused_typed ta) t).1 in
      round_two m n c (λ j k. suc (j + k)) (λ j k. refl) one (hq M B (T.paused_typed tb) tv) hc
      (λ j k i o. G.resume_paused (G.step_seq (stepped i) (stepped o)))

  pub seq_runs : (p q : Frozen ℕ) (x v y : Datum) (a b r : State ℕ) (m n c : ℕ) → r ≡ seq_state a b → RunsWhere keys p x a v m → RunsWhere keys q v b y n
      → (suc (m + n) < 2 ^ 32 → c ≡ suc (m + n)) → (w : Frozen ℕ) → SeqBy w p q → RunsWhere keys w x r y c
  seq_runs p q x v y a b r m n c e hp hq hc w k = subst (λ z. RunsWhere keys w x z y c) (sym e) (seq_at p q x v y a b m n c hp hq hc w k)

  first_at : (p : Frozen ℕ) (x v : Datum) (a : State ℕ) (m c : ℕ) → RunsWhere keys p (left x) a v m → (suc (m + 0) < 2 ^ 32 → c ≡ suc (m + 0)) → (w : Frozen ℕ)
      → FirstBy w p → RunsWhere keys w x (first_state a) (pair v (right x)) c
  first_at p x v a m c hp hc w R.first_new A B (T.unstarted_typed (N.first_typed {A = A'} {B = B'} tf _) ts) t =
      round_one m c (hp A' B' (T.unstarted_typed tf ts) (left_typed t)) hc (λ k i. G.resume_unstarted (G.start_first (started i)))
  first_at p x v a m c hp hc w R.first_on A B (T.paused_typed (T.first_state_typed {A = A'} {B = B'} ta)) t =
      round_one m c (hp A' B' (T.paused_typed ta) (left_typed t)) hc (λ k i. G.resume_paused (G.step_first (stepped i)))

  pub first_runs : (p : Frozen ℕ) (x l v u y : Datum) (a r : State ℕ) (m c : ℕ) → r ≡ first_state a → l ≡ left x → u ≡ right x → y ≡ pair v u
      → RunsWhere keys p l a v m → (suc (m + 0) < 2 ^ 32 → c ≡ suc (m + 0)) → (w : Frozen ℕ) → FirstBy w p → RunsWhere keys w x r y c
  first_runs p x l v u y a r m c e el eu ey hp hc w k =
      subst (λ z. RunsWhere keys w x z y c) (sym e) (subst (λ z. RunsWhere keys w x (first_state a) z c) (sym (ey ∙ ap (pair v) eu))
      (first_at p x v a m c (subst (λ z. RunsWhere keys p z a v m) el hp) hc w k))

  loop_at : (p : Frozen ℕ) (x u v : Datum) (a : State ℕ) (m c : ℕ) → RunsWhere keys p (pair x u) a v m → (suc (m + 0) < 2 ^ 32 → c ≡ suc (m + 0))
      → (w : Frozen ℕ) → LoopBy keys w u p → RunsWhere keys w x (loop_state (right v) a) (left v) c
  loop_at p x u v a m c hp hc w (R.loop_new {c = k} {f = f} {s = s} h) A B (T.unstarted_typed (N.loop_typed {C = C} r _ tf) ts) t =
      let e : u ≡ row_value keys k (params_of s) unit = called_value keys k (params_of s) unit u h r (params_typed keys ts) unit_has in
      let tu : HasType u C = subst (λ z. HasType z C) (sym e) (row_typed keys r (params_typed keys ts) unit_has) in
      round_one m c (hp (pair_ty A C) (pair_ty B C) (T.unstarted_typed tf ts) (pair_has t tu)) hc
      (λ j i. G.resume_unstarted (G.start_loop (subst (λ z. Starts (row_value keys) f s (pair x z) a v j) e (started i))))
  loop_at p x u v a m c hp hc w R.loop_on A B (T.paused_typed (T.loop_state_typed {C = C} tu ta)) t =
      round_one m c (hp (pair_ty A C) (pair_ty B C) (T.paused_typed ta) (pair_has t tu)) hc (λ j i. G.resume_paused (G.step_loop (stepped i)))

  pub loop_runs : (p : Frozen ℕ) (x u z v y f : Datum) (a r : State ℕ) (m c : ℕ) → r ≡ loop_state f a → z ≡ pair x u → y ≡ left v → f ≡ right v
      → RunsWhere keys p z a v m → (suc (m + 0) < 2 ^ 32 → c ≡ suc (m + 0)) → (w : Frozen ℕ) → LoopBy keys w u p → RunsWhere keys w x r y c
  loop_runs p x u z v y f a r m c e ez ey ef hp hc w k =
      subst (λ b. RunsWhere keys w x b y c) (sym (e ∙ ap (λ g. loop_state g a) ef)) (subst (λ b. RunsWhere keys w x (loop_state (right v) a) b c) (sym ey)
      (loop_at p x u v a m c (subst (λ b. RunsWhere keys p b a v m) ez hp) hc w k))

  switch_goes_at : (tm : Timing) (p : Frozen ℕ) (t : Network ℕ) (s : Scope ℕ) (x v : Datum) (a : State ℕ) (m c : ℕ) → RunsWhere keys p x a v m
      → event_in (right v) ≡ None → (suc (m + 0) < 2 ^ 32 → c ≡ suc (m + 0)) → (w : Frozen ℕ) → SwitchBy tm w p t s
      → RunsWhere keys w x (switch_state tm a t s) (left v) c
  switch_goes_at tm p t s x v a m c hp ev hc w R.switch_new A B (T.unstarted_typed (N.switch_typed {C = C} tf tg) ts) h =
      round_one m c (hp A (pair_ty B (event_ty C)) (T.unstarted_typed tf ts) h) hc (λ k i. G.resume_unstarted (G.start_switch (started i) ev))
  switch_goes_at tm p t s x v a m c hp ev hc w R.switch_on A B (T.paused_typed (T.switch_state_typed {C = C} ta ts tg)) h =
      round_one m c (hp A (pair_ty B (event_ty C)) (T.paused_typed ta) h) hc (λ k i. G.resume_paused (G.step_switch (stepped i) ev))

  pub switch_goes : (tm : Timing) (p : Frozen ℕ) (t : Network ℕ) (s : Scope ℕ) (x v y : Datum) (a r : State ℕ) (m c : ℕ) → r ≡ switch_state tm a t s
      → y ≡ left v → RunsWhere keys p x a v m → event_in (right v) ≡ None → (suc (m + 0) < 2 ^ 32 → c ≡ suc (m + 0)) → (w : Frozen ℕ)
      → SwitchBy tm w p t s → RunsWhere keys w x r y c
  switch_goes tm p t s x v y a r m c e ey hp ev hc w k = subst (λ z. RunsWhere keys w x z y c) (sym e)
      (subst (λ z. RunsWhere keys w x (switch_state tm a t s) z c) (sym ey) (switch_goes_at tm p t s x v a m c hp ev hc w k))

  -- what takes over is typed, since what the part answers is
  switch_fires_at : (tm : Timing) (p : Frozen ℕ) (t : Network ℕ) (s : Scope ℕ) (x v u y : Datum) (a b : State ℕ) (m n c : ℕ) → RunsWhere keys p x a v m
      → event_in (right v) ≡ Some u → RunsWhere keys (unstarted t (push_param s u)) x b y n → (suc (m + n) < 2 ^ 32 → c ≡ suc (m + n)) → (w : Frozen ℕ)
      → SwitchBy tm w p t s → RunsWhere keys w x b (heard tm (left v) y) c
  switch_fires_at tm p t s x v u y a b m n c hp ev hq hc w R.switch_new A B (T.unstarted_typed (N.switch_typed {C = C} tf tg) ts) h =
      let one = hp A (pair_ty B (event_ty C)) (T.unstarted_typed tf ts) h in
      let tv = (resumes_typed keys one.resumes (T.unstarted_typed tf ts) h).1 in
      let two = hq A B (T.unstarted_typed tg (pushed_param keys ts (event_typed (right_typed tv) ev))) h in
      round_two m n c (λ j k. suc j + k) (λ j k. omega arith) one two hc (λ j k i o. G.resume_unstarted (G.fire_switch (started i) ev (started o)))
  switch_fires_at tm p t s x v u y a b m n c hp ev hq hc w R.switch_on A B (T.paused_typed (T.switch_state_typed {C = C} ta ts tg)) h =
      let one = hp A (pair_ty B (event_ty C)) (T.paused_typed ta) h in
      let tv = (resumes_typed keys one.resumes (T.paused_typed ta) h).1 in
      let two = hq A B (T.unstarted_typed tg (pushed_param keys ts (event_typed (right_typed tv) ev))) h in
      round_two m n c (λ j k. suc j + k) (λ j k. omega arith) one two hc (λ j k i o. G.resume_paused (G.step_switch_over (stepped i) ev (started o)))

  pub switch_fires : (tm : Timing) (p : Frozen ℕ) (t : Network ℕ) (s s' : Scope ℕ) (x v u y z : Datum) (a b : State ℕ) (m n c : ℕ) → s' ≡ push_param s u
      → z ≡ heard tm (left v) y → RunsWhere keys p x a v m → event_in (right v) ≡ Some u → RunsWhere keys (unstarted t s') x b y n
      → (suc (m + n) < 2 ^ 32 → c ≡ suc (m + n)) → (w : Frozen ℕ) → SwitchBy tm w p t s → RunsWhere keys w x b z c
  switch_fires tm p t s s' x v u y z a b m n c e ez hp ev hq hc w k = subst (λ o. RunsWhere keys w x b o c) (sym ez)
      (switch_fires_at tm p t s x v u y a b m n c hp ev (subst (λ o. RunsWhere keys (unstarted t o) x b y n) e hq) hc w k)

  r_switch_goes_at : (tm : Timing) (p : Frozen ℕ) (t : Network ℕ) (s : Scope ℕ) (x y : Datum) (a : State ℕ) (m c : ℕ) → restart_in x ≡ None
      → RunsWhere keys p (left x) a y m → (suc (m + 0) < 2 ^ 32 → c ≡ suc (m + 0)) → (w : Frozen ℕ) → RSwitchBy tm w p t s
      → RunsWhere keys w x (r_switch_state tm a t s) y c
  r_switch_goes_at tm p t s x y a m c ev hp hc w R.r_switch_new A B (T.unstarted_typed (N.r_switch_typed {D = D} tf tg) ts) h =
      round_one m c (hp D B (T.unstarted_typed tf ts) (left_typed h)) hc (λ k i. G.resume_unstarted (G.start_r_switch ev (started i)))
  r_switch_goes_at tm p t s x y a m c ev hp hc w R.r_switch_on A B (T.paused_typed (T.r_switch_state_typed {D = D} ta ts tg)) h =
      round_one m c (hp D B (T.paused_typed ta) (left_typed h)) hc (λ k i. G.resume_paused (G.step_r_switch ev (stepped i)))

  pub r_switch_goes : (tm : Timing) (p : Frozen ℕ) (t : Network ℕ) (s : Scope ℕ) (x l y : Datum) (a : State ℕ) (m c : ℕ) → l ≡ left x
      → restart_in x ≡ None → RunsWhere keys p l a y m → (suc (m + 0) < 2 ^ 32 → c ≡ suc (m + 0)) → (w : Frozen ℕ) → RSwitchBy tm w p t s
      → RunsWhere keys w x (r_switch_state tm a t s) y c
  r_switch_goes tm p t s x l y a m c el ev hp hc w k = r_switch_goes_at tm p t s x y a m c ev (subst (λ z. RunsWhere keys p z a y m) el hp) hc w k

  cuts_at_once_at : (p : Frozen ℕ) (t : Network ℕ) (s : Scope ℕ) (x v u y : Datum) (a : State ℕ) (m c : ℕ) → restart_in x ≡ Some (v, u)
      → RunsWhere keys (unstarted t (push_param s u)) v a y m → (suc (m + 0) < 2 ^ 32 → c ≡ suc (m + 0)) → (w : Frozen ℕ) → RSwitchBy at_once w p t s
      → RunsWhere keys w x (r_switch_state at_once a t s) y c
  cuts_at_once_at p t s x v u y a m c ev hp hc w R.r_switch_new A B (T.unstarted_typed (N.r_switch_typed {D = D} {C = C} tf tg) ts) h =
      let k : HasType v D × HasType u C = cut_typed h ev in
      round_one m c (hp D B (T.unstarted_typed tg (pushed_param keys ts k.1)) k.0) hc (λ j i. G.resume_unstarted (G.cut_at_once ev (started i)))
  cuts_at_once_at p t s x v u y a m c ev hp hc w R.r_switch_on A B (T.paused_typed (T.r_switch_state_typed {D = D} {C = C} ta ts tg)) h =
      let k : HasType v D × HasType u C = cut_typed h ev in
      round_one m c (hp D B (T.unstarted_typed tg (pushed_param keys ts k.1)) k.0) hc (λ j i. G.resume_paused (G.step_cut_at_once ev (started i)))

  pub cuts_at_once : (p : Frozen ℕ) (t : Network ℕ) (s s' : Scope ℕ) (x v u y : Datum) (a : State ℕ) (m c : ℕ) → s' ≡ push_param s u
      → restart_in x ≡ Some (v, u) → RunsWhere keys (unstarted t s') v a y m → (suc (m + 0) < 2 ^ 32 → c ≡ suc (m + 0)) → (w : Frozen ℕ)
      → RSwitchBy at_once w p t s → RunsWhere keys w x (r_switch_state at_once a t s) y c
  cuts_at_once p t s s' x v u y a m c es ev hp hc w k =
      cuts_at_once_at p t s x v u y a m c ev (subst (λ z. RunsWhere keys (unstarted t z) v a y m) es hp) hc w k

  -- at an event what ran goes on too, and answers
  pub cuts_delayed : (p : Frozen ℕ) (t : Network ℕ) (s : Scope ℕ) (x v u y z : Datum) (a b : State ℕ) (m n c : ℕ) → restart_in x ≡ Some (v, u)
      → RunsWhere keys p v a y m → RunsWhere keys (unstarted t (push_param s u)) v b z n → (suc (m + n) < 2 ^ 32 → c ≡ suc (m + n)) → (w : Frozen ℕ)
      → RSwitchBy delayed w p t s → RunsWhere keys w x (r_switch_state delayed b t s) y c
  cuts_delayed p t s x v u y z a b m n c ev hp hq hc w R.r_switch_new A B (T.unstarted_typed (N.r_switch_typed {D = D} {C = C} tf tg) ts) h =
      let k : HasType v D × HasType u C = cut_typed h ev in
      round_two m n c (λ i j. suc (i + j)) (λ i j. refl) (hp D B (T.unstarted_typed tf ts) k.0)
      (hq D B (T.unstarted_typed tg (pushed_param keys ts k.1)) k.0) hc
      (λ i j one two. G.resume_unstarted (G.cut_delayed ev (started one) (started two)))
  cuts_delayed p t s x v u y z a b m n c ev hp hq hc w R.r_switch_on A B (T.paused_typed (T.r_switch_state_typed {D = D} {C = C} ta ts tg)) h =
      let k : HasType v D × HasType u C = cut_typed h ev in
      round_two m n c (λ i j. suc (i + j)) (λ i j. refl) (hp D B (T.paused_typed ta) k.0)
      (hq D B (T.unstarted_typed tg (pushed_param keys ts k.1)) k.0) hc
      (λ i j one two. G.resume_paused (G.step_cut_delayed ev (stepped one) (started two)))

  -- `-->` that starts
  pub initial_out_runs : (c : ℕ) (f : Network ℕ) (s : Scope ℕ) (x v y : Datum) (a : State ℕ) (m n : ℕ) → RunsWhere keys (unstarted f s) x a v m
      → Called keys c (params_of s) unit y → (suc (m + 0) < 2 ^ 32 → n ≡ suc (m + 0)) → RunsWhere keys (unstarted (initial_out c f) s) x a y n
  initial_out_runs c f s x v y a m n hp h hc A B (T.unstarted_typed (N.initial_out_typed r tf) ts) t =
      let e : y ≡ row_value keys c (params_of s) unit = called_value keys c (params_of s) unit y h r (params_typed keys ts) unit_has in
      round_one m n (hp A B (T.unstarted_typed tf ts) t) hc (λ k i. G.resume_unstarted
      (subst (λ z. Starts (row_value keys) (initial_out c f) s x a z (suc k)) (sym e) (G.start_initial_out (started i))))

  -- `>--` that starts
  pub initial_in_runs : (c : ℕ) (f : Network ℕ) (s : Scope ℕ) (x u y : Datum) (a : State ℕ) (m n : ℕ) → RunsWhere keys (unstarted f s) u a y m
      → Called keys c (params_of s) unit u → (suc (m + 0) < 2 ^ 32 → n ≡ suc (m + 0)) → RunsWhere keys (unstarted (initial_in c f) s) x a y n
  initial_in_runs c f s x u y a m n hp h hc A B (T.unstarted_typed (N.initial_in_typed r tf) ts) t =
      let e : u ≡ row_value keys c (params_of s) unit = called_value keys c (params_of s) unit u h r (params_typed keys ts) unit_has in
      let tu : HasType u A = subst (λ z. HasType z A) (sym e) (row_typed keys r (params_typed keys ts) unit_has) in
      round_one m n (hp A B (T.unstarted_typed tf ts) tu) hc (λ k i. G.resume_unstarted (G.start_initial_in
      (subst (λ z. Starts (row_value keys) f s z a y k) e (started i))))

  k_switch_goes_at : (p q : Frozen ℕ) (t : Network ℕ) (s : Scope ℕ) (x v u : Datum) (a b : State ℕ) (m n c : ℕ) → RunsWhere keys p x a v m
      → RunsWhere keys q (pair x v) b u n → event_in u ≡ None → (suc (m + n) < 2 ^ 32 → c ≡ suc (m + n)) → (w : Frozen ℕ) → KSwitchBy w p q t s
      → RunsWhere keys w x (k_switch_state a b t s) v c
  k_switch_goes_at p q t s x v u a b m n c hp hq ev hc w R.k_switch_new A B (T.unstarted_typed (N.k_switch_typed {C = C} tf _ te tg) ts) h =
      let one = hp A B (T.unstarted_typed tf ts) h in
      let tv = (resumes_typed keys one.resumes (T.unstarted_typed tf ts) h).1 in
      round_two m n c (λ j k. suc (j + k)) (λ j k. refl) one (hq (pair_ty A B) (event_ty C) (T.unstarted_typed te ts) (pair_has h tv)) hc
      (λ j k i o. G.resume_unstarted (G.start_k_switch (started i) (started o) ev))
  k_switch_goes_at p q t s x v u a b m n c hp hq ev hc w R.k_switch_on A B (T.paused_typed (T.k_switch_state_typed {C = C} ta tb ts tg)) h =
      let one = hp A B (T.paused_typed ta) h in
      let tv = (resumes_typed keys one.resumes (T.paused_typed ta) h).1 in
      round_two m n c (λ j k. suc (j + k)) (λ j k. refl) one (hq (pair_ty A B) (event_ty C) (T.paused_typed tb) (pair_has h tv)) hc
      (λ j k i o. G.resume_paused (G.step_k_switch (stepped i) (stepped o) ev))

  pub k_switch_goes : (p q : Frozen ℕ) (t : Network ℕ) (s : Scope ℕ) (x v z u : Datum) (a b r : State ℕ) (m n c : ℕ) → r ≡ k_switch_state a b t s → z ≡ pair x v
      → RunsWhere keys p x a v m → RunsWhere keys q z b u n → event_in u ≡ None → (suc (m + n) < 2 ^ 32 → c ≡ suc (m + n)) → (w : Frozen ℕ)
      → KSwitchBy w p q t s → RunsWhere keys w x r v c
  k_switch_goes p q t s x v z u a b r m n c e ez hp hq ev hc w k = subst (λ o. RunsWhere keys w x o v c) (sym e)
      (k_switch_goes_at p q t s x v u a b m n c hp (subst (λ o. RunsWhere keys q o b u n) ez hq) ev hc w k)

  k_switch_fires_at : (p q : Frozen ℕ) (t : Network ℕ) (s : Scope ℕ) (x v u z y : Datum) (a b o : State ℕ) (m n k c : ℕ) → RunsWhere keys p x a v m
      → RunsWhere keys q (pair x v) b u n → event_in u ≡ Some z → RunsWhere keys (unstarted t (push_old (push_param s z) p)) x o y k
      → (suc (m + n) + k < 2 ^ 32 → c ≡ suc (m + n) + k) → (w : Frozen ℕ) → KSwitchBy w p q t s → RunsWhere keys w x o y c
  k_switch_fires_at p q t s x v u z y a b o m n k c hp hq ev ho hc w R.k_switch_new A B
      (T.unstarted_typed (N.k_switch_typed {C = C} tf _ te tg) ts) h =
      let one = hp A B (T.unstarted_typed tf ts) h in
      let tv = (resumes_typed keys one.resumes (T.unstarted_typed tf ts) h).1 in
      let two = hq (pair_ty A B) (event_ty C) (T.unstarted_typed te ts) (pair_has h tv) in
      let tu = (resumes_typed keys two.resumes (T.unstarted_typed te ts) (pair_has h tv)).1 in
      let olds = T.and_frozen_typed (T.unstarted_typed tf ts) T.no_frozen_typed in
      round_three m n k c one two (ho A B (T.unstarted_typed tg (pushed_olds keys (pushed_param keys ts (event_typed tu ev)) olds)) h) hc
      (λ j1 j2 j3 i1 i2 i3. G.resume_unstarted (G.fire_k_switch (started i1) (started i2) ev (started i3)))
  k_switch_fires_at p q t s x v u z y a b o m n k c hp hq ev ho hc w R.k_switch_on A B
      (T.paused_typed (T.k_switch_state_typed {C = C} ta tb ts tg)) h =
      let one = hp A B (T.paused_typed ta) h in
      let tv = (resumes_typed keys one.resumes (T.paused_typed ta) h).1 in
      let two = hq (pair_ty A B) (event_ty C) (T.paused_typed tb) (pair_has h tv) in
      let tu = (resumes_typed keys two.resumes (T.paused_typed tb) (pair_has h tv)).1 in
      let olds = T.and_frozen_typed (T.paused_typed ta) T.no_frozen_typed in
      round_three m n k c one two (ho A B (T.unstarted_typed tg (pushed_olds keys (pushed_param keys ts (event_typed tu ev)) olds)) h) hc
      (λ j1 j2 j3 i1 i2 i3. G.resume_paused (G.step_k_switch_over (stepped i1) (stepped i2) ev (started i3)))

  pub k_switch_fires : (p q : Frozen ℕ) (t : Network ℕ) (s s' : Scope ℕ) (x v zz u z y : Datum) (a b o : State ℕ) (m n k c1 c : ℕ) → s'
      ≡ push_old (push_param s z) p → zz ≡ pair x v → RunsWhere keys p x a v m → RunsWhere keys q zz b u n → event_in u ≡ Some z
      → RunsWhere keys (unstarted t s') x o y k → (suc (m + n) < 2 ^ 32 → c1 ≡ suc (m + n)) → (c1 + k < 2 ^ 32 → c ≡ c1 + k) → (w : Frozen ℕ)
      → KSwitchBy w p q t s → RunsWhere keys w x o y c
  k_switch_fires p q t s s' x v zz u z y a b o m n k c1 c es ez hp hq ev ho h1 h2 w kk =
      k_switch_fires_at p q t s x v u z y a b o m n k c hp (subst (λ i. RunsWhere keys q i b u n) ez hq) ev
      (subst (λ i. RunsWhere keys (unstarted t i) x o y k) es ho)
      (λ l. let e1 : c1 ≡ suc (m + n) = h1 (omega arith) in let e2 : c ≡ c1 + k = h2 (omega arith) in omega arith) w kk

  pub old_runs : (f : Frozen ℕ) (x y : Datum) (a : State ℕ) (m c : ℕ) → RunsWhere keys f x a y m → (suc (m + 0) < 2 ^ 32 → c ≡ suc (m + 0)) → (w : Frozen ℕ)
      → OldBy w f → RunsWhere keys w x a y c
  old_runs f x y a m c hf hc w (R.old_new e) A B (T.unstarted_typed (N.old_typed o) ts) h =
      round_one m c (hf A B (old_typed keys ts o e) h) hc (λ k i. G.resume_unstarted (G.start_old e i))
