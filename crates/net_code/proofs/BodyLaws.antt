-- The function of each form does what the form's step does.
use Rattle.std.proofs.Common.{◌≡◌, ℕ, if◌then◌else◌, List, [], ◌∷◌, ◌++◌, map, length, Option, None, Some, refl, sym, ap, ◌∙◌, append-nil, append_assoc}
use Rattle.std.proofs.Math.Path.{fun_ext}
use Rattle.sample_core.specs.Datum.{Datum, unit, event, pair, left, right}
use Rattle.leaf_core.specs.declared.expr.Expr.{Expr}
use Rattle.net_tree.specs.Network.{Timing, at_once, delayed}
use Rattle.cell_core.specs.declared.form.Form.{Form}
use Rattle.cell_core.specs.declared.form.Form.TheVariants as CellForm
use Rattle.net_machine.specs.Store.{Moment, start, step, Store, nothing, both, mode, frozen, mode_of, mode_at, one, other, front_part, taker_part, resumer_part}
use Rattle.net_meaning.specs.SignalFunction.{event_in}
use Rattle.net_machine.specs.Stepper.{Stepper, event_beside, arr_step, seq_step, first_step, par_step, loop_step, cell_form_step, switched, switch_step, going_on, restarted_late, resume_in, r_switch_in, r_switch_step, initial_out_step, initial_in_step, resume_step, same_step, watched, freezing_step, routed, rp_switch_step}
use Rattle.net_machine.specs.Machine.{no_leaf}
use Rattle.net_code.specs.declared.statement.Part.TheVariants as P
use Rattle.net_code.specs.declared.statement.When.TheVariants as W
use Rattle.net_code.specs.declared.statement.Scope.{Scope}
use Rattle.net_code.specs.declared.statement.Scope.TheVariants as C
use Rattle.net_code.specs.declared.statement.Action.{Action}
use Rattle.net_code.specs.declared.statement.Action.TheVariants as A
use Rattle.net_code.specs.declared.statement.Statement.TheVariants as S
use Rattle.net_code.specs.Running.{Body, kept_at, split, Given, Linked, Local, scope_for, given_value, given_kept, given_first, on_part, beside_in, is_none, cleared, taken_by, with_store, with_register, going, act, exec, body_step}
use Rattle.net_code.specs.Bodies.{arr_body, seq_body, first_body, member_statements, par_body, loop_body, cell_body, clock_body, accum_body, answer, started, switch_body, r_switch_body, watching, freezing_body, k_switch_body, p_switch_body, old_body, same_body, out_body, in_body, collection_body}

-- what is there while a function runs
abbrev local : List Datum → Store → Moment → List Stepper → Local
local rs s m fs = record { registers = rs; store = s; now = m; members = fs }

beside_event : (v : Datum) → event_beside v ≡ event_in (beside_in v)
beside_event (pair a (event c)) = refl
beside_event _ = refl

-- what `drSwitch` answers where what ran has answered q
abbrev late_answer : (Datum → Stepper) → Datum → Store × Datum → Option Datum → Store × Datum
late_answer t u q None = q
late_answer t u q (Some c) = restarted_late c t u q

late_is : (f : Stepper) (t : Datum → Stepper) (s : Store) (m : Moment) (u : Datum) (o : Option Datum)
    → late_answer t u (going_on f t s (m, u) (mode_at m s)) o ≡ r_switch_in delayed f t s (m, u) o
late_is f t s m u None = refl
late_is f t s m u (Some c) = refl

module _ (val : Expr → List Datum → Datum → Datum) (F : ℕ → Linked) (g : Given) where
  -- the function does what these steps do
  abbrev Does : Body → Stepper → Type 0
  Does b f = body_step val F b g ≡ f

  pub arr_done : (e : Expr) → Does (arr_body e) (arr_step (val e g.params))
  arr_done e = refl

  pub seq_done : (j k : ℕ) → Does (seq_body j k) (seq_step (F j g) (F k g))
  seq_done j k = refl

  pub first_done : (j : ℕ) → Does (first_body j) (first_step (F j g))
  first_done j = refl

  pub loop_done : (c : Expr) (j : ℕ) → Does (loop_body c j) (loop_step (val c g.params unit) (F j g))
  loop_done c j = fun_ext (λ s. fun_ext (λ x. by_moment s x.0 x.1))
    where
      by_moment : (s : Store) (m : Moment) (v : Datum) → body_step val F (loop_body c j) g s (m, v) ≡ loop_step (val c g.params unit) (F j g) s (m, v)
      by_moment s start v = refl
      by_moment s (step d) v = refl

  pub cell_done : (form : Form) (c : Expr) → Does (cell_body form c) (cell_form_step form (val c g.params unit) no_leaf)
  cell_done form c = refl

  pub accum_done : (h z : Expr) → Does (accum_body h z) (cell_form_step CellForm.AccumBy (val z g.params unit) (val h g.params))
  accum_done h z = refl

  pub time_done : Does (clock_body CellForm.Time) (cell_form_step CellForm.Time unit no_leaf)
  time_done = fun_ext (λ s. fun_ext (λ x. by_moment s x.0 x.1))
    where
      by_moment : (s : Store) (m : Moment) (v : Datum) → body_step val F (clock_body CellForm.Time) g s (m, v) ≡ cell_form_step CellForm.Time unit no_leaf s (m, v)
      by_moment s start v = refl
      by_moment s (step d) v = refl

  pub integral_done : Does (clock_body CellForm.Integral) (cell_form_step CellForm.Integral unit no_leaf)
  integral_done = fun_ext (λ s. fun_ext (λ x. by_moment s x.0 x.1))
    where
      by_moment : (s : Store) (m : Moment) (v : Datum) → body_step val F (clock_body CellForm.Integral) g s (m, v) ≡ cell_form_step CellForm.Integral unit no_leaf s (m, v)
      by_moment s start v = refl
      by_moment s (step d) v = refl

  -- t by a value
  abbrev by_value : ℕ → Datum → Stepper
  by_value k c = F k (given_value g c)

  -- a switch whose f has answered r
  switch_end : (tm : Timing) (k : ℕ) (m : Moment) (v : Datum) (r : Store × Datum) (b : Store) (o : Option Datum)
      → let l : Local = local (v ∷ r.1 ∷ left r.1 ∷ right r.1 ∷ []) (mode None r.0 b) m [] in
      (if is_none o then (l.store, left r.1) else exec val F g (started tm k) (with_store l (taken_by o l.store)))
      ≡ switched tm (by_value k) b v r o
  switch_end tm k m v r b None = refl
  switch_end at_once k m v r b (Some c) = refl
  switch_end delayed k m v r b (Some c) = refl

  pub switch_done : (tm : Timing) (j k : ℕ) → Does (switch_body tm j k) (switch_step tm (F j g) (by_value k))
  switch_done tm j k = fun_ext (λ s. fun_ext (λ x. by_store s x.0 x.1))
    where
      begun : (m : Moment) (v : Datum) (a b : Store)
          → exec val F g (switch_body tm j k) (local (v ∷ []) (mode None a b) m []) ≡ switch_step tm (F j g) (by_value k) (mode None a b) (m, v)
      begun start v a b = switch_end tm k start v (F j g a (start, v)) b (event_in (right (F j g a (start, v)).1))
      begun (step d) v a b = switch_end tm k (step d) v (F j g a (step d, v)) b (event_in (right (F j g a (step d, v)).1))

      by_store : (s : Store) (m : Moment) (v : Datum) → body_step val F (switch_body tm j k) g s (m, v) ≡ switch_step tm (F j g) (by_value k) s (m, v)
      by_store s start v = begun start v (front_part s) (taker_part s)
      by_store (mode (Some c) a b) (step d) v = refl
      by_store (mode None a b) (step d) v = begun (step d) v a b
      by_store _ (step d) v = begun (step d) v nothing nothing

  -- `rSwitch` and `drSwitch` behind the event that they look for
  abbrev restart_local : Datum → Datum → Datum → Store → Moment → Local
  restart_local v u w s m = local (v ∷ u ∷ w ∷ []) s m []

  -- what goes on where nothing is heard
  quiet_same : (j k : ℕ) (m : Moment) (s : Store) (u : Datum)
      → going val F g j k (cleared m s) (m, u) (mode_of (cleared m s)) ≡ going_on (F j g) (by_value k) s (m, u) (mode_at m s)
  quiet_same j k start s u = refl
  quiet_same j k (step d) (mode None a b) u = refl
  quiet_same j k (step d) (mode (Some c) a b) u = refl
  quiet_same j k (step d) _ u = refl

  restart_end : (j k : ℕ) (m : Moment) (s : Store) (v u w : Datum) (o : Option Datum)
      → (if is_none o then going val F g j k (cleared m s) (m, u) (mode_of (cleared m s))
      else act val F g (A.Call k C.Value P.Taker W.Start 1) (with_store (restart_local v u w (cleared m s) m) (taken_by o (cleared m s))))
      ≡ r_switch_in at_once (F j g) (by_value k) s (m, u) o
  restart_end j k m s v u w None = quiet_same j k m s u
  restart_end j k start s v u w (Some c) = refl
  restart_end j k (step d) s v u w (Some c) = refl

  -- behind what ran, which has answered q
  late_end : (k : ℕ) (m : Moment) (v u w : Datum) (q : Store × Datum) (o : Option Datum)
      → let l : Local = local (v ∷ u ∷ w ∷ q.1 ∷ []) q.0 m [] in
      (if is_none o then q else exec val F g (S.Set (A.Call k C.Value P.Taker W.Start 1) ∷ answer (A.Register 3) ∷ []) (with_store l (taken_by o q.0)))
      ≡ late_answer (by_value k) u q o
  late_end k m v u w q None = refl
  late_end k m v u w q (Some c) = refl

  pub r_switch_done : (tm : Timing) (j k : ℕ) → Does (r_switch_body tm j k) (r_switch_step tm (F j g) (by_value k))
  r_switch_done tm j k = fun_ext (λ s. fun_ext (λ x. by_timing tm s x.0 x.1))
    where
      by_timing : (tm : Timing) (s : Store) (m : Moment) (v : Datum)
          → body_step val F (r_switch_body tm j k) g s (m, v) ≡ r_switch_step tm (F j g) (by_value k) s (m, v)
      by_timing at_once s m v =
          restart_end j k m s v (left v) (beside_in v) (event_in (beside_in v))
          ∙ sym (ap (r_switch_in at_once (F j g) (by_value k) s (m, left v)) (beside_event v))
      by_timing delayed s m v =
          late_end k m v (left v) (beside_in v) (going val F g j k (cleared m s) (m, left v) (mode_of (cleared m s))) (event_in (beside_in v))
          ∙ ap (λ q. late_answer (by_value k) (left v) q (event_in (beside_in v))) (quiet_same j k m s (left v))
          ∙ late_is (F j g) (by_value k) s m (left v) (event_in (beside_in v))
          ∙ sym (ap (r_switch_in delayed (F j g) (by_value k) s (m, left v)) (beside_event v))

  -- the statements of members, behind others
  members_done : (fs : List ℕ) (b : Body) (rs : List Datum) (s : Store) (m : Moment) (hs : List Stepper)
      → exec val F g (member_statements fs ++ b) (local rs s m hs) ≡ exec val F g b (local rs s m (hs ++ map (λ f. F f g) fs))
  members_done [] b rs s m hs = ap (λ hs. exec val F g b (local rs s m hs)) (sym (append-nil hs))
  members_done (f ∷ fs) b rs s m hs =
      members_done fs b rs s m (hs ++ F f g ∷ [])
      ∙ ap (λ hs. exec val F g b (local rs s m hs)) (append_assoc hs (F f g ∷ []) (map (λ f. F f g) fs))

  -- the steps of these functions
  abbrev pub steps_of : List ℕ → List Stepper
  steps_of fs = map (λ f. F f g) fs

  pub par_done : (fs : List ℕ) → Does (par_body fs) (par_step (steps_of fs))
  par_done fs = fun_ext (λ s. fun_ext (λ x. members_done fs _ (x.1 ∷ []) s x.0 []))

  pub collection_done : (fs : List ℕ) (e : Expr) (k : ℕ)
      → Does (collection_body fs e k) (rp_switch_step (val e g.params) (steps_of fs) (by_value k))
  collection_done fs e k = fun_ext (λ s. fun_ext (λ x. members_done fs _ (x.1 ∷ []) s x.0 []))

  -- t, which goes on beside what was frozen
  abbrev resuming : Scope → ℕ → Datum → Store → Moment → Stepper
  resuming scope t c a m = F t (scope_for scope g (mode (Some c) nothing (frozen m a nothing)))

  -- a switch that freezes, whose watcher has answered w
  freezing_end : (scope : Scope) (t : ℕ) (m : Moment) (v : Datum) (r : Store × Datum) (a b : Store) (w : Store × Datum) (hs : List Stepper) (o : Option Datum)
      → let l : Local = local (v ∷ r.1 ∷ pair v r.1 ∷ w.1 ∷ []) (mode None (both r.0 w.0) (frozen m a (resumer_part b))) m hs in
      (if is_none o then (l.store, r.1) else act val F g (A.Call t scope P.Resumer W.Start 0) (with_store l (taken_by o l.store)))
      ≡ watched (resuming scope t) a b (m, v) r w.0 o
  freezing_end scope t m v r a b w hs None = refl
  freezing_end C.Same t m v r a b w hs (Some c) = refl
  freezing_end _ t m v r a b w hs (Some c) = refl

  module _ (watch : Action) (f : Stepper) (hs : List Stepper)
      (h : (rs : List Datum) (s : Store) (m : Moment) (v : Datum) → act val F g watch (local (v ∷ rs) s m hs) ≡ on_part f P.Watched s (m, v)) (scope : Scope) (e t : ℕ) where
    freezing_begun : (m : Moment) (v : Datum) (a b : Store)
        → exec val F g (freezing_body watch scope e t) (local (v ∷ []) (mode None a b) m hs)
        ≡ freezing_step f (F e g) (resuming scope t) (mode None a b) (m, v)
    freezing_begun start v a b =
        let r : Store × Datum = f (one a) (start, v) in
        let s : Store = mode None a (frozen start (one a) (resumer_part b)) in
        ap (λ q. exec val F g (watching scope e t) (with_register (local (v ∷ []) s start hs) q)) (h [] s start v)
        ∙ freezing_end scope t start v r (one a) b (F e g (other a) (start, pair v r.1)) hs (event_in (F e g (other a) (start, pair v r.1)).1)
    freezing_begun (step d) v a b =
        let r : Store × Datum = f (one a) (step d, v) in
        let s : Store = mode None a (frozen (step d) (one a) (resumer_part b)) in
        ap (λ q. exec val F g (watching scope e t) (with_register (local (v ∷ []) s (step d) hs) q)) (h [] s (step d) v)
        ∙ freezing_end scope t (step d) v r (one a) b (F e g (other a) (step d, pair v r.1)) hs (event_in (F e g (other a) (step d, pair v r.1)).1)

    going_beside : (scope : Scope) (t : ℕ) (c : Datum) (a b : Store) (d : ℕ) (v : Datum)
        → act val F g (A.Call t scope P.Resumer W.Now 0) (local (v ∷ []) (mode (Some c) a b) (step d) hs) ≡ resume_in (resuming scope t) c a b (step d, v)
    going_beside C.Same t c a b d v = refl
    going_beside _ t c a b d v = refl

    freezing_done : (s : Store) (m : Moment) (v : Datum)
        → exec val F g (freezing_body watch scope e t) (local (v ∷ []) s m hs) ≡ freezing_step f (F e g) (resuming scope t) s (m, v)
    freezing_done s start v = freezing_begun start v (front_part s) (taker_part s)
    freezing_done (mode (Some c) a b) (step d) v = going_beside scope t c a b d v
    freezing_done (mode None a b) (step d) v = freezing_begun (step d) v a b
    freezing_done _ (step d) v = freezing_begun (step d) v nothing nothing

  pub k_switch_done : (j e t : ℕ)
      → Does (k_switch_body j e t) (freezing_step (F j g) (F e g) (λ c a m. F t (given_kept (given_value g c) ((a, m) ∷ []))))
  k_switch_done j e t =
      fun_ext (λ s. fun_ext (λ x. freezing_done (A.Call j C.Same P.Watched W.Now 0) (F j g) [] (λ rs s m v. refl) C.Frozen e t s x.0 x.1))

  pub p_switch_done : (r : Expr) (fs : List ℕ) (e t : ℕ)
      → Does (p_switch_body r fs e t) (freezing_step (par_step (routed (val r g.params) 0 (steps_of fs))) (F e g)
      (λ c a m. F t (given_kept (given_value g c) (split (length fs) a m))))
  p_switch_done r fs e t =
      fun_ext (λ s. fun_ext (λ x. members_done fs (freezing_body (A.Routed r P.Watched 0) (C.Members (length fs)) e t) (x.1 ∷ []) s x.0 []
      ∙ freezing_done (A.Routed r P.Watched 0) (par_step (routed (val r g.params) 0 (steps_of fs))) (steps_of fs) (λ rs s m v. refl)
      (C.Members (length fs)) e t s x.0 x.1))

  pub old_done : (k f n m : ℕ) → Does (old_body k f n m) (resume_step (F f (given_first g n m)) (kept_at g.olds k).0 (kept_at g.olds k).1)
  old_done k f n m = fun_ext (λ s. fun_ext (λ x. by_moment s x.0 x.1))
    where
      by_moment : (s : Store) (now : Moment) (v : Datum)
          → body_step val F (old_body k f n m) g s (now, v) ≡ resume_step (F f (given_first g n m)) (kept_at g.olds k).0 (kept_at g.olds k).1 s (now, v)
      by_moment s start v = refl
      by_moment s (step d) v = refl

  pub same_done : Does same_body same_step
  same_done = refl

  pub out_done : (c : Expr) (j : ℕ) → Does (out_body c j) (initial_out_step (val c g.params unit) (F j g))
  out_done c j = fun_ext (λ s. fun_ext (λ x. by_moment s x.0 x.1))
    where
      by_moment : (s : Store) (m : Moment) (v : Datum) → body_step val F (out_body c j) g s (m, v) ≡ initial_out_step (val c g.params unit) (F j g) s (m, v)
      by_moment s start v = refl
      by_moment s (step d) v = refl

  pub in_done : (c : Expr) (j : ℕ) → Does (in_body c j) (initial_in_step (val c g.params unit) (F j g))
  in_done c j = fun_ext (λ s. fun_ext (λ x. by_moment s x.0 x.1))
    where
      by_moment : (s : Store) (m : Moment) (v : Datum) → body_step val F (in_body c j) g s (m, v) ≡ initial_in_step (val c g.params unit) (F j g) s (m, v)
      by_moment s start v = refl
      by_moment s (step d) v = refl
