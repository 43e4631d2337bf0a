-- Networks with one meaning at their types, in alike environments: each form keeps it, and a typed network has it with itself.
use Rattle.std.proofs.Common.{◌≡◌, ℕ, suc, ◌≤◌, List, [], ◌∷◌, ◌++◌, map, length, refl, sym, ap, ap₂, ◌∙◌, arith, subst}
use Rattle.std.proofs.lemmas.Simd.{map-map}
use Rattle.sample_core.specs.Datum.{Datum, unit, pair, no_event}
use Rattle.net_meaning.specs.SignalFunction.{TimedList, SignalFunction, values, last_or, prefixes, by_past, loop_pre_function, initial_out_function, initial_in_function, if_event, i_pre_value, delay_value, latest_event, fold_events, accum_by_value, after_value, repeatedly_value, time_value, integral_value, time_at, times}
use Rattle.net_tree.specs.Network.{Timing, Network, Networks, arr, seq, first, par, loop_pre, initial_out, initial_in, i_pre, delay, hold, accum_by, after, repeatedly, time, integral, switch, r_switch, rp_switch, k_switch, p_switch, old, no_members, and_member}
use Rattle.net_meaning.specs.Meaning.{Context, old_at, meaning, meanings}
use Rattle.sample_core.specs.TypeTree.{TypeTree, unit_ty, int_ty, pair_ty, event_ty, list_ty}
use Rattle.sample_core.specs.HasType.{HasType, unit_has, pair_has, no_event_has, event_has, TypedParams, no_params, and_param}
use Rattle.leaf_core.proofs.Soundness.{typed_wrapped}
use Rattle.net_meaning.specs.Typing.{TypedValues, no_value, and_value, TypedSamples, no_sample, and_sample, Arrow, OldAt, old_here, old_after, copies, members, LeafTyping, Typed, AllTyped, arr_typed, seq_typed, first_typed, par_typed, loop_typed, i_pre_typed, delay_typed, hold_typed, accum_typed, after_typed, repeatedly_typed, time_typed, integral_typed, switch_typed, r_switch_typed, k_switch_typed, p_switch_typed, old_typed, initial_out_typed, initial_in_typed, rp_switch_typed, no_members_typed, and_member_typed}
use Rattle.net_meaning.proofs.Plain.{AllSignals, no_signal, and_signal}
use Rattle.net_meaning.proofs.Meanings.{IsSignal-meaning}
use Rattle.net_meaning.proofs.TypedLists.{TypedValues-map, typed_values, typed_last, typed_by_past, typed_previous_of, typed_latest_by, typed_latest_event, typed_fold_events, typed_if_event, typed_when, typed_integral_value}
use Rattle.net_meaning.proofs.SameAt.{SameAt-one, SameAt-sequence, SameAt-on_left, SameAt-in_parallel, SameAt-feedback}
use Rattle.net_meaning.proofs.SameSwitches.{SameAt-switching, SameAt-restarting, SameAt-switching_on, SameAt-switching_all, AllOlds-append}
use Rattle.net_meaning.proofs.Openings.{SameAt-initial_out, SameAt-initial_in}
use Rattle.net_meaning.proofs.Collections.{SameAt-reselecting}
use Rattle.net_meaning.specs.Sameness.{SameAt, no_twin, and_twin, AllOlds, no_olds, and_old, context, LeavesTyped, SameLeaf, SameNet, SameNets}

pub TypedParams-append : (Ps Qs : List TypeTree) (ps qs : List Datum) → TypedParams Ps ps → TypedParams Qs qs → TypedParams (Ps ++ Qs) (ps ++ qs)
TypedParams-append Ps Qs ps qs no_params k = k
TypedParams-append Ps Qs ps qs (and_param {Ps = Ps'} {ps = ps'} h hs) k = and_param h (TypedParams-append Ps' Qs ps' qs hs k)

pub signals_left : {Os : List Arrow} (fs gs : List SignalFunction) → AllOlds Os fs gs → AllSignals fs
signals_left fs gs no_olds = no_signal
signals_left fs gs (and_old {fs = fs'} {gs = gs'} sf sg h a) = and_signal sf (signals_left fs' gs' a)

pub signals_right : {Os : List Arrow} (fs gs : List SignalFunction) → AllOlds Os fs gs → AllSignals gs
signals_right fs gs no_olds = no_signal
signals_right fs gs (and_old {fs = fs'} {gs = gs'} sf sg h a) = and_signal sg (signals_right fs' gs' a)

same_olds : {Os : List Arrow} {k : ℕ} {o : Arrow} (fs gs : List SignalFunction) → AllOlds Os fs gs → OldAt Os k o
    → SameAt o.input o.output (old_at fs k) (old_at gs k)
same_olds fs gs no_olds i = elim i [ ]
same_olds fs gs (and_old sf sg h a) old_here = h
same_olds fs gs (and_old {fs = fs'} {gs = gs'} sf sg h a) (old_after i) = same_olds fs' gs' a i

length-meanings : {L : Type 0} (val : L → List Datum → Datum → Datum) (fs : Networks L) (E : Context) → length (meanings val fs E) ≡ members fs
length-meanings val no_members E = refl
length-meanings val (and_member f fs) E = ap suc (length-meanings val fs E)

module _ {L : Type 0} (val : L → List Datum → Datum → Datum) where
  const_same : {Ps : List TypeTree} {C : TypeTree} {c c' : L} → SameLeaf val Ps unit_ty C c c' → (ps : List Datum) → TypedParams Ps ps
      → val c ps unit ≡ val c' ps unit
  const_same h ps k = h.leaf_same ps unit k unit_has

  const_typed : {Ps : List TypeTree} {C : TypeTree} {c c' : L} → SameLeaf val Ps unit_ty C c c' → (ps : List Datum) → TypedParams Ps ps
      → HasType (val c ps unit) C
  const_typed h ps k = h.leaf_typed ps unit k unit_has

  map-same : {A : TypeTree} (h h' : Datum → Datum) → ((v : Datum) → HasType v A → h v ≡ h' v) → (vs : List Datum) → TypedValues A vs → map h vs ≡ map h' vs
  map-same h h' e vs no_value = refl
  map-same h h' e vs (and_value {v = v} {vs = vs'} k ks) = ap₂ (λ w ws. w ∷ ws) (e v k) (map-same h h' e vs' ks)

  pub same-arr : {Ps : List TypeTree} {Os : List Arrow} {A B : TypeTree} (e e' : L) → SameLeaf val Ps A B e e' → SameNet val Ps Os A B (arr e) (arr e')
  same-arr e e' h = record {
    here = λ ps os os' k a. record {
      same = λ xs j. map-same (val e ps) (val e' ps) (λ v i. h.leaf_same ps v k i) (values xs) (typed_values xs j);
      typed = λ xs j. TypedValues-map (val e ps) (values xs) (λ v i. h.leaf_typed ps v k i) (typed_values xs j);
    };
  }

  pub same-seq : {Ps : List TypeTree} {Os : List Arrow} {A B C : TypeTree} (f f' g g' : Network L) → SameNet val Ps Os A B f f' → SameNet val Ps Os B C g g'
      → SameNet val Ps Os A C (seq f g) (seq f' g')
  same-seq f f' g g' hf hg = record { here = λ ps os os' k a. SameAt-sequence _ _ _ _ (hf.here ps os os' k a) (hg.here ps os os' k a) }

  pub same-first : {Ps : List TypeTree} {Os : List Arrow} {A B C : TypeTree} (f f' : Network L) → SameNet val Ps Os A B f f'
      → SameNet val Ps Os (pair_ty A C) (pair_ty B C) (first f) (first f')
  same-first f f' hf = record { here = λ ps os os' k a. SameAt-on_left _ _ (hf.here ps os os' k a) }

  pub same-par : {Ps : List TypeTree} {Os : List Arrow} {A B : TypeTree} (fs gs : Networks L) → SameNets val Ps Os A B fs gs
      → SameNet val Ps Os A (list_ty B) (par fs) (par gs)
  same-par fs gs h = record { here = λ ps os os' k a. SameAt-in_parallel _ _ (h.here ps os os' k a) }

  pub same-loop_pre : {Ps : List TypeTree} {Os : List Arrow} {A B C : TypeTree} (c c' : L) (f f' : Network L) → SameLeaf val Ps unit_ty C c c'
      → SameNet val Ps Os (pair_ty A C) (pair_ty B C) f f' → SameNet val Ps Os A B (loop_pre c f) (loop_pre c' f')
  same-loop_pre {A = A} {B = B} c c' f f' hc hf = record {
    here = λ ps os os' k a.
        subst (λ v. SameAt A B (meaning val (loop_pre c f) (context ps os)) (loop_pre_function v (meaning val f' (context ps os')))) (const_same hc ps k)
        (SameAt-feedback (val c ps unit) _ _ (const_typed hc ps k) (hf.here ps os os' k a));
  }

  -- a cell with a constant, where what it outputs is typed
  same-const : {Ps : List TypeTree} {Os : List Arrow} {A B C : TypeTree} (net : L → Network L) (value : Datum → TimedList → Datum)
      → ((e : L) (E : Context) → meaning val (net e) E ≡ by_past (value (val e E.params unit)))
      → ((v : Datum) → HasType v C → (p : TimedList) → TypedSamples A p → HasType (value v p) B)
      → (c c' : L) → SameLeaf val Ps unit_ty C c c' → SameNet val Ps Os A B (net c) (net c')
  same-const {A = A} {B = B} net value is h c c' hc = record {
    here = λ ps os os' k a.
        let v = val c ps unit in
        rw (is c (context ps os), is c' (context ps os'))
        (subst (λ w. SameAt A B (by_past (value v)) (by_past (value w))) (const_same hc ps k)
        (SameAt-one (by_past (value v)) (λ xs j. typed_by_past (value v) xs (λ p l. h v (const_typed hc ps k) p l) j)));
  }

  pub same-i_pre : {Ps : List TypeTree} {Os : List Arrow} {A : TypeTree} (c c' : L) → SameLeaf val Ps unit_ty A c c'
      → SameNet val Ps Os A A (i_pre c) (i_pre c')
  same-i_pre = same-const i_pre i_pre_value (λ e E. refl) (λ v i p l. typed_previous_of v p i l)

  pub same-delay : {Ps : List TypeTree} {Os : List Arrow} {A : TypeTree} (q : ℕ) (c c' : L) → SameLeaf val Ps unit_ty A c c'
      → SameNet val Ps Os A A (delay q c) (delay q c')
  same-delay q = same-const (delay q) (delay_value q) (λ e E. refl)
      (λ v i p l. typed_latest_by q (time_at p) v (times p) (values p) i (typed_values p l))

  pub same-hold : {Ps : List TypeTree} {Os : List Arrow} {A : TypeTree} (c c' : L) → SameLeaf val Ps unit_ty A c c'
      → SameNet val Ps Os (event_ty A) A (hold c) (hold c')
  same-hold = same-const hold (λ v p. latest_event v (values p)) (λ e E. refl) (λ v i p l. typed_latest_event v (values p) i (typed_values p l))

  pub same-after : {Ps : List TypeTree} {Os : List Arrow} {A C : TypeTree} (q : ℕ) (c c' : L) → SameLeaf val Ps unit_ty C c c'
      → SameNet val Ps Os A (event_ty C) (after q c) (after q c')
  same-after q = same-const (after q) (after_value q) (λ e E. refl) (λ v i p l. typed_when _ v i)

  pub same-repeatedly : {Ps : List TypeTree} {Os : List Arrow} {A C : TypeTree} (q : ℕ) (c c' : L) → SameLeaf val Ps unit_ty C c c'
      → SameNet val Ps Os A (event_ty C) (repeatedly q c) (repeatedly q c')
  same-repeatedly q = same-const (repeatedly q) (repeatedly_value q) (λ e E. refl) (λ v i p l. typed_when _ v i)

  pub same-time : {Ps : List TypeTree} {Os : List Arrow} {A : TypeTree} → SameNet val Ps Os A int_ty time time
  same-time = record { here = λ ps os os' k a. SameAt-one (by_past time_value) (λ xs j. typed_by_past time_value xs (λ p l. typed_wrapped _) j) }

  pub same-integral : {Ps : List TypeTree} {Os : List Arrow} → SameNet val Ps Os int_ty int_ty integral integral
  same-integral =
      record { here = λ ps os os' k a. SameAt-one (by_past integral_value) (λ xs j. typed_by_past integral_value xs (λ p l. typed_integral_value p) j) }

  pub same-switch : {Ps : List TypeTree} {Os : List Arrow} {A B C : TypeTree} (tm : Timing) (f f' t t' : Network L)
      → SameNet val Ps Os A (pair_ty B (event_ty C)) f f' → SameNet val (Ps ++ C ∷ []) Os A B t t'
      → SameNet val Ps Os A B (switch tm f t) (switch tm f' t')
  same-switch {Ps = Ps} {C = C} tm f f' t t' hf ht = record {
    here = λ ps os os' k a.
        SameAt-switching tm _ _ _ _ (IsSignal-meaning val f (context ps os) (signals_left os os' a))
        (IsSignal-meaning val f' (context ps os') (signals_right os os' a)) (hf.here ps os os' k a)
        (λ c i. ht.here (ps ++ c ∷ []) os os' (TypedParams-append Ps (C ∷ []) ps (c ∷ []) k (and_param i no_params)) a);
  }

  pub same-r_switch : {Ps : List TypeTree} {Os : List Arrow} {D B C : TypeTree} (tm : Timing) (f f' t t' : Network L) → SameNet val Ps Os D B f f'
      → SameNet val (Ps ++ C ∷ []) Os D B t t' → SameNet val Ps Os (pair_ty D (event_ty C)) B (r_switch tm f t) (r_switch tm f' t')
  same-r_switch {Ps = Ps} {C = C} tm f f' t t' hf ht =
      record {
        here = λ ps os os' k a. SameAt-restarting tm _ _ _ _ (hf.here ps os os' k a)
            (λ c i. ht.here (ps ++ c ∷ []) os os' (TypedParams-append Ps (C ∷ []) ps (c ∷ []) k (and_param i no_params)) a);
      }

  pub same-initial_out : {Ps : List TypeTree} {Os : List Arrow} {A B : TypeTree} (c c' : L) (f f' : Network L) → SameLeaf val Ps unit_ty B c c'
      → SameNet val Ps Os A B f f' → SameNet val Ps Os A B (initial_out c f) (initial_out c' f')
  same-initial_out {A = A} {B = B} c c' f f' hc hf = record {
    here = λ ps os os' k a.
        subst (λ v. SameAt A B (meaning val (initial_out c f) (context ps os)) (initial_out_function v (meaning val f' (context ps os')))) (const_same hc ps k)
        (SameAt-initial_out (val c ps unit) _ _ (const_typed hc ps k) (hf.here ps os os' k a));
  }

  pub same-initial_in : {Ps : List TypeTree} {Os : List Arrow} {A B : TypeTree} (c c' : L) (f f' : Network L) → SameLeaf val Ps unit_ty A c c'
      → SameNet val Ps Os A B f f' → SameNet val Ps Os A B (initial_in c f) (initial_in c' f')
  same-initial_in {A = A} {B = B} c c' f f' hc hf = record {
    here = λ ps os os' k a.
        subst (λ v. SameAt A B (meaning val (initial_in c f) (context ps os)) (initial_in_function v (meaning val f' (context ps os')))) (const_same hc ps k)
        (SameAt-initial_in (val c ps unit) _ _ (const_typed hc ps k) (hf.here ps os os' k a));
  }

  pub same-rp_switch : {Ps : List TypeTree} {Os : List Arrow} {D B C V : TypeTree} (fs fs' : Networks L) (m m' : L) (t t' : Network L)
      → SameNets val Ps Os D B fs fs' → SameLeaf val Ps C (pair_ty (list_ty int_ty) (list_ty V)) m m' → SameNet val (Ps ++ V ∷ []) Os D B t t'
      → SameNet val Ps Os (pair_ty D (event_ty C)) (list_ty B) (rp_switch fs m t) (rp_switch fs' m' t')
  same-rp_switch {Ps = Ps} {D = D} {B = B} {C = C} {V = V} fs fs' m m' t t' hfs hm ht = record {
    here = λ ps os os' k a.
        SameAt-reselecting D B C V (val m ps) (val m' ps) (λ v. meaning val t (context (ps ++ v ∷ []) os)) (λ v. meaning val t' (context (ps ++ v ∷ []) os'))
        (λ c i. (hm.leaf_same ps c k i, hm.leaf_typed ps c k i))
        (λ v. IsSignal-meaning val t (context (ps ++ v ∷ []) os) (signals_left os os' a))
        (λ v i. ht.here (ps ++ v ∷ []) os os' (TypedParams-append Ps (V ∷ []) ps (v ∷ []) k (and_param i no_params)) a)
        _ _ (hfs.here ps os os' k a);
  }

  pub same-k_switch : {Ps : List TypeTree} {Os : List Arrow} {A B C : TypeTree} (f f' e e' t t' : Network L) → SameNet val Ps Os A B f f'
      → SameNet val Ps Os (pair_ty A B) (event_ty C) e e' → SameNet val (Ps ++ C ∷ []) (Os ++ record { input = A; output = B } ∷ []) A B t t'
      → SameNet val Ps Os A B (k_switch f e t) (k_switch f' e' t')
  same-k_switch {Ps = Ps} {Os = Os} {A = A} {B = B} {C = C} f f' e e' t t' hf he ht = record {
    here = λ ps os os' k a.
        SameAt-switching_on _ _ _ _ _ _ (IsSignal-meaning val f (context ps os) (signals_left os os' a))
        (IsSignal-meaning val f' (context ps os') (signals_right os os' a)) (hf.here ps os os' k a) (he.here ps os os' k a)
        (λ c o o' i so so' ho. ht.here (ps ++ c ∷ []) (os ++ o ∷ []) (os' ++ o' ∷ []) (TypedParams-append Ps (C ∷ []) ps (c ∷ []) k (and_param i no_params))
        (AllOlds-append Os _ os os' (o ∷ []) (o' ∷ []) a (and_old so so' ho no_olds)));
  }

  pub same-old : {Ps : List TypeTree} {Os : List Arrow} {A B : TypeTree} (k : ℕ) → OldAt Os k (record { input = A; output = B })
      → SameNet val Ps Os A B (old k) (old k)
  same-old n i = record { here = λ ps os os' k a. same_olds os os' a i }

  pub same-p_switch : {Ps : List TypeTree} {Os : List Arrow} {A B C D : TypeTree} (r r' : L) (fs fs' : Networks L) (e e' t t' : Network L) → members fs ≤ 64
      → SameLeaf val Ps (pair_ty A int_ty) D r r' → SameNets val Ps Os D B fs fs' → SameNet val Ps Os (pair_ty A (list_ty B)) (event_ty C) e e'
      → SameNet val (Ps ++ C ∷ []) (Os ++ copies (members fs) (record { input = D; output = B })) A (list_ty B) t t'
      → SameNet val Ps Os A (list_ty B) (p_switch r fs e t) (p_switch r' fs' e' t')
  same-p_switch {Ps = Ps} {Os = Os} {A = A} {B = B} {C = C} {D = D} r r' fs fs' e e' t t' l hr hf he ht = record {
    here = λ ps os os' k a.
        let n : length (meanings val fs (context ps os)) ≡ members fs = length-meanings val fs (context ps os) in
        SameAt-switching_all (val r ps) (val r' ps) (meanings val fs (context ps os)) (meanings val fs' (context ps os')) _ _ _ _
        (λ v i. (hr.leaf_same ps v k i, hr.leaf_typed ps v k i)) (omega arith) (hf.here ps os os' k a) (he.here ps os os' k a)
        (λ c qs qs' i o. ht.here (ps ++ c ∷ []) (os ++ qs) (os' ++ qs') (TypedParams-append Ps (C ∷ []) ps (c ∷ []) k (and_param i no_params))
        (AllOlds-append Os _ os os' qs qs' a (subst (λ m. AllOlds (copies m (record { input = D; output = B })) qs qs') n o)));
  }

  pub same-no_members : {Ps : List TypeTree} {Os : List Arrow} {A B : TypeTree} → SameNets val Ps Os A B no_members no_members
  same-no_members = record { here = λ ps os os' k a. no_twin }

  pub same-and_member : {Ps : List TypeTree} {Os : List Arrow} {A B : TypeTree} (f f' : Network L) (fs fs' : Networks L) → SameNet val Ps Os A B f f'
      → SameNets val Ps Os A B fs fs' → SameNets val Ps Os A B (and_member f fs) (and_member f' fs')
  same-and_member f f' fs fs' hf hfs = record {
    here = λ ps os os' k a.
        and_twin (IsSignal-meaning val f (context ps os) (signals_left os os' a)) (IsSignal-meaning val f' (context ps os') (signals_right os os' a))
        (hf.here ps os os' k a) (hfs.here ps os os' k a);
  }

  fold_events-same : {Z V : TypeTree} (g g' : Datum → Datum) → ((v : Datum) → HasType v (pair_ty Z V) → (g v ≡ g' v) × HasType (g v) Z)
      → (acc : Datum) (vs : List Datum) → HasType acc Z → TypedValues (event_ty V) vs → fold_events g acc vs ≡ fold_events g' acc vs
  fold_events-same g g' s acc vs h no_value = refl
  fold_events-same g g' s acc vs h (and_value {vs = vs'} no_event_has ks) = fold_events-same g g' s acc vs' h ks
  fold_events-same g g' s acc vs h (and_value {vs = vs'} (event_has {v = v} k) ks) =
      fold_events-same g g' s (g (pair acc v)) vs' (s (pair acc v) (pair_has h k)).1 ks ∙ ap (λ w. fold_events g' w vs') (s (pair acc v) (pair_has h k)).0

  by_past-same : {A : TypeTree} (h h' : TimedList → Datum) (xs : TimedList) → ((p : TimedList) → TypedSamples A p → h p ≡ h' p) → TypedSamples A xs
      → map h (prefixes xs) ≡ map h' (prefixes xs)
  by_past-same h h' xs s no_sample = refl
  by_past-same h h' xs s (and_sample {x = x} {xs = xs'} k ks) =
      ap₂ (λ v vs. v ∷ vs) (s (x ∷ []) (and_sample k no_sample)) (map-map h (λ p. x ∷ p) (prefixes xs')
      ∙ by_past-same (λ p. h (x ∷ p)) (λ p. h' (x ∷ p)) xs' (λ p j. s (x ∷ p) (and_sample k j)) ks ∙ sym (map-map h' (λ p. x ∷ p) (prefixes xs')))

  pub same-accum_by : {Ps : List TypeTree} {Os : List Arrow} {V Z : TypeTree} (g g' z z' : L) → SameLeaf val Ps unit_ty Z z z'
      → SameLeaf val Ps (pair_ty Z V) Z g g' → SameNet val Ps Os (event_ty V) (event_ty Z) (accum_by g z) (accum_by g' z')
  same-accum_by g g' z z' hz hg = record {
    here = λ ps os os' k a. record {
      same = λ xs j. by_past-same (accum_by_value (val g ps) (val z ps unit)) (accum_by_value (val g' ps) (val z' ps unit)) xs
          (λ p l. ap (if_event (last_or no_event (values p))) (
          fold_events-same (val g ps) (val g' ps) (λ v i. (hg.leaf_same ps v k i, hg.leaf_typed ps v k i)) (val z ps unit) (values p) (const_typed hz ps k)
          (typed_values p l)
          ∙ ap (λ v. fold_events (val g' ps) v (values p)) (const_same hz ps k))) j;
      typed = λ xs j. typed_by_past (accum_by_value (val g ps) (val z ps unit)) xs
          (λ p l. typed_if_event _ _ (typed_last no_event (values p) no_event_has (typed_values p l))
          (typed_fold_events (val g ps) (val z ps unit) (values p) (λ v i. hg.leaf_typed ps v k i) (const_typed hz ps k) (typed_values p l))) j;
    };
  }

  same-leaf : (T : LeafTyping L) → LeavesTyped val T → (e : L) (Ps : List TypeTree) (A B : TypeTree) → T e Ps A B → SameLeaf val Ps A B e e
  same-leaf T lt e Ps A B h = record { leaf_same = λ ps x k i. refl; leaf_typed = λ ps x k i. lt e Ps A B h ps x k i }

  olds_alone : (Os : List Arrow) (os os' : List SignalFunction) → AllOlds Os os os' → AllOlds Os os os
  olds_alone Os os os' no_olds = no_olds
  olds_alone Os os os' (and_old {Os = Os'} {f = f} {fs = fs} {gs = gs} sf sg h a) = and_old sf sf (SameAt-one f h.typed) (olds_alone Os' fs gs a)

  module _ (T : LeafTyping L) {M : TypeTree → Type 0} (lt : LeavesTyped val T) where
    mutual
      -- a typed network in alike environments has equal, typed answers
      pub same-typed : (Ps : List TypeTree) (Os : List Arrow) (net : Network L) (A B : TypeTree) → Typed T M Ps Os net A B → SameNet val Ps Os A B net net
      same-typed Ps Os net A B (arr_typed {e = e} h) = same-arr e e (same-leaf T lt e Ps A B h)
      same-typed Ps Os net A C (seq_typed {f = f} {g = g} {B = B} df dg) = same-seq f f g g (same-typed Ps Os f A B df) (same-typed Ps Os g B C dg)
      same-typed Ps Os net A B (first_typed {f = f} {A = A'} {B = B'} df m) = same-first f f (same-typed Ps Os f A' B' df)
      same-typed Ps Os net A B (par_typed {fs = fs} {B = B'} some l ds m) = same-par fs fs (same-all_typed Ps Os fs A B' ds)
      same-typed Ps Os net A B (loop_typed {c = c} {f = f} {C = C} h m df) =
          same-loop_pre c c f f (same-leaf T lt c Ps unit_ty C h) (same-typed Ps Os f (pair_ty A C) (pair_ty B C) df)
      same-typed Ps Os net A B (i_pre_typed {c = c} h) = same-i_pre c c (same-leaf T lt c Ps unit_ty A h)
      same-typed Ps Os net A B (delay_typed {q = q} {c = c} low high h) = same-delay q c c (same-leaf T lt c Ps unit_ty A h)
      same-typed Ps Os net A B (hold_typed {c = c} h) = same-hold c c (same-leaf T lt c Ps unit_ty B h)
      same-typed Ps Os net A B (accum_typed {g = g} {z = z} {V = V} {Z = Z} hz m hg n) =
          same-accum_by g g z z (same-leaf T lt z Ps unit_ty Z hz) (same-leaf T lt g Ps (pair_ty Z V) Z hg)
      same-typed Ps Os net A B (after_typed {q = q} {c = c} {C = C} high h m) = same-after q c c (same-leaf T lt c Ps unit_ty C h)
      same-typed Ps Os net A B (repeatedly_typed {q = q} {c = c} {C = C} low high h m) = same-repeatedly q c c (same-leaf T lt c Ps unit_ty C h)
      same-typed Ps Os net A B time_typed = same-time
      same-typed Ps Os net A B integral_typed = same-integral
      same-typed Ps Os net A B (switch_typed {tm = tm} {f = f} {t = t} {C = C} df dt) =
          same-switch tm f f t t (same-typed Ps Os f A (pair_ty B (event_ty C)) df) (same-typed (Ps ++ C ∷ []) Os t A B dt)
      same-typed Ps Os net A B (r_switch_typed {tm = tm} {f = f} {t = t} {D = D} {C = C} df dt) =
          same-r_switch tm f f t t (same-typed Ps Os f D B df) (same-typed (Ps ++ C ∷ []) Os t D B dt)
      same-typed Ps Os net A B (k_switch_typed {f = f} {e = e} {t = t} {C = C} df m de dt) =
          same-k_switch f f e e t t (same-typed Ps Os f A B df) (same-typed Ps Os e (pair_ty A B) (event_ty C) de)
          (same-typed (Ps ++ C ∷ []) (Os ++ record { input = A; output = B } ∷ []) t A B dt)
      same-typed Ps Os net A B (p_switch_typed {r = r} {fs = fs} {e = e} {t = t} {B = B'} {C = C} {D = D} some l m h ds n de dt) =
          same-p_switch r r fs fs e e t t l (same-leaf T lt r Ps (pair_ty A int_ty) D h) (same-all_typed Ps Os fs D B' ds)
          (same-typed Ps Os e (pair_ty A (list_ty B')) (event_ty C) de)
          (same-typed (Ps ++ C ∷ []) (Os ++ copies (members fs) (record { input = D; output = B' })) t A (list_ty B') dt)
      same-typed Ps Os net A B (old_typed {k = k} i) = same-old k i
      same-typed Ps Os net A B (initial_out_typed {c = c} {f = f} h df) =
          same-initial_out c c f f (same-leaf T lt c Ps unit_ty B h) (same-typed Ps Os f A B df)
      same-typed Ps Os net A B (initial_in_typed {c = c} {f = f} h df) =
          same-initial_in c c f f (same-leaf T lt c Ps unit_ty A h) (same-typed Ps Os f A B df)
      same-typed Ps Os net A B (rp_switch_typed {fs = fs} {m = m} {t = t} {D = D} {B = B'} {C = C} {V = V} some l ds h dt n) =
          same-rp_switch fs fs m m t t (same-all_typed Ps Os fs D B' ds) (same-leaf T lt m Ps C (pair_ty (list_ty int_ty) (list_ty V)) h)
          (same-typed (Ps ++ V ∷ []) Os t D B' dt)

      pub same-all_typed : (Ps : List TypeTree) (Os : List Arrow) (fs : Networks L) (A B : TypeTree) → AllTyped T M Ps Os fs A B → SameNets val Ps Os A B fs fs
      same-all_typed Ps Os fs A B no_members_typed = same-no_members
      same-all_typed Ps Os fs A B (and_member_typed {f = f} {fs = fs'} df ds) =
          same-and_member f f fs' fs' (same-typed Ps Os f A B df) (same-all_typed Ps Os fs' A B ds)

    -- a law shown in each one environment holds across alike ones
    pub same-from_law : (Ps : List TypeTree) (Os : List Arrow) (A B : TypeTree) (f g : Network L) → Typed T M Ps Os f A B → Typed T M Ps Os g A B
        → ((ps : List Datum) (os : List SignalFunction) → TypedParams Ps ps → AllOlds Os os os → (xs : TimedList) → TypedSamples A xs
        → meaning val f (context ps os) xs ≡ meaning val g (context ps os) xs) → SameNet val Ps Os A B f g
    same-from_law Ps Os A B f g df dg law = record {
      here = λ ps os os' k a. record {
        same = λ xs j. law ps os k (olds_alone Os os os' a) xs j ∙ ((same-typed Ps Os g A B dg).here ps os os' k a).same xs j;
        typed = λ xs j. ((same-typed Ps Os f A B df).here ps os os' k a).typed xs j;
      };
    }
