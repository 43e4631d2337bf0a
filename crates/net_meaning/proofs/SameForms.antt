-- Each form outputs the same in alike environments where its parts do, in templates and in networks that will be frozen too.
use Rattle.std.proofs.Common.{◌≡◌, ℕ, suc, ◌+◌, ◌≤◌, ◌<◌, List, [], ◌∷◌, ◌++◌, length, refl, sym, ap, ◌∙◌, arith, subst, subst₂, append-nil, append_assoc}
use Rattle.sample_core.specs.Datum.{Datum, unit}
use Rattle.sample_core.specs.TypeTree.{TypeTree, unit_ty, int_ty, pair_ty, event_ty, list_ty}
use Rattle.sample_core.specs.HasType.{HasType, unit_has, TypedParams}
use Rattle.leaf_core.specs.Expression.{Expression}
use Rattle.leaf_core.specs.ExpressionValue.{value_of}
use Rattle.leaf_core.specs.ExpressionTyping.{ExpressionTyped}
use Rattle.leaf_core.proofs.Soundness.{typed_value}
use Rattle.net_meaning.specs.SignalFunction.{TimedList, SignalFunction, IsSignalFunction, loop_pre_function, initial_out_function, initial_in_function, watch, collect, route, route_each, freeze_all, resume}
use Rattle.net_tree.specs.Network.{Timing, Network, Networks, seq, first, par, loop_pre, switch, r_switch, k_switch, p_switch, no_members, and_member}
use Rattle.net_meaning.specs.Meaning.{Context, with_param, with_olds, old_at, meaning, meanings}
use Rattle.net_meaning.specs.Environment.{Environment, param, frozen, context_of, param_typed, frozen_typed}
use Rattle.net_meaning.specs.Typing.{Arrow, arrow, OldAt, old_here, old_after, copies, members, TypedSamples, AllTyped, AnyType, no_members_typed, and_member_typed}
use Rattle.net_meaning.specs.TypedNetwork.{outputs_of, NetTyped}
use Rattle.net_meaning.specs.Sameness.{SameAt, AllSameAt, no_twin, and_twin, AllOlds, no_olds, and_old}
use Rattle.net_meaning.specs.AlikeEnvironments.{EnvironmentTyped, AlikeEnvironments, SameOutputs}
use Rattle.net_meaning.specs.Congruence.{TwinLeaf, TwinMembers, no_twins, and_twins, InitialOutLaw, InitialInLaw, SameCollectionLaw}
use Rattle.net_meaning.proofs.Openings.{SameAt-initial_out, SameAt-initial_in}
use Rattle.net_meaning.proofs.Collections.{SameAt-reselecting}
use Rattle.net_meaning.specs.SwitchLaws.{route_in, freeze_members}
use Rattle.net_meaning.proofs.Meanings.{IsSignal-meaning, AllSignals-context_of}
use Rattle.net_meaning.proofs.Resumed.{IsSignal-resume}
use Rattle.net_meaning.proofs.SameAt.{SameAt-sequence, SameAt-on_left, SameAt-in_parallel, SameAt-feedback, SameAt-resume, SameAt-watching, SameAt-switch_at}
use Rattle.net_meaning.proofs.SameSwitches.{SameAt-switching, SameAt-restarting, SameRoute, typed_route, AllSameAt-routes, AllOlds-frozen_all, AllOlds-append}
use Rattle.net_meaning.proofs.SwitchedOutputs.{frozen_in}
use Rattle.net_meaning.proofs.TypedMeanings.{holds, alike_from_equal}
use Rattle.net_meaning.proofs.StreamLaws.{outputs-typed}

-- what is in scope in an environment
abbrev scope : Environment Expression → Context
scope E = context_of value_of E

params_typed : (Ps : List TypeTree) (Os : List Arrow) (E : Environment Expression) → EnvironmentTyped Ps Os E → TypedParams Ps (scope E).params
params_typed Ps Os E e = (holds value_of ExpressionTyped typed_value Ps Os E e).scope_params

olds_alike : (Ps : List TypeTree) (Os : List Arrow) (E F : Environment Expression) → AlikeEnvironments Ps Os E F → AllOlds Os (scope E).olds (scope F).olds
olds_alike Ps Os E F a =
    alike_from_equal Os (scope E).olds (scope F).olds (holds value_of ExpressionTyped typed_value Ps Os E a.one_typed).scope_olds
    (holds value_of ExpressionTyped typed_value Ps Os F a.other_typed).scope_olds (λ k o i xs j. a.same_olds k o i xs j)

same_old : (Os : List Arrow) (k : ℕ) (o : Arrow) (fs gs : List SignalFunction) → AllOlds Os fs gs → OldAt Os k o
    → SameAt o.input o.output (old_at fs k) (old_at gs k)
same_old Os k o fs gs no_olds i = elim i [ ]
same_old Os k o fs gs (and_old sf sg h a) old_here = h
same_old Os k o fs gs (and_old {Os = Os'} {fs = fs'} {gs = gs'} sf sg h a) (old_after {k = k'} i) = same_old Os' k' o fs' gs' a i

alike_by_olds : (Ps : List TypeTree) (Os : List Arrow) (E F : Environment Expression) → EnvironmentTyped Ps Os E → EnvironmentTyped Ps Os F
    → (scope E).params ≡ (scope F).params → AllOlds Os (scope E).olds (scope F).olds → AlikeEnvironments Ps Os E F
alike_by_olds Ps Os E F e h p a = record {
  one_typed = e;
  other_typed = h;
  same_params = p;
  same_olds = λ k o i xs j. (same_old Os k o (scope E).olds (scope F).olds a i).same xs j;
}

-- one parameter more
alike_param : (Ps : List TypeTree) (Os : List Arrow) (E F : Environment Expression) (C : TypeTree) (c : Datum) → AlikeEnvironments Ps Os E F → HasType c C
    → AlikeEnvironments (Ps ++ C ∷ []) Os (param E c) (param F c)
alike_param Ps Os E F C c a h = record {
  one_typed = param_typed a.one_typed h;
  other_typed = param_typed a.other_typed h;
  same_params = ap (λ ps. ps ++ c ∷ []) a.same_params;
  same_olds = λ k o i xs j. a.same_olds k o i xs j;
}

signal_of : (f : Network Expression) (E : Environment Expression) → IsSignalFunction (outputs_of f E)
signal_of f E = IsSignal-meaning value_of f (scope E) (AllSignals-context_of value_of E)

-- typed networks that output the same in alike environments
same_at : (Ps : List TypeTree) (Os : List Arrow) (A B : TypeTree) (f g : Network Expression) (E F : Environment Expression) → NetTyped Ps Os f A B
    → SameOutputs Ps Os A f g → AlikeEnvironments Ps Os E F → SameAt A B (outputs_of f E) (outputs_of g F)
same_at Ps Os A B f g E F d s a = record { same = λ xs j. s E F a xs j; typed = λ xs j. outputs-typed Ps Os f A B E xs a.one_typed d j }

-- one frozen network more
alike_frozen : (Ps Qs : List TypeTree) (Os Rs : List Arrow) (E F G H : Environment Expression) (A B : TypeTree) (f g : Network Expression)
    (p : TimedList) (d : ℕ) → AlikeEnvironments Ps Os E F → AlikeEnvironments Qs Rs G H → NetTyped Qs Rs f A B → NetTyped Qs Rs g A B → SameOutputs Qs Rs A f g
    → TypedSamples A p → AlikeEnvironments Ps (Os ++ arrow A B ∷ []) (frozen E f G p d) (frozen F g H p d)
alike_frozen Ps Qs Os Rs E F G H A B f g p d a b df dg s j =
    alike_by_olds Ps (Os ++ arrow A B ∷ []) (frozen E f G p d) (frozen F g H p d) (frozen_typed a.one_typed b.one_typed df j)
    (frozen_typed a.other_typed b.other_typed dg j) a.same_params
    (AllOlds-append Os (arrow A B ∷ []) (scope E).olds (scope F).olds (resume (outputs_of f G) p d ∷ []) (resume (outputs_of g H) p d ∷ [])
    (olds_alike Ps Os E F a)
    (and_old (IsSignal-resume (outputs_of f G) (signal_of f G) p d) (IsSignal-resume (outputs_of g H) (signal_of g H) p d)
    (SameAt-resume (outputs_of f G) (outputs_of g H) (same_at Qs Rs A B f g G H df s b) p d j) no_olds))

pub seq_same : (Ps : List TypeTree) (Os : List Arrow) (A B C : TypeTree) (f f' g g' : Network Expression) → NetTyped Ps Os f A B → NetTyped Ps Os g B C
    → SameOutputs Ps Os A f f' → SameOutputs Ps Os B g g' → SameOutputs Ps Os A (seq f g) (seq f' g')
seq_same Ps Os A B C f f' g g' df dg sf sg E F a xs j =
    (SameAt-sequence (outputs_of f E) (outputs_of f' F) (outputs_of g E) (outputs_of g' F) (same_at Ps Os A B f f' E F df sf a)
    (same_at Ps Os B C g g' E F dg sg a)).same xs j

pub first_same : (Ps : List TypeTree) (Os : List Arrow) (A B C : TypeTree) (f f' : Network Expression) → NetTyped Ps Os f A B → SameOutputs Ps Os A f f'
    → SameOutputs Ps Os (pair_ty A C) (first f) (first f')
first_same Ps Os A B C f f' df sf E F a xs j =
    (SameAt-on_left {A = A} {B = B} {C = C} (outputs_of f E) (outputs_of f' F) (same_at Ps Os A B f f' E F df sf a)).same xs j

pub loop_same : (Ps : List TypeTree) (Os : List Arrow) (A B C : TypeTree) (c : Expression) (f f' : Network Expression)
    → ExpressionTyped c Ps unit_ty C → NetTyped Ps Os f (pair_ty A C) (pair_ty B C) → SameOutputs Ps Os (pair_ty A C) f f'
    → SameOutputs Ps Os A (loop_pre c f) (loop_pre c f')
loop_same Ps Os A B C c f f' dc df sf E F a xs j =
    (SameAt-feedback {A = A} {B = B} {C = C} (value_of c (scope E).params unit) (outputs_of f E) (outputs_of f' F)
    (typed_value c Ps unit_ty C dc (scope E).params unit (params_typed Ps Os E a.one_typed) unit_has)
    (same_at Ps Os (pair_ty A C) (pair_ty B C) f f' E F df sf a)).same xs j
    ∙ ap (λ ps. loop_pre_function (value_of c ps unit) (outputs_of f' F) xs) a.same_params

pub switch_same : (tm : Timing) (Ps : List TypeTree) (Os : List Arrow) (A B C : TypeTree) (f f' t t' : Network Expression)
    → NetTyped Ps Os f A (pair_ty B (event_ty C)) → NetTyped (Ps ++ C ∷ []) Os t A B → SameOutputs Ps Os A f f' → SameOutputs (Ps ++ C ∷ []) Os A t t'
    → SameOutputs Ps Os A (switch tm f t) (switch tm f' t')
switch_same tm Ps Os A B C f f' t t' df dt sf st E F a xs j =
    (SameAt-switching tm (outputs_of f E) (outputs_of f' F) (λ c. outputs_of t (param E c)) (λ c. outputs_of t' (param F c)) (signal_of f E) (signal_of f' F)
    (same_at Ps Os A (pair_ty B (event_ty C)) f f' E F df sf a)
    (λ c h. same_at (Ps ++ C ∷ []) Os A B t t' (param E c) (param F c) dt st (alike_param Ps Os E F C c a h))).same xs j

pub r_switch_same : (tm : Timing) (Ps : List TypeTree) (Os : List Arrow) (D B C : TypeTree) (f f' t t' : Network Expression) → NetTyped Ps Os f D B
    → NetTyped (Ps ++ C ∷ []) Os t D B → SameOutputs Ps Os D f f' → SameOutputs (Ps ++ C ∷ []) Os D t t'
    → SameOutputs Ps Os (pair_ty D (event_ty C)) (r_switch tm f t) (r_switch tm f' t')
r_switch_same tm Ps Os D B C f f' t t' df dt sf st E F a xs j =
    (SameAt-restarting {C = C} tm (outputs_of f E) (outputs_of f' F) (λ c. outputs_of t (param E c)) (λ c. outputs_of t' (param F c))
    (same_at Ps Os D B f f' E F df sf a)
    (λ c h. same_at (Ps ++ C ∷ []) Os D B t t' (param E c) (param F c) dt st (alike_param Ps Os E F C c a h))).same xs j

pub k_switch_same : (Ps : List TypeTree) (Os : List Arrow) (A B C : TypeTree) (f f' e e' t t' : Network Expression) → NetTyped Ps Os f A B
    → NetTyped Ps Os f' A B → NetTyped Ps Os e (pair_ty A B) (event_ty C) → NetTyped (Ps ++ C ∷ []) (Os ++ arrow A B ∷ []) t A B
    → SameOutputs Ps Os A f f' → SameOutputs Ps Os (pair_ty A B) e e' → SameOutputs (Ps ++ C ∷ []) (Os ++ arrow A B ∷ []) A t t'
    → SameOutputs Ps Os A (k_switch f e t) (k_switch f' e' t')
k_switch_same Ps Os A B C f f' e e' t t' df df' de dt sf se st E F a xs j =
    let hf : SameAt A B (outputs_of f E) (outputs_of f' F) = same_at Ps Os A B f f' E F df sf a in
    (SameAt-switch_at {C = C} (outputs_of f E) (outputs_of f' F) (watch (outputs_of f E) (outputs_of e E)) (watch (outputs_of f' F) (outputs_of e' F))
    (λ c p d. outputs_of t (frozen (param E c) f E p d)) (λ c p d. outputs_of t' (frozen (param F c) f' F p d)) hf
    (SameAt-watching (outputs_of f E) (outputs_of f' F) (outputs_of e E) (outputs_of e' F) hf (same_at Ps Os (pair_ty A B) (event_ty C) e e' E F de se a))
    (λ c p d h k. same_at (Ps ++ C ∷ []) (Os ++ arrow A B ∷ []) A B t t' (frozen (param E c) f E p d) (frozen (param F c) f' F p d) dt st
    (alike_frozen (Ps ++ C ∷ []) Ps Os Os (param E c) (param F c) E F A B f f' p d (alike_param Ps Os E F C c a h) a df df' sf k))).same xs j

twins_at : (Ps : List TypeTree) (Os : List Arrow) (A B : TypeTree) (fs gs : Networks Expression) (E F : Environment Expression) → TwinMembers Ps Os A B fs gs
    → AlikeEnvironments Ps Os E F → AllSameAt A B (meanings value_of fs (scope E)) (meanings value_of gs (scope F))
twins_at Ps Os A B fs gs E F no_twins a = no_twin
twins_at Ps Os A B fs gs E F (and_twins {f = f} {g = g} {fs = fs'} {gs = gs'} df dg s h) a =
    and_twin (signal_of f E) (signal_of g F) (same_at Ps Os A B f g E F df s a) (twins_at Ps Os A B fs' gs' E F h a)

pub par_same : (Ps : List TypeTree) (Os : List Arrow) (A B : TypeTree) (fs gs : Networks Expression) → TwinMembers Ps Os A B fs gs
    → SameOutputs Ps Os A (par fs) (par gs)
par_same Ps Os A B fs gs h E F a xs j =
    (SameAt-in_parallel (meanings value_of fs (scope E)) (meanings value_of gs (scope F)) (twins_at Ps Os A B fs gs E F h a)).same xs j

-- a constant's value in alike environments
constant_same : (Ps : List TypeTree) (Os : List Arrow) (C : TypeTree) (c d : Expression) (E F : Environment Expression) → TwinLeaf Ps unit_ty C c d
    → AlikeEnvironments Ps Os E F → value_of c (scope E).params unit ≡ value_of d (scope F).params unit
constant_same Ps Os C c d E F h a =
    h.same (scope E).params unit (params_typed Ps Os E a.one_typed) unit_has ∙ ap (λ ps. value_of d ps unit) a.same_params

constant_typed : (Ps : List TypeTree) (Os : List Arrow) (C : TypeTree) (c d : Expression) (E F : Environment Expression) → TwinLeaf Ps unit_ty C c d
    → AlikeEnvironments Ps Os E F → HasType (value_of c (scope E).params unit) C
constant_typed Ps Os C c d E F h a = typed_value c Ps unit_ty C h.one_typed (scope E).params unit (params_typed Ps Os E a.one_typed) unit_has

pub initial_out_congruent : InitialOutLaw
initial_out_congruent Ps Os A B c d f f' h p E F a xs j =
    (SameAt-initial_out {A = A} {B = B} (value_of c (scope E).params unit) (outputs_of f E) (outputs_of f' F) (constant_typed Ps Os B c d E F h a)
    (same_at Ps Os A B f f' E F p.one_typed p.same a)).same xs j
    ∙ ap (λ v. initial_out_function v (outputs_of f' F) xs) (constant_same Ps Os B c d E F h a)

pub initial_in_congruent : InitialInLaw
initial_in_congruent Ps Os A B c d f f' h p E F a xs j =
    (SameAt-initial_in {A = A} {B = B} (value_of c (scope E).params unit) (outputs_of f E) (outputs_of f' F) (constant_typed Ps Os A c d E F h a)
    (same_at Ps Os A B f f' E F p.one_typed p.same a)).same xs j
    ∙ ap (λ v. initial_in_function v (outputs_of f' F) xs) (constant_same Ps Os A c d E F h a)

pub collection_congruent : SameCollectionLaw
collection_congruent Ps Os D B C V fs gs m n t t' hs h q E F a xs j =
    (SameAt-reselecting D B C V (value_of m (scope E).params) (value_of n (scope F).params) (λ v. outputs_of t (param E v)) (λ v. outputs_of t' (param F v))
    (λ c i. (
      h.same (scope E).params c (params_typed Ps Os E a.one_typed) i ∙ ap (λ ps. value_of n ps c) a.same_params,
      typed_value m Ps C (pair_ty (list_ty int_ty) (list_ty V)) h.one_typed (scope E).params c (params_typed Ps Os E a.one_typed) i,
    ))
    (λ v. signal_of t (param E v))
    (λ v i. same_at (Ps ++ V ∷ []) Os D B t t' (param E v) (param F v) q.one_typed q.same (alike_param Ps Os E F V v a i))
    (meanings value_of fs (scope E)) (meanings value_of gs (scope F)) (twins_at Ps Os D B fs gs E F hs a)).same xs j

pub count_meanings : (fs : Networks Expression) (E : Context) → length (meanings value_of fs E) ≡ members fs
count_meanings no_members E = refl
count_meanings (and_member f fs) E = ap suc (count_meanings fs E)

pub twins_left : (Ps : List TypeTree) (Os : List Arrow) (A B : TypeTree) (fs gs : Networks Expression) → TwinMembers Ps Os A B fs gs
    → AllTyped ExpressionTyped AnyType Ps Os fs A B
twins_left Ps Os A B fs gs no_twins = no_members_typed
twins_left Ps Os A B fs gs (and_twins {fs = fs'} {gs = gs'} df dg s h) = and_member_typed df (twins_left Ps Os A B fs' gs' h)

twins_right : (Ps : List TypeTree) (Os : List Arrow) (A B : TypeTree) (fs gs : Networks Expression) → TwinMembers Ps Os A B fs gs
    → AllTyped ExpressionTyped AnyType Ps Os gs A B
twins_right Ps Os A B fs gs no_twins = no_members_typed
twins_right Ps Os A B fs gs (and_twins {fs = fs'} {gs = gs'} df dg s h) = and_member_typed dg (twins_right Ps Os A B fs' gs' h)

twins_count : (Ps : List TypeTree) (Os : List Arrow) (A B : TypeTree) (fs gs : Networks Expression) → TwinMembers Ps Os A B fs gs → members gs ≡ members fs
twins_count Ps Os A B fs gs no_twins = refl
twins_count Ps Os A B fs gs (and_twins {fs = fs'} {gs = gs'} df dg s h) = ap suc (twins_count Ps Os A B fs' gs' h)

-- all members frozen in a typed environment
freeze_typed : (Ps Qs : List TypeTree) (Os Rs : List Arrow) (A B D : TypeTree) (E F : Environment Expression) (r : Expression) (i : ℕ)
    (fs : Networks Expression) (p : TimedList) (d : ℕ) → SameRoute A D (route_in E r) (route_in E r) → i + members fs ≤ 64
    → EnvironmentTyped Ps Os E → AllTyped ExpressionTyped AnyType Ps Os fs D B → TypedSamples A p → EnvironmentTyped Qs Rs F
    → EnvironmentTyped Qs (Rs ++ copies (members fs) (arrow D B)) (freeze_members E r i fs p d F)
freeze_typed Ps Qs Os Rs A B D E F r i fs p d hr l e no_members_typed k h = subst (λ Os. EnvironmentTyped Qs Os F) (sym (append-nil Rs)) h
freeze_typed Ps Qs Os Rs A B D E F r i fs p d hr l e (and_member_typed {f = f} {fs = fs'} df ds) k h =
    let l' : i < 64 = omega arith in
    let l'' : suc i + members fs' ≤ 64 = omega arith in
    subst (λ Os. EnvironmentTyped Qs Os (freeze_members E r (suc i) fs' p d (frozen F f E (route (route_in E r) i p) d)))
    (append_assoc Rs (arrow D B ∷ []) (copies (members fs') (arrow D B)))
    (freeze_typed Ps Qs Os (Rs ++ arrow D B ∷ []) A B D E (frozen F f E (route (route_in E r) i p) d) r (suc i) fs' p d hr l'' e ds k
    (frozen_typed h e df (typed_route (route_in E r) (route_in E r) hr i l' p k)))

-- the route is the same, and typed, in alike environments
route_same : (Ps : List TypeTree) (Os : List Arrow) (A D : TypeTree) (r : Expression) (E F : Environment Expression)
    → ExpressionTyped r Ps (pair_ty A int_ty) D → AlikeEnvironments Ps Os E F → SameRoute A D (route_in E r) (route_in F r)
route_same Ps Os A D r E F dr a v h =
    (ap (λ ps. value_of r ps v) a.same_params, typed_value r Ps (pair_ty A int_ty) D dr (scope E).params v (params_typed Ps Os E a.one_typed) h)

module _ (Ps : List TypeTree) (Os : List Arrow) (A B C D : TypeTree) (r : Expression) (fs gs : Networks Expression)
    (dr : ExpressionTyped r Ps (pair_ty A int_ty) D) (few : members fs ≤ 64) (hs : TwinMembers Ps Os D B fs gs) where
  -- all members frozen in alike environments
  alike_members : (E F : Environment Expression) → AlikeEnvironments Ps Os E F → (c : Datum) (p : TimedList) (d : ℕ) → HasType c C → TypedSamples A p
      → AlikeEnvironments (Ps ++ C ∷ []) (Os ++ copies (members fs) (arrow D B)) (freeze_members E r 0 fs p d (param E c))
      (freeze_members F r 0 gs p d (param F c))
  alike_members E F a c p d h k =
      let route_E : SameRoute A D (route_in E r) (route_in E r) = λ v i. (refl, (route_same Ps Os A D r E F dr a v i).1) in
      let both : SameRoute A D (route_in E r) (route_in F r) = route_same Ps Os A D r E F dr a in
      let route_F : SameRoute A D (route_in F r) (route_in F r) = λ v i. (refl, subst (λ w. HasType w D) (both v i).0 (both v i).1) in
      let n : members gs ≡ members fs = twins_count Ps Os D B fs gs hs in
      let m : length (meanings value_of fs (scope E)) ≡ members fs = count_meanings fs (scope E) in
      let l : 0 + members fs ≤ 64 = omega arith in
      let l' : 0 + members gs ≤ 64 = omega arith in
      let l'' : 0 + length (meanings value_of fs (scope E)) ≤ 64 = omega arith in
      let in_E = frozen_in E r 0 fs p d (param E c) in
      let in_F = frozen_in F r 0 gs p d (param F c) in
      let b : AlikeEnvironments (Ps ++ C ∷ []) Os (param E c) (param F c) = alike_param Ps Os E F C c a h in
      let olds : AllOlds (Os ++ copies (members fs) (arrow D B)) ((scope E).olds ++ freeze_all (route_in E r) 0 (meanings value_of fs (scope E)) p d)
      ((scope F).olds ++ freeze_all (route_in F r) 0 (meanings value_of gs (scope F)) p d) =
      AllOlds-append Os (copies (members fs) (arrow D B)) (scope E).olds (scope F).olds (freeze_all (route_in E r) 0 (meanings value_of fs (scope E)) p d)
      (freeze_all (route_in F r) 0 (meanings value_of gs (scope F)) p d) (olds_alike Ps Os E F a)
      (subst (λ j. AllOlds (copies j (arrow D B)) (freeze_all (route_in E r) 0 (meanings value_of fs (scope E)) p d)
      (freeze_all (route_in F r) 0 (meanings value_of gs (scope F)) p d)) m
      (AllOlds-frozen_all (route_in E r) (route_in F r) both 0 (meanings value_of fs (scope E)) (meanings value_of gs (scope F)) l''
      (twins_at Ps Os D B fs gs E F hs a) p d k)) in
      alike_by_olds (Ps ++ C ∷ []) (Os ++ copies (members fs) (arrow D B)) (freeze_members E r 0 fs p d (param E c)) (freeze_members F r 0 gs p d (param F c))
      (freeze_typed Ps (Ps ++ C ∷ []) Os Os A B D E (param E c) r 0 fs p d route_E l a.one_typed (twins_left Ps Os D B fs gs hs) k b.one_typed)
      (subst (λ j. EnvironmentTyped (Ps ++ C ∷ []) (Os ++ copies j (arrow D B)) (freeze_members F r 0 gs p d (param F c))) n
      (freeze_typed Ps (Ps ++ C ∷ []) Os Os A B D F (param F c) r 0 gs p d route_F l' a.other_typed (twins_right Ps Os D B fs gs hs) k b.other_typed))
      (ap (λ ctx. ctx.params) in_E ∙ b.same_params ∙ sym (ap (λ ctx. ctx.params) in_F))
      (subst₂ (AllOlds (Os ++ copies (members fs) (arrow D B))) (sym (ap (λ ctx. ctx.olds) in_E)) (sym (ap (λ ctx. ctx.olds) in_F)) olds)

  pub p_switch_same : (e e' t t' : Network Expression) → NetTyped Ps Os e (pair_ty A (list_ty B)) (event_ty C)
      → NetTyped (Ps ++ C ∷ []) (Os ++ copies (members fs) (arrow D B)) t A (list_ty B) → SameOutputs Ps Os (pair_ty A (list_ty B)) e e'
      → SameOutputs (Ps ++ C ∷ []) (Os ++ copies (members fs) (arrow D B)) A t t' → SameOutputs Ps Os A (p_switch r fs e t) (p_switch r gs e' t')
  p_switch_same e e' t t' de dt se st E F a xs j =
      let both : SameRoute A D (route_in E r) (route_in F r) = route_same Ps Os A D r E F dr a in
      let m : length (meanings value_of fs (scope E)) ≡ members fs = count_meanings fs (scope E) in
      let l : 0 + length (meanings value_of fs (scope E)) ≤ 64 = omega arith in
      let f : SignalFunction = collect (route_in E r) (meanings value_of fs (scope E)) in
      let g : SignalFunction = collect (route_in F r) (meanings value_of gs (scope F)) in
      let hf : SameAt A (list_ty B) f g =
      SameAt-in_parallel (route_each (route_in E r) 0 (meanings value_of fs (scope E))) (route_each (route_in F r) 0 (meanings value_of gs (scope F)))
      (AllSameAt-routes (route_in E r) (route_in F r) both 0 (meanings value_of fs (scope E)) (meanings value_of gs (scope F)) l
      (twins_at Ps Os D B fs gs E F hs a)) in
      (SameAt-switch_at {C = C} f g (watch f (outputs_of e E)) (watch g (outputs_of e' F))
      (λ c p d. meaning value_of t (with_olds (with_param (scope E) c) (freeze_all (route_in E r) 0 (meanings value_of fs (scope E)) p d)))
      (λ c p d. meaning value_of t' (with_olds (with_param (scope F) c) (freeze_all (route_in F r) 0 (meanings value_of gs (scope F)) p d))) hf
      (SameAt-watching f g (outputs_of e E) (outputs_of e' F) hf (same_at Ps Os (pair_ty A (list_ty B)) (event_ty C) e e' E F de se a))
      (λ c p d h k. subst₂ (λ X Y. SameAt A (list_ty B) (meaning value_of t X) (meaning value_of t' Y)) (frozen_in E r 0 fs p d (param E c))
      (frozen_in F r 0 gs p d (param F c))
      (same_at (Ps ++ C ∷ []) (Os ++ copies (members fs) (arrow D B)) A (list_ty B) t t' (freeze_members E r 0 fs p d (param E c))
      (freeze_members F r 0 gs p d (param F c)) dt st (alike_members E F a c p d h k)))).same xs j
