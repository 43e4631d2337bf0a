-- The expressions that the walk over a network adds are those of its typing.
use Rattle.std.proofs.Common.{◌≡◌, ℕ, suc, ◌+◌, ◌≤◌, List, [], ◌∷◌, ◌++◌, Option, Some, None, option_map, Ok, Err, refl, sym, ap, ◌∙◌, subst, append-nil, append_assoc, add-one, arith}
use Rattle.std.specs.Prelude.{if◌then◌else◌}
use Rattle.std.specs.Result.{result_ok}
use Rattle.std.proofs.lemmas.Bool.{le-leb}
use Rattle.std.proofs.lemmas.Option.{none-some, same_Some}
use Rattle.sample_core.specs.TypeTree.{TypeTree, unit_ty, int_ty, pair_ty, event_ty, list_ty}
use Rattle.leaf_core.specs.Expression.{Expression}
use Rattle.leaf_core.specs.ExpressionTyping.{ExpressionTyped}
use Rattle.leaf_core.specs.ExpressionLimits.{ExpressionTypedWithin}
use Rattle.leaf_core.specs.KeyTree.{KeyTree}
use Rattle.leaf_core.specs.ExpressionCheck.{TypeAnswer}
use Rattle.leaf_core.proofs.Exactness.{type_answer-exact}
use Rattle.net_tree.specs.Network.{Network, Networks, and_member}
use Rattle.net_tree.specs.Place.{◌>>=◌}
use Rattle.net_meaning.specs.Typing.{Arrow, arrow, members, LeafTyping, Typed, AllTyped, arr_typed, seq_typed, first_typed, par_typed, loop_typed, i_pre_typed, delay_typed, hold_typed, accum_typed, after_typed, repeatedly_typed, time_typed, integral_typed, switch_typed, r_switch_typed, k_switch_typed, p_switch_typed, old_typed, initial_out_typed, initial_in_typed, rp_switch_typed, no_members_typed, and_member_typed}
use Rattle.net_meaning.specs.TypedNetwork.{TypedNetwork}
use Rattle.net_meaning.specs.NetworkLimits.{NetTypedWithin}
use Rattle.net_syntax.specs.Leaves.{Need, need_at, leaves_by, member_leaves_by, LeavesOf}
use Rattle.net_syntax.specs.LeafWalk.{Found, add_leaf, as_event, as_list, few, left_found, under_choice, under_event, under_switch, walk, walk_all, walk_routed}
use Rattle.net_syntax.specs.Scopes.{InScope, in_scope, empty, and_olds}
use Rattle.net_syntax.specs.StandingWalk.{type_in}
use Rattle.net_syntax.proofs.FoundTypes.{MembersWithin, onward, old_found}
use Rattle.net_meaning.proofs.TypingMap.{map_typed, map_all_typed}

ok_of : {r : TypeAnswer} {B : TypeTree} → result_ok r ≡ Some B → r ≡ Ok B
ok_of {r = Ok C} {B = B} e = ap Ok (same_Some C B e)
ok_of {r = Err f} {B = B} e = absurd (none-some B e)

-- the type that the checking walk answers is the expression's
pub answered_key : (S : InScope) (A B : TypeTree) (e : Expression)
    (k : KeyTree) → k ≡ record { expr = e; params = S.params; input = A } → type_in S A e ≡ Some B → ∥ ExpressionTyped k.expr k.params k.input B ∥₁
answered_key S A B e k is h =
    subst (λ o. ∥ ExpressionTyped o.expr o.params o.input B ∥₁) (sym is) ∣ ((type_answer-exact S.params A e B).0 (ok_of h)).checked.given ∣₁

-- the type of a typed expression is found, and it is added
type_known : (S : InScope) (A : TypeTree) (e : Expression) (B : TypeTree) → ExpressionTypedWithin e S.params A B → type_in S A e ≡ Some B
type_known S A e B h = ap result_ok ((type_answer-exact S.params A e B).1 h)

leaf_added : (P : List ℕ) (k : ℕ) (S : InScope) (A : TypeTree) (e : Expression) (B : TypeTree) (ns : List Need) → ExpressionTypedWithin e S.params A B
    → add_leaf P k S A e ns ≡ Some (B, ns ++ need_at P k e S.params A B ∷ [])
leaf_added P k S A e B ns h = ap (option_map (λ C. (C, ns ++ need_at P k e S.params A C ∷ []))) (type_known S A e B h)

few_found : (fs : Networks Expression) → members fs ≤ 64 → few fs ≡ Some (members fs)
few_found fs h = ap (λ b. if b then Some (members fs) else None) (le-leb (members fs) 64 h)

-- needs in another grouping
regrouped : (B : TypeTree) {a b : List Need} → a ≡ b → ◌≡◌ {A = Option Found} (Some (B, a)) (Some (B, b))
regrouped B e = ap (λ (ns : List Need). Some (B, ns)) e

in_front : (a b c d : List Need) → ((a ++ b) ++ c) ++ d ≡ a ++ ((b ++ c) ++ d)
in_front a b c d = simp append_assoc

in_turn : (a b c d : List Need) → ((a ++ b) ++ c) ++ d ≡ a ++ (b ++ (c ++ d))
in_turn a b c d = simp append_assoc

before_four : (a b c d e : List Need) → (((a ++ b) ++ c) ++ d) ++ e ≡ a ++ (((b ++ c) ++ d) ++ e)
before_four a b c d e = simp append_assoc

-- what comes after two steps
onward_twice : {X Y Z : Type 0} {o : Option X} {x : X} {y : Y} {r : Option Z} (j : X → Option Y) (k : Y → Option Z) → o ≡ Some x → j x ≡ Some y → k y ≡ r
    → ((o >>= j) >>= k) ≡ r
onward_twice j k is goes js = onward k (onward j is goes) js

-- a member before others that output the same
before_others : (P : List ℕ) (k : ℕ) (S : InScope) (A B C : TypeTree) (f : Network Expression) (fs : Networks Expression) (ns its others : List Need)
    → walk (P ++ k ∷ []) S A f ns ≡ Some (B, ns ++ its) → walk_all P (suc k) S A fs B (ns ++ its) ≡ Some (B, (ns ++ its) ++ others)
    → walk_all P k S A (and_member f fs) C ns ≡ Some (B, ns ++ (its ++ others))
before_others P k S A B C f fs ns its others is goes =
    onward (λ (r : Found). walk_all P (k + 1) S A fs r.0 r.1) is
    (ap (λ j. walk_all P j S A fs B (ns ++ its)) (add-one k) ∙ goes ∙ regrouped B (append_assoc ns its others))

-- the walk over a typed network finds its output, and adds the expressions of its typing
mutual
  pub walk_found : {Ps : List TypeTree} {Os : List Arrow} {f : Network Expression} {A B : TypeTree} (P : List ℕ) (ns : List Need) (d : NetTypedWithin Ps Os f A B)
      → walk P (in_scope Ps Os) A f ns ≡ Some (B, ns ++ leaves_by P d)
  walk_found P ns (arr_typed {Ps = Ps} {Os = Os} {e = e} {A = A} {B = B} h) = leaf_added P 0 (in_scope Ps Os) A e B ns h
  walk_found P ns (seq_typed {Ps = Ps} {Os = Os} {g = g} {C = C} df dg) =
      onward (λ (r : Found). walk (P ++ 1 ∷ []) (in_scope Ps Os) r.0 g r.1) (walk_found (P ++ 0 ∷ []) ns df)
      (walk_found (P ++ 1 ∷ []) (ns ++ leaves_by (P ++ 0 ∷ []) df) dg ∙ regrouped C (append_assoc ns (leaves_by (P ++ 0 ∷ []) df) (leaves_by (P ++ 1 ∷ []) dg)))
  walk_found P ns (first_typed {C = C} df m) = ap (option_map (λ (r : Found). (pair_ty r.0 C, r.1))) (walk_found (P ++ 0 ∷ []) ns df)
  walk_found P ns (par_typed {Ps = Ps} {Os = Os} {fs = fs} {A = A} l u ds m) =
      onward (λ (n : ℕ). option_map as_list (walk_all P 0 (in_scope Ps Os) A fs unit_ty ns)) (few_found fs u) (ap (option_map as_list) (all_found P 0 unit_ty ns l ds))
  walk_found P ns (loop_typed {Ps = Ps} {Os = Os} {c = c} {f = f} {A = A} {B = B} {C = C} h m d) =
      let S : InScope = in_scope Ps Os in
      let one : List Need = need_at P 0 c Ps unit_ty C ∷ [] in
      onward (λ (r : Found). walk (P ++ 1 ∷ []) S (pair_ty A r.0) f r.1 >>= left_found) (leaf_added P 0 S unit_ty c C ns h)
      (onward left_found (walk_found (P ++ 1 ∷ []) (ns ++ one) d) (regrouped B (append_assoc ns one (leaves_by (P ++ 1 ∷ []) d))))
  walk_found P ns (i_pre_typed {Ps = Ps} {Os = Os} {c = c} {A = A} h) = leaf_added P 0 (in_scope Ps Os) unit_ty c A ns h
  walk_found P ns (delay_typed {Ps = Ps} {Os = Os} {c = c} {A = A} l u h) = leaf_added P 0 (in_scope Ps Os) unit_ty c A ns h
  walk_found P ns (hold_typed {Ps = Ps} {Os = Os} {c = c} {A = A} h) = leaf_added P 0 (in_scope Ps Os) unit_ty c A ns h
  walk_found P ns (accum_typed {Ps = Ps} {Os = Os} {g = g} {z = z} {V = V} {Z = Z} h m k n) =
      let S : InScope = in_scope Ps Os in
      let one : List Need = need_at P 0 g Ps (pair_ty Z V) Z ∷ [] in
      let two : List Need = need_at P 1 z Ps unit_ty Z ∷ [] in
      onward (λ (X : TypeTree). add_leaf P 0 S (pair_ty X V) g ns >>= (λ (r : Found). option_map as_event (add_leaf P 1 S unit_ty z r.1)))
      (type_known S unit_ty z Z h)
      (onward (λ (r : Found). option_map as_event (add_leaf P 1 S unit_ty z r.1)) (leaf_added P 0 S (pair_ty Z V) g Z ns k)
      (ap (option_map as_event) (leaf_added P 1 S unit_ty z Z (ns ++ one) h) ∙ regrouped (event_ty Z) (append_assoc ns one two)))
  walk_found P ns (after_typed {Ps = Ps} {Os = Os} {c = c} {C = C} u h m) = ap (option_map as_event) (leaf_added P 0 (in_scope Ps Os) unit_ty c C ns h)
  walk_found P ns (repeatedly_typed {Ps = Ps} {Os = Os} {c = c} {C = C} l u h m) = ap (option_map as_event) (leaf_added P 0 (in_scope Ps Os) unit_ty c C ns h)
  walk_found P ns time_typed = regrouped int_ty (sym (append-nil ns))
  walk_found P ns integral_typed = regrouped int_ty (sym (append-nil ns))
  walk_found P ns (switch_typed {Ps = Ps} {Os = Os} {t = t} {A = A} {B = B} {C = C} df dt) =
      let S : InScope = in_scope Ps Os in
      onward_twice (under_switch S) (λ r. walk (P ++ 1 ∷ []) r.0 A t r.1) (walk_found (P ++ 0 ∷ []) ns df) refl
      (walk_found (P ++ 1 ∷ []) (ns ++ leaves_by (P ++ 0 ∷ []) df) dt ∙ regrouped B (append_assoc ns (leaves_by (P ++ 0 ∷ []) df) (leaves_by (P ++ 1 ∷ []) dt)))
  walk_found P ns (r_switch_typed {Ps = Ps} {Os = Os} {t = t} {D = D} {B = B} {C = C} df dt) =
      onward (λ (r : Found). walk (P ++ 1 ∷ []) (in_scope (Ps ++ C ∷ []) Os) D t r.1) (walk_found (P ++ 0 ∷ []) ns df)
      (walk_found (P ++ 1 ∷ []) (ns ++ leaves_by (P ++ 0 ∷ []) df) dt ∙ regrouped B (append_assoc ns (leaves_by (P ++ 0 ∷ []) df) (leaves_by (P ++ 1 ∷ []) dt)))
  walk_found P ns (k_switch_typed {Ps = Ps} {Os = Os} {e = e} {t = t} {A = A} {B = B} {C = C} df m de dt) =
      let S : InScope = in_scope Ps Os in
      let one : List Need = leaves_by (P ++ 0 ∷ []) df in
      let two : List Need = leaves_by (P ++ 1 ∷ []) de in
      let three : List Need = leaves_by (P ++ 2 ∷ []) dt in
      onward (λ (r : Found). walk (P ++ 1 ∷ []) S (pair_ty A r.0) e r.1 >>= under_event S 1 (arrow A r.0) >>= (λ q. walk (P ++ 2 ∷ []) q.0 A t q.1))
      (walk_found (P ++ 0 ∷ []) ns df)
      (onward_twice (under_event S 1 (arrow A B)) (λ q. walk (P ++ 2 ∷ []) q.0 A t q.1) (walk_found (P ++ 1 ∷ []) (ns ++ one) de) refl
      (walk_found (P ++ 2 ∷ []) ((ns ++ one) ++ two) dt ∙ regrouped B (in_front ns one two three)))
  walk_found P ns (p_switch_typed {Ps = Ps} {Os = Os} {r = r} {fs = fs} {e = e} {t = t} {A = A} {B = B} {C = C} {D = D} l u m h ds n de dt) =
      let S : InScope = in_scope Ps Os in
      let k : ℕ = members fs in
      let one : List Need = need_at P 0 r Ps (pair_ty A int_ty) D ∷ [] in
      let two : List Need = member_leaves_by P 1 ds in
      let three : List Need = leaves_by (P ++ suc k ∷ []) de in
      let four : List Need = leaves_by (P ++ suc (suc k) ∷ []) dt in
      let given : walk_routed P S A r fs ns ≡ Some (arrow D B, (ns ++ one) ++ two) =
      onward (λ (d : Found). option_map (λ (b : Found). (arrow d.0 b.0, b.1)) (walk_all P 1 S d.0 fs unit_ty d.1)) (leaf_added P 0 S (pair_ty A int_ty) r D ns h)
      (ap (option_map (λ (b : Found). (arrow D b.0, b.1))) (all_found P 1 unit_ty (ns ++ one) l ds)) in
      let watched : walk (P ++ (k + 1) ∷ []) S (pair_ty A (list_ty B)) e ((ns ++ one) ++ two) ≡ Some (event_ty C, ((ns ++ one) ++ two) ++ three) =
      ap (λ j. walk (P ++ j ∷ []) S (pair_ty A (list_ty B)) e ((ns ++ one) ++ two)) (add-one k) ∙ walk_found (P ++ suc k ∷ []) ((ns ++ one) ++ two) de in
      let next : InScope = in_scope (Ps ++ C ∷ []) (and_olds S k (arrow D B)).olds in
      let after : walk (P ++ (k + 2) ∷ []) next A t (((ns ++ one) ++ two) ++ three) ≡ Some (list_ty B, ns ++ (((one ++ two) ++ three) ++ four)) =
      ap (λ j. walk (P ++ j ∷ []) next A t (((ns ++ one) ++ two) ++ three)) (omega arith)
      ∙ walk_found (P ++ suc (suc k) ∷ []) (((ns ++ one) ++ two) ++ three) dt ∙ regrouped (list_ty B) (before_four ns one two three four) in
      onward
      (λ (n : ℕ). walk_routed P S A r fs ns
      >>= (λ (o : Arrow × List Need). walk (P ++ (n + 1) ∷ []) S (pair_ty A (list_ty o.0.output)) e o.1 >>= under_event S n o.0
      >>= (λ q. walk (P ++ (n + 2) ∷ []) q.0 A t q.1))) (few_found fs u)
      (onward
      (λ (o : Arrow × List Need). walk (P ++ (k + 1) ∷ []) S (pair_ty A (list_ty o.0.output)) e o.1 >>= under_event S k o.0
      >>= (λ q. walk (P ++ (k + 2) ∷ []) q.0 A t q.1)) given
      (onward_twice (under_event S k (arrow D B)) (λ q. walk (P ++ (k + 2) ∷ []) q.0 A t q.1) watched refl after))
  walk_found P ns (old_typed {Os = Os} {k = k} {A = A} {B = B} o) =
      ap (option_map (λ C. (C, ns))) (old_found Os k A B o) ∙ regrouped B (sym (append-nil ns))
  walk_found P ns (initial_out_typed {Ps = Ps} {Os = Os} {c = c} {f = f} {A = A} {B = B} h df) =
      let one : List Need = need_at P 0 c Ps unit_ty B ∷ [] in
      onward (λ (r : Found). walk (P ++ 1 ∷ []) (in_scope Ps Os) A f r.1) (leaf_added P 0 (in_scope Ps Os) unit_ty c B ns h)
      (walk_found (P ++ 1 ∷ []) (ns ++ one) df ∙ regrouped B (append_assoc ns one (leaves_by (P ++ 1 ∷ []) df)))
  walk_found P ns (initial_in_typed {Ps = Ps} {Os = Os} {c = c} {f = f} {A = A} {B = B} h df) =
      let one : List Need = need_at P 0 c Ps unit_ty A ∷ [] in
      onward (λ (r : Found). walk (P ++ 1 ∷ []) (in_scope Ps Os) A f r.1) (leaf_added P 0 (in_scope Ps Os) unit_ty c A ns h)
      (walk_found (P ++ 1 ∷ []) (ns ++ one) df ∙ regrouped B (append_assoc ns one (leaves_by (P ++ 1 ∷ []) df)))
  walk_found P ns (rp_switch_typed {Ps = Ps} {Os = Os} {fs = fs} {m = m} {t = t} {D = D} {B = B} {C = C} {V = V} l u ds h dt n) =
      let S : InScope = in_scope Ps Os in
      let k : ℕ = members fs in
      let one : List Need = member_leaves_by P 0 ds in
      let two : List Need = need_at P k m Ps C (pair_ty (list_ty int_ty) (list_ty V)) ∷ [] in
      let three : List Need = leaves_by (P ++ suc k ∷ []) dt in
      let after : walk (P ++ (k + 1) ∷ []) (in_scope (Ps ++ V ∷ []) Os) D t ((ns ++ one) ++ two) ≡ Some (B, ns ++ (one ++ (two ++ three))) =
      ap (λ j. walk (P ++ j ∷ []) (in_scope (Ps ++ V ∷ []) Os) D t ((ns ++ one) ++ two)) (add-one k)
      ∙ walk_found (P ++ suc k ∷ []) ((ns ++ one) ++ two) dt ∙ regrouped B (in_turn ns one two three) in
      onward
      (λ (n : ℕ). walk_all P 0 S D fs unit_ty ns
      >>= (λ (b : Found). add_leaf P n S C m b.1 >>= under_choice S >>= (λ q. option_map as_list (walk (P ++ (n + 1) ∷ []) q.0 D t q.1)))) (few_found fs u)
      (onward (λ (b : Found). add_leaf P k S C m b.1 >>= under_choice S >>= (λ q. option_map as_list (walk (P ++ (k + 1) ∷ []) q.0 D t q.1)))
      (all_found P 0 unit_ty ns l ds)
      (onward_twice (under_choice S) (λ q. option_map as_list (walk (P ++ (k + 1) ∷ []) q.0 D t q.1)) (leaf_added P k S C m _ (ns ++ one) h) refl
      (ap (option_map as_list) after)))

  -- of members, whose output is the last one's
  all_found : {Ps : List TypeTree} {Os : List Arrow} {fs : Networks Expression} {A B : TypeTree} (P : List ℕ) (k : ℕ) (C : TypeTree) (ns : List Need) → 1 ≤ members fs
      → (ds : MembersWithin Ps Os fs A B) → walk_all P k (in_scope Ps Os) A fs C ns ≡ Some (B, ns ++ member_leaves_by P k ds)
  all_found P k C ns l no_members_typed = absurd (omega (arith, l))
  all_found {Ps = Ps} {Os = Os} {A = A} {B = B} P k C ns l (and_member_typed {f = f} {fs = fs} d ds) =
      before_others P k (in_scope Ps Os) A B C f fs ns (leaves_by (P ++ k ∷ []) d) (member_leaves_by P (suc k) ds) (walk_found (P ++ k ∷ []) ns d)
      (rest_found P (suc k) (ns ++ leaves_by (P ++ k ∷ []) d) ds)

  rest_found : {Ps : List TypeTree} {Os : List Arrow} {fs : Networks Expression} {A B : TypeTree} (P : List ℕ) (k : ℕ) (ns : List Need)
      → (ds : MembersWithin Ps Os fs A B) → walk_all P k (in_scope Ps Os) A fs B ns ≡ Some (B, ns ++ member_leaves_by P k ds)
  rest_found {B = B} P k ns no_members_typed = regrouped B (sym (append-nil ns))
  rest_found {Ps = Ps} {Os = Os} {A = A} {B = B} P k ns (and_member_typed {f = f} {fs = fs} d ds) =
      before_others P k (in_scope Ps Os) A B B f fs ns (leaves_by (P ++ k ∷ []) d) (member_leaves_by P (suc k) ds) (walk_found (P ++ k ∷ []) ns d)
      (rest_found P (suc k) (ns ++ leaves_by (P ++ k ∷ []) d) ds)

-- a typing under weaker tests has the same expressions
module _ {T U : LeafTyping Expression} {M N : TypeTree → Type 0} (u : (e : Expression) (Ps : List TypeTree) (A B : TypeTree) → T e Ps A B → U e Ps A B)
    (v : (A : TypeTree) → M A → N A) where
  mutual
    pub same_leaves : {Ps : List TypeTree} {Os : List Arrow} {net : Network Expression} {A B : TypeTree} (at : List ℕ) (d : Typed T M Ps Os net A B)
        → leaves_by at (map_typed u v d) ≡ leaves_by at d
    same_leaves at (arr_typed h) = refl
    same_leaves at (seq_typed f g) = λ i. same_leaves (at ++ 0 ∷ []) f i ++ same_leaves (at ++ 1 ∷ []) g i
    same_leaves at (first_typed f m) = same_leaves (at ++ 0 ∷ []) f
    same_leaves at (par_typed l h fs m) = same_member_leaves at 0 fs
    same_leaves at (loop_typed {Ps = Ps} {c = c} {C = C} h m f) = ap (λ o. need_at at 0 c Ps unit_ty C ∷ o) (same_leaves (at ++ 1 ∷ []) f)
    same_leaves at (i_pre_typed h) = refl
    same_leaves at (delay_typed l k h) = refl
    same_leaves at (hold_typed h) = refl
    same_leaves at (accum_typed h m k n) = refl
    same_leaves at (after_typed k h m) = refl
    same_leaves at (repeatedly_typed l k h m) = refl
    same_leaves at time_typed = refl
    same_leaves at integral_typed = refl
    same_leaves at (switch_typed f t) = λ i. same_leaves (at ++ 0 ∷ []) f i ++ same_leaves (at ++ 1 ∷ []) t i
    same_leaves at (r_switch_typed f t) = λ i. same_leaves (at ++ 0 ∷ []) f i ++ same_leaves (at ++ 1 ∷ []) t i
    same_leaves at (k_switch_typed f m e t) = λ i.
        same_leaves (at ++ 0 ∷ []) f i ++ same_leaves (at ++ 1 ∷ []) e i ++ same_leaves (at ++ 2 ∷ []) t i
    same_leaves at (p_switch_typed {Ps = Ps} {r = r} {fs = gs} {A = A} {D = D} l k m h fs n e t) = λ i.
        need_at at 0 r Ps (pair_ty A int_ty) D ∷ same_member_leaves at 1 fs i ++ same_leaves (at ++ suc (members gs) ∷ []) e i
        ++ same_leaves (at ++ suc (suc (members gs)) ∷ []) t i
    same_leaves at (old_typed o) = refl
    same_leaves at (initial_out_typed {Ps = Ps} {c = c} {B = B} h f) = ap (λ o. need_at at 0 c Ps unit_ty B ∷ o) (same_leaves (at ++ 1 ∷ []) f)
    same_leaves at (initial_in_typed {Ps = Ps} {c = c} {A = A} h f) = ap (λ o. need_at at 0 c Ps unit_ty A ∷ o) (same_leaves (at ++ 1 ∷ []) f)
    same_leaves at (rp_switch_typed {Ps = Ps} {fs = gs} {m = m} {C = C} {V = V} l k fs h t n) = λ i.
        same_member_leaves at 0 fs i ++ need_at at (members gs) m Ps C (pair_ty (list_ty int_ty) (list_ty V)) ∷ same_leaves (at ++ suc (members gs) ∷ []) t i

    same_member_leaves : {Ps : List TypeTree} {Os : List Arrow} {fs : Networks Expression} {A B : TypeTree} (at : List ℕ) (k : ℕ)
        (ds : AllTyped T M Ps Os fs A B) → member_leaves_by at k (map_all_typed u v ds) ≡ member_leaves_by at k ds
    same_member_leaves at k no_members_typed = refl
    same_member_leaves at k (and_member_typed f fs) = λ i. same_leaves (at ++ k ∷ []) f i ++ same_member_leaves at (suc k) fs i

-- of a whole network within the limits
pub whole_leaves : (t : TypedNetwork) (P : List ℕ) (S : InScope) (A : TypeTree) (f : Network Expression) (before now : List Need) (C : TypeTree) → P ≡ [] → S ≡ empty
    → A ≡ t.input → f ≡ t.net → before ≡ [] → NetTypedWithin [] [] t.net t.input t.output → walk P S A f before ≡ Some (C, now) → LeavesOf t now
whole_leaves t P S A f before now C p s a n none h is =
    let found : walk [] empty t.input t.net [] ≡ Some (C, now) = rw (p, s, a, n, none) at is in
    let both : (t.output, leaves_by [] h) ≡ (C, now) = same_Some _ _ (sym (walk_found [] [] h) ∙ found) in (
      map_typed (λ e Qs X Y f. f.checked.given) (λ X m. tt) h,
      sym (ap (λ (r : Found). r.1) both) ∙ sym (same_leaves (λ e Qs X Y f. f.checked.given) (λ X m. tt) [] h),
    )

-- so it has a type
pub whole_found : (t : TypedNetwork) (P : List ℕ) (S : InScope) (A : TypeTree) (f : Network Expression) (before : List Need) → P ≡ [] → S ≡ empty
    → A ≡ t.input → f ≡ t.net → before ≡ [] → NetTypedWithin [] [] t.net t.input t.output → walk P S A f before ≡ None → ⊥
whole_found t P S A f before p s a n none h is =
    let found : walk [] empty t.input t.net [] ≡ None = rw (p, s, a, n, none) at is in
    none-some _ (sym found ∙ walk_found [] [] h)
