-- The typings of a network at an input type all give one list of its expressions.
use Rattle.std.proofs.Common.{◌≡◌, ℕ, suc, List, [], ◌∷◌, ◌++◌, refl, ap, ap₂, ◌∙◌, subst}
use Rattle.sample_core.specs.TypeTree.{TypeTree, unit_ty, int_ty, pair_ty, event_ty, list_ty}
use Rattle.leaf_core.specs.Expression.{Expression}
use Rattle.leaf_core.specs.ExpressionTyping.{ExpressionTyped}
use Rattle.leaf_core.proofs.Uniqueness.{one_type}
use Rattle.net_tree.specs.Network.{Network, Networks}
use Rattle.net_meaning.specs.Typing.{Arrow, copies, members, LeafTyping, Typed, AllTyped, AnyType, arr_typed, seq_typed, first_typed, par_typed, loop_typed, i_pre_typed, delay_typed, hold_typed, accum_typed, after_typed, repeatedly_typed, time_typed, integral_typed, switch_typed, r_switch_typed, k_switch_typed, p_switch_typed, old_typed, initial_out_typed, initial_in_typed, rp_switch_typed, no_members_typed, and_member_typed}
use Rattle.net_syntax.specs.Leaves.{Need, need_at, leaves_by, member_leaves_by}
use Rattle.net_syntax.specs.TypingLaws.{OneListLaw}
use Rattle.net_meaning.proofs.Unique.{unique, all_unique}

abbrev pair_right : TypeTree → TypeTree
pair_right (pair_ty A B) = B
pair_right A = A

abbrev event_part : TypeTree → TypeTree
event_part (event_ty A) = A
event_part A = A

abbrev list_part : TypeTree → TypeTree
list_part (list_ty A) = A
list_part A = A

-- what is read off a thing stays the same as the thing goes along an equation
carried : {X : Type 0} {F : X → Type 0} {x y : X} (read : (z : X) → F z → List Need) → x ≡ y → (k : F x) → (m : F y) × (read x k ≡ read y m)
carried {F = F} {x = x} read e k = subst (λ z. (m : F z) × (read x k ≡ read z m)) e (k, refl)

pub through : {X : Type 0} {F : X → Type 0} {x y : X} {ns : List Need} (read : (z : X) → F z → List Need) → x ≡ y → (k : F x)
    → ((m : F y) → read y m ≡ ns) → read x k ≡ ns
through read e k s = let m = carried read e k in m.1 ∙ s m.0

module _ (T : LeafTyping Expression) (M : TypeTree → Type 0) (one : (e : Expression) (Ps : List TypeTree) (A B C : TypeTree) → T e Ps A B → T e Ps A C
    → B ≡ C) where
  abbrev At : List TypeTree → List Arrow → Network Expression → TypeTree → TypeTree → Type 0
  At = Typed T M

  mutual
    pub listed : (Ps : List TypeTree) (Os : List Arrow) (at : List ℕ) (net : Network Expression) (A B B' : TypeTree) (d : At Ps Os net A B)
        (k : At Ps Os net A B') → leaves_by at k ≡ leaves_by at d
    listed Ps Os at net A B B' (arr_typed {e = e} h) (arr_typed k) = ap (λ C. need_at at 0 e Ps A C ∷ []) (one e Ps A B' B k h)
    listed Ps Os at net A C C' (seq_typed {f = f} {g = g} {B = X} df dg) (seq_typed {B = Y} kf kg) =
        ap₂ ◌++◌ (listed Ps Os (at ++ 0 ∷ []) f A X Y df kf)
        (through {F = λ Z. At Ps Os g Z C'} (λ Z d. leaves_by (at ++ 1 ∷ []) d) (unique T one Ps Os f A Y X kf df) kg
        (λ m. listed Ps Os (at ++ 1 ∷ []) g X C C' dg m))
    listed Ps Os at net A B B' (first_typed {f = f} {A = X} {B = Y} df m) (first_typed {B = Z} kf n) = listed Ps Os (at ++ 0 ∷ []) f X Y Z df kf
    listed Ps Os at net A B B' (par_typed {fs = fs} {B = X} l u ds m) (par_typed {B = Y} l' u' ks n) = all_listed Ps Os at 0 fs A X Y ds ks
    listed Ps Os at net A B B' (loop_typed {c = c} {f = f} {C = C} h m df) (loop_typed {C = D} k n kf) =
        let same : D ≡ C = one c Ps unit_ty D C k h in
        ap₂ (λ Z ns. need_at at 0 c Ps unit_ty Z ∷ ns) same
        (through {F = λ Z. At Ps Os f (pair_ty A Z) (pair_ty B' Z)} (λ Z d. leaves_by (at ++ 1 ∷ []) d) same kf
        (λ o. listed Ps Os (at ++ 1 ∷ []) f (pair_ty A C) (pair_ty B C) (pair_ty B' C) df o))
    listed Ps Os at net A B B' (i_pre_typed h) (i_pre_typed k) = refl
    listed Ps Os at net A B B' (delay_typed l u h) (delay_typed l' u' k) = refl
    listed Ps Os at net A B B' (hold_typed h) (hold_typed k) = refl
    listed Ps Os at net A B B' (accum_typed {g = g} {z = z} {V = V} {Z = X} hz m hg n) (accum_typed {Z = Y} kz m' kg n') =
        ap (λ Z. need_at at 0 g Ps (pair_ty Z V) Z ∷ need_at at 1 z Ps unit_ty Z ∷ []) (one z Ps unit_ty Y X kz hz)
    listed Ps Os at net A B B' (after_typed {c = c} {C = C} u h m) (after_typed {C = D} u' k n) = ap (λ Z. need_at at 0 c Ps unit_ty Z ∷ [])
        (one c Ps unit_ty D C k h)
    listed Ps Os at net A B B' (repeatedly_typed {c = c} {C = C} l u h m) (repeatedly_typed {C = D} l' u' k n) = ap
        (λ Z. need_at at 0 c Ps unit_ty Z ∷ []) (one c Ps unit_ty D C k h)
    listed Ps Os at net A B B' time_typed time_typed = refl
    listed Ps Os at net A B B' integral_typed integral_typed = refl
    listed Ps Os at net A B B' (switch_typed {f = f} {t = t} {C = C} df dt) (switch_typed {C = D} kf kt) =
        let same : D ≡ C = ap (λ W. event_part (pair_right W)) (unique T one Ps Os f A (pair_ty B' (event_ty D)) (pair_ty B (event_ty C)) kf df) in
        ap₂ ◌++◌ (listed Ps Os (at ++ 0 ∷ []) f A (pair_ty B (event_ty C)) (pair_ty B' (event_ty D)) df kf)
        (through {F = λ Z. At (Ps ++ Z ∷ []) Os t A B'} (λ Z d. leaves_by (at ++ 1 ∷ []) d) same kt
        (λ m. listed (Ps ++ C ∷ []) Os (at ++ 1 ∷ []) t A B B' dt m))
    listed Ps Os at net A B B' (r_switch_typed {f = f} {t = t} {D = D} {C = C} df dt) (r_switch_typed kf kt) =
        ap₂ ◌++◌ (listed Ps Os (at ++ 0 ∷ []) f D B B' df kf) (listed (Ps ++ C ∷ []) Os (at ++ 1 ∷ []) t D B B' dt kt)
    listed Ps Os at net A B B' (k_switch_typed {f = f} {e = e} {t = t} {C = C} df m de dt) (k_switch_typed {C = D} kf n ke kt) =
        let out : B' ≡ B = unique T one Ps Os f A B' B kf df in
        let event = carried {F = λ Z. At Ps Os e (pair_ty A Z) (event_ty D)} (λ Z d. leaves_by (at ++ 1 ∷ []) d) out ke in
        let same : D ≡ C = ap event_part (unique T one Ps Os e (pair_ty A B) (event_ty D) (event_ty C) event.0 de) in
        let events = event.1 ∙ listed Ps Os (at ++ 1 ∷ []) e (pair_ty A B) (event_ty C) (event_ty D) de event.0 in
        let rest : leaves_by (at ++ 2 ∷ []) kt ≡ leaves_by (at ++ 2 ∷ []) dt =
        through {F = λ Z. At (Ps ++ D ∷ []) (Os ++ record { input = A; output = Z } ∷ []) t A Z} (λ Z d. leaves_by (at ++ 2 ∷ []) d) out kt
        (λ o. through {F = λ Z. At (Ps ++ Z ∷ []) (Os ++ record { input = A; output = B } ∷ []) t A B} (λ Z d. leaves_by (at ++ 2 ∷ []) d) same o
        (λ p. listed (Ps ++ C ∷ []) (Os ++ record { input = A; output = B } ∷ []) (at ++ 2 ∷ []) t A B B dt p)) in
        λ i. listed Ps Os (at ++ 0 ∷ []) f A B B' df kf i ++ events i ++ rest i
    listed Ps Os at net A B B' (p_switch_typed {r = r} {fs = fs} {e = e} {t = t} {B = X} {C = C} {D = D} l u m h ds n de dt)
        (p_switch_typed {B = Y} {C = C'} {D = E} l' u' m' k ks n' ke kt) =
        let routed : E ≡ D = one r Ps (pair_ty A int_ty) E D k h in
        let under = carried {F = λ Z. AllTyped T M Ps Os fs Z Y} (λ Z d. member_leaves_by at 1 d) routed ks in
        let out : Y ≡ X = all_unique T one Ps Os fs D Y X l under.0 ds in
        let all = under.1 ∙ all_listed Ps Os at 1 fs D X Y ds under.0 in
        let event = carried {F = λ Z. At Ps Os e (pair_ty A (list_ty Z)) (event_ty C')} (λ Z d. leaves_by (at ++ suc (members fs) ∷ []) d) out ke in
        let same : C' ≡ C = ap event_part (unique T one Ps Os e (pair_ty A (list_ty X)) (event_ty C') (event_ty C) event.0 de) in
        let events = event.1 ∙ listed Ps Os (at ++ suc (members fs) ∷ []) e (pair_ty A (list_ty X)) (event_ty C) (event_ty C') de event.0 in
        let rest : leaves_by (at ++ suc (suc (members fs)) ∷ []) kt ≡ leaves_by (at ++ suc (suc (members fs)) ∷ []) dt =
        through {F = λ Z. At (Ps ++ C' ∷ []) (Os ++ copies (members fs) (record { input = Z; output = Y })) t A (list_ty Y)}
        (λ Z d. leaves_by (at ++ suc (suc (members fs)) ∷ []) d) routed kt
        (λ o. through {F = λ Z. At (Ps ++ C' ∷ []) (Os ++ copies (members fs) (record { input = D; output = Z })) t A (list_ty Z)}
        (λ Z d. leaves_by (at ++ suc (suc (members fs)) ∷ []) d) out o
        (λ p. through {F = λ Z. At (Ps ++ Z ∷ []) (Os ++ copies (members fs) (record { input = D; output = X })) t A (list_ty X)}
        (λ Z d. leaves_by (at ++ suc (suc (members fs)) ∷ []) d) same p
        (λ q. listed (Ps ++ C ∷ []) (Os ++ copies (members fs) (record { input = D; output = X })) (at ++ suc (suc (members fs)) ∷ []) t A (list_ty X)
        (list_ty X) dt q))) in
        λ i. need_at at 0 r Ps (pair_ty A int_ty) (routed i) ∷ all i ++ events i ++ rest i
    listed Ps Os at net A B B' (old_typed i) (old_typed j) = refl
    listed Ps Os at net A B B' (initial_out_typed {c = c} {f = f} h df) (initial_out_typed k kf) =
        ap₂ (λ Z ns. need_at at 0 c Ps unit_ty Z ∷ ns) (one c Ps unit_ty B' B k h) (listed Ps Os (at ++ 1 ∷ []) f A B B' df kf)
    listed Ps Os at net A B B' (initial_in_typed {c = c} {f = f} h df) (initial_in_typed k kf) =
        ap (λ ns. need_at at 0 c Ps unit_ty A ∷ ns) (listed Ps Os (at ++ 1 ∷ []) f A B B' df kf)
    listed Ps Os at net A B B' (rp_switch_typed {fs = fs} {m = m} {t = t} {D = D} {B = X} {C = C} {V = V} l u ds h dt n)
        (rp_switch_typed {B = Y} {V = W} l' u' ks k kt n') =
        let same : W ≡ V = ap (λ Z. list_part (pair_right Z))
        (one m Ps C (pair_ty (list_ty int_ty) (list_ty W)) (pair_ty (list_ty int_ty) (list_ty V)) k h) in
        let rest : leaves_by (at ++ suc (members fs) ∷ []) kt ≡ leaves_by (at ++ suc (members fs) ∷ []) dt =
        through {F = λ Z. At (Ps ++ Z ∷ []) Os t D Y} (λ Z d. leaves_by (at ++ suc (members fs) ∷ []) d) same kt
        (λ o. listed (Ps ++ V ∷ []) Os (at ++ suc (members fs) ∷ []) t D X Y dt o) in
        λ i. all_listed Ps Os at 0 fs D X Y ds ks i
        ++ need_at at (members fs) m Ps C (pair_ty (list_ty int_ty) (list_ty (same i))) ∷ rest i

    all_listed : (Ps : List TypeTree) (Os : List Arrow) (at : List ℕ) (k : ℕ) (fs : Networks Expression) (A B B' : TypeTree)
        (ds : AllTyped T M Ps Os fs A B) (ks : AllTyped T M Ps Os fs A B') → member_leaves_by at k ks ≡ member_leaves_by at k ds
    all_listed Ps Os at k fs A B B' no_members_typed no_members_typed = refl
    all_listed Ps Os at k fs A B B' (and_member_typed {f = f} {fs = gs} df ds) (and_member_typed kf ks) =
        ap₂ ◌++◌ (listed Ps Os (at ++ k ∷ []) f A B B' df kf) (all_listed Ps Os at (suc k) gs A B B' ds ks)

pub one-list : OneListLaw
one-list Ps Os at net A B C d k = listed ExpressionTyped AnyType one_type Ps Os at net A C B k d
