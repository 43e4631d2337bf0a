-- Both sides of each law do the same where they are typed alike in one scope.
use Rattle.std.proofs.Common.{◌≡◌, ℕ, suc, List, [], ◌∷◌, ◌++◌, length, refl, sym, ap, ◌∙◌}
use mathlib.Core.Path.{fun_ext}
use Rattle.sample_core.specs.Datum.{Datum, unit}
use Rattle.sample_core.specs.TypeTree.{TypeTree, unit_ty, pair_ty}
use Rattle.sample_core.specs.HasType.{unit_has, TypedParams}
use Rattle.leaf_core.specs.Expression.{Expression, pair_expr}
use Rattle.leaf_core.specs.ExpressionValue.{value_of}
use Rattle.leaf_core.specs.ExpressionTyping.{ExpressionTyped, pair_typed, then_typed, fst_typed, input_typed}
use Rattle.leaf_core.proofs.Soundness.{typed_value}
use Rattle.net_meaning.specs.SignalFunction.{SignalFunction, TimedList, IsSignalFunction, seq_function, switch_function, r_switch_function}
use Rattle.net_tree.specs.Network.{Timing, Network, arr, seq, first, i_pre, delay, at_once, delayed, switch, r_switch, k_switch, old}
use Rattle.net_meaning.specs.Meaning.{Context, meaning, with_param}
use Rattle.net_meaning.specs.Typing.{Arrow, TypedSamples, arr_typed, seq_typed, i_pre_typed, delay_typed, switch_typed}
use Rattle.net_meaning.specs.TypedNetwork.{NetTyped}
use Rattle.net_meaning.specs.Sameness.{AllOlds, no_olds, and_old, SameNet, context}
use Rattle.net_meaning.specs.AlikeEnvironments.{SameOutputs}
use Rattle.net_meaning.proofs.Cells.{IsSignal-delay_value, IsSignal-previous_of}
use Rattle.net_meaning.proofs.Plain.{AllSignals}
use Rattle.net_meaning.proofs.Meanings.{IsSignal-meaning}
use Rattle.net_meaning.proofs.SameNets.{signals_right, same-from_law}
use Rattle.net_meaning.proofs.StreamLaws.{same-outputs}
use Rattle.law_rules.specs.NetworkLaw.{NetworkLaw, swap, left_by, law_l1, law_l2, law_l3, law_l4, law_l5, law_l6, law_l7, law_l8, law_l9, law_l10, law_l11, law_l12, law_l13, law_l14, law_l15, law_l16, law_l17, law_l18, law_l19, law_l20, law_l21, law_l22, law_l23, law_l24, law_l25, law_l26, law_l27, law_l28, law_l29, law_l30, law_l31, law_l32, law_l33, law_l34, law_l35, law_l36, law_l37, law_l38, law_l39, law_l40, law_l41, law_l42, law_l43, law_l44, law_l45, law_l46, law_l47, law_l48, law_l49, law_l50, law_l51, law_l52, law_l53, law_l54, law_l55, law_l56, law_l57, law_l58, law_l59, law_l60, law_l61, law_l62, law_l63, law_l64, law_l65}
use Rattle.law_rules.proofs.Scopes.{value-stays}
use Rattle.law_rules.proofs.SomeLaws.{switching_on-old}
use Rattle.law_rules.proofs.CellLaws.{delayed-pair, previous_of-pair}
use Rattle.law_rules.proofs.SwitchLaws.{pointwise, sequence-switching, sequence-restarting, switching-pointwise, switching-same, restarting-pointwise}
use Rattle.law_rules.proofs.NetworkLaws.{AlikeNets, at, into, law_1, law_2, law_3, law_4, law_5, law_6, law_7, law_8, law_9, law_10, law_11, law_13, law_14, law_15, law_16, law_17, law_18, law_19, law_20, law_21, law_22, law_23, law_24, law_25, law_26, laws_31_32, laws_33_34, laws_35_54, law_37, law_39, law_40, law_41, law_42, law_43, law_44, law_46, law_47, law_48, law_49, law_50, law_51, law_52, law_53, law_58, law_59, law_60, law_61, law_62, law_63, signal}

-- the two networks mean the same in each scope that these types describe
abbrev SameIn : List TypeTree → List Arrow → TypeTree → Network Expression → Network Expression → Type 0
SameIn Ps Os A l r = (ps : List Datum) (os : List SignalFunction) → TypedParams Ps ps → AllOlds Os os os → (xs : TimedList) → TypedSamples A xs
    → meaning value_of l (context ps os) xs ≡ meaning value_of r (context ps os) xs

-- what holds in every context holds in these
everywhere : (Ps : List TypeTree) (Os : List Arrow) (A : TypeTree) (l r : Network Expression) → AlikeNets l r → SameIn Ps Os A l r
everywhere Ps Os A l r law ps os k a xs j = law (context ps os) (signals_right os os a) xs

-- an expression that is typed here has the same values in a continuation
abbrev Steady : Expression → Context → Type 0
Steady h E = (c : Datum) → value_of h (E.params ++ c ∷ []) ≡ value_of h E.params

steady : (h : Expression) (Ps : List TypeTree) (A B : TypeTree) → ExpressionTyped h Ps A B → (ps : List Datum) (os : List SignalFunction) → TypedParams Ps ps → Steady h (context ps os)
steady h Ps A B d ps os k = λ c. value-stays ps (c ∷ []) h Ps A B d k

continues : (t : Network Expression) (E : Context) → AllSignals E.olds → (c : Datum) → IsSignalFunction (into t E c)
continues t E s c = IsSignal-meaning value_of t (with_param E c) s

-- `arr h` before or after a continuation
before-into : (h : Expression) (t : Network Expression) (E : Context) → Steady h E → ◌≡◌ {A = Datum → SignalFunction} (λ c. seq_function (pointwise (value_of h E.params)) (into t E c)) (λ c. into (seq (arr h) t) E c)
before-into h t E k = fun_ext λ c. ap (λ g. seq_function (pointwise g) (into t E c)) (sym (k c))

after-into : (h : Expression) (t : Network Expression) (E : Context) → Steady h E → ◌≡◌ {A = Datum → SignalFunction} (λ c. seq_function (into t E c) (pointwise (value_of h E.params))) (λ c. into (seq t (arr h)) E c)
after-into h t E k = fun_ext λ c. ap (λ g. seq_function (into t E c) (pointwise g)) (sym (k c))

laws_27_28 : (tm : Timing) (h : Expression) (f t : Network Expression) (E : Context) → Steady h E
    → meaning value_of (seq (arr h) (switch tm f t)) E ≡ meaning value_of (switch tm (seq (arr h) f) (seq (arr h) t)) E
laws_27_28 tm h f t E k =
    sequence-switching tm (value_of h E.params) (meaning value_of f E) (into t E)
    ∙ ap (switch_function tm (meaning value_of (seq (arr h) f) E)) (before-into h t E k)

laws_29_30 : (tm : Timing) (h : Expression) (f t : Network Expression) (E : Context) → AllSignals E.olds → Steady h E
    → meaning value_of (seq (switch tm f t) (arr h)) E ≡ meaning value_of (switch tm (seq f (arr (left_by h))) (seq t (arr h))) E
laws_29_30 tm h f t E s k =
    switching-pointwise tm (value_of h E.params) (meaning value_of f E) (into t E) (signal f E s) (continues t E s)
    ∙ ap (switch_function tm (meaning value_of (seq f (arr (left_by h))) E)) (after-into h t E k)

laws_36_45 : (tm : Timing) (h : Expression) (f t : Network Expression) (E : Context) → AllSignals E.olds → Steady h E
    → meaning value_of (seq (r_switch tm f t) (arr h)) E ≡ meaning value_of (r_switch tm (seq f (arr h)) (seq t (arr h))) E
laws_36_45 tm h f t E s k =
    restarting-pointwise tm (value_of h E.params) (meaning value_of f E) (into t E) (signal f E s) (continues t E s)
    ∙ ap (r_switch_function tm (meaning value_of (seq f (arr h)) E)) (after-into h t E k)

laws_56_57 : {A B : TypeTree} (tm : Timing) (h : Expression) (f t : Network Expression) (E : Context) → Steady h E → (xs : TimedList) → TypedSamples (pair_ty A B) xs
    → meaning value_of (seq (arr (left_by h)) (r_switch tm f t)) E xs ≡ meaning value_of (r_switch tm (seq (arr h) f) (seq (arr h) t)) E xs
laws_56_57 tm h f t E k xs j =
    sequence-restarting tm (value_of h E.params) (meaning value_of f E) (into t E) xs j
    ∙ at xs (ap (r_switch_function tm (meaning value_of (seq (arr h) f) E)) (before-into h t E k))

laws_64_65 : (tm : Timing) (e v : Expression) (E : Context) → Steady e E → meaning value_of (switch tm (arr (pair_expr e v)) (arr e)) E ≡ meaning value_of (arr e) E
laws_64_65 tm e v E k =
    ap (switch_function tm (meaning value_of (arr (pair_expr e v)) E)) (fun_ext λ c. ap pointwise (k c))
    ∙ switching-same tm (value_of e E.params) (value_of v E.params)

-- the network that is frozen is the one of number n where n are in scope before
law_38 : (n : ℕ) (f e : Network Expression) (E : Context) → AllSignals E.olds → length E.olds ≡ n → (xs : TimedList) → meaning value_of (k_switch f e (old n)) E xs ≡ meaning value_of f E xs
law_38 n f e E s h xs =
    ap (λ m. meaning value_of (k_switch f e (old m)) E xs) (sym h)
    ∙ switching_on-old E.olds (meaning value_of f E) (meaning value_of e E) (signal f E s) (signal e E s) xs

how-many : {Os : List Arrow} (os qs : List SignalFunction) → AllOlds Os os qs → length os ≡ length Os
how-many os qs no_olds = refl
how-many os qs (and_old {fs = fs} {gs = gs} sf sg h a) = ap suc (how-many fs gs a)

-- L12: the sample before may be no pair but for its type
law_12 : (Ps : List TypeTree) (Os : List Arrow) (A B : TypeTree) (c d : Expression) → NetTyped Ps Os (i_pre (pair_expr c d)) A B
    → SameIn Ps Os A (i_pre (pair_expr c d)) (seq (first (i_pre c)) (seq (arr swap) (seq (first (i_pre d)) (arr swap))))
law_12 Ps Os A B c d (i_pre_typed (pair_typed {B = C} {C = D} hc hd)) ps os k a xs j =
    previous_of-pair {A = C} {B = D} (value_of c ps unit) (value_of d ps unit) xs (IsSignal-previous_of (value_of c ps unit)) (IsSignal-previous_of (value_of d ps unit))
    (typed_value (pair_expr c d) Ps unit_ty A (pair_typed hc hd) ps unit k unit_has) j

-- L55, likewise
law_55 : (Ps : List TypeTree) (Os : List Arrow) (A B : TypeTree) (q : ℕ) (c d : Expression) → NetTyped Ps Os (delay q (pair_expr c d)) A B
    → SameIn Ps Os A (delay q (pair_expr c d)) (seq (first (delay q c)) (seq (arr swap) (seq (first (delay q d)) (arr swap))))
law_55 Ps Os A B q c d (delay_typed l m (pair_typed {B = C} {C = D} hc hd)) ps os k a xs j =
    delayed-pair {A = C} {B = D} q (value_of c ps unit) (value_of d ps unit) xs (IsSignal-delay_value q (value_of c ps unit)) (IsSignal-delay_value q (value_of d ps unit))
    (typed_value (pair_expr c d) Ps unit_ty A (pair_typed hc hd) ps unit k unit_has) j

same-in : (law olds : ℕ) (Ps : List TypeTree) (Os : List Arrow) (A B : TypeTree) (l r : Network Expression) → NetworkLaw law olds l r → length Os ≡ olds → NetTyped Ps Os l A B → SameIn Ps Os A l r
same-in law olds Ps Os A B l r law_l1 n d = everywhere Ps Os A l r (law_1 r)
same-in law olds Ps Os A B l r law_l2 n d = everywhere Ps Os A l r (law_2 r)
same-in law olds Ps Os A B l r (law_l3 {f = f} {g = g} {h = h}) n d = everywhere Ps Os A l r (law_3 f g h)
same-in law olds Ps Os A B l r (law_l4 {f = f} {g = g}) n d = everywhere Ps Os A l r (law_4 f g)
same-in law olds Ps Os A B l r (law_l5 {f = f}) n d = everywhere Ps Os A l r (law_5 f)
same-in law olds Ps Os A B l r (law_l6 {f = f} {g = g}) n d = everywhere Ps Os A l r (law_6 f g)
same-in law olds Ps Os A B l r (law_l7 {f = f} {g = g}) n d = everywhere Ps Os A l r (law_7 f g)
same-in law olds Ps Os A B l r (law_l8 {f = f}) n d = everywhere Ps Os A l r (law_8 f)
same-in law olds Ps Os A B l r (law_l9 {f = f}) n d = everywhere Ps Os A l r (law_9 f)
same-in law olds Ps Os A B l r (law_l10 {f = f} {g = g} {h = h}) n d = everywhere Ps Os A l r (law_10 f g h)
same-in law olds Ps Os A B l r (law_l11 {c = c} {f = f}) n d = everywhere Ps Os A l r (law_11 c f)
same-in law olds Ps Os A B l r (law_l12 {c = c} {d = e}) n d = law_12 Ps Os A B c e d
same-in law olds Ps Os A B l r (law_l13 {c = c} {f = f} {h = h}) n d = everywhere Ps Os A l r (law_13 c f h)
same-in law olds Ps Os A B l r (law_l14 {c = c} {f = f} {h = h}) n d = everywhere Ps Os A l r (law_14 c f h)
same-in law olds Ps Os A B l r (law_l15 {d = e} {g = g} {f = f}) n d = everywhere Ps Os A l r (law_15 e g f)
same-in law olds Ps Os A B l r (law_l16 {c = c} {d = e} {f = f}) n d = everywhere Ps Os A l r (law_16 c e f)
same-in law olds Ps Os A B l r (law_l17 {c = c}) n d = everywhere Ps Os A l r (law_17 c r)
same-in law olds Ps Os A B l r (law_l18 {c = c} {e = e}) n d = everywhere Ps Os A l r (law_18 c e)
same-in law olds Ps Os A B l r (law_l19 {T = T} {c = c}) n d = everywhere Ps Os A l r (law_19 T c)
same-in law olds Ps Os A B l r (law_l20 {f = f} h) n d = everywhere Ps Os A l r (law_20 f r h)
same-in law olds Ps Os A B l r (law_l21 {q = q} {T = T} {c = c} {g = g}) n d = everywhere Ps Os A l r (law_21 q T c g)
same-in law olds Ps Os A B l r (law_l22 {q = q} {T = T} {c = c} {g = g}) n d = everywhere Ps Os A l r (law_22 q T c g)
same-in law olds Ps Os A B l r (law_l23 {T = T} {c = c} {g = g}) n d = everywhere Ps Os A l r (law_23 T c g)
same-in law olds Ps Os A B l r (law_l24 {T = T} {g = g} {h = h} {z = z}) n d = everywhere Ps Os A l r (law_24 T g h z)
same-in law olds Ps Os A B l r (law_l25 {e = e} {f = f}) n d = everywhere Ps Os A l r (law_25 e f)
same-in law olds Ps Os A B l r (law_l26 {q = q} {c = c} {f = f}) n d = everywhere Ps Os A l r (law_26 q c f)
same-in law olds Ps Os A B l r (law_l27 {h = h} {f = f} {t = t}) n (seq_typed (arr_typed {B = C} e) d) = λ ps os k a xs j. at xs (laws_27_28 at_once h f t (context ps os) (steady h Ps A C e ps os k))
same-in law olds Ps Os A B l r (law_l28 {h = h} {f = f} {t = t}) n (seq_typed (arr_typed {B = C} e) d) = λ ps os k a xs j. at xs (laws_27_28 delayed h f t (context ps os) (steady h Ps A C e ps os k))
same-in law olds Ps Os A B l r (law_l29 {h = h} {f = f} {t = t}) n (seq_typed d (arr_typed {A = C} e)) = λ ps os k a xs j. at xs (laws_29_30 at_once h f t (context ps os) (signals_right os os a) (steady h Ps C B e ps os k))
same-in law olds Ps Os A B l r (law_l30 {h = h} {f = f} {t = t}) n (seq_typed d (arr_typed {A = C} e)) = λ ps os k a xs j. at xs (laws_29_30 delayed h f t (context ps os) (signals_right os os a) (steady h Ps C B e ps os k))
same-in law olds Ps Os A B l r (law_l31 {C = C} {t = t}) n d = everywhere Ps Os A l r (laws_31_32 at_once C r t)
same-in law olds Ps Os A B l r (law_l32 {C = C} {t = t}) n d = everywhere Ps Os A l r (laws_31_32 delayed C r t)
same-in law olds Ps Os A B l r (law_l33 {f = f} {t = t}) n d = everywhere Ps Os A l r (laws_33_34 at_once f t)
same-in law olds Ps Os A B l r (law_l34 {f = f} {t = t}) n d = everywhere Ps Os A l r (laws_33_34 delayed f t)
same-in law olds Ps Os A B l r (law_l35 {C = C} {e = e} {f = f} {t = t}) n d = everywhere Ps Os A l r (laws_35_54 at_once C e f t)
same-in law olds Ps Os A B l r (law_l36 {h = h} {f = f} {t = t}) n (seq_typed d (arr_typed {A = C} e)) = λ ps os k a xs j. at xs (laws_36_45 at_once h f t (context ps os) (signals_right os os a) (steady h Ps C B e ps os k))
same-in law olds Ps Os A B l r (law_l37 {C = C} {t = t}) n d = everywhere Ps Os A l r (law_37 C r t)
same-in law olds Ps Os A B l r (law_l38 {e = e}) n d = λ ps os k a xs j. law_38 olds r e (context ps os) (signals_right os os a) (how-many os os a ∙ n) xs
same-in law olds Ps Os A B l r (law_l39 {C = C} {r = c} {fs = fs} {t = t} some few) n d = everywhere Ps Os A l r (law_39 C c fs t)
same-in law olds Ps Os A B l r (law_l40 {i = i} {d = e} {fs = fs} few h) n d = everywhere Ps Os A l r (law_40 i e fs r h)
same-in law olds Ps Os A B l r (law_l41 {h = h} {fs = fs} some few) n d = everywhere Ps Os A l r (law_41 h fs)
same-in law olds Ps Os A B l r (law_l42 {T = T} {es = es} some few) n d = everywhere Ps Os A l r (law_42 T es)
same-in law olds Ps Os A B l r (law_l43 {c = c} {d = e} {f = f}) n d = everywhere Ps Os A l r (law_43 c e f)
same-in law olds Ps Os A B l r (law_l44 {c = c} {f = f}) n d = everywhere Ps Os A l r (law_44 c f)
same-in law olds Ps Os A B l r (law_l45 {h = h} {f = f} {t = t}) n (seq_typed d (arr_typed {A = C} e)) = λ ps os k a xs j. at xs (laws_36_45 delayed h f t (context ps os) (signals_right os os a) (steady h Ps C B e ps os k))
same-in law olds Ps Os A B l r (law_l46 {C = C} {e = e} {m = m} {fs = fs} {t = t} some few) n d = everywhere Ps Os A l r (law_46 C e m fs t few)
same-in law olds Ps Os A B l r (law_l47 {c = c} {f = f}) n d = everywhere Ps Os A l r (law_47 c f)
same-in law olds Ps Os A B l r (law_l48 {f = f} {g = g}) n d = everywhere Ps Os A l r (law_48 f g)
same-in law olds Ps Os A B l r (law_l49 {c = c}) n d = everywhere Ps Os A l r (law_49 c)
same-in law olds Ps Os A B l r (law_l50 {c = c}) n d = everywhere Ps Os A l r (law_50 c)
same-in law olds Ps Os A B l r (law_l51 {Z = Z} {g = g} {z = z}) n d = everywhere Ps Os A l r (law_51 Z g z)
same-in law olds Ps Os A B l r (law_l52 {f = f}) n d = everywhere Ps Os A l r (law_52 f)
same-in law olds Ps Os A B l r (law_l53 {g = g} {z = z}) n d = everywhere Ps Os A l r (law_53 g z)
same-in law olds Ps Os A B l r (law_l54 {C = C} {e = e} {f = f} {t = t}) n d = everywhere Ps Os A l r (laws_35_54 delayed C e f t)
same-in law olds Ps Os A B l r (law_l55 {q = q} {c = c} {d = e}) n d = law_55 Ps Os A B q c e d
same-in law olds Ps Os A B l r (law_l56 {h = h} {f = f} {t = t}) n (seq_typed (arr_typed (pair_typed (then_typed {C = Z} (fst_typed {B = X} {C = Y} input_typed) e) i)) d) = λ ps os k a xs j. laws_56_57 {A = X} {B = Y} at_once h f t (context ps os) (steady h Ps X Z e ps os k) xs j
same-in law olds Ps Os A B l r (law_l57 {h = h} {f = f} {t = t}) n (seq_typed (arr_typed (pair_typed (then_typed {C = Z} (fst_typed {B = X} {C = Y} input_typed) e) i)) d) = λ ps os k a xs j. laws_56_57 {A = X} {B = Y} delayed h f t (context ps os) (steady h Ps X Z e ps os k) xs j
same-in law olds Ps Os A B l r (law_l58 {c = c} {f = f} {g = g}) n d = everywhere Ps Os A l r (law_58 c f g)
same-in law olds Ps Os A B l r (law_l59 {c = c} {f = f} {g = g}) n d = everywhere Ps Os A l r (law_59 c f g)
same-in law olds Ps Os A B l r (law_l60 {c = c} {f = f} {g = g}) n d = everywhere Ps Os A l r (law_60 c f g)
same-in law olds Ps Os A B l r (law_l61 {c = c} {d = e}) n d = everywhere Ps Os A l r (law_61 c e)
same-in law olds Ps Os A B l r (law_l62 {T = T} {c = c}) n d = everywhere Ps Os A l r (law_62 T c)
same-in law olds Ps Os A B l r law_l63 n d = everywhere Ps Os A l r law_63
same-in law olds Ps Os A B l r (law_l64 {e = e} {v = v}) n (switch_typed (arr_typed (pair_typed {B = C} h i)) d) = λ ps os k a xs j. at xs (laws_64_65 at_once e v (context ps os) (steady e Ps A C h ps os k))
same-in law olds Ps Os A B l r (law_l65 {e = e} {v = v}) n (switch_typed (arr_typed (pair_typed {B = C} h i)) d) = λ ps os k a xs j. at xs (laws_64_65 delayed e v (context ps os) (steady e Ps A C h ps os k))

pub same-sides : (law olds : ℕ) (Ps : List TypeTree) (Os : List Arrow) (A B : TypeTree) (l r : Network Expression) → NetworkLaw law olds l r → length Os ≡ olds → NetTyped Ps Os l A B → NetTyped Ps Os r A B
    → SameNet value_of Ps Os A B l r
same-sides law olds Ps Os A B l r is_law n dl dr = same-from_law value_of ExpressionTyped typed_value Ps Os A B l r dl dr (same-in law olds Ps Os A B l r is_law n dl)

pub same-side_outputs : (law olds : ℕ) (Ps : List TypeTree) (Os : List Arrow) (A B : TypeTree) (l r : Network Expression) → NetworkLaw law olds l r → length Os ≡ olds → NetTyped Ps Os l A B → NetTyped Ps Os r A B
    → SameOutputs Ps Os A l r
same-side_outputs law olds Ps Os A B l r is_law n dl dr = same-outputs Ps Os l r A B (same-sides law olds Ps Os A B l r is_law n dl dr)

-- the right side does the same as the left one
pub same-sides_back : (law olds : ℕ) (Ps : List TypeTree) (Os : List Arrow) (A B : TypeTree) (l r : Network Expression) → NetworkLaw law olds l r → length Os ≡ olds → NetTyped Ps Os l A B
    → NetTyped Ps Os r A B → SameNet value_of Ps Os A B r l
same-sides_back law olds Ps Os A B l r is_law n dl dr =
    let there : SameIn Ps Os A l r = same-in law olds Ps Os A B l r is_law n dl in
    same-from_law value_of ExpressionTyped typed_value Ps Os A B r l dr dl (λ ps os k a xs j. sym (there ps os k a xs j))
