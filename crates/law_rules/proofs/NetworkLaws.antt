-- Each law's two sides have one meaning: most in every context, the rest where both are typed.
use Rattle.std.proofs.Common.{List, Some, [], ap, ap₂, arith, drop, length, pos, refl, suc, sym, ℕ, ◌∙◌, ◌∷◌, ◌≡◌, ◌≤◌, subst}
use Rattle.law_rules.specs.NetworkLaw.{SeesSteps, accumulated_next, after_sees, assoc, behind_routes, copied, each_after, each_arr, event_by, held_accumulated, held_next, left_by, repeatedly_sees, right_by, swap, cross, time_sees, unassoc}
use Rattle.leaf_core.specs.Expression.{Expression, Expressions, event_expr, fst, input, int_expr, list_expr, no_event_expr, nth, pair_expr, then_expr, unit_expr}
use Rattle.leaf_core.specs.ExpressionValue.{value_of}
use Rattle.net_meaning.specs.Meaning.{Context, meaning, meanings, with_olds, with_param}
use Rattle.net_tree.specs.Network.{Timing, Network, Networks, accum_by, after, and_member, arr, delay, first, hold, i_pre, initial_in, initial_out, integral, k_switch, loop_pre, no_members, p_switch, par, r_switch, repeatedly, rp_switch, seq, switch, time}
use Rattle.net_meaning.specs.Typing.{members}
use Rattle.net_tree.specs.Place.{member}
use Rattle.net_meaning.specs.SignalFunction.{IsSignalFunction, SignalFunction, TimedList, initial_out_function, par_function, route_each, with_first, with_values}
use Rattle.sample_core.specs.Datum.{Datum, int, pair, unit}
use Rattle.sample_core.specs.TypeTree.{TypeTree}
use Rattle.law_rules.proofs.ArrowLaws
use Rattle.law_rules.proofs.CellLaws
use Rattle.law_rules.proofs.CellLoops
use Rattle.law_rules.proofs.LoopLaws
use Rattle.law_rules.proofs.ParallelLaws
use Rattle.law_rules.proofs.SomeLaws.{seq_function_assoc, sequence-feedback}
use Rattle.law_rules.proofs.SwitchLaws.{choosing-quiet, on_left-switching, pointwise-before, restarting-quiet, switching-quiet, switching_all-quiet, switching_on-quiet}
use Rattle.net_meaning.proofs.Meanings.{IsSignal-meaning}
use Rattle.net_meaning.proofs.Plain.{AllSignals, IsSignal-on_left}
use Rattle.net_meaning.proofs.SameForms.{count_meanings}

-- one meaning in every context
abbrev pub AlikeNets : Network Expression → Network Expression → Type 0
AlikeNets f g = (E : Context) → AllSignals E.olds → (xs : TimedList) → meaning value_of f E xs ≡ meaning value_of g E xs

pub signal : (f : Network Expression) (E : Context) → AllSignals E.olds → IsSignalFunction (meaning value_of f E)
signal f E s = IsSignal-meaning value_of f E s

-- equal functions at an argument
pub at : {f g : SignalFunction} (xs : TimedList) → f ≡ g → f xs ≡ g xs
at xs e = ap (λ h. h xs) e

-- a continuation is entered with one parameter more
abbrev pub into : Network Expression → Context → Datum → SignalFunction
into t E c = meaning value_of t (with_param E c)

pub law_1 : (f : Network Expression) → AlikeNets (seq (arr input) f) f
law_1 f E s xs = ArrowLaws.sample-sequence (meaning value_of f E) xs

pub law_2 : (f : Network Expression) → AlikeNets (seq f (arr input)) f
law_2 f E s xs = ArrowLaws.sequence-sample (meaning value_of f E) (signal f E s) xs

pub law_3 : (f g h : Network Expression) → AlikeNets (seq (seq f g) h) (seq f (seq g h))
law_3 f g h E s xs = seq_function_assoc (meaning value_of f E) (meaning value_of g E) (meaning value_of h E) (signal f E s) xs

pub law_4 : (f g : Expression) → AlikeNets (seq (arr f) (arr g)) (arr (then_expr f g))
law_4 f g E s xs = ArrowLaws.applied-applied (value_of f E.params) (value_of g E.params) xs

pub law_5 : (f : Expression) → AlikeNets (first (arr f)) (arr (left_by f))
law_5 f E s xs = ArrowLaws.on_left-applied (value_of f E.params) xs

pub law_6 : (f g : Network Expression) → AlikeNets (first (seq f g)) (seq (first f) (first g))
law_6 f g E s xs = ArrowLaws.on_left-sequence (meaning value_of f E) (meaning value_of g E) (signal f E s) xs

pub law_7 : (f : Network Expression) (g : Expression) → AlikeNets (seq (first f) (arr (right_by g))) (seq (arr (right_by g)) (first f))
law_7 f g E s xs = ArrowLaws.on_left-right (value_of g E.params) (meaning value_of f E) (signal f E s) xs

pub law_8 : (f : Network Expression) → AlikeNets (seq (first f) (arr (fst input))) (seq (arr (fst input)) f)
law_8 f E s xs = ArrowLaws.on_left-left (meaning value_of f E) (signal f E s) xs

pub law_9 : (f : Network Expression) → AlikeNets (seq (first (first f)) (arr assoc)) (seq (arr assoc) (first f))
law_9 f E s xs = ArrowLaws.on_left-on_left (meaning value_of f E) (signal f E s) (IsSignal-on_left (meaning value_of f E) (signal f E s)) xs

pub law_10 : (f g : Expression) (h : Network Expression) → AlikeNets (seq (arr f) (seq (arr g) h)) (seq (arr (then_expr f g)) h)
law_10 f g h E s xs = ArrowLaws.applied-applied-sequence (value_of f E.params) (value_of g E.params) (meaning value_of h E) xs

pub law_11 : (c f : Expression) → AlikeNets (seq (i_pre c) (arr f)) (seq (arr f) (i_pre (then_expr c f)))
law_11 c f E s xs = CellLaws.previous_of-applied (value_of f E.params) (value_of c E.params unit) xs

pub law_13 : (c : Expression) (f h : Network Expression) → AlikeNets (seq h (loop_pre c f)) (loop_pre c (seq (first h) f))
law_13 c f h E s xs = sequence-feedback (value_of c E.params unit) (meaning value_of h E) (meaning value_of f E) (signal h E s) (signal f E s) xs

pub law_14 : (c : Expression) (f h : Network Expression) → AlikeNets (seq (loop_pre c f) h) (loop_pre c (seq f (first h)))
law_14 c f h E s xs = LoopLaws.feedback-sequence (value_of c E.params unit) (meaning value_of f E) (meaning value_of h E) (signal f E s) (signal h E s) xs

pub law_15 : (d g : Expression) (f : Network Expression) → AlikeNets (loop_pre d (seq (arr (right_by g)) f)) (loop_pre (then_expr d g) (seq f (arr (right_by g))))
law_15 d g f E s xs = LoopLaws.feedback-slide (value_of d E.params unit) (value_of g E.params) (meaning value_of f E) (signal f E s) xs

pub law_16 : (c d : Expression) (f : Network Expression) → AlikeNets (loop_pre c (loop_pre d f)) (loop_pre (pair_expr c d) (seq (arr unassoc) (seq f (arr assoc))))
law_16 c d f E s xs = LoopLaws.feedback-feedback (value_of c E.params unit) (value_of d E.params unit) (meaning value_of f E) (signal f E s) xs

pub law_17 : (c : Expression) (f : Network Expression) → AlikeNets (loop_pre c (first f)) f
law_17 c f E s xs = LoopLaws.feedback-on_left (value_of c E.params unit) (meaning value_of f E) (signal f E s) xs

pub law_18 : (c e : Expression) → AlikeNets (seq (arr (event_expr e)) (hold c)) (arr e)
law_18 c e E s xs = CellLaws.held-event (value_of e E.params) (value_of c E.params unit) xs

pub law_19 : (t : TypeTree) (c : Expression) → AlikeNets (seq (arr (no_event_expr t)) (hold c)) (arr (then_expr unit_expr c))
law_19 t c E s xs = CellLaws.held-no_event (value_of c E.params unit) xs

pub law_20 : (f s : Network Expression) → SeesSteps s → AlikeNets (seq f s) s
law_20 f s (after_sees {q = q} {c = c}) E k xs = CellLaws.sequence-reached q (value_of c E.params unit) (meaning value_of f E) (signal f E k) xs
law_20 f s (repeatedly_sees {q = q} {c = c}) E k xs = CellLaws.sequence-repeated q (value_of c E.params unit) (meaning value_of f E) (signal f E k) xs
law_20 f s time_sees E k xs = CellLaws.sequence-clock (meaning value_of f E) (signal f E k) xs

pub law_21 : (q : ℕ) (t : TypeTree) (c g : Expression) → AlikeNets (seq (after q c) (arr (event_by t g))) (after q (then_expr c g))
law_21 q t c g E s xs = CellLaws.reached-carrying (value_of g E.params) q (value_of c E.params unit) xs

pub law_22 : (q : ℕ) (t : TypeTree) (c g : Expression) → AlikeNets (seq (repeatedly q c) (arr (event_by t g))) (repeatedly q (then_expr c g))
law_22 q t c g E s xs = CellLaws.repeated-carrying (value_of g E.params) q (value_of c E.params unit) xs

pub law_23 : (t : TypeTree) (c g : Expression) → AlikeNets (seq (arr (event_by t g)) (hold (then_expr c g))) (seq (hold c) (arr g))
law_23 t c g E s xs = CellLaws.carrying-held (value_of g E.params) (value_of c E.params unit) xs

pub law_24 : (t : TypeTree) (g h z : Expression) → AlikeNets (seq (arr (event_by t g)) (accum_by h z)) (accum_by (then_expr (right_by g) h) z)
law_24 t g h z E s xs = CellLaws.carrying-accumulation (value_of g E.params) (value_of h E.params) (value_of z E.params unit) xs

pub law_25 : (e : Expression) (f : Network Expression) → AlikeNets (seq f (arr (then_expr unit_expr e))) (arr (then_expr unit_expr e))
law_25 e f E s xs = ArrowLaws.sequence-constant (value_of e E.params unit) (meaning value_of f E) (signal f E s) xs

pub law_26 : (q : ℕ) (c f : Expression) → AlikeNets (seq (delay q c) (arr f)) (seq (arr f) (delay q (then_expr c f)))
law_26 q c f E s xs = CellLaws.delayed-applied (value_of f E.params) q (value_of c E.params unit) xs

pub laws_31_32 : (tm : Timing) (C : TypeTree) (f t : Network Expression) → AlikeNets (switch tm (seq f (arr (pair_expr input (no_event_expr C)))) t) f
laws_31_32 tm C f t E s xs = at xs (switching-quiet tm (meaning value_of f E) (into t E) (signal f E s))

pub laws_33_34 : (tm : Timing) (f t : Network Expression) → AlikeNets (first (switch tm f t)) (switch tm (seq (first f) (arr cross)) (first t))
laws_33_34 tm f t E s xs = at xs (on_left-switching tm (meaning value_of f E) (into t E) (signal f E s))

pub laws_35_54 : (tm : Timing) (C : TypeTree) (e : Expression) (f t : Network Expression) → AlikeNets (seq (arr (pair_expr e (no_event_expr C))) (r_switch tm f t)) (seq (arr e) f)
laws_35_54 tm C e f t E s xs = at xs (restarting-quiet tm (value_of e E.params) (meaning value_of f E) (into t E))

pub law_37 : (C : TypeTree) (f t : Network Expression) → AlikeNets (k_switch f (arr (no_event_expr C)) t) f
law_37 C f t E s xs = at xs (switching_on-quiet (meaning value_of f E) (λ c o. meaning value_of t (with_olds (with_param E c) (o ∷ []))))

-- the members of `parB` behind their routes are the routed members
meanings-behind_routes : (r : Expression) (i : ℕ) (fs : Networks Expression) (E : Context) → meanings value_of (behind_routes r i fs) E ≡ route_each (value_of r E.params) i (meanings value_of fs E)
meanings-behind_routes r i no_members E = refl
meanings-behind_routes r i (and_member f fs) E =
    ap₂ (λ g gs. g ∷ gs) (pointwise-before (λ a. value_of r E.params (pair a (int (pos i)))) (meaning value_of f E)) (meanings-behind_routes r (suc i) fs E)

pub law_39 : (C : TypeTree) (r : Expression) (fs : Networks Expression) (t : Network Expression) → AlikeNets (p_switch r fs (arr (no_event_expr C)) t) (par (behind_routes r 0 fs))
law_39 C r fs t E s xs = at xs
    (switching_all-quiet (value_of r E.params) (meanings value_of fs E) (λ c os. meaning value_of t (with_olds (with_param E c) os))
    ∙ ap par_function (sym (meanings-behind_routes r 0 fs E)))

pub law_40 : (i : ℕ) (d : Expression) (fs : Networks Expression) (f : Network Expression) → member fs i ≡ Some f → AlikeNets (seq (par fs) (arr (nth input (int_expr (pos i)) d))) f
law_40 i d fs f h E s xs = ParallelLaws.member_alone fs i f E (value_of d E.params) (signal f E s) h xs

pub law_41 : (h : Network Expression) (fs : Networks Expression) → AlikeNets (seq h (par fs)) (par (each_after h fs))
law_41 h fs E s xs = ParallelLaws.sequence-in_parallel h fs E (signal h E s) xs

pub law_42 : (t : TypeTree) (es : Expressions) → AlikeNets (arr (list_expr t es)) (par (each_arr es))
law_42 t es E s xs = ParallelLaws.applied-list es E xs

pub law_43 : (c d : Expression) (f : Network Expression) → AlikeNets (initial_out c (initial_out d f)) (initial_out c f)
law_43 c d f E s [] = refl
law_43 c d f E s (x ∷ xs) = refl

pub law_44 : (c f : Expression) → AlikeNets (initial_in c (arr f)) (initial_out (then_expr c f) (arr f))
law_44 c f E s [] = refl
law_44 c f E s (x ∷ xs) = refl

pub law_46 : (C : TypeTree) (e m : Expression) (fs : Networks Expression) (t : Network Expression) → members fs ≤ 64
    → AlikeNets (seq (arr (pair_expr e (no_event_expr C))) (rp_switch fs m t)) (seq (arr e) (par fs))
law_46 C e m fs t few E s xs =
    at xs (choosing-quiet (value_of e E.params) (value_of m E.params) (meanings value_of fs E) (into t E) (subst (λ n. n ≤ 64) (sym (count_meanings fs E)) few))

pub law_47 : (c : Expression) (f : Network Expression) → AlikeNets (first (loop_pre c f)) (loop_pre c (seq (arr cross) (seq (first f) (arr cross))))
law_47 c f E s xs = LoopLaws.on_left-feedback (value_of c E.params unit) (meaning value_of f E) (signal f E s) xs

pub law_48 : (f g : Network Expression) → AlikeNets (seq (first f) (seq (arr swap) (seq (first g) (arr swap)))) (seq (seq (arr swap) (seq (first g) (arr swap))) (first f))
law_48 f g E s xs = ArrowLaws.exchanged (meaning value_of f E) (meaning value_of g E) (signal f E s) (signal g E s) xs

pub law_49 : (c : Expression) → AlikeNets (i_pre c) (loop_pre c (arr swap))
law_49 c E s xs = CellLoops.previous_of-looped (value_of c E.params unit) xs

pub law_50 : (c : Expression) → AlikeNets (hold c) (loop_pre c (arr held_next))
law_50 c E s xs = CellLoops.held-looped (value_of c E.params unit) xs

pub law_51 : (t : TypeTree) (g z : Expression) → AlikeNets (loop_pre z (arr (accumulated_next t g))) (accum_by g z)
law_51 t g z E s xs = sym (CellLoops.accumulation-looped (value_of g E.params) (value_of z E.params unit) xs)

pub law_52 : (f : Network Expression) → AlikeNets (seq f (arr copied)) (seq (arr copied) (seq (first f) (seq (arr swap) (seq (first f) (arr swap)))))
law_52 f E s xs = ArrowLaws.sequence-doubled (meaning value_of f E) (signal f E s) xs

pub law_53 : (g z : Expression) → AlikeNets (seq (accum_by g z) (hold z)) (loop_pre z (arr (held_accumulated g)))
law_53 g z E s xs = CellLoops.accumulated-held_looped (value_of g E.params) (value_of z E.params unit) xs

-- the values with another first one, whatever came before
with_values-first : (c : Datum) (xs : TimedList) (ys : List Datum) → with_values (with_first c xs) ys ≡ with_values xs ys
with_values-first c [] ys = refl
with_values-first c (x ∷ xs) [] = refl
with_values-first c (x ∷ xs) (y ∷ ys) = refl

first-with_values : (c : Datum) (g : SignalFunction) (x : ℕ × Datum) (xs : TimedList) (ys : List Datum) → length ys ≡ suc (length xs)
    → initial_out_function c g (with_values (x ∷ xs) ys) ≡ c ∷ drop 1 (g (with_values (x ∷ xs) ys))
first-with_values c g x xs [] e = absurd (omega arith)
first-with_values c g x xs (y ∷ ys) e = refl

pub law_58 : (c : Expression) (f g : Network Expression) → AlikeNets (initial_out c (seq f g)) (seq f (initial_out c g))
law_58 c f g E s [] = refl
law_58 c f g E s (x ∷ xs) = sym (first-with_values (value_of c E.params unit) (meaning value_of g E) x xs (meaning value_of f E (x ∷ xs)) ((signal f E s).sized (x ∷ xs)))

pub law_59 : (c : Expression) (f g : Network Expression) → AlikeNets (initial_in c (seq f g)) (seq (initial_in c f) g)
law_59 c f g E s xs =
    let v : Datum = value_of c E.params unit in
    ap (meaning value_of g E) (with_values-first v xs (meaning value_of f E (with_first v xs)))

with_first-values : (c : Datum) (x : ℕ × Datum) (xs : TimedList) (ys : List Datum) → length ys ≡ suc (length xs) → with_values (x ∷ xs) (c ∷ drop 1 ys) ≡ with_first c (with_values (x ∷ xs) ys)
with_first-values c x xs [] e = absurd (omega arith)
with_first-values c x xs (y ∷ ys) e = refl

pub law_60 : (c : Expression) (f g : Network Expression) → AlikeNets (seq (initial_out c f) g) (seq f (initial_in c g))
law_60 c f g E s [] = ap (meaning value_of g E) refl
law_60 c f g E s (x ∷ xs) = ap (meaning value_of g E) (with_first-values (value_of c E.params unit) x xs (meaning value_of f E (x ∷ xs)) ((signal f E s).sized (x ∷ xs)))

pub law_61 : (c d : Expression) → AlikeNets (initial_out c (i_pre d)) (i_pre c)
law_61 c d E s xs = CellLaws.first-previous_of (value_of c E.params unit) (value_of d E.params unit) xs

pub law_62 : (t : TypeTree) (c : Expression) → AlikeNets (initial_out (event_expr c) (arr (no_event_expr t))) (after 0 c)
law_62 t c E s xs = CellLaws.reached-at_once (value_of c E.params unit) xs

pub law_63 : AlikeNets (seq (arr (then_expr unit_expr (int_expr (pos 1)))) integral) time
law_63 E s xs = CellLaws.integral-of_one xs
