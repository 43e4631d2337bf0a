-- The functions that a program calls.
use Rattle.std.proofs.Common.{◌≡◌, ◌+◌, ℕ, suc, true, false, if◌then◌else◌, List, [], ◌∷◌, ◌++◌, map, length, refl, ap, sym, ◌∙◌, append_assoc, arith}
use Rattle.std.proofs.lemmas.Grind.{common_steps}
use Rattle.sample_core.specs.TypeTree.{TypeTree}
use Rattle.std.proofs.lemmas.List.{map-append, length-map}
use Rattle.leaf_code.specs.Fitting.{Bounds}
use Rattle.c_meaning.specs.Object.{CType, number_type, i64}
use Rattle.c_meaning.specs.Syntax.{Parameter, Command, const_param, value_param, pointer_param}
use Rattle.c_meaning.specs.Syntax as C
use Rattle.c_text.specs.declared.tree.Function as V
use Rattle.c_text.specs.declared.tree.CType as Y
use Rattle.c_text.specs.Meant.{command_meant, function_meant, param_meant, type_meant}
use Rattle.c_leaf.specs.Representing.{c_type}
use Rattle.c_file.specs.FunctionC.{Callee}
use Rattle.c_leaf.specs.LeafC.{has_no_list}
use Rattle.c_leaf.specs.Within.{within_function}
use Rattle.c_file.specs.Compared.{number_among, with_type}
use Rattle.c_file.specs.ProgramC.{checked_step, init_function, state_type, step_function}
use Rattle.c_file.specs.Guarded.{and_guarded, guarded_step}
use Rattle.c_build.specs.declared.frame.Called.{Called}
use Rattle.c_build.specs.declared.ends.Whole.{Whole}
use Rattle.c_build.specs.Frames.{IsCallee, handed_rows}
use Rattle.c_build.specs.Growing.{IsWhole, ended}

-- a function is another where its parts are
pub function_same : (Ts : List CType) (f : V.Function) (F : C.Function)
    → map (param_meant Ts) f.params.items ≡ F.params → type_meant Ts f.result ≡ F.result
    → command_meant Ts f.body ≡ F.body → function_meant Ts f ≡ F
function_same Ts f F p r b =
    let m : List Parameter → CType → Command → C.Function =
    λ ps t c. record { params = ps; result = t; body = c } in
    ap (λ (ps : List Parameter). m ps (type_meant Ts f.result) (command_meant Ts f.body)) p
    ∙ (ap (λ (t : CType). m F.params t (command_meant Ts f.body)) r ∙ ap (m F.params F.result) b)

-- what a step is passed that is called from outside
pub handed_meant : (Ts : List CType) (n : Bounds) (c : Callee) (w : Whole) → IsWhole Ts n c w
    → map (param_meant Ts) (handed_rows w.state w.called)
    ≡ pointer_param (state_type n c.shape) ∷ value_param (number_type i64)
    ∷ const_param (c_type n c.input) ∷ pointer_param (c_type n c.output) ∷ []
handed_meant Ts n c w h =
    let m : CType → CType → CType → List Parameter =
    λ s a b. pointer_param s ∷ value_param (number_type i64) ∷ const_param a ∷ pointer_param b ∷ [] in
    ap (λ (s : CType). m s (type_meant Ts w.called.input) (type_meant Ts w.called.output)) h.state
    ∙ (ap (λ (a : CType). m (state_type n c.shape) a (type_meant Ts w.called.output)) h.callee.input
    ∙ ap (m (state_type n c.shape) (c_type n c.input)) h.callee.output)

-- functions with one more, with two more
pub and_one : (Ts : List CType) (fs gs : List V.Function) (f : V.Function) (F : C.Function)
    → gs ≡ fs ++ f ∷ [] → function_meant Ts f ≡ F
    → map (function_meant Ts) gs ≡ map (function_meant Ts) fs ++ F ∷ []
and_one Ts fs gs f F e h =
    ap (map (function_meant Ts)) e ∙ map-append (function_meant Ts) fs (f ∷ [])
    ∙ ap (λ G. map (function_meant Ts) fs ++ G ∷ []) h

-- two more
pub and_two : (Ts : List CType) (fs es gs : List V.Function) (f g : V.Function) (F G : C.Function)
    → es ≡ fs ++ f ∷ [] → function_meant Ts f ≡ F → gs ≡ es ++ g ∷ [] → function_meant Ts g ≡ G
    → map (function_meant Ts) gs ≡ map (function_meant Ts) fs ++ F ∷ G ∷ []
and_two Ts fs es gs f g F G ef hf eg hg =
    and_one Ts es gs g G eg hg
    ∙ (ap (λ (a : C.File). a ++ G ∷ []) (and_one Ts fs es f F ef hf)
    ∙ append_assoc (map (function_meant Ts) fs) (F ∷ []) (G ∷ []))

-- the functions of a program with the unchecked step
pub ended_plain : (Ts : List CType) (n : Bounds) (c : Callee) (fs es gs : List V.Function) (f g : V.Function)
    → es ≡ fs ++ f ∷ [] → function_meant Ts f ≡ init_function n c.shape
    → gs ≡ es ++ g ∷ [] → function_meant Ts g ≡ step_function n c
    → map (function_meant Ts) gs ≡ ended true n c (map (function_meant Ts) fs)
ended_plain Ts n c fs es gs f g ef hf eg hg =
    and_two Ts fs es gs f g (init_function n c.shape) (step_function n c) ef hf eg hg

-- with the guarded one
pub ended_guarded : (Ts : List CType) (n : Bounds) (c : Callee) (j : ℕ) (fs es gs hs : List V.Function)
    (f g : V.Function)
    → es ≡ fs ++ f ∷ [] → function_meant Ts f ≡ init_function n c.shape → j ≡ length es
    → gs ≡ es ++ g ∷ [] → function_meant Ts g ≡ checked_step n c
    → map (function_meant Ts) hs ≡ and_guarded n c j (map (function_meant Ts) gs)
    → map (function_meant Ts) hs ≡ ended false n c (map (function_meant Ts) fs)
ended_guarded Ts n c j fs es gs hs f g ef hf ej eg hg eh =
    let a : C.File = map (function_meant Ts) fs in
    let two = and_two Ts fs es gs f g (init_function n c.shape) (checked_step n c) ef hf eg hg in
    let one : length es ≡ suc (length fs) = ap length ef ∙ grind (arith, common_steps) in
    let many : j ≡ suc (length a) = ej ∙ (one ∙ ap suc (sym (length-map fs (function_meant Ts)))) in
    eh ∙ (ap (and_guarded n c j) two
    ∙ ap (λ (i : ℕ). and_guarded n c i (a ++ init_function n c.shape ∷ checked_step n c ∷ [])) many)

-- an input without lists has nothing to guard
pub guarded_none : (n : Bounds) (c : Callee) (j : ℕ) (a : C.File) → has_no_list c.input ≡ true
    → a ≡ and_guarded n c j a
guarded_none n c j a h = rw h refl

-- one with lists has the functions that test it, and the guarded step
pub guarded_some : (Ts : List CType) (n : Bounds) (c : Callee) (Cs : List TypeTree) (j k t : ℕ)
    (fs es gs : List V.Function) (g : V.Function)
    → has_no_list c.input ≡ false → Cs ≡ with_type c.input [] → k ≡ length fs
    → t ≡ k + number_among Cs c.input
    → map (function_meant Ts) es
    ≡ map (function_meant Ts) fs ++ map (within_function n (λ T. k + number_among Cs T)) Cs
    → gs ≡ es ++ g ∷ [] → function_meant Ts g ≡ guarded_step n c t j
    → map (function_meant Ts) gs ≡ and_guarded n c j (map (function_meant Ts) fs)
guarded_some Ts n c Cs j k t fs es gs g h eC ek et ees egs hg =
    let a : C.File = map (function_meant Ts) fs in
    let Q : ℕ → List TypeTree → ℕ → C.File =
    λ m Ds i. a ++ (map (within_function n (λ T. m + number_among Ds T)) Ds ++ guarded_step n c i j ∷ []) in
    let R : ℕ → List TypeTree → C.File = λ m Ds. Q m Ds (m + number_among Ds c.input) in
    let many : k ≡ length a = ek ∙ sym (length-map fs (function_meant Ts)) in
    let last : R (length a) (with_type c.input []) ≡ and_guarded n c j a = rw h refl in
    and_one Ts es gs g (guarded_step n c t j) egs hg
    ∙ (ap (λ (b : C.File). b ++ guarded_step n c t j ∷ []) ees
    ∙ (append_assoc a (map (within_function n (λ T. k + number_among Cs T)) Cs) (guarded_step n c t j ∷ [])
    ∙ (ap (Q k Cs) et ∙ (ap (R k) eC ∙ (ap (λ (m : ℕ). R m (with_type c.input [])) many ∙ last)))))
