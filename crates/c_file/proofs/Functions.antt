-- The C of a function of the code does what the function does.
use Rattle.std.proofs.Common.{◌≡◌, ◌≤◌, ◌<◌, ◌+◌, ℕ, zero, suc, List, [], ◌∷◌, ◌++◌, map, length, take, drop, Some, None, refl, sym, ap, ap₂, ◌∙◌, arith, subst, append-nil, append_assoc, length-append}
use Rattle.std.specs.Prelude.{slice_get}
use Rattle.std.proofs.Math.Path.{fun_ext}
use Rattle.sample_core.specs.Datum.{Datum, unit}
use Rattle.sample_core.specs.TypeTree.{TypeTree, unit_ty, int_ty, pair_ty, event_ty, list_ty}
use Rattle.leaf_core.specs.declared.expr.Expr.{Expr}
use Rattle.leaf_code.specs.Fitting.{Bounds}
use Rattle.net_tree.specs.Network.{at_once, delayed}
use Rattle.cell_core.specs.declared.form.Form.{Form}
use Rattle.net_machine.specs.Store.{Moment, Store}
use Rattle.net_machine.specs.Stepper.{Stepper, par_step, resume_step, rp_switch_step, freezing_step, routed_step, routed}
use Rattle.net_code.specs.declared.statement.Function.{Function}
use Rattle.net_code.specs.declared.statement.Function.TheVariants as F
use Rattle.net_code.specs.Running.{Kept, kept_at, split, Given, given_value, given_kept, given_first, body_step}
use Rattle.net_code.specs.Running as N
use Rattle.net_code.specs.Bodies.{cell_body}
use Rattle.net_code.specs.CodeView.{body_of}
use Rattle.net_code.specs.CodeLaw.{value_in}
use Rattle.net_code.proofs.BodyLaws.{arr_done, seq_done, first_done, par_done, loop_done, cell_done, accum_done, time_done, integral_done, switch_done, r_switch_done, k_switch_done, p_switch_done, old_done, same_done, out_done, in_done, collection_done}
use Rattle.code_fits.specs.Layouts.{Layout, layout}
use Rattle.code_fits.specs.Rules.{CellTyped, i_pre_typed, delay_typed, hold_typed, after_typed, repeatedly_typed, LeafTyped, Goes, goes, AllGo, none_go, one_goes, FunctionFits, arr_fits, seq_fits, first_fits, par_fits, loop_fits, cell_fits, time_fits, integral_fits, accum_fits, switch_fits, d_switch_fits, r_switch_fits, dr_switch_fits, k_switch_fits, p_switch_fits, old_fits, same_fits, initial_out_fits, initial_in_fits, collection_fits}
use Rattle.c_meaning.specs.Object.{Object}
use Rattle.c_meaning.specs.Syntax.{File}
use Rattle.c_meaning.specs.Syntax as C
use Rattle.c_meaning.specs.Meaning.{Linked, function_run}
use Rattle.c_leaf.specs.Representing.{Registers, no_register, and_register}
use Rattle.c_leaf.specs.LeafCLaw.{FewElements, Computes, IsConstant}
use Rattle.c_forms.specs.Keeping.{Shape, keeps_cell, dt_object}
use Rattle.c_forms.specs.Standing.{Frozen, none_frozen, one_frozen, InScope, Steps, Right}
use Rattle.c_forms.specs.Members.{members_shape, par_function, MembersRight, no_members, one_member}
use Rattle.c_forms.specs.Routing.{routed_steps, routed_function}
use Rattle.c_forms.proofs.Forms.{arr_law, same_step_law, seq_law, first_law, loop_law, out_law, in_law}
use Rattle.c_forms.proofs.Members.{par_law}
use Rattle.c_forms.proofs.Cells.{i_pre_law, hold_law, accum_law, after_law, repeatedly_law, time_law, integral_law}
use Rattle.c_forms.proofs.DelayLaw.{delay_law}
use Rattle.c_forms.proofs.Switches.{switch_law}
use Rattle.c_forms.proofs.Restarts.{r_switch_law}
use Rattle.c_forms.proofs.Freezing.{k_switch_law, p_switch_law}
use Rattle.c_forms.proofs.Routing.{routed_law, routed_par_law}
use Rattle.c_forms.proofs.Collection.{collection_law}
use Rattle.c_forms.proofs.Olds.{old_law}
use Rattle.c_file.specs.Compared.{Leaf, constant, at_input, leaves_of}
use Rattle.c_file.specs.FunctionC.{Callee, callee_at, element_type, numbers_from, number_at, shape_at, olds, shape_of, cell_c, routed_c, step_c, leaf_c, before_step}
use Rattle.c_file.proofs.Links.{function_of, same, next}

-- a C function does a step
pub record Done (n : TypeTree → ℕ) (Ps : List TypeTree) (Os : List Shape) (S : Shape) (A B : TypeTree) (f : Given → Stepper) (c : Linked) : Type 0 where
  pub right : Right n Ps Os S A B f c

-- also one that is the same
by-steps : {n : TypeTree → ℕ} {Ps : List TypeTree} {Os : List Shape} {S : Shape} {A B : TypeTree} {f h : Given → Stepper} {c : Linked} → f ≡ h → Right n Ps Os S A B h c → Done n Ps Os S A B f c
by-steps {n} {Ps} {Os} {S} {A} {B} {f} {h} {c} e r = record { right = subst (λ u. Right n Ps Os S A B u c) (sym e) r }

-- also where it is the same in each scope
by-scope : (n : Bounds) (Ps : List TypeTree) (Os : List Shape) (S : Shape) (A B : TypeTree) (f h : Given → Stepper) (c : Linked)
    → ((g : Given) (qs : List Object) → InScope n Ps Os g qs → f g ≡ h g) → Right n Ps Os S A B h c → Right n Ps Os S A B f c
by-scope n Ps Os S A B f h c e r g qs w m s x o i u k v =
    subst (λ (p : Stepper). Steps n S B (p s (m, x)) (dt_object m ∷ i ∷ qs) (c (o ∷ dt_object m ∷ i ∷ qs))) (sym (e g qs w)) (r g qs w m s x o i u k v)

map-take : {X Y : Type 0} (f : X → Y) (k : ℕ) (xs : List X) → map f (take k xs) ≡ take k (map f xs)
map-take f zero xs = refl
map-take f (suc k) [] = refl
map-take f (suc k) (x ∷ xs) = ap (λ (ys : List _). f x ∷ ys) (map-take f k xs)

joined : {X : Type 0} (k : ℕ) (xs : List X) → take k xs ++ drop k xs ≡ xs
joined zero xs = refl
joined (suc k) [] = refl
joined (suc k) (x ∷ xs) = ap (λ (ys : List _). x ∷ ys) (joined k xs)

map-append : {X Y : Type 0} (f : X → Y) (xs ys : List X) → map f (xs ++ ys) ≡ map f xs ++ map f ys
map-append f [] ys = refl
map-append f (x ∷ xs) ys = ap (λ (zs : List _). f x ∷ zs) (map-append f xs ys)

map-at : {X Y : Type 0} (f : X → Y) (xs : List X) (k : ℕ) (x : X) → slice_get xs k ≡ Some x → slice_get (map f xs) k ≡ Some (f x)
map-at f [] k x e = absurd (grind arith)
map-at f (y ∷ xs) zero x e = let s : y ≡ x = cc in ap (λ z. Some (f z)) s
map-at f (y ∷ xs) (suc k) x e = map-at f xs k x e

map-map : {X Y Z : Type 0} (f : Y → Z) (h : X → Y) (xs : List X) → map f (map h xs) ≡ map (λ x. f (h x)) xs
map-map f h [] = refl
map-map f h (x ∷ xs) = ap (λ (zs : List _). f (h x) ∷ zs) (map-map f h xs)

map-length : {X Y : Type 0} (f : X → Y) (xs : List X) → length (map f xs) ≡ length xs
map-length f [] = refl
map-length f (x ∷ xs) = ap suc (map-length f xs)

-- as many of one list as of another of its length
take-like : {X Y : Type 0} (k : ℕ) (xs : List X) (ys : List Y) → length xs ≡ length ys → take (length (take k xs)) ys ≡ take k ys
take-like zero xs ys e = refl
take-like (suc k) [] [] e = refl
take-like (suc k) [] (y ∷ ys) e = absurd (omega arith)
take-like (suc k) (x ∷ xs) [] e = absurd (omega arith)
take-like (suc k) (x ∷ xs) (y ∷ ys) e = let d : length xs ≡ length ys = omega arith in ap (λ (zs : List _). y ∷ zs) (take-like k xs ys d)

params-length : (n : Bounds) {Ps : List TypeTree} {ps : List Datum} {qs : List Object} → Registers n Ps ps qs → length Ps ≡ length ps
params-length n no_register = refl
params-length n (and_register h hs) = ap suc (params-length n hs)

olds-length : (n : Bounds) {Os : List Shape} {ks : List Kept} {os : List Object} → Frozen n Os ks os → length Os ≡ length ks
olds-length n none_frozen = refl
olds-length n (one_frozen f a h) = ap suc (olds-length n h)

-- what an expression's C function does
abbrev pub LeafDone : Bounds → List TypeTree → Leaf → Linked → Type 0
LeafDone n Ps (constant e) c = (B : TypeTree) → LeafTyped n Ps e unit_ty B → IsConstant n Ps B (λ ps. value_in e ps unit) c
LeafDone n Ps (at_input A e) c = (B : TypeTree) → LeafTyped n Ps e A B → Computes n Ps A B (value_in e) c

-- functions k and the next do what expressions do
abbrev pub LeavesDone : Bounds → List TypeTree → (ℕ → Linked) → ℕ → List Leaf → Type 0
LeavesDone n Ps C k [] = Unit {0}
LeavesDone n Ps C k (l ∷ ls) = LeafDone n Ps l (C k) × LeavesDone n Ps C (suc k) ls

-- cs: what the file has of the functions of the code; H: those
module _ (n : Bounds) (few : FewElements n) (cs : List Callee) (Ls : List Layout) (H : ℕ → N.Linked) where
  -- the functions of a file do what those of the code do
  pub record At (a : File) : Type 0 where
    pub placed : (j : ℕ) (L : Layout) → slice_get Ls j ≡ Some L → number_at cs j < length a
    pub input : (j : ℕ) (L : Layout) → slice_get Ls j ≡ Some L → (callee_at cs j).input ≡ L.input
    pub does : (j : ℕ) (L : Layout) → slice_get Ls j ≡ Some L → Right n L.params (olds cs L) (shape_at cs j) L.input L.output (H j) (function_of a (number_at cs j))

  -- also those of a longer file
  pub at-more : (a b : File) → At a → At (a ++ b)
  at-more a b w =
      let l : length (a ++ b) ≡ length a + length b = length-append a b in
      record {
        placed = λ j L e. let k : number_at cs j < length a = w.placed j L e in omega arith;
        input = w.input;
        does = λ j L e. subst (Right n L.params (olds cs L) (shape_at cs j) L.input L.output (H j)) (sym (same a b (number_at cs j) (w.placed j L e))) (w.does j L e);
      }

  callee : {a : File} → At a → {j : ℕ} {Ps : List TypeTree} {Os : List ℕ} {A B : TypeTree} → Goes Ls j Ps Os A B
      → Right n Ps (map (shape_at cs) Os) (shape_at cs j) A B (H j) (function_of a (number_at cs j))
  callee w {j = j} (goes e) = w.does j _ e

  callee-input : {a : File} → At a → {j : ℕ} {Ps : List TypeTree} {Os : List ℕ} {A B : TypeTree} → Goes Ls j Ps Os A B → (callee_at cs j).input ≡ A
  callee-input w {j = j} (goes e) = w.input j _ e

  members : {a : File} → At a → {Ps : List TypeTree} {Os : List ℕ} {A B : TypeTree} {js : List ℕ} → AllGo Ls Ps Os A B js
      → MembersRight n Ps (map (shape_at cs) Os) (function_of a) A B (map (number_at cs) js) (map (shape_at cs) js) (map H js)
  members w none_go = no_members
  members w (one_goes g gs) = one_member (callee w g) (members w gs)

  -- members of a `pSwitch` from number i on: functions b and the next, behind a route, which function k answers
  routed-members : (L : Layout) (Os : List ℕ) (D B : TypeTree) (h : List Datum → Datum → Datum) (k i : ℕ) {fs : List ℕ} → L.olds ≡ Os → element_type L.output ≡ B → AllGo Ls L.params Os D B fs → i + length fs ≤ 64
      → (a rest : File) (b : ℕ) → b ≡ length a → k < length a → At a → Computes n L.params (pair_ty L.input int_ty) D h (function_of a k)
      → MembersRight n L.params (olds cs L) (function_of (a ++ (routed_c cs L n k i fs ++ rest))) L.input B (numbers_from b fs) (map (shape_at cs) fs) (routed_steps h i (map H fs))
  routed-members L Os D B h k i eo eb none_go l a rest b e p w r = no_members
  routed-members L Os D B h k i eo eb (one_goes {j = f} {js = fs} go gos) l a rest b e p w r =
      let Ss : List Shape = olds cs L in
      let g : C.Function = routed_function n L.params Ss (shape_at cs f) L.input (callee_at cs f).input (element_type L.output) i k (number_at cs f) in
      let more : File = routed_c cs L n k (suc i) fs ++ rest in
      let at : Given → Stepper = λ s. routed_step (h s.params) i (H f s) in
      let q : length (a ++ g ∷ []) ≡ length a + 1 = length-append a (g ∷ []) in
      let c : Right n L.params Ss (shape_at cs f) D B (H f) (function_of a (number_at cs f)) =
      subst (λ js. Right n L.params (map (shape_at cs) js) (shape_at cs f) D B (H f) (function_of a (number_at cs f))) (sym eo) (callee w go) in
      let u : Right n L.params Ss (shape_at cs f) L.input B at (function_run (function_of a) (routed_function n L.params Ss (shape_at cs f) L.input D B i k (number_at cs f))) =
      routed_law n L.params Ss (function_of a) (shape_at cs f) L.input D B i k (number_at cs f) h (H f) (omega arith) r c in
      let v : Right n L.params Ss (shape_at cs f) L.input B at (function_run (function_of a) g) =
      subst (λ T. Right n L.params Ss (shape_at cs f) L.input B at (function_run (function_of a) (routed_function n L.params Ss (shape_at cs f) L.input T (element_type L.output) i k (number_at cs f)))) (sym (callee-input w go))
      (subst (λ T. Right n L.params Ss (shape_at cs f) L.input B at (function_run (function_of a) (routed_function n L.params Ss (shape_at cs f) L.input D T i k (number_at cs f)))) (sym eb) u) in
      let x : function_of (a ++ g ∷ more) b ≡ function_run (function_of a) g = ap (function_of (a ++ g ∷ more)) e ∙ next a g more in
      let t = routed-members L Os D B h k (suc i) eo eb gos (omega arith) (a ++ g ∷ []) rest (suc b) (omega arith) (omega arith) (at-more a (g ∷ []) w)
      (subst (Computes n L.params (pair_ty L.input int_ty) D h) (sym (same a (g ∷ []) k p)) r) in
      one_member (subst (Right n L.params Ss (shape_at cs f) L.input B at) (sym x) v)
      (subst (λ (c : File). MembersRight n L.params Ss (function_of c) L.input B (numbers_from (suc b) fs) (map (shape_at cs) fs) (routed_steps h (suc i) (map H fs))) (append_assoc a (g ∷ []) more) t)

  routed-length : (L : Layout) (k i : ℕ) (fs : List ℕ) → length (routed_c cs L n k i fs) ≡ length fs
  routed-length L k i [] = refl
  routed-length L k i (f ∷ fs) = ap suc (routed-length L k (suc i) fs)

  numbers-length : (k : ℕ) (fs : List ℕ) → length (numbers_from k fs) ≡ length fs
  numbers-length k [] = refl
  numbers-length k (f ∷ fs) = ap suc (numbers-length (suc k) fs)

  -- the step of all members, where function k answers the route
  abbrev RoutedDone : Layout → (List Datum → Datum → Datum) → List ℕ → Linked → Type 0
  RoutedDone L h fs c = Done n L.params (olds cs L) (members_shape (map (shape_at cs) fs)) L.input L.output (λ g. par_step (routed (h g.params) 0 (map (λ f. f g) (map H fs)))) c

  -- what a function has between its expressions and its step does its part
  abbrev pub HelpersDone : File → Layout → ℕ → Function → Type 0
  HelpersDone a L k (F.PSwitch r fs e t) = RoutedDone L (value_in r) fs.items (function_of a (suc (k + length fs.items)))
  HelpersDone a L k _ = Unit {0}

  routed-done : (Ps : List TypeTree) (Os : List ℕ) (A D B V : TypeTree) (r : Expr) (fs : List ℕ) → AllGo Ls Ps Os D B fs → length fs ≤ n B → length fs ≤ 64
      → let L : Layout = layout Ps Os A (list_ty B) (list_ty B ∷ list_ty B ∷ pair_ty A (list_ty B) ∷ event_ty V ∷ list_ty B ∷ list_ty B ∷ []) (Some V) in
      (a : File) (k : ℕ) → suc k ≡ length a → At a → Computes n Ps (pair_ty A int_ty) D (value_in r) (function_of a k)
      → RoutedDone L (value_in r) fs
      (function_of (a ++ (routed_c cs L n k 0 fs ++ par_function n Ps (map (shape_at cs) Os) (map (shape_at cs) fs) A B (numbers_from (suc k) fs) ∷ [])) (suc (k + length fs)))
  routed-done Ps Os A D B V r fs gos l m a k e w c =
      let L : Layout = layout Ps Os A (list_ty B) (list_ty B ∷ list_ty B ∷ pair_ty A (list_ty B) ∷ event_ty V ∷ list_ty B ∷ list_ty B ∷ []) (Some V) in
      let Ss : List Shape = map (shape_at cs) Os in
      let rs : File = routed_c cs L n k 0 fs in
      let g : C.Function = par_function n Ps Ss (map (shape_at cs) fs) A B (numbers_from (suc k) fs) in
      let p : length rs ≡ length fs = routed-length L k 0 fs in
      let q : length (a ++ rs) ≡ length a + length rs = length-append a rs in
      let u : length (numbers_from (suc k) fs) ≡ length fs = numbers-length (suc k) fs in
      let here : suc (k + length fs) ≡ length (a ++ rs) = omega arith in
      let x : function_of (a ++ (rs ++ g ∷ [])) (suc (k + length fs)) ≡ function_run (function_of (a ++ rs)) g =
      ap₂ function_of (sym (append_assoc a rs (g ∷ []))) here ∙ next (a ++ rs) g [] in
      let t : MembersRight n Ps Ss (function_of (a ++ (rs ++ []))) A B (numbers_from (suc k) fs) (map (shape_at cs) fs) (routed_steps (value_in r) 0 (map H fs)) =
      routed-members L Os D B (value_in r) k 0 refl refl gos (omega arith) a [] (suc k) e (omega arith) w c in
      let t' : MembersRight n Ps Ss (function_of (a ++ rs)) A B (numbers_from (suc k) fs) (map (shape_at cs) fs) (routed_steps (value_in r) 0 (map H fs)) =
      subst (λ (b : File). MembersRight n Ps Ss (function_of (a ++ b)) A B (numbers_from (suc k) fs) (map (shape_at cs) fs) (routed_steps (value_in r) 0 (map H fs))) (append-nil rs) t in
      record {
        right = subst (Right n Ps Ss (members_shape (map (shape_at cs) fs)) A (list_ty B) (λ g. par_step (routed (value_in r g.params) 0 (map (λ f. f g) (map H fs))))) (sym x)
            (routed_par_law n Ps Ss (function_of (a ++ rs)) (map (shape_at cs) fs) A B (numbers_from (suc k) fs) (value_in r) (map H fs) (omega arith) (few B) t');
      }

  -- behind its expressions
  pub helpers-done : (h : TypeTree → ℕ) (L : Layout) (f : Function) → FunctionFits n Ls L f → (a : File) → At a
      → LeavesDone n L.params (function_of (a ++ map (leaf_c n h L.params) (leaves_of L f))) (length a) (leaves_of L f)
      → HelpersDone (a ++ before_step n h cs L (length a) f) L (length a) f
  helpers-done h L f (p_switch_fits {Ps = Ps} {Os = Os} {A = A} {B = B} {D = D} {V = V} {r = r} {fs = fs} t gos l m b c) a w d =
      let i : Leaf = at_input (pair_ty A int_ty) r in
      let g : C.Function = leaf_c n h Ps i in
      let a1 : File = a ++ g ∷ [] in
      let q : length a1 ≡ length a + 1 = length-append a (g ∷ []) in
      let M : Layout = layout Ps Os A (list_ty B) (list_ty B ∷ list_ty B ∷ pair_ty A (list_ty B) ∷ event_ty V ∷ list_ty B ∷ list_ty B ∷ []) (Some V) in
      let hs : File = routed_c cs M n (length a) 0 fs.items ++ par_function n Ps (map (shape_at cs) Os) (map (shape_at cs) fs.items) A B (numbers_from (suc (length a)) fs.items) ∷ [] in
      subst (λ (b : File). RoutedDone M (value_in r) fs.items (function_of b (suc (length a + length fs.items)))) (append_assoc a (g ∷ []) hs)
      (routed-done Ps Os A D B V r fs.items gos l m a1 (length a) (omega arith) (at-more a (g ∷ []) w) (d.0 D t))
  helpers-done h L f _ a w d = tt

  module _ (a : File) (w : At a) where
    -- a cell with a constant
    cell-right : (Ps : List TypeTree) (Os : List ℕ) (A B V : TypeTree) (form : Form) (c : Expr) (k : ℕ) → CellTyped form V A B → IsConstant n Ps V (λ ps. value_in c ps unit) (function_of a k)
        → Done n Ps (map (shape_at cs) Os) (keeps_cell form V) A B (body_step value_in H (cell_body form c)) (function_run (function_of a) (cell_c cs (layout Ps Os A B (V ∷ B ∷ []) (Some V)) n form k))
    cell-right Ps Os A B V form c k i_pre_typed h =
        by-steps (fun_ext (λ g. cell_done value_in H g form c)) (i_pre_law n Ps (map (shape_at cs) Os) (function_of a) V k (λ ps. value_in c ps unit) h)
    cell-right Ps Os A B V form c k (delay_typed {q = q} l m) h =
        by-steps (fun_ext (λ g. cell_done value_in H g form c)) (delay_law n Ps (map (shape_at cs) Os) (function_of a) q V l (omega arith) k (λ ps. value_in c ps unit) h)
    cell-right Ps Os A B V form c k hold_typed h =
        by-steps (fun_ext (λ g. cell_done value_in H g form c)) (hold_law n Ps (map (shape_at cs) Os) (function_of a) V k (λ ps. value_in c ps unit) h)
    cell-right Ps Os A B V form c k (after_typed {q = q} l) h =
        by-steps (fun_ext (λ g. cell_done value_in H g form c)) (after_law n Ps (map (shape_at cs) Os) (function_of a) q V A l k (λ ps. value_in c ps unit) h)
    cell-right Ps Os A B V form c k (repeatedly_typed {q = q} l m) h =
        by-steps (fun_ext (λ g. cell_done value_in H g form c)) (repeatedly_law n Ps (map (shape_at cs) Os) (function_of a) q V A l m k (λ ps. value_in c ps unit) h)

    -- a frozen network, whose function has the first b parameters and the first d frozen networks in scope
    old-right : (Ps : List TypeTree) (Os : List ℕ) (A B : TypeTree) (k f b d i : ℕ) → slice_get Os k ≡ Some f → Goes Ls f (take b Ps) (take d Os) A B
        → Done n Ps (map (shape_at cs) Os) (shape_at cs f) A B (body_step value_in H (body_of (F.Old k f b d)))
        (function_run (function_of a) (step_c cs (layout Ps Os A B (B ∷ []) None) n i (F.Old k f b d)))
    old-right Ps Os A B k f b d i e h =
        let Ss : List Shape = map (shape_at cs) Os in
        let S : Shape = shape_at cs f in
        let c : Linked = function_run (function_of a) (step_c cs (layout Ps Os A B (B ∷ []) None) n i (F.Old k f b d)) in
        let t : Right n (take b Ps) (take d Ss) S A B (H f) (function_of a (number_at cs f)) =
        subst (λ Us. Right n (take b Ps) Us S A B (H f) (function_of a (number_at cs f))) (map-take (shape_at cs) d Os) (callee w h) in
        let z : slice_get (take d Ss ++ drop d Ss) k ≡ Some S = subst (λ Us. slice_get Us k ≡ Some S) (sym (joined d Ss)) (map-at (shape_at cs) Os k f e) in
        let r = old_law n (take b Ps) (drop b Ps) (take d Ss) (drop d Ss) (function_of a) S A B k (number_at cs f) (H f) z t in
        let at : Given → Stepper = λ g. resume_step (H f (given_first g (length (take b Ps)) (length (take d Ss)))) (kept_at g.olds k).0 (kept_at g.olds k).1 in
        by-steps (fun_ext (λ g. old_done value_in H g k f b d))
        (by-scope n Ps Ss S A B (λ g. resume_step (H f (given_first g b d)) (kept_at g.olds k).0 (kept_at g.olds k).1) at c
        (λ g qs s. ap₂ (λ (us : List Datum) (vs : List Kept). let v : Given = record { params = us; olds = vs } in resume_step (H f v) (kept_at g.olds k).0 (kept_at g.olds k).1)
        (sym (take-like b Ps g.params (params-length n s.are_params))) (sym (take-like d Ss g.olds (olds-length n s.are_olds))))
        (subst (λ Us. Right n Us Ss S A B at c) (joined b Ps) (subst (λ Vs. Right n (take b Ps ++ drop b Ps) Vs S A B at c) (joined d Ss) r)))

    -- the step of a function that fits its layout
    pub right : (L : Layout) (f : Function) → FunctionFits n Ls L f → (k : ℕ) → LeavesDone n L.params (function_of a) k (leaves_of L f) → HelpersDone a L k f
        → Done n L.params (olds cs L) (shape_of cs L f) L.input L.output (body_step value_in H (body_of f)) (function_run (function_of a) (step_c cs L n k f))
    right L _ (arr_fits {Ps = Ps} {Os = Os} {A = A} {B = B} {e = e} t) k d z =
        by-steps (fun_ext (λ g. arr_done value_in H g e)) (arr_law n Ps (map (shape_at cs) Os) (function_of a) A B k (value_in e) (d.0 B t))
    right L _ (seq_fits {Ps = Ps} {Os = Os} {A = A} {B = B} {D = D} {f = f} {g = g} p q) k d z =
        by-steps (fun_ext (λ s. seq_done value_in H s f g))
        (seq_law n Ps (map (shape_at cs) Os) (function_of a) (shape_at cs f) (shape_at cs g) A B D (number_at cs f) (number_at cs g) (H f) (H g) (callee w p) (callee w q))
    right L _ (first_fits {Ps = Ps} {Os = Os} {A = A} {B = B} {D = D} {f = f} p) k d z =
        by-steps (fun_ext (λ s. first_done value_in H s f)) (first_law n Ps (map (shape_at cs) Os) (function_of a) (shape_at cs f) A B D (number_at cs f) (H f) (callee w p))
    right L _ (par_fits {Ps = Ps} {Os = Os} {A = A} {B = B} {fs = fs} p l) k d z =
        let c : length (map (number_at cs) fs.items) ≡ length fs.items = map-length (number_at cs) fs.items in
        by-steps (fun_ext (λ g. par_done value_in H g fs.items ∙ ap par_step (sym (map-map (λ (h : N.Linked). h g) H fs.items))))
        (par_law n Ps (map (shape_at cs) Os) (function_of a) (map (shape_at cs) fs.items) A B (map (number_at cs) fs.items) (map H fs.items) (omega arith) (few B) (members w p))
    right L _ (loop_fits {Ps = Ps} {Os = Os} {A = A} {B = B} {V = V} {c = c} {f = f} t p) k d z =
        by-steps (fun_ext (λ g. loop_done value_in H g c f))
        (loop_law n Ps (map (shape_at cs) Os) (function_of a) (shape_at cs f) A B V k (number_at cs f) (λ ps. value_in c ps unit) (H f) (d.0 V t) (callee w p))
    right L _ (cell_fits {Ps = Ps} {Os = Os} {A = A} {B = B} {V = V} {form = form} {c = c} t h) k d z = cell-right Ps Os A B V form c k h (d.0 V t)
    right L _ (time_fits {Ps = Ps} {Os = Os} {A = A}) k d z = by-steps (fun_ext (λ g. time_done value_in H g)) (time_law n Ps (map (shape_at cs) Os) (function_of a) int_ty A)
    right L _ (integral_fits {Ps = Ps} {Os = Os}) k d z = by-steps (fun_ext (λ g. integral_done value_in H g)) (integral_law n Ps (map (shape_at cs) Os) (function_of a) int_ty)
    right L _ (accum_fits {Ps = Ps} {Os = Os} {U = U} {V = V} {g = e} {z = c} t u) k d z =
        by-steps (fun_ext (λ g. accum_done value_in H g e c))
        (accum_law n Ps (map (shape_at cs) Os) (function_of a) U V k (suc k) (λ ps. value_in c ps unit) (value_in e) (d.0 V t) (d.1.0 V u))
    right L _ (switch_fits {Ps = Ps} {Os = Os} {A = A} {B = B} {V = V} {f = f} {t = t} p q) k d z =
        by-steps (fun_ext (λ g. switch_done value_in H g at_once f t))
        (switch_law n Ps (map (shape_at cs) Os) (function_of a) at_once (shape_at cs f) (shape_at cs t) A B V (number_at cs f) (number_at cs t) (H f) (H t) (callee w p) (callee w q))
    right L _ (d_switch_fits {Ps = Ps} {Os = Os} {A = A} {B = B} {V = V} {f = f} {t = t} p q) k d z =
        by-steps (fun_ext (λ g. switch_done value_in H g delayed f t))
        (switch_law n Ps (map (shape_at cs) Os) (function_of a) delayed (shape_at cs f) (shape_at cs t) A B V (number_at cs f) (number_at cs t) (H f) (H t) (callee w p) (callee w q))
    right L _ (r_switch_fits {Ps = Ps} {Os = Os} {A = A} {B = B} {V = V} {f = f} {t = t} p q) k d z =
        by-steps (fun_ext (λ g. r_switch_done value_in H g at_once f t))
        (r_switch_law n Ps (map (shape_at cs) Os) (function_of a) at_once (shape_at cs f) (shape_at cs t) A B V (number_at cs f) (number_at cs t) (H f) (H t) (callee w p) (callee w q))
    right L _ (dr_switch_fits {Ps = Ps} {Os = Os} {A = A} {B = B} {V = V} {f = f} {t = t} p q) k d z =
        by-steps (fun_ext (λ g. r_switch_done value_in H g delayed f t))
        (r_switch_law n Ps (map (shape_at cs) Os) (function_of a) delayed (shape_at cs f) (shape_at cs t) A B V (number_at cs f) (number_at cs t) (H f) (H t) (callee w p) (callee w q))
    right L _ (k_switch_fits {Ps = Ps} {Os = Os} {A = A} {B = B} {V = V} {f = f} {e = e} {t = t} p q r) k d z =
        by-steps (fun_ext (λ g. k_switch_done value_in H g f e t))
        (k_switch_law n Ps (map (shape_at cs) Os) (function_of a) (shape_at cs f) (shape_at cs e) (shape_at cs t) A B V (number_at cs f) (number_at cs e) (number_at cs t) (H f) (H e) (H t) (callee w p) (callee w q)
        (subst (λ Us. Right n (Ps ++ V ∷ []) Us (shape_at cs t) A B (H t) (function_of a (number_at cs t))) (map-append (shape_at cs) Os (f ∷ [])) (callee w r)))
    right L _ (p_switch_fits {Ps = Ps} {Os = Os} {A = A} {B = B} {D = D} {V = V} {r = r} {fs = fs} {e = e} {t = t} u p l m q y) k d z =
        let Ss : List Shape = map (shape_at cs) Os in
        let Ts : List Shape = map (shape_at cs) fs.items in
        let at : Given → Stepper = λ g. par_step (routed (value_in r g.params) 0 (map (λ f. f g) (map H fs.items))) in
        let b : length Ts ≡ length fs.items = map-length (shape_at cs) fs.items in
        let over : ℕ → Given → Datum → Store → Moment → Stepper = λ i g v s o. H t (given_kept (given_value g v) (split i s o)) in
        by-steps
        (fun_ext (λ g. p_switch_done value_in H g r fs.items e t
        ∙ ap (λ (hs : List Stepper). freezing_step (par_step (routed (value_in r g.params) 0 hs)) (H e g) (over (length fs.items) g)) (sym (map-map (λ (h : N.Linked). h g) H fs.items))
        ∙ ap (λ i. freezing_step (at g) (H e g) (over i g)) (sym b)))
        (p_switch_law n Ps Ss (function_of a) Ts (shape_at cs e) (shape_at cs t) A (list_ty B) V (suc (k + length fs.items)) (number_at cs e) (number_at cs t) at (H e) (H t) z.right (callee w q)
        (subst (λ Us. Right n (Ps ++ V ∷ []) Us (shape_at cs t) A (list_ty B) (H t) (function_of a (number_at cs t))) (map-append (shape_at cs) Os fs.items) (callee w y)))
    right L _ (old_fits {Ps = Ps} {Os = Os} {A = A} {B = B} {k = i} {f = f} {n = b} {m = c} e h) k d z = old-right Ps Os A B i f b c k e h
    right L _ (same_fits {Ps = Ps} {Os = Os} {A = A}) k d z = by-steps (fun_ext (λ g. same_done value_in H g)) (same_step_law n Ps (map (shape_at cs) Os) (function_of a) A)
    right L _ (initial_out_fits {Ps = Ps} {Os = Os} {A = A} {B = B} {c = c} {f = f} t p) k d z =
        by-steps (fun_ext (λ g. out_done value_in H g c f))
        (out_law n Ps (map (shape_at cs) Os) (function_of a) (shape_at cs f) A B k (number_at cs f) (λ ps. value_in c ps unit) (H f) (d.0 B t) (callee w p))
    right L _ (initial_in_fits {Ps = Ps} {Os = Os} {A = A} {B = B} {c = c} {f = f} t p) k d z =
        by-steps (fun_ext (λ g. in_done value_in H g c f))
        (in_law n Ps (map (shape_at cs) Os) (function_of a) (shape_at cs f) A B k (number_at cs f) (λ ps. value_in c ps unit) (H f) (d.0 A t) (callee w p))
    right L _ (collection_fits {Ps = Ps} {Os = Os} {A = A} {B = B} {U = U} {V = V} {fs = fs} {m = m} {t = t} p l q u h) k d z =
        let c : length (map (number_at cs) fs.items) ≡ length fs.items = map-length (number_at cs) fs.items in
        by-steps
        (fun_ext (λ g. collection_done value_in H g fs.items m t
        ∙ ap (λ (hs : List Stepper). rp_switch_step (value_in m g.params) hs (λ v. H t (given_value g v))) (sym (map-map (λ (h : N.Linked). h g) H fs.items))))
        (collection_law n Ps (map (shape_at cs) Os) (function_of a) (map (shape_at cs) fs.items) (shape_at cs t) A B V U (map (number_at cs) fs.items) k (number_at cs t) (value_in m) (map H fs.items) (H t)
        (omega arith) q (few B) (few int_ty) (few V) (members w p) (d.0 (pair_ty (list_ty int_ty) (list_ty V)) u) (callee w h))
