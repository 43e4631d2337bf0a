-- A file as it grows.
use Rattle.std.proofs.Common.{◌≡◌, ℕ, zero, suc, ◌<◌, ◌≤◌, List, [], ◌∷◌, ◌++◌, map, length, drop, get_or, refl, ap, sym, ◌∙◌, subst, arith, append_assoc, drop-cons}
use Rattle.std.proofs.lemmas.List.{append-nil, length-map}
use Rattle.std.proofs.lemmas.Grind.{common_steps}
use Rattle.sample_core.specs.TypeTree.{TypeTree}
use Rattle.sample_core.specs.TypeView.{type_of}
use Rattle.sample_core.specs.declared.ty.Ty.{Ty}
use Rattle.leaf_code.specs.Fitting.{Bounds}
use Rattle.net_code.specs.declared.statement.Function as G
use Rattle.code_fits.specs.declared.types.Types.{Types}
use Rattle.code_fits.specs.declared.layout.Layout as N
use Rattle.code_fits.specs.declared.layout.Program.{Program}
use Rattle.code_fits.specs.Layouts.{Layout}
use Rattle.code_fits.specs.Tables.{layout_of, tree_at}
use Rattle.c_meaning.specs.Object.{CType}
use Rattle.c_text.specs.declared.tree.Function as V
use Rattle.c_text.specs.Meant.{function_meant, structs_meant}
use Rattle.c_leaf.specs.LeafC.{same_function}
use Rattle.c_file.specs.Compared.{number_among, with_functions}
use Rattle.c_file.specs.FunctionC.{Callee, callee_at}
use Rattle.c_file.specs.ProgramC.{Printed, and_function, and_functions, callee_of, comparing, layouts_of, printed_of}
use Rattle.c_file.specs.FileLaw.{bounds}
use Rattle.c_build.specs.declared.frame.Called.{Called}
use Rattle.c_build.specs.declared.frame.Frame.{Frame}
use Rattle.c_build.specs.declared.table.Table.{Table}
use Rattle.c_build.specs.Frames.{AreCallees, IsCallee, bounds_in, layout_in}
use Rattle.c_build.specs.Functions.{IsPushed, functions_in}
use Rattle.c_build.specs.Growing.{FromInputs, IsGrown}
use Rattle.c_build.proofs.Callees.{callees_more}

-- one function more, which is pushed in a frame over structs
pub grown_more : (f : Frame) (t : Table) (Cs : List Ty) (s : Printed) (g : G.Function)
    (fs es : List V.Function) (rs : List Called) (r : Called)
    → f.scope.table ≡ t → IsGrown (structs_meant t.structs.now) (bounds_in f) s fs rs
    → (functions_in f fs ≡ s.file → IsPushed f Cs s g es r)
    → IsGrown (structs_meant t.structs.now) (bounds_in f)
    (and_function (bounds_in f) (number_among (map type_of Cs)) s (layout_in f) g) es (rs ++ r ∷ [])
grown_more f t Cs s g fs es rs r e grown push =
    let n = bounds_in f in
    let c : Callee = callee_of n (number_among (map type_of Cs)) s (layout_in f) g in
    let F : Table → Type 0 = λ u. map (function_meant (structs_meant u.structs.now)) fs ≡ s.file in
    let pushed : IsPushed f Cs s g es r = push (subst F (sym e) grown.file) in
    let G : Table → Type 0 =
    λ u. map (function_meant (structs_meant u.structs.now)) es
    ≡ (and_function n (number_among (map type_of Cs)) s (layout_in f) g).file in
    let R : Table → Type 0 = λ u. IsCallee (structs_meant u.structs.now) n c r in
    record {
      file = subst G e pushed.functions;
      callees = callees_more (structs_meant t.structs.now) n s.callees rs c r grown.callees (subst R e pushed.callee);
    }

-- functions of the code so far, with those to come from number k on, are all
pub record SoFar (Ts : List CType) (n : Bounds) (h : TypeTree → ℕ) (ts : Types) (s : Printed)
    (gs : List G.Function) (Ls : List N.Layout) (k : ℕ) (fs : List V.Function) (rs : List Called)
    : Type 0 where
  pub printed : Printed
  pub grown : IsGrown Ts n printed fs rs
  pub rest : and_functions n h printed (drop k gs) (map (layout_of ts) (drop k Ls))
      ≡ and_functions n h s gs (map (layout_of ts) Ls)

pub so_far_first : (Ts : List CType) (n : Bounds) (h : TypeTree → ℕ) (ts : Types) (s : Printed)
    (gs : List G.Function) (Ls : List N.Layout) (fs : List V.Function) (rs : List Called)
    → IsGrown Ts n s fs rs → SoFar Ts n h ts s gs Ls 0 fs rs
so_far_first Ts n h ts s gs Ls fs rs g = record { printed = s; grown = g; rest = refl }

pub so_far_more : (Ts : List CType) (n : Bounds) (h : TypeTree → ℕ) (ts us : Types) (s : Printed)
    (gs : List G.Function) (Ls : List N.Layout) (k j : ℕ) (fs es : List V.Function) (rs qs ps : List Called)
    (g : G.Function) (L : N.Layout) (r : Called)
    → SoFar Ts n h ts s gs Ls k fs rs → k < length gs → k < length Ls → g ≡ get_or gs k g → L ≡ get_or Ls k L
    → j ≡ suc k → ts ≡ us → qs ≡ rs → ps ≡ rs ++ r ∷ []
    → ((p : Printed) → IsGrown Ts n p fs qs
    → IsGrown Ts n (and_function n h p (layout_of us L) g) es (qs ++ r ∷ []))
    → SoFar Ts n h ts s gs Ls j es ps
so_far_more Ts n h ts us s gs Ls k j fs es rs qs ps g L r f lg lL ig iL is_next is_types is_rows is_pushed step =
    let p : Printed = f.printed in
    let eg : drop k gs ≡ g ∷ drop (suc k) gs
    = drop-cons gs k g lg ∙ ap (λ x. x ∷ drop (suc k) gs) (sym ig) in
    let eL : drop k Ls ≡ L ∷ drop (suc k) Ls
    = drop-cons Ls k L lL ∙ ap (λ x. x ∷ drop (suc k) Ls) (sym iL) in
    let P : List Called → Type 0 = λ xs. IsGrown Ts n p fs xs in
    let at : IsGrown Ts n (and_function n h p (layout_of us L) g) es (qs ++ r ∷ [])
    = step p (subst P (sym is_rows) f.grown) in
    let Q : List Called → Type 0 = λ xs. IsGrown Ts n (and_function n h p (layout_of us L) g) es xs in
    let all : ps ≡ qs ++ r ∷ [] = is_pushed ∙ ap (λ xs. xs ++ r ∷ []) (sym is_rows) in
    let R : Types → Type 0 = λ vs. IsGrown Ts n (and_function n h p (layout_of vs L) g) es ps in
    let next : SoFar Ts n h ts s gs Ls (suc k) es ps = record {
      printed = and_function n h p (layout_of ts L) g;
      grown = subst R (sym is_types) (subst Q (sym all) at);
      rest = ap (λ xs. and_functions n h p xs (map (layout_of ts) (L ∷ drop (suc k) Ls))) (sym eg)
          ∙ (ap (λ ys. and_functions n h p (drop k gs) (map (layout_of ts) ys)) (sym eL) ∙ f.rest);
    } in
    let J : ℕ → Type 0 = λ i. SoFar Ts n h ts s gs Ls i es ps in subst J (sym is_next) next

-- past the end nothing is left
past_end : {A : Type 0} (xs : List A) (k : ℕ) → length xs ≤ k → drop k xs ≡ []
past_end [] k le = grind (arith, common_steps)
past_end (x ∷ xs) zero le = absurd (omega (arith, le))
past_end (x ∷ xs) (suc k) le = past_end xs k (omega (arith, le))

pub so_far_all : (Ts : List CType) (n : Bounds) (h : TypeTree → ℕ) (ts : Types) (s : Printed)
    (gs : List G.Function) (Ls : List N.Layout) (k : ℕ) (fs : List V.Function) (rs : List Called)
    → SoFar Ts n h ts s gs Ls k fs rs → length gs ≤ k
    → IsGrown Ts n (and_functions n h s gs (map (layout_of ts) Ls)) fs rs
so_far_all Ts n h ts s gs Ls k fs rs f le =
    let P : Printed → Type 0 = λ p. IsGrown Ts n p fs rs in
    let e = ap (λ xs. and_functions n h f.printed xs (map (layout_of ts) (drop k Ls))) (sym (past_end gs k le)) in
    subst P (e ∙ f.rest) f.grown

-- the inputs of earlier functions
inputs_before : (cs : List Callee) (Ls Ms : List Layout) → FromInputs cs Ls → FromInputs cs (Ls ++ Ms)
inputs_before [] Ls Ms h = tt
inputs_before (c ∷ cs) [] Ms h = absurd h
inputs_before (c ∷ cs) (L ∷ Ls) Ms h = (h.0, inputs_before cs Ls Ms h.1)

inputs_more : (cs : List Callee) (Ls : List Layout) (c : Callee) (L : Layout) → FromInputs cs Ls
    → length cs ≡ length Ls → c.input ≡ L.input → FromInputs (cs ++ c ∷ []) (Ls ++ L ∷ [])
inputs_more [] [] c L h e i = (i, tt)
inputs_more [] (M ∷ Ls) c L h e i = absurd (omega (arith, e))
inputs_more (d ∷ cs) [] c L h e i = absurd h
inputs_more (d ∷ cs) (M ∷ Ls) c L h e i = (h.0, inputs_more cs Ls c L h.1 (omega (arith, e)) i)

pub inputs_of : (n : Bounds) (h : TypeTree → ℕ) (s : Printed) (gs : List G.Function) (Ls Ks : List Layout)
    → FromInputs s.callees Ks → length s.callees ≡ length Ks
    → FromInputs (and_functions n h s gs Ls).callees (Ks ++ Ls)
inputs_of n h s [] Ls Ks f e = inputs_before s.callees Ks Ls f
inputs_of n h s (g ∷ gs) [] Ks f e = inputs_before s.callees Ks [] f
inputs_of n h s (g ∷ gs) (L ∷ Ls) Ks f e =
    let t : Printed = and_function n h s L g in
    let more : FromInputs t.callees (Ks ++ L ∷ [])
    = inputs_more s.callees Ks (callee_of n h s L g) L f e refl in
    let as_many : length t.callees ≡ length (Ks ++ L ∷ []) = grind (arith, common_steps) in
    let all : FromInputs (and_functions n h t gs Ls).callees ((Ks ++ L ∷ []) ++ Ls)
    = inputs_of n h t gs Ls (Ks ++ L ∷ []) more as_many in
    let P : List Layout → Type 0 = λ Ms. FromInputs (and_functions n h t gs Ls).callees Ms in
    subst P (append_assoc Ks (L ∷ []) Ls) all

-- of one that is there
pub input_found : (ts : Types) (cs : List Callee) (Ls : List N.Layout) (k : ℕ) (L : N.Layout)
    → FromInputs cs (map (layout_of ts) Ls) → k < length cs → L ≡ get_or Ls k L
    → (callee_at cs k).input ≡ tree_at ts L.input
input_found ts [] Ls k L h lt e = absurd (omega (arith, lt))
input_found ts (c ∷ cs) [] k L h lt e = absurd h
input_found ts (c ∷ cs) (M ∷ Ls) zero L h lt e = h.0 ∙ ap (λ (K : N.Layout). tree_at ts K.input) (sym e)
input_found ts (c ∷ cs) (M ∷ Ls) (suc k) L h lt e = input_found ts cs Ls k L h.1 (omega (arith, lt)) e

-- the functions of a program, over those that compare
pub program_grown : (Ts : List CType) (p : Program) (Cs : List TypeTree) (fs es : List V.Function) (rs : List Called)
    → Cs ≡ with_functions p.functions.items (layouts_of p) []
    → map (function_meant Ts) fs ≡ map (same_function (bounds p) (number_among Cs)) Cs
    → ((s : Printed) → IsGrown Ts (bounds p) s fs []
    → IsGrown Ts (bounds p) (and_functions (bounds p) (number_among Cs) s p.functions.items (layouts_of p)) es rs)
    → IsGrown Ts (bounds p) (printed_of p) es rs
program_grown Ts p Cs fs es rs e same grow =
    let P : List TypeTree → Type 0 = λ Ds.
    map (function_meant Ts) fs ≡ map (same_function (bounds p) (number_among Ds)) Ds
    → ((s : Printed) → IsGrown Ts (bounds p) s fs []
    → IsGrown Ts (bounds p) (and_functions (bounds p) (number_among Ds) s p.functions.items (layouts_of p)) es rs)
    → IsGrown Ts (bounds p) (printed_of p) es rs in
    let at : P (with_functions p.functions.items (layouts_of p) []) = λ f g.
    g (comparing (bounds p) p.functions.items (layouts_of p)) (record { file = f; callees = tt }) in
    subst P (sym e) at same grow

-- those from nothing on go from the inputs of a program's layouts
pub program_inputs : (p : Program) → FromInputs (printed_of p).callees (layouts_of p)
program_inputs p =
    inputs_of (bounds p) (number_among (with_functions p.functions.items (layouts_of p) []))
    (comparing (bounds p) p.functions.items (layouts_of p)) p.functions.items (layouts_of p) [] tt refl
