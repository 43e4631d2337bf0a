-- The file of a program.
use Rattle.std.proofs.Common.{◌≡◌, ◌-◌, ◌<◌, ℕ, zero, suc, Bool, true, false, List, [], ◌∷◌, ◌++◌, map, length, get_or, refl, ap, sym, ◌∙◌, subst, arith}
use Rattle.std.proofs.lemmas.List.{length-map}
use Rattle.sample_core.specs.TypeTree.{TypeTree}
use Rattle.sample_core.specs.TypeView.{type_of}
use Rattle.sample_core.specs.declared.ty.Ty.{Ty}
use Rattle.leaf_code.specs.Fitting.{Bounds}
use Rattle.code_fits.specs.declared.types.Types.{Types}
use Rattle.code_fits.specs.declared.layout.Layout as N
use Rattle.code_fits.specs.declared.layout.Program.{Program}
use Rattle.code_fits.specs.Tables.{bound_of, layout_of, tree_at}
use Rattle.c_meaning.specs.Object.{CType, truth_type, no_member, member}
use Rattle.c_meaning.specs.Syntax as C
use Rattle.c_text.specs.declared.tree.Function as V
use Rattle.c_text.specs.declared.tree.CType as Y
use Rattle.c_text.specs.declared.tree.Struct.{Struct}
use Rattle.c_text.specs.Meant.{function_meant, structs_meant, type_meant}
use Rattle.c_leaf.specs.LeafC.{same_function}
use Rattle.c_forms.specs.Keeping.{shape_type}
use Rattle.c_file.specs.Compared.{number_among, with_functions}
use Rattle.c_file.specs.FunctionC.{Callee, callee_at}
use Rattle.c_file.specs.ProgramC.{Printed, and_functions, layouts_of, printed_of, state_type, whole_of}
use Rattle.c_file.specs.FileLaw.{bounds}
use Rattle.c_build.specs.declared.frame.Called.{Called}
use Rattle.c_build.specs.declared.ends.Whole.{Whole}
use Rattle.c_build.specs.declared.growing.Setting.{Setting}
use Rattle.c_build.specs.declared.file.Parts.{Parts}
use Rattle.c_build.specs.declared.file.Built.{Built}
use Rattle.c_build.specs.declared.table.Table.{Table}
use Rattle.c_build.specs.Frames.{AreCallees, IsCallee}
use Rattle.c_build.specs.Growing.{FromInputs, IsGrown, IsWhole, compared_by, ended, limits_in, structs_in}
use Rattle.c_build.specs.Types.{Typed}
use Rattle.c_build.specs.Building.{HasParts, IsBuilt, IsSetting, program_with}
use Rattle.c_build.proofs.Knowing.{typed_rows}
use Rattle.c_build.proofs.Callees.{callees_count}
use Rattle.c_build.proofs.Growths.{input_found, program_grown, program_inputs}

-- the numbers of functions
numbers_same : (Ts : List CType) (n : Bounds) (cs : List Callee) (rs : List Called) → AreCallees Ts n cs rs
    → map (λ (r : Called). r.number) rs ≡ map (λ (c : Callee). c.number) cs
numbers_same Ts n [] [] h = refl
numbers_same Ts n [] (r ∷ rs) h = absurd h
numbers_same Ts n (c ∷ cs) [] h = absurd h
numbers_same Ts n (c ∷ cs) (r ∷ rs) h =
    let first = h.0.number in
    let rest = numbers_same Ts n cs rs h.1 in cc

-- the last one, with the struct of the state
pub whole_found : (Ts : List CType) (n : Bounds) (ts : Types) (cs : List Callee) (rs : List Called)
    (Ls : List N.Layout) (k : ℕ) (L : N.Layout) (w : Whole)
    → AreCallees Ts n cs rs → FromInputs cs (map (layout_of ts) Ls) → 0 < length rs → k ≡ length rs - 1
    → IsCallee Ts n (callee_at cs k) w.called → L ≡ get_or Ls k L → type_of w.input ≡ tree_at ts L.input
    → type_meant Ts w.state ≡ member truth_type (member (type_meant Ts w.called.kept) no_member)
    → IsWhole Ts n (callee_at cs (length cs - 1)) w
whole_found Ts n ts cs rs Ls k L w h f some is_last r is_layout is_input is_state =
    let many : length cs ≡ length rs = callees_count Ts n cs rs h in
    let last : k ≡ length cs - 1 = is_last ∙ ap (λ m. m - 1) (sym many) in
    let below : k < length cs = omega (arith, many, is_last, some) in
    let P : ℕ → Type 0 = λ j. IsWhole Ts n (callee_at cs j) w in
    let here : P k = record {
      callee = r;
      input = is_input ∙ sym (input_found ts cs Ls k L f below is_layout);
      state = is_state ∙ ap (λ (A : CType). member truth_type (member A no_member)) r.kept;
    } in
    subst P last here

-- a file with what a program calls is the program's
ended_program : (unchecked : Bool) (p : Program)
    → ended unchecked (bounds p) (whole_of p) (printed_of p).file ≡ program_with unchecked p
ended_program true p = refl
ended_program false p = refl

parts_found : (Ts : List CType) (p : Program) (unchecked : Bool) (r : Parts) (fs : List V.Function)
    (rs : List Called) (w : Whole)
    → IsGrown Ts (bounds p) (printed_of p) fs rs → IsWhole Ts (bounds p) (whole_of p) w
    → map (function_meant Ts) r.functions.items
    ≡ ended unchecked (bounds p) (whole_of p) (map (function_meant Ts) fs)
    → r.init ≡ length fs → r.step ≡ length r.functions.items - 1
    → r.steps.items ≡ map (λ (q : Called). q.number) rs → r.state ≡ w.state
    → HasParts Ts p unchecked r
parts_found Ts p unchecked r fs rs w g h ends is_init is_step is_steps is_state =
    let file : map (function_meant Ts) r.functions.items ≡ program_with unchecked p =
    ends ∙ (ap (ended unchecked (bounds p) (whole_of p)) g.file ∙ ended_program unchecked p) in
    record {
      file = file;
      state = ap (type_meant Ts) is_state ∙ h.state;
      steps = is_steps ∙ numbers_same Ts (bounds p) (printed_of p).callees rs g.callees;
      init = is_init ∙ (sym (length-map fs (function_meant Ts)) ∙ ap length g.file);
      step = is_step
          ∙ ap (λ m. m - 1) (sym (length-map r.functions.items (function_meant Ts)) ∙ ap length file);
    }

-- the bounds of a setting are its program's
setting_limits : (p : Program) (s : Setting) → IsSetting p s → limits_in s ≡ bounds p
setting_limits p s h =
    ap (λ ts. bound_of ts s.known.bounds.now) h.types ∙ ap (bound_of p.types) h.bounds

-- the parts that are built one after the other
pub parts_over : (p : Program) (s : Setting) (unchecked : Bool) (r : Parts) (t : Table)
    (fs es : List V.Function) (rs qs ps : List Called) (w : Whole)
    → IsSetting p s → t ≡ s.known.table → qs ≡ rs → ps ≡ rs
    → map (function_meant (structs_in s)) fs
    ≡ map (same_function (limits_in s) (number_among (compared_by s))) (compared_by s)
    → ((q : Printed) → IsGrown (structs_in s) (limits_in s) q fs []
    → IsGrown (structs_in s) (limits_in s)
    (and_functions (limits_in s) (number_among (compared_by s)) q p.functions.items (layouts_of p)) es rs)
    → ((n : Bounds) (cs : List Callee) → AreCallees (structs_in s) n cs qs → FromInputs cs (layouts_of p)
    → IsWhole (structs_in s) n (callee_at cs (length cs - 1)) w)
    → ((c : Callee) → IsWhole (structs_meant t.structs.now) (limits_in s) c w
    → map (function_meant (structs_meant t.structs.now)) r.functions.items
    ≡ ended unchecked (limits_in s) c (map (function_meant (structs_meant t.structs.now)) es))
    → r.init ≡ length es → r.step ≡ length r.functions.items - 1
    → r.steps.items ≡ map (λ (q : Called). q.number) ps → r.state ≡ w.state
    → HasParts (structs_in s) p unchecked r
parts_over p s unchecked r t fs es rs qs ps w h is_table is_rows is_row same grow find end is_init is_step
    is_steps is_state =
    let Ts : List CType = structs_in s in
    let Cs : List TypeTree = compared_by s in
    let E : Table → Type 0 = λ u. (c : Callee) → IsWhole (structs_meant u.structs.now) (limits_in s) c w
    → map (function_meant (structs_meant u.structs.now)) r.functions.items
    ≡ ended unchecked (limits_in s) c (map (function_meant (structs_meant u.structs.now)) es) in
    let steps : r.steps.items ≡ map (λ (q : Called). q.number) rs
    = is_steps ∙ ap (map (λ (q : Called). q.number)) is_row in
    let P : Bounds → Type 0 = λ n.
    map (function_meant Ts) fs ≡ map (same_function n (number_among Cs)) Cs
    → ((q : Printed) → IsGrown Ts n q fs []
    → IsGrown Ts n (and_functions n (number_among Cs) q p.functions.items (layouts_of p)) es rs)
    → ((c : Callee) → IsWhole Ts n c w
    → map (function_meant Ts) r.functions.items ≡ ended unchecked n c (map (function_meant Ts) es))
    → HasParts Ts p unchecked r in
    let at : P (bounds p) = λ a b d.
    let g : IsGrown Ts (bounds p) (printed_of p) es rs = program_grown Ts p Cs fs es rs h.compared a b in
    let A : List Called → Type 0 = λ xs. AreCallees Ts (bounds p) (printed_of p).callees xs in
    let v : IsWhole Ts (bounds p) (whole_of p) w
    = find (bounds p) (printed_of p).callees (subst A (sym is_rows) g.callees) (program_inputs p) in
    parts_found Ts p unchecked r es rs w g v (d (whole_of p) v) is_init is_step steps is_state in
    subst P (sym (setting_limits p s h)) at same grow (subst E is_table end)

-- a setting of what is known
pub setting_made : (p : Program) (s : Setting) (As : List Y.CType) (Cs : List Ty)
    → Typed (structs_in s) p.types p.bounds.items As
    → s.known.types.now ≡ p.types → s.known.bounds.now ≡ p.bounds.items → s.known.all.now ≡ As
    → s.compared.now ≡ Cs → map type_of Cs ≡ with_functions p.functions.items (layouts_of p) []
    → IsSetting p s
setting_made p s As Cs typed is_types is_bounds is_all is_compared all =
    let A : Types → Type 0 = λ ts. Typed (structs_in s) ts p.bounds.items As in
    let B : List ℕ → Type 0 = λ ms. Typed (structs_in s) s.known.types.now ms As in
    let C : List Y.CType → Type 0 = λ Es. Typed (structs_in s) s.known.types.now s.known.bounds.now Es in
    record {
      known = subst C (sym is_all) (subst B (sym is_bounds) (subst A (sym is_types) typed));
      types = is_types;
      bounds = is_bounds;
      compared = ap (map type_of) is_compared ∙ all;
    }

-- what is built of a program over structs
pub built_of : (p : Program) (unchecked : Bool) (b : Built) (r : Parts) (ss : List Struct) (Cs : List Y.CType)
    → ss ≡ b.file.structs.items → Cs ≡ b.types.items
    → (Typed (structs_meant ss) p.types p.bounds.items Cs → HasParts (structs_meant ss) p unchecked r)
    → Typed (structs_meant ss) p.types p.bounds.items b.types.items
    → length b.types.items ≡ length p.types.trees.items
    → b.file.functions.items ≡ r.functions.items → b.state ≡ r.state → b.steps.items ≡ r.steps.items
    → b.init ≡ r.init → b.step ≡ r.step
    → IsBuilt p unchecked b
built_of p unchecked b r ss Cs is_structs is_types find typed count functions state steps init step =
    let A : List Y.CType → Type 0 = λ As. Typed (structs_meant ss) p.types p.bounds.items As in
    let h : HasParts (structs_meant ss) p unchecked r = find (subst A (sym is_types) typed) in
    let Ts : List CType = structs_meant ss in
    let Us : List CType = structs_meant b.file.structs.items in
    let same : Us ≡ Ts = ap structs_meant (sym is_structs) in
    let many : length b.types.items ≡ length (map type_of p.types.trees.items)
    = count ∙ sym (length-map p.types.trees.items type_of) in
    record {
      file = ap (λ (Vs : List CType). map (function_meant Vs) b.file.functions.items) same
          ∙ (ap (map (function_meant Ts)) functions ∙ h.file);
      types = ap (λ (Vs : List CType). map (type_meant Vs) b.types.items) same
          ∙ typed_rows Ts p.types p.bounds.items b.types.items typed many;
      state = ap (λ (Vs : List CType). type_meant Vs b.state) same ∙ (ap (type_meant Ts) state ∙ h.state);
      steps = steps ∙ h.steps;
      init = init ∙ h.init;
      step = step ∙ h.step;
    }
