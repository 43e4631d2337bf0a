-- The C of a program outputs its network's stream.
use Rattle.std.proofs.Common.{◌≡◌, ◌≤◌, ◌<◌, ◌+◌, ◌-◌, ◌^◌, ℕ, zero, suc, Bool, true, false, List, [], ◌∷◌, ◌++◌, map, length, Some, refl, sym, ap, ap₂, ◌∙◌, arith, subst, append-nil, append_assoc, length-append}
use Rattle.std.specs.Prelude.{slice_get, if◌then◌else◌}
use Rattle.sample_core.specs.TypeTree.{TypeTree, unit_ty, bool_ty, int_ty, pair_ty, event_ty, list_ty}
use Rattle.leaf_core.specs.TypeLimits.{same_tree}
use Rattle.leaf_core.specs.ExpressionView.{expression_of}
use Rattle.leaf_code.specs.Fitting.{Bounds}
use Rattle.leaf_code.specs.CodeOf.{leaf_code, type_at}
use Rattle.leaf_code.proofs.Values.{get-front}
use Rattle.net_tree.specs.NetworkView.{tree}
use Rattle.net_meaning.specs.SignalFunction.{TimedList}
use Rattle.net_meaning.specs.TypedNetwork.{TypedNetwork, NetTyped, HasItsTypes, stream_of}
use Rattle.net_machine.specs.Store.{nothing}
use Rattle.net_code.specs.declared.statement.Function.{Function}
use Rattle.net_code.specs.Running.{Given, body_step, nothing_given, latest, run_code, AllBelow}
use Rattle.net_code.specs.Running as N
use Rattle.net_code.specs.CodeView.{body_of, code_in}
use Rattle.net_code.specs.CodeLaw.{value_in}
use Rattle.net_code.proofs.Links.{get-next}
use Rattle.net_code.proofs.Streams.{code_law}
use Rattle.code_fits.specs.declared.layout.Program.{Program}
use Rattle.code_fits.specs.Layouts.{Layout}
use Rattle.code_fits.specs.Rules.{FunctionFits, CodeFits}
use Rattle.code_fits.specs.Tables.{trees_at, layout_of, beside}
use Rattle.code_fits.specs.Programs.{IsWhole, IsProgramOf}
use Rattle.code_fits.proofs.Room.{samples-fit}
use Rattle.code_fits.proofs.RuleTests.{callee-goes}
use Rattle.c_meaning.specs.Object.{Object, truth, end, has_type, zeros}
use Rattle.c_meaning.specs.Syntax.{File}
use Rattle.c_meaning.specs.Syntax as C
use Rattle.c_meaning.specs.Meaning.{Linked, function_run}
use Rattle.c_leaf.specs.Representing.{two}
use Rattle.c_leaf.specs.LeafC.{has_no_list, same_function}
use Rattle.c_leaf.specs.LeafCLaw.{FewElements}
use Rattle.c_leaf.proofs.LeafC.{leaf_c_law, constant_law}
use Rattle.c_forms.specs.Keeping.{Shape, shape_type}
use Rattle.c_forms.specs.Standing.{Right}
use Rattle.c_file.specs.Compared.{Leaf, constant, at_input, leaves_of, input_of, code_of_leaf, number_among}
use Rattle.c_file.specs.FunctionC.{Callee, callee_at, number_at, shape_at, olds, shape_of, helpers_c, step_c, leaf_c, before_step}
use Rattle.c_file.specs.ProgramC.{Printed, callee_of, and_function, and_functions, state_type, init_function, step_function, checked_step, compared, comparing, printed, whole, c_with, c_of_code, checked_code, layouts_of, whole_of, c_of_program, checked_program, step_number}
use Rattle.c_file.specs.Samples.{Handed, Hands, Outputs, Calls, calls_none, calls_first, calls_next, calls_early, Answers}
use Rattle.c_file.specs.FileLaw.{bounds, c_function, FileLaw, CheckedFileLaw, HandsLaw}
use Rattle.c_file.specs.Guarded.{guarded_step, tested, testing_number, testing, guarded_program, guarded_number, Offers, offers_none, offers_first, offers_next, offers_early, offers_long, GuardedFileLaw}
use Rattle.c_file.proofs.Links.{function_of, same, next}
use Rattle.c_file.proofs.Guarded.{guarded-starts}
use Rattle.c_file.proofs.TypeFunctions.{no-yes, Closed, closed_none, with-one, PartsDone, all-done}
use Rattle.c_leaf.specs.Within.{Tests, PartsTested, within_function}
use Rattle.c_leaf.proofs.Within.{no-list, within_law}
use Rattle.c_file.proofs.Compared.{AllAmong, LeavesAmong, FunctionsAmong, functions-grow, functions-among, AllCompared, steps-compared, file-compares}
use Rattle.c_file.proofs.Functions.{LeafDone, LeavesDone, Done, At, at-more, helpers-done, right}
use Rattle.c_file.proofs.Handing.{zeros-have, hands-for}
use Rattle.c_file.proofs.Entries.{init-runs, starts, checked-starts}

-- what stands at a place of a list with one more
by-place : {X : Type 0} {P : Type 0} (xs : List X) (y : X) (j : ℕ) (z : X) → slice_get (xs ++ y ∷ []) j ≡ Some z → (j < length xs → slice_get xs j ≡ Some z → P)
    → (j ≡ length xs → y ≡ z → P) → P
by-place [] y zero z e a b = b refl cc
by-place [] y (suc j) z e a b = absurd (grind arith)
by-place (x ∷ xs) y zero z e a b = a (omega arith) e
by-place (x ∷ xs) y (suc j) z e a b = by-place xs y j z e (λ l h. a (omega arith) h) (λ h k. b (ap suc h) k)

below-more : (n k : ℕ) (js : List ℕ) → n ≤ k → AllBelow n js → AllBelow k js
below-more n k [] l h = tt
below-more n k (j ∷ js) l h = let i : j < n = h.0 in (omega arith, below-more n k js l h.1)

-- a C function that does a step, as it is seen elsewhere
moved : (n : Bounds) (Ps : List TypeTree) (A B : TypeTree) {Os Us : List Shape} {S T : Shape} {f h : N.Linked} {c d : Linked} → Os ≡ Us → S ≡ T → f ≡ h → c ≡ d
    → Right n Ps Us T A B h d → Right n Ps Os S A B f c
moved n Ps A B {Os} {Us} {S} {T} {f} {h} {c} {d} o s e k r =
    subst (λ u. Right n Ps u S A B f c) (sym o) (subst (λ u. Right n Ps Us u A B f c) (sym s) (subst (λ u. Right n Ps Us T A B u c) (sym e) (subst (λ u. Right n Ps Us T A B h u) (sym k) r)))

-- with one callee more, the earlier ones are the same
shapes-same : (cs ds : List Callee) (js : List ℕ) → AllBelow (length cs) js → map (shape_at (cs ++ ds)) js ≡ map (shape_at cs) js
shapes-same cs ds [] l = refl
shapes-same cs ds (j ∷ js) l = ap₂ (λ (c : Callee) (Us : List Shape). c.shape ∷ Us) (get-front cs ds j _ l.0) (shapes-same cs ds js l.1)

module _ (n : Bounds) (few : FewElements n) (W : List TypeTree) where
  -- files that begin with the functions that compare
  abbrev Begun : File → Type 0
  Begun a = (b : File) × (a ≡ map (same_function n (number_among W)) W ++ b)

  begun-more : (a b : File) → Begun a → Begun (a ++ b)
  begun-more a b h = (h.0 ++ b, ap (λ (c : File). c ++ b) h.1 ∙ append_assoc (map (same_function n (number_among W)) W) h.0 b)

  module _ (all : (b : File) → AllCompared n W (function_of (map (same_function n (number_among W)) W ++ b))) where
    compared-in : (a : File) → Begun a → AllCompared n W (function_of a)
    compared-in a h = subst (λ (c : File). AllCompared n W (function_of c)) (sym h.1) (all h.0)

    -- an expression's function, over a file
    leaf-done : (Ps : List TypeTree) (l : Leaf) (a : File) → Begun a → AllAmong (type_at (input_of l) (code_of_leaf Ps l).0) W (code_of_leaf Ps l).0
        → LeafDone n Ps l (function_run (function_of a) (leaf_c n (number_among W) Ps l))
    leaf-done Ps (constant e) a h m = λ B t.
        constant_law n (function_of a) (number_among W) (expression_of e) Ps B few t.typed t.lists
        (steps-compared n W (function_of a) (compared-in a h) (type_at unit_ty (leaf_code Ps unit_ty (expression_of e)).0) (leaf_code Ps unit_ty (expression_of e)).0 (unit_ty ∷ []) (λ k. refl) m)
    leaf-done Ps (at_input A e) a h m = λ B t.
        leaf_c_law n (function_of a) (number_among W) (expression_of e) Ps A B few t.typed t.lists
        (steps-compared n W (function_of a) (compared-in a h) (type_at A (leaf_code Ps A (expression_of e)).0) (leaf_code Ps A (expression_of e)).0 (A ∷ []) (λ k. refl) m)

    -- those of expressions stand in a file
    leaves-done : (Ps : List TypeTree) (ls : List Leaf) (a rest : File) (k : ℕ) → k ≡ length a → Begun a → LeavesAmong W Ps ls
        → LeavesDone n Ps (function_of (a ++ (map (leaf_c n (number_among W) Ps) ls ++ rest))) k ls
    leaves-done Ps [] a rest k e h m = tt
    leaves-done Ps (l ∷ ls) a rest k e h m =
        let g : C.Function = leaf_c n (number_among W) Ps l in
        let more : File = map (leaf_c n (number_among W) Ps) ls ++ rest in
        let p : length (a ++ g ∷ []) ≡ length a + 1 = length-append a (g ∷ []) in (
          subst (LeafDone n Ps l) (sym (ap (function_of (a ++ g ∷ more)) e ∙ next a g more)) (leaf-done Ps l a h m.0),
          subst (λ (c : File). LeavesDone n Ps (function_of c) (suc k) ls) (append_assoc a (g ∷ []) more)
              (leaves-done Ps ls (a ++ g ∷ []) rest (suc k) (omega arith) (begun-more a (g ∷ []) h) m.1),
        )

    -- the functions of a file do what those of the code do
    record Env (s : Printed) (hs : List N.Linked) (Ls : List Layout) : Type 0 where
      many_callees : length s.callees ≡ length Ls
      many_steps : length hs ≡ length Ls
      begun : Begun s.file
      below : (j : ℕ) (L : Layout) → slice_get Ls j ≡ Some L → AllBelow (length Ls) L.olds
      output : (j : ℕ) (L : Layout) → slice_get Ls j ≡ Some L → (callee_at s.callees j).output ≡ L.output
      at : At n few s.callees Ls (N.numbered hs) s.file

    module _ (s : Printed) (hs : List N.Linked) (Ls : List Layout) (env : Env s hs Ls) (L : Layout) (f : Function) (fits : FunctionFits n Ls L f) (low : AllBelow (length Ls) L.olds)
        (among : LeavesAmong W L.params (leaves_of L f)) where
      abbrev cs : List Callee
      cs = s.callees

      abbrev it : Callee
      it = callee_of n (number_among W) s L f

      abbrev t : Printed
      t = and_function n (number_among W) s L f

      abbrev h : N.Linked
      h = body_step value_in (N.numbered hs) (body_of f)

      abbrev leaves : File
      leaves = map (leaf_c n (number_among W) L.params) (leaves_of L f)

      abbrev before : File
      before = before_step n (number_among W) cs L (length s.file) f

      abbrev g : C.Function
      g = step_c cs L n (length s.file) f

      -- its expressions are done behind the file, with whatever follows
      expressions : (rest : File) → LeavesDone n L.params (function_of (s.file ++ (leaves ++ rest))) (length s.file) (leaves_of L f)
      expressions rest = leaves-done L.params (leaves_of L f) s.file rest (length s.file) refl env.begun among

      -- the new function
      newest-does : Done n L.params (olds cs L) (shape_of cs L f) L.input L.output h (function_run (function_of (s.file ++ before)) g)
      newest-does =
          right n few cs Ls (N.numbered hs) (s.file ++ before) (at-more n few cs Ls (N.numbered hs) s.file before env.at) L f fits (length s.file)
          (expressions (helpers_c cs L n (length s.file) f))
          (helpers-done n few cs Ls (N.numbered hs) (number_among W) L f fits s.file env.at
          (subst (λ (c : File). LeavesDone n L.params (function_of (s.file ++ c)) (length s.file) (leaves_of L f)) (append-nil leaves) (expressions [])))

      newest-is : function_of t.file it.number ≡ function_run (function_of (s.file ++ before)) g
      newest-is =
          let k : length (s.file ++ before) ≡ length s.file + length before = length-append s.file before in
          ap₂ function_of (sym (append_assoc s.file before (g ∷ []))) (sym k) ∙ next (s.file ++ before) g []

      and-one : Env t (hs ++ h ∷ []) (Ls ++ L ∷ [])
      and-one =
          let e1 : length cs ≡ length Ls = env.many_callees in
          let e2 : length hs ≡ length Ls = env.many_steps in
          let q0 : length (Ls ++ L ∷ []) ≡ length Ls + 1 = length-append Ls (L ∷ []) in
          let q1 : length (cs ++ it ∷ []) ≡ length cs + 1 = length-append cs (it ∷ []) in
          let q2 : length (hs ++ h ∷ []) ≡ length hs + 1 = length-append hs (h ∷ []) in
          let q3 : length t.file ≡ length s.file + length (before ++ g ∷ []) = length-append s.file (before ++ g ∷ []) in
          let q4 : length (before ++ g ∷ []) ≡ length before + 1 = length-append before (g ∷ []) in
          let old : (j : ℕ) → j < length Ls → callee_at (cs ++ it ∷ []) j ≡ callee_at cs j = λ j i. get-front cs (it ∷ []) j _ (omega arith) in
          let new : (j : ℕ) → j ≡ length Ls → callee_at (cs ++ it ∷ []) j ≡ it = λ j i. ap (callee_at (cs ++ it ∷ [])) (i ∙ sym e1) ∙ get-next cs it [] _ in
          record {
            many_callees = omega arith;
            many_steps = omega arith;
            begun = begun-more s.file (before ++ g ∷ []) env.begun;
            below = λ j M e. by-place Ls L j M e
                (λ i u. below-more (length Ls) (length (Ls ++ L ∷ [])) M.olds (omega arith) (env.below j M u))
                (λ i u. subst (λ (K : Layout). AllBelow (length (Ls ++ L ∷ [])) K.olds) u (below-more (length Ls) (length (Ls ++ L ∷ [])) L.olds (omega arith) low));
            output = λ j M e. by-place Ls L j M e
                (λ i u. ap (λ (c : Callee). c.output) (old j i) ∙ env.output j M u)
                (λ i u. ap (λ (c : Callee). c.output) (new j i) ∙ ap (λ (K : Layout). K.output) u);
            at = record {
              placed = λ j M e. by-place Ls L j M e
                  (λ i u.
                  let a : number_at (cs ++ it ∷ []) j ≡ number_at cs j = ap (λ (c : Callee). c.number) (old j i) in
                  let b : number_at cs j < length s.file = env.at.placed j M u in
                  omega arith)
                  (λ i u. let a : number_at (cs ++ it ∷ []) j ≡ length s.file + length before = ap (λ (c : Callee). c.number) (new j i) in omega arith);
              input = λ j M e. by-place Ls L j M e
                  (λ i u. ap (λ (c : Callee). c.input) (old j i) ∙ env.at.input j M u)
                  (λ i u. ap (λ (c : Callee). c.input) (new j i) ∙ ap (λ (K : Layout). K.input) u);
              does = λ j M e. by-place Ls L j M e
                  (λ i u. moved n M.params M.input M.output
                  (shapes-same cs (it ∷ []) M.olds (subst (λ k. AllBelow k M.olds) (sym e1) (env.below j M u)))
                  (ap (λ (c : Callee). c.shape) (old j i))
                  (get-front hs (h ∷ []) j N.nothing_done (omega arith))
                  (ap (λ (c : Callee). function_of t.file c.number) (old j i) ∙ same s.file (before ++ g ∷ []) (number_at cs j) (env.at.placed j M u))
                  (env.at.does j M u))
                  (λ i u. subst (λ (K : Layout). Right n K.params (olds (cs ++ it ∷ []) K) (shape_at (cs ++ it ∷ []) j) K.input K.output (N.numbered (hs ++ h ∷ []) j) (function_of t.file (number_at (cs ++ it ∷ []) j))) u
                  (moved n L.params L.input L.output
                  (shapes-same cs (it ∷ []) L.olds (subst (λ k. AllBelow k L.olds) (sym e1) low))
                  (ap (λ (c : Callee). c.shape) (new j i))
                  (ap (N.numbered (hs ++ h ∷ [])) (i ∙ sym e2) ∙ get-next hs h [] N.nothing_done)
                  (ap (λ (c : Callee). function_of t.file c.number) (new j i) ∙ newest-is)
                  newest-does.right));
            };
          }

    all-do : (s : Printed) (hs : List N.Linked) (Ls : List Layout) (fs : List Function) (Ms : List Layout) → Env s hs Ls → CodeFits n Ls fs Ms → FunctionsAmong W fs Ms
        → Env (and_functions n (number_among W) s fs Ms) (N.link value_in hs (code_in fs)) (Ls ++ Ms)
    all-do s hs Ls [] [] env c m = subst (Env s hs) (sym (append-nil Ls)) env
    all-do s hs Ls [] (M ∷ Ms) env c m = absurd c
    all-do s hs Ls (f ∷ fs) [] env c m = absurd c
    all-do s hs Ls (f ∷ fs) (M ∷ Ms) env c m =
        let h : N.Linked = body_step value_in (N.numbered hs) (body_of f) in
        let t : Printed = and_function n (number_among W) s M f in
        subst (Env (and_functions n (number_among W) t fs Ms) (N.link value_in (hs ++ h ∷ []) (code_in fs))) (append_assoc Ls (M ∷ []) Ms)
        (all-do t (hs ++ h ∷ []) (Ls ++ M ∷ []) fs Ms (and-one s hs Ls env M f c.0 c.1 m.0) c.2 m.1)

nowhere : {X : Type 0} {P : Type 0} {x : X} (j : ℕ) → slice_get [] j ≡ Some x → P
nowhere j e = absurd (grind arith)

-- as many layouts as functions
as-many : (n : Bounds) (Ls : List Layout) (fs : List Function) (Ms : List Layout) → CodeFits n Ls fs Ms → length Ms ≡ length (code_in fs)
as-many n Ls [] [] c = refl
as-many n Ls [] (M ∷ Ms) c = absurd c
as-many n Ls (f ∷ fs) [] c = absurd c
as-many n Ls (f ∷ fs) (M ∷ Ms) c = ap suc (as-many n (Ls ++ M ∷ []) fs Ms c.2)

-- small bounds
beside-small : (A : TypeTree) (Ts : List TypeTree) (ns : List ℕ) → AllBelow (2 ^ 32) ns → beside A Ts ns < 2 ^ 32
beside-small A [] ns h = omega arith
beside-small A (T ∷ Ts) [] h = omega arith
beside-small A (T ∷ Ts) (k ∷ ns) h =
    chosen (same_tree T A) k (beside A Ts ns) h.0 (beside-small A Ts ns h.1)
  where
    chosen : (b : Bool) (i j : ℕ) → i < 2 ^ 32 → j < 2 ^ 32 → (if b then i else j) < 2 ^ 32
    chosen true i j l m = l
    chosen false i j l m = m

module _ (n : Bounds) (few : FewElements n) (fs : List Function) (Ls : List Layout) (fits : CodeFits n [] fs Ls) where
  abbrev W : List TypeTree
  W = compared n fs Ls

  abbrev P : Printed
  P = printed n fs Ls

  closed : Closed W
  closed = (functions-grow fs Ls [] closed_none).closed

  -- all functions of the file
  whole-env : Env n few W (file-compares n few W closed) P (N.link value_in [] (code_in fs)) Ls
  whole-env =
      all-do n few W (file-compares n few W closed) (comparing n fs Ls) [] [] fs Ls
      (record {
        many_callees = refl;
        many_steps = refl;
        begun = ([], sym (append-nil (map (same_function n (number_among W)) W)));
        below = λ j L e. nowhere j e;
        output = λ j L e. nowhere j e;
        at = record { placed = λ j L e. nowhere j e; input = λ j L e. nowhere j e; does = λ j L e. nowhere j e };
      })
      fits (functions-among fs Ls [] W closed_none (λ A k. k))

  -- the last one
  record Last (A B : TypeTree) : Type 0 where
    input : (whole n fs Ls).input ≡ A
    output : (whole n fs Ls).output ≡ B
    placed : (whole n fs Ls).number < length P.file
    does : Right n [] [] (whole n fs Ls).shape A B (N.numbered (N.link value_in [] (code_in fs)) (latest (code_in fs))) (function_of P.file (whole n fs Ls).number)

  last : (L : Layout) (A B : TypeTree) → slice_get Ls (latest (code_in fs)) ≡ Some L → L.params ≡ [] → L.olds ≡ [] → L.input ≡ A → L.output ≡ B → Last A B
  last L A B e ps os a b =
      let env = whole-env in
      let k : ℕ = latest (code_in fs) in
      let m : length P.callees ≡ length (code_in fs) = env.many_callees ∙ as-many n [] fs Ls fits in
      let w : whole n fs Ls ≡ callee_at P.callees k = ap (λ i. callee_at P.callees (i - 1)) m in
      let h : N.Linked = N.numbered (N.link value_in [] (code_in fs)) k in
      let c : Linked = function_of P.file (number_at P.callees k) in
      let r0 : Right n L.params (olds P.callees L) (shape_at P.callees k) L.input L.output h c = env.at.does k L e in
      let r1 : Right n L.params (map (shape_at P.callees) []) (shape_at P.callees k) L.input L.output h c = subst (λ js. Right n L.params (map (shape_at P.callees) js) (shape_at P.callees k) L.input L.output h c) os r0 in
      let r2 : Right n [] [] (shape_at P.callees k) L.input L.output h c = subst (λ Us. Right n Us [] (shape_at P.callees k) L.input L.output h c) ps r1 in
      let r3 : Right n [] [] (shape_at P.callees k) A L.output h c = subst (λ T. Right n [] [] (shape_at P.callees k) T L.output h c) a r2 in
      let r4 : Right n [] [] (shape_at P.callees k) A B h c = subst (λ T. Right n [] [] (shape_at P.callees k) A T h c) b r3 in
      record {
        input = ap (λ (c : Callee). c.input) w ∙ env.at.input k L e ∙ a;
        output = ap (λ (c : Callee). c.output) w ∙ env.output k L e ∙ b;
        placed = subst (λ (c : Callee). c.number < length P.file) (sym w) (env.at.placed k L e);
        does = subst (λ (d : Callee). Right n [] [] d.shape A B h (function_of P.file d.number)) (sym w) r4;
      }

  -- the step of the code, and what `init` leaves
  abbrev stepper : N.Linked
  stepper = N.numbered (N.link value_in [] (code_in fs)) (latest (code_in fs))

  abbrev fresh : Object
  fresh = two (truth false) (zeros (shape_type n (whole n fs Ls).shape))

  -- a file that ends with `init` and a function u
  module _ (A B : TypeTree) (d : Last A B) (u : C.Function) where
    abbrev c : Callee
    c = whole n fs Ls

    abbrev a : File
    a = P.file ++ init_function n c.shape ∷ []

    init-is : (s : Object) → has_type (state_type n c.shape) s ≡ true → function_of (c_with n fs Ls u) (length P.file) (s ∷ []) ≡ Some (fresh ∷ [], end)
    init-is s k = ap (λ (f : Linked). f (s ∷ [])) (next P.file (init_function n c.shape) (u ∷ [])) ∙ init-runs n c.shape (function_of P.file) s k

    step-is : function_of (c_with n fs Ls u) (suc (length P.file)) ≡ function_run (function_of a) u
    step-is =
        let l : length a ≡ length P.file + 1 = length-append P.file (init_function n c.shape ∷ []) in
        let here : suc (length P.file) ≡ length a = omega arith in
        ap₂ function_of (sym (append_assoc P.file (init_function n c.shape ∷ []) (u ∷ []))) here ∙ next a u []

    whole-does : Right n [] [] c.shape c.input c.output stepper (function_of a c.number)
    whole-does =
        let r0 : Right n [] [] c.shape A B stepper (function_of a c.number) =
        subst (Right n [] [] c.shape A B stepper) (sym (same P.file (init_function n c.shape ∷ []) c.number d.placed)) d.does in
        let r1 : Right n [] [] c.shape c.input B stepper (function_of a c.number) = subst (λ T. Right n [] [] c.shape T B stepper (function_of a c.number)) (sym d.input) r0 in
        subst (λ T. Right n [] [] c.shape c.input T stepper (function_of a c.number)) (sym d.output) r1

  stepped : (A B : TypeTree) (d : Last A B) (xs : TimedList) (hs : List Handed) → Hands n A B false xs hs
      → Outputs n B (function_of (c_of_code n fs Ls) (suc (length P.file))) fresh hs (run_code value_in (code_in fs) nothing xs)
  stepped A B d xs hs hands =
      let c : Callee = whole n fs Ls in
      let u : C.Function = step_function n c in
      let F : ℕ → Linked = function_of (P.file ++ init_function n c.shape ∷ []) in
      let k1 : Hands n c.input B false xs hs = subst (λ T. Hands n T B false xs hs) (sym d.input) hands in
      let k2 : Hands n c.input c.output false xs hs = subst (λ T. Hands n c.input T false xs hs) (sym d.output) k1 in
      let o : Outputs n c.output (function_run F u) fresh hs (run_code value_in (code_in fs) nothing xs) =
      starts n c F stepper (whole-does A B d u) nothing (zeros (shape_type n c.shape)) xs hs (zeros-have (shape_type n c.shape)) k2 in
      subst (λ f. Outputs n B f fresh hs (run_code value_in (code_in fs) nothing xs)) (sym (step-is A B d u))
      (subst (λ T. Outputs n T (function_run F u) fresh hs (run_code value_in (code_in fs) nothing xs)) d.output o)

  answered : (A B : TypeTree) (d : Last A B) (xs : TimedList) (hs : List Handed) → Calls n A B false xs hs
      → Answers n B (function_of (checked_code n fs Ls) (suc (length P.file))) fresh hs (run_code value_in (code_in fs) nothing xs)
  answered A B d xs hs calls =
      let c : Callee = whole n fs Ls in
      let u : C.Function = checked_step n c in
      let F : ℕ → Linked = function_of (P.file ++ init_function n c.shape ∷ []) in
      let k1 : Calls n c.input B false xs hs = subst (λ T. Calls n T B false xs hs) (sym d.input) calls in
      let k2 : Calls n c.input c.output false xs hs = subst (λ T. Calls n c.input T false xs hs) (sym d.output) k1 in
      let o : Answers n c.output (function_run F u) fresh hs (run_code value_in (code_in fs) nothing xs) =
      checked-starts n c F stepper (whole-does A B d u) nothing (zeros (shape_type n c.shape)) xs hs (zeros-have (shape_type n c.shape)) k2 in
      subst (λ f. Answers n B f fresh hs (run_code value_in (code_in fs) nothing xs)) (sym (step-is A B d u))
      (subst (λ T. Answers n T (function_run F u) fresh hs (run_code value_in (code_in fs) nothing xs)) d.output o)

  -- without lists no call has one that is too long
  as-calls : (A B : TypeTree) → has_no_list A ≡ true → (b : Bool) (xs : TimedList) (hs : List Handed) → Offers n A B b xs hs → Calls n A B b xs hs
  as-calls A B l b xs hs offers_none = calls_none
  as-calls A B l b xs hs (offers_first {xs = ys} {hs = gs} f x y rest) = calls_first f x y (as-calls A B l true ys gs rest)
  as-calls A B l b xs hs (offers_next {xs = ys} {hs = gs} a e x y rest) = calls_next a e x y (as-calls A B l true ys gs rest)
  as-calls A B l b xs hs (offers_early {hs = gs} f e x y rest) = calls_early f e x y (as-calls A B l true xs gs rest)
  as-calls A B l b xs hs (offers_long f x y rest) = absurd (no-yes (sym (no-list n A l x)))

  -- a file with the guarded step, where its input has lists
  module _ (A B : TypeTree) (d : Last A B) where
    abbrev main : Callee
    main = whole n fs Ls

    abbrev code : File
    code = checked_code n fs Ls

    abbrev last_of_code : ℕ
    last_of_code = suc (length P.file)

    abbrev number : TypeTree → ℕ
    number = testing_number main.input (length code)

    abbrev tests : File
    tests = testing n main.input (length code)

    abbrev guarded : C.Function
    guarded = guarded_step n main (number main.input) last_of_code

    abbrev with-guarded : Bool → File
    with-guarded b = if b then code else code ++ (tests ++ guarded ∷ [])

    code-length : length code ≡ suc last_of_code
    code-length = let l : length code ≡ length P.file + 2 = length-append P.file (init_function n main.shape ∷ checked_step n main ∷ []) in omega (arith, l)

    parts : (F : ℕ → Linked) (T : TypeTree) → PartsDone (Tests n) number F T → PartsTested n F number T
    parts F unit_ty h = h
    parts F bool_ty h = h
    parts F int_ty h = h
    parts F (pair_ty C D) h = h
    parts F (event_ty C) h = h
    parts F (list_ty C) h = h

    input-tested : has_no_list main.input ≡ false → Tests n main.input (function_of (code ++ tests) (number main.input))
    input-tested l =
        let w = with-one main.input [] closed_none in
        subst (λ (a : File). Tests n main.input (function_of (code ++ a) (number main.input))) (append-nil tests)
        (all-done (within_function n) (Tests n) code (tested main.input) number (λ T. refl) (λ F T h. within_law n F number T few (parts F T h)) w.closed [] main.input (w.among l))

    -- what stands in the checked file stands there too
    stands : (b : Bool) (k : ℕ) → k < length code → function_of (with-guarded b) k ≡ function_of code k
    stands true k l = refl
    stands false k l = same code (tests ++ guarded ∷ []) k l

    last-place : (a b : File) (g : C.Function) → length (a ++ (b ++ g ∷ [])) - 1 ≡ length (a ++ b)
    last-place a b g =
        let l : length (a ++ (b ++ g ∷ [])) ≡ length a + length (b ++ g ∷ []) = length-append a (b ++ g ∷ []) in
        let m : length (b ++ g ∷ []) ≡ length b + 1 = length-append b (g ∷ []) in
        let k : length (a ++ b) ≡ length a + length b = length-append a b in
        omega (arith, l, m, k)

    guarded-is : function_of (code ++ (tests ++ guarded ∷ [])) (length (code ++ (tests ++ guarded ∷ [])) - 1) ≡ function_run (function_of (code ++ tests)) guarded
    guarded-is = ap₂ function_of (sym (append_assoc code tests (guarded ∷ []))) (last-place code tests guarded) ∙ next (code ++ tests) guarded []

    guards : (xs : TimedList) (hs : List Handed) → Offers n A B false xs hs → (b : Bool) → has_no_list main.input ≡ b
        → Answers n B (function_of (with-guarded b) (length (with-guarded b) - 1)) fresh hs (run_code value_in (code_in fs) nothing xs)
    guards xs hs offers true e =
        let l : length code ≡ suc last_of_code = code-length in
        let k : length code - 1 ≡ last_of_code = omega (arith, l) in
        subst (λ j. Answers n B (function_of code j) fresh hs (run_code value_in (code_in fs) nothing xs)) (sym k)
        (answered A B d xs hs (as-calls A B (subst (λ T. has_no_list T ≡ true) d.input e) false xs hs offers))
    guards xs hs offers false e =
        let u : C.Function = checked_step n main in
        let F : ℕ → Linked = function_of (P.file ++ init_function n main.shape ∷ []) in
        let l : length code ≡ suc last_of_code = code-length in
        let is : function_of (code ++ tests) last_of_code ≡ function_run F u = same code tests last_of_code (omega (arith, l)) ∙ step-is A B d u in
        let k1 : Offers n main.input B false xs hs = subst (λ T. Offers n T B false xs hs) (sym d.input) offers in
        let k2 : Offers n main.input main.output false xs hs = subst (λ T. Offers n main.input T false xs hs) (sym d.output) k1 in
        let o : Answers n main.output (function_run (function_of (code ++ tests)) guarded) fresh hs (run_code value_in (code_in fs) nothing xs) =
        guarded-starts n main F (function_of (code ++ tests)) (number main.input) last_of_code (input-tested e) is stepper (whole-does A B d u) nothing (zeros (shape_type n main.shape)) xs hs
        (zeros-have (shape_type n main.shape)) k2 in
        subst (λ f. Answers n B f fresh hs (run_code value_in (code_in fs) nothing xs)) (sym guarded-is)
        (subst (λ T. Answers n T (function_run (function_of (code ++ tests)) guarded) fresh hs (run_code value_in (code_in fs) nothing xs)) d.output o)

    guarded-init : (b : Bool) (s : Object) → has_type (state_type n main.shape) s ≡ true → function_of (with-guarded b) (length P.file) (s ∷ []) ≡ Some (fresh ∷ [], end)
    guarded-init b s k =
        let l : length code ≡ suc last_of_code = code-length in
        ap (λ (f : Linked). f (s ∷ [])) (stands b (length P.file) (omega (arith, l))) ∙ init-is A B d (checked_step n main) s k

few-elements : (t : TypedNetwork) (most : ℕ) (p : Program) → IsProgramOf t most p → FewElements (bounds p)
few-elements t most p h = λ T. beside-small (list_ty T) _ p.bounds.items h.small

pub hands_law : HandsLaw
hands_law t most p h xs f =
    let r = hands-for (bounds p) (few-elements t most p h) t.input t.output false xs (samples-fit (bounds p) most t.input false xs h.room f) in
    record { all = r.0; hands = r.1 }

-- a program's last function is the network, and its code outputs the network's stream
last-of : (t : TypedNetwork) (most : ℕ) (p : Program) (h : IsProgramOf t most p) → Last (bounds p) (few-elements t most p h) p.functions.items (layouts_of p) h.layouts t.input t.output
last-of t most p h =
    let w : IsWhole t p.types h.whole.layout = h.whole.whole in
    last (bounds p) (few-elements t most p h) p.functions.items (layouts_of p) h.layouts (layout_of p.types h.whole.layout) t.input t.output
    (callee-goes p.types p.layouts.items (latest (code_in p.functions.items)) h.whole.layout h.whole.last) (ap (trees_at p.types) w.params) w.olds w.input w.output

stream-is : (t : TypedNetwork) (most : ℕ) (p : Program) → HasItsTypes t → IsProgramOf t most p → (xs : TimedList) → run_code value_in (code_in p.functions.items) nothing xs ≡ stream_of t.net xs
stream-is t most p typed h xs =
    let same : tree h.code.0 ≡ t.net = h.code.1 in
    let it : NetTyped [] [] (tree h.code.0) t.input t.output = subst (λ m. NetTyped [] [] m t.input t.output) (sym same) typed in
    ap (λ c. run_code value_in c nothing xs) h.code.2 ∙ code_law h.code.0 t.input t.output it nothing xs ∙ ap (λ m. stream_of m xs) same

pub file_law : FileLaw
file_law t most p typed h s k xs hs hands =
    let few = few-elements t most p h in
    let d = last-of t most p h in
    record {
      state = fresh (bounds p) few p.functions.items (layouts_of p) h.layouts;
      starts = init-is (bounds p) few p.functions.items (layouts_of p) h.layouts t.input t.output d (step_function (bounds p) (whole_of p)) s k;
      outputs = subst (Outputs (bounds p) t.output (c_function (c_of_program p) (step_number p)) (fresh (bounds p) few p.functions.items (layouts_of p) h.layouts) hs) (stream-is t most p typed h xs)
          (stepped (bounds p) few p.functions.items (layouts_of p) h.layouts t.input t.output d xs hs hands);
    }

pub checked_file_law : CheckedFileLaw
checked_file_law t most p typed h s k xs hs calls =
    let few = few-elements t most p h in
    let d = last-of t most p h in
    record {
      state = fresh (bounds p) few p.functions.items (layouts_of p) h.layouts;
      starts = init-is (bounds p) few p.functions.items (layouts_of p) h.layouts t.input t.output d (checked_step (bounds p) (whole_of p)) s k;
      answers = subst (Answers (bounds p) t.output (c_function (checked_program p) (step_number p)) (fresh (bounds p) few p.functions.items (layouts_of p) h.layouts) hs) (stream-is t most p typed h xs)
          (answered (bounds p) few p.functions.items (layouts_of p) h.layouts t.input t.output d xs hs calls);
    }

pub guarded_file_law : GuardedFileLaw
guarded_file_law t most p typed h s k xs hs offers =
    let few = few-elements t most p h in
    let d = last-of t most p h in
    let b : Bool = has_no_list (whole_of p).input in
    record {
      state = fresh (bounds p) few p.functions.items (layouts_of p) h.layouts;
      starts = guarded-init (bounds p) few p.functions.items (layouts_of p) h.layouts t.input t.output d b s k;
      answers = subst (Answers (bounds p) t.output (c_function (guarded_program p) (guarded_number p)) (fresh (bounds p) few p.functions.items (layouts_of p) h.layouts) hs) (stream-is t most p typed h xs)
          (guards (bounds p) few p.functions.items (layouts_of p) h.layouts t.input t.output d xs hs offers b refl);
    }
