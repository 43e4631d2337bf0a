-- When the functions of code fit their layouts: a rule a form.
use Rattle.std.specs.Prelude.{◌≡◌, ◌≤◌, ◌^◌, ℕ, List, [], ◌∷◌, ◌++◌, length, take, slice_get, Option, Some, None}
use Rattle.std.specs.declared.vec.Vec.{Vec}
use Rattle.std.specs.declared.alloc.Global.{Global}
use Rattle.sample_core.specs.TypeTree.{TypeTree, unit_ty, int_ty, pair_ty, event_ty, list_ty}
use Rattle.leaf_core.specs.declared.expr.Expr.{Expr}
use Rattle.leaf_core.specs.ExpressionView.{expression_of}
use Rattle.leaf_core.specs.ExpressionTyping.{ExpressionTyped}
use Rattle.leaf_code.specs.CodeOf.{leaf_code}
use Rattle.leaf_code.specs.Fitting.{Bounds, ListsWithin}
use Rattle.cell_core.specs.declared.form.Form.{Form}
use Rattle.cell_core.specs.declared.form.Form.TheVariants as C
use Rattle.net_code.specs.Running.{AllBelow}
use Rattle.net_code.specs.declared.statement.Function.{Function}
use Rattle.net_code.specs.declared.statement.Function.TheVariants as F
use Rattle.code_fits.specs.Layouts.{Layout, layout}

-- a cell of a form that keeps values of a type goes from one type to another
pub data CellTyped : Form → TypeTree → TypeTree → TypeTree → Type 0 where
  i_pre_typed : {T : TypeTree} → CellTyped C.IPre T T T
  delay_typed : {q : ℕ} {T : TypeTree} → 1 ≤ q → q ≤ 4096 → CellTyped (C.Delay q) T T T
  hold_typed : {T : TypeTree} → CellTyped C.Hold T (event_ty T) T
  after_typed : {q : ℕ} {T A : TypeTree} → q ≤ 2 ^ 62 → CellTyped (C.After q) T A (event_ty T)
  repeatedly_typed : {q : ℕ} {T A : TypeTree} → 1 ≤ q → q ≤ 2 ^ 62
      → CellTyped (C.Repeatedly q) T A (event_ty T)

-- an expression goes from A to B, and the lists that its code makes are within their bounds
pub record LeafTyped (bound : Bounds) (Ps : List TypeTree) (e : Expr) (A B : TypeTree) : Type 0 where
  pub typed : ExpressionTyped (expression_of e) Ps A B
  pub lists : ListsWithin bound (leaf_code Ps A (expression_of e)).0

-- function j goes from A to B, with parameters of types Ps and frozen networks of functions Os in
-- scope
pub data Goes (Ls : List Layout) (j : ℕ) (Ps : List TypeTree) (Os : List ℕ) (A B : TypeTree)
    : Type 0 where
  goes : {Ts : List TypeTree} {K : Option TypeTree}
      → slice_get Ls j ≡ Some (layout Ps Os A B Ts K) → Goes Ls j Ps Os A B

-- each of them does
pub data AllGo (Ls : List Layout) (Ps : List TypeTree) (Os : List ℕ) (A B : TypeTree)
    : List ℕ → Type 0 where
  none_go : AllGo Ls Ps Os A B []
  one_goes : {j : ℕ} {js : List ℕ} → Goes Ls j Ps Os A B → AllGo Ls Ps Os A B js
      → AllGo Ls Ps Os A B (j ∷ js)

-- a function fits its layout, over those of earlier ones; one rule a form
pub data FunctionFits (bound : Bounds) (Ls : List Layout) : Layout → Function → Type 0 where
  arr_fits : {Ps : List TypeTree} {Os : List ℕ} {A B : TypeTree} {e : Expr}
      → LeafTyped bound Ps e A B
      → FunctionFits bound Ls (layout Ps Os A B (B ∷ []) None) (F.Arr e)
  seq_fits : {Ps : List TypeTree} {Os : List ℕ} {A B D : TypeTree} {f g : ℕ}
      → Goes Ls f Ps Os A B → Goes Ls g Ps Os B D
      → FunctionFits bound Ls (layout Ps Os A D (B ∷ D ∷ []) None) (F.Seq f g)
  first_fits : {Ps : List TypeTree} {Os : List ℕ} {A B D : TypeTree} {f : ℕ}
      → Goes Ls f Ps Os A B
      → FunctionFits bound Ls
      (layout Ps Os (pair_ty A D) (pair_ty B D) (A ∷ B ∷ D ∷ pair_ty B D ∷ []) None) (F.First f)
  par_fits : {Ps : List TypeTree} {Os : List ℕ} {A B : TypeTree} {fs : Vec ℕ Global}
      → AllGo Ls Ps Os A B fs.items → length fs.items ≤ bound B
      → FunctionFits bound Ls (layout Ps Os A (list_ty B) (list_ty B ∷ []) None) (F.Par fs)
  loop_fits : {Ps : List TypeTree} {Os : List ℕ} {A B V : TypeTree} {c : Expr} {f : ℕ}
      → LeafTyped bound Ps c unit_ty V → Goes Ls f Ps Os (pair_ty A V) (pair_ty B V)
      → FunctionFits bound Ls
      (layout Ps Os A B (V ∷ V ∷ pair_ty A V ∷ pair_ty B V ∷ V ∷ B ∷ []) (Some V)) (F.Loop c f)
  cell_fits : {Ps : List TypeTree} {Os : List ℕ} {A B V : TypeTree} {form : Form} {c : Expr}
      → LeafTyped bound Ps c unit_ty V → CellTyped form V A B
      → FunctionFits bound Ls (layout Ps Os A B (V ∷ B ∷ []) (Some V)) (F.Cell form c)
  time_fits : {Ps : List TypeTree} {Os : List ℕ} {A : TypeTree}
      → FunctionFits bound Ls (layout Ps Os A int_ty (int_ty ∷ []) None) (F.Clock C.Time)
  integral_fits : {Ps : List TypeTree} {Os : List ℕ}
      → FunctionFits bound Ls (layout Ps Os int_ty int_ty (int_ty ∷ []) None) (F.Clock C.Integral)
  accum_fits : {Ps : List TypeTree} {Os : List ℕ} {U V : TypeTree} {g z : Expr}
      → LeafTyped bound Ps z unit_ty V → LeafTyped bound Ps g (pair_ty V U) V
      → FunctionFits bound Ls
      (layout Ps Os (event_ty U) (event_ty V) (V ∷ event_ty V ∷ []) (Some V)) (F.Accum g z)
  switch_fits : {Ps : List TypeTree} {Os : List ℕ} {A B V : TypeTree} {f t : ℕ}
      → Goes Ls f Ps Os A (pair_ty B (event_ty V)) → Goes Ls t (Ps ++ V ∷ []) Os A B
      → FunctionFits bound Ls
      (layout Ps Os A B (B ∷ pair_ty B (event_ty V) ∷ B ∷ event_ty V ∷ B ∷ B ∷ []) (Some V))
      (F.Switch f t)
  d_switch_fits : {Ps : List TypeTree} {Os : List ℕ} {A B V : TypeTree} {f t : ℕ}
      → Goes Ls f Ps Os A (pair_ty B (event_ty V)) → Goes Ls t (Ps ++ V ∷ []) Os A B
      → FunctionFits bound Ls
      (layout Ps Os A B (B ∷ pair_ty B (event_ty V) ∷ B ∷ event_ty V ∷ B ∷ B ∷ B ∷ []) (Some V))
      (F.DSwitch f t)
  r_switch_fits : {Ps : List TypeTree} {Os : List ℕ} {A B V : TypeTree} {f t : ℕ}
      → Goes Ls f Ps Os A B → Goes Ls t (Ps ++ V ∷ []) Os A B
      → FunctionFits bound Ls
      (layout Ps Os (pair_ty A (event_ty V)) B (A ∷ event_ty V ∷ B ∷ B ∷ []) (Some V))
      (F.RSwitch f t)
  dr_switch_fits : {Ps : List TypeTree} {Os : List ℕ} {A B V : TypeTree} {f t : ℕ}
      → Goes Ls f Ps Os A B → Goes Ls t (Ps ++ V ∷ []) Os A B
      → FunctionFits bound Ls
      (layout Ps Os (pair_ty A (event_ty V)) B (A ∷ event_ty V ∷ B ∷ B ∷ B ∷ B ∷ []) (Some V))
      (F.DrSwitch f t)
  k_switch_fits : {Ps : List TypeTree} {Os : List ℕ} {A B V : TypeTree} {f e t : ℕ}
      → Goes Ls f Ps Os A B → Goes Ls e Ps Os (pair_ty A B) (event_ty V)
      → Goes Ls t (Ps ++ V ∷ []) (Os ++ f ∷ []) A B
      → FunctionFits bound Ls
      (layout Ps Os A B (B ∷ B ∷ pair_ty A B ∷ event_ty V ∷ B ∷ B ∷ []) (Some V)) (F.KSwitch f e t)
  p_switch_fits : {Ps : List TypeTree} {Os : List ℕ} {A B D V : TypeTree} {r : Expr}
      {fs : Vec ℕ Global} {e t : ℕ}
      → LeafTyped bound Ps r (pair_ty A int_ty) D → AllGo Ls Ps Os D B fs.items
      → length fs.items ≤ bound B → length fs.items ≤ 64
      → Goes Ls e Ps Os (pair_ty A (list_ty B)) (event_ty V)
      → Goes Ls t (Ps ++ V ∷ []) (Os ++ fs.items) A (list_ty B)
      → FunctionFits bound Ls
      (layout Ps Os A (list_ty B)
      (list_ty B ∷ list_ty B ∷ pair_ty A (list_ty B) ∷ event_ty V ∷ list_ty B ∷ list_ty B ∷ [])
      (Some V)) (F.PSwitch r fs e t)
  old_fits : {Ps : List TypeTree} {Os : List ℕ} {A B : TypeTree} {k f n m : ℕ}
      → slice_get Os k ≡ Some f → Goes Ls f (take n Ps) (take m Os) A B
      → FunctionFits bound Ls (layout Ps Os A B (B ∷ []) None) (F.Old k f n m)
  same_fits : {Ps : List TypeTree} {Os : List ℕ} {A : TypeTree}
      → FunctionFits bound Ls (layout Ps Os A A (A ∷ []) None) F.Same
  initial_out_fits : {Ps : List TypeTree} {Os : List ℕ} {A B : TypeTree} {c : Expr} {f : ℕ}
      → LeafTyped bound Ps c unit_ty B → Goes Ls f Ps Os A B
      → FunctionFits bound Ls (layout Ps Os A B (B ∷ B ∷ B ∷ []) None) (F.InitialOut c f)
  initial_in_fits : {Ps : List TypeTree} {Os : List ℕ} {A B : TypeTree} {c : Expr} {f : ℕ}
      → LeafTyped bound Ps c unit_ty A → Goes Ls f Ps Os A B
      → FunctionFits bound Ls (layout Ps Os A B (A ∷ A ∷ B ∷ []) None) (F.InitialIn c f)
  collection_fits : {Ps : List TypeTree} {Os : List ℕ} {A B U V : TypeTree} {fs : Vec ℕ Global}
      {m : Expr} {t : ℕ}
      → AllGo Ls Ps Os A B fs.items → length fs.items ≤ 64 → 64 ≤ bound B
      → LeafTyped bound Ps m U (pair_ty (list_ty int_ty) (list_ty V))
      → Goes Ls t (Ps ++ V ∷ []) Os A B
      → FunctionFits bound Ls
      (layout Ps Os (pair_ty A (event_ty U)) (list_ty B) (list_ty B ∷ []) (Some V))
      (F.Collection fs m t)

-- functions fit their layouts, each beside the earlier ones, behind these; what is frozen are
-- earlier functions
abbrev pub CodeFits : Bounds → List Layout → List Function → List Layout → Type 0
CodeFits bound Ls [] [] = Unit {0}
CodeFits bound Ls (f ∷ fs) (M ∷ Ms) =
    FunctionFits bound Ls M f × AllBelow (length Ls) M.olds
    × CodeFits bound (Ls ++ M ∷ []) fs Ms
CodeFits bound Ls fs Ms = ⊥
