-- Types that code compares have functions that compare them.
use Rattle.std.proofs.Common.{◌≡◌, ◌≤◌, ◌<◌, ℕ, zero, suc, Bool, true, false, List, [], ◌∷◌, ◌++◌, map, length, get_or, refl, sym, ap, ◌∙◌, arith, subst, append_assoc}
use Rattle.std.specs.Prelude.{nat_lt}
use Rattle.sample_core.specs.TypeTree.{TypeTree, unit_ty, bool_ty, int_ty, pair_ty, event_ty, list_ty}
use Rattle.leaf_code.specs.Fitting.{Bounds}
use Rattle.leaf_code.specs.Operation.{Operation}
use Rattle.leaf_code.specs.Operation as O
use Rattle.leaf_code.specs.Running.{Step}
use Rattle.leaf_code.specs.CodeOf.{type_at}
use Rattle.leaf_code.proofs.Values.{get-front}
use Rattle.net_code.specs.declared.statement.Function.{Function}
use Rattle.code_fits.specs.Layouts.{Layout}
use Rattle.c_meaning.specs.Syntax.{File}
use Rattle.c_meaning.specs.Meaning.{Linked}
use Rattle.c_leaf.specs.LeafC.{same_function}
use Rattle.c_leaf.specs.LeafCLaw.{FewElements, Compares, IsCompared, PartsCompared, StepCompared, StepsCompared}
use Rattle.c_leaf.proofs.Same.{same_law}
use Rattle.c_file.specs.Compared.{Leaf, input_of, code_of_leaf, leaves_of, number_among, with_operation, with_steps, with_leaves, with_functions}
use Rattle.c_file.proofs.Links.{function_of}
use Rattle.c_file.proofs.TypeFunctions.{Among, More, Closed, with-one, no-yes, PartsDone, all-done}

-- types with those that something compares
pub record Grows (Ts Us : List TypeTree) : Type 0 where
  pub more : More Ts Us
  pub closed : Closed Us

operation-grows : (t : ℕ → TypeTree) (o : Operation) (Ts : List TypeTree) → Closed Ts → Grows Ts (with_operation t o Ts)
operation-grows t (O.equal j k) Ts c = let w = with-one (t j) Ts c in record { more = w.more; closed = w.closed }
operation-grows t _ Ts c = record { more = λ A k. k; closed = c }

steps-grow : (t : ℕ → TypeTree) (ss : List Step) (Ts : List TypeTree) → Closed Ts → Grows Ts (with_steps t ss Ts)
steps-grow t [] Ts c = record { more = λ A k. k; closed = c }
steps-grow t (s ∷ ss) Ts c =
    let a = operation-grows t s.operation Ts c in
    let b = steps-grow t ss (with_operation t s.operation Ts) a.closed in
    record { more = λ A k. b.more A (a.more A k); closed = b.closed }

-- all that steps compare is among types
abbrev StepAmong : (ℕ → TypeTree) → List TypeTree → Operation → Type 0
StepAmong t W (O.equal j k) = Among (t j) W
StepAmong t W o = Unit {0}

abbrev pub AllAmong : (ℕ → TypeTree) → List TypeTree → List Step → Type 0
AllAmong t W [] = Unit {0}
AllAmong t W (s ∷ ss) = StepAmong t W s.operation × AllAmong t W ss

operation-among : (t : ℕ → TypeTree) (o : Operation) (Ts W : List TypeTree) → Closed Ts → More (with_operation t o Ts) W → StepAmong t W o
operation-among t (O.equal j k) Ts W c m = λ e. m (t j) ((with-one (t j) Ts c).among e)
operation-among t _ Ts W c m = tt

steps-among : (t : ℕ → TypeTree) (ss : List Step) (Ts W : List TypeTree) → Closed Ts → More (with_steps t ss Ts) W → AllAmong t W ss
steps-among t [] Ts W c m = tt
steps-among t (s ∷ ss) Ts W c m =
    let a = operation-grows t s.operation Ts c in
    let b = steps-grow t ss (with_operation t s.operation Ts) a.closed in
    (operation-among t s.operation Ts W c (λ A k. m A (b.more A k)), steps-among t ss (with_operation t s.operation Ts) W a.closed m)

-- what expressions and functions compare
leaves-grow : (Ps : List TypeTree) (ls : List Leaf) (Ts : List TypeTree) → Closed Ts → Grows Ts (with_leaves Ps ls Ts)
leaves-grow Ps [] Ts c = record { more = λ A k. k; closed = c }
leaves-grow Ps (l ∷ ls) Ts c =
    let a = steps-grow (type_at (input_of l) (code_of_leaf Ps l).0) (code_of_leaf Ps l).0 Ts c in
    let b = leaves-grow Ps ls (with_steps (type_at (input_of l) (code_of_leaf Ps l).0) (code_of_leaf Ps l).0 Ts) a.closed in
    record { more = λ A k. b.more A (a.more A k); closed = b.closed }

pub functions-grow : (fs : List Function) (Ls : List Layout) (Ts : List TypeTree) → Closed Ts → Grows Ts (with_functions fs Ls Ts)
functions-grow [] Ls Ts c = record { more = λ A k. k; closed = c }
functions-grow (f ∷ fs) [] Ts c = record { more = λ A k. k; closed = c }
functions-grow (f ∷ fs) (L ∷ Ls) Ts c =
    let a = leaves-grow L.params (leaves_of L f) Ts c in
    let b = functions-grow fs Ls (with_leaves L.params (leaves_of L f) Ts) a.closed in
    record { more = λ A k. b.more A (a.more A k); closed = b.closed }

-- all that expressions compare is among types
abbrev pub LeavesAmong : List TypeTree → List TypeTree → List Leaf → Type 0
LeavesAmong W Ps [] = Unit {0}
LeavesAmong W Ps (l ∷ ls) =
    AllAmong (type_at (input_of l) (code_of_leaf Ps l).0) W (code_of_leaf Ps l).0 × LeavesAmong W Ps ls

leaves-among : (Ps : List TypeTree) (ls : List Leaf) (Ts W : List TypeTree) → Closed Ts → More (with_leaves Ps ls Ts) W → LeavesAmong W Ps ls
leaves-among Ps [] Ts W c m = tt
leaves-among Ps (l ∷ ls) Ts W c m =
    let t : ℕ → TypeTree = type_at (input_of l) (code_of_leaf Ps l).0 in
    let a = steps-grow t (code_of_leaf Ps l).0 Ts c in
    let b = leaves-grow Ps ls (with_steps t (code_of_leaf Ps l).0 Ts) a.closed in
    (steps-among t (code_of_leaf Ps l).0 Ts W c (λ A k. m A (b.more A k)), leaves-among Ps ls (with_steps t (code_of_leaf Ps l).0 Ts) W a.closed m)

-- the same of functions
abbrev pub FunctionsAmong : List TypeTree → List Function → List Layout → Type 0
FunctionsAmong W [] Ls = Unit {0}
FunctionsAmong W (f ∷ fs) [] = Unit {0}
FunctionsAmong W (f ∷ fs) (L ∷ Ls) = LeavesAmong W L.params (leaves_of L f) × FunctionsAmong W fs Ls

pub functions-among : (fs : List Function) (Ls : List Layout) (Ts W : List TypeTree) → Closed Ts → More (with_functions fs Ls Ts) W → FunctionsAmong W fs Ls
functions-among [] Ls Ts W c m = tt
functions-among (f ∷ fs) [] Ts W c m = tt
functions-among (f ∷ fs) (L ∷ Ls) Ts W c m =
    let Us : List TypeTree = with_leaves L.params (leaves_of L f) Ts in
    let a = leaves-grow L.params (leaves_of L f) Ts c in
    let b = functions-grow fs Ls Us a.closed in
    (leaves-among L.params (leaves_of L f) Ts W c (λ A k. m A (b.more A k)), functions-among fs Ls Us W a.closed m)

-- functions compare these types
abbrev pub AllCompared : Bounds → List TypeTree → (ℕ → Linked) → Type 0
AllCompared n W F = (A : TypeTree) → Among A W → IsCompared n F (number_among W) A

get-beyond : {X : Type 0} (xs : List X) (k : ℕ) (a : X) → length xs ≤ k → get_or xs k a ≡ a
get-beyond [] k a l = refl
get-beyond (x ∷ xs) zero a l = absurd (omega arith)
get-beyond (x ∷ xs) (suc k) a l = get-beyond xs k a (omega arith)

module _ (n : Bounds) (W : List TypeTree) (F : ℕ → Linked) (all : AllCompared n W F) (t : ℕ → TypeTree) where
  -- registers of types Ts so far
  compares-register : (Ts : List TypeTree) → ((k : ℕ) → k < length Ts → t k ≡ get_or Ts k unit_ty) → (j : ℕ) → Among (t j) W → IsCompared n F (number_among W) (get_or Ts j unit_ty)
  compares-register Ts e j a = by_place (nat_lt j (length Ts)) refl
    where
      by_place : (b : Bool) → nat_lt j (length Ts) ≡ b → IsCompared n F (number_among W) (get_or Ts j unit_ty)
      by_place true l = subst (IsCompared n F (number_among W)) (e j (grind arith)) (all (t j) a)
      by_place false l = subst (IsCompared n F (number_among W)) (sym (get-beyond Ts j unit_ty (grind arith))) (λ k. no-yes k)

  operation-compared : (Ts : List TypeTree) → ((k : ℕ) → k < length Ts → t k ≡ get_or Ts k unit_ty) → (o : Operation) → StepAmong t W o → StepCompared n F (number_among W) Ts o
  operation-compared Ts e (O.equal j k) a = compares-register Ts e j a
  operation-compared Ts e _ a = tt

  pub steps-compared : (ss : List Step) (Ts : List TypeTree) → ((k : ℕ) → t k ≡ get_or (Ts ++ map (λ s. s.ty) ss) k unit_ty) → AllAmong t W ss → StepsCompared n F (number_among W) Ts ss
  steps-compared [] Ts e a = tt
  steps-compared (s ∷ ss) Ts e a =
      let g : (Ts ++ s.ty ∷ []) ++ map (λ s. s.ty) ss ≡ Ts ++ map (λ s. s.ty) (s ∷ ss) = append_assoc Ts (s.ty ∷ []) (map (λ s. s.ty) ss) in (
        operation-compared Ts (λ k l. e k ∙ get-front Ts (map (λ s. s.ty) (s ∷ ss)) k unit_ty l) s.operation a.0,
        steps-compared ss (Ts ++ s.ty ∷ []) (λ k. e k ∙ ap (λ Us. get_or Us k unit_ty) (sym g)) a.1,
      )

-- the functions of types compare them, each over those of the earlier ones
module _ (n : Bounds) (few : FewElements n) (W : List TypeTree) where
  abbrev comparing_file : File
  comparing_file = map (same_function n (number_among W)) W

  parts : (F : ℕ → Linked) (A : TypeTree) → PartsDone (Compares n) (number_among W) F A → PartsCompared n F (number_among W) A
  parts F unit_ty h = h
  parts F bool_ty h = h
  parts F int_ty h = h
  parts F (pair_ty A B) h = h
  parts F (event_ty A) h = h
  parts F (list_ty A) h = h

  -- in a file that begins with those of all
  pub file-compares : Closed W → (b : File) → AllCompared n W (function_of (comparing_file ++ b))
  file-compares c b A a k =
      all-done (same_function n) (Compares n) [] W (number_among W) (λ T. omega arith) (λ F T h. same_law n F (number_among W) T few (parts F T h)) c b A (a k)
