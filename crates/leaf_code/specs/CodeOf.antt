-- The code of an expression: its parts first, in written order, then what is made of them. All parts
-- are computed, as each has a value; `choose` takes one. What was computed already isn't again.
use Rattle.std.specs.Prelude.{ℕ, suc, ◌-◌, List, [], ◌∷◌, ◌++◌, map, length, drop, get_or, Option, Some, None}
use Rattle.sample_core.specs.TypeTree.{TypeTree, unit_ty, bool_ty, int_ty, pair_ty, event_ty, list_ty}
use Rattle.leaf_core.specs.Expression.{Expression, Expressions, input, param, unit_expr, bool_expr, int_expr, pair_expr, fst, snd, then_expr, neg, add, sub, mul, less, equal, not_expr, and_expr, or_expr, if_expr, no_event_expr, event_expr, on, list_expr, nth, len, no_more, and_then}
use Rattle.leaf_code.specs.Operation.{Operation}
use Rattle.leaf_code.specs.Operation as O
use Rattle.leaf_code.specs.Running.{Step, step, LeafSteps}
use Rattle.leaf_code.specs.Keys.{key_of, register_of}
use Rattle.leaf_code.specs.declared.key.Key.{Key}

-- the type of a pair's left part; a type that is no pair's is its own part
abbrev pub left_type : TypeTree → TypeTree
left_type (pair_ty A B) = A
left_type A = A

-- the type of a pair's right part
abbrev pub right_type : TypeTree → TypeTree
right_type (pair_ty A B) = B
right_type A = A

-- the type of what an event carries
abbrev pub carried_type : TypeTree → TypeTree
carried_type (event_ty A) = A
carried_type A = A

-- the type of register k behind steps, where register 0 has type A
abbrev pub type_at : TypeTree → List Step → ℕ → TypeTree
type_at A s k = get_or (A ∷ map (λ t. t.ty) s) k unit_ty

-- among so many of the last steps one is looked for that gives the same: among all of a large expression's would
-- take long
abbrev pub recent_steps : ℕ
recent_steps = 1000

-- the last of steps, and the register that the first of these sets
abbrev pub recent : List Step → List Step
recent s = drop (length s - recent_steps) s

abbrev pub first_recent : List Step → ℕ
first_recent s = suc (length s - recent_steps)

-- the register that has what an operation of this key gives at type T, if one of those steps sets one
abbrev pub computed : TypeTree → List Step → Option Key → Option ℕ
computed T s None = None
computed T s (Some k) = register_of T k (first_recent s) (recent s)

-- one step more, which sets the next register, unless one has that already
abbrev pub or_more : List Step → Step → Option ℕ → LeafSteps
or_more s t None = (s ++ t ∷ [], suc (length s))
or_more s t (Some k) = (s, k)

-- the same of a step of this type and operation
unfoldable pub put : List Step → TypeTree → Operation → LeafSteps
put s T o = or_more s (step T o) (computed T s (key_of o))

-- what the event in register e carries, or zeros, beside register x
abbrev pub beside_carried : TypeTree → ℕ → ℕ → List Step → LeafSteps
beside_carried A e x s =
    let v : LeafSteps = put s (carried_type (type_at A s e)) (O.carried e) in
    put v.0 (pair_ty (type_at A v.0 x) (type_at A v.0 v.1)) (O.pair x v.1)

-- the types of the parameters, and that of register 0
module _ (Ps : List TypeTree) (A : TypeTree) where
  abbrev mutual
    -- the code of an expression whose input is register x, behind steps
    pub emit : Expression → ℕ → List Step → LeafSteps
    emit input x s = (s, x)
    emit (param k) x s = put s (get_or Ps k unit_ty) (O.param k)
    emit unit_expr x s = put s unit_ty O.unit
    emit (bool_expr b) x s = put s bool_ty (O.bool b)
    emit (int_expr n) x s = put s int_ty (O.int n)
    emit (pair_expr a b) x s =
        let p : LeafSteps = emit a x s in
        let q : LeafSteps = emit b x p.0 in
        put q.0 (pair_ty (type_at A q.0 p.1) (type_at A q.0 q.1)) (O.pair p.1 q.1)
    emit (fst e) x s =
        let p : LeafSteps = emit e x s in
        put p.0 (left_type (type_at A p.0 p.1)) (O.left p.1)
    emit (snd e) x s =
        let p : LeafSteps = emit e x s in
        put p.0 (right_type (type_at A p.0 p.1)) (O.right p.1)
    emit (then_expr f g) x s = let p : LeafSteps = emit f x s in emit g p.1 p.0
    emit (neg a) x s = let p : LeafSteps = emit a x s in put p.0 int_ty (O.neg p.1)
    emit (add a b) x s =
        let p : LeafSteps = emit a x s in
        let q : LeafSteps = emit b x p.0 in
        put q.0 int_ty (O.add p.1 q.1)
    emit (sub a b) x s =
        let p : LeafSteps = emit a x s in
        let q : LeafSteps = emit b x p.0 in
        put q.0 int_ty (O.sub p.1 q.1)
    emit (mul a b) x s =
        let p : LeafSteps = emit a x s in
        let q : LeafSteps = emit b x p.0 in
        put q.0 int_ty (O.mul p.1 q.1)
    emit (less a b) x s =
        let p : LeafSteps = emit a x s in
        let q : LeafSteps = emit b x p.0 in
        put q.0 bool_ty (O.less p.1 q.1)
    emit (equal a b) x s =
        let p : LeafSteps = emit a x s in
        let q : LeafSteps = emit b x p.0 in
        put q.0 bool_ty (O.equal p.1 q.1)
    emit (not_expr a) x s = let p : LeafSteps = emit a x s in put p.0 bool_ty (O.not p.1)
    emit (and_expr a b) x s =
        let p : LeafSteps = emit a x s in
        let q : LeafSteps = emit b x p.0 in
        put q.0 bool_ty (O.and p.1 q.1)
    emit (or_expr a b) x s =
        let p : LeafSteps = emit a x s in
        let q : LeafSteps = emit b x p.0 in
        put q.0 bool_ty (O.or p.1 q.1)
    emit (if_expr c a b) x s =
        let p : LeafSteps = emit c x s in
        let q : LeafSteps = emit a x p.0 in
        let r : LeafSteps = emit b x q.0 in
        put r.0 (type_at A r.0 q.1) (O.choose p.1 q.1 r.1)
    emit (no_event_expr T) x s = put s (event_ty T) O.no_event
    emit (event_expr e) x s =
        let p : LeafSteps = emit e x s in
        put p.0 (event_ty (type_at A p.0 p.1)) (O.event p.1)
    emit (on e d b) x s =
        let p : LeafSteps = emit e x s in
        let q : LeafSteps = emit d x p.0 in
        let i : LeafSteps = beside_carried A p.1 x q.0 in
        let r : LeafSteps = emit b i.1 i.0 in
        let c : LeafSteps = put r.0 bool_ty (O.is_event p.1) in
        put c.0 (type_at A c.0 q.1) (O.choose c.1 r.1 q.1)
    emit (list_expr T es) x s =
        let p : List Step × List ℕ = emit_all es x s in
        put p.0 (list_ty T) (O.list p.1)
    emit (nth e k d) x s =
        let p : LeafSteps = emit e x s in
        let q : LeafSteps = emit k x p.0 in
        let r : LeafSteps = emit d x q.0 in
        put r.0 (type_at A r.0 r.1) (O.nth p.1 q.1 r.1)
    emit (len e) x s = let p : LeafSteps = emit e x s in put p.0 int_ty (O.len p.1)

    -- the code of the elements of a list, and the registers that have them
    pub emit_all : Expressions → ℕ → List Step → List Step × List ℕ
    emit_all no_more x s = (s, [])
    emit_all (and_then e es) x s =
        let p : LeafSteps = emit e x s in
        let r : List Step × List ℕ = emit_all es x p.0 in
        (r.0, p.1 ∷ r.1)

  -- the code of two expressions, and the registers that have their values
  abbrev pub two_emitted : Expression → Expression → ℕ → List Step → List Step × (ℕ × ℕ)
  two_emitted a b x s =
      let p : LeafSteps = emit a x s in
      let q : LeafSteps = emit b x p.0 in
      (q.0, (p.1, q.1))

-- the code of an expression, under parameters of these types, at an input of type A
abbrev pub leaf_code : List TypeTree → TypeTree → Expression → LeafSteps
leaf_code Ps A e = emit Ps A e 0 []
