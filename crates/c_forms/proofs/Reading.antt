-- Arguments that are only read, and those that hand on what is in scope.
use Rattle.std.proofs.Common.{◌≡◌, ◌≤◌, ◌+◌, ◌*◌, ℕ, zero, suc, true, false, ◌&&◌, List, [], ◌∷◌, ◌++◌, length, Option, Some, None, refl, subst, sym, ap, ap₂, ◌∙◌, arith, append_assoc, length-append}
use Rattle.std.specs.Prelude.{slice_get, nat_eq, if◌then◌else◌}
use Rattle.sample_core.specs.TypeTree.{TypeTree}
use Rattle.leaf_code.specs.Fitting.{Bounds}
use Rattle.net_code.specs.Running.{Kept, Given}
use Rattle.c_meaning.specs.Object.{CType, Object, has_type}
use Rattle.c_meaning.specs.Syntax.{Term, Argument, by_value, by_const, by_pointer, call}
use Rattle.c_meaning.specs.Meaning.{Frame, Linked, bind, eval, value, write, path, apart, unread, unwritten, all_apart, passed, put_back}
use Rattle.c_meaning.proofs.Runs.{Runs, calls, get-behind}
use Rattle.c_leaf.proofs.LeafC.{registers-length}
use Rattle.c_forms.specs.Keeping.{Shape}
use Rattle.c_forms.specs.Standing.{Frozen, none_frozen, one_frozen, InScope, param_args, old_args, scope_args}

-- part: what is written beside them
pub data Reads (f : Frame) (part : Term) : List Argument → List Object → Type 0 where
  reads_none : Reads f part [] []
  reads_const : {e : Term} {o : Object} {as1 : List Argument} {os : List Object} → apart (path part) (path e) ≡ true → eval f e ≡ Some o → Reads f part as1 os
      → Reads f part (by_const e ∷ as1) (o ∷ os)
  reads_value : {e : Term} {o : Object} {as1 : List Argument} {os : List Object} → value f e ≡ Some o → Reads f part as1 os → Reads f part (by_value e ∷ as1) (o ∷ os)

module _ (f : Frame) (part : Term) where
  pub reads-append : {as1 bs : List Argument} {os ps : List Object} → Reads f part as1 os → Reads f part bs ps → Reads f part (as1 ++ bs) (os ++ ps)
  reads-append reads_none k = k
  reads-append (reads_const a e h) k = reads_const a e (reads-append h k)
  reads-append (reads_value e h) k = reads_value e (reads-append h k)

  abbrev and-passed : Option Object → Option (List Object) → Option (List Object)
  and-passed A B = bind A (λ o. bind B (λ os. Some (o ∷ os)))

  reads-passed : {as1 : List Argument} {os : List Object} → Reads f part as1 os → passed f as1 ≡ Some os
  reads-passed reads_none = refl
  reads-passed (reads_const a e h) = ap₂ and-passed e (reads-passed h)
  reads-passed (reads_value e h) = ap₂ and-passed e (reads-passed h)

  reads-back : (g : Frame) {as1 : List Argument} {os : List Object} → Reads f part as1 os → put_back g as1 os ≡ Some g
  reads-back g reads_none = refl
  reads-back g (reads_const a e h) = reads-back g h
  reads-back g (reads_value e h) = reads-back g h

  reads-unread : {as1 : List Argument} {os : List Object} → Reads f part as1 os → unread part as1 ≡ true
  reads-unread reads_none = refl
  reads-unread (reads_const a e h) = ap₂ ◌&&◌ a (reads-unread h)
  reads-unread (reads_value e h) = reads-unread h

  reads-unwritten : (v : Term) {as1 : List Argument} {os : List Object} → Reads f part as1 os → unwritten v as1 ≡ true
  reads-unwritten v reads_none = refl
  reads-unwritten v (reads_const a e h) = reads-unwritten v h
  reads-unwritten v (reads_value e h) = reads-unwritten v h

  reads-apart : {as1 : List Argument} {os : List Object} → Reads f part as1 os → all_apart as1 ≡ true
  reads-apart reads_none = refl
  reads-apart (reads_const {e = v} a e h) = ap₂ ◌&&◌ (reads-unwritten v h) (reads-apart h)
  reads-apart (reads_value e h) = reads-apart h

  -- a call that writes nothing
  pub read-call : (F : ℕ → Linked) (T : CType) (k : ℕ) {as1 : List Argument} {os : List Object} (y : Object) → Reads f part as1 os → F k os ≡ Some (os, y) → has_type T y ≡ true
      → Runs F (call T k as1) f (f ++ y ∷ [], None)
  read-call F T k {as1} {os} y h e t = calls F T k as1 f f os os y (reads-apart h) (reads-passed h) e (reads-back f h) t

  -- a call that writes the part
  pub write-call : (F : ℕ → Linked) (T : CType) (k : ℕ) {as1 : List Argument} {os : List Object} (g : Frame) (a p y : Object) → Reads f part as1 os → eval f part ≡ Some a
      → F k (a ∷ os) ≡ Some (p ∷ os, y) → write f part p ≡ Some g → has_type T y ≡ true → Runs F (call T k (by_pointer part ∷ as1)) f (g ++ y ∷ [], None)
  write-call F T k {as1} {os} g a p y h e c w t =
      calls F T k (by_pointer part ∷ as1) f g (a ∷ os) (p ∷ os) y (ap₂ ◌&&◌ (reads-unread h) (reads-apart h)) (ap₂ and-passed e (reads-passed h)) c
      (ap (λ W. bind W (λ g. put_back g as1 os)) w ∙ reads-back g h) t

-- locals behind local 0 have nothing in common with it
pub away : (ks : List ℕ) (k : ℕ) → 1 ≤ k → apart (0 ∷ ks) (k ∷ []) ≡ true
away ks k l = ap (λ b. if b then apart ks [] else true) (not-zero k l)
  where
    not-zero : (k : ℕ) → 1 ≤ k → nat_eq 0 k ≡ false
    not-zero k l = grind arith

-- what is written is local 0 or a part of it
pub record Within (part : Term) : Type 0 where
  pub ks : List ℕ
  pub is : path part ≡ 0 ∷ ks

pub away-from : (part : Term) → Within part → (k : ℕ) → 1 ≤ k → apart (path part) (k ∷ []) ≡ true
away-from part w k l = ap (λ p. apart p (k ∷ [])) w.is ∙ away w.ks k l

pub local-at : (front rest : List Object) (o : Object) → slice_get (front ++ (o ∷ rest)) (length front) ≡ Some o
local-at front rest o = ap (slice_get (front ++ (o ∷ rest))) (plain (length front)) ∙ get-behind front (o ∷ rest) 0
  where
    plain : (k : ℕ) → k ≡ k + 0
    plain k = omega arith

pub longer : (front : List Object) (o : Object) (k : ℕ) → k ≡ length front → suc k ≡ length (front ++ o ∷ [])
longer front o k e = ap suc e ∙ one-more (length front) ∙ sym (length-append front (o ∷ []))
  where
    one-more : (k : ℕ) → suc k ≡ k + 1
    one-more k = omega arith

module _ (part : Term) (w : Within part) where
  pub param-reads : (front us rest : List Object) (k m : ℕ) → k ≡ length front → m ≡ length us → 1 ≤ k → Reads (front ++ (us ++ rest)) part (param_args k m) us
  param-reads front [] rest k zero e d l = reads_none
  param-reads front [] rest k (suc m) e d l = absurd (omega arith)
  param-reads front (u ∷ us) rest k zero e d l = absurd (omega arith)
  param-reads front (u ∷ us) rest k (suc m) e d l =
      reads_const (away-from part w k l) (ap (slice_get (front ++ (u ∷ us ++ rest))) e ∙ local-at front (us ++ rest) u)
      (subst (λ f. Reads f part (param_args (suc k) m) us) (append_assoc front (u ∷ []) (us ++ rest))
      (param-reads (front ++ u ∷ []) us rest (suc k) m (longer front u k e) (omega arith) (omega arith)))

  pub old-reads : (n : Bounds) (front rest : List Object) {Os : List Shape} {ks : List Kept} {os : List Object} (k m : ℕ) → Frozen n Os ks os → k ≡ length front → m ≡ length Os → 1 ≤ k
      → Reads (front ++ (os ++ rest)) part (old_args k m) os
  old-reads n front rest k zero none_frozen e d l = reads_none
  old-reads n front rest k (suc m) none_frozen e d l = absurd (omega arith)
  old-reads n front rest k zero (one_frozen f a h) e d l = absurd (omega arith)
  old-reads n front rest k (suc m) (one_frozen {m = t} {o = o} {os = os} f a h) e d l =
      let d1 : Object = Rattle.c_forms.specs.Keeping.dt_object t in
      reads_const (away-from part w k l) (ap (slice_get (front ++ (o ∷ d1 ∷ os ++ rest))) e ∙ local-at front (d1 ∷ os ++ rest) o)
      (reads_value
      (ap (λ E. bind E Rattle.c_meaning.specs.Meaning.is_set)
      (ap₂ slice_get (sym (append_assoc front (o ∷ []) (d1 ∷ os ++ rest))) (longer front o k e) ∙ local-at (front ++ o ∷ []) (os ++ rest) d1))
      (subst (λ f. Reads f part (old_args (suc (suc k)) m) os) (append_assoc (front ++ o ∷ []) (d1 ∷ []) (os ++ rest) ∙ append_assoc front (o ∷ []) (d1 ∷ os ++ rest))
      (old-reads n ((front ++ o ∷ []) ++ d1 ∷ []) rest (suc (suc k)) m h (longer (front ++ o ∷ []) d1 (suc k) (longer front o k e)) (omega arith) (omega arith))))

pub frozen-length : (n : Bounds) {Os : List Shape} {ks : List Kept} {os : List Object} → Frozen n Os ks os → 2 * length Os ≡ length os
frozen-length n none_frozen = refl
frozen-length n (one_frozen {Os = Os} {os = os} f a h) = two-more (length Os) (length os) (frozen-length n h)
  where
    two-more : (a b : ℕ) → 2 * a ≡ b → 2 * suc a ≡ suc (suc b)
    two-more a b e = omega arith

-- a function's locals: what it is passed, and registers
module _ (n : Bounds) (Ps : List TypeTree) (Os : List Shape) (g : Given) (qs : List Object) (h : InScope n Ps Os g qs) where
  abbrev pub frame : Object → Object → Object → List Object → Frame
  frame o d i rs = o ∷ d ∷ i ∷ (qs ++ rs)

  pub width : length Ps + 2 * length Os ≡ length qs
  width = ap₂ ◌+◌ (registers-length n h.are_params) (frozen-length n h.are_olds) ∙ sym (length-append h.params h.olds) ∙ ap length (sym h.are)

  pub register-at : (o d i : Object) (rs : List Object) (k : ℕ) → slice_get (frame o d i rs) (3 + (length Ps + 2 * length Os) + k) ≡ slice_get rs k
  register-at o d i rs k = ap (slice_get (frame o d i rs)) (shift (length Ps + 2 * length Os) (length qs) k width) ∙ get-behind (o ∷ d ∷ i ∷ qs) rs k
    where
      shift : (w l k : ℕ) → w ≡ l → 3 + w + k ≡ suc (suc (suc l)) + k
      shift w l k e = omega arith

  pub is-behind : (k : ℕ) → 1 ≤ 3 + (length Ps + 2 * length Os) + k
  is-behind k = omega arith

  module _ (part : Term) (w : Within part) (o d i : Object) (rs : List Object) where
    abbrev split : List Object
    split = o ∷ d ∷ i ∷ ((h.params ++ h.olds) ++ rs)

    pub params-read : Reads (frame o d i rs) part (param_args 3 (length Ps)) h.params
    params-read =
        subst (λ us. Reads (o ∷ d ∷ i ∷ us) part (param_args 3 (length Ps)) h.params) (sym (append_assoc h.params h.olds rs) ∙ ap (λ (us : List Object). us ++ rs) (sym h.are))
        (param-reads part w (o ∷ d ∷ i ∷ []) h.params (h.olds ++ rs) 3 (length Ps) refl (registers-length n h.are_params) (omega arith))

    pub olds-read : Reads (frame o d i rs) part (old_args (3 + length Ps) (length Os)) h.olds
    olds-read =
        subst (λ us. Reads (o ∷ d ∷ i ∷ us) part (old_args (3 + length Ps) (length Os)) h.olds) (sym (append_assoc h.params h.olds rs) ∙ ap (λ (us : List Object). us ++ rs) (sym h.are))
        (old-reads part w n (o ∷ d ∷ i ∷ h.params) rs (3 + length Ps) (length Os) h.are_olds (shift (length Ps) (length h.params) (registers-length n h.are_params)) refl (omega arith))
      where
        shift : (w l : ℕ) → w ≡ l → 3 + w ≡ suc (suc (suc l))
        shift w l e = omega arith

    pub scope-reads : Reads (frame o d i rs) part (scope_args n Ps Os) qs
    scope-reads = subst (Reads (frame o d i rs) part (scope_args n Ps Os)) (sym h.are) (reads-append (frame o d i rs) part params-read olds-read)
