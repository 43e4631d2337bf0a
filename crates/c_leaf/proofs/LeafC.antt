-- The C of a typed expression's code has its value.
use Rattle.std.proofs.Common.{◌≡◌, ◌+◌, ℕ, pos, true, ◌&&◌, List, [], ◌∷◌, ◌++◌, map, length, take, Some, refl, subst, sym, ap, ap₂, ◌∙◌, append_assoc}
use Rattle.std.proofs.lemmas.Option.{get_or_from_slice_get}
use Rattle.sample_core.specs.Datum.{Datum, unit}
use Rattle.sample_core.specs.TypeTree.{TypeTree, unit_ty}
use Rattle.leaf_core.specs.Expression.{Expression}
use Rattle.leaf_core.specs.ExpressionTyping.{ExpressionTyped}
use Rattle.leaf_core.specs.ExpressionValue.{value_of}
use Rattle.leaf_code.specs.Running.{LeafSteps}
use Rattle.leaf_code.specs.Fitting.{Bounds, ListsWithin}
use Rattle.leaf_code.specs.CodeOf.{leaf_code, type_at}
use Rattle.leaf_code.proofs.Values.{leaf-value}
use Rattle.c_meaning.specs.Object.{Object, u8, number, number_type, has_type}
use Rattle.c_meaning.specs.Syntax.{Parameter, const_param, local, literal, answer, sequence}
use Rattle.c_meaning.specs.Meaning.{Linked, Frame, all_have, referred, none_shared, written}
use Rattle.c_meaning.proofs.Runs.{Runs, then-run, defines, gives-back, function-runs, take-front, get-behind}
use Rattle.c_leaf.specs.Representing.{c_type, Represents, c_unit, Registers, no_register, and_register}
use Rattle.c_leaf.specs.LeafC.{const_params, leaf_lines, leaf_function, constant_function, steps_command}
use Rattle.c_leaf.specs.LeafCLaw.{FewElements, StepsCompared, LeafCLaw, ConstantLaw}
use Rattle.c_leaf.proofs.Values.{has, find}
use Rattle.c_leaf.proofs.Same.{set-object}
use Rattle.c_leaf.proofs.Steps.{steps, steps-write-none}
use Rattle.c_leaf.proofs.Emitted.{Sound, sound, ty-of}

-- objects that represent parameters are of their types
pub params-have : (n : Bounds) {Ps : List TypeTree} {ps : List Datum} {qs : List Object} → Registers n Ps ps qs → (Qs : List Parameter) (os : List Object) → all_have Qs os ≡ true
    → all_have (const_params n Ps ++ Qs) (qs ++ os) ≡ true
params-have n no_register Qs os e = e
params-have n (and_register h hs) Qs os e = ap₂ ◌&&◌ (has n h) (params-have n hs Qs os e)

pub registers-length : (n : Bounds) {Ps : List TypeTree} {ps : List Datum} {qs : List Object} → Registers n Ps ps qs → length Ps ≡ length qs
registers-length n no_register = refl
registers-length n (and_register h hs) = ap ℕ.suc (registers-length n hs)

-- nothing is shared with nothing
nothing-shared : (ks : List ℕ) → none_shared ks [] ≡ true
nothing-shared [] = refl
nothing-shared (k ∷ ks) = nothing-shared ks

module _ (n : Bounds) (F : ℕ → Linked) (h : TypeTree → ℕ) (e : Expression) (Ps : List TypeTree) (A B : TypeTree) (few : FewElements n) (typed : ExpressionTyped e Ps A B)
    (lists : ListsWithin n (leaf_code Ps A e).0) (compared : StepsCompared n F h (A ∷ []) (leaf_code Ps A e).0) where
  abbrev code : LeafSteps
  code = leaf_code Ps A e

  -- the lines' result
  record Lines (ps : List Datum) (x : Datum) (qs : List Object) (i : Object) : Type 0 where
    object : Object
    more : List Object
    runs : Runs F (leaf_lines n h Ps A code) (qs ++ i ∷ []) (qs ++ i ∷ more, Some object)
    represents : Represents n B (value_of e ps x) object

  is-sound : Sound n few F h Ps A code B
  is-sound = sound n few F h Ps A e 0 A B typed [] tt (record { at = refl }) (lists, compared)

  lines : (ps : List Datum) (x : Datum) (qs : List Object) (i : Object) → Registers n Ps ps qs → Represents n A x i → Lines ps x qs i
  lines ps x qs i hp hx =
      let s = steps n F h (type_at A code.0) Ps ps qs hp code.0 (A ∷ []) (x ∷ []) (i ∷ [])
      (λ k T d. get_or_from_slice_get (A ∷ map (λ t. t.ty) code.0) k T unit_ty d) is-sound.0 (and_register hx no_register) in
      let o = find n code.1 s.registers is-sound.1.at in
      let v : Represents n B (value_of e ps x) o.object = subst (λ v. Represents n B v o.object) (leaf-value ps x Ps A e) o.represents in
      let f : Frame = qs ++ i ∷ s.more in
      record {
        object = o.object;
        more = s.more;
        runs = subst (λ m. Runs F (sequence (steps_command n h m (type_at A code.0) code.0) (answer (local (m + code.1)))) (qs ++ i ∷ []) (f, Some o.object)) (sym (registers-length n hp))
            (then-run F s.runs (gives-back F (local (length qs + code.1)) f o.object (get-behind qs (i ∷ s.more) code.1 ∙ o.at) (set-object n v)));
        represents = v;
      }

  result-type : type_at A code.0 code.1 ≡ B
  result-type = ty-of n few F h Ps A is-sound.1

  lines-steady : (ks : List ℕ) → none_shared ks (written (leaf_lines n h Ps A code)) ≡ true
  lines-steady ks =
      ap (λ (ws : List ℕ). none_shared ks (ws ++ [])) (steps-write-none n h (length Ps) (type_at A code.0) code.0) ∙ nothing-shared ks

pub leaf_c_law : LeafCLaw
leaf_c_law n F h e Ps A B few typed lists compared ps x qs i hp hx =
    let r = lines n F h e Ps A B few typed lists compared ps x qs i hp hx in
    record {
      object = r.object;
      result = function-runs F (leaf_function n h Ps A (leaf_code Ps A e)) (qs ++ i ∷ []) (qs ++ i ∷ r.more) (qs ++ i ∷ []) r.object
          (params-have n hp (const_param (c_type n A) ∷ []) (i ∷ []) (ap₂ ◌&&◌ (has n hx) refl))
          (lines-steady n F h e Ps A B few typed lists compared (referred (leaf_lines n h Ps A (leaf_code Ps A e))))
          r.runs
          (ap (λ T. has_type (c_type n T) r.object) (result-type n F h e Ps A B few typed lists compared) ∙ has n r.represents)
          (ap (take (length (qs ++ i ∷ []))) (sym (append_assoc qs (i ∷ []) r.more)) ∙ take-front (qs ++ i ∷ []) r.more);
      represents = r.represents;
    }

pub constant_law : ConstantLaw
constant_law n F h e Ps B few typed lists compared ps qs hp =
    let z : Object = number u8 (pos 0) in
    let r = lines n F h e Ps unit_ty B few typed lists compared ps unit qs z hp c_unit in
    record {
      object = r.object;
      result = function-runs F (constant_function n h Ps (leaf_code Ps unit_ty e)) qs (qs ++ z ∷ r.more) qs r.object
          (subst (λ Qs. all_have Qs qs ≡ true) (plain (const_params n Ps)) (subst (λ os. all_have (const_params n Ps ++ []) os ≡ true) (plain qs) (params-have n hp [] [] refl)))
          (lines-steady n F h e Ps unit_ty B few typed lists compared (referred (leaf_lines n h Ps unit_ty (leaf_code Ps unit_ty e))))
          (then-run F (defines F (number_type u8) (literal u8 (pos 0)) qs z refl refl refl) r.runs)
          (ap (λ T. has_type (c_type n T) r.object) (result-type n F h e Ps unit_ty B few typed lists compared) ∙ has n r.represents)
          (take-front qs (z ∷ r.more));
      represents = r.represents;
    }
  where
    plain : {X : Type 0} (xs : List X) → xs ++ [] ≡ xs
    plain [] = refl
    plain (x ∷ xs) = ap (λ (ys : List _). x ∷ ys) (plain xs)
