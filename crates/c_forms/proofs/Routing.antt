-- The C functions of a `pSwitch`'s members do their steps.
use Rattle.std.proofs.Common.{◌≡◌, ◌<◌, ◌^◌, ℕ, suc, pos, List, [], ◌∷◌, map, FitsSigned, w64, refl, subst, ap, arith}
use Rattle.sample_core.specs.Datum.{Datum, pair, int}
use Rattle.sample_core.specs.TypeTree.{TypeTree, int_ty, pair_ty, list_ty}
use Rattle.leaf_code.specs.Fitting.{Bounds}
use Rattle.net_machine.specs.Stepper.{Stepper, routed_step, routed, par_step}
use Rattle.net_code.specs.Running.{Given}
use Rattle.c_meaning.specs.Object.{Object, i64, number}
use Rattle.c_meaning.specs.Syntax.{local}
use Rattle.c_meaning.specs.Meaning.{Linked, function_run}
use Rattle.c_meaning.proofs.Wrapping.{check-yes, small-signed}
use Rattle.c_meaning.proofs.Runs.{then-run}
use Rattle.c_leaf.specs.Representing.{two, Represents, c_int, c_pair}
use Rattle.c_leaf.specs.LeafC.{pair_of}
use Rattle.c_leaf.proofs.Same.{set-object, pair-is}
use Rattle.c_forms.specs.Keeping.{Shape, shape_type, dt_of, dt_object}
use Rattle.c_forms.specs.Standing.{Steps, behind}
use Rattle.c_forms.specs.Cells.{number_term}
use Rattle.c_forms.specs.Members.{members_shape, par_function}
use Rattle.c_forms.specs.Routing.{routed_steps, RoutedLaw, RoutedParLaw}
use Rattle.c_forms.proofs.Lines.{keeps-type, at-type, at, register-is, define-line, leaf-line, part-line, answer-line, write-state, whole-function}
use Rattle.c_forms.proofs.Forms.{beside-whole}
use Rattle.c_forms.proofs.Members.{par_law}

small-fits : (i : ℕ) → i < 2 ^ 63 → FitsSigned w64 (pos i)
small-fits i l = grind arith

routed-map : (h : List Datum → Datum → Datum) (g : Given) (i : ℕ) (fs : List (Given → Stepper)) → map (λ f. f g) (routed_steps h i fs) ≡ routed (h g.params) i (map (λ f. f g) fs)
routed-map h g i [] = refl
routed-map h g i (f ∷ fs) = ap (λ (us : List Stepper). routed_step (h g.params) i (f g) ∷ us) (routed-map h g (suc i) fs)

module _ (n : Bounds) (Ps : List TypeTree) (Os : List Shape) (F : ℕ → Linked) where
  pub routed_law : RoutedLaw n Ps Os F
  routed_law S A D B c r j v f small hr hf g qs h m s x o i w kept rx =
      let d : Object = dt_object m in
      let z : Object = two i (number i64 (pos c)) in
      let rz : Represents n (pair_ty A int_ty) (pair x (int (pos c))) z = c_pair rx (c_int (small-fits c small)) in
      let one-line = define-line n Ps Os F g qs h (pair_ty A int_ty) (pair_of (local 2) (number_term c)) o d i []
      (pair-is (at n Ps Os F g qs h o d i []) (local 2) (number_term c) refl (check-yes i64 (pos c) (small-signed c small)) (set-object n rx) refl) rz in
      let y = leaf-line n Ps Os F g qs h (pair_ty A int_ty) D r v (behind n Ps Os 0) o d i (z ∷ []) hr (beside-whole n Ps Os F 0) (register-is n Ps Os F g qs h o d i (z ∷ []) 0 z refl) rz in
      let u = hf g qs h m s (v g.params (pair x (int (pos c)))) o y.0 w kept y.2 in
      let r2 : List Object = z ∷ y.0 ∷ [] in
      let three-line = part-line n Ps Os F g qs h B j (local 0) (behind n Ps Os 1) (dt_of m) o i r2 o y.0 u.state u.state u.answer (record { ks = []; is = refl }) (beside-whole n Ps Os F 1) refl
      (register-is n Ps Os F g qs h o d i r2 1 y.0 refl) u.result (write-state n Ps Os F g qs h (shape_type n S) o u.state d i r2 (at-type n kept) (keeps-type n u.keeps)) u.represents in
      let r3 : List Object = z ∷ y.0 ∷ u.answer ∷ [] in
      let back = answer-line n Ps Os F g qs h (behind n Ps Os 2) u.state d i r3 (register-is n Ps Os F g qs h u.state d i r3 2 u.answer refl) u.represents in
      record {
        state = u.state;
        answer = u.answer;
        result = whole-function n Ps Os F g qs h S A B _ m o i u.state u.answer r3 refl w (at-type n kept) rx (then-run F one-line (then-run F y.1 (then-run F three-line back))) u.represents;
        keeps = u.keeps;
        represents = u.represents;
      }

  pub routed_par_law : RoutedParLaw n Ps Os F
  routed_par_law Ss A B js v fs few small hs g qs h m s x o i w k r =
      subst (λ us. Steps n (members_shape Ss) (list_ty B) (par_step us s (m, x)) (dt_object m ∷ i ∷ qs)
      (function_run F (par_function n Ps Os Ss A B js) (o ∷ dt_object m ∷ i ∷ qs))) (routed-map v g 0 fs)
      (par_law n Ps Os F Ss A B js (routed_steps v 0 fs) few small hs g qs h m s x o i w k r)
