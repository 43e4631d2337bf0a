-- The lines of steps have a result.
use Rattle.std.proofs.Common.{◌≡◌, ◌+◌, ℕ, Bool, true, false, List, [], ◌∷◌, ◌++◌, map, length, Some, None, refl, subst, sym, ap₂, append_assoc, append-nil}
use Rattle.std.specs.Prelude.{slice_get, if◌then◌else◌}
use Rattle.sample_core.specs.Datum.{Datum}
use Rattle.sample_core.specs.TypeTree.{TypeTree}
use Rattle.leaf_code.specs.Operation.{Operation}
use Rattle.leaf_code.specs.Operation as O
use Rattle.leaf_code.specs.Running.{Step, step_value, run_steps}
use Rattle.c_meaning.specs.Object.{Object}
use Rattle.c_meaning.specs.Syntax.{Term, local, dot, define, refer, Command, skip}
use Rattle.c_meaning.specs.Meaning.{Linked, written}
use Rattle.c_meaning.proofs.Runs.{Runs, then-run, skips, get-before}
use Rattle.c_leaf.specs.Representing.{c_type, Registers}
use Rattle.c_leaf.specs.LeafC.{is_struct, step_command, steps_command}
use Rattle.c_leaf.specs.LeafCLaw.{IsCompared}
use Rattle.c_leaf.proofs.Typed.{StepsTyped}
use Rattle.c_leaf.proofs.Values.{append-register}
use Rattle.c_leaf.proofs.Same.{Line, none-written}
use Rattle.c_leaf.proofs.Operations.{operation}

-- the lines' result: more registers behind these
pub record Ran (n : TypeTree → ℕ) (F : ℕ → Linked) (c : Command) (qs os : List Object) (Ts : List TypeTree) (rs : List Datum) : Type 0 where
  pub more : List Object
  pub runs : Runs F c (qs ++ os) (qs ++ (os ++ more), None)
  pub registers : Registers n Ts rs (os ++ more)

module _ (n : TypeTree → ℕ) (F : ℕ → Linked) (h : TypeTree → ℕ) (t : ℕ → TypeTree) (Ps : List TypeTree) (ps : List Datum) (qs : List Object) (hp : Registers n Ps ps qs) where
  pub steps : (ss : List Step) (Ts : List TypeTree) (rs : List Datum) (os : List Object)
      → ((k : ℕ) (A : TypeTree) → slice_get (Ts ++ map (λ s. s.ty) ss) k ≡ Some A → t k ≡ A)
      → StepsTyped n (IsCompared n F h) Ps Ts ss → Registers n Ts rs os
      → Ran n F (steps_command n h (length qs) t ss) qs os (Ts ++ map (λ s. s.ty) ss) (run_steps ps rs ss)
  steps [] Ts rs os types w r = record {
    more = [];
    runs = subst (λ us. Runs F skip (qs ++ os) (qs ++ us, None)) (sym (append-nil os)) (skips F);
    registers = subst (λ us. Registers n (Ts ++ []) rs us) (sym (append-nil os)) (subst (λ Us. Registers n Us rs os) (sym (append-nil Ts)) r);
  }
  steps (s ∷ ss) Ts rs os types w r =
      let a : Line n F s.ty (step_value ps rs s) (qs ++ os) (step_command n h (length qs) t s.ty s.operation) =
      operation n F h t Ps Ts ps rs qs os hp r (λ k A e. types k A (get-before Ts (map (λ s. s.ty) (s ∷ ss)) k A e)) s.operation s.ty w.0 in
      let e : (Ts ++ s.ty ∷ []) ++ map (λ s. s.ty) ss ≡ Ts ++ map (λ s. s.ty) (s ∷ ss) = append_assoc Ts (s.ty ∷ []) (map (λ s. s.ty) ss) in
      let b : Ran n F (steps_command n h (length qs) t ss) qs (os ++ a.object ∷ []) ((Ts ++ s.ty ∷ []) ++ map (λ s. s.ty) ss) (run_steps ps (rs ++ step_value ps rs s ∷ []) ss) =
      steps ss (Ts ++ s.ty ∷ []) (rs ++ step_value ps rs s ∷ []) (os ++ a.object ∷ [])
      (λ k A d. types k A (subst (λ Us. slice_get Us k ≡ Some A) e d)) w.1 (append-register n r a.represents) in
      let g : (os ++ a.object ∷ []) ++ b.more ≡ os ++ (a.object ∷ b.more) = append_assoc os (a.object ∷ []) b.more in
      record {
        more = a.object ∷ b.more;
        runs = then-run F (subst (λ f. Runs F (step_command n h (length qs) t s.ty s.operation) (qs ++ os) (f, None)) (append_assoc qs os (a.object ∷ [])) a.runs)
            (subst (λ us. Runs F (steps_command n h (length qs) t ss) (qs ++ (os ++ a.object ∷ [])) (qs ++ us, None)) g b.runs);
        registers = subst (λ us. Registers n (Ts ++ map (λ s. s.ty) (s ∷ ss)) (run_steps ps (rs ++ step_value ps rs s ∷ []) ss) us) g
            (subst (λ Us. Registers n Us (run_steps ps (rs ++ step_value ps rs s ∷ []) ss) ((os ++ a.object ∷ []) ++ b.more)) e b.registers);
      }

-- no local is written
module _ (n : TypeTree → ℕ) (h : TypeTree → ℕ) (m : ℕ) (t : ℕ → TypeTree) where
  pub steps-write-none : (ss : List Step) → written (steps_command n h m t ss) ≡ []
  steps-write-none [] = refl
  steps-write-none (s ∷ ss) = ap₂ (λ (xs ys : List ℕ). xs ++ ys) (step-writes s.ty s.operation) (steps-write-none ss)
    where
      part-writes : (T : TypeTree) (e : Term) (b : Bool) → written (if b then refer (c_type n T) e else define (c_type n T) e) ≡ []
      part-writes T e true = refl
      part-writes T e false = refl

      step-writes : (T : TypeTree) (o : Operation) → written (step_command n h m t T o) ≡ []
      step-writes T (O.equal j k) = none-written h (t j) (local (m + j)) (local (m + k))
      step-writes T (O.left j) = part-writes T (dot (local (m + j)) 0) (is_struct T)
      step-writes T (O.right j) = part-writes T (dot (local (m + j)) 1) (is_struct T)
      step-writes T o = refl
