-- What the whole did, by what the parts did and how they were joined.
use Rattle.std.proofs.Common.{◌≡◌, ℕ, Option, subst, Result, Ok, Err, IfOk}
use Rattle.std.specs.Prelude.{List}
use Rattle.sample_core.specs.Datum.{Datum}
use Rattle.leaf_core.specs.KeyTree.{KeyTree}
use Rattle.state_core.specs.State.{Scope, State, Frozen}
use Rattle.state_core.specs.Tree.{Kept}
use Rattle.state_core.specs.declared.env.Env.{Env}
use Rattle.step_core.specs.Flow.{Runs}
use Rattle.step_core.specs.Runs.{RunsWhere}
use Rattle.step_core.specs.Switching.{Fires}

pub if_ok : {A E : Type 0} (r : Result A E) (P Q : A → Type 0) → ((x : A) → P x → Q x) → IfOk r P → IfOk r Q
if_ok (Ok x) P Q f h = f x h
if_ok (Err e) P Q f h = h

pub both_ok : {A E : Type 0} (r : Result A E) (P Q S : A → Type 0) → ((x : A) → P x → Q x → S x) → IfOk r P → IfOk r Q → IfOk r S
both_ok (Ok x) P Q S f h k = f x h k
both_ok (Err e) P Q S f h k = h

-- what fires, by equations
pub fires_by : (v i : Datum) (into : Datum → Scope ℕ) (o q : Option Env) → i ≡ v → o ≡ q → Fires i into o → Fires v into q
fires_by v i into o q e f h = subst (λ (z : Option Env). Fires v into z) f (subst (λ z. Fires z into o) e h)

-- what runs, by equations
pub ran_as : (keys ks : List KeyTree) (w v : Frozen ℕ) (x y : Datum) (a : State ℕ) (n : ℕ) → keys ≡ ks → w ≡ v → RunsWhere keys w x a y n
    → RunsWhere ks v x a y n
ran_as keys ks w v x y a n e f h = subst (λ k. RunsWhere k v x a y n) e (subst (λ u. RunsWhere keys u x a y n) f h)

pub runs_as : (keys ks : List KeyTree) (w v : Frozen ℕ) (x y : Datum) (before now : Kept ℕ) (n : ℕ) → keys ≡ ks → w ≡ v → Runs keys w x before now y n
    → Runs ks v x before now y n
runs_as keys ks w v x y before now n e f h = subst (λ k. Runs k v x before now y n) e (subst (λ u. Runs keys u x before now y n) f h)
