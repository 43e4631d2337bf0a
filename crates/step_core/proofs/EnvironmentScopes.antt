-- What scopes stand for, as environments.
use Rattle.std.proofs.Common.{◌≡◌, ℕ, List, [], ◌∷◌, ◌++◌, refl, ap, ap₂, ◌∙◌}
use Rattle.sample_core.specs.Datum.{Datum}
use Rattle.net_meaning.specs.SignalFunction.{TimedList, resume}
use Rattle.net_tree.specs.Network.{Network}
use Rattle.net_meaning.specs.Meaning.{Context, meaning}
use Rattle.net_meaning.specs.Environment.{Environment, closed, param, frozen, context_of}
use Rattle.state_core.specs.Visits.{visits, resume_counts}
use Rattle.state_core.specs.CountedFunction.{IsCountedFunction}
use Rattle.state_core.specs.CountedForms.{functions_of, counts_of_all, counted_resume}
use Rattle.state_core.specs.CountedContext.{CountedContext, context_in, counted_meaning}
use Rattle.state_core.specs.State.{no_frozen, and_frozen}
use Rattle.step_core.specs.EnvironmentVisits.{counts_of}
use Rattle.step_core.specs.ScopeLaws.{counted_context_of, ScopeLaw, ScopesLaw}
use Rattle.step_core.proofs.MemberCounts.{AllCounted, no_counted, and_counted, AllCounted-append, IsCounted-resume}
use Rattle.step_core.proofs.CountedContexts.{IsCounted-counted, Denotes-push_param, Denotes-push_olds, signals-append, counts-append}

module _ (val : ℕ → List Datum → Datum → Datum) where
  counted_all : (E : Environment ℕ) → AllCounted (counted_context_of val E).olds
  counted_all closed = no_counted
  counted_all (param E c) = counted_all E
  counted_all (frozen E net E' p d) = AllCounted-append (counted_context_of val E).olds _ (counted_all E)
      (and_counted (IsCounted-resume (counted_meaning val net (counted_context_of val E'))
      (IsCounted-counted val net (counted_context_of val E') (counted_all E')) p d) no_counted)

  counted_entry : (net : Network ℕ) (E : Environment ℕ) (p : TimedList) (d : ℕ)
      → IsCountedFunction (counted_resume (counted_meaning val net (counted_context_of val E)) p d)
  counted_entry net E p d = IsCounted-resume (counted_meaning val net (counted_context_of val E))
      (IsCounted-counted val net (counted_context_of val E) (counted_all E)) p d

  same_params : (E : Environment ℕ) → (counted_context_of val E).params ≡ (context_of val E).params
  same_params closed = refl
  same_params (param E c) = ap (λ vs. vs ++ c ∷ []) (same_params E)
  same_params (frozen E net E' p d) = same_params E

  context_is : (S : CountedContext) (C : Context) → S.params ≡ C.params → functions_of S.olds ≡ C.olds → context_in S ≡ C
  context_is S C e f = λ i. record { params = e i; olds = f i }

  same_functions : (E : Environment ℕ) → functions_of (counted_context_of val E).olds ≡ (context_of val E).olds
  same_functions closed = refl
  same_functions (param E c) = same_functions E
  same_functions (frozen E net E' p d) =
      signals-append (counted_context_of val E).olds _
      ∙ ap₂ (λ fs (C : Context). fs ++ resume (meaning val net C) p d ∷ []) (same_functions E)
      (context_is (counted_context_of val E') (context_of val E') (same_params E') (same_functions E'))

  context_same : (E : Environment ℕ) → context_in (counted_context_of val E) ≡ context_of val E
  context_same E = context_is (counted_context_of val E) (context_of val E) (same_params E) (same_functions E)

  counts_same : (E : Environment ℕ) → counts_of_all (counted_context_of val E).olds ≡ counts_of val E
  counts_same closed = refl
  counts_same (param E c) = counts_same E
  counts_same (frozen E net E' p d) =
      counts-append (counted_context_of val E).olds _
      ∙ (λ i. counts_same E i ++ resume_counts (visits val net (context_same E' i) (counts_same E' i)) p d ∷ [])

  pub scope_law : ScopeLaw val
  scope_law = record {
    empty = (refl, tt);
    with_param = λ s E c h. Denotes-push_param val s (counted_context_of val E) c h;
    with_old = λ s E f net E' p d h k. Denotes-push_olds val s (counted_context_of val E) (and_frozen f no_frozen) _ h (counted_entry net E' p d, k, tt);
    frozen_new = λ net s E d h. (counted_context_of val E, d, h, refl);
    frozen_later = λ a net E p d h.
        (counted_meaning val net (counted_context_of val E), p, IsCounted-counted val net (counted_context_of val E) (counted_all E), h, refl);
    same_context = context_same;
    same_counts = counts_same;
  }

pub scopes_law : ScopesLaw
scopes_law val = scope_law val
