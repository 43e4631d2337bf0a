-- What is known of a check as its steps are taken.
use Rattle.std.proofs.Common.{◌≡◌, ℕ, suc, ◌+◌, ◌<◌, List, [], ◌∷◌, ◌++◌, length, map, take, drop, get_or, Result, Ok, Err, Some, None, refl, sym, ap, ◌∙◌, subst, arith, add-one}
use Rattle.std.specs.Result.{IsErrAnd}
use Rattle.std.proofs.Math.Seq.{take-suc, drop-cons}
use Rattle.std.proofs.lemmas.List.{take-append-drop, map-append, length-map, length-take}
use Rattle.net_meaning.specs.TypedNetwork.{TypedNetwork, HasItsTypes}
use Rattle.net_meaning.specs.NetworkLimits.{WithinLimits}
use Rattle.net_tree.specs.Place.{a_network}
use Rattle.net_syntax.specs.Placed.{Placed, placed_at}
use Rattle.net_tree.specs.LawStep.{Step, step_of, part_of}
use Rattle.net_tree.specs.declared.law_step.LawStep.{LawStep}
use Rattle.net_tree.specs.declared.law_step.Tree as C
use Rattle.cert_check.specs.declared.answer.CheckFault.{CheckFault}
use Rattle.cert_check.specs.declared.answer.CheckFault.TheVariants.{InputsDiffer, TooManySteps, NoPosition, NoMatch, IllTyped, EndsElsewhere, Memory}
use Rattle.cert_check.specs.Derives.{Answered, Next, Steps, no_step, step_then}
use Rattle.cert_check.specs.CheckAnswer.{NowhereIn, Unmatched, Untyped, FirstFails, CheckAnswer}
use Rattle.cert_check.specs.Laws.{AppliedLaw}
use Rattle.cert_check.specs.StepAnswers.{IsTreeAnswer, StepAnswer, StepsAnswer}
use Rattle.std.specs.Prelude.{OnOk}
use Rattle.net_meaning.specs.AlikeEnvironments.{SameOutputs}
use Rattle.cert_check.specs.declared.answer.Accepted.{Accepted}
use Rattle.cert_check.proofs.Sound.{derives_same, derives_types}

-- one step more
pub steps_more : (t u v : TypedNetwork) (ss : List Step) (s : Step) → Steps t ss u → Next u s v → Steps t (ss ++ s ∷ []) v
steps_more t u v ss s no_step x = step_then x no_step
steps_more t u v ss s (step_then {u = w} {ss = rest} y ys) x = step_then y (steps_more w u v rest s ys x)

-- the steps before, at and behind a place of the list
pub split : (xs : List LawStep) (i : ℕ) (x : LawStep) → i < length xs → x ≡ get_or xs i x
    → map step_of xs ≡ map step_of (take i xs) ++ step_of x ∷ map step_of (drop (suc i) xs)
split xs i x h e =
    ap (map step_of) (sym (take-append-drop i xs) ∙ ap (λ ys. take i xs ++ ys) (drop-cons xs i x h ∙ ap (λ y. y ∷ drop (suc i) xs) (sym e)))
    ∙ map-append step_of (take i xs) (x ∷ drop (suc i) xs)

-- one step more is taken from the list
pub one_more : (xs : List LawStep) (i : ℕ) (x : LawStep) → i < length xs → x ≡ get_or xs i x
    → map step_of (take (i + 1) xs) ≡ map step_of (take i xs) ++ step_of x ∷ []
one_more xs i x h e =
    ap (λ n. map step_of (take n xs)) (add-one i) ∙ ap (map step_of) (take-suc xs i x h ∙ ap (λ y. take i xs ++ y ∷ []) (sym e))
    ∙ map-append step_of (take i xs) (x ∷ [])

pub taken_more : (t u v : TypedNetwork) (xs : List LawStep) (i : ℕ) (x : LawStep) → i < length xs → x ≡ get_or xs i x → Steps t (map step_of (take i xs)) u
    → Next u (step_of x) v → Steps t (map step_of (take (i + 1) xs)) v
taken_more t u v xs i x h e s n =
    subst (λ ss. Steps t ss v) (sym (one_more xs i x h e)) (steps_more t u v (map step_of (take i xs)) (step_of x) s n)

-- a fault of a step is the first one of all
first_of_all : (F : TypedNetwork → Step → Type 0) (t u : TypedNetwork) (xs : List LawStep) (i : ℕ) (x : LawStep) (n k : ℕ) → i < length xs → x ≡ get_or xs i x
    → Steps t (map step_of (take i xs)) u → n ≡ i + 1 → k ≡ n → F u (step_of x) → FirstFails F t (map step_of xs) k
first_of_all F t u xs i x n k h e s hn hk f = record {
  before = map step_of (take i xs);
  step = step_of x;
  behind = map step_of (drop (suc i) xs);
  steps_are = split xs i x h e;
  number_is = let l : length (map step_of (take i xs)) ≡ length (take i xs) = length-map (take i xs) step_of in omega (arith, length-take i xs);
  reached = u;
  leads = s;
  fails = f;
}

pub fault_first : (A : Type 0) (t u v w : TypedNetwork) (xs : List LawStep) (i : ℕ) (x : LawStep) (n : ℕ) (fault : CheckFault) → i < length xs
    → x ≡ get_or xs i x → Steps t (map step_of (take i xs)) u → n ≡ i + 1 → StepAnswer {A = A} u (step_of x) n v (Err fault)
    → StepsAnswer t (map step_of xs) w (Err fault)
fault_first A t u v w xs i x n (NoPosition k) h e s hn a = first_of_all NowhereIn t u xs i x n k h e s hn a.0.0 a.0.1
fault_first A t u v w xs i x n (NoMatch k) h e s hn a = first_of_all Unmatched t u xs i x n k h e s hn a.0.0 a.0.1
fault_first A t u v w xs i x n (IllTyped k) h e s hn a = first_of_all Untyped t u xs i x n k h e s hn a.0.0 a.0.1
fault_first A t u v w xs i x n Memory h e s hn a = tt
fault_first A t u v w xs i x n InputsDiffer h e s hn a = absurd a.0
fault_first A t u v w xs i x n TooManySteps h e s hn a = absurd a.0
fault_first A t u v w xs i x n EndsElsewhere h e s hn a = absurd a.0

-- what the law answers at a place that was found
pub answered_there : (t : TypedNetwork) (s : Step) (p : Placed) (new : C.Tree) → placed_at 0 0 (a_network t.net) s.position ≡ Some p
    → IsTreeAnswer p.olds s.law s.direction p.tree s.given (Some new) → Answered t s (part_of new)
answered_there t s p new f a = record { place = p; found = f; answered = a }

pub unmatched_there : (t : TypedNetwork) (s : Step) (p : Placed) → placed_at 0 0 (a_network t.net) s.position ≡ Some p
    → IsTreeAnswer p.olds s.law s.direction p.tree s.given None → Unmatched t s
unmatched_there t s p f a = record { place = p; found = f; no_answer = a }

-- what a `?` returns
pub passed_on : {A : Type 0} (P : Result A CheckFault → Type 0) (r : Result A CheckFault) (fault : CheckFault) → IsErrAnd r (λ y. y ≡ fault) → P (Err fault) → P r
passed_on P (Ok y) fault p q = absurd p
passed_on P (Err y) fault p q = subst (λ z. P (Err z)) (sym p) q

-- what is accepted has the same types and outputs the same
pub accepted_types : (source target : TypedNetwork) (ss : List Step) (r : Result Accepted CheckFault) → HasItsTypes source → HasItsTypes target
    → CheckAnswer source target ss r → OnOk r (source.output ≡ target.output)
accepted_types source target ss (Ok n) h k x = (derives_types source target ss h k x.0).1
accepted_types source target ss (Err fault) h k x = tt

pub accepted_same : (source target : TypedNetwork) (ss : List Step) (r : Result Accepted CheckFault) → HasItsTypes source → CheckAnswer source target ss r
    → OnOk r (SameOutputs [] [] source.input source.net target.net)
accepted_same source target ss (Ok n) h x = derives_same source target ss h x.0
accepted_same source target ss (Err fault) h x = tt

-- steps keep the input type, and what they lead to is within the limits
pub led : (t : TypedNetwork) (ss : List Step) (u : TypedNetwork) → WithinLimits t → Steps t ss u → (u.input ≡ t.input) × WithinLimits u
led t ss u limits no_step = (refl, limits)
led t ss u limits (step_then {u = next} {ss = more} x xs) =
    let behind = led next more u x.rewritten.within xs in (behind.0 ∙ x.rewritten.same_input, behind.1)

-- what they lead to is derived by them
pub applied : AppliedLaw
applied source last ss x limits =
    let there = led source ss last limits x.1 in
    (record { same_input = sym there.0; few = x.0; last = last; leads = x.1; ends = refl }, there.1)
