-- What is known of a trace as its steps are taken.
use Rattle.std.proofs.Common.{◌≡◌, ℕ, suc, ◌+◌, ◌<◌, List, [], ◌∷◌, ◌++◌, length, map, take, drop, get_or, Option, Some, None, option_map, IsSome, Result, Ok, Err, IfOk, refl, sym, ap, ◌∙◌, subst, arith}
use Rattle.std.proofs.lemmas.List.{map-append, length-map, length-take}
use Rattle.std.proofs.lemmas.Option.{none-some, same_Some}
use Rattle.sample_core.specs.declared.memory.Memory.{Memory}
use Rattle.leaf_core.specs.Expression.{Expression}
use Rattle.net_tree.specs.Place.{Tree, a_network}
use Rattle.net_syntax.specs.Placed.{Placed, placed_at}
use Rattle.net_tree.specs.declared.law_step.Tree as C
use Rattle.net_tree.specs.declared.law_step.Direction.TheVariants.{Forward}
use Rattle.cert_check.specs.declared.answer.CheckFault.{CheckFault}
use Rattle.cert_check.specs.Derives.{Next, standing_tree}
use Rattle.cert_check.specs.StepAnswers.{IsTreeAnswer, StepFault}
use Rattle.cert_check.specs.TreeAnswer.{TreeAnswer}
use Rattle.cert_check.proofs.StandsNow.{next_there}
use Rattle.net_tree.specs.LawStep.{Step, step_of, part_of}
use Rattle.net_meaning.specs.TypedNetwork.{TypedNetwork}
use Rattle.net_tree.specs.declared.law_step.LawStep.{LawStep}
use Rattle.cert_check.proofs.Taken.{split, one_more}
use Rattle.net_view.specs.declared.trace.Change.{Change}
use Rattle.net_view.specs.declared.trace.StepTrace.{StepTrace}
use Rattle.net_view.specs.declared.trace.StepTrace.TheVariants.{Taken, Refused}
use Rattle.net_view.specs.Trace.{IsLedTo, IsRefusedSo, IsStepTrace, Changed, Stopped, changed_of, Changes, AreChanges, no_change, change_then, StopsAt, TakenBefore}

-- one change more
changes_more : (t u v : TypedNetwork) (ss : List Step) (s : Step) (cs : List Changed) (c : Changed) → AreChanges t ss cs u → Changes u s c v
    → AreChanges t (ss ++ s ∷ []) (cs ++ c ∷ []) v
changes_more t u v ss s cs c no_change x = change_then x no_change
changes_more t u v ss s cs c (change_then {u = w} {ss = rest} {cs = more} y ys) x = change_then y (changes_more w u v rest s more c ys x)

-- the next step of the list is taken
pub changed_more : (t u v : TypedNetwork) (xs : List LawStep) (i : ℕ) (x : LawStep) (cs ds : List Change) (c : Change) → i < length xs → x ≡ get_or xs i x
    → ds ≡ cs ++ c ∷ [] → AreChanges t (map step_of (take i xs)) (map changed_of cs) u → Changes u (step_of x) (changed_of c) v
    → AreChanges t (map step_of (take (i + 1) xs)) (map changed_of ds) v
changed_more t u v xs i x cs ds c h e d a b =
    let more : AreChanges t (map step_of (take i xs) ++ step_of x ∷ []) (map changed_of cs ++ changed_of c ∷ []) v =
    changes_more t u v (map step_of (take i xs)) (step_of x) (map changed_of cs) (changed_of c) a b in
    subst (λ ss. AreChanges t ss (map changed_of ds) v) (sym (one_more xs i x h e))
    (subst (λ es. AreChanges t (map step_of (take i xs) ++ step_of x ∷ []) es v) (sym (ap (map changed_of) d ∙ map-append changed_of cs (c ∷ []))) more)

-- the next step of the list is refused
pub stopped_at : (t u : TypedNetwork) (xs : List LawStep) (i : ℕ) (x : LawStep) (cs : List Changed) (n : ℕ) (stop : Stopped) → i < length xs → x ≡ get_or xs i x
    → n ≡ i + 1 → AreChanges t (map step_of (take i xs)) cs u → StopsAt u (step_of x) n stop → TakenBefore t (map step_of xs) cs stop
stopped_at t u xs i x cs n stop h e hn a s =
    let number : n ≡ suc (length (map step_of (take i xs))) =
    let l : length (map step_of (take i xs)) ≡ length (take i xs) = length-map (take i xs) step_of in omega (arith, length-take i xs) in
    record {
      before = map step_of (take i xs);
      step = step_of x;
      behind = map step_of (drop (suc i) xs);
      steps_are = split xs i x h e;
      reached = u;
      changes = a;
      stops = subst (λ k. StopsAt u (step_of x) k stop) number s;
    }

-- something stands at the position behind a step that led on
pub after_there : (t u : TypedNetwork) (s : Step) (o : Option C.Tree) → Next t s u → option_map part_of o ≡ standing_tree u s.position → IsSome o
after_there t u s (Some tree) x e = refl
after_there t u s None x e = absurd (none-some x.new (e ∙ next_there t u s x))

-- what is told of a step that is refused
pub stops_so : (t u : TypedNetwork) (s : Step) (n : ℕ) (fault : CheckFault) (r : Result StepTrace Memory) → StepFault t s n fault → u ≡ t
    → IfOk r (IsRefusedSo u s fault) → IfOk r (IsStepTrace t s n u)
stops_so t u s n fault (Err m) why e h = tt
stops_so t u s n fault (Ok (Taken change)) why e h = absurd h
stops_so t u s n fault (Ok (Refused stop)) why e h = record {
  why = subst (StepFault t s n) (sym h.0) why;
  refused = λ m. h.1 (sym h.0 ∙ m);
  there = h.2 ∙ ap (λ z. standing_tree z s.position) e;
  led = subst (λ z. IsLedTo z s (option_map part_of stop.led)) e h.3;
}

-- what the law leads to from the tree that the step gives
pub led_by : (t : TypedNetwork) (s : Step) (p : Placed) (g : Tree Expression) (r : Result (Option C.Tree) Memory)
    → placed_at 0 0 (a_network t.net) s.position ≡ Some p → s.given ≡ Some g → IfOk r (IsTreeAnswer p.olds s.law Forward g None)
    → IfOk r (λ led. IsLedTo t s (option_map part_of led))
led_by t s p g (Err m) i j h = tt
led_by t s p g (Ok (Some new)) i j h = record { place = p; found = i; given = g; gives = j; answered = h }
led_by t s p g (Ok None) i j h = λ new l.
    let place : l.place ≡ p = same_Some l.place p (sym l.found ∙ i) in
    let given : l.given ≡ g = same_Some l.given g (sym l.gives ∙ j) in
    h new (subst (λ q. TreeAnswer q.olds s.law Forward g None new) place
    (subst (λ z. TreeAnswer l.place.olds s.law Forward z None new) given l.answered))
