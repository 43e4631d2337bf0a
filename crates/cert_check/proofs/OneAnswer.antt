-- A step leads to at most one network, and a check has one answer.
use Rattle.std.proofs.Common.{◌≡◌, ℕ, suc, ◌≤◌, ◌<◌, List, [], ◌∷◌, ◌++◌, length, Option, Result, Ok, Err, refl, sym, ap, ◌∙◌, arith, subst, Some, None}
use Rattle.std.proofs.lemmas.Option.{none-some, same_Some}
use Rattle.leaf_core.specs.Expression.{Expression}
use Rattle.net_tree.specs.Network.{Network}
use Rattle.net_tree.specs.Weight.{weight}
use Rattle.net_tree.specs.Height.{height}
use Rattle.net_meaning.specs.NetworkLimits.{WithinLimits}
use Rattle.net_meaning.specs.TypedNetwork.{TypedNetwork}
use Rattle.net_tree.specs.Place.{Tree, a_network, a_leaf}
use Rattle.net_syntax.specs.Rewriting.{Rewrites}
use Rattle.net_tree.specs.LawStep.{Step}
use Rattle.net_tree.specs.declared.law_step.Law.{Law}
use Rattle.net_tree.specs.declared.law_step.Direction.{Direction}
use Rattle.expr_laws.proofs.Answered.{one_answer as one_expression}
use Rattle.law_rules.proofs.Answered.{one_answer as one_network}
use Rattle.cert_check.specs.TreeAnswer.{TreeAnswer}
use Rattle.cert_check.specs.Derives.{Answered, Next, Steps, no_step, step_then, Derives}
use Rattle.cert_check.specs.declared.answer.Accepted.{Accepted}
use Rattle.cert_check.specs.declared.answer.CheckFault.{CheckFault}
use Rattle.cert_check.specs.declared.answer.CheckFault.TheVariants.{InputsDiffer, TooManySteps, NoPosition, NoMatch, IllTyped, EndsElsewhere, Memory}
use Rattle.cert_check.specs.CheckAnswer.{NowhereIn, Unmatched, Untyped, FirstFails, LeadsElsewhere, CheckAnswer}
use Rattle.cert_check.specs.Laws.{OneNextLaw, OneCheckAnswerLaw}
use Rattle.cert_check.specs.declared.derivation.TheConstants.{MOST_STEPS}

-- a law has one answer at a tree
pub answer_unique : (olds : ℕ) (law : Law) (direction : Direction) (tree : Tree Expression) (given : Option (Tree Expression)) (r s : Tree Expression)
    → TreeAnswer olds law direction tree given r → TreeAnswer olds law direction tree given s → r ≡ s
answer_unique olds law direction (a_leaf e) None (a_leaf r) (a_leaf s) x y = ap a_leaf (one_expression law direction e None r s x y)
answer_unique olds law direction (a_leaf e) (Some (a_leaf g)) (a_leaf r) (a_leaf s) x y = ap a_leaf (one_expression law direction e (Some g) r s x y)
answer_unique olds law direction (a_network f) None (a_network r) (a_network s) x y = ap a_network (one_network law direction f None olds r s x y)
answer_unique olds law direction (a_network f) (Some (a_network g)) (a_network r) (a_network s) x y =
    ap a_network (one_network law direction f (Some g) olds r s x y)
answer_unique olds law direction (a_leaf e) None (a_network r) s x y = absurd x
answer_unique olds law direction (a_leaf e) None (a_leaf r) (a_network s) x y = absurd y
answer_unique olds law direction (a_leaf e) (Some (a_leaf g)) (a_network r) s x y = absurd x
answer_unique olds law direction (a_leaf e) (Some (a_leaf g)) (a_leaf r) (a_network s) x y = absurd y
answer_unique olds law direction (a_leaf e) (Some (a_network g)) r s x y = absurd x
answer_unique olds law direction (a_network f) None (a_leaf r) s x y = absurd x
answer_unique olds law direction (a_network f) None (a_network r) (a_leaf s) x y = absurd y
answer_unique olds law direction (a_network f) (Some (a_network g)) (a_leaf r) s x y = absurd x
answer_unique olds law direction (a_network f) (Some (a_network g)) (a_network r) (a_leaf s) x y = absurd y
answer_unique olds law direction (a_network f) (Some (a_leaf g)) r s x y = absurd x

-- what a law answers at a step's position is one tree
answered_unique : (t : TypedNetwork) (s : Step) (new other : Tree Expression) → Answered t s new → Answered t s other → new ≡ other
answered_unique t s new other a b =
    let same : a.place ≡ b.place = same_Some a.place b.place (sym a.found ∙ b.found) in
    answer_unique b.place.olds s.law s.direction b.place.tree s.given new other
    (subst (λ q. TreeAnswer q.olds s.law s.direction q.tree s.given new) same a.answered) b.answered

abbrev net_in : Network Expression → Tree Expression → Network Expression
net_in f (a_network g) = g
net_in f (a_leaf e) = f

rewrites_unique : (t : TypedNetwork) (p : List ℕ) (new : Tree Expression) (u v : TypedNetwork) → Rewrites t p new u → Rewrites t p new v → u ≡ v
rewrites_unique t p new u v a b =
    let nets : u.net ≡ v.net = ap (net_in t.net) (same_Some (a_network u.net) (a_network v.net) (sym a.result ∙ b.result)) in
    let wu : WithinLimits u = a.within in
    let wv : WithinLimits v = b.within in
    let inputs : u.input ≡ v.input = a.same_input ∙ sym b.same_input in
    let outputs : u.output ≡ v.output = a.same_output ∙ sym b.same_output in
    let weights : u.weight ≡ v.weight = wu.its_weight ∙ ap (λ f. weight f []) nets ∙ sym wv.its_weight in
    let heights : u.height ≡ v.height = wu.its_height ∙ ap (λ f. height f []) nets ∙ sym wv.its_height in
    λ i. record { input = inputs i; output = outputs i; net = nets i; weight = weights i; height = heights i }

pub one_next : OneNextLaw
one_next t u v s x y =
    rewrites_unique t s.position y.new u v
    (subst (λ n. Rewrites t s.position n u) (answered_unique t s x.new y.new x.answered y.answered) x.rewritten) y.rewritten

-- steps lead to one network
steps_end : (t u v : TypedNetwork) (ss : List Step) → Steps t ss u → Steps t ss v → u ≡ v
steps_end t u v ss no_step no_step = refl
steps_end t u v ss (step_then {u = x} {s = s} {ss = rest} a as1) (step_then {u = y} b bs) =
    steps_end y u v rest (subst (λ z. Steps z rest u) (one_next t x y s a b) as1) bs

-- what fails so isn't gone on from
abbrev Stops : (TypedNetwork → Step → Type 0) → Type 0
Stops F = (t u : TypedNetwork) (s : Step) → F t s → Next t s u → ⊥

nowhere-stops : Stops NowhereIn
nowhere-stops t u s n x = let a : Answered t s x.new = x.answered in none-some a.place (sym n ∙ a.found)

-- a place where the law has no answer
unanswered : (t : TypedNetwork) (s : Step) (new : Tree Expression) → Unmatched t s → Answered t s new → ⊥
unanswered t s new n a =
    n.no_answer new (subst (λ q. TreeAnswer q.olds s.law s.direction q.tree s.given new) (same_Some a.place n.place (sym a.found ∙ n.found)) a.answered)

unmatched-stops : Stops Unmatched
unmatched-stops t u s n x = unanswered t s x.new n x.answered

untyped-stops : Stops Untyped
untyped-stops t u s n x = n.refused u (subst (λ z. Rewrites t s.position z u) (answered_unique t s x.new n.new x.answered n.answered) x.rewritten)

-- a step fails in one way
abbrev Apart : (TypedNetwork → Step → Type 0) → (TypedNetwork → Step → Type 0) → Type 0
Apart F G = (t : TypedNetwork) (s : Step) → F t s → G t s → ⊥

nowhere-unmatched : Apart NowhereIn Unmatched
nowhere-unmatched t s n m = none-some m.place (sym n ∙ m.found)

nowhere-untyped : Apart NowhereIn Untyped
nowhere-untyped t s n m = let a : Answered t s m.new = m.answered in none-some a.place (sym n ∙ a.found)

unmatched-untyped : Apart Unmatched Untyped
unmatched-untyped t s n m = unanswered t s m.new n m.answered

-- two that stop at their first fault stop at the same step
record Meet (F G : TypedNetwork → Step → Type 0) (b c : List Step) : Type 0 where
  same_length : length b ≡ length c
  meeting : TypedNetwork
  step : Step
  one : F meeting step
  other : G meeting step

meet : (F G : TypedNetwork → Step → Type 0) → Stops F → Stops G → (t r w : TypedNetwork) (b c : List Step) (s z : Step) (p q : List Step) → Steps t b r
    → Steps t c w → F r s → G w z → b ++ s ∷ p ≡ c ++ z ∷ q → Meet F G b c
meet F G sf sg t r w b c s z p q no_step no_step f g e =
    let i : s ≡ z = cc in record { same_length = refl; meeting = t; step = z; one = subst (F t) i f; other = g }
meet F G sf sg t r w b c s z p q no_step (step_then {u = u} {s = x} y ys) f g e =
    let i : s ≡ x = cc in absurd (sf t u x (subst (F t) i f) y)
meet F G sf sg t r w b c s z p q (step_then {u = u} {s = x} y ys) no_step f g e =
    let i : z ≡ x = cc in absurd (sg t u x (subst (G t) i g) y)
meet F G sf sg t r w b c s z p q (step_then {u = u} {s = x} {ss = b'} a as1) (step_then {u = v} {s = y} {ss = c'} d ds) f g e =
    let i : x ≡ y = cc in
    let j : b' ++ s ∷ p ≡ c' ++ z ∷ q = cc in
    let same : u ≡ v = one_next t u v y (subst (λ k. Next t k u) i a) d in
    let m : Meet F G b' c' = meet F G sf sg v r w b' c' s z p q (subst (λ k. Steps k b' r) same as1) ds f g j in
    record { same_length = ap suc m.same_length; meeting = m.meeting; step = m.step; one = m.one; other = m.other }

-- steps that lead to their end have no fault
passes : (F : TypedNetwork → Step → Type 0) → Stops F → (t r v : TypedNetwork) (b : List Step) (s : Step) (p all : List Step) → Steps t b r → F r s
    → Steps t all v → all ≡ b ++ s ∷ p → ⊥
passes F sf t r v b s p all no_step f no_step e = absurd cc
passes F sf t r v b s p all no_step f (step_then {u = u} {s = x} y ys) e = let i : s ≡ x = cc in sf t u x (subst (F t) i f) y
passes F sf t r v b s p all (step_then a as1) f no_step e = absurd cc
passes F sf t r v b s p all (step_then {u = u} {s = x} {ss = b'} a as1) f (step_then {u = w} {s = y} {ss = c'} d ds) e =
    let i : x ≡ y = cc in
    let j : c' ≡ b' ++ s ∷ p = cc in
    let same : u ≡ w = one_next t u w y (subst (λ k. Next t k u) i a) d in
    passes F sf w r v b' s p c' (subst (λ k. Steps k b' r) same as1) f ds j

module _ (source target : TypedNetwork) (steps : List Step) where
  one_number : (F : TypedNetwork → Step → Type 0) → Stops F → (n m : ℕ) → FirstFails F source steps n → FirstFails F source steps m → n ≡ m
  one_number F sf n m a b =
      let h : Meet F F a.before b.before = meet F F sf sf source a.reached b.reached a.before b.before a.step b.step a.behind b.behind a.leads b.leads a.fails
      b.fails (sym a.steps_are ∙ b.steps_are) in
      a.number_is ∙ ap suc h.same_length ∙ sym b.number_is

  one_way : (F G : TypedNetwork → Step → Type 0) → Stops F → Stops G → Apart F G → (n m : ℕ) → FirstFails F source steps n → FirstFails G source steps m → ⊥
  one_way F G sf sg apart n m a b =
      let h : Meet F G a.before b.before = meet F G sf sg source a.reached b.reached a.before b.before a.step b.step a.behind b.behind a.leads b.leads a.fails
      b.fails (sym a.steps_are ∙ b.steps_are) in
      apart h.meeting h.step h.one h.other

  no_end : (F : TypedNetwork → Step → Type 0) → Stops F → (n : ℕ) (v : TypedNetwork) → FirstFails F source steps n → Steps source steps v → ⊥
  no_end F sf n v a h = passes F sf source a.reached v a.before a.step a.behind steps a.leads a.fails h a.steps_are

  too_many : length steps ≤ MOST_STEPS → MOST_STEPS < length steps → ⊥
  too_many h k = omega arith

  abbrev Same : Result Accepted CheckFault → Result Accepted CheckFault → Type 0
  Same a b = CheckAnswer source target steps a → CheckAnswer source target steps b → (a ≡ Err Memory → ⊥) → (b ≡ Err Memory → ⊥) → a ≡ b

  elsewhere : Derives source target steps → LeadsElsewhere source target steps → ⊥
  elsewhere d l = l.elsewhere (ap (λ t. t.net) (steps_end source l.last d.last steps l.leads d.leads) ∙ d.ends)

  one-answer : (a b : Result Accepted CheckFault) → Same a b
  one-answer (Ok n) (Ok m) x y p q = ap (λ k. Ok (record { steps = k })) (x.1 ∙ sym y.1)
  one-answer (Ok n) (Err InputsDiffer) x y p q = absurd (y x.0.same_input)
  one-answer (Ok n) (Err TooManySteps) x y p q = absurd (too_many x.0.few y.1)
  one-answer (Ok n) (Err (NoPosition m)) x y p q = absurd (no_end NowhereIn nowhere-stops m x.0.last y.1 x.0.leads)
  one-answer (Ok n) (Err (NoMatch m)) x y p q = absurd (no_end Unmatched unmatched-stops m x.0.last y.1 x.0.leads)
  one-answer (Ok n) (Err (IllTyped m)) x y p q = absurd (no_end Untyped untyped-stops m x.0.last y.1 x.0.leads)
  one-answer (Ok n) (Err EndsElsewhere) x y p q = absurd (elsewhere x.0 y.1)
  one-answer (Ok n) (Err Memory) x y p q = absurd (q refl)
  one-answer (Err InputsDiffer) (Ok m) x y p q = absurd (x y.0.same_input)
  one-answer (Err InputsDiffer) (Err InputsDiffer) x y p q = refl
  one-answer (Err InputsDiffer) (Err TooManySteps) x y p q = absurd (x y.0)
  one-answer (Err InputsDiffer) (Err (NoPosition m)) x y p q = absurd (x y.0.same_input)
  one-answer (Err InputsDiffer) (Err (NoMatch m)) x y p q = absurd (x y.0.same_input)
  one-answer (Err InputsDiffer) (Err (IllTyped m)) x y p q = absurd (x y.0.same_input)
  one-answer (Err InputsDiffer) (Err EndsElsewhere) x y p q = absurd (x y.0.same_input)
  one-answer (Err InputsDiffer) (Err Memory) x y p q = absurd (q refl)
  one-answer (Err TooManySteps) (Ok m) x y p q = absurd (too_many y.0.few x.1)
  one-answer (Err TooManySteps) (Err InputsDiffer) x y p q = absurd (y x.0)
  one-answer (Err TooManySteps) (Err TooManySteps) x y p q = refl
  one-answer (Err TooManySteps) (Err (NoPosition m)) x y p q = absurd (too_many y.0.few x.1)
  one-answer (Err TooManySteps) (Err (NoMatch m)) x y p q = absurd (too_many y.0.few x.1)
  one-answer (Err TooManySteps) (Err (IllTyped m)) x y p q = absurd (too_many y.0.few x.1)
  one-answer (Err TooManySteps) (Err EndsElsewhere) x y p q = absurd (too_many y.0.few x.1)
  one-answer (Err TooManySteps) (Err Memory) x y p q = absurd (q refl)
  one-answer (Err (NoPosition n)) (Ok m) x y p q = absurd (no_end NowhereIn nowhere-stops n y.0.last x.1 y.0.leads)
  one-answer (Err (NoPosition n)) (Err InputsDiffer) x y p q = absurd (y x.0.same_input)
  one-answer (Err (NoPosition n)) (Err TooManySteps) x y p q = absurd (too_many x.0.few y.1)
  one-answer (Err (NoPosition n)) (Err (NoPosition m)) x y p q = ap (λ k. Err (NoPosition k)) (one_number NowhereIn nowhere-stops n m x.1 y.1)
  one-answer (Err (NoPosition n)) (Err (NoMatch m)) x y p q = absurd (one_way NowhereIn Unmatched nowhere-stops unmatched-stops nowhere-unmatched n m x.1 y.1)
  one-answer (Err (NoPosition n)) (Err (IllTyped m)) x y p q = absurd (one_way NowhereIn Untyped nowhere-stops untyped-stops nowhere-untyped n m x.1 y.1)
  one-answer (Err (NoPosition n)) (Err EndsElsewhere) x y p q = absurd (no_end NowhereIn nowhere-stops n y.1.last x.1 y.1.leads)
  one-answer (Err (NoPosition n)) (Err Memory) x y p q = absurd (q refl)
  one-answer (Err (NoMatch n)) (Ok m) x y p q = absurd (no_end Unmatched unmatched-stops n y.0.last x.1 y.0.leads)
  one-answer (Err (NoMatch n)) (Err InputsDiffer) x y p q = absurd (y x.0.same_input)
  one-answer (Err (NoMatch n)) (Err TooManySteps) x y p q = absurd (too_many x.0.few y.1)
  one-answer (Err (NoMatch n)) (Err (NoPosition m)) x y p q = absurd (one_way NowhereIn Unmatched nowhere-stops unmatched-stops nowhere-unmatched m n y.1 x.1)
  one-answer (Err (NoMatch n)) (Err (NoMatch m)) x y p q = ap (λ k. Err (NoMatch k)) (one_number Unmatched unmatched-stops n m x.1 y.1)
  one-answer (Err (NoMatch n)) (Err (IllTyped m)) x y p q = absurd (one_way Unmatched Untyped unmatched-stops untyped-stops unmatched-untyped n m x.1 y.1)
  one-answer (Err (NoMatch n)) (Err EndsElsewhere) x y p q = absurd (no_end Unmatched unmatched-stops n y.1.last x.1 y.1.leads)
  one-answer (Err (NoMatch n)) (Err Memory) x y p q = absurd (q refl)
  one-answer (Err (IllTyped n)) (Ok m) x y p q = absurd (no_end Untyped untyped-stops n y.0.last x.1 y.0.leads)
  one-answer (Err (IllTyped n)) (Err InputsDiffer) x y p q = absurd (y x.0.same_input)
  one-answer (Err (IllTyped n)) (Err TooManySteps) x y p q = absurd (too_many x.0.few y.1)
  one-answer (Err (IllTyped n)) (Err (NoPosition m)) x y p q = absurd (one_way NowhereIn Untyped nowhere-stops untyped-stops nowhere-untyped m n y.1 x.1)
  one-answer (Err (IllTyped n)) (Err (NoMatch m)) x y p q = absurd (one_way Unmatched Untyped unmatched-stops untyped-stops unmatched-untyped m n y.1 x.1)
  one-answer (Err (IllTyped n)) (Err (IllTyped m)) x y p q = ap (λ k. Err (IllTyped k)) (one_number Untyped untyped-stops n m x.1 y.1)
  one-answer (Err (IllTyped n)) (Err EndsElsewhere) x y p q = absurd (no_end Untyped untyped-stops n y.1.last x.1 y.1.leads)
  one-answer (Err (IllTyped n)) (Err Memory) x y p q = absurd (q refl)
  one-answer (Err EndsElsewhere) (Ok m) x y p q = absurd (elsewhere y.0 x.1)
  one-answer (Err EndsElsewhere) (Err InputsDiffer) x y p q = absurd (y x.0.same_input)
  one-answer (Err EndsElsewhere) (Err TooManySteps) x y p q = absurd (too_many x.0.few y.1)
  one-answer (Err EndsElsewhere) (Err (NoPosition m)) x y p q = absurd (no_end NowhereIn nowhere-stops m x.1.last y.1 x.1.leads)
  one-answer (Err EndsElsewhere) (Err (NoMatch m)) x y p q = absurd (no_end Unmatched unmatched-stops m x.1.last y.1 x.1.leads)
  one-answer (Err EndsElsewhere) (Err (IllTyped m)) x y p q = absurd (no_end Untyped untyped-stops m x.1.last y.1 x.1.leads)
  one-answer (Err EndsElsewhere) (Err EndsElsewhere) x y p q = refl
  one-answer (Err EndsElsewhere) (Err Memory) x y p q = absurd (q refl)
  one-answer (Err Memory) b x y p q = absurd (p refl)

pub one_answer : OneCheckAnswerLaw
one_answer source target steps a b = one-answer source target steps a b
