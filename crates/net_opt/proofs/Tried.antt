-- A law that was tried at a place and a step that was taken there.
use Rattle.std.proofs.Common.{◌≡◌, inl, inr, ℕ, ◌+◌, ◌<◌, Bool, true, false, List, [], ◌∷◌, ◌++◌, length, map, Option, Some, None, Result, Ok, Err, IfOk, refl, sym, ap, ◌∙◌, subst, get_or, below_more, true≢false}
use Rattle.std.proofs.lemmas.List.{get_or_default, map-append}
use Rattle.std.proofs.lemmas.Option.{none-some, same_Some}
use Rattle.leaf_core.specs.Expression.{Expression}
use Rattle.net_tree.specs.Network.{Network}
use Rattle.net_tree.specs.Place.{Tree, a_network, a_leaf}
use Rattle.sample_core.specs.declared.memory.Memory.{Memory}
use Rattle.net_syntax.specs.Placed.{Placed, placed, placed_at}
use Rattle.net_syntax.specs.Rewriting.{Rewrites}
use Rattle.net_meaning.specs.TypedNetwork.{TypedNetwork}
use Rattle.net_tree.specs.LawStep.{Step, step_of}
use Rattle.net_tree.specs.declared.law_step.LawStep.{LawStep}
use Rattle.net_tree.specs.declared.law_step.Law.{Law}
use Rattle.net_tree.specs.declared.law_step.Law.TheVariants as L
use Rattle.net_tree.specs.declared.law_step.Direction.TheVariants.{Forward}
use Rattle.expr_laws.specs.Answer as E
use Rattle.law_rules.specs.Answer as N
use Rattle.cert_check.specs.TreeAnswer.{TreeAnswer}
use Rattle.std.specs.List.{All}
use Rattle.std.proofs.lemmas.List.Elements.{All-nil, All-push}
use Rattle.cert_check.proofs.Taken.{steps_more}
use Rattle.cert_check.specs.Derives.{Answered, Next, Steps, no_step}
use Rattle.cert_check.proofs.OneAnswer.{answer_unique}
use Rattle.net_opt.specs.Order.{Before}
use Rattle.net_opt.specs.Optimising.{IsTried, MayTake, NoneLeft, network_laws, expression_laws, forward_step, NoStepBy, FirstTriedLaw, IsFirst, FirstSteps, none_first, first_then}
use Rattle.net_opt.specs.Nesting.{IsTooHigh}
use Rattle.net_opt.specs.Search.{numbers_at, law_at, NoMatchBy, OnlyTooHighBy, NotPut, Passed, PassedAt, FirstAt, FirstWithin, Takes, FoundStep, Puts}
use Rattle.net_opt.proofs.TooHigh.{too_high}

-- what is answered at a place
answer_there : (t : TypedNetwork) (p : List ℕ) (c : Placed) (law : Law) (new : Tree Expression) → placed_at 0 0 (a_network t.net) p ≡ Some c
    → Answered t (forward_step law p) new → TreeAnswer c.olds law Forward c.tree None new
answer_there t p c law new there a =
    subst (λ (d : Placed). TreeAnswer d.olds law Forward d.tree None new) (same_Some a.place c (sym a.found ∙ there)) a.answered

answered_once : (t : TypedNetwork) (p : List ℕ) (c : Placed) (law : Law) (new other : Tree Expression) → placed_at 0 0 (a_network t.net) p ≡ Some c
    → TreeAnswer c.olds law Forward c.tree None new → Answered t (forward_step law p) other → other ≡ new
answered_once t p c law new other there is a = answer_unique c.olds law Forward c.tree None other new (answer_there t p c law other there a) is

-- no step by a law whose right side can't stand there
pub refused_at : (t : TypedNetwork) (p : List ℕ) (c : Placed) (law : Law) (new : Tree Expression) → placed_at 0 0 (a_network t.net) p ≡ Some c
    → TreeAnswer c.olds law Forward c.tree None new → ((u : TypedNetwork) → Rewrites t p new u → ⊥) → NoStepBy t p law
refused_at t p c law new there is refused = λ v next.
    refused v (subst (λ w. Rewrites t p w v) (answered_once t p c law new next.new there is next.answered) next.rewritten)

-- a step is taken where the right side stands now
taken_at : (t v : TypedNetwork) (p : List ℕ) (c : Placed) (law : Law) (new : Tree Expression) (s : Step) → placed_at 0 0 (a_network t.net) p ≡ Some c
    → TreeAnswer c.olds law Forward c.tree None new → IsTried law → s ≡ forward_step law p → Rewrites t p new v → Takes t s v
taken_at t v p c law new s there answer tried is w = subst (λ s. Takes t s v) (sym is) (record {
  may = record { tried = tried; forward = refl; none_given = refl };
  next = record { new = new; answered = record { place = c; found = there; answered = answer }; rewritten = w };
})

-- at a network no law of expressions matches, at an expression none of networks
pub no_kind_net : (olds n : ℕ) (f : Network Expression) (new : Tree Expression) → TreeAnswer olds (L.E n) Forward (a_network f) None new → ⊥
no_kind_net olds n f (a_network r) a = elim a [ ]
no_kind_net olds n f (a_leaf r) a = absurd a

pub no_kind_leaf : (olds n : ℕ) (e : Expression) (new : Tree Expression) → TreeAnswer olds (L.L n) Forward (a_leaf e) None new → ⊥
no_kind_leaf olds n e (a_leaf r) a = elim a [ ]
no_kind_leaf olds n e (a_network r) a = absurd a

-- a law that doesn't match was passed, and one whose step was refused, and what was passed stays so
pub unmatched : (b : Bool) (t : TypedNetwork) (p : List ℕ) (law : Law) → NoMatchBy t p law → Passed b t p law
unmatched true t p law h = λ u next. h next.new next.answered
unmatched false t p law h = λ new a. absurd (h new a)

only_too_high : (b : Bool) (t : TypedNetwork) (p : List ℕ) (law : Law) → OnlyTooHighBy t p law → Passed b t p law
only_too_high true t p law h = λ u next. too_high t p next.new (h next.new next.answered) u next.rewritten
only_too_high false t p law h = h

not_taken : (b : Bool) (t : TypedNetwork) (p : List ℕ) (law : Law) → b ≡ true → NoStepBy t p law → Passed b t p law
not_taken true t p law e h = h
not_taken false t p law e h = absurd (true≢false (sym e))

pub passed_on : (a b : Bool) (t : TypedNetwork) (p : List ℕ) (law : Law) → (a ≡ true → b ≡ true) → Passed a t p law → Passed b t p law
passed_on true b t p law on h = not_taken b t p law (on refl) h
passed_on false b t p law on h = only_too_high b t p law h

pub no_match : (b : Bool) (t : TypedNetwork) (p : List ℕ) (c : Placed) (law : Law) → placed_at 0 0 (a_network t.net) p ≡ Some c
    → ((new : Tree Expression) → TreeAnswer c.olds law Forward c.tree None new → ⊥) → Passed b t p law
no_match b t p c law there none = unmatched b t p law (λ new a. none new (answer_there t p c law new there a))

-- the law that is tried at such a tree behind k others
abbrev pub law_tried : Tree Expression → ℕ → Law
law_tried u k = law_at u (get_or (numbers_at u) k 0)

-- where each law was passed that is tried at such a tree, each that is tried was
pub passed_at : (b : Bool) (t : TypedNetwork) (p : List ℕ) (m n : ℕ) (u : Tree Expression) → placed_at 0 0 (a_network t.net) p ≡ Some (placed m n u)
    → ((k : ℕ) → k < length (numbers_at u) → Passed b t p (law_tried u k)) → PassedAt b t p
passed_at b t p m n (a_network f) there none (L.L j) tried =
    subst (λ i. Passed b t p (L.L i)) (get_or_default network_laws tried.0 0 j tried.1 ∙ tried.2) (none tried.0 tried.1)
passed_at b t p m n (a_leaf e) there none (L.E j) tried =
    subst (λ i. Passed b t p (L.E i)) (get_or_default expression_laws tried.0 0 j tried.1 ∙ tried.2) (none tried.0 tried.1)
passed_at b t p m n (a_network f) there none (L.E j) tried = no_match b t p (placed m n (a_network f)) (L.E j) there (no_kind_net n j f)
passed_at b t p m n (a_leaf e) there none (L.L j) tried = no_match b t p (placed m n (a_leaf e)) (L.L j) there (no_kind_leaf n j e)

-- a step that may be taken is the one by its law at its position
step_is : (t : TypedNetwork) (s : Step) (may : MayTake s) (u : TypedNetwork) → Next t s u → Next t (forward_step s.law s.position) u
step_is t s may u next = subst (λ (g : Option (Tree Expression)). Next t (record { law = s.law; direction = Forward; position = s.position; given = g }) u) may.none_given
    (subst (λ d. Next t (record { law = s.law; direction = d; position = s.position; given = s.given }) u) may.forward next)

-- where each law that is tried was passed at each position, no step is left
pub none_anywhere : (b : Bool) (t : TypedNetwork) → ((p : List ℕ) → PassedAt b t p) → NoneLeft t
none_anywhere b t none = λ s may u next. passed_on b true t s.position s.law (λ e. refl) (none s.position s.law may.tried) u (step_is t s may u next)

-- where nothing stands no law matches
pub none_there : (b : Bool) (t : TypedNetwork) (p : List ℕ) → placed_at 0 0 (a_network t.net) p ≡ None → PassedAt b t p
none_there b t p is = λ law tried. unmatched b t p law (λ new a. none-some a.place (sym is ∙ a.found))

-- what isn't put there was passed
not_put : (t : TypedNetwork) (p : List ℕ) (c : Placed) (law : Law) (new : Tree Expression) (a b : Bool) → placed_at 0 0 (a_network t.net) p ≡ Some c
    → TreeAnswer c.olds law Forward c.tree None new → NotPut t p new a b → Passed b t p law
not_put t p c law new a b there is (inl h) = not_taken b t p law h.0 (refused_at t p c law new there is h.1)
not_put t p c law new a b there is (inr h) =
    only_too_high b t p law (λ other x. subst (IsTooHigh (length p)) (sym (answered_once t p c law new other there is x)) h.1)

-- what is put there by a law's right side is its step
put_there : (t u : TypedNetwork) (p : List ℕ) (c : Placed) (law : Law) (new : Tree Expression) (a b : Bool) (o : Option LawStep)
    → placed_at 0 0 (a_network t.net) p ≡ Some c → IsTried law → TreeAnswer c.olds law Forward c.tree None new → Puts law t p new u a b o
    → FoundStep (Passed b t p law) (λ s. s ≡ forward_step law p) t u o
put_there t u p c law new a b None there tried is h = (h.0, not_put t p c law new a b there is h.1)
put_there t u p c law new a b (Some x) there tried is h = (taken_at t u p c law new (step_of x) there is tried h.0 h.1, h.0)

-- the same of what the code answers
pub step_there : (t u : TypedNetwork) (p : List ℕ) (c : Placed) (law : Law) (new : Tree Expression) (a b : Bool) (o : Result (Option LawStep) Memory)
    → placed_at 0 0 (a_network t.net) p ≡ Some c → IsTried law → TreeAnswer c.olds law Forward c.tree None new → IfOk o (Puts law t p new u a b)
    → IfOk o (FoundStep (Passed b t p law) (λ s. s ≡ forward_step law p) t u)
step_there t u p c law new a b (Ok o) there tried is h = put_there t u p c law new a b o there tried is h
step_there t u p c law new a b (Err m) there tried is h = tt

-- the steps so far with one more
pub one_more : (t u v : TypedNetwork) (xs : List LawStep) (x : LawStep) → Steps t (map step_of xs) u → Takes u (step_of x) v → Steps t (map step_of (xs ++ x ∷ [])) v
one_more t u v xs x led takes = subst (λ ss. Steps t ss v) (sym (map-append step_of xs (x ∷ []))) (steps_more t u v (map step_of xs) (step_of x) led takes.next)

pub one_taken : (t v : TypedNetwork) (xs : List LawStep) (x : LawStep) → All MayTake (map step_of xs) → Takes t (step_of x) v → All MayTake (map step_of (xs ++ x ∷ []))
one_taken t v xs x all takes = subst (All MayTake) (sym (map-append step_of xs (x ∷ []))) (All-push MayTake (map step_of xs) (step_of x) all takes.may)

firsts_more : (t u v : TypedNetwork) (ss : List Step) (s : Step) → FirstSteps t ss u → IsFirst u s → Next u s v → FirstSteps t (ss ++ s ∷ []) v
firsts_more t u v ss s none_first i x = first_then i x none_first
firsts_more t u v ss s (first_then {u = w} {ss = rest} j y ys) i x = first_then j y (firsts_more w u v rest s ys i x)

pub one_first : (t u v : TypedNetwork) (xs : List LawStep) (x : LawStep) → FirstSteps t (map step_of xs) u → IsFirst u (step_of x) → Takes u (step_of x) v
    → FirstSteps t (map step_of (xs ++ x ∷ [])) v
one_first t u v xs x led first takes =
    subst (λ ss. FirstSteps t ss v) (sym (map-append step_of xs (x ∷ []))) (firsts_more t u v (map step_of xs) (step_of x) led first takes.next)

-- before any step
pub none_yet : (t : TypedNetwork) (xs : List LawStep) → xs ≡ [] → Steps t (map step_of xs) t
none_yet t xs e = subst (λ ys. Steps t (map step_of ys) t) (sym e) no_step

pub none_walked : (t : TypedNetwork) (xs : List LawStep) → xs ≡ [] → FirstSteps t (map step_of xs) t
none_walked t xs e = subst (λ ys. FirstSteps t (map step_of ys) t) (sym e) none_first

pub none_taken : (xs : List LawStep) → xs ≡ [] → All MayTake (map step_of xs)
none_taken xs e = subst (λ ys. All MayTake (map step_of ys)) (sym e) (All-nil MayTake)

-- no step was taken, or one was
pub found_none : (N : Type 0) (S : Step → Type 0) (t u : TypedNetwork) (o : Option LawStep) → ((x : LawStep) → o ≡ Some x → ⊥) → FoundStep N S t u o → (u ≡ t) × N
found_none N S t u None never h = h
found_none N S t u (Some x) never h = absurd (never x refl)

pub found_some : (N : Type 0) (S : Step → Type 0) (t u : TypedNetwork) (o : Option LawStep) (x : LawStep) → o ≡ Some x → FoundStep N S t u o → Takes t (step_of x) u × S (step_of x)
found_some N S t u o x e h = subst (FoundStep N S t u) e h

-- one law more was tried
pub law_more : (a b : Bool) (t v : TypedNetwork) (p q : List ℕ) (laws : ℕ → Law) (i : ℕ) → (a ≡ true → b ≡ true) → v ≡ t → q ≡ p
    → ((k : ℕ) → k < i → Passed a t p (laws k)) → Passed b v q (laws i) → (k : ℕ) → k < i + 1 → Passed b t p (laws k)
law_more a b t v p q laws i on same way before here =
    below_more (λ k. Passed b t p (laws k)) i (λ k h. passed_on a b t p (laws k) on (before k h))
    (subst (λ w. Passed b w p (laws i)) same (subst (λ x. Passed b v x (laws i)) way here))

-- a step by the law that is tried now is the first there
first_tried : (So : Law → Type 0) (u : Tree Expression) (i : ℕ) → i < length (numbers_at u) → ((k : ℕ) → k < i → So (law_tried u k))
    → FirstTriedLaw So (law_tried u i)
first_tried So (a_network f) i lt before = record { index = i; within = lt; is = refl; before = before }
first_tried So (a_leaf e) i lt before = record { index = i; within = lt; is = refl; before = before }

pub first_by : (a b : Bool) (t v w : TypedNetwork) (p q : List ℕ) (u : Tree Expression) (i : ℕ) (s : Step) → (a ≡ true → b ≡ true) → v ≡ t → q ≡ p
    → i < length (numbers_at u) → ((k : ℕ) → k < i → Passed a t p (law_tried u k))
    → Takes v s w × (s ≡ forward_step (law_tried u i) q) → Takes t s w × FirstAt b t p s
first_by a b t v w p q u i s on same way lt before h = (
  subst (λ x. Takes x s w) same h.0,
  record {
    there = ap (λ (z : Step). z.position) h.1 ∙ way;
    first_law = subst (FirstTriedLaw (Passed b t p)) (sym (ap (λ (z : Step). z.law) h.1))
        (first_tried (Passed b t p) u i lt (λ k l. passed_on a b t p (law_tried u k) on (before k l)));
  },
)

-- the first of the walk from the root is the first of all
first_law_on : (b : Bool) (t : TypedNetwork) (p : List ℕ) (law : Law) → FirstTriedLaw (Passed b t p) law → FirstTriedLaw (NoStepBy t p) law
first_law_on b t p (L.L n) h =
    record { index = h.index; within = h.within; is = h.is; before = λ k l. passed_on b true t p (L.L (get_or network_laws k 0)) (λ e. refl) (h.before k l) }
first_law_on b t p (L.E n) h =
    record { index = h.index; within = h.within; is = h.is; before = λ k l. passed_on b true t p (L.E (get_or expression_laws k 0)) (λ e. refl) (h.before k l) }

pub is_first : (b : Bool) (t : TypedNetwork) (s : Step) → FirstWithin b t [] s → IsFirst t s
is_first b t s h = record {
  earlier = λ q i law tried. passed_on b true t q law (λ e. refl) (h.earlier q (subst (Before q) h.leads i) law tried);
  first_law = first_law_on b t s.position s.law h.first_law;
}
