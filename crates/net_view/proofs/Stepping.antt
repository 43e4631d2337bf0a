-- Steps forward: their laws by number, at one position and at one position after the other.
use Rattle.std.proofs.Common.{◌≡◌, ◌⊎◌, inl, inr, ℕ, ◌+◌, ◌≤◌, List, [], ◌∷◌, ◌++◌, map, Option, Some, None, option_map, IsSome, Contains, refl, sym, ap, ◌∙◌, subst, arith}
use Rattle.std.proofs.lemmas.Bool.{cases_lt}
use Rattle.std.proofs.lemmas.List.{map-append}
use Rattle.std.proofs.lemmas.List.Elements.{All-nil, All-append, All-push, All-contains, Contains-append_left, Contains-push_cases, Contains-push}
use Rattle.leaf_core.specs.Expression.{Expression}
use Rattle.net_tree.specs.Place.{Tree, a_network, a_leaf}
use Rattle.net_syntax.specs.Placed.{Placed}
use Rattle.net_tree.specs.LawStep.{Step}
use Rattle.net_meaning.specs.TypedNetwork.{TypedNetwork}
use Rattle.net_tree.specs.declared.law_step.Law.{Law}
use Rattle.net_tree.specs.declared.law_step.Law.TheVariants as L
use Rattle.net_tree.specs.declared.law_step.Direction.TheVariants.{Forward}
use Rattle.expr_laws.specs.Answer as E
use Rattle.expr_laws.proofs.Numbers.{law_numbers}
use Rattle.law_rules.specs.Answer as N
use Rattle.law_rules.proofs.Numbers.{law-numbers}
use Rattle.cert_check.specs.TreeAnswer.{TreeAnswer}
use Rattle.cert_check.specs.Derives.{Next}
use Rattle.net_opt.specs.Order.{Before}
use Rattle.net_opt.specs.Optimising.{forward_step, NoStepBy}
use Rattle.net_text.specs.CertificatePrinting.{IsLaw}
use Rattle.net_view.specs.Listed.{IsThere, IsAtOrBelow, InOrder, Lists, ArePositions}
use Rattle.net_view.specs.Possible.{Possible, IsFoundBy, possible_of, MayBeTaken, law_rank, EarlierStep, earlier_position, earlier_law, IsPossible, ListsSteps, ArePossible, ArePossibleAt}
use Rattle.net_view.specs.Spots.{AtPositions}
use Rattle.net_view.specs.declared.possible.PossibleStep.{PossibleStep}
use Rattle.net_view.specs.declared.possible.TheConstants.{LAWS}
use Rattle.net_view.proofs.Listings.{order_split, lists_none, lists_one, lists_same, lists_joined}

-- a law that answers something is one
answer_law : (olds : ℕ) (law : Law) (tree new : Tree Expression) → TreeAnswer olds law Forward tree None new → IsLaw law
answer_law olds (L.E n) (a_leaf e) (a_leaf r) (E.forward_answer is_law) = (law_numbers n).0 (e, r, is_law)
answer_law olds (L.E n) (a_leaf e) (a_network r) a = absurd a
answer_law olds (L.E n) (a_network f) (a_network r) a = elim a [ ]
answer_law olds (L.E n) (a_network f) (a_leaf r) a = absurd a
answer_law olds (L.L n) (a_network f) (a_network r) (N.forward_answer is_law) = (law-numbers n olds).0 (f, r, is_law)
answer_law olds (L.L n) (a_network f) (a_leaf r) a = absurd a
answer_law olds (L.L n) (a_leaf e) (a_leaf r) a = elim a [ ]
answer_law olds (L.L n) (a_leaf e) (a_network r) a = absurd a

-- a step forward is the one by its law at its position
forward_is : (t : TypedNetwork) (s : Step) (may : MayBeTaken t s) → s ≡ forward_step s.law s.position
forward_is t s may = λ i. record { law = s.law; direction = may.forward i; position = s.position; given = may.none_given i }

next_forward : (t : TypedNetwork) (s : Step) (may : MayBeTaken t s) → Next t (forward_step s.law s.position) may.to
next_forward t s may = subst (λ z. Next t z may.to) (forward_is t s may) may.next

is_law : (t : TypedNetwork) (s : Step) → MayBeTaken t s → IsLaw s.law
is_law t s may =
    let n = next_forward t s may in
    answer_law n.answered.place.olds s.law n.answered.place.tree n.new n.answered.answered

-- laws are told apart by their ranks
lowest : (law : Law) → IsLaw law → 1 ≤ law_rank law
lowest (L.E n) h = h.0
lowest (L.L n) h = omega arith

highest : (law : Law) → IsLaw law → law_rank law ≤ LAWS
highest (L.E n) h = omega (arith, h.1)
highest (L.L n) h = omega (arith, h.1)

one_law : (a b : Law) → IsLaw a → IsLaw b → law_rank a ≡ law_rank b → a ≡ b
one_law (L.E n) (L.E m) h k e = ap L.E e
one_law (L.L n) (L.L m) h k e = let i : n ≡ m = omega (arith, e) in ap L.L i
one_law (L.E n) (L.L m) h k e = absurd (omega (arith, h.1, k.0, e))
one_law (L.L n) (L.E m) h k e = absurd (omega (arith, h.0, k.1, e))

-- a step at p that may be taken, by one of the first k laws
abbrev pub ByLaws : TypedNetwork → List ℕ → ℕ → Step → Type 0
ByLaws t p k s = (MayBeTaken t s × (p ≡ s.position)) × (law_rank s.law ≤ k)

abbrev pub steps_in : List Possible → List Step
steps_in xs = map (λ x. x.step) xs

pub no_laws : (t : TypedNetwork) (p : List ℕ) (xs : List Possible) → xs ≡ [] → ListsSteps t (ByLaws t p 0) xs
no_laws t p xs e = subst (ListsSteps t (ByLaws t p 0)) (sym e) (record {
  all = lists_none EarlierStep (ByLaws t p 0) (λ s b. let l : 1 ≤ law_rank s.law = lowest s.law (is_law t s b.0.0) in omega (arith, l, b.1));
  each = All-nil (IsPossible t);
})

-- a law was passed
one_lower : (t : TypedNetwork) (p : List ℕ) (k : ℕ) (law : Law) → law_rank law ≡ k + 1 → IsLaw law → NoStepBy t p law → (s : Step) → ByLaws t p (k + 1) s
    → (law_rank s.law ≤ k) ⊎ (law_rank s.law ≡ law_rank law) → ByLaws t p k s
one_lower t p k law r is none s b (inl l) = (b.0, l)
one_lower t p k law r is none s b (inr e) =
    let same : s.law ≡ law = one_law s.law law (is_law t s b.0.0) is e in
    absurd (none b.0.0.to (subst (λ z. Next t (forward_step law z) b.0.0.to) (sym b.0.1)
    (subst (λ z. Next t (forward_step z s.position) b.0.0.to) same (next_forward t s b.0.0))))

last_or_lower : (m k n : ℕ) → n ≡ k + 1 → m ≤ k + 1 → (m ≤ k) ⊎ (m ≡ n)
last_or_lower m k n e l = elim (cases_lt m (k + 1)) [ inl h ↦ inl (omega arith) | inr h ↦ inr (omega arith) ]

pub law_passed : (t : TypedNetwork) (p : List ℕ) (k : ℕ) (law : Law) (xs : List Possible) → law_rank law ≡ k + 1 → IsLaw law → NoStepBy t p law
    → ListsSteps t (ByLaws t p k) xs → ListsSteps t (ByLaws t p (k + 1)) xs
law_passed t p k law xs r is none h = record {
  all = lists_same EarlierStep (ByLaws t p k) (ByLaws t p (k + 1)) (λ s b. (b.0, omega (arith, b.1)))
      (λ s b. one_lower t p k law r is none s b (last_or_lower (law_rank s.law) k (law_rank law) r b.1)) (steps_in xs) h.all;
  each = h.each;
}

-- a law was taken
may_take : (t : TypedNetwork) (p : List ℕ) (law : Law) (x : Possible) → IsPossible t x → x.step ≡ forward_step law p → MayBeTaken t x.step
may_take t p law x h e = record { forward = ap (λ s. s.direction) e; none_given = ap (λ s. s.given) e; to = h.to; next = h.changes.next }

taken_by : (t : TypedNetwork) (p : List ℕ) (k : ℕ) (law : Law) (x : Possible) → law_rank law ≡ k + 1 → IsPossible t x → x.step ≡ forward_step law p
    → (s : Step) → ByLaws t p k s ⊎ (x.step ≡ s) → ByLaws t p (k + 1) s
taken_by t p k law x r h e s (inl b) = (b.0, omega (arith, b.1))
taken_by t p k law x r h e s (inr i) =
    let rank : law_rank x.step.law ≡ law_rank law = ap (λ z. law_rank z.law) e in
    subst (ByLaws t p (k + 1)) i ((may_take t p law x h e, sym (ap (λ z. z.position) e)), omega (arith, rank, r))

step_same : (t : TypedNetwork) (p : List ℕ) (law : Law) (s : Step) → MayBeTaken t s → p ≡ s.position → s.law ≡ law → forward_step law p ≡ s
step_same t p law s may at same = ap (λ z. forward_step law z) at ∙ ap (λ z. forward_step z s.position) (sym same) ∙ sym (forward_is t s may)

by_last : (t : TypedNetwork) (p : List ℕ) (k : ℕ) (law : Law) (x : Possible) → IsLaw law → x.step ≡ forward_step law p → (s : Step) → ByLaws t p (k + 1) s
    → (law_rank s.law ≤ k) ⊎ (law_rank s.law ≡ law_rank law) → ByLaws t p k s ⊎ (x.step ≡ s)
by_last t p k law x is e s b (inl l) = inl (b.0, l)
by_last t p k law x is e s b (inr i) = inr (e ∙ step_same t p law s b.0.0 b.0.1 (one_law s.law law (is_law t s b.0.0) is i))

lower_first : (t : TypedNetwork) (p : List ℕ) (k : ℕ) (law : Law) (x : Possible) → law_rank law ≡ k + 1 → x.step ≡ forward_step law p
    → (s z : Step) → ByLaws t p k s → x.step ≡ z → EarlierStep s z
lower_first t p k law x r e s z b i =
    let rank : law_rank x.step.law ≡ law_rank law = ap (λ z. law_rank z.law) e in
    subst (EarlierStep s) i (earlier_law (sym b.0.1 ∙ sym (ap (λ z. z.position) e)) (omega (arith, rank, r, b.1)))

pub law_taken : (t : TypedNetwork) (p : List ℕ) (k : ℕ) (law : Law) (xs : List Possible) (x : Possible) → law_rank law ≡ k + 1 → IsLaw law → IsPossible t x
    → x.step ≡ forward_step law p → ListsSteps t (ByLaws t p k) xs → ListsSteps t (ByLaws t p (k + 1)) (xs ++ x ∷ [])
law_taken t p k law xs x r is h e l = record {
  all = subst (Lists EarlierStep (ByLaws t p (k + 1))) (sym (map-append (λ (z : Possible). z.step) xs (x ∷ [])))
      (lists_same EarlierStep (λ s. ByLaws t p k s ⊎ (x.step ≡ s)) (ByLaws t p (k + 1)) (taken_by t p k law x r h e)
      (λ s b. by_last t p k law x is e s b (last_or_lower (law_rank s.law) k (law_rank law) r b.1)) (steps_in xs ++ x.step ∷ [])
      (lists_joined EarlierStep (ByLaws t p k) (λ s. x.step ≡ s) (lower_first t p k law x r e) (steps_in xs) (x.step ∷ []) l.all (lists_one EarlierStep x.step)));
  each = All-push (IsPossible t) xs x l.each h;
}

pub all_laws : (t : TypedNetwork) (p : List ℕ) (xs : List Possible) → ListsSteps t (ByLaws t p LAWS) xs → ArePossibleAt t p xs
all_laws t p xs h = record {
  all = lists_same EarlierStep (ByLaws t p LAWS) (λ s. MayBeTaken t s × (p ≡ s.position)) (λ s b. b.0) (λ s b. (b, highest s.law (is_law t s b.0))) (steps_in xs) h.all;
  each = h.each;
}

pub no_positions_yet : (t : TypedNetwork) (xs : List Possible) → xs ≡ [] → ListsSteps t (AtPositions t []) xs
no_positions_yet t xs e = subst (ListsSteps t (AtPositions t [])) (sym e) (record {
  all = lists_none EarlierStep (AtPositions t []) (λ s b. let l = b.1.1 in omega arith);
  each = All-nil (IsPossible t);
})

-- one position more
more_at : (t : TypedNetwork) (ps : List (List ℕ)) (p : List ℕ) (s : Step) → AtPositions t ps s ⊎ (MayBeTaken t s × (p ≡ s.position)) → AtPositions t (ps ++ p ∷ []) s
more_at t ps p s (inl b) = (b.0, Contains-append_left ps (p ∷ []) s.position b.1)
more_at t ps p s (inr b) = (b.0, subst (Contains (ps ++ p ∷ [])) b.1 (Contains-push ps p))

at_more : (t : TypedNetwork) (ps : List (List ℕ)) (p : List ℕ) (s : Step) → MayBeTaken t s → Contains ps s.position ⊎ (p ≡ s.position)
    → AtPositions t ps s ⊎ (MayBeTaken t s × (p ≡ s.position))
at_more t ps p s may (inl c) = inl (may, c)
at_more t ps p s may (inr e) = inr (may, e)

pub steps_more : (t : TypedNetwork) (ps : List (List ℕ)) (p : List ℕ) (xs ys : List Possible) → InOrder Before (ps ++ p ∷ []) → ListsSteps t (AtPositions t ps) xs
    → ArePossibleAt t p ys → ListsSteps t (AtPositions t (ps ++ p ∷ [])) (xs ++ ys)
steps_more t ps p xs ys order h k = record {
  all = subst (Lists EarlierStep (AtPositions t (ps ++ p ∷ []))) (sym (map-append (λ (z : Possible). z.step) xs ys))
      (lists_same EarlierStep (λ s. AtPositions t ps s ⊎ (MayBeTaken t s × (p ≡ s.position))) (AtPositions t (ps ++ p ∷ [])) (more_at t ps p)
      (λ s b. at_more t ps p s b.0 (Contains-push_cases ps p s.position b.1)) (steps_in xs ++ steps_in ys)
      (lists_joined EarlierStep (AtPositions t ps) (λ s. MayBeTaken t s × (p ≡ s.position))
      (λ s z a b. earlier_position (subst (Before s.position) b.1 (order_split Before ps p [] order s.position a.1))) (steps_in xs) (steps_in ys) h.all k.all));
  each = All-append (IsPossible t) xs ys h.each k.each;
}

-- what a step is taken at is there
there_at : (t : TypedNetwork) (s : Step) → MayBeTaken t s → IsThere t s.position
there_at t s may = subst (λ (o : Option Placed). IsSome (option_map (λ c. c.tree) o)) (sym may.next.answered.found) refl

pub all_possible : (t : TypedNetwork) (p : List ℕ) (ps : List (List ℕ)) (xs : List Possible) → ArePositions t p ps → ListsSteps t (AtPositions t ps) xs → ArePossible t p xs
all_possible t p ps xs all h = record {
  all = lists_same EarlierStep (AtPositions t ps) (λ s. MayBeTaken t s × IsAtOrBelow p s.position)
      (λ s b. (b.0, (All-contains (λ q. IsAtOrBelow p q × IsThere t q) ps s.position all.each b.1).0))
      (λ s b. (b.0, all.every s.position (b.1, there_at t s b.0))) (steps_in xs) h.all;
  each = h.each;
}

pub found_more : (t : TypedNetwork) (p : List ℕ) (k : ℕ) (law : Law) (items now : List PossibleStep) (found : Option PossibleStep) (x : PossibleStep) → law_rank law ≡ k + 1
    → IsLaw law → IsFoundBy t p law (option_map possible_of found) → found ≡ Some x → now ≡ items ++ x ∷ [] → ListsSteps t (ByLaws t p k) (map possible_of items)
    → ListsSteps t (ByLaws t p (k + 1)) (map possible_of now)
found_more t p k law items now found x r is by some e h =
    let b = subst (λ o. IsFoundBy t p law (option_map possible_of o)) some by in
    subst (ListsSteps t (ByLaws t p (k + 1))) (sym (ap (map possible_of) e ∙ map-append possible_of items (x ∷ [])))
    (law_taken t p k law (map possible_of items) (possible_of x) r is b.0 b.1 h)

pub found_no_more : (t : TypedNetwork) (p : List ℕ) (k : ℕ) (law : Law) (items now : List PossibleStep) (found : Option PossibleStep) → law_rank law ≡ k + 1 → IsLaw law
    → IsFoundBy t p law (option_map possible_of found) → ((x : PossibleStep) → found ≡ Some x → ⊥) → now ≡ items → ListsSteps t (ByLaws t p k) (map possible_of items)
    → ListsSteps t (ByLaws t p (k + 1)) (map possible_of now)
found_no_more t p k law items now None r is by never e h =
    subst (λ z. ListsSteps t (ByLaws t p (k + 1)) (map possible_of z)) (sym e) (law_passed t p k law (map possible_of items) r is by h)
found_no_more t p k law items now (Some x) r is by never e h = absurd (never x refl)
