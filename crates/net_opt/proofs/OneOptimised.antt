-- A network is optimised to one network: where a step is taken, the network says which it is.
use Rattle.std.proofs.Common.{◌≡◌, ℕ, ◌-◌, ◌<◌, ◌≤◌, ◌⊎◌, List, [], ◌∷◌, length, get_or, None, inl, inr, refl, sym, ap, ◌∙◌, subst, arith}
use Rattle.std.specs.List.{All}
use Rattle.std.proofs.lemmas.Bool.{cases_order}
use Rattle.std.proofs.lemmas.List.Elements.{All-head, All-tail}
use Rattle.std.proofs.lemmas.Option.{same_Some}
use Rattle.leaf_core.specs.Expression.{Expression}
use Rattle.net_tree.specs.LawStep.{Step}
use Rattle.net_tree.specs.Place.{Tree, a_network, a_leaf}
use Rattle.net_syntax.specs.Placed.{Placed}
use Rattle.net_meaning.specs.TypedNetwork.{TypedNetwork}
use Rattle.net_tree.specs.declared.law_step.Direction.TheVariants.{Forward}
use Rattle.net_tree.specs.declared.law_step.Law.{Law}
use Rattle.net_tree.specs.declared.law_step.Law.TheVariants as L
use Rattle.cert_check.specs.Derives.{Next}
use Rattle.cert_check.specs.TreeAnswer.{TreeAnswer}
use Rattle.cert_check.proofs.OneAnswer.{one_next}
use Rattle.net_opt.specs.Laws.{OneOptimisedLaw}
use Rattle.net_opt.specs.Optimising.{MayTake, NoneLeft, NoStepBy, FirstIn, FirstTriedLaw, IsFirst, FirstSteps, none_first, first_then, Exhausts, expression_laws, forward_step, network_laws}
use Rattle.net_opt.specs.Order.{Before, on_the_way, before_at, before_below}
use Rattle.net_opt.specs.Search.{Takes}
use Rattle.net_opt.proofs.Tried.{no_kind_net, no_kind_leaf}
use Rattle.net_opt.specs.declared.optimiser.TheConstants.{MOST_TAKEN}

-- of two positions that are different one comes before the other
data Order (p q : List ℕ) : Type 0 where
  same : p ≡ q → Order p q
  first : Before p q → Order p q
  second : Before q p → Order p q

order_below : (k : ℕ) (p q : List ℕ) → Order p q → Order (k ∷ p) (k ∷ q)
order_below k p q (same e) = same (ap (λ r. k ∷ r) e)
order_below k p q (first b) = first (before_below b)
order_below k p q (second b) = second (before_below b)

order_at : (j k : ℕ) (p q : List ℕ) → Order p q → (j ≡ k) ⊎ ((j < k) ⊎ (k < j)) → Order (j ∷ p) (k ∷ q)
order_at j k p q o (inl e) = subst (λ i. Order (j ∷ p) (i ∷ q)) e (order_below j p q o)
order_at j k p q o (inr (inl l)) = first (before_at l)
order_at j k p q o (inr (inr l)) = second (before_at l)

order : (p q : List ℕ) → Order p q
order [] [] = same refl
order [] (k ∷ q) = first on_the_way
order (j ∷ p) [] = second on_the_way
order (j ∷ p) (k ∷ q) = order_at j k p q (order p q) (cases_order j k)

-- a step that may be taken is by its law and at its position
is_forward : (s : Step) → MayTake s → s ≡ forward_step s.law s.position
is_forward s may = λ i. record { law = s.law; direction = may.forward i; position = s.position; given = may.none_given i }

-- where it leads on, its law does there
leads_on : (t u : TypedNetwork) (s : Step) → Takes t s u → Next t (forward_step s.law s.position) u
leads_on t u s takes = subst (λ x. Next t x u) (is_forward s takes.may) takes.next

-- two first steps of the walk are at one position
same_position : (t u v : TypedNetwork) (s r : Step) → Takes t s u → Takes t r v → IsFirst t s → IsFirst t r → Order s.position r.position
    → s.position ≡ r.position
same_position t u v s r a b i j (same e) = e
same_position t u v s r a b i j (first l) = absurd (j.earlier s.position l s.law a.may.tried u (leads_on t u s a))
same_position t u v s r a b i j (second l) = absurd (i.earlier r.position l r.law b.may.tried v (leads_on t v r b))

-- a list has one first number that isn't so
one_number : (So : ℕ → Type 0) (ns : List ℕ) (n m : ℕ) (a : FirstIn So ns n) (b : FirstIn So ns m) → (So n → ⊥) → (So m → ⊥)
    → (a.index ≡ b.index) ⊎ ((a.index < b.index) ⊎ (b.index < a.index)) → n ≡ m
one_number So ns n m a b x y (inl e) = sym a.is ∙ ap (λ k. get_or ns k 0) e ∙ b.is
one_number So ns n m a b x y (inr (inl l)) = absurd (x (subst So a.is (b.before a.index l)))
one_number So ns n m a b x y (inr (inr l)) = absurd (y (subst So b.is (a.before b.index l)))

-- a tree is matched by laws of networks or by laws of expressions
one_kind : (olds n m : ℕ) (tree new other : Tree Expression) → TreeAnswer olds (L.L n) Forward tree None new
    → TreeAnswer olds (L.E m) Forward tree None other → ⊥
one_kind olds n m (a_network f) new other a b = no_kind_net olds m f other b
one_kind olds n m (a_leaf e) new other a b = no_kind_leaf olds n e new a

not_both : (t u v : TypedNetwork) (p : List ℕ) (n m : ℕ) → Next t (forward_step (L.L n) p) u → Next t (forward_step (L.E m) p) v → ⊥
not_both t u v p n m x y =
    let a = x.answered in
    let b = y.answered in
    let here : a.place ≡ b.place = same_Some a.place b.place (sym a.found ∙ b.found) in
    one_kind b.place.olds n m b.place.tree x.new y.new
    (subst (λ (c : Placed). TreeAnswer c.olds (L.L n) Forward c.tree None x.new) here a.answered) b.answered

-- and so they are by one law
same_law : (t u v : TypedNetwork) (p : List ℕ) (law other : Law) → Next t (forward_step law p) u → Next t (forward_step other p) v
    → FirstTriedLaw (NoStepBy t p) law → FirstTriedLaw (NoStepBy t p) other → law ≡ other
same_law t u v p (L.L n) (L.L m) x y a b =
    ap L.L (one_number (λ k. NoStepBy t p (L.L k)) network_laws n m a b (λ none. none u x) (λ none. none v y) (cases_order a.index b.index))
same_law t u v p (L.E n) (L.E m) x y a b =
    ap L.E (one_number (λ k. NoStepBy t p (L.E k)) expression_laws n m a b (λ none. none u x) (λ none. none v y) (cases_order a.index b.index))
same_law t u v p (L.L n) (L.E m) x y a b = absurd (not_both t u v p n m x y)
same_law t u v p (L.E n) (L.L m) x y a b = absurd (not_both t v u p m n y x)

same_step : (t u v : TypedNetwork) (s r : Step) → Takes t s u → Takes t r v → IsFirst t s → IsFirst t r → s ≡ r
same_step t u v s r a b i j =
    let place : s.position ≡ r.position = same_position t u v s r a b i j (order s.position r.position) in
    let law : s.law ≡ r.law =
    same_law t u v r.position s.law r.law (subst (λ p. Next t (forward_step s.law p) u) place (leads_on t u s a)) (leads_on t v r b)
    (subst (λ p. FirstTriedLaw (NoStepBy t p) s.law) place i.first_law) j.first_law in
    let alike : forward_step s.law s.position ≡ forward_step r.law r.position = λ k. forward_step (law k) (place k) in
    is_forward s a.may ∙ alike ∙ sym (is_forward r b.may)

-- steps that may be taken, at most n, and where there are fewer, none is left
record Ended (n : ℕ) (ss : List Step) (u : TypedNetwork) : Type 0 where
  may : All MayTake ss
  few : length ss ≤ n
  none_left : length ss < n → NoneLeft u

ended_behind : (n : ℕ) (s : Step) (ss : List Step) (u : TypedNetwork) → Ended n (s ∷ ss) u → Ended (n - 1) ss u
ended_behind n s ss u e = record {
  may = All-tail MayTake s ss e.may;
  few = omega (arith, e.few);
  none_left = λ l. e.none_left (omega (arith, e.few));
}

-- where none is left, and such steps may be taken, there are no more
not_more : (n : ℕ) (t u v : TypedNetwork) (s : Step) (ss : List Step) → Ended n [] t → Ended n (s ∷ ss) v → Next t s u → ⊥
not_more n t u v s ss a b next = a.none_left (omega (arith, b.few)) s (All-head MayTake s ss b.may) u next

one_way : (n : ℕ) (t u v : TypedNetwork) (ss us : List Step) → FirstSteps t ss u → FirstSteps t us v → Ended n ss u → Ended n us v
    → (u ≡ v) × (ss ≡ us)
one_way n t u v ss us none_first none_first a b = (refl, refl)
one_way n t u v ss us none_first (first_then {u = y} {s = r} {ss = rest} i x xs) a b = absurd (not_more n t y v r rest a b x)
one_way n t u v ss us (first_then {u = y} {s = s} {ss = more} i x xs) none_first a b = absurd (not_more n t y u s more b a x)
one_way n t u v ss us (first_then {u = y} {s = s} {ss = more} i x xs) (first_then {u = z} {s = r} {ss = rest} j w ws) a b =
    let taken : Takes t s y = record { may = All-head MayTake s more a.may; next = x } in
    let other : Takes t r z = record { may = All-head MayTake r rest b.may; next = w } in
    let step : s ≡ r = same_step t y z s r taken other i j in
    let next : y ≡ z = one_next t y z r (subst (λ q. Next t q y) step x) w in
    let behind : (u ≡ v) × (more ≡ rest) =
    one_way (n - 1) z u v more rest (subst (λ q. FirstSteps q more u) next xs) ws (ended_behind n s more u a) (ended_behind n r rest v b) in
    (behind.0, λ k. step k ∷ behind.1 k)

ended : (t u : TypedNetwork) (ss : List Step) → Exhausts t ss u → Ended MOST_TAKEN ss u
ended t u ss e = record { may = e.may_be_taken; few = e.few; none_left = e.none_left }

pub one_optimised : OneOptimisedLaw
one_optimised t f g ss us a b =
    let both : (a.last ≡ b.last) × (ss ≡ us) =
    one_way MOST_TAKEN t a.last b.last ss us a.exhausts.first b.exhausts.first (ended t a.last ss a.exhausts) (ended t b.last us b.exhausts) in
    (sym a.ends ∙ ap (λ w. w.net) both.0 ∙ b.ends, both.1)
