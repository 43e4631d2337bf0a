-- Every expression that stands in a network is listed of it, in the order of the positions.
use Rattle.std.proofs.Common.{◌≡◌, ◌⊎◌, inl, inr, ℕ, zero, suc, ◌+◌, ◌<◌, ◌≤◌, List, [], ◌∷◌, ◌++◌, map, Option, Some, None, option_map, Contains, Less, Equal, refl, sym, ap, ◌∙◌, subst, append_assoc, arith}
use Rattle.std.specs.Ordering.{nat_cmp, ordering_then}
use Rattle.std.specs.Cmp.{nat_cmp_is}
use Rattle.std.specs.Cmp.Lexicographic.{slice_cmp}
use Rattle.std.specs.List.{AllByRecursion}
use Rattle.std.specs.List.Sorted.{IsStrictlySortedBy}
use Rattle.std.proofs.lemmas.Bool.{cases_lt}
use Rattle.std.proofs.lemmas.List.{append-nil, map-append}
use Rattle.std.proofs.lemmas.List.Elements.{Contains-append_left, Contains-append_right}
use Rattle.std.proofs.lemmas.Option.{none-some}
use Rattle.sample_core.specs.TypeTree.{TypeTree}
use Rattle.leaf_core.specs.Expression.{Expression}
use Rattle.net_tree.specs.Network.{Network, Networks, par, p_switch, rp_switch, no_members, and_member}
use Rattle.net_meaning.specs.Typing.{Arrow, members, LeafTyping, Typed, AllTyped, arr_typed, seq_typed, first_typed, par_typed, loop_typed, i_pre_typed, delay_typed, hold_typed, accum_typed, after_typed, repeatedly_typed, time_typed, integral_typed, switch_typed, r_switch_typed, k_switch_typed, p_switch_typed, old_typed, initial_out_typed, initial_in_typed, rp_switch_typed, no_members_typed, and_member_typed}
use Rattle.net_tree.specs.Place as P
use Rattle.net_tree.specs.Place.{Tree, a_network, a_leaf, child, member, p_switch_child, child_network, collection_child, no_child}
use Rattle.net_syntax.specs.Leaves.{Need, leaves_by, member_leaves_by}
use Rattle.net_syntax.specs.TypingLaws.{AllReachedLaw, InOrderLaw}
use Rattle.net_syntax.proofs.Children.{event_is, continuation_is}
use Rattle.net_syntax.proofs.NeedPlaces.{child_is_member, child_in_collection, choice_is_child, started_is_child}

abbrev positions : List Need → List (List ℕ)
positions ns = map (λ n. n.position) ns

abbrev Sorted : List (List ℕ) → Type 0
Sorted ps = IsStrictlySortedBy (slice_cmp nat_cmp) ps

-- an expression stands at the position in the tree
abbrev Leads : Tree Expression → List ℕ → Expression → Type 0
Leads u p e = P.at u p ≡ Some (a_leaf e, [])

abbrev IsBehind : List ℕ → List ℕ → Type 0
IsBehind at p = (q : List ℕ) × (p ≡ at ++ q)

-- in one of the children from number low on and below high
abbrev IsBetween : List ℕ → ℕ → ℕ → List ℕ → Type 0
IsBetween at low high p = (k : ℕ) × (q : List ℕ) × (low ≤ k) × (k < high) × (p ≡ at ++ k ∷ q)

-- what is listed of a tree that stands at a position
record Lists (u : Tree Expression) (at : List ℕ) (ns : List Need) : Type 0 where
  reached : (p : List ℕ) (e : Expression) → Leads u p e → Contains (positions ns) (at ++ p)
  behind : AllByRecursion (IsBehind at) (positions ns)
  sorted : Sorted (positions ns)

-- what is listed of the children of a network from number low on and below high
record ListsFrom (net : Network Expression) (at : List ℕ) (low high : ℕ) (ns : List Need) : Type 0 where
  reached : (k : ℕ) (p : List ℕ) (e : Expression) → low ≤ k → k < high → Leads (a_network net) (k ∷ p) e → Contains (positions ns) (at ++ k ∷ p)
  between : AllByRecursion (IsBetween at low high) (positions ns)
  sorted : Sorted (positions ns)

all_weaker : {X : Type 0} {V W : X → Type 0} → ((x : X) → V x → W x) → (xs : List X) → AllByRecursion V xs → AllByRecursion W xs
all_weaker f [] h = tt
all_weaker f (x ∷ xs) h = (f x h.0, all_weaker f xs h.1)

all_append : {X : Type 0} (V : X → Type 0) (xs ys : List X) → AllByRecursion V xs → AllByRecursion V ys → AllByRecursion V (xs ++ ys)
all_append V [] ys h k = k
all_append V (x ∷ xs) ys h k = (h.0, all_append V xs ys h.1 k)

-- at the first number where they differ the lower one comes first
comes_before : (at : List ℕ) (j k : ℕ) (q r : List ℕ) → j < k → slice_cmp nat_cmp (at ++ j ∷ q) (at ++ k ∷ r) ≡ Less
comes_before [] j k q r h = ap (λ o. ordering_then o (slice_cmp nat_cmp q r)) (sym (nat_cmp_is j k Less h))
comes_before (x ∷ at) j k q r h = ap (λ o. ordering_then o (slice_cmp nat_cmp (at ++ j ∷ q) (at ++ k ∷ r))) (sym (nat_cmp_is x x Equal refl))
    ∙ comes_before at j k q r h

before_all : (at : List ℕ) (low middle high : ℕ) (p : List ℕ) → IsBetween at low middle p → (ps : List (List ℕ))
    → AllByRecursion (IsBetween at middle high) ps → AllByRecursion (λ q. slice_cmp nat_cmp p q ≡ Less) ps
before_all at low middle high p (j, q, l, u, e) ps = all_weaker
    (λ r b. subst (λ z. slice_cmp nat_cmp z r ≡ Less) (sym e)
    (subst (λ z. slice_cmp nat_cmp (at ++ j ∷ q) z ≡ Less) (sym b.4) (comes_before at j b.0 q b.1 (omega (arith, b.2, u))))) ps

sorted_append : (at : List ℕ) (low middle high : ℕ) (ps qs : List (List ℕ)) → AllByRecursion (IsBetween at low middle) ps
    → AllByRecursion (IsBetween at middle high) qs → Sorted ps → Sorted qs → Sorted (ps ++ qs)
unfolding IsStrictlySortedBy
sorted_append at low middle high [] qs b c s t = t
sorted_append at low middle high (p ∷ ps) qs b c s t = (
  all_append _ ps qs s.0 (before_all at low middle high p b.0 qs c),
  sorted_append at low middle high ps qs b.1 c s.1 t,
)

one_sorted : (p : List ℕ) → Sorted (p ∷ [])
unfolding IsStrictlySortedBy
one_sorted p = (tt, tt)

none_sorted : Sorted []
unfolding IsStrictlySortedBy
none_sorted = tt

-- the tree that stands there, and the rest of the position, inside it
abbrev tree : Tree Expression → Option (Tree Expression × List ℕ) → Tree Expression
tree u None = u
tree u (Some s) = s.0

abbrev rest : Option (Tree Expression × List ℕ) → List ℕ
rest None = []
rest (Some s) = s.1

-- an expression itself
leaf_lists : (c : Expression) (at : List ℕ) (n : Need) → n.position ≡ at → Lists (a_leaf c) at (n ∷ [])
leaf_lists c at n is = record {
  reached = λ p e h. let nil : p ≡ [] = ap rest h in subst (Contains (n.position ∷ [])) (is ∙ sym (append-nil at) ∙ ap (λ z. at ++ z) (sym nil)) (0, omega arith, refl);
  behind = (([], is ∙ sym (append-nil at)), tt);
  sorted = one_sorted n.position;
}

-- none of the children
nothing_listed : (net : Network Expression) (at : List ℕ) (low high : ℕ) → high ≤ low → ListsFrom net at low high []
nothing_listed net at low high h = record {
  reached = λ k p e l u s. absurd (omega arith);
  between = tt;
  sorted = none_sorted;
}

-- child k alone
child_lists : (net : Network Expression) (u : Tree Expression) (at : List ℕ) (k : ℕ) (ns : List Need) → child net k ≡ Some u → Lists u (at ++ k ∷ []) ns
    → ListsFrom net at k (suc k) ns
child_lists net u at k ns is d = record {
  reached = λ j p e l h s.
      let same : k ≡ j = omega arith in
      let inner : Leads (a_network net) (k ∷ p) e = subst (λ z. Leads (a_network net) (z ∷ p) e) (sym same) s in
      subst (λ z. Contains (positions ns) (at ++ z ∷ p)) same
      (subst (Contains (positions ns)) (append_assoc at (k ∷ []) p) (d.reached p e (sym (ap (λ o. P.◌>>=◌ o (λ t. P.at t p)) is) ∙ inner)));
  between = all_weaker (λ p b. (k, b.0, omega arith, omega arith, b.1 ∙ append_assoc at (k ∷ []) b.0)) (positions ns) d.behind;
  sorted = d.sorted;
}

-- the children below the middle, and then the others
append_lists : (net : Network Expression) (at : List ℕ) (low middle high : ℕ) (ns ms : List Need) → low ≤ middle → middle ≤ high
    → ListsFrom net at low middle ns → ListsFrom net at middle high ms → ListsFrom net at low high (ns ++ ms)
append_lists net at low middle high ns ms lm mh d f = record {
  reached = λ k p e l u s. subst (λ z. Contains z (at ++ k ∷ p)) (sym (map-append (λ n. n.position) ns ms)) (go k p e l u s (cases_lt k middle));
  between = subst (AllByRecursion (IsBetween at low high)) (sym (map-append (λ n. n.position) ns ms))
      (all_append (IsBetween at low high) (positions ns) (positions ms) (all_weaker (λ p b. (b.0, b.1, b.2, omega (arith, b.3), b.4)) (positions ns) d.between)
      (all_weaker (λ p b. (b.0, b.1, omega (arith, b.2), b.3, b.4)) (positions ms) f.between));
  sorted = subst Sorted (sym (map-append (λ n. n.position) ns ms))
      (sorted_append at low middle high (positions ns) (positions ms) d.between f.between d.sorted f.sorted);
}
  where
    go : (k : ℕ) (p : List ℕ) (e : Expression) → low ≤ k → k < high → Leads (a_network net) (k ∷ p) e → (k < middle) ⊎ (middle ≤ k)
        → Contains (positions ns ++ positions ms) (at ++ k ∷ p)
    go k p e l u s (inl h) = Contains-append_left (positions ns) (positions ms) (at ++ k ∷ p) (d.reached k p e l h s)
    go k p e l u s (inr h) = Contains-append_right (positions ns) (positions ms) (at ++ k ∷ p) (f.reached k p e h u s)

-- all children, and there are no others
whole_lists : (net : Network Expression) (at : List ℕ) (high : ℕ) (ns : List Need) → ((k : ℕ) → high ≤ k → child net k ≡ None)
    → ListsFrom net at 0 high ns → Lists (a_network net) at ns
whole_lists net at high ns ends d = record {
  reached = go;
  behind = all_weaker (λ p b. (b.0 ∷ b.1, b.4)) (positions ns) d.between;
  sorted = d.sorted;
}
  where
    at_child : (k : ℕ) (p : List ℕ) (e : Expression) → Leads (a_network net) (k ∷ p) e → (k < high) ⊎ (high ≤ k) → Contains (positions ns) (at ++ k ∷ p)
    at_child k p e s (inl h) = d.reached k p e (omega arith) h s
    at_child k p e s (inr h) = absurd (none-some (a_leaf e, []) (sym (ap (λ o. P.◌>>=◌ o (λ t. P.at t p)) (ends k h)) ∙ s))

    go : (p : List ℕ) (e : Expression) → Leads (a_network net) p e → Contains (positions ns) (at ++ p)
    go [] e s = let same : a_network net ≡ a_leaf e = ap (tree (a_network net)) s in absurd (cc)
    go (k ∷ p) e s = at_child k p e s (cases_lt k high)

-- no child behind the first, the second, the third
ends_at_one : (net : Network Expression) → ((k : ℕ) → child net (suc k) ≡ None) → (k : ℕ) → 1 ≤ k → child net k ≡ None
ends_at_one net h zero l = absurd (omega arith)
ends_at_one net h (suc k) l = h k

ends_at_two : (net : Network Expression) → ((k : ℕ) → child net (suc (suc k)) ≡ None) → (k : ℕ) → 2 ≤ k → child net k ≡ None
ends_at_two net h zero l = absurd (omega arith)
ends_at_two net h (suc zero) l = absurd (omega arith)
ends_at_two net h (suc (suc k)) l = h k

ends_at_three : (net : Network Expression) → ((k : ℕ) → child net (suc (suc (suc k))) ≡ None) → (k : ℕ) → 3 ≤ k → child net k ≡ None
ends_at_three net h zero l = absurd (omega arith)
ends_at_three net h (suc zero) l = absurd (omega arith)
ends_at_three net h (suc (suc zero)) l = absurd (omega arith)
ends_at_three net h (suc (suc (suc k))) l = h k

-- a network without children, with one, with two
none : (net : Network Expression) (at : List ℕ) → ((k : ℕ) → child net k ≡ None) → Lists (a_network net) at []
none net at ends = whole_lists net at 0 [] (λ k l. ends k) (nothing_listed net at 0 0 (omega arith))

one : (net : Network Expression) (u : Tree Expression) (at : List ℕ) (ns : List Need) → child net 0 ≡ Some u → ((k : ℕ) → child net (suc k) ≡ None)
    → Lists u (at ++ 0 ∷ []) ns → Lists (a_network net) at ns
one net u at ns is ends d = whole_lists net at 1 ns (ends_at_one net ends) (child_lists net u at 0 ns is d)

two : (net : Network Expression) (u v : Tree Expression) (at : List ℕ) (ns ms : List Need) → child net 0 ≡ Some u → child net 1 ≡ Some v
    → ((k : ℕ) → child net (suc (suc k)) ≡ None) → Lists u (at ++ 0 ∷ []) ns → Lists v (at ++ 1 ∷ []) ms → Lists (a_network net) at (ns ++ ms)
two net u v at ns ms h k ends d f = whole_lists net at 2 (ns ++ ms) (ends_at_two net ends)
    (append_lists net at 0 1 2 ns ms (omega arith) (omega arith) (child_lists net u at 0 ns h d) (child_lists net v at 1 ms k f))

no_member : (fs : Networks Expression) (k : ℕ) → members fs ≤ k → member fs k ≡ None
no_member no_members k l = refl
no_member (and_member f fs) zero l = absurd (omega arith)
no_member (and_member f fs) (suc k) l = no_member fs k (omega arith)

-- what no part of a `pSwitch` has for its number
is_no_child : (fs : Networks Expression) (k : ℕ) → suc (suc (members fs)) ≤ k → p_switch_child fs k ≡ no_child
is_no_child no_members zero l = absurd (omega arith)
is_no_child no_members (suc zero) l = absurd (omega arith)
is_no_child no_members (suc (suc k)) l = refl
is_no_child (and_member f fs) zero l = absurd (omega arith)
is_no_child (and_member f fs) (suc k) l = is_no_child fs k (omega arith)

p_switch_ends : (r : Expression) (fs : Networks Expression) (e t : Network Expression) (k : ℕ) → suc (suc (suc (members fs))) ≤ k → child (p_switch r fs e t) k ≡ None
p_switch_ends r fs e t zero l = absurd (omega arith)
p_switch_ends r fs e t (suc k) l = ap (λ o. option_map a_network (child_network o fs e t k)) (is_no_child fs k (omega arith))

rp_switch_ends : (fs : Networks Expression) (m : Expression) (t : Network Expression) (k : ℕ) → suc (suc (members fs)) ≤ k → child (rp_switch fs m t) k ≡ None
rp_switch_ends fs m t k l = ap (λ o. collection_child o fs m t k) (is_no_child fs k l)

one_more : (j : ℕ) → 1 + j ≡ suc j
one_more j = omega arith

module _ {T : LeafTyping Expression} {M : TypeTree → Type 0} where
  mutual
    listed : {Ps : List TypeTree} {Os : List Arrow} {net : Network Expression} {A B : TypeTree} (at : List ℕ) (d : Typed T M Ps Os net A B)
        → Lists (a_network net) at (leaves_by at d)
    listed {net = net} at (arr_typed {e = e} h) = one net (a_leaf e) at _ refl (λ k. refl) (leaf_lists e _ _ refl)
    listed {net = net} at (seq_typed {f = f} {g = g} df dg) =
        two net (a_network f) (a_network g) at _ _ refl refl (λ k. refl) (listed (at ++ 0 ∷ []) df) (listed (at ++ 1 ∷ []) dg)
    listed {net = net} at (first_typed {f = f} df m) = one net (a_network f) at _ refl (λ k. refl) (listed (at ++ 0 ∷ []) df)
    listed {net = net} at (par_typed {fs = fs} l u ds m) =
        whole_lists net at (members fs) _ (λ k o. ap (option_map a_network) (no_member fs k o))
        (all_listed at 0 (members fs) ds net (omega arith) (λ j f is. ap (child (par fs)) (omega arith) ∙ ap (option_map a_network) is))
    listed {net = net} at (loop_typed {c = c} {f = f} h m df) =
        two net (a_leaf c) (a_network f) at (_ ∷ []) _ refl refl (λ k. refl) (leaf_lists c _ _ refl) (listed (at ++ 1 ∷ []) df)
    listed {net = net} at (i_pre_typed {c = c} h) = one net (a_leaf c) at _ refl (λ k. refl) (leaf_lists c _ _ refl)
    listed {net = net} at (delay_typed {c = c} l u h) = one net (a_leaf c) at _ refl (λ k. refl) (leaf_lists c _ _ refl)
    listed {net = net} at (hold_typed {c = c} h) = one net (a_leaf c) at _ refl (λ k. refl) (leaf_lists c _ _ refl)
    listed {net = net} at (accum_typed {g = g} {z = z} h m k n) =
        two net (a_leaf g) (a_leaf z) at (_ ∷ []) (_ ∷ []) refl refl (λ k. refl) (leaf_lists g _ _ refl) (leaf_lists z _ _ refl)
    listed {net = net} at (after_typed {c = c} u h m) = one net (a_leaf c) at _ refl (λ k. refl) (leaf_lists c _ _ refl)
    listed {net = net} at (repeatedly_typed {c = c} l u h m) = one net (a_leaf c) at _ refl (λ k. refl) (leaf_lists c _ _ refl)
    listed {net = net} at time_typed = none net at (λ k. refl)
    listed {net = net} at integral_typed = none net at (λ k. refl)
    listed {net = net} at (switch_typed {f = f} {t = t} df dt) =
        two net (a_network f) (a_network t) at _ _ refl refl (λ k. refl) (listed (at ++ 0 ∷ []) df) (listed (at ++ 1 ∷ []) dt)
    listed {net = net} at (r_switch_typed {f = f} {t = t} df dt) =
        two net (a_network f) (a_network t) at _ _ refl refl (λ k. refl) (listed (at ++ 0 ∷ []) df) (listed (at ++ 1 ∷ []) dt)
    listed {net = net} at (k_switch_typed {f = f} {e = e} {t = t} df m de dt) =
        whole_lists net at 3 _ (ends_at_three net (λ k. refl))
        (append_lists net at 0 2 3 _ _ (omega arith) (omega arith)
        (append_lists net at 0 1 2 _ _ (omega arith) (omega arith) (child_lists net (a_network f) at 0 _ refl (listed (at ++ 0 ∷ []) df))
        (child_lists net (a_network e) at 1 _ refl (listed (at ++ 1 ∷ []) de)))
        (child_lists net (a_network t) at 2 _ refl (listed (at ++ 2 ∷ []) dt)))
    listed {net = net} at (p_switch_typed {r = r} {fs = fs} {e = e} {t = t} l u m h ds n de dt) =
        let past : ℕ = suc (members fs) in
        whole_lists net at (suc (suc past)) _ (p_switch_ends r fs e t)
        (append_lists net at 0 (suc past) (suc (suc past)) _ _ (omega arith) (omega arith)
        (append_lists net at 0 past (suc past) _ _ (omega arith) (omega arith)
        (append_lists net at 0 1 past (_ ∷ []) _ (omega arith) (omega arith) (child_lists net (a_leaf r) at 0 (_ ∷ []) refl (leaf_lists r _ _ refl))
        (all_listed at 1 past ds net (omega arith) (λ j f is. ap (child net) (one_more j) ∙ ap (option_map a_network) (child_is_member fs j f e t is))))
        (child_lists net (a_network e) at past _ (ap (λ o. option_map a_network (child_network o fs e t (members fs))) (event_is fs))
        (listed (at ++ past ∷ []) de)))
        (child_lists net (a_network t) at (suc past) _ (ap (λ o. option_map a_network (child_network o fs e t (suc (members fs)))) (continuation_is fs))
        (listed (at ++ suc past ∷ []) dt)))
    listed {net = net} at (old_typed o) = none net at (λ k. refl)
    listed {net = net} at (initial_out_typed {c = c} {f = f} h df) =
        two net (a_leaf c) (a_network f) at (_ ∷ []) _ refl refl (λ k. refl) (leaf_lists c _ _ refl) (listed (at ++ 1 ∷ []) df)
    listed {net = net} at (initial_in_typed {c = c} {f = f} h df) =
        two net (a_leaf c) (a_network f) at (_ ∷ []) _ refl refl (λ k. refl) (leaf_lists c _ _ refl) (listed (at ++ 1 ∷ []) df)
    listed {net = net} at (rp_switch_typed {fs = fs} {m = m} {t = t} l u ds h dt n) =
        let past : ℕ = suc (members fs) in
        whole_lists net at (suc past) _ (rp_switch_ends fs m t)
        (append_lists net at 0 (members fs) (suc past) _ _ (omega arith) (omega arith)
        (all_listed at 0 (members fs) ds net (omega arith) (λ j f is. ap (child net) (omega arith) ∙ child_in_collection fs m t j f is))
        (append_lists net at (members fs) past (suc past) (_ ∷ []) _ (omega arith) (omega arith)
        (child_lists net (a_leaf m) at (members fs) (_ ∷ []) (choice_is_child fs m t) (leaf_lists m _ _ refl))
        (child_lists net (a_network t) at past _ (started_is_child fs m t) (listed (at ++ past ∷ []) dt))))

    all_listed : {Ps : List TypeTree} {Os : List Arrow} {fs : Networks Expression} {A B : TypeTree} (at : List ℕ) (low high : ℕ)
        (ds : AllTyped T M Ps Os fs A B) (net : Network Expression) → high ≡ low + members fs
        → ((j : ℕ) (f : Network Expression) → member fs j ≡ Some f → child net (low + j) ≡ Some (a_network f))
        → ListsFrom net at low high (member_leaves_by at low ds)
    all_listed at low high no_members_typed net is link = nothing_listed net at low high (omega arith)
    all_listed at low high (and_member_typed {f = f} {fs = fs} d ds) net is link =
        append_lists net at low (suc low) high _ _ (omega arith) (omega arith)
        (child_lists net (a_network f) at low _ (ap (child net) (omega arith) ∙ link 0 f refl) (listed (at ++ low ∷ []) d))
        (all_listed at (suc low) high ds net (omega arith) (λ j g h. ap (child net) (omega arith) ∙ link (suc j) g h))

pub all-reached : AllReachedLaw
all-reached t ns (d, is) p e h = subst (λ o. Contains (positions o) p) (sym is) (Lists.reached (listed [] d) p e h)

pub in-order : InOrderLaw
in-order t ns (d, is) = subst (λ o. Sorted (positions o)) (sym is) (Lists.sorted (listed [] d))
