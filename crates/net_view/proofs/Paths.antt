-- The walk that lists positions: what a tree has inside, at the numbers below one, and at all.
use Rattle.std.proofs.Common.{◌≡◌, ◌⊎◌, inl, inr, ℕ, ◌+◌, ◌<◌, List, [], ◌∷◌, ◌++◌, map, Option, Some, None, option_map, IsSome, refl, sym, ap, ◌∙◌, subst, arith, append_assoc, true≢false}
use Rattle.std.specs.Prelude.{option_and_then}
use Rattle.std.proofs.lemmas.Option.{none-some}
use Rattle.std.proofs.lemmas.List.{append-nil, map-append}
use Rattle.std.proofs.lemmas.Bool.{cases_lt}
use Rattle.leaf_core.specs.Expression.{Expression}
use Rattle.leaf_core.specs.Parts.{part, part_at}
use Rattle.net_tree.specs.Place.{◌>>=◌, Tree, a_network, a_leaf, child}
use Rattle.net_syntax.specs.Placed.{Placed, placed, placed_at, bound_in}
use Rattle.net_meaning.specs.TypedNetwork.{TypedNetwork}
use Rattle.net_opt.specs.Order.{Before, on_the_way, before_at, before_below}
use Rattle.net_opt.proofs.Walked.{placed_below, placed_here, none_inside, nothing_behind}
use Rattle.net_view.specs.Listed.{IsThere, IsAtOrBelow, ArePositions, IsInside, AddsPositions}
use Rattle.net_view.proofs.Listings.{lists_none, lists_one, lists_same, lists_joined, lists_mapped}

-- something is there or not
some_there : {A : Type 0} (o : Option A) (x : A) → o ≡ Some x → IsSome o
some_there {A = A} o x e = subst (λ (u : Option A). IsSome u) (sym e) refl

none_there : {A : Type 0} (o : Option A) → o ≡ None → IsSome o → ⊥
none_there {A = A} o e h = true≢false (sym (subst (λ (u : Option A). IsSome u) e h))

-- the path leads through a number below k, or nowhere
abbrev pub HeadBelow : ℕ → List ℕ → Type 0
HeadBelow k [] = Unit {0}
HeadBelow k (j ∷ q) = j < k

-- inside a place, at the numbers below k, or the place itself
abbrev pub IsUpTo : Placed → ℕ → List ℕ → Type 0
IsUpTo c k q = HeadBelow k q × IsInside c q

-- inside a place at number k
abbrev AtNumber : Placed → ℕ → List ℕ → Type 0
AtNumber d k q = (rest : List ℕ) × IsInside d rest × (k ∷ rest ≡ q)

here : (c : Placed) → IsInside c []
here c = some_there (placed_at c.params c.olds c.tree []) c (placed_here c.params c.olds c.tree)

-- the place itself is the first
only_here : (c : Placed) (q : List ℕ) → IsUpTo c 0 q → [] ≡ q
only_here c [] h = refl
only_here c (j ∷ q) h = absurd (omega (arith, h.0))

pub paths_begin : (p q : List ℕ) (c : Placed) (before now : List (List ℕ)) → q ≡ p → now ≡ before ++ q ∷ [] → AddsPositions p (IsUpTo c 0) before now
paths_begin p q c before now same e = record {
  paths = [] ∷ [];
  added = e ∙ ap (λ (x : List ℕ). before ++ x ∷ []) (same ∙ sym (append-nil p));
  listed = lists_same Before (λ q. [] ≡ q) (IsUpTo c 0) (λ q i. subst (IsUpTo c 0) i (tt, here c)) (only_here c) ([] ∷ []) (lists_one Before []);
}

-- what is inside at number k stands inside what is there
pub inside_at : (c d : Placed) (k : ℕ) (q : List ℕ) → placed_at c.params c.olds c.tree (k ∷ []) ≡ Some d
    → placed_at c.params c.olds c.tree (k ∷ q) ≡ placed_at d.params d.olds d.tree q
inside_at c d k q h = placed_below (k ∷ []) q d c.params c.olds c.tree h

up_to_more : (c d : Placed) (k : ℕ) (q : List ℕ) → placed_at c.params c.olds c.tree (k ∷ []) ≡ Some d → IsUpTo c k q ⊎ AtNumber d k q → IsUpTo c (k + 1) q
up_to_more c d k [] h (inl x) = (tt, x.1)
up_to_more c d k (j ∷ q) h (inl x) = (omega (arith, x.0), x.1)
up_to_more c d k q h (inr x) = subst (IsUpTo c (k + 1)) x.2 (omega arith, subst (λ o. IsSome o) (sym (inside_at c d k x.0 h)) x.1)

more_up_to : (c d : Placed) (k : ℕ) (q : List ℕ) → placed_at c.params c.olds c.tree (k ∷ []) ≡ Some d → IsUpTo c (k + 1) q → IsUpTo c k q ⊎ AtNumber d k q
more_up_to c d k [] h x = inl (tt, x.1)
more_up_to c d k (j ∷ q) h x = elim (cases_lt j k) [
  | inl l ↦ inl (l, x.1)
  | inr l ↦ let e : k ≡ j = omega (arith, x.0) in
      inr (q, subst (λ o. IsSome o) (inside_at c d k q h) (subst (λ i. IsInside c (i ∷ q)) (sym e) x.1), ap (λ i. i ∷ q) e)
]

number_later : (c d : Placed) (k : ℕ) (x y : List ℕ) → IsUpTo c k x → AtNumber d k y → Before x y
number_later c d k [] y h i = subst (Before []) i.2 on_the_way
number_later c d k (j ∷ x) y h i = subst (Before (j ∷ x)) i.2 (before_at h.0)

longer : (p : List ℕ) (k : ℕ) (qs : List (List ℕ)) → map (λ q. (p ++ k ∷ []) ++ q) qs ≡ map (λ q. p ++ q) (map (λ q. k ∷ q) qs)
longer p k [] = refl
longer p k (q ∷ qs) = let e = append_assoc p (k ∷ []) q in let h = longer p k qs in cc

pub paths_more : (p r : List ℕ) (k : ℕ) (c d : Placed) (before mid now : List (List ℕ)) → r ≡ p ++ k ∷ [] → placed_at c.params c.olds c.tree (k ∷ []) ≡ Some d
    → AddsPositions p (IsUpTo c k) before mid → AddsPositions r (IsInside d) mid now → AddsPositions p (IsUpTo c (k + 1)) before now
paths_more p r k c d before mid now way h x y = record {
  paths = x.paths ++ map (λ q. k ∷ q) y.paths;
  added = y.added ∙ ap (λ z. mid ++ map (λ q. z ++ q) y.paths) way ∙ ap (λ z. z ++ map (λ q. (p ++ k ∷ []) ++ q) y.paths) x.added
      ∙ append_assoc before (map (λ q. p ++ q) x.paths) (map (λ q. (p ++ k ∷ []) ++ q) y.paths)
      ∙ ap (λ z. before ++ (map (λ q. p ++ q) x.paths ++ z)) (longer p k y.paths)
      ∙ ap (λ z. before ++ z) (sym (map-append (λ q. p ++ q) x.paths (map (λ q. k ∷ q) y.paths)));
  listed = lists_same Before (λ q. IsUpTo c k q ⊎ AtNumber d k q) (IsUpTo c (k + 1)) (λ q. up_to_more c d k q h) (λ q. more_up_to c d k q h)
      (x.paths ++ map (λ q. k ∷ q) y.paths)
      (lists_joined Before (IsUpTo c k) (AtNumber d k) (number_later c d k) x.paths (map (λ q. k ∷ q) y.paths) x.listed
      (lists_mapped Before Before (IsInside d) (AtNumber d k) (λ q. k ∷ q) (λ a b i. before_below i) (λ q i. (q, i, refl)) (λ q i. i) y.paths y.listed));
}

-- behind the last number nothing is inside
all_up_to : (c : Placed) (k : ℕ) (q : List ℕ) → placed_at c.params c.olds c.tree (k ∷ []) ≡ None → IsInside c q → IsUpTo c k q
all_up_to c k [] h i = (tt, i)
all_up_to c k (j ∷ q) h i = elim (cases_lt j k) [
  | inl l ↦ (l, i)
  | inr l ↦ absurd (none_there (placed_at c.params c.olds c.tree (j ∷ q)) (nothing_behind c.params c.olds k j q c.tree (none_inside c k h) l) i)
]

pub paths_end : (p : List ℕ) (k : ℕ) (c : Placed) (before now : List (List ℕ)) → placed_at c.params c.olds c.tree (k ∷ []) ≡ None
    → AddsPositions p (IsUpTo c k) before now → AddsPositions p (IsInside c) before now
paths_end p k c before now h x = record {
  paths = x.paths;
  added = x.added;
  listed = lists_same Before (IsUpTo c k) (IsInside c) (λ q i. i.1) (λ q. all_up_to c k q h) x.paths x.listed;
}

-- something stands at a position, seen as a place or as a tree
there_as_tree : (o : Option Placed) → IsSome o → IsSome (option_map (λ c. c.tree) o)
there_as_tree None h = h
there_as_tree (Some c) h = refl

there_as_place : (o : Option Placed) → IsSome (option_map (λ c. c.tree) o) → IsSome o
there_as_place None h = h
there_as_place (Some c) h = refl

-- below where nothing stands there is nothing
no_part_onward : (p q : List ℕ) → ((d : Expression) → part_at d p ≡ None → part_at d (p ++ q) ≡ None) → (o : Option Expression)
    → option_and_then (λ d. part_at d p) o ≡ None → option_and_then (λ d. part_at d (p ++ q)) o ≡ None
no_part_onward p q below None h = refl
no_part_onward p q below (Some d) h = below d h

no_part_below : (p q : List ℕ) (e : Expression) → part_at e p ≡ None → part_at e (p ++ q) ≡ None
no_part_below [] q e h = absurd (none-some e (sym h))
no_part_below (k ∷ p) q e h = no_part_onward p q (no_part_below p q) (part e k) h

no_leaf : (m n : ℕ) (o : Option Expression) → option_map (λ x. placed m n (a_leaf x)) o ≡ None → o ≡ None
no_leaf m n None h = refl
no_leaf m n (Some x) h = absurd (none-some (placed m n (a_leaf x)) (sym h))

none_onward : (p q : List ℕ) (m n : ℕ) → ((u : Tree Expression) → placed_at m n u p ≡ None → placed_at m n u (p ++ q) ≡ None) → (o : Option (Tree Expression))
    → (o >>= (λ u. placed_at m n u p)) ≡ None → (o >>= (λ u. placed_at m n u (p ++ q))) ≡ None
none_onward p q m n below None h = refl
none_onward p q m n below (Some u) h = below u h

pub none_below : (p q : List ℕ) (m n : ℕ) (u : Tree Expression) → placed_at m n u p ≡ None → placed_at m n u (p ++ q) ≡ None
none_below p q m n (a_leaf e) h = ap (option_map (λ x. placed m n (a_leaf x))) (no_part_below p q e (no_leaf m n (part_at e p) h))
none_below [] q m n (a_network f) h = absurd (none-some (placed m n (a_network f)) (sym h))
none_below (k ∷ p) q m n (a_network f) h =
    none_onward p q (m + (bound_in f k).params) (n + (bound_in f k).olds) (none_below p q (m + (bound_in f k).params) (n + (bound_in f k).olds)) (child f k) h

-- the positions of the whole, from those below one
pub order_behind : (p a b : List ℕ) → Before a b → Before (p ++ a) (p ++ b)
order_behind [] a b h = h
order_behind (k ∷ p) a b h = before_below (order_behind p a b h)

within_there : (t : TypedNetwork) (p q : List ℕ) (c : Placed) → placed_at 0 0 (a_network t.net) p ≡ Some c → IsInside c q → IsAtOrBelow p (p ++ q) × IsThere t (p ++ q)
within_there t p q c h i =
    ((q, refl), there_as_tree (placed_at 0 0 (a_network t.net) (p ++ q)) (subst (λ o. IsSome o) (sym (placed_below p q c 0 0 (a_network t.net) h)) i))

there_inside : (t : TypedNetwork) (p : List ℕ) (c : Placed) (q : List ℕ) → placed_at 0 0 (a_network t.net) p ≡ Some c → IsAtOrBelow p q × IsThere t q
    → (rest : List ℕ) × IsInside c rest × (p ++ rest ≡ q)
there_inside t p c q h w =
    let there : IsThere t (p ++ w.0.0) = subst (IsThere t) w.0.1 w.1 in (
      w.0.0,
      subst (λ o. IsSome o) (placed_below p w.0.0 c 0 0 (a_network t.net) h) (there_as_place (placed_at 0 0 (a_network t.net) (p ++ w.0.0)) there),
      sym w.0.1,
    )

all_positions : (t : TypedNetwork) (p : List ℕ) (c : Placed) (before now : List (List ℕ)) → before ≡ [] → placed_at 0 0 (a_network t.net) p ≡ Some c
    → AddsPositions p (IsInside c) before now → ArePositions t p now
all_positions t p c before now none h x =
    let e : now ≡ map (λ q. p ++ q) x.paths = x.added ∙ ap (λ z. z ++ map (λ q. p ++ q) x.paths) none in
    subst (ArePositions t p) (sym e)
    (lists_mapped Before Before (IsInside c) (λ q. IsAtOrBelow p q × IsThere t q) (λ q. p ++ q) (order_behind p) (λ q. within_there t p q c h) (λ q. there_inside t p c q h)
    x.paths x.listed)

pub no_positions : (t : TypedNetwork) (p : List ℕ) (now : List (List ℕ)) → now ≡ [] → placed_at 0 0 (a_network t.net) p ≡ None → ArePositions t p now
no_positions t p now none h =
    subst (ArePositions t p) (sym none)
    (lists_none Before (λ q. IsAtOrBelow p q × IsThere t q)
    (λ q w. none_there (placed_at 0 0 (a_network t.net) (p ++ w.0.0)) (none_below p w.0.0 0 0 (a_network t.net) h)
    (there_as_place (placed_at 0 0 (a_network t.net) (p ++ w.0.0)) (subst (IsThere t) w.0.1 w.1))))

pub found_positions : (t : TypedNetwork) (p path : List ℕ) (c : Placed) (before mid now : List (List ℕ)) → path ≡ p → before ≡ [] → now ≡ mid
    → placed_at 0 0 (a_network t.net) p ≡ Some c → AddsPositions path (IsInside c) before mid → ArePositions t p now
found_positions t p path c before mid now way none same h x =
    subst (ArePositions t p) (sym same) (all_positions t p c before mid none h (subst (λ z. AddsPositions z (IsInside c) before mid) way x))
