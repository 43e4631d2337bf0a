-- The walk: what is reached inside a tree that was reached, and that no step is left in it.
use Rattle.std.proofs.Common.{◌≡◌, ℕ, ◌+◌, ◌-◌, ◌^◌, ◌≤◌, ◌<◌, Bool, true, false, cond, nat_eq, List, [], ◌∷◌, ◌++◌, length, get_or, Option, Some, None, Result, Ok, Err, IfOk, option_map, inl, inr, refl, sym, ap, ◌∙◌, subst, arith, append_assoc, below_more, true≢false, eqb-true}
use Rattle.std.specs.Prelude.{IfSome, option_and_then}
use Rattle.std.proofs.lemmas.Option.{none-some, same_Some}
use Rattle.std.proofs.lemmas.List.{append-nil}
use Rattle.std.proofs.lemmas.Bool.{cases_lt}
use Rattle.sample_core.specs.declared.memory.Memory.{Memory}
use Rattle.leaf_core.specs.Expression.{Expression, nodes_in}
use Rattle.leaf_core.specs.Parts.{part, part_at}
use Rattle.net_tree.specs.Network.{Network, network_size}
use Rattle.net_tree.specs.Place.{◌>>=◌, Tree, a_network, a_leaf, child}
use Rattle.net_syntax.specs.Placed.{FewBound, Placed, placed, placed_at, bound_in, tree_child}
use Rattle.net_syntax.specs.Standing.{Standing, standing}
use Rattle.net_syntax.specs.ChildParts.{seen_place}
use Rattle.net_syntax.specs.declared.place.Place.{Place}
use Rattle.net_tree.specs.declared.law_step.LawStep.{LawStep}
use Rattle.net_meaning.specs.NetworkLimits.{WithinLimits}
use Rattle.net_meaning.specs.TypedNetwork.{TypedNetwork}
use Rattle.net_syntax.proofs.FoundTypes.{ChildThere, child_there}
use Rattle.net_types.proofs.Sizes.{few_inside}
use Rattle.cert_check.proofs.FewBound.{few_bound}
use Rattle.net_opt.specs.Optimising.{NoneLeft, FirstTriedLaw}
use Rattle.net_tree.specs.LawStep.{Step, step_of}
use Rattle.leaf_core.specs.declared.limits.TheConstants.{MOST_EXPR_NODES}
use Rattle.net_tree.specs.declared.measure.TheConstants.{MOST_SIZE}
use Rattle.net_opt.specs.Order.{LeftOf, lower, deeper, Before, on_the_way, before_at, before_below, onward}
use Rattle.net_opt.specs.Search.{Passed, PassedAt, PassedWithin, Settled, FirstAt, FirstWithin, Takes, FoundStep}
use Rattle.net_opt.specs.Walk.{Limited, Reached}
use Rattle.net_opt.proofs.Insides.{ChildFits, PartFits, child_fits, part_fits, no_later_child, no_later_part}
use Rattle.net_opt.proofs.Beside.{beside}
use Rattle.net_opt.proofs.Tried.{none_there, none_anywhere, passed_on}

-- what stands at a longer position stands below what stands at a shorter one
part_onward : (p q : List ℕ) (c : Expression) → ((d : Expression) → part_at d p ≡ Some c → part_at d (p ++ q) ≡ part_at c q) → (o : Option Expression)
    → option_and_then (λ d. part_at d p) o ≡ Some c → option_and_then (λ d. part_at d (p ++ q)) o ≡ part_at c q
part_onward p q c below None h = absurd (none-some c h)
part_onward p q c below (Some d) h = below d h

part_below : (p q : List ℕ) (c e : Expression) → part_at e p ≡ Some c → part_at e (p ++ q) ≡ part_at c q
part_below [] q c e h = ap (λ x. part_at x q) (same_Some e c h)
part_below (k ∷ p) q c e h = part_onward p q c (part_below p q c) (part e k) h

leaf_below : (p q : List ℕ) (m n : ℕ) (e : Expression) (c : Placed) (o : Option Expression) → part_at e p ≡ o → option_map (λ x. placed m n (a_leaf x)) o ≡ Some c
    → placed_at m n (a_leaf e) (p ++ q) ≡ placed_at c.params c.olds c.tree q
leaf_below p q m n e c None i h = absurd (none-some c h)
leaf_below p q m n e c (Some x) i h =
    ap (option_map (λ y. placed m n (a_leaf y))) (part_below p q x e i)
    ∙ ap (λ (d : Placed). placed_at d.params d.olds d.tree q) (same_Some (placed m n (a_leaf x)) c h)

placed_onward : (p q : List ℕ) (m n : ℕ) (c : Placed) → ((u : Tree Expression) → placed_at m n u p ≡ Some c → placed_at m n u (p ++ q) ≡ placed_at c.params c.olds c.tree q)
    → (o : Option (Tree Expression)) → (o >>= (λ u. placed_at m n u p)) ≡ Some c → (o >>= (λ u. placed_at m n u (p ++ q))) ≡ placed_at c.params c.olds c.tree q
placed_onward p q m n c below None h = absurd (none-some c h)
placed_onward p q m n c below (Some u) h = below u h

pub placed_below : (p q : List ℕ) (c : Placed) (m n : ℕ) (u : Tree Expression) → placed_at m n u p ≡ Some c → placed_at m n u (p ++ q) ≡ placed_at c.params c.olds c.tree q
placed_below p q c m n (a_leaf e) h = leaf_below p q m n e c (part_at e p) refl h
placed_below [] q c m n (a_network f) h = ap (λ (d : Placed). placed_at d.params d.olds d.tree q) (same_Some (placed m n (a_network f)) c h)
placed_below (k ∷ p) q c m n (a_network f) h =
    placed_onward p q (m + (bound_in f k).params) (n + (bound_in f k).olds) c (placed_below p q c (m + (bound_in f k).params) (n + (bound_in f k).olds)) (child f k) h

pub placed_here : (m n : ℕ) (u : Tree Expression) → placed_at m n u [] ≡ Some (placed m n u)
placed_here m n (a_network f) = refl
placed_here m n (a_leaf e) = refl

-- what stands at one number below a place is inside it
network_inside : (m n : ℕ) (o : Option (Tree Expression)) (d : Placed) → (o >>= (λ u. placed_at m n u [])) ≡ Some d → o ≡ Some d.tree
network_inside m n None d h = absurd (none-some d h)
network_inside m n (Some u) d h = ap (λ (x : Placed). Some x.tree) (same_Some (placed m n u) d (sym (placed_here m n u) ∙ h))

leaf_inside : (m n : ℕ) (o : Option Expression) (d : Placed) → option_map (λ x. placed m n (a_leaf x)) (option_and_then (λ y. part_at y []) o) ≡ Some d
    → option_map a_leaf o ≡ Some d.tree
leaf_inside m n None d h = absurd (none-some d h)
leaf_inside m n (Some x) d h = ap (λ (y : Placed). Some y.tree) (same_Some (placed m n (a_leaf x)) d h)

pub found_inside : (c d : Placed) (k : ℕ) → placed_at c.params c.olds c.tree (k ∷ []) ≡ Some d → tree_child c.tree k ≡ Some d.tree
found_inside c d k h = go c.params c.olds c.tree h
  where
    go : (m n : ℕ) (u : Tree Expression) → placed_at m n u (k ∷ []) ≡ Some d → tree_child u k ≡ Some d.tree
    go m n (a_network f) h = network_inside (m + (bound_in f k).params) (n + (bound_in f k).olds) (child f k) d h
    go m n (a_leaf e) h = leaf_inside m n (part e k) d h

no_network_inside : (m n : ℕ) (o : Option (Tree Expression)) → (o >>= (λ u. placed_at m n u [])) ≡ None → o ≡ None
no_network_inside m n None h = refl
no_network_inside m n (Some u) h = absurd (none-some (placed m n u) (sym h ∙ placed_here m n u))

no_leaf_inside : (m n : ℕ) (o : Option Expression) → option_map (λ x. placed m n (a_leaf x)) (option_and_then (λ y. part_at y []) o) ≡ None
    → option_map a_leaf o ≡ None
no_leaf_inside m n None h = refl
no_leaf_inside m n (Some x) h = absurd (none-some (placed m n (a_leaf x)) (sym h))

pub none_inside : (c : Placed) (k : ℕ) → placed_at c.params c.olds c.tree (k ∷ []) ≡ None → tree_child c.tree k ≡ None
none_inside c k h = go c.params c.olds c.tree h
  where
    go : (m n : ℕ) (u : Tree Expression) → placed_at m n u (k ∷ []) ≡ None → tree_child u k ≡ None
    go m n (a_network f) h = no_network_inside (m + (bound_in f k).params) (n + (bound_in f k).olds) (child f k) h
    go m n (a_leaf e) h = no_leaf_inside m n (part e k) h

-- few are in scope at a place where few are along the position to it
leaf_few : (q : List ℕ) (m n : ℕ) (c : Placed) (o : Option Expression) → (m < 2 ^ 32) × (n < 2 ^ 32) → option_map (λ x. placed m n (a_leaf x)) o ≡ Some c
    → FewBound c.params c.olds c.tree q
leaf_few q m n c None f h = absurd (none-some c h)
leaf_few q m n c (Some x) f h = subst (λ (d : Placed). FewBound d.params d.olds d.tree q) (same_Some (placed m n (a_leaf x)) c h) f

few_onward : (p q : List ℕ) (m n : ℕ) (c : Placed) → ((u : Tree Expression) → FewBound m n u (p ++ q) → placed_at m n u p ≡ Some c → FewBound c.params c.olds c.tree q)
    → (o : Option (Tree Expression)) → IfSome o (λ u. FewBound m n u (p ++ q)) → (o >>= (λ u. placed_at m n u p)) ≡ Some c → FewBound c.params c.olds c.tree q
few_onward p q m n c below None f h = absurd (none-some c h)
few_onward p q m n c below (Some u) f h = below u f h

few_below : (p q : List ℕ) (c : Placed) (m n : ℕ) (u : Tree Expression) → FewBound m n u (p ++ q) → placed_at m n u p ≡ Some c → FewBound c.params c.olds c.tree q
few_below p q c m n (a_leaf e) f h = leaf_few q m n c (part_at e p) f h
few_below [] q c m n (a_network g) f h = subst (λ (d : Placed). FewBound d.params d.olds d.tree q) (same_Some (placed m n (a_network g)) c h) f
few_below (k ∷ p) q c m n (a_network g) f h =
    few_onward p q (m + (bound_in g k).params) (n + (bound_in g k).olds) c (few_below p q c (m + (bound_in g k).params) (n + (bound_in g k).olds)) (child g k) f.2 h

pub few_there : (t : TypedNetwork) (p : List ℕ) (c : Placed) (k : ℕ) → Reached t p c → FewBound c.params c.olds c.tree (k ∷ [])
few_there t p c k r = few_below p (k ∷ []) c 0 0 (a_network t.net) (few_bound t (p ++ k ∷ []) r.within) r.stands

-- what falls as the walk goes into a tree: a network has more than each of its expressions
abbrev pub rank : Tree Expression → ℕ
rank (a_network f) = 100001 + network_size f
rank (a_leaf e) = nodes_in e

-- what is known of a tree inside another that is limited
record Within (k : ℕ) (u c : Tree Expression) : Type 0 where
  limited : Limited c
  lower : rank c < rank u
  low : k ≤ 5000001

child_within : (k : ℕ) (f : Network Expression) (c : Tree Expression) → network_size f ≤ MOST_SIZE → (S : Standing) → ChildFits (network_size f) k c → ChildThere S f k c
    → Within k (a_network f) c
child_within k f (a_network g) l S s d = record {
  limited = (omega (arith, l, s.0), record { params = d.place.params; olds = d.place.olds; input = d.place.input; output = d.output; typed = d.typed });
  lower = omega (arith, s.0);
  low = omega (arith, l, s.1);
}
child_within k f (a_leaf e) l S s d = record {
  limited = d.typed.whole_fits.small;
  lower = omega (arith, d.typed.whole_fits.small);
  low = omega (arith, l, s);
}

part_within : (k : ℕ) (e : Expression) (o : Option Expression) (c : Tree Expression) → nodes_in e ≤ MOST_EXPR_NODES → IfSome o (PartFits (nodes_in e) k) → option_map a_leaf o ≡ Some c
    → Within k (a_leaf e) c
part_within k e None c l s h = absurd (none-some c h)
part_within k e (Some x) c l s h = subst (Within k (a_leaf e)) (same_Some (a_leaf x) c h) (record {
  limited = omega (arith, l, s.0);
  lower = s.0;
  low = omega (arith, l, s.1);
})

within : (k : ℕ) (u c : Tree Expression) → Limited u → tree_child u k ≡ Some c → Within k u c
within k (a_network f) c l h =
    child_within k f c l.0 (standing l.1.params l.1.olds l.1.input) (subst (λ o. IfSome o (ChildFits (network_size f) k)) h (child_fits f k))
    (subst (λ o. IfSome o (ChildThere (standing l.1.params l.1.olds l.1.input) f k)) h (child_there l.1.typed k))
within k (a_leaf e) c l h = part_within k e (part e k) c l (part_fits e k) h

-- the walk comes to what is inside
pub reached_inside : (t : TypedNetwork) (p : List ℕ) (k : ℕ) (c d : Placed) → Reached t p c → placed_at c.params c.olds c.tree (k ∷ []) ≡ Some d → Reached t (p ++ k ∷ []) d
reached_inside t p k c d r h = record {
  within = r.within;
  stands = placed_below p (k ∷ []) c 0 0 (a_network t.net) r.stands ∙ h;
  limited = (within k c.tree d.tree r.limited (found_inside c d k h)).limited;
}

pub lower_inside : (k : ℕ) (c d : Placed) → Limited c.tree → placed_at c.params c.olds c.tree (k ∷ []) ≡ Some d → rank d.tree < rank c.tree
lower_inside k c d l h = (within k c.tree d.tree l (found_inside c d k h)).lower

-- something that the code found has a low number
pub low_number : {X : Type 0} (see : X → Placed) (k : ℕ) (c : Placed) {o : Option X} {x : X} → Limited c.tree
    → option_map see o ≡ placed_at c.params c.olds c.tree (k ∷ []) → o ≡ Some x → k ≤ 5000001
low_number see k c {x = x} l h e = (within k c.tree (see x).tree l (found_inside c (see x) k (sym h ∙ ap (option_map see) e))).low

-- the walk begins at the root
pub reached_root : (t : TypedNetwork) → WithinLimits t → Reached t [] (placed 0 0 (a_network t.net))
reached_root t h = record {
  within = h;
  stands = refl;
  limited = (few_inside h.fits.typed h.fits.light, record { params = []; olds = []; input = t.input; output = t.output; typed = h.fits.typed });
}

-- behind the last that is inside there is nothing
no_part : (o : Option Expression) → option_map a_leaf o ≡ None → o ≡ None
no_part None h = refl
no_part (Some x) h = absurd (none-some (a_leaf x) (sym h))

pub nothing_behind : (m n k j : ℕ) (q : List ℕ) (u : Tree Expression) → tree_child u k ≡ None → k ≤ j → placed_at m n u (j ∷ q) ≡ None
nothing_behind m n k j q (a_network f) h l =
    ap (λ o. o >>= (λ u. placed_at (m + (bound_in f j).params) (n + (bound_in f j).olds) u q)) (no_later_child f k (j - k) j h (omega arith))
nothing_behind m n k j q (a_leaf e) h l =
    ap (λ o. option_map (λ x. placed m n (a_leaf x)) (option_and_then (λ d. part_at d q) o)) (no_later_part e k (j - k) j (no_part (part e k) h) (omega arith))

-- what was passed stays so
pub passed_on_at : (a b : Bool) (t : TypedNetwork) (p : List ℕ) → (a ≡ true → b ≡ true) → PassedAt a t p → PassedAt b t p
passed_on_at a b t p on h = λ law tried. passed_on a b t p law on (h law tried)

on_from_false : (b : Bool) → false ≡ true → b ≡ true
on_from_false b e = absurd (true≢false (sym e))

-- where the laws were passed at a tree, and in what is inside at the numbers below, and there is nothing more, they were passed within
pub none_within : (b : Bool) (t : TypedNetwork) (p : List ℕ) (k : ℕ) (c : Placed) → placed_at 0 0 (a_network t.net) p ≡ Some c → PassedAt b t p
    → ((j : ℕ) → j < k → PassedWithin b t (p ++ j ∷ [])) → placed_at c.params c.olds c.tree (k ∷ []) ≡ None → PassedWithin b t p
none_within b t p k c s here below h [] = subst (λ (x : List ℕ). PassedAt b t x) (sym (append-nil p)) here
none_within b t p k c s here below h (j ∷ q) = elim (cases_lt j k) [
  | inl l ↦ subst (λ (x : List ℕ). PassedAt b t x) (append_assoc p (j ∷ []) q) (below j l q)
  | inr l ↦ none_there b t (p ++ j ∷ q)
      (placed_below p (j ∷ q) c 0 0 (a_network t.net) s ∙ nothing_behind c.params c.olds k j q c.tree (none_inside c k h) l)
]

-- what is settled is inside at the numbers before the path's first, and inside at that number
pub settled_before : (b : Bool) (t : TypedNetwork) (p path : List ℕ) → Settled t p path → (j : ℕ) → j < get_or path 0 0 → PassedWithin b t (p ++ j ∷ [])
settled_before b t p [] h j lt = absurd (omega arith)
settled_before b t p (k ∷ path) h j lt = λ q.
    subst (λ (x : List ℕ). PassedAt b t x) (sym (append_assoc p (j ∷ []) q)) (passed_on_at false b t (p ++ j ∷ q) (on_from_false b) (h (j ∷ q) (lower lt)))

-- nothing is left of the root, and nothing comes before it
no_left : {q p : List ℕ} → LeftOf q p → p ≡ [] → ⊥
no_left (lower l) e = omega (arith, ap length e)
no_left (deeper h) e = omega (arith, ap length e)

none_before : {q p : List ℕ} → Before q p → p ≡ [] → ⊥
none_before on_the_way e = omega (arith, ap length e)
none_before (before_at l) e = omega (arith, ap length e)
none_before (before_below h) e = omega (arith, ap length e)

left_onward : (path : List ℕ) (k : ℕ) (q : List ℕ) → LeftOf q (onward path k) → LeftOf (k ∷ q) path
left_onward [] k q h = absurd (no_left h refl)
left_onward (j ∷ path) k q h = go (nat_eq j k) refl h
  where
    go : (b : Bool) → nat_eq j k ≡ b → LeftOf q (cond b path []) → LeftOf (k ∷ q) (j ∷ path)
    go true e i = subst (λ z. LeftOf (z ∷ q) (j ∷ path)) (eqb-true j k e) (deeper i)
    go false e i = absurd (no_left i refl)

pub settled_inside : (t : TypedNetwork) (p path : List ℕ) (k : ℕ) → Settled t p path → Settled t (p ++ k ∷ []) (onward path k)
settled_inside t p path k h = λ q l. subst (λ (x : List ℕ). PassedAt false t x) (sym (append_assoc p (k ∷ []) q)) (h (k ∷ q) (left_onward path k q l))

-- the same from the code's values
pub reached_more : (t v : TypedNetwork) (p q r : List ℕ) (k : ℕ) (c d : Placed) → v ≡ t → q ≡ p → r ≡ q ++ k ∷ [] → Reached t p c
    → placed_at c.params c.olds c.tree (k ∷ []) ≡ Some d → Reached v r d
reached_more t v p q r k c d same_net same_path more reached h =
    let longer : p ++ k ∷ [] ≡ r = ap (λ x. x ++ k ∷ []) (sym same_path) ∙ sym more in
    subst (λ w. Reached w r d) (sym same_net) (subst (λ x. Reached t x d) longer (reached_inside t p k c d reached h))

pub settled_more : (t v : TypedNetwork) (p q r path rest : List ℕ) (k : ℕ) → v ≡ t → q ≡ p → r ≡ q ++ k ∷ [] → rest ≡ onward path k → Settled t p path
    → Settled v r rest
settled_more t v p q r path rest k same_net same_path more left h =
    let longer : p ++ k ∷ [] ≡ r = ap (λ x. x ++ k ∷ []) (sym same_path) ∙ sym more in
    subst (λ w. Settled w r rest) (sym same_net)
    (subst (λ x. Settled t x rest) longer (subst (Settled t (p ++ k ∷ [])) (sym left) (settled_inside t p path k h)))

pub reached_start : (t : TypedNetwork) (p : List ℕ) (f : Network Expression) → WithinLimits t → p ≡ [] → f ≡ t.net → Reached t p (placed 0 0 (a_network f))
reached_start t p f h at_root whole =
    subst (λ x. Reached t x (placed 0 0 (a_network f))) (sym at_root) (subst (λ g. Reached t [] (placed 0 0 (a_network g))) (sym whole) (reached_root t h))

pub one_deeper : (a b : Bool) (t v : TypedNetwork) (p q r : List ℕ) (k : ℕ) → (a ≡ true → b ≡ true) → v ≡ t → q ≡ p → r ≡ q ++ k ∷ []
    → ((j : ℕ) → j < k → PassedWithin a t (p ++ j ∷ [])) → PassedWithin b v r → (j : ℕ) → j < k + 1 → PassedWithin b t (p ++ j ∷ [])
one_deeper a b t v p q r k on same_net same_path more before here =
    let longer : r ≡ p ++ k ∷ [] = more ∙ ap (λ x. x ++ k ∷ []) same_path in
    below_more (λ j. PassedWithin b t (p ++ j ∷ [])) k (λ j l x. passed_on_at a b t ((p ++ j ∷ []) ++ x) on (before j l x))
    (subst (λ x. PassedWithin b t x) longer (subst (λ w. PassedWithin b w r) same_net here))

pub nothing_below : (o : Option Place) (c : Option Placed) → ((x : Place) → o ≡ Some x → ⊥) → option_map seen_place o ≡ c → c ≡ None
nothing_below None c never h = sym h
nothing_below (Some x) c never h = absurd (never x refl)

-- a step at the tree itself is the first within
pub first_here : (b : Bool) (t : TypedNetwork) (p : List ℕ) (s : Step) → FirstAt b t p s → FirstWithin b t p s
first_here b t p s h = record {
  rest = [];
  leads = h.there ∙ sym (append-nil p);
  earlier = λ q i. absurd (none_before i refl);
  first_law = subst (λ (x : List ℕ). FirstTriedLaw (Passed b t x) s.law) (sym h.there) h.first_law;
}

-- a step that is the first in what is inside at a number is the first within, where the laws were passed at the tree and at the numbers below
pub first_inside : (a b : Bool) (t : TypedNetwork) (p : List ℕ) (k : ℕ) (s : Step) → (a ≡ true → b ≡ true) → PassedAt a t p
    → ((j : ℕ) → j < k → PassedWithin a t (p ++ j ∷ [])) → FirstWithin b t (p ++ k ∷ []) s → FirstWithin b t p s
first_inside a b t p k s on here before h = record {
  rest = k ∷ h.rest;
  leads = h.leads ∙ append_assoc p (k ∷ []) h.rest;
  earlier = earlier;
  first_law = h.first_law;
}
  where
    earlier : (q : List ℕ) → Before q (k ∷ h.rest) → PassedAt b t (p ++ q)
    earlier [] on_the_way = subst (λ (x : List ℕ). PassedAt b t x) (sym (append-nil p)) (passed_on_at a b t p on here)
    earlier (j ∷ q) (before_at l) = subst (λ (x : List ℕ). PassedAt b t x) (append_assoc p (j ∷ []) q) (passed_on_at a b t ((p ++ j ∷ []) ++ q) on (before j l q))
    earlier (j ∷ q) (before_below i) = subst (λ (x : List ℕ). PassedAt b t x) (append_assoc p (j ∷ []) q) (h.earlier q i)

pub first_deeper : (a b : Bool) (t v u : TypedNetwork) (p q r : List ℕ) (k : ℕ) (s : Step) → (a ≡ true → b ≡ true) → v ≡ t → q ≡ p → r ≡ q ++ k ∷ [] → PassedAt a t p
    → ((j : ℕ) → j < k → PassedWithin a t (p ++ j ∷ [])) → Takes v s u → FirstWithin b v r s → Takes t s u × FirstWithin b t p s
first_deeper a b t v u p q r k s on same_net same_path more here before takes h =
    let longer : r ≡ p ++ k ∷ [] = more ∙ ap (λ x. x ++ k ∷ []) same_path in (
      subst (λ w. Takes w s u) same_net takes,
      first_inside a b t p k s on here before
          (subst (λ x. FirstWithin b t x s) longer (subst (λ w. FirstWithin b w r s) same_net h)),
    )

-- the walk of the whole network
from_root_step : (b : Bool) (t u : TypedNetwork) (p q : List ℕ) (o : Option LawStep) → p ≡ []
    → FoundStep ((q ≡ p) × PassedWithin b t p) (λ s. (q ≡ s.position) × FirstWithin b t p s) t u o
    → FoundStep (NoneLeft t) (λ s. (q ≡ s.position) × FirstWithin b t [] s) t u o
from_root_step b t u p q None e h = (h.0, none_anywhere b t (subst (λ x. PassedWithin b t x) e h.1.1))
from_root_step b t u p q (Some x) e h = (h.0, (h.1.0, subst (λ z. FirstWithin b t z (step_of x)) e h.1.1))

pub from_root : (b : Bool) (t u : TypedNetwork) (p q : List ℕ) (r : Result (Option LawStep) Memory) → p ≡ []
    → IfOk r (FoundStep ((q ≡ p) × PassedWithin b t p) (λ s. (q ≡ s.position) × FirstWithin b t p s) t u)
    → IfOk r (FoundStep (NoneLeft t) (λ s. (q ≡ s.position) × FirstWithin b t [] s) t u)
from_root b t u p q (Ok o) e h = from_root_step b t u p q o e h
from_root b t u p q (Err m) e h = tt

-- a walk begins where something is settled, or where nothing is: nothing is left of the root
pub settled_start : (t : TypedNetwork) (p path : List ℕ) → p ≡ [] → Settled t [] path → Settled t p path
settled_start t p path e h = subst (λ x. Settled t x path) (sym e) h

pub settled_root : (t : TypedNetwork) (p path : List ℕ) → path ≡ [] → Settled t p path
settled_root t p path e = λ q h. absurd (no_left h e)

-- what is left of a position comes before it
left_before : {q p : List ℕ} → LeftOf q p → Before q p
left_before (lower l) = before_at l
left_before (deeper h) = before_below (left_before h)

-- after a step no law matches left of it, where none did before
stays_unmatched : (t u : TypedNetwork) (s : Step) (q : List ℕ) → Takes t s u → LeftOf q s.position → PassedAt false t q → PassedAt false u q
stays_unmatched t u s q takes l h = λ law tried new a. h law tried new (record {
  place = a.place;
  found = sym (beside l 0 0 (a_network t.net) takes.next.new (a_network u.net) takes.next.rewritten.result) ∙ a.found;
  answered = a.answered;
})

pub settled_after : (b : Bool) (t u : TypedNetwork) (s : Step) (path next : List ℕ) → Takes t s u → (path ≡ s.position) × FirstWithin b t [] s
    → next ≡ cond b [] path → Settled u [] next
settled_after true t u s path next takes h e = settled_root u [] next e
settled_after false t u s path next takes h e = λ q l.
    let at : LeftOf q s.position = subst (LeftOf q) (e ∙ h.0) l in
    stays_unmatched t u s q takes at (h.1.earlier q (left_before (subst (LeftOf q) h.1.leads at)))
