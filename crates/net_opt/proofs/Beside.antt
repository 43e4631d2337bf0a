-- What stands left of a position stays where the tree at the position is replaced.
use Rattle.std.proofs.Common.{◌≡◌, ℕ, zero, suc, ◌+◌, ◌<◌, true, false, List, ◌∷◌, Option, Some, None, IfSome, option_map, refl, sym, ap, ◌∙◌, subst, arith}
use Rattle.std.specs.Prelude.{option_and_then}
use Rattle.std.proofs.lemmas.Option.{none-some, same_Some}
use Rattle.sample_core.specs.TypeTree.{TypeTree}
use Rattle.leaf_core.specs.Expression.{Expression, Expressions, no_more, and_then, bool_expr, pair_expr, fst, snd, then_expr, neg, add, sub, mul, less, equal, not_expr, and_expr, or_expr, if_expr, event_expr, on, list_expr, nth, len}
use Rattle.leaf_core.specs.Inside.{Inside, one, two, three, many, inside_of}
use Rattle.leaf_core.specs.Parts.{element, with_element, part_inside, inside_with, refilled, part, with_part, part_at, with_part_at}
use Rattle.leaf_core.proofs.PartTypes.{inner, value_is}
use Rattle.net_tree.specs.Network.{Network, Networks, arr, seq, first, par, loop_pre, i_pre, delay, hold, accum_by, after, repeatedly, switch, r_switch, k_switch, p_switch, initial_out, initial_in, rp_switch, no_members, and_member}
use Rattle.net_tree.specs.Place.{◌>>=◌, Tree, a_network, a_leaf, member, child, child_network, collection_child, PSwitchChild, p_switch_child, member_child, event_child, continuation_child, no_child}
use Rattle.net_syntax.specs.Placed.{Bound, Placed, placed, placed_at, bound_in, bound_behind, bound_started, with_member, with_child, with_p_switch_child, with_collection_child, replaced}
use Rattle.net_syntax.proofs.Splits.{split}
use Rattle.net_opt.specs.Order.{LeftOf, lower, deeper}

-- what holds of the numbers below 1, 2
below_one : (P : ℕ → Type 0) → P 0 → (j : ℕ) → j < 1 → P j
below_one P a zero h = a
below_one P a (suc j) h = absurd (omega arith)

below_two : (P : ℕ → Type 0) → P 0 → P 1 → (j : ℕ) → j < 2 → P j
below_two P a b zero h = a
below_two P a b (suc zero) h = b
below_two P a b (suc (suc j)) h = absurd (omega arith)

none_below : (P : ℕ → Type 0) → (j : ℕ) → j < 0 → P j
none_below P j h = absurd (omega arith)

-- of an expression with another part at number k: it stands there, and those at lower numbers stay
record PartPut (s : Expression) (k : ℕ) (i j : Inside) : Type 0 where
  here : part_inside j k ≡ Some s
  left : (l : ℕ) → l < k → part_inside j l ≡ part_inside i l

element_put : (es : Expressions) (k : ℕ) (s : Expression)
    → IfSome (with_element es k s) (λ fs. (element fs k ≡ Some s) × ((l : ℕ) → l < k → element fs l ≡ element es l))
element_put no_more k s = tt
element_put (and_then e es) zero s = (refl, none_below (λ l. element (and_then s es) l ≡ element (and_then e es) l))
element_put (and_then e es) (suc k) s = go (with_element es k s) (element_put es k s)
  where
    go : (o : Option Expressions) → IfSome o (λ fs. (element fs k ≡ Some s) × ((l : ℕ) → l < k → element fs l ≡ element es l))
        → IfSome (option_map (and_then e) o) (λ fs. (element fs (suc k) ≡ Some s) × ((l : ℕ) → l < suc k → element fs l ≡ element (and_then e es) l))
    go None h = tt
    go (Some fs) h = (h.0, left)
      where
        left : (l : ℕ) → l < suc k → element (and_then e fs) l ≡ element (and_then e es) l
        left zero i = refl
        left (suc l) i = h.1 l (omega arith)

inside_put : (i : Inside) (k : ℕ) (s : Expression) → IfSome (inside_with i k s) (PartPut s k i)
inside_put (one a) zero s = record { here = refl; left = none_below (λ l. part_inside (one s) l ≡ part_inside (one a) l) }
inside_put (two a b) zero s = record { here = refl; left = none_below (λ l. part_inside (two s b) l ≡ part_inside (two a b) l) }
inside_put (two a b) (suc zero) s = record { here = refl; left = below_one (λ l. part_inside (two a s) l ≡ part_inside (two a b) l) refl }
inside_put (three a b c) zero s = record { here = refl; left = none_below (λ l. part_inside (three s b c) l ≡ part_inside (three a b c) l) }
inside_put (three a b c) (suc zero) s = record { here = refl; left = below_one (λ l. part_inside (three a s c) l ≡ part_inside (three a b c) l) refl }
inside_put (three a b c) (suc (suc zero)) s = record { here = refl; left = below_two (λ l. part_inside (three a b s) l ≡ part_inside (three a b c) l) refl refl }
inside_put (many t es) k s = go (with_element es k s) (element_put es k s)
  where
    go : (o : Option Expressions) → IfSome o (λ fs. (element fs k ≡ Some s) × ((l : ℕ) → l < k → element fs l ≡ element es l))
        → IfSome (option_map (many t) o) (PartPut s k (many t es))
    go None h = tt
    go (Some fs) h = record { here = h.0; left = h.1 }
inside_put _ k s = tt

-- an expression that is filled anew has that inside
abbrev Refills : Expression → ℕ → Expression → Type 0
Refills e k s = IfSome (inside_with (inside_of e) k s) (λ i. inside_of (refilled e i) ≡ i)

row_refills : (t : TypeTree) (es : Expressions) (o : Option Expressions) → IfSome (option_map (many t) o) (λ i. inside_of (refilled (list_expr t es) i) ≡ i)
row_refills t es None = tt
row_refills t es (Some fs) = refl

refills : (e : Expression) (k : ℕ) (s : Expression) → Refills e k s
refills (pair_expr a b) zero s = refl
refills (pair_expr a b) (suc zero) s = refl
refills (fst a) zero s = refl
refills (snd a) zero s = refl
refills (then_expr a b) zero s = refl
refills (then_expr a b) (suc zero) s = refl
refills (neg a) zero s = refl
refills (add a b) zero s = refl
refills (add a b) (suc zero) s = refl
refills (sub a b) zero s = refl
refills (sub a b) (suc zero) s = refl
refills (mul a b) zero s = refl
refills (mul a b) (suc zero) s = refl
refills (less a b) zero s = refl
refills (less a b) (suc zero) s = refl
refills (equal a b) zero s = refl
refills (equal a b) (suc zero) s = refl
refills (not_expr a) zero s = refl
refills (and_expr a b) zero s = refl
refills (and_expr a b) (suc zero) s = refl
refills (or_expr a b) zero s = refl
refills (or_expr a b) (suc zero) s = refl
refills (if_expr a b c) zero s = refl
refills (if_expr a b c) (suc zero) s = refl
refills (if_expr a b c) (suc (suc zero)) s = refl
refills (event_expr a) zero s = refl
refills (on a b c) zero s = refl
refills (on a b c) (suc zero) s = refl
refills (on a b c) (suc (suc zero)) s = refl
refills (list_expr t es) k s = row_refills t es (with_element es k s)
refills (nth a b c) zero s = refl
refills (nth a b c) (suc zero) s = refl
refills (nth a b c) (suc (suc zero)) s = refl
refills (len a) zero s = refl
refills (bool_expr false) k s = tt
refills (bool_expr true) k s = tt
refills _ k s = tt

-- with another part in its place, those at lower numbers stay
record PutInExpression (e : Expression) (k : ℕ) (s v : Expression) : Type 0 where
  here : part v k ≡ Some s
  left : (l : ℕ) → l < k → part v l ≡ part e l

part_put : (e : Expression) (k : ℕ) (s v : Expression) → with_part e k s ≡ Some v → PutInExpression e k s v
part_put e k s v q = go (inside_with (inside_of e) k s) (inside_put (inside_of e) k s) (refills e k s) q
  where
    go : (o : Option Inside) → IfSome o (PartPut s k (inside_of e)) → IfSome o (λ i. inside_of (refilled e i) ≡ i) → option_map (refilled e) o ≡ Some v
        → PutInExpression e k s v
    go None h f r = absurd (none-some v r)
    go (Some i) h f r =
        let is : inside_of v ≡ i = ap inside_of (sym (same_Some (refilled e i) v r)) ∙ f in
        record { here = ap (λ z. part_inside z k) is ∙ h.here; left = λ l lt. ap (λ z. part_inside z l) is ∙ h.left l lt }

part_beside : {q p : List ℕ} → LeftOf q p → (e s v : Expression) → with_part_at e p s ≡ Some v → part_at v q ≡ part_at e q
part_beside (lower {j = j} {k = k} {q = q} {p = p} lt) e s v r =
    let t = inner e k p s v r in
    ap (option_and_then (λ c. part_at c q)) ((part_put e k t.now v t.is).left j lt)
part_beside (deeper {k = k} {q = q} {p = p} h) e s v r =
    let t = inner e k p s v r in
    ap (option_and_then (λ c. part_at c q)) ((part_put e k t.now v t.is).here)
    ∙ (part_beside h t.before s t.now t.changed ∙ sym (ap (option_and_then (λ c. part_at c q)) t.there))

-- a child that stays, with what is bound there
abbrev SameChild : Network Expression → Network Expression → ℕ → Type 0
SameChild f g j = (child g j ≡ child f j) × (bound_in g j ≡ bound_in f j)

-- with another child in its place, those at lower numbers stay, with what is bound there
record ChildPut (s : Tree Expression) (k : ℕ) (f g : Network Expression) : Type 0 where
  here : child g k ≡ Some s
  bound_here : bound_in g k ≡ bound_in f k
  left : (j : ℕ) → j < k → SameChild f g j

-- the same of members, and what stands at their numbers in a pSwitch
record MemberPut (s : Network Expression) (k : ℕ) (fs gs : Networks Expression) : Type 0 where
  here : member gs k ≡ Some s
  left : (j : ℕ) → j < k → member gs j ≡ member fs j
  kinds : (j : ℕ) → p_switch_child gs j ≡ p_switch_child fs j
  among : (j : ℕ) → j < suc k → p_switch_child fs j ≡ member_child

member_put : (fs : Networks Expression) (k : ℕ) (s : Network Expression) → IfSome (with_member fs k s) (MemberPut s k fs)
member_put no_members k s = tt
member_put (and_member f fs) zero s = record {
  here = refl;
  left = none_below (λ j. member (and_member s fs) j ≡ member (and_member f fs) j);
  kinds = kinds;
  among = below_one (λ j. p_switch_child (and_member f fs) j ≡ member_child) refl;
}
  where
    kinds : (j : ℕ) → p_switch_child (and_member s fs) j ≡ p_switch_child (and_member f fs) j
    kinds zero = refl
    kinds (suc j) = refl
member_put (and_member f fs) (suc k) s = go (with_member fs k s) (member_put fs k s)
  where
    more : (gs : Networks Expression) → MemberPut s k fs gs → MemberPut s (suc k) (and_member f fs) (and_member f gs)
    more gs h = record { here = h.here; left = left; kinds = kinds; among = among }
      where
        left : (j : ℕ) → j < suc k → member (and_member f gs) j ≡ member (and_member f fs) j
        left zero i = refl
        left (suc j) i = h.left j (omega arith)

        kinds : (j : ℕ) → p_switch_child (and_member f gs) j ≡ p_switch_child (and_member f fs) j
        kinds zero = refl
        kinds (suc j) = h.kinds j

        among : (j : ℕ) → j < suc (suc k) → p_switch_child (and_member f fs) j ≡ member_child
        among zero i = refl
        among (suc j) i = h.among j (omega arith)

    go : (o : Option (Networks Expression)) → IfSome o (MemberPut s k fs) → IfSome (option_map (and_member f) o) (MemberPut s (suc k) (and_member f fs))
    go None h = tt
    go (Some gs) h = more gs h

-- before the event of a pSwitch, or the choice of an rpSwitchB, there are members, before its continuation members and the event or choice
before_event : (fs : Networks Expression) (k j : ℕ) → p_switch_child fs k ≡ event_child → j < k → p_switch_child fs j ≡ member_child
before_event fs zero j is lt = absurd (omega arith)
before_event no_members (suc zero) j is lt = absurd (cc)
before_event no_members (suc (suc k)) j is lt = absurd (cc)
before_event (and_member f fs) (suc k) zero is lt = refl
before_event (and_member f fs) (suc k) (suc j) is lt = before_event fs k j is (omega arith)

abbrev IsEarly : PSwitchChild → Type 0
IsEarly member_child = Unit {0}
IsEarly event_child = Unit {0}
IsEarly _ = ⊥

before_continuation : (fs : Networks Expression) (k j : ℕ) → p_switch_child fs k ≡ continuation_child → j < k → IsEarly (p_switch_child fs j)
before_continuation fs zero j is lt = absurd (omega arith)
before_continuation no_members (suc zero) zero is lt = tt
before_continuation no_members (suc zero) (suc j) is lt = absurd (omega arith)
before_continuation no_members (suc (suc k)) j is lt = absurd (cc)
before_continuation (and_member f fs) (suc k) zero is lt = tt
before_continuation (and_member f fs) (suc k) (suc j) is lt = before_continuation fs k j is (omega arith)

early_same : (c : PSwitchChild) → IsEarly c → (fs : Networks Expression) (e s t : Network Expression) (j : ℕ) → child_network c fs e s j ≡ child_network c fs e t j
early_same member_child h fs e s t j = refl
early_same event_child h fs e s t j = refl
early_same continuation_child h fs e s t j = absurd h
early_same no_child h fs e s t j = absurd h

early_chosen : (c : PSwitchChild) → IsEarly c → (fs : Networks Expression) (m : Expression) (s t : Network Expression) (j : ℕ)
    → collection_child c fs m s j ≡ collection_child c fs m t j
early_chosen member_child h fs m s t j = refl
early_chosen event_child h fs m s t j = refl
early_chosen continuation_child h fs m s t j = absurd h
early_chosen no_child h fs m s t j = absurd h

put_first : (f g : Network Expression) (s : Tree Expression) → child g 0 ≡ Some s → bound_in g 0 ≡ bound_in f 0 → ChildPut s 0 f g
put_first f g s h b = record { here = h; bound_here = b; left = none_below (SameChild f g) }

put_second : (f g : Network Expression) (s : Tree Expression) → child g 1 ≡ Some s → bound_in g 1 ≡ bound_in f 1 → SameChild f g 0 → ChildPut s 1 f g
put_second f g s h b x = record { here = h; bound_here = b; left = below_one (SameChild f g) x }

put_third : (f g : Network Expression) (s : Tree Expression) → child g 2 ≡ Some s → bound_in g 2 ≡ bound_in f 2 → SameChild f g 0 → SameChild f g 1 → ChildPut s 2 f g
put_third f g s h b x y = record { here = h; bound_here = b; left = below_two (SameChild f g) x y }

-- behind the route of a pSwitch
module _ (r : Expression) (fs : Networks Expression) (e t : Network Expression) (k : ℕ) (s : Network Expression) where
  in_members : (o : Option (Networks Expression)) → IfSome o (MemberPut s k fs) → IfSome (option_map (λ gs. p_switch r gs e t) o) (ChildPut (a_network s) (suc k) (p_switch r fs e t))
  in_members None h = tt
  in_members (Some gs) h = record {
    here = ap (λ c. option_map a_network (child_network c gs e t k)) (h.kinds k ∙ h.among k (omega arith)) ∙ ap (option_map a_network) h.here;
    bound_here = ap (λ c. bound_behind c gs) (h.kinds k ∙ h.among k (omega arith)) ∙ sym (ap (λ c. bound_behind c fs) (h.among k (omega arith)));
    left = left;
  }
    where
      left : (j : ℕ) → j < suc k → SameChild (p_switch r fs e t) (p_switch r gs e t) j
      left zero i = (refl, refl)
      left (suc j) i =
          let m : p_switch_child fs j ≡ member_child = h.among j (omega arith) in
          let n : p_switch_child gs j ≡ member_child = h.kinds j ∙ m in (
            ap (λ c. option_map a_network (child_network c gs e t j)) n
                ∙ (ap (option_map a_network) (h.left j (omega arith)) ∙ sym (ap (λ c. option_map a_network (child_network c fs e t j)) m)),
            ap (λ c. bound_behind c gs) n ∙ sym (ap (λ c. bound_behind c fs) m),
          )

  at_event : p_switch_child fs k ≡ event_child → ChildPut (a_network s) (suc k) (p_switch r fs e t) (p_switch r fs s t)
  at_event is = record { here = ap (λ c. option_map a_network (child_network c fs s t k)) is; bound_here = refl; left = left }
    where
      left : (j : ℕ) → j < suc k → SameChild (p_switch r fs e t) (p_switch r fs s t) j
      left zero i = (refl, refl)
      left (suc j) i =
          let m : p_switch_child fs j ≡ member_child = before_event fs k j is (omega arith) in
          (ap (λ c. option_map a_network (child_network c fs s t j)) m ∙ sym (ap (λ c. option_map a_network (child_network c fs e t j)) m), refl)

  at_continuation : p_switch_child fs k ≡ continuation_child → ChildPut (a_network s) (suc k) (p_switch r fs e t) (p_switch r fs e s)
  at_continuation is = record { here = ap (λ c. option_map a_network (child_network c fs e s k)) is; bound_here = refl; left = left }
    where
      left : (j : ℕ) → j < suc k → SameChild (p_switch r fs e t) (p_switch r fs e s) j
      left zero i = (refl, refl)
      left (suc j) i = (ap (option_map a_network) (early_same (p_switch_child fs j) (before_continuation fs k j is (omega arith)) fs e s t j), refl)

  behind_put : (c : PSwitchChild) → p_switch_child fs k ≡ c → IfSome (with_p_switch_child c r fs e t k s) (ChildPut (a_network s) (suc k) (p_switch r fs e t))
  behind_put member_child is = in_members (with_member fs k s) (member_put fs k s)
  behind_put event_child is = at_event is
  behind_put continuation_child is = at_continuation is
  behind_put no_child is = tt

-- in an rpSwitchB
module _ (fs : Networks Expression) (m : Expression) (t : Network Expression) (k : ℕ) where
  among_kept : (s : Network Expression) (o : Option (Networks Expression)) → IfSome o (MemberPut s k fs)
      → IfSome (option_map (λ gs. rp_switch gs m t) o) (ChildPut (a_network s) k (rp_switch fs m t))
  among_kept s None h = tt
  among_kept s (Some gs) h = record {
    here = ap (λ c. collection_child c gs m t k) (h.kinds k ∙ h.among k (omega arith)) ∙ ap (option_map a_network) h.here;
    bound_here = ap bound_started (h.kinds k);
    left = left;
  }
    where
      left : (j : ℕ) → j < k → SameChild (rp_switch fs m t) (rp_switch gs m t) j
      left j i =
          let is : p_switch_child fs j ≡ member_child = h.among j (omega arith) in (
            ap (λ c. collection_child c gs m t j) (h.kinds j ∙ is)
                ∙ (ap (option_map a_network) (h.left j i) ∙ sym (ap (λ c. collection_child c fs m t j) is)),
            ap bound_started (h.kinds j),
          )

  at_choice : (s : Expression) → p_switch_child fs k ≡ event_child → ChildPut (a_leaf s) k (rp_switch fs m t) (rp_switch fs s t)
  at_choice s is = record { here = ap (λ c. collection_child c fs s t k) is; bound_here = refl; left = left }
    where
      left : (j : ℕ) → j < k → SameChild (rp_switch fs m t) (rp_switch fs s t) j
      left j i =
          let among : p_switch_child fs j ≡ member_child = before_event fs k j is i in
          (ap (λ c. collection_child c fs s t j) among ∙ sym (ap (λ c. collection_child c fs m t j) among), refl)

  at_start : (s : Network Expression) → p_switch_child fs k ≡ continuation_child → ChildPut (a_network s) k (rp_switch fs m t) (rp_switch fs m s)
  at_start s is = record { here = ap (λ c. collection_child c fs m s k) is; bound_here = refl; left = left }
    where
      left : (j : ℕ) → j < k → SameChild (rp_switch fs m t) (rp_switch fs m s) j
      left j i = (early_chosen (p_switch_child fs j) (before_continuation fs k j is i) fs m s t j, refl)

  collection_put : (c : PSwitchChild) → p_switch_child fs k ≡ c → (s : Tree Expression)
      → IfSome (with_collection_child c fs m t k s) (ChildPut s k (rp_switch fs m t))
  collection_put member_child is (a_network s) = among_kept s (with_member fs k s) (member_put fs k s)
  collection_put event_child is (a_leaf s) = at_choice s is
  collection_put continuation_child is (a_network s) = at_start s is
  collection_put _ is s = tt

par_put : (fs : Networks Expression) (k : ℕ) (s : Network Expression) (o : Option (Networks Expression)) → IfSome o (MemberPut s k fs)
    → IfSome (option_map par o) (ChildPut (a_network s) k (par fs))
par_put fs k s None h = tt
par_put fs k s (Some gs) h = record { here = ap (option_map a_network) h.here; bound_here = refl; left = λ j i. (ap (option_map a_network) (h.left j i), refl) }

child_put : (f : Network Expression) (k : ℕ) (s : Tree Expression) → IfSome (with_child f k s) (ChildPut s k f)
child_put (arr e) zero (a_leaf s) = put_first (arr e) (arr s) (a_leaf s) refl refl
child_put (seq f g) zero (a_network s) = put_first (seq f g) (seq s g) (a_network s) refl refl
child_put (seq f g) (suc zero) (a_network s) = put_second (seq f g) (seq f s) (a_network s) refl refl (refl, refl)
child_put (first f) zero (a_network s) = put_first (first f) (first s) (a_network s) refl refl
child_put (par fs) k (a_network s) = par_put fs k s (with_member fs k s) (member_put fs k s)
child_put (loop_pre c f) zero (a_leaf s) = put_first (loop_pre c f) (loop_pre s f) (a_leaf s) refl refl
child_put (loop_pre c f) (suc zero) (a_network s) = put_second (loop_pre c f) (loop_pre c s) (a_network s) refl refl (refl, refl)
child_put (i_pre c) zero (a_leaf s) = put_first (i_pre c) (i_pre s) (a_leaf s) refl refl
child_put (delay q c) zero (a_leaf s) = put_first (delay q c) (delay q s) (a_leaf s) refl refl
child_put (hold c) zero (a_leaf s) = put_first (hold c) (hold s) (a_leaf s) refl refl
child_put (accum_by g z) zero (a_leaf s) = put_first (accum_by g z) (accum_by s z) (a_leaf s) refl refl
child_put (accum_by g z) (suc zero) (a_leaf s) = put_second (accum_by g z) (accum_by g s) (a_leaf s) refl refl (refl, refl)
child_put (after q c) zero (a_leaf s) = put_first (after q c) (after q s) (a_leaf s) refl refl
child_put (repeatedly q c) zero (a_leaf s) = put_first (repeatedly q c) (repeatedly q s) (a_leaf s) refl refl
child_put (switch tm f t) zero (a_network s) = put_first (switch tm f t) (switch tm s t) (a_network s) refl refl
child_put (switch tm f t) (suc zero) (a_network s) = put_second (switch tm f t) (switch tm f s) (a_network s) refl refl (refl, refl)
child_put (r_switch tm f t) zero (a_network s) = put_first (r_switch tm f t) (r_switch tm s t) (a_network s) refl refl
child_put (r_switch tm f t) (suc zero) (a_network s) = put_second (r_switch tm f t) (r_switch tm f s) (a_network s) refl refl (refl, refl)
child_put (k_switch f e t) zero (a_network s) = put_first (k_switch f e t) (k_switch s e t) (a_network s) refl refl
child_put (k_switch f e t) (suc zero) (a_network s) = put_second (k_switch f e t) (k_switch f s t) (a_network s) refl refl (refl, refl)
child_put (k_switch f e t) (suc (suc zero)) (a_network s) = put_third (k_switch f e t) (k_switch f e s) (a_network s) refl refl (refl, refl) (refl, refl)
child_put (p_switch r fs e t) zero (a_leaf s) = put_first (p_switch r fs e t) (p_switch s fs e t) (a_leaf s) refl refl
child_put (p_switch r fs e t) (suc k) (a_network s) = behind_put r fs e t k s (p_switch_child fs k) refl
child_put (initial_out c f) zero (a_leaf s) = put_first (initial_out c f) (initial_out s f) (a_leaf s) refl refl
child_put (initial_out c f) (suc zero) (a_network s) = put_second (initial_out c f) (initial_out c s) (a_network s) refl refl (refl, refl)
child_put (initial_in c f) zero (a_leaf s) = put_first (initial_in c f) (initial_in s f) (a_leaf s) refl refl
child_put (initial_in c f) (suc zero) (a_network s) = put_second (initial_in c f) (initial_in c s) (a_network s) refl refl (refl, refl)
child_put (rp_switch fs m t) k s = collection_put fs m t k (p_switch_child fs k) refl s
child_put _ k s = tt

-- a child that is put at its place, in what that makes
put_there : (f : Network Expression) (k : ℕ) (s : Tree Expression) (w : Network Expression) → with_child f k s ≡ Some w → ChildPut s k f w
put_there f k s w q = value_is (ChildPut s k f) q (child_put f k s)

-- what stands at the rest of a position, in a child with so much bound
abbrev below : ℕ → ℕ → List ℕ → Bound → Option (Tree Expression) → Option Placed
below m n q b o = o >>= (λ c. placed_at (m + b.params) (n + b.olds) c q)

below_same : (m n : ℕ) (q : List ℕ) {a b : Bound} {x y : Option (Tree Expression)} → a ≡ b → x ≡ y → below m n q a x ≡ below m n q b y
below_same m n q {a = a} {y = y} i j = ap (below m n q a) j ∙ ap (λ z. below m n q z y) i

leaf_beside : {q p : List ℕ} → LeftOf q p → (m n : ℕ) (e s : Expression) (u : Tree Expression) (o : Option Expression) → with_part_at e p s ≡ o
    → option_map a_leaf o ≡ Some u → placed_at m n u q ≡ placed_at m n (a_leaf e) q
leaf_beside h m n e s u None i r = absurd (none-some u r)
leaf_beside {q = q} h m n e s u (Some v) i r =
    subst (λ w. placed_at m n w q ≡ placed_at m n (a_leaf e) q) (same_Some (a_leaf v) u r)
    (ap (option_map (λ c. placed m n (a_leaf c))) (part_beside h e s v i))

-- what stands left of a position stays, with what is in scope there, where the tree at the position
-- is replaced
pub beside : {q p : List ℕ} → LeftOf q p → (m n : ℕ) (t s u : Tree Expression) → replaced t p s ≡ Some u → placed_at m n u q ≡ placed_at m n t q
beside {p = p} h m n (a_leaf e) (a_leaf s) u r = leaf_beside h m n e s u (with_part_at e p s) refl r
beside h m n (a_leaf e) (a_network s) u r = absurd (none-some u r)
beside (lower {j = j} {k = k} {q = q} {p = p} lt) m n (a_network f) s u r =
    let t = split f k p s u r in
    let same = (put_there f k t.now t.net t.is).left j lt in
    subst (λ w. placed_at m n w (j ∷ q) ≡ placed_at m n (a_network f) (j ∷ q)) t.whole (below_same m n q same.1 same.0)
beside (deeper {k = k} {q = q} {p = p} h) m n (a_network f) s u r =
    let t = split f k p s u r in
    let put = put_there f k t.now t.net t.is in
    let b = bound_in f k in
    subst (λ w. placed_at m n w (k ∷ q) ≡ placed_at m n (a_network f) (k ∷ q)) t.whole
    (below_same m n q put.bound_here put.here
    ∙ (beside h (m + b.params) (n + b.olds) t.before s t.now t.changed ∙ sym (below_same m n q refl t.there)))
