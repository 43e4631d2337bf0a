-- The expressions that are listed of a network stand at their positions.
use Rattle.std.proofs.Common.{◌≡◌, ℕ, suc, ◌+◌, List, [], ◌∷◌, ◌++◌, Some, All, option_map, refl, sym, ap, ◌∙◌, subst, append_assoc, arith}
use Rattle.std.proofs.lemmas.List.Elements.{All-append, All-cons, All-nil}
use Rattle.sample_core.specs.TypeTree.{TypeTree, int_ty, pair_ty, list_ty}
use Rattle.leaf_core.specs.Expression.{Expression}
use Rattle.net_tree.specs.Network.{Network, Networks, par, p_switch, rp_switch, and_member}
use Rattle.net_meaning.specs.Typing.{Arrow, members, LeafTyping, Typed, AllTyped, arr_typed, seq_typed, first_typed, par_typed, loop_typed, i_pre_typed, delay_typed, hold_typed, accum_typed, after_typed, repeatedly_typed, time_typed, integral_typed, switch_typed, r_switch_typed, k_switch_typed, p_switch_typed, old_typed, initial_out_typed, initial_in_typed, rp_switch_typed, no_members_typed, and_member_typed}
use Rattle.net_tree.specs.Place as P
use Rattle.net_tree.specs.Place.{a_network, a_leaf, child, member, p_switch_child, child_network, collection_child}
use Rattle.net_syntax.specs.Leaves.{Need, need_at, leaves_by, member_leaves_by}
use Rattle.net_syntax.specs.TypingLaws.{PositionLaw}
use Rattle.net_syntax.proofs.Children.{member_is, event_is, continuation_is}

-- the need's position is that of the network, and behind it the one of its expression in it
record Stands (net : Network Expression) (at : List ℕ) (n : Need) : Type 0 where
  path : List ℕ
  joined : n.position ≡ at ++ path
  leads : P.at (a_network net) path ≡ Some (a_leaf n.key.expr, [])

-- the same of one of the members, the first of which is child k
record StandsIn (fs : Networks Expression) (at : List ℕ) (k : ℕ) (n : Need) : Type 0 where
  number : ℕ
  its : Network Expression
  there : member fs number ≡ Some its
  stands : Stands its (at ++ (k + number) ∷ []) n

-- what stands in a child stands in the network
higher : (net f : Network Expression) (at : List ℕ) (k : ℕ) (n : Need) → child net k ≡ Some (a_network f) → Stands f (at ++ k ∷ []) n → Stands net at n
higher net f at k n is s = record {
  path = k ∷ s.path;
  joined = s.joined ∙ append_assoc at (k ∷ []) s.path;
  leads = ap (λ o. P.◌>>=◌ o (λ t. P.at t s.path)) is ∙ s.leads;
}

up : (net f : Network Expression) (at : List ℕ) (k : ℕ) (ns : List Need) → child net k ≡ Some (a_network f) → All (Stands f (at ++ k ∷ [])) ns
    → All (Stands net at) ns
up net f at k ns is all = λ j d lt. higher net f at k _ is (all j d lt)

-- what stands in the members stands in the network, where they are its children in order
up_members : (net : Network Expression) (fs : Networks Expression) (at : List ℕ) (k : ℕ) (ns : List Need)
    → ((j : ℕ) (f : Network Expression) → member fs j ≡ Some f → child net (k + j) ≡ Some (a_network f)) → All (StandsIn fs at k) ns → All (Stands net at) ns
up_members net fs at k ns is all = λ i d lt. let s = all i d lt in higher net s.its at (k + s.number) _ (is s.number s.its s.there) s.stands

one : (net : Network Expression) (at : List ℕ) (n : Need) (k : ℕ) → n.position ≡ at ++ k ∷ [] → child net k ≡ Some (a_leaf n.key.expr)
    → All (Stands net at) (n ∷ [])
one net at n k p is = All-cons (Stands net at) n []
    (record { path = k ∷ []; joined = p; leads = ap (λ o. P.◌>>=◌ o (λ t. P.at t [])) is }) (All-nil (Stands net at))

fed : (net f : Network Expression) (at : List ℕ) (n : Need) (ns : List Need) → n.position ≡ at ++ 0 ∷ [] → child net 0 ≡ Some (a_leaf n.key.expr)
    → child net 1 ≡ Some (a_network f) → All (Stands f (at ++ 1 ∷ [])) ns → All (Stands net at) (n ∷ ns)
fed net f at n ns p hc hf df = All-append (Stands net at) (n ∷ []) ns (one net at n 0 p hc) (up net f at 1 ns hf df)

two : (net : Network Expression) (at : List ℕ) (j k : ℕ) (f g : Network Expression) (ns ms : List Need) → child net j ≡ Some (a_network f)
    → child net k ≡ Some (a_network g) → All (Stands f (at ++ j ∷ [])) ns → All (Stands g (at ++ k ∷ [])) ms → All (Stands net at) (ns ++ ms)
two net at j k f g ns ms hf hg df dg = All-append (Stands net at) ns ms (up net f at j ns hf df) (up net g at k ms hg dg)

-- a member of a pSwitch is its child
pub child_is_member : (fs : Networks Expression) (j : ℕ) (f e t : Network Expression) → member fs j ≡ Some f
    → child_network (p_switch_child fs j) fs e t j ≡ Some f
child_is_member fs j f e t h = ap (λ o. child_network o fs e t j) (member_is fs j f h) ∙ h

-- a member of an rpSwitchB is its child
pub child_in_collection : (fs : Networks Expression) (m : Expression) (t : Network Expression) (j : ℕ) (f : Network Expression) → member fs j ≡ Some f
    → child (rp_switch fs m t) j ≡ Some (a_network f)
child_in_collection fs m t j f h = ap (λ o. collection_child o fs m t j) (member_is fs j f h) ∙ ap (option_map a_network) h

pub choice_is_child : (fs : Networks Expression) (m : Expression) (t : Network Expression) → child (rp_switch fs m t) (members fs) ≡ Some (a_leaf m)
choice_is_child fs m t = ap (λ o. collection_child o fs m t (members fs)) (event_is fs)

pub started_is_child : (fs : Networks Expression) (m : Expression) (t : Network Expression) → child (rp_switch fs m t) (suc (members fs)) ≡ Some (a_network t)
started_is_child fs m t = ap (λ o. collection_child o fs m t (suc (members fs))) (continuation_is fs)

first_member : (f : Network Expression) (fs : Networks Expression) (at : List ℕ) (k : ℕ) (n : Need) → Stands f (at ++ k ∷ []) n
    → StandsIn (and_member f fs) at k n
first_member f fs at k n s = record { number = 0; its = f; there = refl; stands = subst (λ o. Stands f (at ++ o ∷ []) n) (omega arith) s }

further_member : (f : Network Expression) (fs : Networks Expression) (at : List ℕ) (k : ℕ) (n : Need) → StandsIn fs at (suc k) n
    → StandsIn (and_member f fs) at k n
further_member f fs at k n s = record {
  number = suc s.number;
  its = s.its;
  there = s.there;
  stands = subst (λ o. Stands s.its (at ++ o ∷ []) n) (omega arith) s.stands;
}

behind_one : (j : ℕ) → 1 + j ≡ suc j
behind_one j = omega arith

module _ {T : LeafTyping Expression} {M : TypeTree → Type 0} where
  mutual
    stand : {Ps : List TypeTree} {Os : List Arrow} {net : Network Expression} {A B : TypeTree} (at : List ℕ) (d : Typed T M Ps Os net A B)
        → All (Stands net at) (leaves_by at d)
    stand {net = net} at (arr_typed h) = one net at _ 0 refl refl
    stand {net = net} at (seq_typed {f = f} {g = g} df dg) = two net at 0 1 f g _ _ refl refl (stand (at ++ 0 ∷ []) df) (stand (at ++ 1 ∷ []) dg)
    stand {net = net} at (first_typed {f = f} df m) = up net f at 0 _ refl (stand (at ++ 0 ∷ []) df)
    stand {net = net} at (par_typed {fs = fs} l u ds m) =
        up_members net fs at 0 _ (λ j f h. ap (child (par fs)) (omega arith) ∙ ap (option_map a_network) h) (stand_in at 0 ds)
    stand {net = net} at (loop_typed {f = f} h m df) = fed net f at _ _ refl refl refl (stand (at ++ 1 ∷ []) df)
    stand {net = net} at (i_pre_typed h) = one net at _ 0 refl refl
    stand {net = net} at (delay_typed l u h) = one net at _ 0 refl refl
    stand {net = net} at (hold_typed h) = one net at _ 0 refl refl
    stand {net = net} at (accum_typed h m k n) = All-append (Stands net at) (_ ∷ []) (_ ∷ []) (one net at _ 0 refl refl) (one net at _ 1 refl refl)
    stand {net = net} at (after_typed u h m) = one net at _ 0 refl refl
    stand {net = net} at (repeatedly_typed l u h m) = one net at _ 0 refl refl
    stand {net = net} at time_typed = All-nil (Stands net at)
    stand {net = net} at integral_typed = All-nil (Stands net at)
    stand {net = net} at (switch_typed {f = f} {t = t} df dt) = two net at 0 1 f t _ _ refl refl (stand (at ++ 0 ∷ []) df) (stand (at ++ 1 ∷ []) dt)
    stand {net = net} at (r_switch_typed {f = f} {t = t} df dt) = two net at 0 1 f t _ _ refl refl (stand (at ++ 0 ∷ []) df) (stand (at ++ 1 ∷ []) dt)
    stand {net = net} at (k_switch_typed {f = f} {e = e} {t = t} df m de dt) =
        All-append (Stands net at) _ _ (two net at 0 1 f e _ _ refl refl (stand (at ++ 0 ∷ []) df) (stand (at ++ 1 ∷ []) de))
        (up net t at 2 _ refl (stand (at ++ 2 ∷ []) dt))
    stand {net = net} at (p_switch_typed {Ps = Ps} {r = r} {fs = fs} {e = e} {t = t} {A = A} {D = D} l u m h ds n de dt) =
        let n : Need = need_at at 0 r Ps (pair_ty A int_ty) D in
        let ms : List Need = member_leaves_by at 1 ds in
        let es : List Need = leaves_by (at ++ suc (members fs) ∷ []) de in
        let ts : List Need = leaves_by (at ++ suc (suc (members fs)) ∷ []) dt in
        All-append (Stands net at) (n ∷ ms ++ es) ts (All-append (Stands net at) (n ∷ ms) es (All-append (Stands net at) (n ∷ []) ms (one net at n 0 refl refl)
        (up_members net fs at 1 ms (λ j f is. ap (child (p_switch r fs e t)) (behind_one j) ∙ ap (option_map a_network) (child_is_member fs j f e t is))
        (stand_in at 1 ds)))
        (up net e at (suc (members fs)) es (ap (λ o. option_map a_network (child_network o fs e t (members fs))) (event_is fs))
        (stand (at ++ suc (members fs) ∷ []) de)))
        (up net t at (suc (suc (members fs))) ts (ap (λ o. option_map a_network (child_network o fs e t (suc (members fs)))) (continuation_is fs))
        (stand (at ++ suc (suc (members fs)) ∷ []) dt))
    stand {net = net} at (old_typed o) = All-nil (Stands net at)
    stand {net = net} at (initial_out_typed {f = f} h df) = fed net f at _ _ refl refl refl (stand (at ++ 1 ∷ []) df)
    stand {net = net} at (initial_in_typed {f = f} h df) = fed net f at _ _ refl refl refl (stand (at ++ 1 ∷ []) df)
    stand {net = net} at (rp_switch_typed {Ps = Ps} {fs = fs} {m = m} {t = t} {C = C} {V = V} l u ds h dt n) =
        let n : Need = need_at at (members fs) m Ps C (pair_ty (list_ty int_ty) (list_ty V)) in
        let ms : List Need = member_leaves_by at 0 ds in
        let ts : List Need = leaves_by (at ++ suc (members fs) ∷ []) dt in
        All-append (Stands net at) ms (n ∷ ts)
        (up_members net fs at 0 ms (λ j f is. ap (child (rp_switch fs m t)) (omega arith) ∙ child_in_collection fs m t j f is) (stand_in at 0 ds))
        (All-append (Stands net at) (n ∷ []) ts (one net at n (members fs) refl (choice_is_child fs m t))
        (up net t at (suc (members fs)) ts (started_is_child fs m t) (stand (at ++ suc (members fs) ∷ []) dt)))

    stand_in : {Ps : List TypeTree} {Os : List Arrow} {fs : Networks Expression} {A B : TypeTree} (at : List ℕ) (k : ℕ) (ds : AllTyped T M Ps Os fs A B)
        → All (StandsIn fs at k) (member_leaves_by at k ds)
    stand_in {fs = fs} at k no_members_typed = All-nil (StandsIn fs at k)
    stand_in {fs = fs} at k (and_member_typed {f = f} {fs = gs} d ds) =
        All-append (StandsIn fs at k) _ _ (λ i x lt. first_member f gs at k _ (stand (at ++ k ∷ []) d i x lt))
        (λ i x lt. further_member f gs at k _ (stand_in at (suc k) ds i x lt))

pub stands-at : PositionLaw
stands-at t ns (d, is) = subst (λ o. All (λ n. P.at (a_network t.net) n.position ≡ Some (a_leaf n.key.expr, [])) o) (sym is)
    (λ i x lt. let s = stand [] d i x lt in ap (P.at (a_network t.net)) s.joined ∙ s.leads)
