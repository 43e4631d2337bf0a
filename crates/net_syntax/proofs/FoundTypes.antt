-- The types that are found on the way to a position in a typed network are those that stand there.
use Rattle.std.proofs.Common.{◌≡◌, ℕ, zero, suc, ◌+◌, ◌≤◌, ◌<◌, List, [], ◌∷◌, ◌++◌, Option, Some, None, IfSome, option_map, refl, sym, ap, ◌∙◌, subst, arith}
use Rattle.std.specs.Option.{MatchOption}
use Rattle.std.specs.Result.{result_ok}
use Rattle.sample_core.specs.TypeTree.{TypeTree, unit_ty, int_ty, pair_ty, event_ty, list_ty}
use Rattle.leaf_core.specs.Expression.{Expression}
use Rattle.leaf_core.specs.declared.expr.Expr.{Expr}
use Rattle.leaf_core.specs.TypeLimits.{TypeFits}
use Rattle.leaf_core.specs.ExpressionLimits.{ExpressionTypedWithin}
use Rattle.leaf_core.specs.Parts.{part_at}
use Rattle.leaf_core.proofs.Exactness.{type_answer-exact}
use Rattle.leaf_core.proofs.PartTypes.{TypedThere, there_typed, nothing_there}
use Rattle.net_tree.specs.Network.{Network, Networks, seq, par, loop_pre, accum_by, switch, k_switch, p_switch, rp_switch, no_members, and_member}
use Rattle.net_tree.specs.NetworkView.{tree_of}
use Rattle.net_tree.specs.declared.net.Net.{Net}
use Rattle.net_meaning.specs.Typing.{Arrow, arrow, copies, members, OldAt, old_here, old_after, AllTyped, arr_typed, seq_typed, first_typed, par_typed, loop_typed, i_pre_typed, delay_typed, hold_typed, accum_typed, after_typed, repeatedly_typed, time_typed, integral_typed, switch_typed, r_switch_typed, k_switch_typed, p_switch_typed, old_typed, initial_out_typed, initial_in_typed, rp_switch_typed, no_members_typed, and_member_typed}
use Rattle.net_meaning.specs.TypedNetwork.{TypedNetwork, NetTyped}
use Rattle.net_meaning.specs.NetworkLimits.{NetTypedWithin, WithinLimits}
use Rattle.net_tree.specs.Place.{◌>>=◌, Tree, a_network, a_leaf, member, child, child_network, collection_child, PSwitchChild, p_switch_child, member_child, event_child, continuation_child, no_child}
use Rattle.net_syntax.specs.Placed.{placed, placed_at, bound_in}
use Rattle.net_syntax.specs.Standing.{Standing, standing, alone, TreeWithin, MembersTyped, ChildStands, ChildFound, in_arr, first_in_seq, second_in_seq, in_first, in_par, constant_in_loop, network_in_loop, in_i_pre, in_delay, in_hold, step_in_accum, start_in_accum, in_after, in_repeatedly, network_in_switch, continuation_in_switch, network_in_r_switch, continuation_in_r_switch, network_in_k_switch, event_in_k_switch, continuation_in_k_switch, route_in_p_switch, member_in_p_switch, event_in_p_switch, continuation_in_p_switch, constant_in_initial_out, network_in_initial_out, constant_in_initial_in, network_in_initial_in, member_in_rp_switch, choice_in_rp_switch, continuation_in_rp_switch, at_network, inside_network, inside_expression, TypeAt}
use Rattle.net_syntax.specs.StandingWalk.{taking, under, freezing, left_of, carried_of, right_carried_of, right_listed_of, old_output, leaf_type, output_in, first_output, routed, p_switch_input, collection_input, child_input, frozen, p_switch_scope, collection_scope, child_scope, inside, type_walk_at}
use Rattle.net_meaning.proofs.TypingMap.{map_typed, map_all_typed}

-- where there is something, the next step is taken
pub onward : {X Y : Type 0} {o : Option X} {x : X} {r : Option Y} (k : X → Option Y) → o ≡ Some x → k x ≡ r → (o >>= k) ≡ r
onward k is js = ap (λ o. o >>= k) is ∙ js

leaf_found : (S : Standing) (A : TypeTree) (e : Expression) (B : TypeTree) → ExpressionTypedWithin e S.params A B → leaf_type S A e ≡ Some B
leaf_found S A e B h = ap result_ok ((type_answer-exact S.params A e B).1 h)

pub old_found : (Os : List Arrow) (k : ℕ) (A B : TypeTree) → OldAt Os k (arrow A B) → old_output Os k ≡ Some B
old_found Os k A B old_here = refl
old_found Os k A B (old_after o) = old_found _ _ A B o

-- all members have these types within the limits
abbrev pub MembersWithin : List TypeTree → List Arrow → Networks Expression → TypeTree → TypeTree → Type 0
MembersWithin = AllTyped (λ e Ps A B. ExpressionTypedWithin e Ps A B) TypeFits

-- the output type of a typed network is found
mutual
  output_found : {Ps : List TypeTree} {Os : List Arrow} {f : Network Expression} {A B : TypeTree} → NetTypedWithin Ps Os f A B
      → output_in (standing Ps Os A) f ≡ Some B
  output_found (arr_typed {Ps = Ps} {Os = Os} {e = e} {A = A} {B = B} h) = leaf_found (standing Ps Os A) A e B h
  output_found (seq_typed {Ps = Ps} {Os = Os} {g = g} f h) = onward (λ X. output_in (standing Ps Os X) g) (output_found f) (output_found h)
  output_found (first_typed {C = C} f m) = ap (option_map (λ X. pair_ty X C)) (output_found f)
  output_found (par_typed l u fs m) = ap (option_map list_ty) (first_found l fs)
  output_found (loop_typed {Ps = Ps} {Os = Os} {c = c} {f = f} {A = A} {C = C} h m d) =
      onward (λ X. output_in (standing Ps Os (pair_ty A X)) f >>= left_of) (leaf_found (standing Ps Os A) unit_ty c C h) (onward left_of (output_found d) refl)
  output_found (i_pre_typed h) = refl
  output_found (delay_typed l u h) = refl
  output_found (hold_typed h) = refl
  output_found (accum_typed {Ps = Ps} {Os = Os} {z = z} {V = V} {Z = Z} h m k n) = ap (option_map event_ty) (leaf_found (standing Ps Os (event_ty V)) unit_ty z Z h)
  output_found (after_typed {Ps = Ps} {Os = Os} {c = c} {A = A} {C = C} u h m) = ap (option_map event_ty) (leaf_found (standing Ps Os A) unit_ty c C h)
  output_found (repeatedly_typed {Ps = Ps} {Os = Os} {c = c} {A = A} {C = C} l u h m) = ap (option_map event_ty) (leaf_found (standing Ps Os A) unit_ty c C h)
  output_found time_typed = refl
  output_found integral_typed = refl
  output_found (switch_typed f t) = onward left_of (output_found f) refl
  output_found (r_switch_typed f t) = output_found f
  output_found (k_switch_typed f m e t) = output_found f
  output_found (p_switch_typed {Ps = Ps} {Os = Os} {r = r} {fs = gs} {A = A} {D = D} l u m h fs n e t) =
      onward (λ X. option_map list_ty (first_output (standing Ps Os X) gs)) (leaf_found (standing Ps Os A) (pair_ty A int_ty) r D h)
      (ap (option_map list_ty) (first_found l fs))
  output_found (old_typed {Os = Os} {k = k} {A = A} {B = B} o) = old_found Os k A B o
  output_found (initial_out_typed h f) = output_found f
  output_found (initial_in_typed h f) = output_found f
  output_found (rp_switch_typed l u fs h t m) = ap (option_map list_ty) (first_found l fs)

  first_found : {Ps : List TypeTree} {Os : List Arrow} {fs : Networks Expression} {A B : TypeTree} → 1 ≤ members fs → MembersWithin Ps Os fs A B
      → first_output (standing Ps Os A) fs ≡ Some B
  first_found l no_members_typed = absurd (omega (arith, l))
  first_found l (and_member_typed f fs) = output_found f

-- without its limits
pub forget : {Ps : List TypeTree} {Os : List Arrow} {f : Network Expression} {A B : TypeTree} → NetTypedWithin Ps Os f A B → NetTyped Ps Os f A B
forget d = map_typed (λ e Ps A B h. h.checked.given) (λ A m. tt) d

pub forget_all : {Ps : List TypeTree} {Os : List Arrow} {fs : Networks Expression} {A B : TypeTree} → MembersWithin Ps Os fs A B → MembersTyped Ps Os fs A B
forget_all ds = map_all_typed (λ e Ps A B h. h.checked.given) (λ A m. tt) ds

-- child c of a network at k: where it stands, as it is found, and its type
pub record ChildThere (S : Standing) (f : Network Expression) (k : ℕ) (c : Tree Expression) : Type 0 where
  pub place : Standing
  pub stands : ChildStands S.params S.olds S.input f k place
  pub found : inside S f k ≡ Some place
  pub output : TypeTree
  pub typed : TreeWithin place c output

there : {S R : Standing} {f : Network Expression} {k : ℕ} {c : Tree Expression} (B : TypeTree) → ChildStands S.params S.olds S.input f k R → inside S f k ≡ Some R
    → TreeWithin R c B → ChildThere S f k c
there {R = R} B s i d = record { place = R; stands = s; found = i; output = B; typed = d }

-- where a child stands, from what it gets and what it has in scope
stands_in : (S Q : Standing) (f : Network Expression) (k : ℕ) (X : TypeTree) → child_input S f k ≡ Some X → child_scope S f k ≡ Some Q → inside S f k ≡ Some (taking Q X)
stands_in S Q f k X i j = ap (λ o. o >>= (λ Y. option_map (λ R. taking R Y) (child_scope S f k))) i ∙ ap (option_map (λ R. taking R X)) j

member_within : {Ps : List TypeTree} {Os : List Arrow} {fs : Networks Expression} {A B : TypeTree} → MembersWithin Ps Os fs A B → (k : ℕ)
    → IfSome (member fs k) (λ f. NetTypedWithin Ps Os f A B)
member_within no_members_typed k = tt
member_within (and_member_typed f fs) zero = f
member_within (and_member_typed f fs) (suc k) = member_within fs k

-- what a continuation has in scope behind n frozen networks
frozen_found : {Ps : List TypeTree} {Os : List Arrow} {e : Network Expression} {A B C : TypeTree} (n : ℕ) (o : Arrow)
    → NetTypedWithin Ps Os e (pair_ty A B) (event_ty C) → frozen (standing Ps Os A) n B e o ≡ Some (standing (Ps ++ C ∷ []) (Os ++ copies n o) A)
frozen_found {Ps = Ps} {Os = Os} {A = A} n o d = ap (option_map (freezing (standing Ps Os A) n o)) (onward carried_of (output_found d) refl)

-- what stands at a number behind a route, or in an rpSwitchB
data Numbered : Networks Expression → ℕ → Type 0 where
  is_member : {fs : Networks Expression} {k : ℕ} → k < members fs → p_switch_child fs k ≡ member_child → Numbered fs k
  is_event : {fs : Networks Expression} → p_switch_child fs (members fs) ≡ event_child → Numbered fs (members fs)
  is_continuation : {fs : Networks Expression} → p_switch_child fs (suc (members fs)) ≡ continuation_child → Numbered fs (suc (members fs))
  is_none : {fs : Networks Expression} {k : ℕ} → p_switch_child fs k ≡ no_child → Numbered fs k

behind_one : (f : Network Expression) (fs : Networks Expression) (k : ℕ) → Numbered fs k → Numbered (and_member f fs) (suc k)
behind_one f fs k (is_member l p) = is_member (omega (arith, l)) p
behind_one f fs k (is_event p) = is_event {fs = and_member f fs} p
behind_one f fs k (is_continuation p) = is_continuation {fs = and_member f fs} p
behind_one f fs k (is_none p) = is_none p

numbered : (fs : Networks Expression) (k : ℕ) → Numbered fs k
numbered no_members zero = is_event {fs = no_members} refl
numbered no_members (suc zero) = is_continuation {fs = no_members} refl
numbered no_members (suc (suc k)) = is_none refl
numbered (and_member f fs) zero = is_member (omega arith) refl
numbered (and_member f fs) (suc k) = behind_one f fs k (numbered fs k)

-- the children of a pSwitch behind its route
module _ {Ps : List TypeTree} {Os : List Arrow} {r : Expression} {fs : Networks Expression} {e t : Network Expression} {A B C D : TypeTree} (some : 1 ≤ members fs)
    (h : ExpressionTypedWithin r Ps (pair_ty A int_ty) D) (ds : MembersWithin Ps Os fs D B) (de : NetTypedWithin Ps Os e (pair_ty A (list_ty B)) (event_ty C))
    (dt : NetTypedWithin (Ps ++ C ∷ []) (Os ++ copies (members fs) (arrow D B)) t A (list_ty B)) where
  abbrev S : Standing
  S = standing Ps Os A

  abbrev whole : Network Expression
  whole = p_switch r fs e t

  routed_found : routed S r fs ≡ Some (arrow D B)
  routed_found = onward (λ X. option_map (arrow X) (first_output (standing Ps Os X) fs)) (leaf_found S (pair_ty A int_ty) r D h)
      (ap (option_map (arrow D)) (first_found some ds))

  member_there : (k : ℕ) → k < members fs → p_switch_child fs k ≡ member_child → IfSome (option_map a_network (member fs k)) (ChildThere S whole (suc k))
  member_there k l p = go (member fs k) (member_within ds k)
    where
      go : (o : Option (Network Expression)) → IfSome o (λ f. NetTypedWithin Ps Os f D B) → IfSome (option_map a_network o) (ChildThere S whole (suc k))
      go None d = tt
      go (Some f) d = there _ (member_in_p_switch h.checked.given l)
          (stands_in S S whole (suc k) D (ap (p_switch_input S r fs) p ∙ leaf_found S (pair_ty A int_ty) r D h) (ap (p_switch_scope S r fs e) p)) d

  event_there : p_switch_child fs (members fs) ≡ event_child → ChildThere S whole (suc (members fs)) (a_network e)
  event_there p = there _ (event_in_p_switch h.checked.given (forget_all ds))
      (stands_in S S whole (suc (members fs)) (pair_ty A (list_ty B))
      (ap (p_switch_input S r fs) p ∙ ap (option_map (λ o. pair_ty A (list_ty o.output))) routed_found) (ap (p_switch_scope S r fs e) p)) de

  continuation_there : p_switch_child fs (suc (members fs)) ≡ continuation_child → ChildThere S whole (suc (suc (members fs))) (a_network t)
  continuation_there p = there _ (continuation_in_p_switch h.checked.given (forget_all ds) (forget de))
      (stands_in S (standing (Ps ++ C ∷ []) (Os ++ copies (members fs) (arrow D B)) A) whole (suc (suc (members fs))) A (ap (p_switch_input S r fs) p)
      (ap (p_switch_scope S r fs e) p
      ∙ onward (λ (q : Arrow × TypeTree). frozen S (members fs) q.1 e q.0) (ap (option_map (λ o. (o, list_ty o.output))) routed_found) (frozen_found (members fs) (arrow D B) de))) dt

  behind_there : (k : ℕ) → IfSome (child whole (suc k)) (ChildThere S whole (suc k))
  behind_there k = go k (numbered fs k)
    where
      seen : (j : ℕ) (c : PSwitchChild) → p_switch_child fs j ≡ c → IfSome (option_map a_network (child_network c fs e t j)) (ChildThere S whole (suc j))
          → IfSome (child whole (suc j)) (ChildThere S whole (suc j))
      seen j c p d = subst (λ z. IfSome (option_map a_network (child_network z fs e t j)) (ChildThere S whole (suc j))) (sym p) d

      go : (j : ℕ) → Numbered fs j → IfSome (child whole (suc j)) (ChildThere S whole (suc j))
      go j (is_member l p) = seen j member_child p (member_there j l p)
      go j (is_event p) = seen (members fs) event_child p (event_there p)
      go j (is_continuation p) = seen (suc (members fs)) continuation_child p (continuation_there p)
      go j (is_none p) = seen j no_child p tt

-- the children of an rpSwitchB
module _ {Ps : List TypeTree} {Os : List Arrow} {fs : Networks Expression} {m : Expression} {t : Network Expression} {D B C V : TypeTree}
    (ds : MembersWithin Ps Os fs D B) (h : ExpressionTypedWithin m Ps C (pair_ty (list_ty int_ty) (list_ty V)))
    (dt : NetTypedWithin (Ps ++ V ∷ []) Os t D B) where
  abbrev at_collection : Standing
  at_collection = standing Ps Os (pair_ty D (event_ty C))

  abbrev collection : Network Expression
  collection = rp_switch fs m t

  abbrev InCollection : ℕ → Option (Tree Expression) → Type 0
  InCollection k o = IfSome o (ChildThere at_collection collection k)

  kept_there : (k : ℕ) → k < members fs → p_switch_child fs k ≡ member_child → InCollection k (option_map a_network (member fs k))
  kept_there k l p = go (member fs k) (member_within ds k)
    where
      go : (o : Option (Network Expression)) → IfSome o (λ f. NetTypedWithin Ps Os f D B) → InCollection k (option_map a_network o)
      go None d = tt
      go (Some f) d = there _ (member_in_rp_switch l)
          (stands_in at_collection at_collection collection k D (ap (collection_input at_collection) p) (ap (collection_scope at_collection m) p)) d

  choice_there : p_switch_child fs (members fs) ≡ event_child → ChildThere at_collection collection (members fs) (a_leaf m)
  choice_there p = there _ choice_in_rp_switch
      (stands_in at_collection at_collection collection (members fs) C (ap (collection_input at_collection) p) (ap (collection_scope at_collection m) p)) h

  started_there : p_switch_child fs (suc (members fs)) ≡ continuation_child → ChildThere at_collection collection (suc (members fs)) (a_network t)
  started_there p = there _ (continuation_in_rp_switch h.checked.given)
      (stands_in at_collection (under at_collection V) collection (suc (members fs)) D (ap (collection_input at_collection) p)
      (ap (collection_scope at_collection m) p ∙ ap (option_map (under at_collection)) (onward right_listed_of (leaf_found at_collection C m _ h) refl))) dt

  pub collection_there : (k : ℕ) → InCollection k (child collection k)
  collection_there k = go k (numbered fs k)
    where
      seen : (j : ℕ) (c : PSwitchChild) → p_switch_child fs j ≡ c → InCollection j (collection_child c fs m t j) → InCollection j (child collection j)
      seen j c p d = subst (λ z. InCollection j (collection_child z fs m t j)) (sym p) d

      go : (j : ℕ) → Numbered fs j → InCollection j (child collection j)
      go j (is_member l p) = seen j member_child p (kept_there j l p)
      go j (is_event p) = seen (members fs) event_child p (choice_there p)
      go j (is_continuation p) = seen (suc (members fs)) continuation_child p (started_there p)
      go j (is_none p) = seen j no_child p tt

-- each child is there
pub child_there : {Ps : List TypeTree} {Os : List Arrow} {f : Network Expression} {A B : TypeTree} → NetTypedWithin Ps Os f A B → (k : ℕ)
    → IfSome (child f k) (ChildThere (standing Ps Os A) f k)
child_there (arr_typed h) zero = there _ in_arr refl h
child_there (seq_typed f g) zero = there _ first_in_seq refl f
child_there (seq_typed {Ps = Ps} {Os = Os} {f = f} {g = g} {A = A} {B = B} df dg) (suc zero) =
    there _ (second_in_seq (forget df)) (stands_in (standing Ps Os A) (standing Ps Os A) (seq f g) 1 B (output_found df) refl) dg
child_there (first_typed f m) zero = there _ in_first refl f
child_there {Ps = Ps} {Os = Os} {A = A} (par_typed {fs = fs} {B = B} l u ds m) k = go (member fs k) (member_within ds k)
  where
    go : (o : Option (Network Expression)) → IfSome o (λ f. NetTypedWithin Ps Os f A B) → IfSome (option_map a_network o) (ChildThere (standing Ps Os A) (par fs) k)
    go None d = tt
    go (Some f) d = there _ in_par refl d
child_there (loop_typed h m f) zero = there _ constant_in_loop refl h
child_there (loop_typed {Ps = Ps} {Os = Os} {c = c} {f = f} {A = A} {C = C} h m d) (suc zero) =
    there _ (network_in_loop h.checked.given)
    (stands_in (standing Ps Os A) (standing Ps Os A) (loop_pre c f) 1 (pair_ty A C) (ap (option_map (pair_ty A)) (leaf_found (standing Ps Os A) unit_ty c C h)) refl) d
child_there (i_pre_typed h) zero = there _ in_i_pre refl h
child_there (delay_typed l u h) zero = there _ in_delay refl h
child_there (hold_typed h) zero = there _ in_hold refl h
child_there (accum_typed {Ps = Ps} {Os = Os} {g = g} {z = z} {V = V} {Z = Z} h m k n) zero =
    there _ (step_in_accum h.checked.given)
    (stands_in (standing Ps Os (event_ty V)) (standing Ps Os (event_ty V)) (accum_by g z) 0 (pair_ty Z V)
    (ap (option_map (λ Y. pair_ty Y V)) (leaf_found (standing Ps Os (event_ty V)) unit_ty z Z h)) refl) k
child_there (accum_typed h m k n) (suc zero) = there _ start_in_accum refl h
child_there (after_typed u h m) zero = there _ in_after refl h
child_there (repeatedly_typed l u h m) zero = there _ in_repeatedly refl h
child_there (switch_typed f t) zero = there _ network_in_switch refl f
child_there (switch_typed {Ps = Ps} {Os = Os} {tm = tm} {f = f} {t = t} {A = A} {C = C} df dt) (suc zero) =
    there _ (continuation_in_switch (forget df))
    (stands_in (standing Ps Os A) (standing (Ps ++ C ∷ []) Os A) (switch tm f t) 1 A refl (ap (option_map (under (standing Ps Os A))) (onward right_carried_of (output_found df) refl))) dt
child_there (r_switch_typed f t) zero = there _ network_in_r_switch refl f
child_there (r_switch_typed f t) (suc zero) = there _ continuation_in_r_switch refl t
child_there (k_switch_typed f m e t) zero = there _ network_in_k_switch refl f
child_there (k_switch_typed {Ps = Ps} {Os = Os} {f = f} {e = e} {t = t} {A = A} {B = B} df m de dt) (suc zero) =
    there _ (event_in_k_switch (forget df))
    (stands_in (standing Ps Os A) (standing Ps Os A) (k_switch f e t) 1 (pair_ty A B) (ap (option_map (pair_ty A)) (output_found df)) refl) de
child_there (k_switch_typed {Ps = Ps} {Os = Os} {f = f} {e = e} {t = t} {A = A} {B = B} {C = C} df m de dt) (suc (suc zero)) =
    there _ (continuation_in_k_switch (forget df) (forget de))
    (stands_in (standing Ps Os A) (standing (Ps ++ C ∷ []) (Os ++ arrow A B ∷ []) A) (k_switch f e t) 2 A refl
    (onward (λ (q : Arrow × TypeTree). frozen (standing Ps Os A) 1 q.1 e q.0) (ap (option_map (λ X. (arrow A X, X))) (output_found df)) (frozen_found 1 (arrow A B) de))) dt
child_there (p_switch_typed l u m h ds n e t) zero = there _ route_in_p_switch refl h
child_there (p_switch_typed l u m h ds n e t) (suc k) = behind_there l h ds e t k
child_there (initial_out_typed h f) zero = there _ constant_in_initial_out refl h
child_there (initial_out_typed h f) (suc zero) = there _ network_in_initial_out refl f
child_there (initial_in_typed h f) zero = there _ constant_in_initial_in refl h
child_there (initial_in_typed h f) (suc zero) = there _ network_in_initial_in refl f
child_there (rp_switch_typed l u ds h t n) k = collection_there ds h t k
child_there _ k = tt

-- so where a child stands is found
pub child_found : (S : Standing) (f : Network Expression) (k : ℕ) (found : Option Standing) → found ≡ inside S f k → ChildFound S f k found
child_found S f k found is B d = go (child f k) (child_there d k)
  where
    go : (o : Option (Tree Expression)) → IfSome o (ChildThere S f k) → IfSome o (λ _. MatchOption found ⊥ (ChildStands S.params S.olds S.input f k))
    go None t = tt
    go (Some c) t = subst (λ z. MatchOption z ⊥ (ChildStands S.params S.olds S.input f k)) (sym t.found ∙ sym is) t.stands

-- what the walk finds at a position is the type of what stands there, and it finds nothing only where nothing stands there
abbrev Finds : Standing → Tree Expression → List ℕ → ℕ → ℕ → Type 0
Finds S u p m n = MatchOption (type_walk_at S u p) (placed_at m n u p ≡ None) (TypeAt S u p)

in_expression : (S : Standing) (e : Expression) (B : TypeTree) (p : List ℕ) (m n : ℕ) → ExpressionTypedWithin e S.params S.input B → Finds S (a_leaf e) p m n
in_expression S e B p m n d = go (part_at e p) refl
  where
    go : (o : Option Expression) → part_at e p ≡ o → Finds S (a_leaf e) p m n
    go None q =
        subst (λ z. MatchOption z (placed_at m n (a_leaf e) p ≡ None) (TypeAt S (a_leaf e) p)) (sym (nothing_there S.params S.input e p q))
        (ap (option_map (λ c. placed m n (a_leaf c))) q)
    go (Some c) q =
        let t : TypedThere S.params S.input e p c = there_typed d.checked.given d.checked.fits p c q in
        subst (λ z. MatchOption z (placed_at m n (a_leaf e) p ≡ None) (TypeAt S (a_leaf e) p)) (sym t.found)
        (record { there = a_leaf c; standing = standing S.params S.olds t.input; stands = inside_expression q t.gets; typed = t.typed })

-- the same inside a network, where its child k is c
abbrev NothingIn : Network Expression → ℕ → List ℕ → ℕ → ℕ → Tree Expression → Type 0
NothingIn f k p m n c = placed_at (m + (bound_in f k).params) (n + (bound_in f k).olds) c p ≡ None

abbrev FindsIn : Standing → Network Expression → ℕ → List ℕ → ℕ → ℕ → Option (Tree Expression) → Type 0
FindsIn S f k p m n o =
    MatchOption (o >>= (λ c. inside S f k >>= (λ R. type_walk_at R c p)))
    ((o >>= (λ c. placed_at (m + (bound_in f k).params) (n + (bound_in f k).olds) c p)) ≡ None) (TypeAt S (a_network f) (k ∷ p))

outward : (S : Standing) (f : Network Expression) (k : ℕ) (p : List ℕ) (c : Tree Expression) (N : Type 0) → child f k ≡ Some c → (t : ChildThere S f k c)
    (o : Option TypeTree) → MatchOption o N (TypeAt t.place c p) → MatchOption o N (TypeAt S (a_network f) (k ∷ p))
outward S f k p c N q t None h = h
outward S f k p c N q t (Some C) h = record { there = h.there; standing = h.standing; stands = inside_network q t.stands h.stands; typed = h.typed }

in_network : (S : Standing) (f : Network Expression) (k : ℕ) (p : List ℕ) (m n : ℕ)
    → ((c : Tree Expression) (t : ChildThere S f k c) → MatchOption (type_walk_at t.place c p) (NothingIn f k p m n c) (TypeAt t.place c p))
    → (o : Option (Tree Expression)) → child f k ≡ o → IfSome o (ChildThere S f k) → FindsIn S f k p m n o
in_network S f k p m n rest None q t = refl
in_network S f k p m n rest (Some c) q t =
    subst (λ z. MatchOption (z >>= (λ R. type_walk_at R c p)) (NothingIn f k p m n c) (TypeAt S (a_network f) (k ∷ p))) (sym t.found)
    (outward S f k p c (NothingIn f k p m n c) q t (type_walk_at t.place c p) (rest c t))

type_found : (p : List ℕ) (S : Standing) (u : Tree Expression) (B : TypeTree) (m n : ℕ) → TreeWithin S u B → Finds S u p m n
type_found p S (a_leaf e) B m n d = in_expression S e B p m n d
type_found [] S (a_network f) B m n d =
    subst (λ z. MatchOption z (placed_at m n (a_network f) [] ≡ None) (TypeAt S (a_network f) [])) (sym (output_found d))
    (record { there = a_network f; standing = S; stands = at_network; typed = forget d })
type_found (k ∷ p) S (a_network f) B m n d =
    in_network S f k p m n (λ c t. type_found p t.place c t.output (m + (bound_in f k).params) (n + (bound_in f k).olds) t.typed) (child f k) refl (child_there d k)

-- the answer of the code
pub type_there : (t : TypedNetwork) (p : List ℕ) (B : TypeTree) → WithinLimits t → type_walk_at (alone t.input) (a_network t.net) p ≡ Some B
    → TypeAt (alone t.input) (a_network t.net) p B
type_there t p B w q =
    subst (λ z. MatchOption z (placed_at 0 0 (a_network t.net) p ≡ None) (TypeAt (alone t.input) (a_network t.net) p)) q
    (type_found p (alone t.input) (a_network t.net) t.output 0 0 w.fits.typed)

pub nothing_stands : (t : TypedNetwork) (p : List ℕ) → WithinLimits t → type_walk_at (alone t.input) (a_network t.net) p ≡ None
    → placed_at 0 0 (a_network t.net) p ≡ None
nothing_stands t p w q =
    subst (λ z. MatchOption z (placed_at 0 0 (a_network t.net) p ≡ None) (TypeAt (alone t.input) (a_network t.net) p)) q
    (type_found p (alone t.input) (a_network t.net) t.output 0 0 w.fits.typed)

-- the walk begins with nothing in scope
pub from_root : (t : TypedNetwork) (S : Standing) (A : TypeTree) (f : Net Expr) (p q : List ℕ) (o : Option TypeTree) → S ≡ alone A → A ≡ t.input
    → tree_of f ≡ t.net → p ≡ q → type_walk_at S (a_network (tree_of f)) p ≡ o → type_walk_at (alone t.input) (a_network t.net) q ≡ o
from_root t S A f p q o a b c d h = sym (λ j. type_walk_at ((a ∙ ap alone b) j) (a_network (c j)) (d j)) ∙ h
