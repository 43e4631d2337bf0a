-- A part of a typed network: where it stands, its type, and that the network keeps its type where the part is another of that type.
use Rattle.std.proofs.Common.{◌≡◌, ℕ, zero, suc, ◌<◌, List, [], ◌∷◌, ◌++◌, Option, Some, None, IfSome, option_map, refl, sym, ap, subst, ◌∙◌, arith}
use Rattle.std.specs.Result.{result_ok}
use Rattle.sample_core.specs.TypeTree.{TypeTree, unit_ty, int_ty, pair_ty, event_ty, list_ty}
use Rattle.leaf_core.specs.Expression.{Expression}
use Rattle.net_tree.specs.Network.{Network, Networks, par, p_switch, rp_switch, no_members, and_member}
use Rattle.net_meaning.specs.Typing.{Arrow, arrow, copies, members, arr_typed, seq_typed, first_typed, par_typed, loop_typed, i_pre_typed, delay_typed, hold_typed, accum_typed, after_typed, repeatedly_typed, switch_typed, r_switch_typed, k_switch_typed, p_switch_typed, initial_out_typed, initial_in_typed, rp_switch_typed, no_members_typed, and_member_typed}
use Rattle.net_meaning.specs.NetworkLimits.{NetTypedWithin}
use Rattle.net_tree.specs.Place.{Tree, a_network, a_leaf, member, child, child_network, collection_child, PSwitchChild, p_switch_child, member_child, event_child, continuation_child, no_child}
use Rattle.net_syntax.specs.Placed.{with_member, with_child, with_p_switch_child, with_collection_child}
use Rattle.net_syntax.specs.Standing.{Standing, standing, TreeWithin, ChildStands, in_arr, first_in_seq, second_in_seq, in_first, in_par, constant_in_loop, network_in_loop, in_i_pre, in_delay, in_hold, step_in_accum, start_in_accum, in_after, in_repeatedly, network_in_switch, continuation_in_switch, network_in_r_switch, continuation_in_r_switch, network_in_k_switch, event_in_k_switch, continuation_in_k_switch, route_in_p_switch, member_in_p_switch, event_in_p_switch, continuation_in_p_switch, constant_in_initial_out, network_in_initial_out, constant_in_initial_in, network_in_initial_in, member_in_rp_switch, choice_in_rp_switch, continuation_in_rp_switch}
use Rattle.net_syntax.specs.StandingWalk.{inside}
use Rattle.net_syntax.proofs.FoundTypes.{MembersWithin, ChildThere, child_there, forget, forget_all}
use Rattle.net_syntax.proofs.OnePlace.{populated, one_place}
use Rattle.net_syntax.proofs.SamePlaces.{Filler, filled}
use Rattle.net_types.specs.KeptTypes.{checked_output}
use Rattle.net_types.proofs.Checks.{walk_exact}

-- the type that the check gives
pub output_found : {Ps : List TypeTree} {Os : List Arrow} {f : Network Expression} {A B : TypeTree} → NetTypedWithin Ps Os f A B → checked_output (standing Ps Os A) f ≡ Some B
output_found {Ps = Ps} {Os = Os} {f = f} {A = A} {B = B} d = ap result_ok ((walk_exact [] Ps Os A f B).1 d)

-- a part of a typed network
pub record Hole (Ps : List TypeTree) (Os : List Arrow) (A B : TypeTree) (net : Network Expression) (k : ℕ) (c : Tree Expression) : Type 0 where
  pub place : Standing
  pub stands : ChildStands Ps Os A net k place
  pub out : TypeTree
  pub typed : TreeWithin place c out
  pub put : (n : Filler c) → TreeWithin place (filled c n) out → IfSome (with_child net k (filled c n)) (λ v. NetTypedWithin Ps Os v A B)

-- a member
abbrev MemberHole : List TypeTree → List Arrow → TypeTree → TypeTree → Networks Expression → ℕ → Network Expression → Type 0
MemberHole Ps Os A B fs k f =
    NetTypedWithin Ps Os f A B
    × ((n : Network Expression) → NetTypedWithin Ps Os n A B
    → IfSome (with_member fs k n) (λ gs. MembersWithin Ps Os gs A B × (members gs ≡ members fs)))

member_hole : {Ps : List TypeTree} {Os : List Arrow} {fs : Networks Expression} {A B : TypeTree}
    → MembersWithin Ps Os fs A B → (k : ℕ) → IfSome (member fs k) (MemberHole Ps Os A B fs k)
member_hole no_members_typed k = tt
member_hole (and_member_typed d ds) zero = (d, λ n i. (and_member_typed i ds, refl))
member_hole {Ps = Ps} {Os = Os} {A = A} {B = B} (and_member_typed {f = f} {fs = fs} d ds) (suc k) = go (member fs k) (member_hole ds k)
  where
    put_on : (o : Option (Networks Expression))
        → IfSome o (λ gs. MembersWithin Ps Os gs A B × (members gs ≡ members fs))
        → IfSome (option_map (and_member f) o)
        (λ gs. MembersWithin Ps Os gs A B × (members gs ≡ suc (members fs)))
    put_on None h = tt
    put_on (Some gs) h = (and_member_typed d h.0, ap suc h.1)

    go : (o : Option (Network Expression)) → IfSome o (MemberHole Ps Os A B fs k) → IfSome o (MemberHole Ps Os A B (and_member f fs) (suc k))
    go None h = tt
    go (Some g) h = (h.0, λ n i. put_on (with_member fs k n) (h.1 n i))

-- which number a child behind the route has
member_number : (fs : Networks Expression) (k : ℕ) → p_switch_child fs k ≡ member_child → k < members fs
member_number no_members zero e = absurd (cc)
member_number no_members (suc zero) e = absurd (cc)
member_number no_members (suc (suc k)) e = absurd (cc)
member_number (and_member f fs) zero e = omega arith
member_number (and_member f fs) (suc k) e = let l : k < members fs = member_number fs k e in omega arith

event_number : (fs : Networks Expression) (k : ℕ) → p_switch_child fs k ≡ event_child → members fs ≡ k
event_number no_members zero e = refl
event_number no_members (suc zero) e = absurd (cc)
event_number no_members (suc (suc k)) e = absurd (cc)
event_number (and_member f fs) zero e = absurd (cc)
event_number (and_member f fs) (suc k) e = ap suc (event_number fs k e)

continuation_number : (fs : Networks Expression) (k : ℕ) → p_switch_child fs k ≡ continuation_child → suc (members fs) ≡ k
continuation_number no_members zero e = absurd (cc)
continuation_number no_members (suc zero) e = refl
continuation_number no_members (suc (suc k)) e = absurd (cc)
continuation_number (and_member f fs) zero e = absurd (cc)
continuation_number (and_member f fs) (suc k) e = ap suc (continuation_number fs k e)

pub hole : {Ps : List TypeTree} {Os : List Arrow} {net : Network Expression} {A B : TypeTree} → NetTypedWithin Ps Os net A B → (k : ℕ)
    → IfSome (child net k) (Hole Ps Os A B net k)
hole {Ps = Ps} {Os = Os} {A = A} {B = B} (arr_typed h) zero = record { place = standing Ps Os A; stands = in_arr; out = B; typed = h; put = λ n i. arr_typed i }
hole {Ps = Ps} {Os = Os} {A = A} (seq_typed {B = B} d k) zero = record { place = standing Ps Os A; stands = first_in_seq; out = B; typed = d; put = λ n i. seq_typed i k }
hole {Ps = Ps} {Os = Os} {B = D} (seq_typed {B = B} d k) (suc zero) = record {
  place = standing Ps Os B;
  stands = second_in_seq (forget d);
  out = D;
  typed = k;
  put = λ n i. seq_typed d i;
}
hole {Ps = Ps} {Os = Os} (first_typed {A = A} {B = B} d w) zero = record {
  place = standing Ps Os A;
  stands = in_first;
  out = B;
  typed = d;
  put = λ n i. first_typed i w;
}
hole {Ps = Ps} {Os = Os} {A = A} {B = D} (par_typed {fs = fs} {B = B} some few ds w) k = go (member fs k) (member_hole ds k)
  where
    put_on : (o : Option (Networks Expression))
        → IfSome o (λ gs. MembersWithin Ps Os gs A B × (members gs ≡ members fs))
        → IfSome (option_map par o) (λ v. NetTypedWithin Ps Os v A (list_ty B))
    put_on None h = tt
    put_on (Some gs) h = let e : members gs ≡ members fs = h.1 in par_typed (omega arith) (omega arith) h.0 w

    go : (o : Option (Network Expression)) → IfSome o (MemberHole Ps Os A B fs k) → IfSome (option_map a_network o) (Hole Ps Os A (list_ty B) (par fs) k)
    go None h = tt
    go (Some g) h = record { place = standing Ps Os A; stands = in_par; out = B; typed = h.0; put = λ n i. put_on (with_member fs k n) (h.1 n i) }
hole {Ps = Ps} {Os = Os} (loop_typed {C = C} h w d) zero = record {
  place = standing Ps Os unit_ty;
  stands = constant_in_loop;
  out = C;
  typed = h;
  put = λ n i. loop_typed i w d;
}
hole {Ps = Ps} {Os = Os} (loop_typed {A = A} {B = B} {C = C} h w d) (suc zero) = record {
  place = standing Ps Os (pair_ty A C);
  stands = network_in_loop h.checked.given;
  out = pair_ty B C;
  typed = d;
  put = λ n i. loop_typed h w i;
}
hole {Ps = Ps} {Os = Os} (i_pre_typed {A = A} h) zero = record { place = standing Ps Os unit_ty; stands = in_i_pre; out = A; typed = h; put = λ n i. i_pre_typed i }
hole {Ps = Ps} {Os = Os} (delay_typed {A = A} low high h) zero = record { place = standing Ps Os unit_ty; stands = in_delay; out = A; typed = h; put = λ n i. delay_typed low high i }
hole {Ps = Ps} {Os = Os} (hold_typed {A = A} h) zero = record { place = standing Ps Os unit_ty; stands = in_hold; out = A; typed = h; put = λ n i. hold_typed i }
hole {Ps = Ps} {Os = Os} (accum_typed {V = V} {Z = Z} h w k v) zero = record {
  place = standing Ps Os (pair_ty Z V);
  stands = step_in_accum h.checked.given;
  out = Z;
  typed = k;
  put = λ n i. accum_typed h w i v;
}
hole {Ps = Ps} {Os = Os} (accum_typed {V = V} {Z = Z} h w k v) (suc zero) = record {
  place = standing Ps Os unit_ty;
  stands = start_in_accum;
  out = Z;
  typed = h;
  put = λ n i. accum_typed i w k v;
}
hole {Ps = Ps} {Os = Os} (after_typed {C = C} high h w) zero = record {
  place = standing Ps Os unit_ty;
  stands = in_after;
  out = C;
  typed = h;
  put = λ n i. after_typed high i w;
}
hole {Ps = Ps} {Os = Os} (repeatedly_typed {C = C} low high h w) zero = record {
  place = standing Ps Os unit_ty;
  stands = in_repeatedly;
  out = C;
  typed = h;
  put = λ n i. repeatedly_typed low high i w;
}
hole {Ps = Ps} {Os = Os} (switch_typed {A = A} {B = B} {C = C} d k) zero = record {
  place = standing Ps Os A;
  stands = network_in_switch;
  out = pair_ty B (event_ty C);
  typed = d;
  put = λ n i. switch_typed i k;
}
hole {Ps = Ps} {Os = Os} (switch_typed {A = A} {B = B} {C = C} d k) (suc zero) = record {
  place = standing (Ps ++ C ∷ []) Os A;
  stands = continuation_in_switch (forget d);
  out = B;
  typed = k;
  put = λ n i. switch_typed d i;
}
hole {Ps = Ps} {Os = Os} (r_switch_typed {D = D} {B = B} {C = C} d k) zero = record {
  place = standing Ps Os D;
  stands = network_in_r_switch;
  out = B;
  typed = d;
  put = λ n i. r_switch_typed i k;
}
hole {Ps = Ps} {Os = Os} (r_switch_typed {D = D} {B = B} {C = C} d k) (suc zero) = record {
  place = standing (Ps ++ C ∷ []) Os D;
  stands = continuation_in_r_switch;
  out = B;
  typed = k;
  put = λ n i. r_switch_typed d i;
}
hole {Ps = Ps} {Os = Os} (k_switch_typed {A = A} {B = B} {C = C} d w e k) zero = record {
  place = standing Ps Os A;
  stands = network_in_k_switch;
  out = B;
  typed = d;
  put = λ n i. k_switch_typed i w e k;
}
hole {Ps = Ps} {Os = Os} (k_switch_typed {A = A} {B = B} {C = C} d w e k) (suc zero) = record {
  place = standing Ps Os (pair_ty A B);
  stands = event_in_k_switch (forget d);
  out = event_ty C;
  typed = e;
  put = λ n i. k_switch_typed d w i k;
}
hole {Ps = Ps} {Os = Os} (k_switch_typed {A = A} {B = B} {C = C} d w e k) (suc (suc zero)) = record {
  place = standing (Ps ++ C ∷ []) (Os ++ arrow A B ∷ []) A;
  stands = continuation_in_k_switch (forget d) (forget e);
  out = B;
  typed = k;
  put = λ n i. k_switch_typed d w e i;
}
hole {Ps = Ps} {Os = Os} (p_switch_typed {A = A} {D = D} some few w h ds v e k) zero = record {
  place = standing Ps Os (pair_ty A int_ty);
  stands = route_in_p_switch;
  out = D;
  typed = h;
  put = λ n i. p_switch_typed some few w i ds v e k;
}
hole {Ps = Ps} {Os = Os} (p_switch_typed {r = r} {fs = fs} {e = e} {t = t} {A = A} {B = B} {C = C} {D = D} some few w h ds v de dt) (suc k) = go (p_switch_child fs k) refl
  where
    put_on : (o : Option (Networks Expression))
        → IfSome o (λ gs. MembersWithin Ps Os gs D B × (members gs ≡ members fs))
        → IfSome (option_map (λ gs. p_switch r gs e t) o) (λ u. NetTypedWithin Ps Os u A (list_ty B))
    put_on None i = tt
    put_on (Some gs) i =
        let j : members gs ≡ members fs = i.1 in
        p_switch_typed (omega arith) (omega arith) w h i.0 v de
        (subst (λ m. NetTypedWithin (Ps ++ C ∷ []) (Os ++ copies m (arrow D B)) t A (list_ty B)) (sym j) dt)

    put_at : (W : PSwitchChild) → p_switch_child fs k ≡ W → (n : Network Expression)
        → IfSome (with_p_switch_child W r fs e t k n) (λ u. NetTypedWithin Ps Os u A (list_ty B))
        → IfSome (with_child (p_switch r fs e t) (suc k) (a_network n)) (λ u. NetTypedWithin Ps Os u A (list_ty B))
    put_at W j n i = subst (λ z. IfSome (with_p_switch_child z r fs e t k n) (λ u. NetTypedWithin Ps Os u A (list_ty B))) (sym j) i

    a_member : p_switch_child fs k ≡ member_child → (o : Option (Network Expression)) → IfSome o (MemberHole Ps Os D B fs k)
        → IfSome (option_map a_network o) (Hole Ps Os A (list_ty B) (p_switch r fs e t) (suc k))
    a_member j None i = tt
    a_member j (Some g) i = record {
      place = standing Ps Os D;
      stands = member_in_p_switch h.checked.given (member_number fs k j);
      out = B;
      typed = i.0;
      put = λ n x. put_at member_child j n (put_on (with_member fs k n) (i.1 n x));
    }

    go : (W : PSwitchChild) → p_switch_child fs k ≡ W
        → IfSome (option_map a_network (child_network W fs e t k)) (Hole Ps Os A (list_ty B) (p_switch r fs e t) (suc k))
    go member_child j = a_member j (member fs k) (member_hole ds k)
    go event_child j = record {
      place = standing Ps Os (pair_ty A (list_ty B));
      stands = subst (λ m. ChildStands Ps Os A (p_switch r fs e t) (suc m) (standing Ps Os (pair_ty A (list_ty B)))) (event_number fs k j)
          (event_in_p_switch h.checked.given (forget_all ds));
      out = event_ty C;
      typed = de;
      put = λ n x. put_at event_child j n (p_switch_typed some few w h ds v x dt);
    }
    go continuation_child j = record {
      place = standing (Ps ++ C ∷ []) (Os ++ copies (members fs) (arrow D B)) A;
      stands = subst
          (λ m. ChildStands Ps Os A (p_switch r fs e t) (suc m) (standing (Ps ++ C ∷ []) (Os ++ copies (members fs) (arrow D B)) A))
          (continuation_number fs k j) (continuation_in_p_switch h.checked.given (forget_all ds) (forget de));
      out = list_ty B;
      typed = dt;
      put = λ n x. put_at continuation_child j n (p_switch_typed some few w h ds v de x);
    }
    go no_child j = tt
hole {Ps = Ps} {Os = Os} (initial_out_typed {B = B} h d) zero = record {
  place = standing Ps Os unit_ty;
  stands = constant_in_initial_out;
  out = B;
  typed = h;
  put = λ n i. initial_out_typed i d;
}
hole {Ps = Ps} {Os = Os} (initial_out_typed {A = A} {B = B} h d) (suc zero) = record {
  place = standing Ps Os A;
  stands = network_in_initial_out;
  out = B;
  typed = d;
  put = λ n i. initial_out_typed h i;
}
hole {Ps = Ps} {Os = Os} (initial_in_typed {A = A} h d) zero = record {
  place = standing Ps Os unit_ty;
  stands = constant_in_initial_in;
  out = A;
  typed = h;
  put = λ n i. initial_in_typed i d;
}
hole {Ps = Ps} {Os = Os} (initial_in_typed {A = A} {B = B} h d) (suc zero) = record {
  place = standing Ps Os A;
  stands = network_in_initial_in;
  out = B;
  typed = d;
  put = λ n i. initial_in_typed h i;
}
hole {Ps = Ps} {Os = Os} (rp_switch_typed {fs = fs} {m = m} {t = t} {D = D} {B = B} {C = C} {V = V} some few ds h dt w) k = go (p_switch_child fs k) refl
  where
    Whole : Network Expression → Type 0
    Whole u = NetTypedWithin Ps Os u (pair_ty D (event_ty C)) (list_ty B)

    put_on : (o : Option (Networks Expression))
        → IfSome o (λ gs. MembersWithin Ps Os gs D B × (members gs ≡ members fs))
        → IfSome (option_map (λ gs. rp_switch gs m t) o) Whole
    put_on None i = tt
    put_on (Some gs) i = let j : members gs ≡ members fs = i.1 in rp_switch_typed (omega arith) (omega arith) i.0 h dt w

    put_at : (W : PSwitchChild) → p_switch_child fs k ≡ W → (s : Tree Expression)
        → IfSome (with_collection_child W fs m t k s) Whole → IfSome (with_child (rp_switch fs m t) k s) Whole
    put_at W j s i = subst (λ z. IfSome (with_collection_child z fs m t k s) Whole) (sym j) i

    a_member : p_switch_child fs k ≡ member_child → (o : Option (Network Expression)) → IfSome o (MemberHole Ps Os D B fs k)
        → IfSome (option_map a_network o) (Hole Ps Os (pair_ty D (event_ty C)) (list_ty B) (rp_switch fs m t) k)
    a_member j None i = tt
    a_member j (Some g) i = record {
      place = standing Ps Os D;
      stands = member_in_rp_switch (member_number fs k j);
      out = B;
      typed = i.0;
      put = λ n x. put_at member_child j (a_network n) (put_on (with_member fs k n) (i.1 n x));
    }

    go : (W : PSwitchChild) → p_switch_child fs k ≡ W
        → IfSome (collection_child W fs m t k) (Hole Ps Os (pair_ty D (event_ty C)) (list_ty B) (rp_switch fs m t) k)
    go member_child j = a_member j (member fs k) (member_hole ds k)
    go event_child j = record {
      place = standing Ps Os C;
      stands = subst (λ n. ChildStands Ps Os (pair_ty D (event_ty C)) (rp_switch fs m t) n (standing Ps Os C)) (event_number fs k j) choice_in_rp_switch;
      out = pair_ty (list_ty int_ty) (list_ty V);
      typed = h;
      put = λ n x. put_at event_child j (a_leaf n) (rp_switch_typed some few ds x dt w);
    }
    go continuation_child j = record {
      place = standing (Ps ++ V ∷ []) Os D;
      stands = subst
          (λ n. ChildStands Ps Os (pair_ty D (event_ty C)) (rp_switch fs m t) n (standing (Ps ++ V ∷ []) Os D))
          (continuation_number fs k j) (continuation_in_rp_switch h.checked.given);
      out = B;
      typed = dt;
      put = λ n x. put_at continuation_child j (a_network n) (rp_switch_typed some few ds h x w);
    }
    go no_child j = tt
hole _ k = tt

-- where a child stands, the code finds it
pub found_there : {Ps : List TypeTree} {Os : List Arrow} {net : Network Expression} {A B : TypeTree} {k : ℕ} {c : Tree Expression} {R : Standing}
    → NetTypedWithin Ps Os net A B → child net k ≡ Some c → ChildStands Ps Os A net k R → inside (standing Ps Os A) net k ≡ Some R
found_there {Ps = Ps} {Os = Os} {net = net} {A = A} {k = k} d i s =
    let t : ChildThere (standing Ps Os A) net k _ = subst (λ o. IfSome o (ChildThere (standing Ps Os A) net k)) i (child_there d k) in
    t.found ∙ ap Some (one_place (populated d) t.stands s refl)
