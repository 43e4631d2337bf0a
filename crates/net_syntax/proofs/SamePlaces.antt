-- What stands at a position of a typed tree may be replaced by what has its type there and does the same there.
use Rattle.std.proofs.Common.{◌≡◌, ℕ, zero, suc, ◌<◌, List, [], ◌∷◌, ◌++◌, Option, Some, None, option_map, refl, sym, ap, ◌∙◌, arith, subst}
use Rattle.std.proofs.lemmas.Option.{none-some, same_Some}
use Rattle.sample_core.specs.TypeTree.{TypeTree, unit_ty, int_ty, pair_ty, event_ty, list_ty}
use Rattle.leaf_core.specs.Expression.{Expression}
use Rattle.leaf_core.specs.ExpressionValue.{value_of}
use Rattle.leaf_core.specs.ExpressionTyping.{ExpressionTyped}
use Rattle.leaf_core.specs.SameValue.{SameValue}
use Rattle.leaf_core.specs.Parts.{part_at, with_part_at, InputAt}
use Rattle.leaf_core.proofs.Soundness.{typed_value}
use Rattle.leaf_core.proofs.Uniqueness.{one_type}
use Rattle.leaf_core.proofs.SameParts.{same_part}
use Rattle.net_tree.specs.Network.{Network, Networks, arr, seq, first, par, loop_pre, initial_out, initial_in, i_pre, delay, hold, accum_by, after, repeatedly, switch, r_switch, rp_switch, k_switch, p_switch, no_members, and_member}
use Rattle.net_meaning.specs.Typing.{Arrow, arrow, copies, members, arr_typed, seq_typed, first_typed, par_typed, loop_typed, i_pre_typed, delay_typed, hold_typed, accum_typed, after_typed, repeatedly_typed, time_typed, integral_typed, switch_typed, r_switch_typed, k_switch_typed, p_switch_typed, old_typed, initial_out_typed, initial_in_typed, rp_switch_typed, no_members_typed, and_member_typed}
use Rattle.net_meaning.specs.TypedNetwork.{NetTyped}
use Rattle.net_meaning.specs.Sameness.{SameLeaf, SameNet}
use Rattle.net_meaning.specs.AlikeEnvironments.{SameOutputs}
use Rattle.net_tree.specs.Place as P
use Rattle.net_tree.specs.Place.{Tree, a_network, a_leaf, member, child, child_network, collection_child, p_switch_child, member_child, event_child, continuation_child}
use Rattle.net_syntax.specs.Placed.{with_member, with_child, with_p_switch_child, with_collection_child, replaced}
use Rattle.net_syntax.specs.Standing.{Standing, standing, TreeTyped, MembersTyped, ChildStands, in_arr, first_in_seq, second_in_seq, in_first, in_par, constant_in_loop, network_in_loop, in_i_pre, in_delay, in_hold, step_in_accum, start_in_accum, in_after, in_repeatedly, network_in_switch, continuation_in_switch, network_in_r_switch, continuation_in_r_switch, network_in_k_switch, event_in_k_switch, continuation_in_k_switch, route_in_p_switch, member_in_p_switch, event_in_p_switch, continuation_in_p_switch, constant_in_initial_out, network_in_initial_out, constant_in_initial_in, network_in_initial_in, member_in_rp_switch, choice_in_rp_switch, continuation_in_rp_switch, at_network, inside_network, inside_expression}
use Rattle.net_meaning.specs.Congruence.{TwinLeaf, Twin, TwinMembers, no_twins, and_twins}
use Rattle.net_syntax.specs.SamePlace.{SameInPlace, SamePlaceLaw}
use Rattle.net_syntax.proofs.Children.{event_is, continuation_is}
use Rattle.net_syntax.proofs.Splits.{onward}
use Rattle.net_meaning.proofs.SameNets.{same-arr, same-loop_pre, same-i_pre, same-delay, same-hold, same-accum_by, same-after, same-repeatedly, same-p_switch, same-typed, same-all_typed}
use Rattle.net_meaning.proofs.Congruence.{leaf_same}
use Rattle.net_meaning.proofs.SameForms.{seq_same, first_same, loop_same, switch_same, r_switch_same, k_switch_same, par_same, p_switch_same, initial_out_congruent, initial_in_congruent, collection_congruent}
use Rattle.net_meaning.proofs.Unique.{all_unique}
use Rattle.net_meaning.proofs.StreamLaws.{same-outputs, alike-outputs, one-output-type}

-- what may fill the place of a tree: another of its kind
abbrev pub Filler : Tree Expression → Type 0
Filler (a_network f) = Network Expression
Filler (a_leaf e) = Expression

abbrev pub filled : (c : Tree Expression) → Filler c → Tree Expression
filled (a_network f) n = a_network n
filled (a_leaf e) n = a_leaf n

-- child c of a typed network at k, which stands in R: its type, and what the network becomes with another there
record Hole (Ps : List TypeTree) (Os : List Arrow) (A B : TypeTree) (net : Network Expression) (k : ℕ) (c : Tree Expression) (R : Standing) : Type 0 where
  out : TypeTree
  child_typed : TreeTyped R c out
  whole : Filler c → Network Expression
  whole_is : (n : Filler c) → with_child net k (filled c n) ≡ Some (whole n)
  whole_typed : (n : Filler c) → TreeTyped R (filled c n) out → NetTyped Ps Os (whole n) A B
  whole_same : (n : Filler c) → TreeTyped R (filled c n) out → SameInPlace R c (filled c n) → SameOutputs Ps Os A net (whole n)

-- the same of a member
record MemberHole (Ps : List TypeTree) (Os : List Arrow) (A B : TypeTree) (fs : Networks Expression) (k : ℕ) (f : Network Expression) : Type 0 where
  member_typed : NetTyped Ps Os f A B
  others : Network Expression → Networks Expression
  others_is : (n : Network Expression) → with_member fs k n ≡ Some (others n)
  others_typed : (n : Network Expression) → NetTyped Ps Os n A B → MembersTyped Ps Os (others n) A B
  others_count : (n : Network Expression) → members (others n) ≡ members fs
  others_same : (n : Network Expression) → NetTyped Ps Os n A B → SameOutputs Ps Os A f n → TwinMembers Ps Os A B fs (others n)

twins_of : (Ps : List TypeTree) (Os : List Arrow) (A B : TypeTree) (fs : Networks Expression) → MembersTyped Ps Os fs A B → TwinMembers Ps Os A B fs fs
twins_of Ps Os A B fs no_members_typed = no_twins
twins_of Ps Os A B fs (and_member_typed {f = f} {fs = fs'} df ds) = and_twins df df (alike-outputs Ps Os f A B df) (twins_of Ps Os A B fs' ds)

member_hole : (Ps : List TypeTree) (Os : List Arrow) (A B : TypeTree) (fs : Networks Expression) (k : ℕ) (f : Network Expression) → MembersTyped Ps Os fs A B
    → member fs k ≡ Some f → MemberHole Ps Os A B fs k f
member_hole Ps Os A B fs k f no_members_typed p = absurd (none-some f p)
member_hole Ps Os A B fs zero f (and_member_typed {f = g} {fs = gs} df ds) p =
    subst (MemberHole Ps Os A B fs 0) (same_Some g f p) (record {
      member_typed = df;
      others = λ n. and_member n gs;
      others_is = λ n. refl;
      others_typed = λ n d. and_member_typed d ds;
      others_count = λ n. refl;
      others_same = λ n d s. and_twins df d s (twins_of Ps Os A B gs ds);
    })
member_hole Ps Os A B fs (suc k) f (and_member_typed {f = g} {fs = gs} df ds) p =
    let r : MemberHole Ps Os A B gs k f = member_hole Ps Os A B gs k f ds p in
    record {
      member_typed = r.member_typed;
      others = λ n. and_member g (r.others n);
      others_is = λ n. ap (option_map (and_member g)) (r.others_is n);
      others_typed = λ n d. and_member_typed df (r.others_typed n d);
      others_count = λ n. ap suc (r.others_count n);
      others_same = λ n d s. and_twins df df (alike-outputs Ps Os g A B df) (r.others_same n d s);
    }

-- a network that was found among members
record Found (o : Option (Network Expression)) (c : Tree Expression) : Type 0 where
  found : Network Expression
  found_is : o ≡ Some found
  found_tree : a_network found ≡ c

found_network : (o : Option (Network Expression)) (c : Tree Expression) → option_map a_network o ≡ Some c → Found o c
found_network None c p = absurd (none-some c p)
found_network (Some f) c p = record { found = f; found_is = refl; found_tree = same_Some (a_network f) c p }

-- a number below that of the members is a member's
pub member_below : (fs : Networks Expression) (k : ℕ) → k < members fs → p_switch_child fs k ≡ member_child
member_below no_members k l = absurd (omega arith)
member_below (and_member f fs) zero l = refl
member_below (and_member f fs) (suc k) l = let l' : k < members fs = omega arith in member_below fs k l'

abbrev event_in : TypeTree → TypeTree
event_in (pair_ty A (event_ty B)) = B
event_in (event_ty B) = B
event_in A = A

abbrev started_in : TypeTree → TypeTree
started_in (pair_ty A (list_ty B)) = B
started_in A = A

-- twins, and a part that stays as it is
as_twin_leaf : (Ps : List TypeTree) (A B : TypeTree) (e s : Expression) → ExpressionTyped e Ps A B → ExpressionTyped s Ps A B → SameValue Ps A e s
    → TwinLeaf Ps A B e s
as_twin_leaf Ps A B e s d k q = record { one_typed = d; other_typed = k; same = q }

own_leaf : (Ps : List TypeTree) (A B : TypeTree) (e : Expression) → ExpressionTyped e Ps A B → TwinLeaf Ps A B e e
own_leaf Ps A B e d = as_twin_leaf Ps A B e e d d (λ ps x k j. refl)

as_twin : (Ps : List TypeTree) (Os : List Arrow) (A B : TypeTree) (f g : Network Expression) → NetTyped Ps Os f A B → NetTyped Ps Os g A B
    → SameOutputs Ps Os A f g → Twin Ps Os A B f g
as_twin Ps Os A B f g d k q = record { one_typed = d; other_typed = k; same = q }

own_twin : (Ps : List TypeTree) (Os : List Arrow) (A B : TypeTree) (f : Network Expression) → NetTyped Ps Os f A B → Twin Ps Os A B f f
own_twin Ps Os A B f d = as_twin Ps Os A B f f d d (alike-outputs Ps Os f A B d)

-- what the choice of an `rpSwitchB` outputs: numbers, and values of what it starts
abbrev choice_ty : TypeTree → TypeTree
choice_ty V = pair_ty (list_ty int_ty) (list_ty V)

module _ (Ps : List TypeTree) (Os : List Arrow) where
  -- leaves
  unchanged : (e : Expression) (A B : TypeTree) → ExpressionTyped e Ps A B → SameLeaf value_of Ps A B e e
  unchanged e A B d = leaf_same Ps A B e e d (λ ps x k j. refl)

  own : (f : Network Expression) (A B : TypeTree) → NetTyped Ps Os f A B → SameNet value_of Ps Os A B f f
  own f A B d = same-typed value_of ExpressionTyped typed_value Ps Os f A B d

  alike : (f : Network Expression) (A B : TypeTree) → NetTyped Ps Os f A B → SameOutputs Ps Os A f f
  alike f A B d = alike-outputs Ps Os f A B d

  abbrev HoleAt : TypeTree → TypeTree → Network Expression → ℕ → Tree Expression → Standing → Type 0
  HoleAt A B net k c R = Hole Ps Os A B net k c R

  event_same : (f : Network Expression) (A B B' C C' : TypeTree) → NetTyped Ps Os f A (pair_ty B (event_ty C)) → NetTyped Ps Os f A (pair_ty B' (event_ty C'))
      → C ≡ C'
  event_same f A B B' C C' d d' = ap event_in (one-output-type Ps Os f A (pair_ty B (event_ty C)) (pair_ty B' (event_ty C')) d d')

  hole : (A B : TypeTree) (net : Network Expression) (k : ℕ) (c : Tree Expression) (R : Standing) → NetTyped Ps Os net A B → child net k ≡ Some c
      → ChildStands Ps Os A net k R → Hole Ps Os A B net k c R
  hole A B net k c R (arr_typed {e = e} h) p in_arr =
      subst (λ z. HoleAt A B net 0 z R) (same_Some (a_leaf e) c p)
      (record {
        out = B;
        child_typed = h;
        whole = λ n. arr n;
        whole_is = λ n. refl;
        whole_typed = λ n t. arr_typed t;
        whole_same = λ n t q. same-outputs Ps Os net (arr n) A B (same-arr value_of e n (leaf_same Ps A B e n h q));
      })
  hole A B net k c R (seq_typed {f = f} {g = g} {B = X} df dg) p first_in_seq =
      subst (λ z. HoleAt A B net 0 z R) (same_Some (a_network f) c p)
      (record {
        out = X;
        child_typed = df;
        whole = λ n. seq n g;
        whole_is = λ n. refl;
        whole_typed = λ n t. seq_typed t dg;
        whole_same = λ n t q. seq_same Ps Os A X B f n g g df dg q (alike g X B dg);
      })
  hole A B net k c R (seq_typed {f = f} {g = g} {B = X} df dg) p (second_in_seq {B = Y} kf) =
      subst (λ Z. HoleAt A B net 1 c (standing Ps Os Z)) (one-output-type Ps Os f A X Y df kf)
      (subst (λ z. HoleAt A B net 1 z (standing Ps Os X)) (same_Some (a_network g) c p)
      (record {
        out = B;
        child_typed = dg;
        whole = λ n. seq f n;
        whole_is = λ n. refl;
        whole_typed = λ n t. seq_typed df t;
        whole_same = λ n t q. seq_same Ps Os A X B f f g n df dg (alike f A X df) q;
      }))
  hole A B net k c R (first_typed {f = f} {A = X} {B = Y} {C = Z} df m) p in_first =
      subst (λ z. HoleAt A B net 0 z R) (same_Some (a_network f) c p)
      (record {
        out = Y;
        child_typed = df;
        whole = λ n. first n;
        whole_is = λ n. refl;
        whole_typed = λ n t. first_typed t tt;
        whole_same = λ n t q. first_same Ps Os X Y Z f n df q;
      })
  hole A B net k c R (par_typed {fs = fs} {B = Y} some few ds m) p in_par =
      let o : Found (member fs k) c = found_network (member fs k) c p in
      let r : MemberHole Ps Os A Y fs k o.found = member_hole Ps Os A Y fs k o.found ds o.found_is in
      subst (λ z. HoleAt A B net k z R) o.found_tree
      (record {
        out = Y;
        child_typed = r.member_typed;
        whole = λ n. par (r.others n);
        whole_is = λ n. ap (option_map par) (r.others_is n);
        whole_typed = λ n t. let e : members (r.others n) ≡ members fs = r.others_count n in par_typed (omega arith) (omega arith) (r.others_typed n t) tt;
        whole_same = λ n t q. par_same Ps Os A Y fs (r.others n) (r.others_same n t q);
      })
  hole A B net k c R (loop_typed {c = z} {f = f} {C = C} h m df) p constant_in_loop =
      subst (λ z. HoleAt A B net 0 z R) (same_Some (a_leaf z) c p)
      (record {
        out = C;
        child_typed = h;
        whole = λ n. loop_pre n f;
        whole_is = λ n. refl;
        whole_typed = λ n t. loop_typed t tt df;
        whole_same = λ n t q. same-outputs Ps Os net (loop_pre n f) A B
            (same-loop_pre value_of z n f f (leaf_same Ps unit_ty C z n h q) (own f (pair_ty A C) (pair_ty B C) df));
      })
  hole A B net k c R (loop_typed {c = z} {f = f} {C = C} h m df) p (network_in_loop {C = D} j) =
      subst (λ Z. HoleAt A B net 1 c (standing Ps Os (pair_ty A Z))) (one_type z Ps unit_ty C D h j)
      (subst (λ y. HoleAt A B net 1 y (standing Ps Os (pair_ty A C))) (same_Some (a_network f) c p)
      (record {
        out = pair_ty B C;
        child_typed = df;
        whole = λ n. loop_pre z n;
        whole_is = λ n. refl;
        whole_typed = λ n t. loop_typed h tt t;
        whole_same = λ n t q. loop_same Ps Os A B C z f n h df q;
      }))
  hole A B net k c R (i_pre_typed {c = z} h) p in_i_pre =
      subst (λ z. HoleAt A B net 0 z R) (same_Some (a_leaf z) c p)
      (record {
        out = A;
        child_typed = h;
        whole = λ n. i_pre n;
        whole_is = λ n. refl;
        whole_typed = λ n t. i_pre_typed t;
        whole_same = λ n t q. same-outputs Ps Os net (i_pre n) A B (same-i_pre value_of z n (leaf_same Ps unit_ty A z n h q));
      })
  hole A B net k c R (delay_typed {q = d} {c = z} low high h) p in_delay =
      subst (λ z. HoleAt A B net 0 z R) (same_Some (a_leaf z) c p)
      (record {
        out = A;
        child_typed = h;
        whole = λ n. delay d n;
        whole_is = λ n. refl;
        whole_typed = λ n t. delay_typed low high t;
        whole_same = λ n t q. same-outputs Ps Os net (delay d n) A B (same-delay value_of d z n (leaf_same Ps unit_ty A z n h q));
      })
  hole A B net k c R (hold_typed {c = z} h) p in_hold =
      subst (λ z. HoleAt A B net 0 z R) (same_Some (a_leaf z) c p)
      (record {
        out = B;
        child_typed = h;
        whole = λ n. hold n;
        whole_is = λ n. refl;
        whole_typed = λ n t. hold_typed t;
        whole_same = λ n t q. same-outputs Ps Os net (hold n) A B (same-hold value_of z n (leaf_same Ps unit_ty B z n h q));
      })
  hole A B net k c R (accum_typed {g = g} {z = z} {V = V} {Z = Z} hz m hg n') p (step_in_accum {Z = Y} j) =
      subst (λ X. HoleAt A B net 0 c (standing Ps Os (pair_ty X V))) (one_type z Ps unit_ty Z Y hz j)
      (subst (λ y. HoleAt A B net 0 y (standing Ps Os (pair_ty Z V))) (same_Some (a_leaf g) c p)
      (record {
        out = Z;
        child_typed = hg;
        whole = λ n. accum_by n z;
        whole_is = λ n. refl;
        whole_typed = λ n t. accum_typed hz tt t tt;
        whole_same = λ n t q. same-outputs Ps Os net (accum_by n z) A B
            (same-accum_by value_of g n z z (unchanged z unit_ty Z hz) (leaf_same Ps (pair_ty Z V) Z g n hg q));
      }))
  hole A B net k c R (accum_typed {g = g} {z = z} {V = V} {Z = Z} hz m hg n') p start_in_accum =
      subst (λ y. HoleAt A B net 1 y R) (same_Some (a_leaf z) c p)
      (record {
        out = Z;
        child_typed = hz;
        whole = λ n. accum_by g n;
        whole_is = λ n. refl;
        whole_typed = λ n t. accum_typed t tt hg tt;
        whole_same = λ n t q. same-outputs Ps Os net (accum_by g n) A B
            (same-accum_by value_of g g z n (leaf_same Ps unit_ty Z z n hz q) (unchanged g (pair_ty Z V) Z hg));
      })
  hole A B net k c R (after_typed {q = d} {c = z} {C = C} high h m) p in_after =
      subst (λ y. HoleAt A B net 0 y R) (same_Some (a_leaf z) c p)
      (record {
        out = C;
        child_typed = h;
        whole = λ n. after d n;
        whole_is = λ n. refl;
        whole_typed = λ n t. after_typed high t tt;
        whole_same = λ n t q. same-outputs Ps Os net (after d n) A B (same-after value_of d z n (leaf_same Ps unit_ty C z n h q));
      })
  hole A B net k c R (repeatedly_typed {q = d} {c = z} {C = C} low high h m) p in_repeatedly =
      subst (λ y. HoleAt A B net 0 y R) (same_Some (a_leaf z) c p)
      (record {
        out = C;
        child_typed = h;
        whole = λ n. repeatedly d n;
        whole_is = λ n. refl;
        whole_typed = λ n t. repeatedly_typed low high t tt;
        whole_same = λ n t q. same-outputs Ps Os net (repeatedly d n) A B (same-repeatedly value_of d z n (leaf_same Ps unit_ty C z n h q));
      })
  hole A B net k c R time_typed p i = elim i [ ]
  hole A B net k c R integral_typed p i = elim i [ ]
  hole A B net k c R (old_typed o) p i = elim i [ ]
  hole A B net k c R (switch_typed {tm = tm} {f = f} {t = t} {C = C} df dt) p network_in_switch =
      subst (λ y. HoleAt A B net 0 y R) (same_Some (a_network f) c p)
      (record {
        out = pair_ty B (event_ty C);
        child_typed = df;
        whole = λ n. switch tm n t;
        whole_is = λ n. refl;
        whole_typed = λ n i. switch_typed i dt;
        whole_same = λ n i q. switch_same tm Ps Os A B C f n t t df dt q (alike-outputs (Ps ++ C ∷ []) Os t A B dt);
      })
  hole A B net k c R (switch_typed {tm = tm} {f = f} {t = t} {C = C} df dt) p (continuation_in_switch {B = Y} {C = D} kf) =
      subst (λ Z. HoleAt A B net 1 c (standing (Ps ++ Z ∷ []) Os A)) (event_same f A B Y C D df kf)
      (subst (λ y. HoleAt A B net 1 y (standing (Ps ++ C ∷ []) Os A)) (same_Some (a_network t) c p)
      (record {
        out = B;
        child_typed = dt;
        whole = λ n. switch tm f n;
        whole_is = λ n. refl;
        whole_typed = λ n i. switch_typed df i;
        whole_same = λ n i q. switch_same tm Ps Os A B C f f t n df dt (alike f A (pair_ty B (event_ty C)) df) q;
      }))
  hole A B net k c R (r_switch_typed {tm = tm} {f = f} {t = t} {D = D} {C = C} df dt) p network_in_r_switch =
      subst (λ y. HoleAt A B net 0 y R) (same_Some (a_network f) c p)
      (record {
        out = B;
        child_typed = df;
        whole = λ n. r_switch tm n t;
        whole_is = λ n. refl;
        whole_typed = λ n i. r_switch_typed i dt;
        whole_same = λ n i q. r_switch_same tm Ps Os D B C f n t t df dt q (alike-outputs (Ps ++ C ∷ []) Os t D B dt);
      })
  hole A B net k c R (r_switch_typed {tm = tm} {f = f} {t = t} {D = D} {C = C} df dt) p continuation_in_r_switch =
      subst (λ y. HoleAt A B net 1 y R) (same_Some (a_network t) c p)
      (record {
        out = B;
        child_typed = dt;
        whole = λ n. r_switch tm f n;
        whole_is = λ n. refl;
        whole_typed = λ n i. r_switch_typed df i;
        whole_same = λ n i q. r_switch_same tm Ps Os D B C f f t n df dt (alike f D B df) q;
      })
  hole A B net k c R (k_switch_typed {f = f} {e = e} {t = t} {C = C} df m de dt) p network_in_k_switch =
      subst (λ y. HoleAt A B net 0 y R) (same_Some (a_network f) c p)
      (record {
        out = B;
        child_typed = df;
        whole = λ n. k_switch n e t;
        whole_is = λ n. refl;
        whole_typed = λ n i. k_switch_typed i tt de dt;
        whole_same = λ n i q. k_switch_same Ps Os A B C f n e e t t df i de dt q (alike e (pair_ty A B) (event_ty C) de)
            (alike-outputs (Ps ++ C ∷ []) (Os ++ arrow A B ∷ []) t A B dt);
      })
  hole A B net k c R (k_switch_typed {f = f} {e = e} {t = t} {C = C} df m de dt) p (event_in_k_switch {B = Y} kf) =
      subst (λ Z. HoleAt A B net 1 c (standing Ps Os (pair_ty A Z))) (one-output-type Ps Os f A B Y df kf)
      (subst (λ y. HoleAt A B net 1 y (standing Ps Os (pair_ty A B))) (same_Some (a_network e) c p)
      (record {
        out = event_ty C;
        child_typed = de;
        whole = λ n. k_switch f n t;
        whole_is = λ n. refl;
        whole_typed = λ n i. k_switch_typed df tt i dt;
        whole_same = λ n i q. k_switch_same Ps Os A B C f f e n t t df df de dt (alike f A B df) q
            (alike-outputs (Ps ++ C ∷ []) (Os ++ arrow A B ∷ []) t A B dt);
      }))
  hole A B net k c R (k_switch_typed {f = f} {e = e} {t = t} {C = C} df m de dt) p (continuation_in_k_switch {B = Y} {C = D} kf ke) =
      let out : B ≡ Y = one-output-type Ps Os f A B Y df kf in
      let ke' : NetTyped Ps Os e (pair_ty A B) (event_ty D) = subst (λ Z. NetTyped Ps Os e (pair_ty A Z) (event_ty D)) (sym out) ke in
      subst (λ Z. HoleAt A B net 2 c (standing (Ps ++ D ∷ []) (Os ++ arrow A Z ∷ []) A)) out
      (subst (λ Z. HoleAt A B net 2 c (standing (Ps ++ Z ∷ []) (Os ++ arrow A B ∷ []) A))
      (ap event_in (one-output-type Ps Os e (pair_ty A B) (event_ty C) (event_ty D) de ke'))
      (subst (λ y. HoleAt A B net 2 y (standing (Ps ++ C ∷ []) (Os ++ arrow A B ∷ []) A)) (same_Some (a_network t) c p)
      (record {
        out = B;
        child_typed = dt;
        whole = λ n. k_switch f e n;
        whole_is = λ n. refl;
        whole_typed = λ n i. k_switch_typed df tt de i;
        whole_same = λ n i q. k_switch_same Ps Os A B C f f e e t n df df de dt (alike f A B df) (alike e (pair_ty A B) (event_ty C) de) q;
      })))
  hole A B net k c R (p_switch_typed {r = r} {fs = fs} {e = e} {t = t} {B = X} {C = C} {D = D} some few m h ds n' de dt) p route_in_p_switch =
      subst (λ y. HoleAt A B net 0 y R) (same_Some (a_leaf r) c p)
      (record {
        out = D;
        child_typed = h;
        whole = λ n. p_switch n fs e t;
        whole_is = λ n. refl;
        whole_typed = λ n i. p_switch_typed some few tt i ds tt de dt;
        whole_same = λ n i q. same-outputs Ps Os net (p_switch n fs e t) A B
            (same-p_switch value_of r n fs fs e e t t few (leaf_same Ps (pair_ty A int_ty) D r n h q)
            (same-all_typed value_of ExpressionTyped typed_value Ps Os fs D X ds) (own e (pair_ty A (list_ty X)) (event_ty C) de)
            (same-typed value_of ExpressionTyped typed_value (Ps ++ C ∷ []) (Os ++ copies (members fs) (arrow D X)) t A (list_ty X) dt));
      })
  hole A B net k c R (p_switch_typed {r = r} {fs = fs} {e = e} {t = t} {B = X} {C = C} {D = D} some few m h ds n' de dt) p
      (member_in_p_switch {D = E} {k = j} hr l) =
      let b : p_switch_child fs j ≡ member_child = member_below fs j l in
      let o : Found (member fs j) c = found_network (member fs j) c (ap (λ w. option_map a_network (child_network w fs e t j)) (sym b) ∙ p) in
      let v : MemberHole Ps Os D X fs j o.found = member_hole Ps Os D X fs j o.found ds o.found_is in
      subst (λ Z. HoleAt A B net (suc j) c (standing Ps Os Z)) (one_type r Ps (pair_ty A int_ty) D E h hr)
      (subst (λ y. HoleAt A B net (suc j) y (standing Ps Os D)) o.found_tree
      (record {
        out = X;
        child_typed = v.member_typed;
        whole = λ n. p_switch r (v.others n) e t;
        whole_is = λ n. ap (λ w. with_p_switch_child w r fs e t j n) b ∙ ap (option_map (λ gs. p_switch r gs e t)) (v.others_is n);
        whole_typed = λ n i. let same : members (v.others n) ≡ members fs = v.others_count n in
            p_switch_typed (omega arith) (omega arith) tt h (v.others_typed n i) tt de
            (subst (λ m. NetTyped (Ps ++ C ∷ []) (Os ++ copies m (arrow D X)) t A (list_ty X)) (sym same) dt);
        whole_same = λ n i q. p_switch_same Ps Os A X C D r fs (v.others n) h few (v.others_same n i q) e e t t de dt
            (alike e (pair_ty A (list_ty X)) (event_ty C) de)
            (alike-outputs (Ps ++ C ∷ []) (Os ++ copies (members fs) (arrow D X)) t A (list_ty X) dt);
      }))
  hole A B net k c R (p_switch_typed {r = r} {fs = fs} {e = e} {t = t} {B = X} {C = C} {D = D} some few m h ds n' de dt) p
      (event_in_p_switch {B = Y} {D = E} hr hs) =
      let routed : D ≡ E = one_type r Ps (pair_ty A int_ty) D E h hr in
      let out : X ≡ Y = all_unique ExpressionTyped one_type Ps Os fs D X Y some ds (subst (λ Z. MembersTyped Ps Os fs Z Y) (sym routed) hs) in
      let b : p_switch_child fs (members fs) ≡ event_child = event_is fs in
      subst (λ Z. HoleAt A B net (suc (members fs)) c (standing Ps Os (pair_ty A (list_ty Z)))) out
      (subst (λ y. HoleAt A B net (suc (members fs)) y (standing Ps Os (pair_ty A (list_ty X))))
      (same_Some (a_network e) c (ap (λ w. option_map a_network (child_network w fs e t (members fs))) (sym b) ∙ p))
      (record {
        out = event_ty C;
        child_typed = de;
        whole = λ n. p_switch r fs n t;
        whole_is = λ n. ap (λ w. with_p_switch_child w r fs e t (members fs) n) b;
        whole_typed = λ n i. p_switch_typed some few tt h ds tt i dt;
        whole_same = λ n i q. p_switch_same Ps Os A X C D r fs fs h few (twins_of Ps Os D X fs ds) e n t t de dt q
            (alike-outputs (Ps ++ C ∷ []) (Os ++ copies (members fs) (arrow D X)) t A (list_ty X) dt);
      }))
  hole A B net k c R (p_switch_typed {r = r} {fs = fs} {e = e} {t = t} {B = X} {C = C} {D = D} some few m h ds n' de dt) p
      (continuation_in_p_switch {B = Y} {C = Z} {D = E} hr hs he) =
      let routed : D ≡ E = one_type r Ps (pair_ty A int_ty) D E h hr in
      let out : X ≡ Y = all_unique ExpressionTyped one_type Ps Os fs D X Y some ds (subst (λ W. MembersTyped Ps Os fs W Y) (sym routed) hs) in
      let he' : NetTyped Ps Os e (pair_ty A (list_ty X)) (event_ty Z) = subst (λ W. NetTyped Ps Os e (pair_ty A (list_ty W)) (event_ty Z)) (sym out) he in
      let event : C ≡ Z = ap event_in (one-output-type Ps Os e (pair_ty A (list_ty X)) (event_ty C) (event_ty Z) de he') in
      let b : p_switch_child fs (suc (members fs)) ≡ continuation_child = continuation_is fs in
      subst (λ W. HoleAt A B net (suc (suc (members fs))) c (standing (Ps ++ Z ∷ []) (Os ++ copies (members fs) (arrow W Y)) A)) routed
      (subst (λ W. HoleAt A B net (suc (suc (members fs))) c (standing (Ps ++ Z ∷ []) (Os ++ copies (members fs) (arrow D W)) A)) out
      (subst (λ W. HoleAt A B net (suc (suc (members fs))) c (standing (Ps ++ W ∷ []) (Os ++ copies (members fs) (arrow D X)) A)) event
      (subst (λ y. HoleAt A B net (suc (suc (members fs))) y (standing (Ps ++ C ∷ []) (Os ++ copies (members fs) (arrow D X)) A))
      (same_Some (a_network t) c (ap (λ w. option_map a_network (child_network w fs e t (suc (members fs)))) (sym b) ∙ p))
      (record {
        out = list_ty X;
        child_typed = dt;
        whole = λ n. p_switch r fs e n;
        whole_is = λ n. ap (λ w. with_p_switch_child w r fs e t (suc (members fs)) n) b;
        whole_typed = λ n i. p_switch_typed some few tt h ds tt de i;
        whole_same = λ n i q. p_switch_same Ps Os A X C D r fs fs h few (twins_of Ps Os D X fs ds) e e t n de dt
            (alike e (pair_ty A (list_ty X)) (event_ty C) de) q;
      }))))
  hole A B net k c R (initial_out_typed {c = z} {f = f} h df) p constant_in_initial_out =
      subst (λ y. HoleAt A B net 0 y R) (same_Some (a_leaf z) c p)
      (record {
        out = B;
        child_typed = h;
        whole = λ n. initial_out n f;
        whole_is = λ n. refl;
        whole_typed = λ n t. initial_out_typed t df;
        whole_same = λ n t q. initial_out_congruent Ps Os A B z n f f (as_twin_leaf Ps unit_ty B z n h t q) (own_twin Ps Os A B f df);
      })
  hole A B net k c R (initial_out_typed {c = z} {f = f} h df) p network_in_initial_out =
      subst (λ y. HoleAt A B net 1 y R) (same_Some (a_network f) c p)
      (record {
        out = B;
        child_typed = df;
        whole = λ n. initial_out z n;
        whole_is = λ n. refl;
        whole_typed = λ n t. initial_out_typed h t;
        whole_same = λ n t q. initial_out_congruent Ps Os A B z z f n (own_leaf Ps unit_ty B z h) (as_twin Ps Os A B f n df t q);
      })
  hole A B net k c R (initial_in_typed {c = z} {f = f} h df) p constant_in_initial_in =
      subst (λ y. HoleAt A B net 0 y R) (same_Some (a_leaf z) c p)
      (record {
        out = A;
        child_typed = h;
        whole = λ n. initial_in n f;
        whole_is = λ n. refl;
        whole_typed = λ n t. initial_in_typed t df;
        whole_same = λ n t q. initial_in_congruent Ps Os A B z n f f (as_twin_leaf Ps unit_ty A z n h t q) (own_twin Ps Os A B f df);
      })
  hole A B net k c R (initial_in_typed {c = z} {f = f} h df) p network_in_initial_in =
      subst (λ y. HoleAt A B net 1 y R) (same_Some (a_network f) c p)
      (record {
        out = B;
        child_typed = df;
        whole = λ n. initial_in z n;
        whole_is = λ n. refl;
        whole_typed = λ n t. initial_in_typed h t;
        whole_same = λ n t q. initial_in_congruent Ps Os A B z z f n (own_leaf Ps unit_ty A z h) (as_twin Ps Os A B f n df t q);
      })
  hole A B net k c R (rp_switch_typed {fs = fs} {m = m} {t = t} {D = D} {B = X} {C = C} {V = V} some few ds h dt n') p (member_in_rp_switch {k = j} l) =
      let b : p_switch_child fs j ≡ member_child = member_below fs j l in
      let o : Found (member fs j) c = found_network (member fs j) c (ap (λ w. collection_child w fs m t j) (sym b) ∙ p) in
      let v : MemberHole Ps Os D X fs j o.found = member_hole Ps Os D X fs j o.found ds o.found_is in
      subst (λ y. HoleAt A B net j y (standing Ps Os D)) o.found_tree
      (record {
        out = X;
        child_typed = v.member_typed;
        whole = λ n. rp_switch (v.others n) m t;
        whole_is = λ n. ap (λ w. with_collection_child w fs m t j (a_network n)) b ∙ ap (option_map (λ gs. rp_switch gs m t)) (v.others_is n);
        whole_typed = λ n i. let same : members (v.others n) ≡ members fs = v.others_count n in
            rp_switch_typed (omega arith) (omega arith) (v.others_typed n i) h dt tt;
        whole_same = λ n i q. collection_congruent Ps Os D X C V fs (v.others n) m m t t (v.others_same n i q) (own_leaf Ps C (choice_ty V) m h)
            (own_twin (Ps ++ V ∷ []) Os D X t dt);
      })
  hole A B net k c R (rp_switch_typed {fs = fs} {m = m} {t = t} {D = D} {B = X} {C = C} {V = V} some few ds h dt n') p choice_in_rp_switch =
      let b : p_switch_child fs (members fs) ≡ event_child = event_is fs in
      subst (λ y. HoleAt A B net (members fs) y (standing Ps Os C)) (same_Some (a_leaf m) c (ap (λ w. collection_child w fs m t (members fs)) (sym b) ∙ p))
      (record {
        out = choice_ty V;
        child_typed = h;
        whole = λ n. rp_switch fs n t;
        whole_is = λ n. ap (λ w. with_collection_child w fs m t (members fs) (a_leaf n)) b;
        whole_typed = λ n i. rp_switch_typed some few ds i dt tt;
        whole_same = λ n i q. collection_congruent Ps Os D X C V fs fs m n t t (twins_of Ps Os D X fs ds) (as_twin_leaf Ps C (choice_ty V) m n h i q)
            (own_twin (Ps ++ V ∷ []) Os D X t dt);
      })
  hole A B net k c R (rp_switch_typed {fs = fs} {m = m} {t = t} {D = D} {B = X} {C = C} {V = V} some few ds h dt n') p
      (continuation_in_rp_switch {V = W} hm) =
      let b : p_switch_child fs (suc (members fs)) ≡ continuation_child = continuation_is fs in
      subst (λ Z. HoleAt A B net (suc (members fs)) c (standing (Ps ++ Z ∷ []) Os D))
      (ap started_in (one_type m Ps C (choice_ty V) (choice_ty W) h hm))
      (subst (λ y. HoleAt A B net (suc (members fs)) y (standing (Ps ++ V ∷ []) Os D))
      (same_Some (a_network t) c (ap (λ w. collection_child w fs m t (suc (members fs))) (sym b) ∙ p))
      (record {
        out = X;
        child_typed = dt;
        whole = λ n. rp_switch fs m n;
        whole_is = λ n. ap (λ w. with_collection_child w fs m t (suc (members fs)) (a_network n)) b;
        whole_typed = λ n i. rp_switch_typed some few ds h i tt;
        whole_same = λ n i q. collection_congruent Ps Os D X C V fs fs m m t n (twins_of Ps Os D X fs ds) (own_leaf Ps C (choice_ty V) m h)
            (as_twin (Ps ++ V ∷ []) Os D X t n dt i q);
      }))

-- what does the same as a tree has its kind
same_kind : (S : Standing) (c d : Tree Expression) → SameInPlace S c d → (n : Filler c) × (filled c n ≡ d)
same_kind S (a_network f) (a_network g) q = (g, refl)
same_kind S (a_network f) (a_leaf e) q = absurd q
same_kind S (a_leaf e) (a_network f) q = absurd q
same_kind S (a_leaf e) (a_leaf s) q = (s, refl)

-- the whole with another tree at a position
leaf_tree : (S : Standing) (B C D : TypeTree) (e c : Expression) (p : List ℕ) (other whole : Tree Expression) → ExpressionTyped e S.params S.input B
    → part_at e p ≡ Some c → InputAt S.params S.input e p C → ExpressionTyped c S.params C D → TreeTyped (standing S.params S.olds C) other D
    → SameInPlace (standing S.params S.olds C) (a_leaf c) other → replaced (a_leaf e) p other ≡ Some whole → TreeTyped S whole B × SameInPlace S (a_leaf e) whole
leaf_tree S B C D e c p (a_network g) whole d f i dc dg q r = absurd q
leaf_tree S B C D e c p (a_leaf s) whole d f i dc ds q r = go (with_part_at e p s) refl r
  where
    go : (o : Option Expression) → with_part_at e p s ≡ o → option_map a_leaf o ≡ Some whole → TreeTyped S whole B × SameInPlace S (a_leaf e) whole
    go None is r = absurd (none-some whole r)
    go (Some w) is r =
        subst (λ z. TreeTyped S z B × SameInPlace S (a_leaf e) z) (same_Some (a_leaf w) whole r)
        (same_part S.params S.input B C D p e c w s d i f is dc ds q)

pub same_place : SamePlaceLaw
same_place S Q B C [] tree there other whole d (at_network {f = f}) dt dn q r = go other dn q r
  where
    go : (other : Tree Expression) → TreeTyped S other C → SameInPlace S (a_network f) other → replaced (a_network f) [] other ≡ Some whole
        → TreeTyped S whole B × SameInPlace S (a_network f) whole
    go (a_leaf s) dn q r = absurd q
    go (a_network g) dn q r =
        subst (λ z. TreeTyped S z B × SameInPlace S (a_network f) z) (same_Some (a_network g) whole r) (
          subst (NetTyped S.params S.olds g S.input) (one-output-type S.params S.olds f S.input C B dt d) dn,
          q,
        )
same_place S Q B C p tree there other whole d (inside_expression {e = e} {c = c} {C = D} f i) dt dn q r =
    leaf_tree S B D C e c p other whole d f i dt dn q r
same_place S Q B C p tree there other whole d (inside_network {R = R} {f = f} {c = c} {k = k} {p = p'} found i s) dt dn q r =
    let h : Hole S.params S.olds S.input B f k c R = hole S.params S.olds S.input B f k c R d found i in
    let r' : P.◌>>=◌ (replaced c p' other) (λ z. option_map a_network (with_child f k z)) ≡ Some whole =
    ap (λ o. P.◌>>=◌ o (λ y. P.◌>>=◌ (replaced y p' other) (λ z. option_map a_network (with_child f k z)))) (sym found) ∙ r in
    let o = onward (replaced c p' other) (λ z. option_map a_network (with_child f k z)) whole r' in
    let below : TreeTyped R o.from h.out × SameInPlace R c o.from = same_place R Q h.out C p' c there other o.from h.child_typed s dt dn q o.was in
    let kind : (n : Filler c) × (filled c n ≡ o.from) = same_kind R c o.from below.1 in
    let w : Network Expression = h.whole kind.0 in
    let typed : TreeTyped R (filled c kind.0) h.out = subst (λ z. TreeTyped R z h.out) (sym kind.1) below.0 in
    let same : SameInPlace R c (filled c kind.0) = subst (SameInPlace R c) (sym kind.1) below.1 in
    let made : option_map a_network (with_child f k (filled c kind.0)) ≡ Some (a_network w) = ap (option_map a_network) (h.whole_is kind.0) in
    let put : option_map a_network (with_child f k (filled c kind.0)) ≡ Some whole = ap (λ z. option_map a_network (with_child f k z)) kind.1 ∙ o.goes in
    let is : a_network w ≡ whole = same_Some (a_network w) whole (sym made ∙ put) in
    subst (λ z. TreeTyped S z B × SameInPlace S (a_network f) z) is (h.whole_typed kind.0 typed, h.whole_same kind.0 typed same)
