-- A type is kept at a position, as the code finds it, exactly where the tree with another there is typed within the limits.
use Rattle.std.proofs.Common.{◌≡◌, ◌≤◌, ℕ, leb, leb-true, le-leb, arith, true, false, List, [], ◌∷◌, Option, Some, None, IfSome, option_map, Result, Ok, Err, refl, sym, ap, subst, ◌∙◌}
use Rattle.std.specs.Option.{option_and_then}
use Rattle.std.specs.Result.{result_ok}
use Rattle.std.proofs.lemmas.Option.{none-some, same_Some}
use Rattle.sample_core.specs.TypeTree.{TypeTree}
use Rattle.sample_core.proofs.Numbers.{parts_of}
use Rattle.leaf_core.specs.Expression.{Expression, height_of, nodes_in}
use Rattle.leaf_core.specs.TypeLimits.{TypeFits}
use Rattle.leaf_core.specs.ExpressionTyping.{ExpressionTyped}
use Rattle.leaf_core.specs.ExpressionLimits.{ExpressionFits, expression_fits, TypedWithin, ExpressionTypedWithin}
use Rattle.leaf_core.specs.Parts.{part_at, with_part_at, InputAt}
use Rattle.leaf_core.specs.PartWalk.{part_type_at}
use Rattle.leaf_core.proofs.Exactness.{same_tree-true, same_tree-refl}
use Rattle.leaf_core.proofs.Uniqueness.{one_type}
use Rattle.leaf_core.proofs.PartTypes.{value_is, TypedThere, there_typed, one_input, kept_there, inner}
use Rattle.leaf_core.proofs.WithinParts.{put_there}
use Rattle.net_tree.specs.Network.{Network, network_size}
use Rattle.net_tree.specs.Measured.{MeasuresWithin, capped}
use Rattle.net_tree.specs.Weight.{weight}
use Rattle.net_tree.specs.Height.{height}
use Rattle.net_tree.specs.declared.measure.Measures.{Measures}
use Rattle.net_syntax.specs.Rewriting.{Rewrites}
use Rattle.net_tree.specs.Place.{Tree, a_network, a_leaf, child}
use Rattle.net_syntax.specs.Placed.{with_child, replaced}
use Rattle.net_meaning.specs.TypedNetwork.{TypedNetwork}
use Rattle.net_meaning.specs.NetworkLimits.{NetTypedWithin, WithinLimits}
use Rattle.net_syntax.specs.Standing.{Standing, standing, alone, TreeTyped, TreeWithin, StandsAt, at_network, inside_network, inside_expression}
use Rattle.net_syntax.specs.StandingWalk.{inside}
use Rattle.net_meaning.proofs.StreamLaws.{one-output-type}
use Rattle.net_syntax.proofs.FoundTypes.{forget}
use Rattle.net_syntax.proofs.SamePlaces.{Filler, filled}
use Rattle.net_syntax.proofs.Splits.{Split, split}
use Rattle.net_types.specs.KeptTypes.{checked_output, same_type, kept_in_leaf, both_there, type_kept}
use Rattle.net_types.specs.Answered.{NoRewriting}
use Rattle.net_types.proofs.Sizes.{few_inside}
use Rattle.net_types.proofs.Checks.{walk_exact}
use Rattle.net_types.proofs.Holes.{output_found, Hole, hole, found_there}
use Rattle.net_types.proofs.ChangedPlaces.{kept}
use Rattle.net_types.proofs.WalkTests.{both}
use Rattle.net_syntax.proofs.OnePlace.{populated, one_place}

-- what a tree becomes is of its kind
same_kind : (c d : Tree Expression) (p : List ℕ) (s : Tree Expression) → replaced c p s ≡ Some d → (n : Filler c) × (filled c n ≡ d)
same_kind (a_leaf e) d p (a_leaf s) q = go (with_part_at e p s) q
  where
    go : (o : Option Expression) → option_map a_leaf o ≡ Some d → (n : Expression) × (a_leaf n ≡ d)
    go None r = absurd (none-some d r)
    go (Some v) r = (v, same_Some (a_leaf v) d r)
same_kind (a_leaf e) d p (a_network s) q = absurd (none-some d q)
same_kind (a_network f) d [] (a_network s) q = (s, same_Some (a_network s) d q)
same_kind (a_network f) d [] (a_leaf s) q = absurd (none-some d q)
same_kind (a_network f) d (k ∷ p) s q = let t = split f k p s d q in (t.net, t.whole)

-- what the tests tell
same_told : (o : Option TypeTree) (B : TypeTree) → same_type (Some B) o ≡ true → o ≡ Some B
same_told None B e = absurd (cc)
same_told (Some C) B e = ap Some (sym (same_tree-true B C e))

same_is : {o q : Option TypeTree} {B : TypeTree} → o ≡ Some B → q ≡ Some B → same_type o q ≡ true
same_is {o = o} {q = q} {B = B} d e = ap (λ z. same_type z q) d ∙ (ap (same_type (Some B)) e ∙ same_tree-refl B)

-- what is found of an expression or a network is so
ok_of : {X E : Type 0} {r : Result X E} {x : X} → result_ok r ≡ Some x → r ≡ Ok x
ok_of {r = Ok y} {x = x} e = ap Ok (same_Some y x e)
ok_of {r = Err f} {x = x} e = absurd (none-some x e)

output_told : (R : Standing) (f : Network Expression) (B : TypeTree) → checked_output R f ≡ Some B → NetTypedWithin R.params R.olds f R.input B
output_told R f B e = (walk_exact [] R.params R.olds R.input f B).0 (ok_of e)

fits_told : (e : Expression) → expression_fits e ≡ true → ExpressionFits e
fits_told e i =
    let t = parts_of (leb (height_of e) 256) (leb (nodes_in e) 100000) i in
    record { shallow = leb-true (height_of e) 256 t.0; small = leb-true (nodes_in e) 100000 t.1 }

fits_is : (e : Expression) → ExpressionFits e → expression_fits e ≡ true
fits_is e h = both (le-leb (height_of e) 256 h.shallow) (le-leb (nodes_in e) 100000 h.small)

-- at the position stands a tree, and s, of one type
pub record Alike (R : Standing) (tree : Tree Expression) (p : List ℕ) (s : Tree Expression) : Type 0 where
  pub there : Tree Expression
  pub place : Standing
  pub stands : StandsAt R tree p there place
  pub output : TypeTree
  pub before : TreeTyped place there output
  pub now : TreeTyped place s output

-- the expression
leaf_alike : (R : Standing) (e v s : Expression) (p : List ℕ) (B : TypeTree) → ExpressionTypedWithin e R.params R.input B → with_part_at e p s ≡ Some v
    → kept_in_leaf R e p (Some v) ≡ true → Alike R (a_leaf e) p (a_leaf s) × ExpressionTypedWithin v R.params R.input B
leaf_alike R e v s p B d q i =
    let tests = parts_of (expression_fits v) (same_type (part_type_at R.params R.input e p) (part_type_at R.params R.input v p)) i in
    from_parts (fits_told v tests.0) tests.1 (part_before e p s v q)
  where
    part_before : (a : Expression) (r : List ℕ) (b u : Expression) → with_part_at a r b ≡ Some u → (c : Expression) × (part_at a r ≡ Some c)
    part_before a [] b u j = (a, refl)
    part_before a (k ∷ r) b u j = let t = inner a k r b u j in
        let rest = part_before t.before r b t.now t.changed in
        (rest.0, ap (option_and_then (λ z. part_at z r)) t.there ∙ rest.1)

    from_parts : ExpressionFits v → same_type (part_type_at R.params R.input e p) (part_type_at R.params R.input v p) ≡ true → (c : Expression) × (part_at e p ≡ Some c)
        → Alike R (a_leaf e) p (a_leaf s) × ExpressionTypedWithin v R.params R.input B
    from_parts fits same c =
        let old : TypedThere R.params R.input e p c.0 = there_typed d.checked.given d.checked.fits p c.0 c.1 in
        let told : part_type_at R.params R.input v p ≡ Some old.output =
        same_told (part_type_at R.params R.input v p) old.output (ap (λ z. same_type z (part_type_at R.params R.input v p)) (sym old.found) ∙ same) in
        let whole : TypedWithin v R.params R.input B = put_there p e s v old.output d.checked q old.found told in
        let now : (part_at v p ≡ Some s) × InputAt R.params R.input v p old.input = kept_there e p s v q old.gets in
        let new : TypedThere R.params R.input v p s = there_typed whole.given whole.fits p s now.0 in
        let one : new.input ≡ old.input = one_input p new.gets now.1 in
        let out : new.output ≡ old.output = same_Some new.output old.output (sym new.found ∙ told) in
        let typed : ExpressionTyped s R.params old.input old.output =
        subst (λ z. ExpressionTyped s R.params z old.output) one (subst (λ z. ExpressionTyped s R.params new.input z) out new.typed) in (
          record {
            there = a_leaf c.0;
            place = standing R.params R.olds old.input;
            stands = inside_expression c.1 old.gets;
            output = old.output;
            before = old.typed;
            now = typed;
          },
          record { whole_fits = fits; checked = whole },
        )

-- where the code finds the type kept, it is, and the whole is typed as before
pub alike : (R : Standing) (tree : Tree Expression) (p : List ℕ) (s w : Tree Expression) (B : TypeTree) → TreeWithin R tree B → replaced tree p s ≡ Some w
    → type_kept R tree p s ≡ true → Alike R tree p s × TreeWithin R w B
alike R (a_leaf e) p (a_leaf s) w B d q i = go (with_part_at e p s) refl q i
  where
    go : (o : Option Expression) → with_part_at e p s ≡ o → option_map a_leaf o ≡ Some w → kept_in_leaf R e p o ≡ true → Alike R (a_leaf e) p (a_leaf s) × TreeWithin R w B
    go None j r k = absurd (none-some w r)
    go (Some v) j r k = let a = leaf_alike R e v s p B d j k in (a.0, subst (λ z. TreeWithin R z B) (same_Some (a_leaf v) w r) a.1)
alike R (a_leaf e) p (a_network s) w B d q i = absurd (none-some w q)
alike R (a_network f) [] (a_network s) w B d q i =
    let found : checked_output R s ≡ Some B = same_told (checked_output R s) B (ap (λ z. same_type z (checked_output R s)) (sym (output_found d)) ∙ i) in
    let typed : NetTypedWithin R.params R.olds s R.input B = output_told R s B found in (
      record { there = a_network f; place = R; stands = at_network; output = B; before = forget d; now = forget typed },
      subst (λ z. TreeWithin R z B) (same_Some (a_network s) w q) typed,
    )
alike R (a_network f) [] (a_leaf s) w B d q i = absurd (none-some w q)
alike R (a_network f) (k ∷ p) s w B d q i =
    let t : Split f k p s w = split f k p s w q in
    let h : Hole R.params R.olds R.input B f k t.before = value_is (Hole R.params R.olds R.input B f k) t.there (hole d k) in
    let i' : type_kept h.place t.before p s ≡ true =
    ap (λ z. both_there z (Some h.place) (λ c Q. type_kept Q c p s)) (sym t.there)
    ∙ (ap (λ z. both_there (child f k) z (λ c Q. type_kept Q c p s)) (sym (found_there d t.there h.stands)) ∙ i) in
    let a : Alike h.place t.before p s × TreeWithin h.place t.now h.out = alike h.place t.before p s t.now h.out h.typed t.changed i' in
    let n : (m : Filler t.before) × (filled t.before m ≡ t.now) = same_kind t.before t.now p s t.changed in
    let put : IfSome (with_child f k (filled t.before n.0)) (λ v. NetTypedWithin R.params R.olds v R.input B) =
    h.put n.0 (subst (λ z. TreeWithin h.place z h.out) (sym n.1) a.1) in (
      record {
        there = a.0.there;
        place = a.0.place;
        stands = inside_network t.there h.stands a.0.stands;
        output = a.0.output;
        before = a.0.before;
        now = a.0.now;
      },
      subst (λ z. TreeWithin R z B) t.whole
          (value_is (λ v. NetTypedWithin R.params R.olds v R.input B) (ap (with_child f k) n.1 ∙ t.is) put),
    )

-- the expression, the other way round
leaf_type_kept : (R Q : Standing) (e v s there : Expression) (p : List ℕ) (B B' C : TypeTree) → ExpressionTypedWithin e R.params R.input B
    → ExpressionTypedWithin v R.params R.input B' → with_part_at e p s ≡ Some v → part_at e p ≡ Some there → InputAt R.params R.input e p Q.input
    → ExpressionTyped there R.params Q.input C → ExpressionTyped s R.params Q.input C → kept_in_leaf R e p (Some v) ≡ true
leaf_type_kept R Q e v s there p B B' C d w q c g h k =
    let old : TypedThere R.params R.input e p there = there_typed d.checked.given d.checked.fits p there c in
    let now : (part_at v p ≡ Some s) × InputAt R.params R.input v p Q.input = kept_there e p s v q g in
    let new : TypedThere R.params R.input v p s = there_typed w.checked.given w.checked.fits p s now.0 in
    let a : old.output ≡ C = one_type there R.params Q.input old.output C
    (subst (λ z. ExpressionTyped there R.params z old.output) (one_input p old.gets g) old.typed) h in
    let b : new.output ≡ C = one_type s R.params Q.input new.output C
    (subst (λ z. ExpressionTyped s R.params z new.output) (one_input p new.gets now.1) new.typed) k in
    both (fits_is v w.whole_fits) (same_is (old.found ∙ ap Some a) (new.found ∙ ap Some b))

pub one_tree : {X : Type 0} {o : Option X} {a b : X} → o ≡ Some a → o ≡ Some b → a ≡ b
one_tree {a = a} {b = b} e h = same_Some a b (sym e ∙ h)

-- where it is kept, and the whole is typed within the limits, the code finds it kept
pub type_is_kept : (R Q : Standing) (tree there : Tree Expression) (p : List ℕ) (s w : Tree Expression) (B B' C : TypeTree) → TreeWithin R tree B
    → TreeWithin R w B' → replaced tree p s ≡ Some w → StandsAt R tree p there Q → TreeTyped Q there C → TreeTyped Q s C → type_kept R tree p s ≡ true
type_is_kept R Q tree there p s w B B' C d x q (at_network {f = f}) h k = go s q k
  where
    go : (s : Tree Expression) → replaced (a_network f) [] s ≡ Some w → TreeTyped R s C → type_kept R (a_network f) [] s ≡ true
    go (a_leaf s) q k = absurd (none-some w q)
    go (a_network s) q k =
        let x' : NetTypedWithin R.params R.olds s R.input B' = subst (λ z. TreeWithin R z B') (sym (same_Some (a_network s) w q)) x in
        let a : B ≡ C = one-output-type R.params R.olds f R.input B C (forget d) h in
        let b : B' ≡ C = one-output-type R.params R.olds s R.input B' C (forget x') k in
        same_is (output_found d ∙ ap Some a) (output_found x' ∙ ap Some b)
type_is_kept R Q tree there p s w B B' C d x q (inside_expression {e = e} {c = c} {C = D} i g) h k = go s q k
  where
    on : (s : Expression) → (o : Option Expression) → with_part_at e p s ≡ o → option_map a_leaf o ≡ Some w → ExpressionTyped s R.params D C
        → kept_in_leaf R e p o ≡ true
    on s None j r k = absurd (none-some w r)
    on s (Some v) j r k = leaf_type_kept R (standing R.params R.olds D) e v s c p B B' C d
        (subst (λ z. TreeWithin R z B') (sym (same_Some (a_leaf v) w r)) x) j i g h k

    go : (s : Tree Expression) → replaced (a_leaf e) p s ≡ Some w → TreeTyped (standing R.params R.olds D) s C → type_kept R (a_leaf e) p s ≡ true
    go (a_leaf s) q k = on s (with_part_at e p s) refl q k
    go (a_network s) q k = absurd (none-some w q)
type_is_kept R Q tree there p s w B B' C d x q (inside_network {R = P} {f = f} {c = c} {k = n} {p = p'} i g r) h k =
    let t : Split f n p' s w = split f n p' s w q in
    let a : Hole R.params R.olds R.input B f n c = value_is (Hole R.params R.olds R.input B f n) i (hole d n) in
    let x' : NetTypedWithin R.params R.olds t.net R.input B' = subst (λ z. TreeWithin R z B') (sym t.whole) x in
    let same : (inside R t.net n ≡ inside R f n) × (child t.net n ≡ Some t.now) =
    value_is (λ v. (inside R v n ≡ inside R f n) × (child v n ≡ Some t.now)) t.is (kept R f n t.now) in
    let b : Hole R.params R.olds R.input B' t.net n t.now = value_is (Hole R.params R.olds R.input B' t.net n) same.1 (hole x' n) in
    let found : inside R f n ≡ Some a.place = found_there d i a.stands in
    let moved : b.place ≡ a.place = one_tree (found_there x' same.1 b.stands) (same.0 ∙ found) in
    let here : a.place ≡ P = one_place (populated d) a.stands g refl in
    let e : t.before ≡ c = one_tree t.there i in
    let below_kept : type_kept P c p' s ≡ true =
    type_is_kept P Q c there p' s t.now a.out b.out C (subst (λ z. TreeWithin z c a.out) here a.typed)
    (subst (λ z. TreeWithin z t.now b.out) (moved ∙ here) b.typed) (ap (λ z. replaced z p' s) (sym e) ∙ t.changed) r h k in
    ap (λ z. both_there z (inside R f n) (λ y Z. type_kept Z y p' s)) i
    ∙ (ap (λ z. both_there (Some c) z (λ y Z. type_kept Z y p' s)) (found ∙ ap Some here) ∙ below_kept)

-- the network that is made is the rewriting
pub rewritten : (t : TypedNetwork) (p : List ℕ) (s : Tree Expression) (A B : TypeTree) (v : Network Expression) (w h : ℕ) → WithinLimits t
    → replaced (a_network t.net) p s ≡ Some (a_network v) → A ≡ t.input → B ≡ t.output → type_kept (alone t.input) (a_network t.net) p s ≡ true
    → w ≡ capped (weight v []) → h ≡ capped (height v []) → w ≤ 1000000 → h ≤ 256
    → Rewrites t p s (record { input = A; output = B; net = v; weight = w; height = h })
rewritten t p s A B v w h d q is_input is_output i is_weight is_height light low =
    let a : Alike (alone t.input) (a_network t.net) p s × NetTypedWithin [] [] v t.input t.output =
    alike (alone t.input) (a_network t.net) p s (a_network v) t.output d.fits.typed q i in
    record {
      result = q;
      same_input = is_input;
      same_output = is_output;
      within = record {
        fits = record {
          input_fits = subst TypeFits (sym is_input) d.fits.input_fits;
          typed = subst (λ z. NetTypedWithin [] [] v z B) (sym is_input) (subst (λ z. NetTypedWithin [] [] v t.input z) (sym is_output) a.1);
          low = omega arith;
          light = omega arith;
        };
        its_weight = omega arith;
        its_height = omega arith;
      };
      keeps_type = record {
        there = a.0.there;
        standing = a.0.place;
        stands = a.0.stands;
        output = a.0.output;
        before = a.0.before;
        now = a.0.now;
      };
    }

pub the_net : (a b : Network Expression) → a_network a ≡ a_network b → a ≡ b
the_net a b e = ap (λ z. net_of z) e
  where
    net_of : Tree Expression → Network Expression
    net_of (a_network f) = f
    net_of (a_leaf e) = a

result_is : (t u : TypedNetwork) (p : List ℕ) (s : Tree Expression) (v : Network Expression) → replaced (a_network t.net) p s ≡ Some (a_network v)
    → Rewrites t p s u → u.net ≡ v
result_is t u p s v q r = the_net u.net v (same_Some (a_network u.net) (a_network v) (sym r.result ∙ q))

-- where it isn't kept there is none
pub none_unkept : (t : TypedNetwork) (p : List ℕ) (s : Tree Expression) (v : Network Expression) → WithinLimits t
    → replaced (a_network t.net) p s ≡ Some (a_network v) → type_kept (alone t.input) (a_network t.net) p s ≡ false → NoRewriting t p s
none_unkept t p s v d q i u r =
    let typed : NetTypedWithin [] [] u.net t.input u.output = subst (λ z. NetTypedWithin [] [] u.net z u.output) r.same_input r.within.fits.typed in
    let k = r.keeps_type in
    let e : type_kept (alone t.input) (a_network t.net) p s ≡ true =
    type_is_kept (alone t.input) k.standing (a_network t.net) k.there p s (a_network u.net) t.output u.output k.output d.fits.typed typed r.result k.stands
    k.before k.now in
    true_is_false (sym e ∙ i)
  where
    true_is_false : true ≡ false → ⊥
    true_is_false e = cc

-- nor where it isn't within the limits
pub none_outside : (t : TypedNetwork) (p : List ℕ) (s : Tree Expression) (v : Network Expression) (most : Measures) → (MeasuresWithin most v → ⊥)
    → replaced (a_network t.net) p s ≡ Some (a_network v) → 5000000 ≤ most.size → 1000000 ≤ most.weight → 256 ≤ most.height → NoRewriting t p s
none_outside t p s v most h q i j k u r =
    let e : u.net ≡ v = result_is t u p s v q r in
    let light : weight v [] ≤ 1000000 = subst (λ z. weight z [] ≤ 1000000) e r.within.fits.light in
    let low : height v [] ≤ 256 = subst (λ z. height z [] ≤ 256) e r.within.fits.low in
    let d : NetTypedWithin [] [] v u.input u.output = subst (λ z. NetTypedWithin [] [] z u.input u.output) e r.within.fits.typed in
    let few : network_size v ≤ 5000000 = few_inside d light in
    h (omega arith, omega arith, omega arith)
