-- What stands at a position of a typed network has one type there.
use Rattle.std.proofs.Common.{◌≡◌, List, [], ◌∷◌, ℕ, Some, refl, sym, ◌∙◌, subst}
use Rattle.std.proofs.lemmas.Option.{same_Some}
use Rattle.sample_core.specs.TypeTree.{TypeTree}
use Rattle.leaf_core.specs.Expression.{Expression}
use Rattle.leaf_core.specs.ExpressionTyping.{ExpressionTyped}
use Rattle.leaf_core.proofs.PartTypes.{one_input, value_is}
use Rattle.leaf_core.proofs.Uniqueness.{one_type}
use Rattle.net_tree.specs.Network.{Network}
use Rattle.net_tree.specs.Place.{Tree, a_network, a_leaf, child}
use Rattle.net_syntax.specs.Standing.{Standing, ChildStands, TreeTyped, TreeWithin, StandsAt, at_network, inside_network, inside_expression}
use Rattle.net_meaning.specs.NetworkLimits.{NetTypedWithin}
use Rattle.net_syntax.specs.TypingLaws.{OneTypeAtLaw}
use Rattle.net_meaning.proofs.StreamLaws.{one-output-type}
use Rattle.net_syntax.proofs.FoundTypes.{ChildThere, child_there}
use Rattle.net_syntax.proofs.OnePlace.{populated, one_place}

-- the child that stands there is typed within the limits
child_within : {S R : Standing} {f : Network Expression} {B : TypeTree} {k : ℕ} {c : Tree Expression} → NetTypedWithin S.params S.olds f S.input B → child f k ≡ Some c
    → ChildStands S.params S.olds S.input f k R → (C : TypeTree) × TreeWithin R c C
child_within {S = S} {R = R} {f = f} {k = k} {c = c} d q s =
    let t : ChildThere S f k c = value_is (ChildThere S f k) q (child_there d k) in
    (t.output, subst (λ Z. TreeWithin Z c t.output) (one_place (populated d) t.stands s refl) t.typed)

types_at : {S Q R : Standing} {u v w : Tree Expression} (B C D : TypeTree) (p : List ℕ) → TreeWithin S u D → TreeTyped Q v B → TreeTyped R w C → StandsAt S u p v Q → StandsAt S u p w R → B ≡ C
types_at {S = S} {u = a_network f} B C D [] d h k at_network at_network = one-output-type S.params S.olds f S.input B C h k
types_at {S = S} {u = a_leaf e} B C D p d h k (inside_expression {c = c} {C = X} q g) (inside_expression {c = c'} {C = Y} r i) =
    let same : c ≡ c' = same_Some c c' (sym q ∙ r) in
    let input : X ≡ Y = one_input p g i in
    one_type c S.params X B C h (subst (λ z. ExpressionTyped z S.params X C) (sym same) (subst (λ Z. ExpressionTyped c' S.params Z C) (sym input) k))
types_at {S = S} {R = O} {w = w} B C D (k ∷ p) d h i (inside_network {R = Q} {f = f} {c = c} q s a) (inside_network {R = R} {c = c'} r t b) =
    let same : c ≡ c' = same_Some c c' (sym q ∙ r) in
    let place : Q ≡ R = one_place (populated d) s t refl in
    let inner : (E : TypeTree) × TreeWithin Q c E = child_within d q s in
    types_at B C inner.0 p inner.1 h i a (subst (λ z. StandsAt Q z p w O) (sym same) (subst (λ Z. StandsAt Z c' p w O) (sym place) b))

pub one_type_at : OneTypeAtLaw
one_type_at t p B C w h k = types_at B C t.output p w.fits.typed h.typed k.typed h.stands k.stands
