-- What is derived from a typed network has its types and outputs the same.
use Rattle.std.proofs.Common.{◌≡◌, ℕ, List, [], length, Option, Some, None, refl, sym, ◌∙◌, subst}
use Rattle.std.proofs.lemmas.Option.{same_Some}
use Rattle.sample_core.specs.TypeTree.{TypeTree}
use Rattle.leaf_core.specs.Expression.{Expression}
use Rattle.leaf_core.specs.ExpressionTyping.{ExpressionTyped}
use Rattle.leaf_core.specs.SameValue.{SameValue}
use Rattle.net_tree.specs.Network.{Network}
use Rattle.net_meaning.specs.Environment.{closed, closed_typed}
use Rattle.net_meaning.specs.TypedNetwork.{TypedNetwork, NetTyped, HasItsTypes}
use Rattle.net_meaning.specs.AlikeEnvironments.{SameOutputs}
use Rattle.net_tree.specs.Place.{Tree, a_network, a_leaf}
use Rattle.net_syntax.specs.Placed.{placed}
use Rattle.net_syntax.specs.Standing.{Standing, alone, TreeTyped}
use Rattle.net_syntax.specs.Rewriting.{Rewrites, KeepsType}
use Rattle.net_syntax.specs.SamePlace.{SameInPlace}
use Rattle.net_tree.specs.LawStep.{Step}
use Rattle.net_tree.specs.declared.law_step.Law.{Law}
use Rattle.net_tree.specs.declared.law_step.Direction.{Direction}
use Rattle.net_syntax.proofs.SamePlaces.{same_place}
use Rattle.net_meaning.proofs.SameOutputs.{alike-refl, same-sym, same-trans}
use Rattle.net_meaning.proofs.StreamLaws.{alike-outputs, one-output-type}
use Rattle.net_syntax.proofs.HoldsTypes.{holds_types}
use Rattle.expr_laws.proofs.SideValues.{side_value}
use Rattle.law_rules.proofs.SameSides.{same-side_outputs}
use Rattle.expr_laws.specs.Answer as E
use Rattle.expr_laws.specs.Answer.{ExpressionAnswer}
use Rattle.law_rules.specs.Answer as N
use Rattle.law_rules.specs.Answer.{NetworkAnswer}
use Rattle.cert_check.specs.TreeAnswer.{TreeAnswer}
use Rattle.cert_check.specs.Derives.{Answered, Next, Steps, no_step, step_then, Derives}
use Rattle.cert_check.specs.Laws.{DerivedSameLaw, SameStreamLaw, KeptTypesLaw}
use Rattle.cert_check.proofs.Counted.{placed-stands}

-- a law's answer does the same as the tree at hand, where both have one type
expression_same : (Q : Standing) (C : TypeTree) (law : Law) (direction : Direction) (e : Expression) (given : Option Expression) (r : Expression)
    → ExpressionAnswer law direction e given r → ExpressionTyped e Q.params Q.input C → ExpressionTyped r Q.params Q.input C → SameValue Q.params Q.input e r
expression_same Q C law direction e given r (E.forward_answer {n = n} is_law) d k = λ ps x hp hx. side_value n e r is_law Q.params Q.input C d ps x hp hx
expression_same Q C law direction e given r (E.backward_answer {n = n} is_law) d k = λ ps x hp hx. sym (side_value n r e is_law Q.params Q.input C k ps x hp hx)

network_same : (Q : Standing) (C : TypeTree) (olds : ℕ) (law : Law) (direction : Direction) (f : Network Expression) (given : Option (Network Expression))
    (r : Network Expression) → NetworkAnswer law direction f given olds r → length Q.olds ≡ olds → NetTyped Q.params Q.olds f Q.input C
    → NetTyped Q.params Q.olds r Q.input C → SameOutputs Q.params Q.olds Q.input f r
network_same Q C olds law direction f given r (N.forward_answer {n = n} is_law) l d k = same-side_outputs n olds Q.params Q.olds Q.input C f r is_law l d k
network_same Q C olds law direction f given r (N.backward_answer {n = n} is_law) l d k =
    same-sym Q.params Q.olds Q.input r f (same-side_outputs n olds Q.params Q.olds Q.input C r f is_law l k d)

answer_same : (Q : Standing) (C : TypeTree) (olds : ℕ) (law : Law) (direction : Direction) (tree : Tree Expression) (given : Option (Tree Expression))
    (new : Tree Expression) → TreeAnswer olds law direction tree given new → length Q.olds ≡ olds → TreeTyped Q tree C → TreeTyped Q new C
    → SameInPlace Q tree new
answer_same Q C olds law direction (a_leaf e) None (a_leaf r) x l d k = expression_same Q C law direction e None r x d k
answer_same Q C olds law direction (a_leaf e) (Some (a_leaf g)) (a_leaf r) x l d k = expression_same Q C law direction e (Some g) r x d k
answer_same Q C olds law direction (a_network f) None (a_network r) x l d k = network_same Q C olds law direction f None r x l d k
answer_same Q C olds law direction (a_network f) (Some (a_network g)) (a_network r) x l d k = network_same Q C olds law direction f (Some g) r x l d k
answer_same Q C olds law direction tree given new x l d k = absurd x

-- a step keeps the types, and what is output
pub record Kin (t u : TypedNetwork) : Type 0 where
  pub kin_input : u.input ≡ t.input
  pub kin_typed : NetTyped [] [] u.net t.input t.output
  pub kin_same : SameOutputs [] [] t.input t.net u.net

pub next_same : (t : TypedNetwork) (s : Step) (u : TypedNetwork) → HasItsTypes t → Next t s u → Kin t u
next_same t s u d x =
    let w : Rewrites t s.position x.new u = x.rewritten in
    let h : KeepsType t s.position x.new = w.keeps_type in
    let Q : Standing = h.standing in
    let a : Answered t s x.new = x.answered in
    let found : a.place ≡ placed (length Q.params) (length Q.olds) h.there =
    same_Some a.place (placed (length Q.params) (length Q.olds) h.there)
    (sym a.found ∙ placed-stands (alone t.input) (a_network t.net) s.position h.there Q 0 0 refl refl h.stands) in
    let here : TreeAnswer (length Q.olds) s.law s.direction h.there s.given x.new =
    subst (λ q. TreeAnswer q.olds s.law s.direction q.tree s.given x.new) found a.answered in
    let same : SameInPlace Q h.there x.new = answer_same Q h.output (length Q.olds) s.law s.direction h.there s.given x.new here refl h.before h.now in
    let r = same_place (alone t.input) Q t.output h.output s.position (a_network t.net) h.there x.new (a_network u.net) d h.stands h.before h.now same w.result in
    record { kin_input = w.same_input; kin_typed = r.0; kin_same = r.1 }

next_typed : (t : TypedNetwork) (s : Step) (u : TypedNetwork) → Next t s u → HasItsTypes u
next_typed t s u x = let w : Rewrites t s.position x.new u = x.rewritten in holds_types u w.within

pub steps_same : (t : TypedNetwork) (ss : List Step) (v : TypedNetwork) → HasItsTypes t → Steps t ss v → Kin t v
steps_same t ss v d no_step = record { kin_input = refl; kin_typed = d; kin_same = alike-outputs [] [] t.net t.input t.output d }
steps_same t ss v d (step_then {u = u} {s = s} {ss = ss'} x xs) =
    let k : Kin t u = next_same t s u d x in
    let w : Rewrites t s.position x.new u = x.rewritten in
    let r : Kin u v = steps_same u ss' v (next_typed t s u x) xs in
    record {
      kin_input = r.kin_input ∙ k.kin_input;
      kin_typed = subst (λ A. NetTyped [] [] v.net A t.output) w.same_input (subst (NetTyped [] [] v.net u.input) w.same_output r.kin_typed);
      kin_same = same-trans [] [] t.input t.net u.net v.net k.kin_same (subst (λ A. SameOutputs [] [] A u.net v.net) w.same_input r.kin_same);
    }

derives_kin : (source target : TypedNetwork) (steps : List Step) (h : HasItsTypes source) (x : Derives source target steps) → Kin source x.last
derives_kin source target steps h x = steps_same source steps x.last h x.leads

pub derives_same : DerivedSameLaw
derives_same source target steps h x = subst (SameOutputs [] [] source.input source.net) x.ends (derives_kin source target steps h x).kin_same

pub derives_stream : SameStreamLaw
derives_stream source target steps xs h x j = derives_same source target steps h x closed closed (alike-refl [] [] closed closed_typed) xs j

pub derives_types : KeptTypesLaw
derives_types source target steps h k x =
    let r : Kin source x.last = derives_kin source target steps h x in
    let d : NetTyped [] [] target.net source.input source.output = subst (λ f. NetTyped [] [] f source.input source.output) x.ends r.kin_typed in
    let k' : NetTyped [] [] target.net source.input target.output = subst (λ A. NetTyped [] [] target.net A target.output) (sym x.same_input) k in
    (x.same_input, one-output-type [] [] target.net source.input source.output target.output d k')
