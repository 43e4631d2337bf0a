-- The walk that lists steps: what is known on the way down, and the steps behind one another.
use Rattle.std.proofs.Common.{◌≡◌, ◌⊎◌, inl, inr, ℕ, ◌+◌, ◌-◌, ◌*◌, ◌/◌, ◌≤◌, leb, leb-true, leb-false, le-leb, Bool, true, false, ◌&&◌, List, [], ◌∷◌, ◌++◌, Option, Some, None, IfSome, IfOk, Result, Ok, Err, option_map, Contains, refl, sym, ap, ◌∙◌, subst, arith, append_assoc}
use Rattle.std.specs.Prelude.{MatchOption, option_and_then}
use Rattle.std.proofs.lemmas.List.{append-nil, map-append}
use Rattle.std.proofs.lemmas.List.Elements.{All-nil, All-cons, All-append, All-contains, Contains-append_left, Contains-append_right, Contains-append_cases}
use Rattle.std.proofs.lemmas.Option.{none-some, same_Some}
use Rattle.std.proofs.lemmas.Nat.{mul-le}
use Rattle.std.proofs.Math.Nat.{div-mul-le_self, mul_comm}
use Rattle.sample_core.specs.TypeTree.{TypeTree}
use Rattle.sample_core.proofs.Numbers.{parts_of}
use Rattle.leaf_core.specs.Expression.{Expression, height_of, nodes_in}
use Rattle.leaf_core.specs.ExpressionLimits.{expression_fits, TypedWithin, ExpressionTypedWithin}
use Rattle.leaf_core.specs.Parts.{part, with_part, with_part_at}
use Rattle.leaf_core.specs.PartWalk.{part_input, part_type_at}
use Rattle.leaf_core.proofs.WithinParts.{WithinPart, within_part}
use Rattle.leaf_core.proofs.PartTypes.{value_is}
use Rattle.net_tree.specs.Network.{Network}
use Rattle.net_tree.specs.Weight.{weight}
use Rattle.net_tree.specs.Height.{height}
use Rattle.net_tree.specs.Place.{Tree, a_network, a_leaf, child}
use Rattle.net_tree.specs.LawStep.{Step, part_of}
use Rattle.net_tree.specs.declared.law_step.Tree as C
use Rattle.net_tree.specs.declared.law_step.Law.{Law}
use Rattle.net_tree.specs.declared.law_step.Direction.TheVariants.{Forward}
use Rattle.net_syntax.specs.Placed.{Placed, placed, placed_at, replaced, tree_child}
use Rattle.net_syntax.specs.Standing.{Standing, alone, TreeWithin}
use Rattle.net_syntax.specs.StandingWalk as W
use Rattle.net_meaning.specs.TypedNetwork.{TypedNetwork}
use Rattle.net_meaning.specs.NetworkLimits.{WithinLimits, NetTypedWithin}
use Rattle.net_types.specs.KeptTypes.{same_type, kept_in_leaf, both_there, type_kept}
use Rattle.net_types.proofs.Holes.{Hole, hole, found_there}
use Rattle.net_types.proofs.Rewritings.{rewritten, none_unkept, the_net}
use Rattle.cert_check.specs.TreeAnswer.{TreeAnswer}
use Rattle.cert_check.specs.Derives.{Next}
use Rattle.cert_check.specs.StepAnswers.{IsTreeAnswer}
use Rattle.cert_check.proofs.StandsNow.{next_there}
use Rattle.net_opt.specs.Optimising.{forward_step}
use Rattle.net_opt.specs.Order.{Before}
use Rattle.net_opt.specs.Walk.{Reached}
use Rattle.net_opt.proofs.Tried.{refused_at}
use Rattle.net_opt.proofs.Walked.{found_inside, reached_inside}
use Rattle.net_view.specs.Listed.{InOrder, Lists, AddsPositions, IsInside}
use Rattle.net_view.specs.Possible.{Possible, EarlierStep, earlier_position, IsFoundBy, IsPossible, ListsSteps, ArePossible, ArePossibleAt, MayBeTaken, changing, possible_of}
use Rattle.net_view.specs.Spots.{IsRoomy, IsRoomyTree, IsNewRoom, IsRoomBelow, fits_there, kept_in_room, kept_below, IsAround, MayStand, GrowsLittle, AtPositions, AddsSteps, AddsStepsBelow}
use Rattle.net_view.specs.Walked.{inside_tree}
use Rattle.net_view.specs.declared.possible.PossibleStep.{PossibleStep}
use Rattle.net_view.proofs.Listings.{order_mapped, lists_same, lists_joined}
use Rattle.net_view.proofs.Paths.{IsUpTo, inside_at, order_behind, paths_begin, paths_more, paths_end, found_positions, no_positions}
use Rattle.net_view.proofs.Stepping.{steps_in, no_positions_yet, steps_more, all_possible}
use Rattle.net_view.proofs.Putting.{Has, Put, what_is_there, part_put}
use Rattle.net_view.proofs.Heavier.{whole_times, whole_light}
use Rattle.net_view.proofs.Higher.{whole_rises, whole_low}

-- the walk begins at the root
pub around_start : (t : TypedNetwork) (p : List ℕ) (c : Placed) (S : Standing) (high more : ℕ) → WithinLimits t → p ≡ [] → S ≡ alone t.input
    → c ≡ placed 0 0 (a_network t.net) → IsAround t p c S high more
around_start t p c S high more w way stands is =
    subst (λ z. IsAround t z c S high more) (sym way)
    (subst (λ z. IsAround t [] z S high more) (sym is)
    (subst (λ z. IsAround t [] (placed 0 0 (a_network t.net)) z high more) (sym stands) (record {
      output = t.output;
      typed = w.fits.typed;
      room = tt;
      kept = λ q new. refl;
    })))

-- a child of a typed network stands where the code finds it, and is typed there
record Below (S : Standing) (f : Network Expression) (k : ℕ) (v : Tree Expression) : Type 0 where
  place : Standing
  found : W.inside S f k ≡ Some place
  output : TypeTree
  typed : TreeWithin place v output

below : (S : Standing) (f : Network Expression) (k : ℕ) (v : Tree Expression) (B : TypeTree) → NetTypedWithin S.params S.olds f S.input B → child f k ≡ Some v → Below S f k v
below S f k v B d e =
    let h : Hole S.params S.olds S.input B f k v = value_is (Hole S.params S.olds S.input B f k) e (hole d k) in
    record { place = h.place; found = found_there d e h.stands; output = h.out; typed = h.typed }

-- what keeps the type inside a network is what keeps it inside its child
child_kept : (S R : Standing) (f : Network Expression) (k : ℕ) (v : Tree Expression) (q : List ℕ) (new : Tree Expression) → child f k ≡ Some v → W.inside S f k ≡ Some R
    → type_kept S (a_network f) (k ∷ q) new ≡ type_kept R v q new
child_kept S R f k v q new e i =
    ap (λ z. both_there z (W.inside S f k) (λ c Q. type_kept Q c q new)) e ∙ ap (λ z. both_there (Some v) z (λ c Q. type_kept Q c q new)) i

-- and inside a whole expression, by what the limits leave it
kept_anew : (R : Standing) (v : Tree Expression) (B : TypeTree) (high more : ℕ) → TreeWithin R v B → IsNewRoom v high more → (q : List ℕ) (new : Tree Expression)
    → type_kept R v q new ≡ kept_below high more R v q new
kept_anew R (a_network f) B high more d room q new = refl
kept_anew R (a_leaf e) B high more d room q (a_network s) = refl
kept_anew R (a_leaf e) B high more d room q (a_leaf s) = go (with_part_at e q s)
  where
    left : (high ≡ 256) × (nodes_in e + more ≡ 100000)
    left = room d.whole_fits

    go : (o : Option Expression) → kept_in_leaf R e q o ≡ kept_in_room high more R e q o
    go None = refl
    go (Some v) =
        let same : Bool = same_type (part_type_at R.params R.input e q) (part_type_at R.params R.input v q) in
        ap (λ z. (leb (height_of v) z && leb (nodes_in v) 100000) && same) (sym left.0) ∙ ap (λ z. (leb (height_of v) high && leb (nodes_in v) z) && same) (sym left.1)

new_room : (R : Standing) (v : Tree Expression) (B : TypeTree) (high more : ℕ) → TreeWithin R v B → IsNewRoom v high more → IsRoomyTree v high more
new_room R (a_network f) B high more d room = tt
new_room R (a_leaf e) B high more d room =
    let left : (high ≡ 256) × (nodes_in e + more ≡ 100000) = room d.whole_fits in
    record { low = omega (arith, left.0, d.whole_fits.shallow); limit = omega (arith, left.0); few = omega (arith, left.1) }

around_child : (t : TypedNetwork) (p r : List ℕ) (k high more high' more' : ℕ) (f : Network Expression) (c d : Placed) (S R : Standing) → c.tree ≡ a_network f
    → r ≡ p ++ k ∷ [] → IsAround t p c S high more → child f k ≡ Some d.tree → W.inside S f k ≡ Some R → IsNewRoom d.tree high' more' → IsAround t r d R high' more'
around_child t p r k high more high' more' f c d S R is way a e i room =
    let b : Below S f k d.tree = below S f k d.tree a.output (subst (λ z. TreeWithin S z a.output) is a.typed) e in
    let at : b.place ≡ R = same_Some b.place R (sym b.found ∙ i) in
    let typed : TreeWithin R d.tree b.output = subst (λ z. TreeWithin z d.tree b.output) at b.typed in
    record {
      output = b.output;
      typed = typed;
      room = new_room R d.tree b.output high' more' typed room;
      kept = λ q new.
          ap (λ (z : List ℕ). type_kept (alone t.input) (a_network t.net) z new) (ap (λ (z : List ℕ). z ++ q) way ∙ append_assoc p (k ∷ []) q)
          ∙ a.kept (k ∷ q) new
          ∙ ap (λ z. kept_below high more S z (k ∷ q) new) is
          ∙ child_kept S R f k d.tree q new e i
          ∙ kept_anew R d.tree b.output high' more' typed room q new;
    }

-- two tests that say the same
same_test : (a b c d : ℕ) → (a ≤ b → c ≤ d) → (c ≤ d → a ≤ b) → leb a b ≡ leb c d
same_test a b c d to from = go (leb a b) (leb c d) refl refl
  where
    go : (x y : Bool) → leb a b ≡ x → leb c d ≡ y → x ≡ y
    go true true i j = refl
    go false false i j = refl
    go true false i j = absurd (omega (arith, to (leb-true a b i), leb-false c d j))
    go false true i j = absurd (omega (arith, from (leb-true c d j), leb-false a b i))

all_same : (a b c d : Bool) (x y z w : Option TypeTree) → a ≡ c → b ≡ d → x ≡ z → y ≡ w → ((a && b) && same_type x y) ≡ ((c && d) && same_type z w)
all_same a b c d x y z w i j k l =
    ap (λ u. (u && b) && same_type x y) i ∙ (ap (λ u. (c && u) && same_type x y) j ∙ (ap (λ u. (c && d) && same_type u y) k ∙ ap (λ u. (c && d) && same_type z u) l))

-- what is found at a path, found at its rest in the part
type_inside : (Ps : List TypeTree) (A D : TypeTree) (e x : Expression) (k : ℕ) (q : List ℕ) → part e k ≡ Some x → part_input Ps A e k ≡ Some D
    → part_type_at Ps A e (k ∷ q) ≡ part_type_at Ps D x q
type_inside Ps A D e x k q j f =
    ap (option_and_then (λ z. option_and_then (λ X. part_type_at Ps X z q) (part_input Ps A e k))) j ∙ ap (option_and_then (λ X. part_type_at Ps X x q)) f

-- what keeps the type inside an expression is what keeps it inside its part, where the whole gets higher and larger as the part does
module _ (S : Standing) (e x : Expression) (k high more : ℕ) (B : TypeTree) (room : IsRoomy e high more) (there : part e k ≡ Some x)
    (w : WithinPart S.params S.input B e k x) where
  abbrev Changed : Expression → Expression → Type 0
  Changed d v = (part v k ≡ Some d) × (part_input S.params S.input v k ≡ Some w.input) × (TypedWithin d S.params w.input w.output → TypedWithin v S.params S.input B)

  kept_with : (q : List ℕ) (d : Expression) (o : Option Expression) → Has o (λ v. Put x d (height_of e) (nodes_in e) (height_of v) (nodes_in v)) → IfSome o (Changed d)
      → kept_in_room high more S e (k ∷ q) o ≡ kept_in_room (high - 1) more (W.taking S w.input) x q (Some d)
  kept_with q d None h i = absurd h
  kept_with q d (Some v) h i =
      all_same (leb (height_of v) high) (leb (nodes_in v) (nodes_in e + more)) (leb (height_of d) (high - 1)) (leb (nodes_in d) (nodes_in x + more))
      (part_type_at S.params S.input e (k ∷ q)) (part_type_at S.params S.input v (k ∷ q)) (part_type_at S.params w.input x q) (part_type_at S.params w.input d q)
      (same_test (height_of v) high (height_of d) (high - 1) (λ l. omega (arith, l, h.above)) (λ l. omega (arith, l, h.below, h.lower, room.low)))
      (same_test (nodes_in v) (nodes_in e + more) (nodes_in d) (nodes_in x + more) (λ l. omega (arith, l, h.nodes)) (λ l. omega (arith, l, h.nodes)))
      (type_inside S.params S.input w.input e x k q there w.found) (type_inside S.params S.input w.input v d k q i.0 i.1)

  kept_changed : (q : List ℕ) (o : Option Expression)
      → kept_in_room high more S e (k ∷ q) (option_and_then (with_part e k) o) ≡ kept_in_room (high - 1) more (W.taking S w.input) x q o
  kept_changed q None = refl
  kept_changed q (Some d) =
      kept_with q d (with_part e k d)
      (value_is (λ z. Has (with_part e k d) (λ v. Put z d (height_of e) (nodes_in e) (height_of v) (nodes_in v))) there (part_put e k d)) (w.put d)

  part_kept : (q : List ℕ) (new : Tree Expression) → kept_below high more S (a_leaf e) (k ∷ q) new ≡ kept_below (high - 1) more (W.taking S w.input) (a_leaf x) q new
  part_kept q (a_network s) = refl
  part_kept q (a_leaf s) =
      ap (λ o. kept_in_room high more S e (k ∷ q) (option_and_then (λ z. option_and_then (with_part e k) (with_part_at z q s)) o)) there
      ∙ kept_changed q (with_part_at x q s)

  -- there is as much room as there was
  part_room : IsRoomy x (high - 1) more
  part_room =
      let h = value_is (λ z. Has (with_part e k x) (λ v. Put z x (height_of e) (nodes_in e) (height_of v) (nodes_in v))) there (part_put e k x) in
      let put = what_is_there (λ v. Put x x (height_of e) (nodes_in e) (height_of v) (nodes_in v)) (with_part e k x) h in
      record { low = omega (arith, put.2.lower, room.low); limit = omega (arith, room.limit); few = omega (arith, put.2.fewer, room.few) }

  part_within : TreeWithin (W.taking S w.input) (a_leaf x) w.output
  part_within = record {
    whole_fits = record { shallow = omega (arith, part_room.low, part_room.limit); small = omega (arith, part_room.few) };
    checked = w.typed;
  }

around_part : (t : TypedNetwork) (p r : List ℕ) (k high more : ℕ) (e x : Expression) (c d : Placed) (S R : Standing) → c.tree ≡ a_leaf e → r ≡ p ++ k ∷ []
    → IsAround t p c S high more → part e k ≡ Some x → d.tree ≡ a_leaf x → inside_tree S (a_leaf e) k ≡ Some R → IsAround t r d R (high - 1) more
around_part t p r k high more e x c d S R is way a there own stands =
    let whole : ExpressionTypedWithin e S.params S.input a.output = subst (λ z. TreeWithin S z a.output) is a.typed in
    let room : IsRoomy e high more = subst (λ z. IsRoomyTree z high more) is a.room in
    let w : WithinPart S.params S.input a.output e k x =
    value_is (WithinPart S.params S.input a.output e k) there (within_part whole.checked.given whole.checked.fits k) in
    let at : W.taking S w.input ≡ R = same_Some (W.taking S w.input) R (sym (ap (option_map (W.taking S)) w.found) ∙ stands) in
    record {
      output = w.output;
      typed = subst (λ z. TreeWithin R z w.output) (sym own) (subst (λ z. TreeWithin z (a_leaf x) w.output) at (part_within S e x k high more a.output room there w));
      room = subst (λ z. IsRoomyTree z (high - 1) more) (sym own) (part_room S e x k high more a.output room there w);
      kept = λ q new.
          ap (λ (z : List ℕ). type_kept (alone t.input) (a_network t.net) z new) (ap (λ (z : List ℕ). z ++ q) way ∙ append_assoc p (k ∷ []) q)
          ∙ a.kept (k ∷ q) new
          ∙ ap (λ z. kept_below high more S z (k ∷ q) new) is
          ∙ part_kept S e x k high more a.output room there w q new
          ∙ ap (λ z. kept_below (high - 1) more z (a_leaf x) q new) at
          ∙ ap (λ z. kept_below (high - 1) more R z q new) (sym own);
    }

-- the walk goes on inside what it has come to
around_inside : (t : TypedNetwork) (p r : List ℕ) (k high more high' more' : ℕ) (c d : Placed) (S R : Standing) → r ≡ p ++ k ∷ [] → IsAround t p c S high more
    → placed_at c.params c.olds c.tree (k ∷ []) ≡ Some d → inside_tree S c.tree k ≡ Some R → IsRoomBelow c.tree d.tree high more high' more'
    → IsAround t r d R high' more'
around_inside t p r k high more high' more' c d S R way a found stands left = go c.tree refl (found_inside c d k found) stands left
  where
    in_part : (e : Expression) → c.tree ≡ a_leaf e → (o : Option Expression) → part e k ≡ o → option_map a_leaf o ≡ Some d.tree → inside_tree S (a_leaf e) k ≡ Some R
        → (high' ≡ high - 1) × (more' ≡ more) → IsAround t r d R high' more'
    in_part e is None i h j l = absurd (none-some d.tree h)
    in_part e is (Some x) i h j l =
        subst (λ z. IsAround t r d R z more') (sym l.0)
        (subst (λ z. IsAround t r d R (high - 1) z) (sym l.1) (around_part t p r k high more e x c d S R is way a i (sym (same_Some (a_leaf x) d.tree h)) j))

    go : (u : Tree Expression) → c.tree ≡ u → tree_child u k ≡ Some d.tree → inside_tree S u k ≡ Some R → IsRoomBelow u d.tree high more high' more'
        → IsAround t r d R high' more'
    go (a_network f) is i j l = around_child t p r k high more high' more' f c d S R is way a i j l
    go (a_leaf e) is i j l = in_part e is (part e k) refl i j l

pub spot_inside : (t : TypedNetwork) (p r : List ℕ) (k high more high' more' : ℕ) (c d e : Placed) (S R : Standing) → r ≡ p ++ k ∷ [] → Reached t p c
    → IsAround t p c S high more → placed_at c.params c.olds c.tree (k ∷ []) ≡ Some d → inside_tree S c.tree k ≡ Some R → e ≡ d
    → IsRoomBelow c.tree d.tree high more high' more' → Reached t r e × IsAround t r e R high' more'
spot_inside t p r k high more high' more' c d e S R way reached around found stands same left = (
  subst (λ z. Reached t r z) (sym same) (subst (λ z. Reached t z d) (sym way) (reached_inside t p k c d reached found)),
  subst (λ z. IsAround t r z R high' more') (sym same) (around_inside t p r k high more high' more' c d S R way around found stands left),
)

pub stands_below : (t : TypedNetwork) (p : List ℕ) (k high more : ℕ) (c d : Placed) (S : Standing) → IsAround t p c S high more
    → placed_at c.params c.olds c.tree (k ∷ []) ≡ Some d → inside_tree S c.tree k ≡ None → ⊥
stands_below t p k high more c d S a found none = go c.tree a.typed (found_inside c d k found) none
  where
    in_part : (e : Expression) → ExpressionTypedWithin e S.params S.input a.output → (o : Option Expression) → part e k ≡ o → option_map a_leaf o ≡ Some d.tree
        → inside_tree S (a_leaf e) k ≡ None → ⊥
    in_part e whole None i h j = none-some d.tree h
    in_part e whole (Some x) i h j =
        let w : WithinPart S.params S.input a.output e k x =
        value_is (WithinPart S.params S.input a.output e k) i (within_part whole.checked.given whole.checked.fits k) in
        none-some (W.taking S w.input) (sym j ∙ ap (option_map (W.taking S)) w.found)

    go : (u : Tree Expression) → TreeWithin S u a.output → tree_child u k ≡ Some d.tree → inside_tree S u k ≡ None → ⊥
    go (a_network f) typed i j = let b : Below S f k d.tree = below S f k d.tree a.output typed i in none-some b.place (sym j ∙ b.found)
    go (a_leaf e) typed i j = in_part e typed (part e k) refl i j

-- what the measures tell
pub little : (t : TypedNetwork) (g h : Network Expression) (bw bh aw ah m times rise : ℕ) → WithinLimits t → bw ≡ weight g [] → bh ≡ height g [] → aw ≡ weight h []
    → ah ≡ height h [] → t.weight ≤ m → times ≡ 1000000 / m → rise ≡ 256 - t.height → aw ≤ bw * times → ah ≤ bh + rise → GrowsLittle t g h
little t g h bw bh aw ah m times rise w is_bw is_bh is_aw is_ah most is_times is_rise heavy high =
    let all : times * m ≤ 1000000 = subst (λ z. z * m ≤ 1000000) (sym is_times) (div-mul-le_self 1000000 m) in
    let some : times * t.weight ≤ times * m = mul-le times t.weight times m (omega arith) most in
    let turned : bw * times ≡ times * weight g [] = mul_comm bw times ∙ ap (λ z. times * z) is_bw in
    record {
      times = times;
      rise = rise;
      light = omega (arith, some, all);
      low = omega (arith, is_rise, w.its_height, w.fits.low);
      heavier = omega (arith, is_aw, heavy, turned);
      higher = omega (arith, is_ah, is_bh, high);
    }

-- the network with the tree at the position, within the limits of weight and height
record Fitting (t : TypedNetwork) (p : List ℕ) (new : Tree Expression) : Type 0 where
  net : Network Expression
  made : replaced (a_network t.net) p new ≡ Some (a_network net)
  light : weight net [] ≤ 1000000
  low : height net [] ≤ 256

fitting : (t : TypedNetwork) (p : List ℕ) (new : Tree Expression) (u v : Network Expression) → replaced (a_network t.net) p new ≡ Some (a_network u)
    → replaced (a_network t.net) p new ≡ Some (a_network v) → weight u [] ≤ 1000000 → height v [] ≤ 256 → Fitting t p new
fitting t p new u v i j light low = record {
  net = u;
  made = i;
  light = light;
  low = subst (λ z. height z [] ≤ 256) (the_net v u (same_Some (a_network v) (a_network u) (sym j ∙ i))) low;
}

network_fits : (t : TypedNetwork) (p : List ℕ) (c : Placed) (g s : Network Expression) → Reached t p c → c.tree ≡ a_network g → c.olds ≡ 0 → GrowsLittle t g s
    → Fitting t p (a_network s)
network_fits t p c g s r is none l =
    let at : placed_at 0 0 (a_network t.net) p ≡ Some (placed c.params 0 (a_network g)) =
    r.stands ∙ (ap (λ z. Some (placed c.params c.olds z)) is ∙ ap (λ z. Some (placed c.params z (a_network g))) none) in
    let heavy = whole_times l.times t.net p g s c.params at l.heavier in
    let high = whole_rises l.rise t.net p g s c.params at l.higher in
    let light : l.times * weight t.net [] ≤ 1000000 = subst (λ z. l.times * z ≤ 1000000) r.within.its_weight l.light in
    fitting t p (a_network s) heavy.0 high.0 heavy.1 high.1 (omega (arith, heavy.2, light)) (omega (arith, high.2, l.low, r.within.its_height))

part_fits : (t : TypedNetwork) (p : List ℕ) (c : Placed) (e s : Expression) → Reached t p c → c.tree ≡ a_leaf e → Fitting t p (a_leaf s)
part_fits t p c e s r is =
    let at : placed_at 0 0 (a_network t.net) p ≡ Some (placed c.params c.olds (a_leaf e)) = r.stands ∙ ap (λ z. Some (placed c.params c.olds z)) is in
    let heavy = whole_light t.net p e s c.params c.olds at in
    let high = whole_low t.net p e s c.params c.olds at in
    fitting t p (a_leaf s) heavy.0 high.0 heavy.1 high.1 (omega (arith, heavy.2, r.within.fits.light)) (omega (arith, high.2, r.within.fits.low))

-- what the types tell
told : (t : TypedNetwork) (p : List ℕ) (new : Tree Expression) (kept : Bool) → WithinLimits t → Fitting t p new
    → type_kept (alone t.input) (a_network t.net) p new ≡ kept → MayStand t p new kept
told t p new true w f e = (
  record { input = t.input; output = t.output; net = f.net; weight = weight f.net []; height = height f.net [] },
  rewritten t p new t.input t.output f.net (weight f.net []) (height f.net []) w f.made refl refl e (omega (arith, f.light)) (omega (arith, f.low)) f.light f.low,
)
told t p new false w f e = none_unkept t p new f.net w f.made e

kept_there : (t : TypedNetwork) (p : List ℕ) (c : Placed) (S : Standing) (high more : ℕ) (u new : Tree Expression) → IsAround t p c S high more → c.tree ≡ u
    → type_kept (alone t.input) (a_network t.net) p new ≡ kept_below high more S u [] new
kept_there t p c S high more u new a is =
    ap (λ (z : List ℕ). type_kept (alone t.input) (a_network t.net) z new) (sym (append-nil p)) ∙ (a.kept [] new ∙ ap (λ z. kept_below high more S z [] new) is)

-- in a network
pub network_stands : (t : TypedNetwork) (p : List ℕ) (c : Placed) (S : Standing) (high more : ℕ) (g s : Network Expression) (kept : Bool) → Reached t p c
    → IsAround t p c S high more → c.tree ≡ a_network g → c.olds ≡ 0 → GrowsLittle t g s → kept ≡ type_kept S (a_network g) [] (a_network s)
    → MayStand t p (a_network s) kept
network_stands t p c S high more g s kept r a is none l same =
    told t p (a_network s) kept r.within (network_fits t p c g s r is none l) (kept_there t p c S high more (a_network g) (a_network s) a is ∙ sym same)

-- in an expression: one that is within the room is within the limits
fits_alone : (e s : Expression) (high more : ℕ) → IsRoomy e high more → fits_there high more e s ≡ true → expression_fits s ≡ true
fits_alone e s high more room fits =
    let both = parts_of (leb (height_of s) high) (leb (nodes_in s) (nodes_in e + more)) fits in
    let low : leb (height_of s) 256 ≡ true = le-leb (height_of s) 256 (omega (arith, leb-true (height_of s) high both.0, room.limit)) in
    let few : leb (nodes_in s) 100000 ≡ true =
    le-leb (nodes_in s) 100000 (omega (arith, leb-true (nodes_in s) (nodes_in e + more) both.1, room.few)) in
    ap (λ z. z && leb (nodes_in s) 100000) low ∙ few

pub part_stands : (t : TypedNetwork) (p : List ℕ) (c : Placed) (S : Standing) (high more : ℕ) (e s : Expression) (kept : Bool) → Reached t p c
    → IsAround t p c S high more → c.tree ≡ a_leaf e → fits_there high more e s ≡ true → kept ≡ type_kept S (a_leaf e) [] (a_leaf s) → MayStand t p (a_leaf s) kept
part_stands t p c S high more e s kept r a is fits same =
    let room : IsRoomy e high more = subst (λ z. IsRoomyTree z high more) is a.room in
    let types : Bool = same_type (part_type_at S.params S.input e []) (part_type_at S.params S.input s []) in
    told t p (a_leaf s) kept r.within (part_fits t p c e s r is)
    (kept_there t p c S high more (a_leaf e) (a_leaf s) a is ∙ (ap (λ z. z && types) (fits ∙ sym (fits_alone e s high more room fits)) ∙ sym same))

pub part_too_large : (t : TypedNetwork) (p : List ℕ) (c : Placed) (S : Standing) (high more : ℕ) (e s : Expression) → Reached t p c → IsAround t p c S high more
    → c.tree ≡ a_leaf e → fits_there high more e s ≡ false → MayStand t p (a_leaf s) false
part_too_large t p c S high more e s r a is fits =
    told t p (a_leaf s) false r.within (part_fits t p c e s r is)
    (kept_there t p c S high more (a_leaf e) (a_leaf s) a is
    ∙ ap (λ z. z && same_type (part_type_at S.params S.input e []) (part_type_at S.params S.input s [])) fits)

-- the step by a law whose answer may stand there, and none where it may not
pub found_by : (t : TypedNetwork) (p : List ℕ) (law : Law) (c : Placed) (new : Tree Expression) (found : Option Possible) → Reached t p c
    → TreeAnswer c.olds law Forward c.tree None new → MayStand t p new true → found ≡ Some (changing (forward_step law p) c.tree new) → IsFoundBy t p law found
found_by t p law c new found r answer may is =
    let next : Next t (forward_step law p) may.0 = record {
      new = new;
      answered = record { place = c; found = r.stands; answered = answer };
      rewritten = may.1;
    } in
    subst (IsFoundBy t p law) (sym is) (
      record {
        to = may.0;
        changes = record {
          next = next;
          before = ap (option_map (λ (d : Placed). d.tree)) r.stands;
          after = next_there t may.0 (forward_step law p) next;
        };
      },
      refl,
    )

pub none_by : (t : TypedNetwork) (p : List ℕ) (law : Law) (c : Placed) (new : Tree Expression) → Reached t p c → TreeAnswer c.olds law Forward c.tree None new
    → MayStand t p new false → IsFoundBy t p law None
none_by t p law c new r answer may = refused_at t p c law new r.stands answer may

-- and none where it has no answer
pub unanswered : (t : TypedNetwork) (p : List ℕ) (law : Law) (c : Placed) (answer : Option C.Tree) → Reached t p c → answer ≡ None
    → IsTreeAnswer c.olds law Forward c.tree None answer → IsFoundBy t p law None
unanswered t p law c answer r none h = λ u n.
    let same : n.answered.place ≡ c = same_Some n.answered.place c (sym n.answered.found ∙ r.stands) in
    let no : (new : Tree Expression) → TreeAnswer c.olds law Forward c.tree None new → ⊥ = subst (IsTreeAnswer c.olds law Forward c.tree None) none h in
    no n.new (subst (λ (z : Placed). TreeAnswer z.olds law Forward z.tree None n.new) same n.answered.answered)

-- what the code answers
pub ok_network : {E : Type 0} (t : TypedNetwork) (p : List ℕ) (c : Placed) (S : Standing) (high more : ℕ) (g s : Network Expression) (r : Result Bool E) → Reached t p c
    → IsAround t p c S high more → c.tree ≡ a_network g → c.olds ≡ 0 → GrowsLittle t g s → IfOk r (λ kept. kept ≡ type_kept S (a_network g) [] (a_network s))
    → IfOk r (MayStand t p (a_network s))
ok_network t p c S high more g s (Ok kept) r a is none l same = network_stands t p c S high more g s kept r a is none l same
ok_network t p c S high more g s (Err m) r a is none l same = tt

pub ok_part : {E : Type 0} (t : TypedNetwork) (p : List ℕ) (c : Placed) (S : Standing) (high more : ℕ) (e s : Expression) (r : Result Bool E) → Reached t p c
    → IsAround t p c S high more → c.tree ≡ a_leaf e → fits_there high more e s ≡ true → IfOk r (λ kept. kept ≡ type_kept S (a_leaf e) [] (a_leaf s))
    → IfOk r (MayStand t p (a_leaf s))
ok_part t p c S high more e s (Ok kept) r a is fits same = part_stands t p c S high more e s kept r a is fits same
ok_part t p c S high more e s (Err m) r a is fits same = tt

pub answers : (law : Law) (c : Placed) (new : C.Tree) (answer : Option C.Tree) → answer ≡ Some new → IsTreeAnswer c.olds law Forward c.tree None answer
    → TreeAnswer c.olds law Forward c.tree None (part_of new)
answers law c new answer e h = subst (IsTreeAnswer c.olds law Forward c.tree None) e h

pub ok_found : {E : Type 0} (t : TypedNetwork) (p : List ℕ) (law : Law) (c : Placed) (new : Tree Expression) (r : Result (Option PossibleStep) E) → Reached t p c
    → TreeAnswer c.olds law Forward c.tree None new → MayStand t p new true
    → IfOk r (λ z. option_map possible_of z ≡ Some (changing (forward_step law p) c.tree new)) → IfOk r (λ z. IsFoundBy t p law (option_map possible_of z))
ok_found t p law c new (Ok z) r answer may is = found_by t p law c new (option_map possible_of z) r answer may is
ok_found t p law c new (Err m) r answer may is = tt

-- each of one list comes before each of another
order_across : {A : Type 0} (E : A → A → Type 0) (xs ys : List A) → InOrder E (xs ++ ys) → (x y : A) → Contains xs x → Contains ys y → E x y
order_across E [] ys h x y c d = absurd (omega (arith, c.1))
order_across E (w ∷ xs) ys h x y c d = go (order_across E xs ys h.1 x y) (Contains-append_cases (w ∷ []) xs x c)
  where
    go : (Contains xs x → Contains ys y → E x y) → Contains (w ∷ []) x ⊎ Contains xs x → E x y
    go later (inl e) = All-contains (λ z. E z y) (w ∷ []) x
        (All-cons (λ z. E z y) w [] (All-contains (E w) (xs ++ ys) y h.0 (Contains-append_right xs ys y d)) (All-nil (λ z. E z y))) e
    go later (inr e) = later e d

-- steps at some positions, and at others behind them
at_both : (t : TypedNetwork) (ps qs : List (List ℕ)) (s : Step) → AtPositions t ps s ⊎ AtPositions t qs s → AtPositions t (ps ++ qs) s
at_both t ps qs s (inl b) = (b.0, Contains-append_left ps qs s.position b.1)
at_both t ps qs s (inr b) = (b.0, Contains-append_right ps qs s.position b.1)

at_either : (t : TypedNetwork) (ps qs : List (List ℕ)) (s : Step) → MayBeTaken t s → Contains ps s.position ⊎ Contains qs s.position → AtPositions t ps s ⊎ AtPositions t qs s
at_either t ps qs s may (inl c) = inl (may, c)
at_either t ps qs s may (inr c) = inr (may, c)

steps_joined : (t : TypedNetwork) (ps qs : List (List ℕ)) (xs ys : List Possible) → InOrder Before (ps ++ qs) → ListsSteps t (AtPositions t ps) xs
    → ListsSteps t (AtPositions t qs) ys → ListsSteps t (AtPositions t (ps ++ qs)) (xs ++ ys)
steps_joined t ps qs xs ys order h k = record {
  all = subst (Lists EarlierStep (AtPositions t (ps ++ qs))) (sym (map-append (λ (z : Possible). z.step) xs ys))
      (lists_same EarlierStep (λ s. AtPositions t ps s ⊎ AtPositions t qs s) (AtPositions t (ps ++ qs)) (at_both t ps qs)
      (λ s b. at_either t ps qs s b.0 (Contains-append_cases ps qs s.position b.1)) (steps_in xs ++ steps_in ys)
      (lists_joined EarlierStep (AtPositions t ps) (AtPositions t qs)
      (λ s z a b. earlier_position (order_across Before ps qs order s.position z.position a.1 b.1)) (steps_in xs) (steps_in ys) h.all k.all));
  each = All-append (IsPossible t) xs ys h.each k.each;
}

-- the positions of the paths are in their order
places_in_order : (p : List ℕ) (So : List ℕ → Type 0) (ps : List (List ℕ)) → AddsPositions p So [] ps → InOrder Before ps
places_in_order p So ps x = subst (InOrder Before) (sym x.added) (order_mapped Before Before (λ q. p ++ q) (order_behind p) x.paths x.listed.in_order)

-- the steps of the place itself
pub steps_begin : (t : TypedNetwork) (p : List ℕ) (c : Placed) (before here now : List Possible) → now ≡ before ++ here → ArePossibleAt t p here
    → AddsSteps t p (IsUpTo c 0) before now
steps_begin t p c before here now e h = record {
  steps = here;
  added = e;
  positions = p ∷ [];
  there = paths_begin p p c [] (p ∷ []) refl refl;
  listed = steps_more t [] p [] here (All-nil (Before p), tt) (no_positions_yet t [] refl) h;
}

-- and those of what is inside at a number
pub steps_onward : (t : TypedNetwork) (p r : List ℕ) (k : ℕ) (c d : Placed) (before mid now : List Possible) → r ≡ p ++ k ∷ []
    → placed_at c.params c.olds c.tree (k ∷ []) ≡ Some d → AddsSteps t p (IsUpTo c k) before mid → AddsSteps t r (IsInside d) mid now
    → AddsSteps t p (IsUpTo c (k + 1)) before now
steps_onward t p r k c d before mid now way found x y =
    let behind : AddsPositions r (IsInside d) x.positions (x.positions ++ y.positions) =
    record { paths = y.there.paths; added = ap (λ z. x.positions ++ z) y.there.added; listed = y.there.listed } in
    let there : AddsPositions p (IsUpTo c (k + 1)) [] (x.positions ++ y.positions) =
    paths_more p r k c d [] x.positions (x.positions ++ y.positions) way found x.there behind in
    record {
      steps = x.steps ++ y.steps;
      added = y.added ∙ ap (λ z. z ++ y.steps) x.added ∙ append_assoc before x.steps y.steps;
      positions = x.positions ++ y.positions;
      there = there;
      listed = steps_joined t x.positions y.positions x.steps y.steps
          (places_in_order p (IsUpTo c (k + 1)) (x.positions ++ y.positions) there) x.listed y.listed;
    }

pub steps_end : (t : TypedNetwork) (p : List ℕ) (k : ℕ) (c : Placed) (before now : List Possible) → placed_at c.params c.olds c.tree (k ∷ []) ≡ None
    → AddsSteps t p (IsUpTo c k) before now → AddsSteps t p (IsInside c) before now
steps_end t p k c before now none x = record {
  steps = x.steps;
  added = x.added;
  positions = x.positions;
  there = paths_end p k c [] x.positions none x.there;
  listed = x.listed;
}

-- at or below what stands at a path
pub steps_further : (t : TypedNetwork) (p r rest back : List ℕ) (k : ℕ) (c d : Placed) (now : List Possible) → rest ≡ k ∷ back → r ≡ p ++ k ∷ []
    → placed_at c.params c.olds c.tree (k ∷ []) ≡ Some d → AddsStepsBelow t r d back now → AddsStepsBelow t p c rest now
steps_further t p r rest back k c d now split way found x =
    let at : r ++ back ≡ p ++ k ∷ back = ap (λ (z : List ℕ). z ++ back) way ∙ append_assoc p (k ∷ []) back in
    subst (λ z. AddsStepsBelow t p c z now) (sym split)
    (subst (λ o. MatchOption o (now ≡ []) (λ e. AddsSteps t (p ++ k ∷ back) (IsInside e) [] now)) (sym (inside_at c d k back found))
    (subst (λ z. MatchOption (placed_at d.params d.olds d.tree back) (now ≡ []) (λ e. AddsSteps t z (IsInside e) [] now)) at x))

-- all steps
pub steps_whole : (t : TypedNetwork) (p : List ℕ) (xs : List Possible) → AddsStepsBelow t [] (placed 0 0 (a_network t.net)) p xs → ArePossible t p xs
steps_whole t p xs x = go (placed_at 0 0 (a_network t.net) p) refl x
  where
    go : (o : Option Placed) → placed_at 0 0 (a_network t.net) p ≡ o → MatchOption o (xs ≡ []) (λ d. AddsSteps t p (IsInside d) [] xs) → ArePossible t p xs
    go None e none = all_possible t p [] xs (no_positions t p [] refl e) (no_positions_yet t xs none)
    go (Some d) e y =
        subst (ArePossible t p) (sym y.added) (all_possible t p y.positions y.steps (found_positions t p p d [] y.positions y.positions refl refl refl e y.there) y.listed)

-- the same of what the code answers
pub ok_further : {X E : Type 0} (items : X → List Possible) (found : Result X E) (t : TypedNetwork) (p r rest back : List ℕ) (k : ℕ) (c d : Placed) → rest ≡ k ∷ back → r ≡ p ++ k ∷ []
    → placed_at c.params c.olds c.tree (k ∷ []) ≡ Some d → IfOk found (λ x. AddsStepsBelow t r d back (items x)) → IfOk found (λ x. AddsStepsBelow t p c rest (items x))
ok_further items (Ok x) t p r rest back k c d split way at h = steps_further t p r rest back k c d (items x) split way at h
ok_further items (Err m) t p r rest back k c d split way at h = tt

pub ok_whole : {X E : Type 0} (items : X → List Possible) (found : Result X E) (t : TypedNetwork) (p rest : List ℕ) (c : Placed) → p ≡ [] → c ≡ placed 0 0 (a_network t.net)
    → IfOk found (λ x. AddsStepsBelow t p c rest (items x)) → IfOk found (λ x. ArePossible t rest (items x))
ok_whole items (Ok x) t p rest c way is h =
    steps_whole t rest (items x) (subst (λ z. AddsStepsBelow t [] z rest (items x)) is (subst (λ z. AddsStepsBelow t z c rest (items x)) way h))
ok_whole items (Err m) t p rest c way is h = tt
