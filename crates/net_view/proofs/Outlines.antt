-- The lines of an outline: types on the way down, and a tree behind what is inside the one before.
use Rattle.std.proofs.Common.{◌≡◌, ℕ, ◌+◌, List, [], ◌∷◌, ◌++◌, map, Option, Some, None, option_map, refl, sym, ap, ◌∙◌, subst, append_assoc}
use Rattle.std.specs.List.{All}
use Rattle.std.proofs.lemmas.List.{append-nil, map-append}
use Rattle.std.proofs.lemmas.List.Elements.{All-nil, All-cons, All-append, All-weaker}
use Rattle.std.proofs.lemmas.Option.{none-some, same_Some}
use Rattle.sample_core.specs.TypeTree.{TypeTree}
use Rattle.leaf_core.specs.Expression.{Expression}
use Rattle.leaf_core.specs.Parts.{part}
use Rattle.leaf_core.specs.PartWalk.{part_input, part_type_at}
use Rattle.net_tree.specs.Place.{◌>>=◌, Tree, a_network, a_leaf}
use Rattle.net_syntax.specs.Placed.{Placed, placed, placed_at, tree_child}
use Rattle.net_syntax.specs.Standing.{Standing, alone, TypeAt}
use Rattle.net_syntax.specs.StandingWalk.{taking, type_walk_at}
use Rattle.net_syntax.specs.StandingWalk as W
use Rattle.net_syntax.proofs.FoundTypes.{type_there, nothing_stands}
use Rattle.net_meaning.specs.TypedNetwork.{TypedNetwork}
use Rattle.net_meaning.specs.NetworkLimits.{WithinLimits}
use Rattle.net_opt.specs.Walk.{Reached}
use Rattle.net_opt.proofs.Walked.{found_inside, reached_root, reached_inside}
use Rattle.net_view.specs.Listed.{IsInside}
use Rattle.net_view.specs.Outline.{OutlinedLine, line_of, IsLine, IsOutline}
use Rattle.net_view.specs.Walked.{inside_tree, IsWalked, IsLineBelow, AddsLines}
use Rattle.net_view.specs.declared.lines.OutlineLine.{OutlineLine}
use Rattle.net_view.proofs.Paths.{IsUpTo, inside_at, paths_begin, paths_more, paths_end, found_positions}

-- the types below what is inside a tree are those below the tree
leaf_walk : (S R : Standing) (e : Expression) (k : ℕ) (v : Tree Expression) (q : List ℕ) (o : Option Expression) (i : Option TypeTree) → part e k ≡ o
    → part_input S.params S.input e k ≡ i → option_map a_leaf o ≡ Some v → option_map (taking S) i ≡ Some R → part_type_at S.params S.input e (k ∷ q) ≡ type_walk_at R v q
leaf_walk S R e k v q None i a b h j = absurd (none-some v h)
leaf_walk S R e k v q (Some c) None a b h j = absurd (none-some R j)
leaf_walk S R e k v q (Some c) (Some B) a b h j =
    let found : part_type_at S.params S.input e (k ∷ q) ≡ part_type_at S.params B c q = simp (a, b) refl in
    let at : taking S B ≡ R = same_Some (taking S B) R j in
    let is : a_leaf c ≡ v = same_Some (a_leaf c) v h in
    found ∙ ap (λ z. type_walk_at z (a_leaf c) q) at ∙ ap (λ z. type_walk_at R z q) is

walk_inside : (S R : Standing) (u v : Tree Expression) (k : ℕ) (q : List ℕ) → tree_child u k ≡ Some v → inside_tree S u k ≡ Some R
    → type_walk_at S u (k ∷ q) ≡ type_walk_at R v q
walk_inside S R (a_network f) v k q h j =
    ap (λ o. o >>= (λ c. W.inside S f k >>= (λ Q. type_walk_at Q c q))) h ∙ ap (λ o. o >>= (λ Q. type_walk_at Q v q)) j
walk_inside S R (a_leaf e) v k q h j = leaf_walk S R e k v q (part e k) (part_input S.params S.input e k) refl refl h j

leaf_nowhere : (S : Standing) (e : Expression) (k : ℕ) (v : Tree Expression) (o : Option Expression) (i : Option TypeTree) → part e k ≡ o
    → part_input S.params S.input e k ≡ i → option_map a_leaf o ≡ Some v → option_map (taking S) i ≡ None → part_type_at S.params S.input e (k ∷ []) ≡ None
leaf_nowhere S e k v None i a b h j = absurd (none-some v h)
leaf_nowhere S e k v (Some c) None a b h j = simp (a, b) refl
leaf_nowhere S e k v (Some c) (Some B) a b h j = absurd (none-some (taking S B) (sym j))

walk_nowhere : (S : Standing) (u v : Tree Expression) (k : ℕ) → tree_child u k ≡ Some v → inside_tree S u k ≡ None → type_walk_at S u (k ∷ []) ≡ None
walk_nowhere S (a_network f) v k h j =
    ap (λ o. o >>= (λ c. W.inside S f k >>= (λ Q. type_walk_at Q c []))) h ∙ ap (λ o. o >>= (λ Q. type_walk_at Q v [])) j
walk_nowhere S (a_leaf e) v k h j = leaf_nowhere S e k v (part e k) (part_input S.params S.input e k) refl refl h j

-- the walk begins at the root, and goes on inside what it has come to
pub walked_root : (t : TypedNetwork) (p : List ℕ) (S : Standing) (c : Placed) → WithinLimits t → p ≡ [] → S ≡ alone t.input → c ≡ placed 0 0 (a_network t.net) → IsWalked p S c
walked_root t p S c w at stands is =
    subst (λ z. IsWalked z S c) (sym at) (subst (λ z. IsWalked [] z c) (sym stands) (subst (IsWalked [] (alone t.input)) (sym is) (t, reached_root t w, λ q. refl)))

pub walked_inside : (p r : List ℕ) (k : ℕ) (S R : Standing) (c d : Placed) → r ≡ p ++ k ∷ [] → IsWalked p S c → placed_at c.params c.olds c.tree (k ∷ []) ≡ Some d
    → inside_tree S c.tree k ≡ Some R → IsWalked r R d
walked_inside p r k S R c d way w found stands =
    let t = w.0 in (
      t,
      subst (λ z. Reached t z d) (sym way) (reached_inside t p k c d w.1 found),
      λ q. ap (λ (z : List ℕ). type_walk_at (alone t.input) (a_network t.net) z) (ap (λ (z : List ℕ). z ++ q) way ∙ append_assoc p (k ∷ []) q)
          ∙ w.2 (k ∷ q) ∙ walk_inside S R c.tree d.tree k q (found_inside c d k found) stands,
    )

-- what it comes to has a type, and stands somewhere
pub typed_here : (p : List ℕ) (S : Standing) (c : Placed) → IsWalked p S c → type_walk_at S c.tree [] ≡ None → ⊥
typed_here p S c w none =
    let t = w.0 in
    let nowhere : type_walk_at (alone t.input) (a_network t.net) p ≡ None =
    ap (λ (z : List ℕ). type_walk_at (alone t.input) (a_network t.net) z) (sym (append-nil p)) ∙ w.2 [] ∙ none in
    none-some c (sym (nothing_stands t p w.1.within nowhere) ∙ w.1.stands)

pub stands_inside : (p : List ℕ) (k : ℕ) (S : Standing) (c d : Placed) → IsWalked p S c → placed_at c.params c.olds c.tree (k ∷ []) ≡ Some d
    → inside_tree S c.tree k ≡ None → ⊥
stands_inside p k S c d w found none =
    let t = w.0 in
    let nowhere : type_walk_at (alone t.input) (a_network t.net) (p ++ k ∷ []) ≡ None =
    w.2 (k ∷ []) ∙ walk_nowhere S c.tree d.tree k (found_inside c d k found) none in
    let there = reached_inside t p k c d w.1 found in
    none-some d (sym (nothing_stands t (p ++ k ∷ []) w.1.within nowhere) ∙ there.stands)

-- the line of the place itself
pub lines_begin : (p : List ℕ) (S : Standing) (c : Placed) (before now : List OutlineLine) (line : OutlineLine) → now ≡ before ++ line ∷ [] → IsLineBelow p S c (line_of line)
    → line.position ≡ p → AddsLines p S c (IsUpTo c 0) (map line_of before) (map line_of now)
lines_begin p S c before now line more is at =
    let added : map line_of now ≡ map line_of before ++ line_of line ∷ [] = ap (map line_of) more ∙ map-append line_of before (line ∷ []) in
    record {
      lines = line_of line ∷ [];
      added = added;
      each = All-cons (IsLineBelow p S c) (line_of line) [] is (All-nil (IsLineBelow p S c));
      positions = paths_begin p line.position c (map (λ (r : OutlinedLine). r.position) (map line_of before)) (map (λ (r : OutlinedLine). r.position) (map line_of now)) at
          (ap (map (λ (r : OutlinedLine). r.position)) added ∙ map-append (λ (r : OutlinedLine). r.position) (map line_of before) (line_of line ∷ []));
    }

-- the lines of what is inside at a number
line_outward : (p r : List ℕ) (k : ℕ) (S R : Standing) (c d : Placed) → r ≡ p ++ k ∷ [] → placed_at c.params c.olds c.tree (k ∷ []) ≡ Some d → inside_tree S c.tree k ≡ Some R
    → (line : OutlinedLine) → IsLineBelow r R d line → IsLineBelow p S c line
line_outward p r k S R c d way found stands line h = record {
  path = k ∷ h.path;
  at = h.at ∙ ap (λ (z : List ℕ). z ++ h.path) way ∙ append_assoc p (k ∷ []) h.path;
  there = ap (option_map (λ (z : Placed). z.tree)) (inside_at c d k h.path found) ∙ h.there;
  typed = walk_inside S R c.tree d.tree k h.path (found_inside c d k found) stands ∙ h.typed;
  weighs = h.weighs;
}

pub lines_more : (p r : List ℕ) (k : ℕ) (S R : Standing) (c d : Placed) (before mid now : List OutlinedLine) → r ≡ p ++ k ∷ []
    → placed_at c.params c.olds c.tree (k ∷ []) ≡ Some d → inside_tree S c.tree k ≡ Some R → AddsLines p S c (IsUpTo c k) before mid
    → AddsLines r R d (IsInside d) mid now → AddsLines p S c (IsUpTo c (k + 1)) before now
lines_more p r k S R c d before mid now way found stands x y = record {
  lines = x.lines ++ y.lines;
  added = y.added ∙ ap (λ z. z ++ y.lines) x.added ∙ append_assoc before x.lines y.lines;
  each = All-append (IsLineBelow p S c) x.lines y.lines x.each
      (All-weaker (IsLineBelow r R d) (IsLineBelow p S c) (line_outward p r k S R c d way found stands) y.lines y.each);
  positions = paths_more p r k c d (map (λ (z : OutlinedLine). z.position) before) (map (λ (z : OutlinedLine). z.position) mid)
      (map (λ (z : OutlinedLine). z.position) now) way found x.positions y.positions;
}

pub lines_end : (p : List ℕ) (k : ℕ) (S : Standing) (c : Placed) (before now : List OutlinedLine) → placed_at c.params c.olds c.tree (k ∷ []) ≡ None
    → AddsLines p S c (IsUpTo c k) before now → AddsLines p S c (IsInside c) before now
lines_end p k S c before now none x = record {
  lines = x.lines;
  added = x.added;
  each = x.each;
  positions = paths_end p k c (map (λ (z : OutlinedLine). z.position) before) (map (λ (z : OutlinedLine). z.position) now) none x.positions;
}

-- all lines
line_whole : (t : TypedNetwork) → WithinLimits t → (line : OutlinedLine) → IsLineBelow [] (alone t.input) (placed 0 0 (a_network t.net)) line → IsLine t line
line_whole t w line h = record {
  there = ap (λ (z : List ℕ). option_map (λ (d : Placed). d.tree) (placed_at 0 0 (a_network t.net) z)) h.at ∙ h.there;
  typed = subst (λ z. TypeAt (alone t.input) (a_network t.net) z line.output) (sym h.at) (type_there t h.path line.output w h.typed);
  weighs = h.weighs;
}

whole_outline : (t : TypedNetwork) (before now : List OutlinedLine) → WithinLimits t → before ≡ []
    → AddsLines [] (alone t.input) (placed 0 0 (a_network t.net)) (IsInside (placed 0 0 (a_network t.net))) before now → IsOutline t now
whole_outline t before now w none x =
    let lines : now ≡ x.lines = x.added ∙ ap (λ z. z ++ x.lines) none in
    record {
      all = found_positions t [] [] (placed 0 0 (a_network t.net)) (map (λ (z : OutlinedLine). z.position) before) (map (λ (z : OutlinedLine). z.position) now)
          (map (λ (z : OutlinedLine). z.position) now) refl (ap (map (λ (z : OutlinedLine). z.position)) none) refl refl x.positions;
      each = subst (All (IsLine t)) (sym lines)
          (All-weaker (IsLineBelow [] (alone t.input) (placed 0 0 (a_network t.net))) (IsLine t) (line_whole t w) x.lines x.each);
    }

pub outlined : (t : TypedNetwork) (p : List ℕ) (S : Standing) (c : Placed) (before now : List OutlinedLine) → WithinLimits t → p ≡ [] → S ≡ alone t.input
    → c ≡ placed 0 0 (a_network t.net) → before ≡ [] → AddsLines p S c (IsInside c) before now → IsOutline t now
outlined t p S c before now w at stands is none x =
    whole_outline t before now w none (subst (λ z. AddsLines [] (alone t.input) z (IsInside z) before now) is
    (subst (λ z. AddsLines [] z c (IsInside c) before now) stands (subst (λ z. AddsLines z S c (IsInside c) before now) at x)))
