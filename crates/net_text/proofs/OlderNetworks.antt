-- A part that means a network in the first version means the same in the second.
use Rattle.std.proofs.Common.{◌≡◌, ℕ, List, ◌∷◌, ap, ◌∙◌, Some}
use Rattle.std.specs.Prelude.{option_and_then}
use Rattle.leaf_expr.specs.Sexpr.{Sexpr, Sexprs, atom, form, last, more}
use Rattle.leaf_expr.specs.Language.{Places, Maker, Production, no_place, place, places, meant, make_tree}
use Rattle.leaf_expr.proofs.Forms.{hit}
use Rattle.leaf_expr.proofs.ReadOnly.{some_bind}
use Rattle.net_text.specs.Grammar.{version_1, version_2, networks, NetSort, NetTree, leaf_sort, network_sort, members_sort, time_sort, net_word_at, net_production_at, net_productions, new_productions}
use Rattle.net_text.specs.FileLaws.{OlderNetworkLaw}

-- a form of the first version is one of the second
older_production : (s : NetSort) (w : List ℕ) (r : Production NetSort NetTree (NetTree s)) → net_production_at version_1 s w ≡ Some r → net_production_at version_2 s w ≡ Some r
unfolding net_production_at net_productions
older_production (leaf_sort s) w r e = e
older_production network_sort w r e = hit w (net_productions version_1) (new_productions version_2) r e
older_production members_sort w r e = e
older_production (time_sort g) w r e = e

mutual
  unfolding net_word_at

  older : (s : NetSort) (p : Sexpr) (x : NetTree s) → meant (networks version_1) s p ≡ Some x → meant (networks version_2) s p ≡ Some x
  older s (atom w) x e = e
  older s (form w ps) x e =
      let i : (r : Production NetSort NetTree (NetTree s)) × (net_production_at version_1 s w ≡ Some r)
      × (make_tree (networks version_1) s r.takes r.makes ps ≡ Some x) =
      some_bind (net_production_at version_1 s w) (λ r. make_tree (networks version_1) s r.takes r.makes ps) x e in
      ap (option_and_then (λ r. make_tree (networks version_2) s r.takes r.makes ps)) (older_production s w i.0 i.1)
      ∙ older_made s i.0.takes i.0.makes ps x i.2

  older_made : (s : NetSort) (qs : Places NetSort) (make : Maker NetTree qs (NetTree s)) (ps : Sexprs) (x : NetTree s)
      → make_tree (networks version_1) s qs make ps ≡ Some x → make_tree (networks version_2) s qs make ps ≡ Some x
  older_made s no_place r last x e = e
  older_made s no_place r (more p ps) x e = e
  older_made s (place q qs) make last x e = e
  older_made s (place q qs) make (more p ps) x e =
      let i : (y : NetTree q) × (meant (networks version_1) q p ≡ Some y) × (make_tree (networks version_1) s qs (make y) ps ≡ Some x) =
      some_bind (meant (networks version_1) q p) (λ y. make_tree (networks version_1) s qs (make y) ps) x e in
      ap (option_and_then (λ y. make_tree (networks version_2) s qs (make y) ps)) (older q p i.0 i.1) ∙ older_made s qs (make i.0) ps x i.2
  older_made s (places q) make last x e = e
  older_made s (places q) make (more p ps) x e =
      let i : (y : NetTree q) × (meant (networks version_1) q p ≡ Some y)
      × (make_tree (networks version_1) s (places q) (λ ys. make (y ∷ ys)) ps ≡ Some x) =
      some_bind (meant (networks version_1) q p) (λ y. make_tree (networks version_1) s (places q) (λ ys. make (y ∷ ys)) ps) x e in
      ap (option_and_then (λ y. make_tree (networks version_2) s (places q) (λ ys. make (y ∷ ys)) ps)) (older q p i.0 i.1)
      ∙ older_made s (places q) (λ ys. make (i.0 ∷ ys)) ps x i.2

pub older_network : OlderNetworkLaw
older_network p f e = older network_sort p f e
