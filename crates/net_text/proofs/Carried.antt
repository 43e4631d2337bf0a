-- Types and expressions inside networks are read as they are by themselves.
use Rattle.std.proofs.Common.{◌≡◌, ℕ, zero, suc, List, [], ◌∷◌, length, refl, ap, ◌∙◌, Result, Ok, Err, Option, Some, None, if◌then◌else◌}
use Rattle.std.specs.Prelude.{option_map, option_and_then}
use Rattle.leaf_expr.specs.Token.{opening, closing, word, PlacedToken}
use Rattle.leaf_expr.specs.Sexpr.{Sexpr, Sexprs, atom, form, last, more}
use Rattle.leaf_expr.specs.Language.{Places, Maker, Production, no_place, place, places, meant, make_tree}
use Rattle.leaf_expr.specs.Grammar.{leaf, LeafSort, LeafTree, production_at, has_form}
use Rattle.leaf_expr.specs.TreeReader.{Read, read, read_form, read_head, read_production, read_parts, read_all}
use Rattle.leaf_expr.proofs.PartSteps.{end_same, head_same}
use Rattle.net_text.specs.Grammar.{Version, networks, NetSort, NetTree, leaf_sort, leaf_places, leaf_maker, leaf_production, net_word_at, net_production_at}
use Rattle.sample_core.specs.Answer.{◌>>=◌}
use Rattle.leaf_expr.specs.declared.text_fault.ExprTextFault.{ExprTextFault}
use Rattle.leaf_expr.specs.declared.text_fault.ExprTextFault.TheVariants as E

bind_same : {A B : Type 0} (r : Result A ExprTextFault) (g h : A → Result B ExprTextFault) → ((x : A) → g x ≡ h x) → (r >>= g) ≡ (r >>= h)
bind_same (Ok x) g h same = same x
bind_same (Err e) g h same = refl

module _ (v : Version) (size : ℕ) where
  all_same : {T R : Type 0} (g h : List PlacedToken → Read T) → ((ts : List PlacedToken) → g ts ≡ h ts) → (n : ℕ) (make : List T → R) (ts : List PlacedToken)
      → read_all (networks v) size g n make ts ≡ read_all leaf size h n make ts
  all_same g h same zero make ts = refl
  all_same g h same (suc n) make [] = refl
  all_same g h same (suc n) make ((m, closing) ∷ ts) = refl
  all_same g h same (suc n) make ((m, opening) ∷ ts) =
      ap (λ r. r >>= (λ x. read_all (networks v) size g n (λ xs. make (x.0 ∷ xs)) x.2)) (same ((m, opening) ∷ ts))
      ∙ bind_same (h ((m, opening) ∷ ts)) _ _ (λ x. all_same g h same n (λ xs. make (x.0 ∷ xs)) x.2)
  all_same g h same (suc n) make ((m, word w) ∷ ts) =
      ap (λ r. r >>= (λ x. read_all (networks v) size g n (λ xs. make (x.0 ∷ xs)) x.2)) (same ((m, word w) ∷ ts))
      ∙ bind_same (h ((m, word w) ∷ ts)) _ _ (λ x. all_same g h same n (λ xs. make (x.0 ∷ xs)) x.2)

  module _ (g : (s : NetSort) → List PlacedToken → Read (NetTree s)) (h : (s : LeafSort) → List PlacedToken
      → Read (LeafTree s)) (same : (s : LeafSort) (ts : List PlacedToken) → g (leaf_sort s) ts ≡ h s ts) (room : ℕ) where
    parts_same : (R : Type 0) (qs : Places LeafSort) (make : Maker LeafTree qs R) (ts : List PlacedToken)
        → read_parts (networks v) size g room (leaf_places qs) (leaf_maker R qs make) ts ≡ read_parts leaf size h room qs make ts
    parts_same R no_place x ts = ap (λ r. r >>= (λ y. Ok (x, y.0, y.1))) (end_same (networks v) size room ts)
    parts_same R (place s qs) make ts = ap (λ r. r >>= (λ x. read_parts (networks v) size g room (leaf_places qs) (leaf_maker R qs (make x.0)) x.2)) (same s ts)
        ∙ bind_same (h s ts) _ _ (λ x. parts_same R qs (make x.0) x.2)
    parts_same R (places s) make ts = all_same (g (leaf_sort s)) (h s) (same s) (length ts) make ts

    production_same : {R : Type 0} (n : ℕ) (o : Option (Production LeafSort LeafTree R)) (ts : List PlacedToken)
        → read_production (networks v) size g room n (option_map leaf_production o) ts ≡ read_production leaf size h room n o ts
    production_same n None ts = refl
    production_same {R = R} n (Some r) ts = parts_same R r.takes r.makes ts

    form_same : (s : LeafSort) (ts : List PlacedToken) → read_form (networks v) size g room (leaf_sort s) ts ≡ read_form leaf size h room s ts
    unfolding net_production_at
    form_same s ts = ap (λ r. r >>= (λ k. read_production (networks v) size g room k.0 (net_production_at v (leaf_sort s) k.1) k.2)) (head_same (networks v) size room ts)
        ∙ bind_same (read_head leaf size room ts) _ _ (λ k. production_same k.0 (production_at s k.1) k.2)

  pub read_same : (room : ℕ) (s : LeafSort) (ts : List PlacedToken) → read (networks v) size room (leaf_sort s) ts ≡ read leaf size room s ts
  unfolding net_word_at
  read_same room s [] = refl
  read_same room s ((n, word w) ∷ ts) = refl
  read_same room s ((n, closing) ∷ ts) = refl
  read_same zero s ((n, opening) ∷ ts) = refl
  read_same (suc room) s ((n, opening) ∷ ts) = ap (λ r. if has_form s then r else Err (E.Syntax n))
      (form_same (read (networks v) size room) (read leaf size room) (read_same room) room s ts)

with_production : (v : Version) (s : LeafSort) (o : Option (Production LeafSort LeafTree (LeafTree s))) (ps : Sexprs)
    → ((qs : Places LeafSort) (make : Maker LeafTree qs (LeafTree s))
    → make_tree (networks v) (leaf_sort s) (leaf_places qs) (leaf_maker (LeafTree s) qs make) ps ≡ make_tree leaf s qs make ps)
    → option_and_then (λ r. make_tree (networks v) (leaf_sort s) r.takes r.makes ps) (option_map leaf_production o)
    ≡ option_and_then (λ r. make_tree leaf s r.takes r.makes ps) o
with_production v s None ps same = refl
with_production v s (Some r) ps same = same r.takes r.makes

then_same : {A B : Type 0} (o : Option A) (g h : A → Option B) → ((x : A) → g x ≡ h x) → option_and_then g o ≡ option_and_then h o
then_same None g h same = refl
then_same (Some x) g h same = same x

mutual
  unfolding net_word_at net_production_at

  pub meaning_same : (v : Version) (s : LeafSort) (p : Sexpr) → meant (networks v) (leaf_sort s) p ≡ meant leaf s p
  meaning_same v s (atom w) = refl
  meaning_same v s (form w ps) = with_production v s (production_at s w) ps (λ qs make. made_same v s qs make ps)

  pub made_same : (v : Version) (s : LeafSort) (qs : Places LeafSort) (make : Maker LeafTree qs (LeafTree s)) (ps : Sexprs)
      → make_tree (networks v) (leaf_sort s) (leaf_places qs) (leaf_maker (LeafTree s) qs make) ps ≡ make_tree leaf s qs make ps
  made_same v s no_place r last = refl
  made_same v s no_place r (more p ps) = refl
  made_same v s (place q qs) make last = refl
  made_same v s (place q qs) make (more p ps) =
      ap (option_and_then (λ x. make_tree (networks v) (leaf_sort s) (leaf_places qs) (leaf_maker (LeafTree s) qs (make x)) ps))
      (meaning_same v q p) ∙ then_same (meant leaf q p) _ _ (λ x. made_same v s qs (make x) ps)
  made_same v s (places q) make last = refl
  made_same v s (places q) make (more p ps) = ap (option_and_then (λ x. make_tree (networks v) (leaf_sort s) (places (leaf_sort q)) (λ xs. make (x ∷ xs)) ps))
      (meaning_same v q p) ∙ then_same (meant leaf q p) _ _ (λ x. made_same v s (places q) (λ xs. make (x ∷ xs)) ps)
