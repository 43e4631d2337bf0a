-- The language of types and expressions is proper.
use Rattle.std.proofs.Common.{◌≡◌, ◌≢◌, ℕ, ◌+◌, Bool, true, false, ◌&&◌, List, [], ◌∷◌, length, refl, Some, None}
use Rattle.std.specs.Prelude.{codes, bytes_eq, if◌then◌else◌}
use Rattle.sample_core.specs.TypeTree.{unit_ty, event_ty}
use Rattle.sample_core.specs.Number.{is_number_word}
use Rattle.leaf_expr.specs.WordReading.{WordReading, reads, misspelt, unfit, map_reading, integer_at}
use Rattle.leaf_expr.specs.Token.{opening, closing, word}
use Rattle.leaf_expr.specs.Sexpr.{atom, form, last, more, atom_spells, form_spells, last_spells, more_spells}
use Rattle.leaf_core.specs.Expression.{input, fst, int_expr}
use Rattle.leaf_expr.specs.Grammar.{leaf, LeafSort, type_sort, expression_sort, index_sort, words, productions, word_at, production_at, word_among, leaf_number_at, has_form, takes_number}
use Rattle.leaf_expr.specs.ReadLaws.{Completes}
use Rattle.leaf_expr.specs.Language.{meant}
use Rattle.leaf_expr.proofs.Proper.{Proper}

formless : (s : LeafSort) (w : List ℕ) → has_form s ≡ false → production_at s w ≡ None
unfolding production_at productions
formless type_sort w h = absurd (cc)
formless expression_sort w h = absurd (cc)
formless index_sort w h = refl

-- where a table of words reads nothing, what is given stands
pub among_unread : {T : Type 0} (w : List ℕ) (xs : List (List ℕ × T)) (r v : WordReading T) → ((x : T) → reads x ≢ v) → word_among w xs r ≡ v → r ≡ v
among_unread w [] r v n e = e
among_unread {T = T} w (x ∷ xs) r v n e = go (bytes_eq w x.0) (λ p. among_unread w xs r v n p) e
  where
    go : (b : Bool) → (word_among w xs r ≡ v → r ≡ v) → (if b then reads x.1 else word_among w xs r) ≡ v → r ≡ v
    go true f p = absurd (n x.1 p)
    go false f p = f p

pub chosen_misspelt : {T : Type 0} (a b : Bool) (x : T) → (if a then (if b then reads x else misspelt) else unfit) ≡ misspelt → a ≡ true
chosen_misspelt true b x e = refl
chosen_misspelt false b x e = absurd (cc)

pub chosen_unfit : {T : Type 0} (a b : Bool) (x : T) → (if a then (if b then reads x else misspelt) else unfit) ≡ unfit → a ≡ false
chosen_unfit true true x e = absurd (cc)
chosen_unfit true false x e = absurd (cc)
chosen_unfit false b x e = refl

mapped_misspelt : {A B : Type 0} (f : A → B) (r : WordReading A) → map_reading f r ≡ misspelt → r ≡ misspelt
mapped_misspelt f (reads x) e = absurd (cc)
mapped_misspelt f misspelt e = refl
mapped_misspelt f unfit e = absurd (cc)

mapped_unfit : {A B : Type 0} (f : A → B) (r : WordReading A) → map_reading f r ≡ unfit → r ≡ unfit
mapped_unfit f (reads x) e = absurd (cc)
mapped_unfit f misspelt e = absurd (cc)
mapped_unfit f unfit e = refl

spoilt : (s : LeafSort) (w : List ℕ) → word_at s w ≡ misspelt → (takes_number s && is_number_word w) ≡ true
unfolding word_at
spoilt type_sort w e = absurd (let i : leaf_number_at type_sort w ≡ misspelt = among_unread w (words type_sort) _ misspelt (λ x q. cc) e in cc)
spoilt expression_sort w e = chosen_misspelt (is_number_word w) _ _
    (mapped_misspelt int_expr (integer_at w) (among_unread w (words expression_sort) _ misspelt (λ x q. cc) e))
spoilt index_sort w e = chosen_misspelt (is_number_word w) _ _ (among_unread w (words index_sort) _ misspelt (λ x q. cc) e)

foreign : (s : LeafSort) (w : List ℕ) → word_at s w ≡ unfit → (takes_number s && is_number_word w) ≡ false
unfolding word_at
foreign type_sort w e = refl
foreign expression_sort w e = chosen_unfit (is_number_word w) _ _
    (mapped_unfit int_expr (integer_at w) (among_unread w (words expression_sort) _ unfit (λ x q. cc) e))
foreign index_sort w e = chosen_unfit (is_number_word w) _ _ (among_unread w (words index_sort) _ unfit (λ x q. cc) e)

filler : (s : LeafSort) → Completes leaf s []
unfolding word_at words production_at productions
filler type_sort =
    record { end = (0, word (codes "Unit")) ∷ []; stop = 4; part = atom (codes "Unit"); tree = unit_ty; spells = λ ts. atom_spells; means = refl }
filler expression_sort = record { end = (0, word (codes "x")) ∷ []; stop = 1; part = atom (codes "x"); tree = input; spells = λ ts. atom_spells; means = refl }
filler index_sort = record { end = (0, word (codes "1")) ∷ []; stop = 1; part = atom (codes "1"); tree = 1; spells = λ ts. atom_spells; means = refl }

-- a form of one word behind its own, behind the form's parenthesis
form_behind : (s : LeafSort) (n : ℕ) (name inner : List ℕ) (t : leaf.Tree s) → meant leaf s (form name (more (atom inner) last)) ≡ Some t
    → Completes leaf s ((n, opening) ∷ [])
form_behind s n name inner t means =
    record {
      end = (0, word name) ∷ (0, word inner) ∷ (0, closing) ∷ [];
      stop = 1;
      part = form name (more (atom inner) last);
      tree = t;
      spells = λ ts.
          form_spells (more_spells {n = 0 + length inner} atom_spells last_spells);
      means = means;
    }

opener : (s : LeafSort) (n : ℕ) → has_form s ≡ true → Completes leaf s ((n, opening) ∷ [])
unfolding word_at words production_at productions
opener type_sort n h = form_behind type_sort n (codes "Event") (codes "Unit") (event_ty unit_ty) refl
opener expression_sort n h = form_behind expression_sort n (codes "fst") (codes "x") (fst input) refl
opener index_sort n h = absurd (cc)

pub leaf_proper : Proper leaf
leaf_proper = record { formless = formless; spoilt = spoilt; foreign = foreign; filler = filler; opener = opener }
