-- Languages of texts: sorts of trees, the words that are trees, and the forms with their parts.
use Rattle.std.specs.Prelude.{◌≡◌, ℕ, ◌≤◌, Bool, List, [], ◌∷◌, Option, Some, None, option_and_then, bytes_eq, if◌then◌else◌}
use Rattle.leaf_expr.specs.WordReading.{WordReading, reads}
use Rattle.leaf_expr.specs.Token.{PlacedToken}
use Rattle.leaf_expr.specs.Sexpr.{Sexpr, Sexprs, atom, form, last, more, Spells, depth}

-- the parts that a form takes: some of given sorts, and at the end perhaps any number of one sort
pub data Places (S : Type 0) : Type 0 where
  no_place : Places S
  place : S → Places S → Places S
  places : S → Places S

-- what makes an R of trees of those sorts
abbrev pub Maker : {S : Type 0} → (S → Type 0) → Places S → Type 0 → Type 0
Maker T no_place R = R
Maker T (place s qs) R = T s → Maker T qs R
Maker T (places s) R = List (T s) → R

-- a form: its word, the parts that it takes, and what they make
pub record Production (S : Type 0) (T : S → Type 0) (R : Type 0) : Type 0 where
  pub name : List ℕ
  pub takes : Places S
  pub makes : Maker T takes R

-- the production of a list that a word begins
abbrev pub production_among : {S : Type 0} {T : S → Type 0} {R : Type 0} → List ℕ
    → List (Production S T R) → Option (Production S T R)
production_among w [] = None
production_among w (x ∷ xs) = if bytes_eq w x.name then Some x else production_among w xs

-- a language: its sorts, their trees, the words that are trees, and the forms
pub record Language : Type 1 where
  pub Sort : Type 0
  pub Tree : Sort → Type 0
  -- what a word is where a tree of the sort stands
  pub word_at : (s : Sort) → List ℕ → WordReading (Tree s)
  -- the form that a word begins
  pub production_at : (s : Sort) → List ℕ → Option (Production Sort Tree (Tree s))
  pub has_form : Sort → Bool
  pub takes_number : Sort → Bool

-- the tree that a word is, where it is one
abbrev pub read_word : {T : Type 0} → WordReading T → Option T
read_word (reads x) = Some x
read_word _ = None

module _ (L : Language) where
  abbrev mutual
    -- the tree of the sort that a part means
    pub meant : (s : L.Sort) → Sexpr → Option (L.Tree s)
    meant s (atom w) = read_word (L.word_at s w)
    meant s (form w ps) =
        option_and_then (λ r. make_tree s r.takes r.makes ps) (L.production_at s w)

    -- what parts make
    pub make_tree : (s : L.Sort) → (qs : Places L.Sort) → Maker L.Tree qs (L.Tree s) → Sexprs
        → Option (L.Tree s)
    make_tree s no_place r last = Some r
    make_tree s (place q qs) make (more p ps) =
        option_and_then (λ x. make_tree s qs (make x) ps) (meant q p)
    make_tree s (places q) make last = Some (make [])
    make_tree s (places q) make (more p ps) =
        option_and_then (λ x. make_tree s (places q) (λ xs. make (x ∷ xs)) ps) (meant q p)
    make_tree s _ make _ = None

  -- The tokens ts are those of t, up to byte n, and then rest, with at most so many parentheses
  -- open.
  pub record Begins (room : ℕ) (s : L.Sort) (t : L.Tree s) (ts : List PlacedToken) (n : ℕ)
      (rest : List PlacedToken) : Type 0 where
    pub part : Sexpr
    pub spells : Spells part ts n rest
    pub means : meant s part ≡ Some t
    pub within : depth part ≤ room
