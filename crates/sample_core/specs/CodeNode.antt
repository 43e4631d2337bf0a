-- The nodes of the codes of trees: a tag, and four parts.
use Rattle.std.specs.Prelude.{◌≡◌, ℕ}
use Rattle.std.proofs.Common.{ap}
use base.Stored.{Gv, gnil, gnum, gcons, num}

-- a tag, and four parts
abbrev pub node : ℕ → Gv → Gv → Gv → Gv → Gv
node tag a b c d = gcons (gnum tag) (gcons a (gcons b (gcons c d)))

-- the first of a row of codes
abbrev pub head_of : Gv → Gv
head_of (gcons a b) = a
head_of _ = gnil

-- the tag
abbrev pub tag_of : Gv → ℕ
tag_of g = num (head_of g)

-- the rest of a row of codes
abbrev pub rest_of : Gv → Gv
rest_of (gcons a b) = b
rest_of _ = gnil

-- the first part
abbrev pub part0 : Gv → Gv
part0 g = head_of (rest_of g)

-- the second
abbrev pub part1 : Gv → Gv
part1 g = head_of (rest_of (rest_of g))

-- the third
abbrev pub part2 : Gv → Gv
part2 g = head_of (rest_of (rest_of (rest_of g)))

-- the fourth
abbrev pub part3 : Gv → Gv
part3 g = rest_of (rest_of (rest_of (rest_of g)))

-- nodes of one code, where parts of one code are the same: f of the parts is the same
module _ {x y z w x' y' z' w' : Gv} {t t' : ℕ} where
  pub one : {A B : Type 0} {a a' : A} (f : A → B) → (x ≡ x' → a ≡ a')
      → node t x y z w ≡ node t' x' y' z' w' → f a ≡ f a'
  one f h e = ap f (h (ap part0 e))

  pub two : {A B C : Type 0} {a a' : A} {b b' : B} (f : A → B → C) → (x ≡ x' → a ≡ a')
      → (y ≡ y' → b ≡ b') → node t x y z w ≡ node t' x' y' z' w' → f a b ≡ f a' b'
  two f h k e = λ i. f (h (ap part0 e) i) (k (ap part1 e) i)

  pub three : {A B C D : Type 0} {a a' : A} {b b' : B} {c c' : C} (f : A → B → C → D)
      → (x ≡ x' → a ≡ a') → (y ≡ y' → b ≡ b') → (z ≡ z' → c ≡ c')
      → node t x y z w ≡ node t' x' y' z' w' → f a b c ≡ f a' b' c'
  three f h k l e = λ i. f (h (ap part0 e) i) (k (ap part1 e) i) (l (ap part2 e) i)

-- the same of rows
pub row : {A B C : Type 0} {x x' y y' : Gv} {a a' : A} {b b' : B} (f : A → B → C)
    → (x ≡ x' → a ≡ a') → (y ≡ y' → b ≡ b') → gcons x y ≡ gcons x' y' → f a b ≡ f a' b'
row f h k e = λ i. f (h (ap head_of e) i) (k (ap rest_of e) i)
