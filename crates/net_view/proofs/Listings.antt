-- Lists of all that is so, in order: joined, moved along a function, said otherwise.
use Rattle.std.proofs.Common.{◌≡◌, ◌⊎◌, inl, inr, List, [], ◌∷◌, ◌++◌, map, Contains, refl, subst, arith}
use Rattle.std.specs.List.{All}
use Rattle.std.proofs.lemmas.List.Elements.{All-nil, All-cons, All-head, All-tail, All-append, All-weaker, All-map, All-contains, Contains-append_left, Contains-append_right, Contains-append_cases, Contains-push}
use Rattle.net_view.specs.Listed.{InOrder, Lists}

-- what is in a list
contains_one : {A : Type 0} (x : A) → Contains (x ∷ []) x
contains_one x = Contains-push [] x

contains_head : {A : Type 0} (x : A) (xs : List A) → Contains (x ∷ xs) x
contains_head x xs = Contains-append_left (x ∷ []) xs x (contains_one x)

contains_tail : {A : Type 0} (y : A) (xs : List A) (x : A) → Contains xs x → Contains (y ∷ xs) x
contains_tail y xs x h = Contains-append_right (y ∷ []) xs x h

all_mapped : {A B : Type 0} (f : A → B) (xs : List A) → All (λ x. Contains (map f xs) (f x)) xs
all_mapped f [] = All-nil (λ x. Contains [] (f x))
all_mapped f (x ∷ xs) =
    All-cons (λ y. Contains (map f (x ∷ xs)) (f y)) x xs (contains_head (f x) (map f xs))
    (All-weaker (λ y. Contains (map f xs) (f y)) (λ y. Contains (map f (x ∷ xs)) (f y)) (λ y h. contains_tail (f x) (map f xs) (f y) h) xs (all_mapped f xs))

pub contains_mapped : {A B : Type 0} (f : A → B) (xs : List A) (x : A) → Contains xs x → Contains (map f xs) (f x)
contains_mapped f xs x h = All-contains (λ y. Contains (map f xs) (f y)) xs x (all_mapped f xs) h

-- the order of two lists one behind the other
order_joined : {A : Type 0} (E : A → A → Type 0) (xs ys : List A) → InOrder E xs → InOrder E ys → All (λ x. All (E x) ys) xs → InOrder E (xs ++ ys)
order_joined E [] ys h k l = k
order_joined E (x ∷ xs) ys h k l =
    (All-append (E x) xs ys h.0 (All-head (λ z. All (E z) ys) x xs l), order_joined E xs ys h.1 k (All-tail (λ z. All (E z) ys) x xs l))

pub order_mapped : {A B : Type 0} (E : A → A → Type 0) (F : B → B → Type 0) (f : A → B) → ((x y : A) → E x y → F (f x) (f y)) → (xs : List A) → InOrder E xs
    → InOrder F (map f xs)
order_mapped E F f kept [] h = tt
order_mapped E F f kept (x ∷ xs) h =
    (All-map (F (f x)) f xs (All-weaker (E x) (λ y. F (f x) (f y)) (λ y e. kept x y e) xs h.0), order_mapped E F f kept xs h.1)

-- an element stands before those behind it
pub order_split : {A : Type 0} (E : A → A → Type 0) (xs : List A) (y : A) (zs : List A) → InOrder E (xs ++ y ∷ zs) → (x : A) → Contains xs x → E x y
order_split E [] y zs h x c = absurd (omega (arith, c.1))
order_split E (w ∷ xs) y zs h x c = go (order_split E xs y zs h.1 x) (Contains-append_cases (w ∷ []) xs x c)
  where
    go : (Contains xs x → E x y) → Contains (w ∷ []) x ⊎ Contains xs x → E x y
    go later (inl d) = All-contains (λ z. E z y) (w ∷ []) x (All-cons (λ z. E z y) w [] (All-contains (E w) (xs ++ y ∷ zs) y h.0
        (Contains-append_right xs (y ∷ zs) y (contains_head y zs))) (All-nil (λ z. E z y))) d
    go later (inr d) = later d

-- nothing is listed where nothing is so
pub lists_none : {A : Type 0} (E : A → A → Type 0) (So : A → Type 0) → ((x : A) → So x → ⊥) → Lists E So []
lists_none E So none = record { each = All-nil So; every = λ x h. absurd (none x h); in_order = tt }

pub lists_one : {A : Type 0} (E : A → A → Type 0) (x : A) → Lists E (λ y. x ≡ y) (x ∷ [])
lists_one E x = record {
  each = All-cons (λ y. x ≡ y) x [] refl (All-nil (λ y. x ≡ y));
  every = λ y e. subst (Contains (x ∷ [])) e (contains_one x);
  in_order = (All-nil (E x), tt);
}

pub lists_same : {A : Type 0} (E : A → A → Type 0) (P Q : A → Type 0) → ((x : A) → P x → Q x) → ((x : A) → Q x → P x) → (xs : List A) → Lists E P xs → Lists E Q xs
lists_same E P Q to from xs h = record {
  each = All-weaker P Q to xs h.each;
  every = λ x q. h.every x (from x q);
  in_order = h.in_order;
}

pub lists_joined : {A : Type 0} (E : A → A → Type 0) (P Q : A → Type 0) → ((x y : A) → P x → Q y → E x y) → (xs ys : List A) → Lists E P xs → Lists E Q ys
    → Lists E (λ x. P x ⊎ Q x) (xs ++ ys)
lists_joined {A = A} E P Q earlier xs ys h k = record {
  each = All-append (λ x. P x ⊎ Q x) xs ys (All-weaker P (λ x. P x ⊎ Q x) (λ x p. inl p) xs h.each) (All-weaker Q (λ x. P x ⊎ Q x) (λ x q. inr q) ys k.each);
  every = either;
  in_order = order_joined E xs ys h.in_order k.in_order
      (All-weaker P (λ x. All (E x) ys) (λ x p. All-weaker Q (E x) (λ y q. earlier x y p q) ys k.each) xs h.each);
}
  where
    either : (x : A) → P x ⊎ Q x → Contains (xs ++ ys) x
    either x (inl p) = Contains-append_left xs ys x (h.every x p)
    either x (inr q) = Contains-append_right xs ys x (k.every x q)

pub lists_mapped : {A B : Type 0} (E : A → A → Type 0) (F : B → B → Type 0) (P : A → Type 0) (Q : B → Type 0) (f : A → B) → ((x y : A) → E x y → F (f x) (f y))
    → ((x : A) → P x → Q (f x)) → ((y : B) → Q y → (x : A) × P x × (f x ≡ y)) → (xs : List A) → Lists E P xs → Lists F Q (map f xs)
lists_mapped E F P Q f kept to from xs h = record {
  each = All-map Q f xs (All-weaker P (λ x. Q (f x)) to xs h.each);
  every = λ y q. subst (Contains (map f xs)) (from y q).2 (contains_mapped f xs (from y q).0 (h.every (from y q).0 (from y q).1));
  in_order = order_mapped E F f kept xs h.in_order;
}
