-- Trees of one sort up to the end of a form, one after the other.
use Rattle.std.proofs.Common.{◌≡◌, ℕ, zero, suc, ◌<◌, ◌≤◌, false, List, [], ◌∷◌, ◌++◌, length, refl, sym, ap, ◌∙◌, ◌-◌, arith, append_assoc, Ok, Err}
use Rattle.std.proofs.lemmas.List.{append-nil}
use Rattle.leaf_expr.specs.Token.{opening, closing, word, PlacedToken}
use Rattle.leaf_expr.specs.Language.{Language}
use Rattle.leaf_expr.specs.TreeReader.{Read, read, read_all}
use Rattle.leaf_expr.specs.ReadText.{begins_closing}
use Rattle.leaf_expr.specs.declared.text_fault.ExprTextFault.{ExprTextFault}
use Rattle.leaf_expr.proofs.ReadSteps.{Refuses, with, with_bind}
use Rattle.leaf_expr.proofs.ReadCounts.{read_all_count, read_shortens}
use Rattle.sample_core.specs.Answer.{◌>>=◌}

-- what was read, behind what was read before
abbrev pub with_front : {T : Type 0} → List T → Read (List T) → Read (List T)
with_front front r = with (λ xs. front ++ xs) r

pub front_twice : {T : Type 0} (xs ys : List T) (r : Read (List T)) → with_front xs (with_front ys r) ≡ with_front (xs ++ ys) r
front_twice xs ys (Ok y) = ap (λ zs. Ok (zs, y.1, y.2)) (sym (append_assoc xs ys y.0))
front_twice xs ys (Err f) = refl

pub front_done : {T : Type 0} (xs : List T) (n : ℕ) (us : List PlacedToken) → with_front xs (Ok ([], n, us)) ≡ Ok (xs, n, us)
front_done xs n us = ap (λ zs. Ok (zs, n, us)) (append-nil xs)

module _ (L : Language) where
  -- what parts make, made into something else
  pub with_all : {T Q R : Type 0} (size : ℕ) (reader : List PlacedToken → Read T) (f : Q → R) (n : ℕ) (make : List T → Q) (ts : List PlacedToken)
      → read_all L size reader n (λ xs. f (make xs)) ts ≡ with f (read_all L size reader n make ts)
  with_all size reader f zero make ts = refl
  with_all size reader f (suc n) make [] = refl
  with_all size reader f (suc n) make ((m, closing) ∷ ts) = refl
  with_all size reader f (suc n) make ((m, opening) ∷ ts) =
      with_bind f (reader ((m, opening) ∷ ts)) _ _ (λ x. with_all size reader f n (λ xs. make (x.0 ∷ xs)) x.2)
  with_all size reader f (suc n) make ((m, word w) ∷ ts) =
      with_bind f (reader ((m, word w) ∷ ts)) _ _ (λ x. with_all size reader f n (λ xs. make (x.0 ∷ xs)) x.2)

  -- trees of one sort up to the end of the form
  module _ (s : L.Sort) (size room : ℕ) where
    abbrev reader : List PlacedToken → Read (L.Tree s)
    reader ts = read L size room s ts

    abbrev pub items : List PlacedToken → Read (List (L.Tree s))
    items ts = read_all L size (read L size room s) (length ts) (λ xs. xs) ts

    none_more : (n : ℕ) (ts us : List PlacedToken) → ts ≡ (n, closing) ∷ us → items ts ≡ Ok ([], suc n, us)
    none_more n ts us e = rw e (go (length us))
      where
        go : (m : ℕ) → read_all L size (read L size room s) (suc m) (λ xs. xs) ((n, closing) ∷ us) ≡ Ok ([], suc n, us)
        go m = refl

    unrolled : (n : ℕ) (ts : List PlacedToken) → begins_closing ts ≡ false → length ts ≤ suc n
        → read_all L size (read L size room s) (suc n) (λ xs. xs) ts
        ≡ (reader ts >>= (λ x. read_all L size (read L size room s) n (λ xs. x.0 ∷ xs) x.2))
    unrolled n [] b l = refl
    unrolled n ((m, closing) ∷ ts) b l = absurd (cc)
    unrolled n ((m, opening) ∷ ts) b l = refl
    unrolled n ((m, word w) ∷ ts) b l = refl

    short : (ts : List PlacedToken) (x : L.Tree s × ℕ × List PlacedToken) → reader ts ≡ Ok x → length x.2 < length ts
    short ts x e = read_shortens L size room s ts x e

    longer : (n : ℕ) (make : List (L.Tree s) → List (L.Tree s)) (ts : List PlacedToken) → length ts ≤ n
        → read_all L size (read L size room s) n make ts ≡ read_all L size (read L size room s) (length ts) make ts
    longer n make ts l = read_all_count L size (read L size room s) short n (length ts) make ts l (omega arith)

    items_on : (ts : List PlacedToken) → begins_closing ts ≡ false
        → items ts ≡ (reader ts >>= (λ x. read_all L size (read L size room s) (length ts) (λ xs. x.0 ∷ xs) x.2))
    items_on ts b = sym (longer (suc (length ts)) (λ xs. xs) ts (omega arith)) ∙ unrolled (length ts) ts b (omega arith)

    one_more : (ts us : List PlacedToken) (x : L.Tree s) (n : ℕ) → begins_closing ts ≡ false → reader ts ≡ Ok (x, n, us)
        → items ts ≡ with_front (x ∷ []) (items us)
    one_more ts us x n b e =
        let l : length us < length ts = short ts (x, n, us) e in
        items_on ts b
        ∙ rw e (longer (length ts) (λ xs. x ∷ xs) us (omega arith)
        ∙ with_all size (read L size room s) (λ xs. x ∷ xs) (length us) (λ xs. xs) us)

    refused : (ts : List PlacedToken) (f : ExprTextFault) → begins_closing ts ≡ false → reader ts ≡ Err f → items ts ≡ Err f
    refused ts f b e = items_on ts b ∙ rw e refl

    -- the end of the trees, and one tree more
    pub done : (end : ℕ) (front : List (L.Tree s)) (ts us : List PlacedToken) (all : Read (List (L.Tree s))) → with_front front (items ts) ≡ all
        → 0 < end → ts ≡ (end - 1, closing) ∷ us → all ≡ Ok (front, end, us)
    done end front ts us all e p h =
        let i : suc (end - 1) ≡ end = omega arith in
        let j : items ts ≡ Ok ([], end, us) = none_more (end - 1) ts us h ∙ ap (λ m. Ok ([], m, us)) i in
        sym e ∙ ap (with_front front) j ∙ front_done front end us

    pub more : (n : ℕ) (front new : List (L.Tree s)) (x : L.Tree s) (ts us : List PlacedToken) (all : Read (List (L.Tree s)))
        → with_front front (items ts) ≡ all → begins_closing ts ≡ false → read L size room s ts ≡ Ok (x, n, us) → new ≡ front ++ x ∷ []
        → with_front new (items us) ≡ all
    more n front new x ts us all e b r f = ap (λ es. with_front es (items us)) f ∙ sym (front_twice front (x ∷ []) (items us))
        ∙ ap (with_front front) (sym (one_more ts us x n b r)) ∙ e

    pub gone : (front : List (L.Tree s)) (f : ExprTextFault) (ts : List PlacedToken) (all : Read (List (L.Tree s)))
        → with_front front (items ts) ≡ all → begins_closing ts ≡ false → Refuses f (read L size room s ts) → Refuses f all
    gone front f ts all e b r = λ m. sym e ∙ ap (with_front front) (refused ts f b (r m))
