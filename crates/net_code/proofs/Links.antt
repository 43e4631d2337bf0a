-- Functions that are linked: each is its statements over the earlier ones.
use Rattle.std.proofs.Common.{◌≡◌, ℕ, ◌+◌, ◌<◌, List, [], ◌∷◌, ◌++◌, length, get_or, refl, sym, ap, ◌∙◌, arith, append-nil, append_assoc, length-append}
use Rattle.sample_core.specs.Datum.{Datum}
use Rattle.leaf_core.specs.declared.expr.Expr.{Expr}
use Rattle.leaf_code.proofs.Values.{get-front}
use Rattle.net_code.specs.Running.{Body, Code, Linked, body_step, numbered, nothing_done, link}

-- code that begins with other code
abbrev pub Begins : Code → Code → Type 0
Begins c d = (ds : Code) × (d ≡ c ++ ds)

pub get-next : {A : Type 0} (xs : List A) (y : A) (ys : List A) (a : A) → get_or (xs ++ y ∷ ys) (length xs) a ≡ y
get-next [] y ys a = refl
get-next (x ∷ xs) y ys a = get-next xs y ys a

module _ (val : Expr → List Datum → Datum → Datum) where
  link-append : (fs : List Linked) (c d : Code) → link val fs (c ++ d) ≡ link val (link val fs c) d
  link-append fs [] d = refl
  link-append fs (b ∷ c) d = link-append (fs ++ body_step val (numbered fs) b ∷ []) c d

  -- linking adds functions behind those there
  link-more : (fs : List Linked) (c : Code) → (gs : List Linked) × (link val fs c ≡ fs ++ gs)
  link-more fs [] = ([], sym (append-nil fs))
  link-more fs (b ∷ c) =
      let f : Linked = body_step val (numbered fs) b in
      let r : (gs : List Linked) × (link val (fs ++ f ∷ []) c ≡ (fs ++ f ∷ []) ++ gs) = link-more (fs ++ f ∷ []) c in
      (f ∷ r.0, r.1 ∙ append_assoc fs (f ∷ []) r.0)

  length-link : (fs : List Linked) (c : Code) → length (link val fs c) ≡ length fs + length c
  length-link fs [] = omega arith
  length-link fs (b ∷ c) =
      let f : Linked = body_step val (numbered fs) b in
      let l : length (fs ++ f ∷ []) ≡ length fs + 1 = length-append fs (f ∷ []) in
      let h : length (link val (fs ++ f ∷ []) c) ≡ length (fs ++ f ∷ []) + length c = length-link (fs ++ f ∷ []) c in
      omega arith

  -- function k of the code
  abbrev pub function_of : Code → ℕ → Linked
  function_of c k = numbered (link val [] c) k

  -- an earlier function is the same in longer code
  pub same_function : (c d : Code) (k : ℕ) → Begins c d → k < length c → function_of d k ≡ function_of c k
  same_function c d k b l =
      let m : (gs : List Linked) × (link val (link val [] c) b.0 ≡ link val [] c ++ gs) = link-more (link val [] c) b.0 in
      let n : length (link val [] c) ≡ 0 + length c = length-link [] c in
      ap (λ e. function_of e k) b.1 ∙ ap (λ fs. numbered fs k) (link-append [] c b.0 ∙ m.1)
      ∙ get-front (link val [] c) m.0 k nothing_done (omega arith)

  -- a function is its statements over the earlier ones
  pub next_function : (c : Code) (b : Body) (d : Code) → Begins (c ++ b ∷ []) d → function_of d (length c) ≡ body_step val (function_of c) b
  next_function c b d i =
      let fs : List Linked = link val [] c in
      let f : Linked = body_step val (numbered fs) b in
      let n : length fs ≡ 0 + length c = length-link [] c in
      let l : length (c ++ b ∷ []) ≡ length c + 1 = length-append c (b ∷ []) in
      let here : length c ≡ length fs = omega arith in
      same_function (c ++ b ∷ []) d (length c) i (omega arith)
      ∙ ap (λ gs. numbered gs (length c)) (link-append [] c (b ∷ []))
      ∙ ap (λ k. numbered (fs ++ f ∷ []) k) here
      ∙ get-next fs f [] nothing_done
