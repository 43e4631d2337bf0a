-- The C functions of a function of the code, one behind the other.
use Rattle.std.proofs.Common.{◌≡◌, ◌<◌, ℕ, suc, ◌+◌, ◌-◌, List, [], ◌∷◌, ◌++◌, length, drop, get_or, refl, sym, ap, ◌∙◌, arith, append_assoc, length-append, drop-cons}
use Rattle.std.proofs.lemmas.List.{append-nil, length-map, map-append}
use Rattle.std.proofs.Math.Seq.{drop-length}
use Rattle.c_meaning.specs.Syntax as C
use Rattle.c_text.specs.declared.tree.Function as V
use Rattle.c_text.specs.Meant.{function_meant}
use Rattle.c_forms.specs.Routing.{routed_function}
use Rattle.c_file.specs.FunctionC.{Callee, callee_at, element_type, number_at, numbers_from, olds, routed_c, shape_at}
use Rattle.c_build.specs.declared.frame.Frame.{Frame}
use Rattle.c_build.specs.Scopes.{table}
use Rattle.c_build.specs.Frames.{bounds_in, layout_in}
use Rattle.c_build.specs.Functions.{function_in, functions_in}

-- the next number, and those behind it
pub next_number : (fs ks : List ℕ) (k i : ℕ) → i < length fs
    → (ks ++ (k + i) ∷ []) ++ numbers_from (k + (i + 1)) (drop (i + 1) fs) ≡ ks ++ numbers_from (k + i) (drop i fs)
next_number fs ks k i lt =
    let next : k + (i + 1) ≡ suc (k + i) = omega arith in
    let after : i + 1 ≡ suc i = omega arith in
    append_assoc ks ((k + i) ∷ []) (numbers_from (k + (i + 1)) (drop (i + 1) fs))
    ∙ (ap (λ (j : ℕ). ks ++ (k + i) ∷ numbers_from j (drop (i + 1) fs)) next
    ∙ (ap (λ (j : ℕ). ks ++ (k + i) ∷ numbers_from (suc (k + i)) (drop j fs)) after
    ∙ ap (λ (gs : List ℕ). ks ++ numbers_from (k + i) gs) (sym (drop-cons fs i 0 lt))))

-- no number is left
pub no_number : (fs ks : List ℕ) (k i : ℕ) → i ≡ length fs → ks ++ numbers_from (k + i) (drop i fs) ≡ ks
no_number fs ks k i e =
    ap (λ (j : ℕ). ks ++ numbers_from (k + i) (drop j fs)) e
    ∙ (ap (λ (gs : List ℕ). ks ++ numbers_from (k + i) gs) (drop-length fs) ∙ append-nil ks)

module _ (F : Frame) where
  -- one more
  pub one_more : (rs : List V.Function) (r : V.Function) (xs : List C.Function) (d : C.Function)
      → functions_in F rs ≡ xs → function_in F r ≡ d → functions_in F (rs ++ r ∷ []) ≡ xs ++ d ∷ []
  one_more rs r xs d e f =
      map-append (function_meant (table F.scope)) rs (r ∷ [])
      ∙ (ap (λ (ys : List C.Function). ys ++ function_in F r ∷ []) e
      ∙ ap (λ (y : C.Function). xs ++ y ∷ []) f)

  -- the number of the last
  pub last_number : (rs : List V.Function) (xs bs : List C.Function) (d : C.Function)
      → functions_in F rs ≡ xs ++ (bs ++ d ∷ []) → length rs - 1 ≡ length xs + length bs
  last_number rs xs bs d e =
      let count : length rs ≡ length (xs ++ (bs ++ d ∷ []))
      = sym (length-map rs (function_meant (table F.scope))) ∙ ap (λ (ys : List C.Function). length ys) e in
      let all : length (xs ++ (bs ++ d ∷ [])) ≡ length xs + length (bs ++ d ∷ []) = length-append xs (bs ++ d ∷ []) in
      let more : length (bs ++ d ∷ []) ≡ length bs + 1 = length-append bs (d ∷ []) in
      omega (arith, count, all, more)

  module _ (cs : List Callee) (k : ℕ) where
    -- the next member, and those behind it
    pub next_routed : (i : ℕ) (fs : List ℕ) (rs : List V.Function) (r : V.Function) → i < length fs
        → function_in F r
        ≡ routed_function (bounds_in F) (layout_in F).params (olds cs (layout_in F)) (shape_at cs (get_or fs i 0))
        (layout_in F).input (callee_at cs (get_or fs i 0)).input (element_type (layout_in F).output) i k
        (number_at cs (get_or fs i 0))
        → functions_in F (rs ++ r ∷ []) ++ routed_c cs (layout_in F) (bounds_in F) k (i + 1) (drop (i + 1) fs)
        ≡ functions_in F rs ++ routed_c cs (layout_in F) (bounds_in F) k i (drop i fs)
    next_routed i fs rs r lt e =
        let L = layout_in F in
        let n = bounds_in F in
        let xs = functions_in F rs in
        let rest : List C.Function = routed_c cs L n k (i + 1) (drop (i + 1) fs) in
        let d : C.Function =
        routed_function n L.params (olds cs L) (shape_at cs (get_or fs i 0)) L.input (callee_at cs (get_or fs i 0)).input
        (element_type L.output) i k (number_at cs (get_or fs i 0)) in
        let after : i + 1 ≡ suc i = omega arith in
        ap (λ (ys : List C.Function). ys ++ rest) (one_more rs r xs d refl e)
        ∙ (append_assoc xs (d ∷ []) rest
        ∙ (ap (λ (j : ℕ). xs ++ d ∷ routed_c cs L n k j (drop j fs)) after
        ∙ ap (λ (gs : List ℕ). xs ++ routed_c cs L n k i gs) (sym (drop-cons fs i 0 lt))))

    -- no member is left
    pub no_routed : (i : ℕ) (fs : List ℕ) (rs : List V.Function) → i ≡ length fs
        → functions_in F rs ++ routed_c cs (layout_in F) (bounds_in F) k i (drop i fs) ≡ functions_in F rs
    no_routed i fs rs e =
        ap (λ (j : ℕ). functions_in F rs ++ routed_c cs (layout_in F) (bounds_in F) k i (drop j fs)) e
        ∙ (ap (λ (gs : List ℕ). functions_in F rs ++ routed_c cs (layout_in F) (bounds_in F) k i gs) (drop-length fs)
        ∙ append-nil (functions_in F rs))

-- four rows, put together in two ways
pub put_together : (xs ls hs ds : List C.Function) → ((xs ++ ls) ++ hs) ++ ds ≡ xs ++ ((ls ++ hs) ++ ds)
put_together xs ls hs ds =
    ap (λ (ys : List C.Function). ys ++ ds) (append_assoc xs ls hs) ∙ append_assoc xs (ls ++ hs) ds
