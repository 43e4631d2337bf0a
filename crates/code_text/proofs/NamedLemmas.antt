-- A text is what stands before its first mark m, that, and what stands behind it.
use Rattle.std.proofs.Common.{◌≡◌, ◌<◌, ◌==◌, ◌+◌, ◌++◌, ℕ, suc, Bool, true, false, cond, not, List, [], ◌∷◌, length, take, drop, Option, Some, None, Bor, refl, sym, ap, ◌∙◌, arith, append_assoc}
use Rattle.std.proofs.lemmas.Str.Pattern.{IsSplitOnceResult, split_once_first}
use Rattle.std.specs.List.{before_first, after_first, position_or_len}
use Rattle.code_text.specs.NamedText.{with_each}

-- n bytes behind this one there is a mark, if this is none
split_here : (m : ℕ) (t : List ℕ) (c : ℕ) (cs : List ℕ) (n : ℕ) (b : Bool)
    → (n < length cs → with_each m t cs ≡ take n cs ++ (t ++ with_each m t (drop (n + 1) cs)))
    → cond (not b) (1 + n) 0 < suc (length cs)
    → cond b t (c ∷ []) ++ with_each m t cs
    ≡ take (cond (not b) (1 + n) 0) (c ∷ cs)
    ++ (t ++ with_each m t (drop (cond (not b) (1 + n) 0 + 1) (c ∷ cs)))
split_here m t c cs n true ih l = refl
split_here m t c cs n false ih l =
    let e : 1 + n ≡ suc n = omega arith in
    let f : suc n + 1 ≡ suc (n + 1) = omega arith in
    let h : with_each m t cs ≡ take n cs ++ (t ++ with_each m t (drop (n + 1) cs)) = ih (omega arith) in
    rw (e, f) (ap (λ s. c ∷ s) h)

pub each_split : (m : ℕ) (t bs : List ℕ) → position_or_len (λ b. b == m) bs < length bs
    → with_each m t bs
    ≡ before_first (λ b. b == m) bs ++ (t ++ with_each m t (after_first (λ b. b == m) bs))
each_split m t [] l = absurd (omega (arith, l))
each_split m t (c ∷ cs) l = split_here m t c cs (position_or_len (λ b. b == m) cs) (c == m) (each_split m t cs) l

same_here : (m : ℕ) (t : List ℕ) (c : ℕ) (cs : List ℕ) (n : ℕ) (b : Bool)
    → (n ≡ length cs → with_each m t cs ≡ cs)
    → cond (not b) (1 + n) 0 ≡ suc (length cs)
    → cond b t (c ∷ []) ++ with_each m t cs ≡ c ∷ cs
same_here m t c cs n true ih l = absurd (omega (arith, l))
same_here m t c cs n false ih l = ap (λ s. c ∷ s) (ih (omega (arith, l)))

-- a text without a mark
pub each_same : (m : ℕ) (t bs : List ℕ) → position_or_len (λ b. b == m) bs ≡ length bs
    → with_each m t bs ≡ bs
each_same m t [] l = refl
each_same m t (c ∷ cs) l = same_here m t c cs (position_or_len (λ b. b == m) cs) (c == m) (each_same m t cs) l

-- what `split_once` gives of a text, where it finds a mark and where it finds none
module _ (m : ℕ) (t rest : List ℕ) (r : Option (Bor (List ℕ) × Bor (List ℕ))) (split : IsSplitOnceResult m rest r) (ascii : m < 128) where
  pub each_step : (x : Bor (List ℕ) × Bor (List ℕ)) → r ≡ Some x
      → with_each m t rest ≡ x.0.now ++ (t ++ with_each m t x.1.now)
  each_step x is =
      let (inside, front, back) = rw is at (split_once_first m rest r split ascii) in
      each_split m t rest inside
      ∙ ap (λ s. s ++ (t ++ with_each m t (after_first (λ b. b == m) rest))) (sym front)
      ∙ ap (λ s. x.0.now ++ (t ++ with_each m t s)) (sym back)

  pub each_last : r ≡ None → with_each m t rest ≡ rest
  each_last is =
      let none = rw is at (split_once_first m rest r split ascii) in
      each_same m t rest none

-- what is printed up to a mark, and in its place, with the rest
pub each_printed : (o before t a b w e : List ℕ) → a ≡ o ++ before → b ≡ a ++ t
    → e ≡ before ++ (t ++ w) → b ++ w ≡ o ++ e
each_printed o before t a b w e h1 h2 h3 =
    rw (h2, h1, h3, append_assoc (o ++ before) t w, append_assoc o before (t ++ w))

-- what is printed behind the last mark
pub each_ended : (o rest e n whole : List ℕ) → n ≡ o ++ rest → e ≡ rest → o ++ e ≡ whole → n ≡ whole
each_ended o rest e n whole h1 h2 h3 = h1 ∙ ap (λ s. o ++ s) (sym h2) ∙ h3
