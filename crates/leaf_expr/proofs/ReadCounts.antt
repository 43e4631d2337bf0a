-- The count of `read_all` does not matter where it is no less than the tokens.
use Rattle.std.proofs.Common.{◌≡◌, ℕ, zero, suc, ◌≤◌, ◌<◌, List, [], ◌∷◌, length, refl, arith, Result, Ok, Err}
use Rattle.leaf_expr.specs.Token.{opening, closing, word, PlacedToken}
use Rattle.leaf_expr.specs.Language.{Language, Begins}
use Rattle.leaf_expr.specs.TreeReader.{Read, read_all, read}
use Rattle.leaf_expr.proofs.ReadFound.{found}
use Rattle.leaf_expr.proofs.ReadOnly.{shorter}
use Rattle.sample_core.specs.Answer.{◌>>=◌}
use Rattle.leaf_expr.specs.declared.text_fault.ExprTextFault.{ExprTextFault}

same_bind : {A B : Type 0} (r : Result A ExprTextFault) (g h : A → Result B ExprTextFault) → ((x : A) → r ≡ Ok x → g x ≡ h x) → (r >>= g) ≡ (r >>= h)
same_bind (Ok x) g h e = e x refl
same_bind (Err f) g h e = refl

module _ (L : Language) (size : ℕ) where
  pub read_all_count : {T R : Type 0} (reader : List PlacedToken → Read T)
      → ((ts : List PlacedToken) (x : T × ℕ × List PlacedToken) → reader ts ≡ Ok x → length x.2 < length ts)
      → (m n : ℕ) (make : List T → R) (ts : List PlacedToken) → length ts ≤ m → length ts ≤ n
      → read_all L size reader m make ts ≡ read_all L size reader n make ts
  read_all_count reader h zero zero make ts a b = refl
  read_all_count reader h zero (suc n) make [] a b = refl
  read_all_count reader h (suc m) zero make [] a b = refl
  read_all_count reader h zero (suc n) make (y ∷ ts) a b = absurd (omega arith)
  read_all_count reader h (suc m) zero make (y ∷ ts) a b = absurd (omega arith)
  read_all_count reader h (suc m) (suc n) make [] a b = refl
  read_all_count reader h (suc m) (suc n) make ((k, closing) ∷ ts) a b = refl
  read_all_count reader h (suc m) (suc n) make ((k, opening) ∷ ts) a b =
      same_bind (reader ((k, opening) ∷ ts)) _ _
      (λ x e. read_all_count reader h m n (λ xs. make (x.0 ∷ xs)) x.2 (omega (arith, h _ x e)) (omega (arith, h _ x e)))
  read_all_count reader h (suc m) (suc n) make ((k, word w) ∷ ts) a b =
      same_bind (reader ((k, word w) ∷ ts)) _ _
      (λ x e. read_all_count reader h m n (λ xs. make (x.0 ∷ xs)) x.2 (omega (arith, h _ x e)) (omega (arith, h _ x e)))

  pub read_shortens : (room : ℕ) (s : L.Sort) (ts : List PlacedToken) (x : L.Tree s × ℕ × List PlacedToken) → read L size room s ts ≡ Ok x
      → length x.2 < length ts
  read_shortens room s ts x e = let b : Begins L room s x.0 ts x.1 x.2 = found L size room s ts x e in shorter b.part ts x.1 x.2 b.spells
