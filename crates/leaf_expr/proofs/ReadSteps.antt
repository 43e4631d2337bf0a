-- Steps of reading, as the code takes them.
use Rattle.std.proofs.Common.{◌≡◌, ◌≢◌, ℕ, zero, suc, ◌+◌, false, List, [], ◌∷◌, refl, ap, ◌∙◌, sym, subst, arith, Result, Ok, Err}
use Rattle.std.specs.Result.{IsErrAnd}
use Rattle.leaf_expr.specs.Token.{opening, closing, word, PlacedToken}
use Rattle.leaf_expr.specs.Language.{Language}
use Rattle.leaf_expr.specs.Grammar.{leaf, e}
use Rattle.leaf_expr.specs.TreeReader.{Read, unfit_token, word_read, read, read_head, read_end}
use Rattle.leaf_expr.specs.ReadText.{GivesTree}
use Rattle.leaf_expr.specs.declared.text_fault.ExprTextFault.{ExprTextFault}
use Rattle.sample_core.specs.Answer.{◌>>=◌}
use Rattle.leaf_expr.specs.declared.text_fault.ExprTextFault.TheVariants.{Syntax, Memory}

pub unfit_open : (room n : ℕ) → room ≢ 0 → unfit_token room (n, opening) ≡ Syntax n
unfit_open zero n h = absurd (h refl)
unfit_open (suc room) n h = refl

pub closed : (size room n : ℕ) (ts : List PlacedToken) → read_end leaf size room ((n, closing) ∷ ts) ≡ Ok (n + 1, ts)
closed size room n ts = let i : suc n ≡ n + 1 = omega arith in ap (λ m. Ok (m, ts)) i

pub ok_same : {A : Type 0} (x y : A) → ◌≡◌ {A = Result A ExprTextFault} (Ok x) (Ok y) → x ≡ y
ok_same x y p = cc

-- reading is refused by the fault x; `Memory` says nothing of it
abbrev pub Refuses : {Y : Type 0} → ExprTextFault → Result Y ExprTextFault → Type 0
Refuses x read = x ≢ Memory → read ≡ Err x

err_same : {A : Type 0} (x y : ExprTextFault) → ◌≡◌ {A = Result A ExprTextFault} (Err x) (Err y) → x ≡ y
err_same x y p = cc

-- what is read is not refused, other than by `Memory`
pub refused_ok : {A B : Type 0} (x : ExprTextFault) (a : A) (r : Result B ExprTextFault) → Refuses x (Ok a) → Refuses x r
refused_ok {A = A} x a r p = λ m. absurd (let q : ◌≡◌ {A = Result A ExprTextFault} (Ok a) (Err x) = p m in cc)

-- a refusal is the same whatever would have been read
pub refused_same : (A B : Type 0) (x d : ExprTextFault) → Refuses {Y = A} x (Err d) → Refuses {Y = B} x (Err d)
refused_same A B x d p = λ m. ap Err (err_same d x (p m))

-- a refusal goes through what would follow
pub passed : {A B : Type 0} (x : ExprTextFault) (r : Result A ExprTextFault) (g : A → Result B ExprTextFault) → Refuses x r → Refuses x (r >>= g)
passed x r g p = λ m. ap (λ y. y >>= g) (p m)

-- a tree of a sort without forms is a word
pub formless_read : (L : Language) (size room : ℕ) (s : L.Sort) (ts : List PlacedToken) → L.has_form s ≡ false →
    read L size room s ts ≡ (read_head leaf size room ts >>= (λ h. word_read h.0 h.1 h.2 (L.word_at s h.1)))
formless_read L size room s [] f = refl
formless_read L size room s ((n, word w) ∷ ts) f = refl
formless_read L size zero s ((n, closing) ∷ ts) f = refl
formless_read L size (suc room) s ((n, closing) ∷ ts) f = refl
formless_read L size zero s ((n, opening) ∷ ts) f = refl
formless_read L size (suc room) s ((n, opening) ∷ ts) f = rw f refl

-- what was read, made into something else
abbrev pub with : {T R : Type 0} → (T → R) → Read T → Read R
with f r = r >>= (λ y. Ok (f y.0, y.1, y.2))

pub with_bind : {A T R : Type 0} (f : T → R) (r : Result A ExprTextFault) (g : A → Read T) (h : A → Read R) → ((x : A) → h x ≡ with f (g x)) →
    (r >>= h) ≡ with f (r >>= g)
with_bind f (Ok x) g h e = e x
with_bind f (Err d) g h e = refl

-- what a call gives is what reading gives where that is the same
pub given : {X Y : Type 0} (view : X → Y) (r : Result X ExprTextFault) {a b : Result Y ExprTextFault} → a ≡ b → GivesTree view r b → GivesTree view r a
given view r e g = subst (GivesTree view r) (sym e) g

-- what was read is what was made of it
pub made : {T : Type 0} {x y : T} {n : ℕ} {us : List PlacedToken} (r : Read T) → r ≡ Ok (x, n, us) → y ≡ x → r ≡ Ok (y, n, us)
made {n = n} {us = us} r p e = p ∙ ap (λ z. Ok (z, n, us)) (sym e)

-- what a `?` returns of a refusal
pub told : {X Y : Type 0} (view : X → Y) (r : Result X ExprTextFault) (x : ExprTextFault) (read : Result Y ExprTextFault) → IsErrAnd r (λ y. y ≡ x) →
    Refuses x read → GivesTree view r read
told view (Ok y) x read p q = absurd p
told view (Err y) x read p q = subst (λ z. Refuses z read) (sym p) q

-- what a `?` returns where memory ran out
pub told_memory : {X Y : Type 0} (view : X → Y) (r : Result X ExprTextFault) (read : Result Y ExprTextFault) → IsErrAnd r (λ y. y ≡ Memory) → GivesTree view r read
told_memory view r read p = told view r Memory read p (λ m. absurd (m refl))
