-- What is printed in turn is printed as one, if the last call succeeds.
use Rattle.std.proofs.Common.{◌≡◌, ◌++◌, ℕ, List, Result, Ok, Err, IfOk, refl, append_assoc}

if_ok : {A E P Q : Type 0} (r : Result A E) → (P → Q) → IfOk r (λ _. P) → IfOk r (λ _. Q)
if_ok (Ok x) f h = f h
if_ok (Err e) f h = h

plain : (o a b m n : List ℕ) → m ≡ o ++ a → n ≡ m ++ b → n ≡ o ++ (a ++ b)
plain o a b m n e f = rw (f, e, append_assoc o a b)

module _ {A E : Type 0} (r : Result A E) where
  pub joined_two : (o a b m n : List ℕ) → m ≡ o ++ a → IfOk r (λ _. n ≡ m ++ b)
      → IfOk r (λ _. n ≡ o ++ (a ++ b))
  joined_two o a b m n h1 h2 = if_ok r (plain o a b m n h1) h2

  pub joined_three : (o a b c m n p : List ℕ) → m ≡ o ++ a → n ≡ m ++ b → IfOk r (λ _. p ≡ n ++ c)
      → IfOk r (λ _. p ≡ o ++ (a ++ (b ++ c)))
  joined_three o a b c m n p h1 h2 h3 = joined_two o a (b ++ c) m p h1 (joined_two m b c n p h2 h3)

  pub joined_four : (o a b c d m n p q : List ℕ) → m ≡ o ++ a → n ≡ m ++ b → p ≡ n ++ c
      → IfOk r (λ _. q ≡ p ++ d) → IfOk r (λ _. q ≡ o ++ (a ++ (b ++ (c ++ d))))
  joined_four o a b c d m n p q h1 h2 h3 h4 =
      joined_two o a (b ++ (c ++ d)) m q h1 (joined_three m b c d n p q h2 h3 h4)

  pub joined_five : (o a b c d e m n p q s : List ℕ) → m ≡ o ++ a → n ≡ m ++ b → p ≡ n ++ c
      → q ≡ p ++ d → IfOk r (λ _. s ≡ q ++ e) → IfOk r (λ _. s ≡ o ++ (a ++ (b ++ (c ++ (d ++ e)))))
  joined_five o a b c d e m n p q s h1 h2 h3 h4 h5 =
      joined_two o a (b ++ (c ++ (d ++ e))) m s h1 (joined_four m b c d e n p q s h2 h3 h4 h5)

  pub joined_six : (o a b c d e f m n p q s t : List ℕ) → m ≡ o ++ a → n ≡ m ++ b → p ≡ n ++ c
      → q ≡ p ++ d → s ≡ q ++ e → IfOk r (λ _. t ≡ s ++ f)
      → IfOk r (λ _. t ≡ o ++ (a ++ (b ++ (c ++ (d ++ (e ++ f))))))
  joined_six o a b c d e f m n p q s t h1 h2 h3 h4 h5 h6 =
      joined_two o a (b ++ (c ++ (d ++ (e ++ f)))) m t h1
      (joined_five m b c d e f n p q s t h2 h3 h4 h5 h6)
