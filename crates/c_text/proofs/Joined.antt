-- What is printed in turn is printed as one.
use Rattle.std.proofs.Common.{◌≡◌, ◌++◌, ℕ, List, append_assoc}

plain : (o a b m n : List ℕ) → m ≡ o ++ a → n ≡ m ++ b → n ≡ o ++ (a ++ b)
plain o a b m n e f = rw (f, e, append_assoc o a b)

pub joined_three : (o a b c m n p : List ℕ) → m ≡ o ++ a → n ≡ m ++ b → p ≡ n ++ c
    → p ≡ o ++ (a ++ (b ++ c))
joined_three o a b c m n p h1 h2 h3 = plain o a (b ++ c) m p h1 (plain m b c n p h2 h3)

pub joined_four : (o a b c d m n p q : List ℕ) → m ≡ o ++ a → n ≡ m ++ b → p ≡ n ++ c → q ≡ p ++ d
    → q ≡ o ++ (a ++ (b ++ (c ++ d)))
joined_four o a b c d m n p q h1 h2 h3 h4 =
    plain o a (b ++ (c ++ d)) m q h1 (plain m b (c ++ d) n q h2 (plain n c d p q h3 h4))

pub joined_five : (o a b c d e m n p q s : List ℕ) → m ≡ o ++ a → n ≡ m ++ b → p ≡ n ++ c → q ≡ p ++ d
    → s ≡ q ++ e → s ≡ o ++ (a ++ (b ++ (c ++ (d ++ e))))
joined_five o a b c d e m n p q s h1 h2 h3 h4 h5 =
    plain o a (b ++ (c ++ (d ++ e))) m s h1 (joined_four m b c d e n p q s h2 h3 h4 h5)

pub joined_six : (o a b c d e f m n p q s t : List ℕ) → m ≡ o ++ a → n ≡ m ++ b → p ≡ n ++ c → q ≡ p ++ d
    → s ≡ q ++ e → t ≡ s ++ f → t ≡ o ++ (a ++ (b ++ (c ++ (d ++ (e ++ f)))))
joined_six o a b c d e f m n p q s t h1 h2 h3 h4 h5 h6 =
    plain o a (b ++ (c ++ (d ++ (e ++ f)))) m t h1 (joined_five m b c d e f n p q s t h2 h3 h4 h5 h6)
