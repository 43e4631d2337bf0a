-- The bytes that are kept, as parts of what holds them.
use Rattle.std.proofs.Common.{◌≡◌, ◌≤◌, ◌+◌, ◌-◌, ℕ, List, [], ◌∷◌, ◌++◌, length, take, drop, append_assoc, suc, zero-add, ap, ◌∙◌, subst, arith}
use Rattle.std.proofs.lemmas.Grind.{common_steps}
use Rattle.stream_text.specs.TextLines.{IsFeedFree, IsFirstFeed}
use Rattle.stream_text.proofs.Lines.{first_both, free_both}

rest_is : (ys items : List ℕ) (start searched : ℕ) → ys ≡ items
    → take (length ys - (start + searched)) (drop (start + searched) ys) ≡ drop searched (drop start items)
rest_is ys items start searched e = rw e (grind (arith, common_steps))

-- what is first behind what was searched is first of all that is kept
pub first_kept : (ys items : List ℕ) (start searched at : ℕ) → ys ≡ items → IsFeedFree (take searched (drop start items))
    → IsFirstFeed (take (length ys - (start + searched)) (drop (start + searched) ys)) at → IsFirstFeed (drop start items) (searched + at)
first_kept ys items start searched at e f h =
    first_both (drop start items) searched at f (subst (λ bs. IsFirstFeed bs at) (rest_is ys items start searched e) h)

-- where none is behind it, there is none
pub none_kept : (ys items : List ℕ) (start searched : ℕ) → ys ≡ items → IsFeedFree (take searched (drop start items))
    → IsFeedFree (take (length ys - (start + searched)) (drop (start + searched) ys)) → IsFeedFree (drop start items)
none_kept ys items start searched e f h = free_both (drop start items) searched f (subst IsFeedFree (rest_is ys items start searched e) h)

take_less : (xs : List ℕ) (n m : ℕ) → n ≤ m → take n (take m xs) ≡ take n xs
take_less xs n m l = grind (arith, common_steps)

take_behind : (xs ys : List ℕ) (n k : ℕ) → n ≡ length xs → take (n + k) (xs ++ ys) ≡ xs ++ take k ys
take_behind xs ys n k e = ap (λ m. take (m + k) (xs ++ ys)) e ∙ go xs
  where
    go : (zs : List ℕ) → take (length zs + k) (zs ++ ys) ≡ zs ++ take k ys
    go [] = ap (λ m. take m ys) (zero-add k)
    go (z ∷ zs) = let m : suc (length zs) + k ≡ suc (length zs + k) = omega arith in ap (λ i. take i (z ∷ (zs ++ ys))) m ∙ ap (λ r. z ∷ r) (go zs)

take_front : (xs ys : List ℕ) (n : ℕ) → n ≤ length xs → take n (xs ++ ys) ≡ take n xs
take_front xs ys n l = grind (arith, common_steps)

-- what was read behind the bytes, up to how much it was
pub read_part : (old xs buf a b : List ℕ) (n size whole : ℕ) → n ≡ length old → take n xs ≡ old → size ≤ length buf → n + size ≤ whole
    → take (n + size) (take whole (take n xs ++ (buf ++ a) ++ b)) ≡ old ++ take size buf
read_part old xs buf a b n size whole e f l m =
    take_less (take n xs ++ (buf ++ a) ++ b) (n + size) whole m
    ∙ ap (λ zs. take (n + size) (zs ++ (buf ++ a) ++ b)) f
    ∙ ap (take (n + size)) (append_assoc old (buf ++ a) b ∙ ap (λ zs. old ++ zs) (append_assoc buf a b))
    ∙ take_behind old (buf ++ (a ++ b)) n size e
    ∙ ap (λ zs. old ++ zs) (take_front buf (a ++ b) size l)

pub resized_front : (old zeros : List ℕ) (n k : ℕ) → n ≡ length old → take n (take (n + k) old ++ zeros) ≡ old
resized_front old zeros n k e = grind (arith, common_steps)
