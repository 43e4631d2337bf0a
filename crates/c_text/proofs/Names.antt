-- Two names are two texts.
use Rattle.std.proofs.Common.{◌≡◌, ◌<◌, ◌^◌, ℕ, zero, suc, List, [], ◌∷◌, ◌++◌, codes, drop, get_or, refl, sym, ap, ap₂, ◌∙◌, subst, arith}
use Rattle.std.proofs.lemmas.List.{append_cancel_left}
use Rattle.std.proofs.lemmas.Fmt.{decimal_injective, decimal_by_steps}
use Rattle.std.specs.Fmt.{decimal}
use Rattle.c_text.specs.declared.name.Name.TheVariants as N
use Rattle.c_text.specs.declared.tree.Kind.{Kind}
use Rattle.c_text.specs.declared.tree.Kind.TheVariants as K
use Rattle.c_text.specs.NameText.{numbered_text, member_from, member_text, NameLaw}

-- bytes up to `9`
abbrev AllBelow : List ℕ → Type 0
AllBelow [] = Unit {0}
AllBelow (x ∷ xs) = (x < 58) × AllBelow xs

below_end : (xs : List ℕ) (d : ℕ) → d < 58 → AllBelow xs → AllBelow (xs ++ d ∷ [])
below_end [] d h b = (h, tt)
below_end (x ∷ xs) d h b = (b.0, below_end xs d h b.1)

digits_below : (n : ℕ) → n < 2 ^ 64 → AllBelow (decimal n)
digits_below =
    decimal_by_steps (λ n ds. AllBelow ds) (λ n h. (omega arith, tt))
    (λ n ds h b. below_end ds _ (omega arith) b)

-- no underscore
abbrev NoMark : List ℕ → Type 0
NoMark [] = Unit {0}
NoMark (x ∷ xs) = (x ≡ 95 → ⊥) × NoMark xs

below_unmarked : (xs : List ℕ) → AllBelow xs → NoMark xs
below_unmarked [] b = tt
below_unmarked (x ∷ xs) b = (λ e. omega (arith, b.0, e), below_unmarked xs b.1)

no_mark : (xs ys : List ℕ) → NoMark (xs ++ 95 ∷ ys) → ⊥
no_mark [] ys h = h.0 refl
no_mark (x ∷ xs) ys h = no_mark xs ys h.1

-- what has none is no name with a prefix
short_apart : (s P ys : List ℕ) → NoMark s → s ≡ P ++ 95 ∷ ys → ⊥
short_apart s P ys h e = no_mark P ys (subst NoMark e h)

local_unmarked : (k : ℕ) → k < 2 ^ 64 → NoMark (codes "r" ++ decimal k)
local_unmarked k h = (λ e. omega (arith, e), below_unmarked _ (digits_below k h))

numbered_unmarked : (k : ℕ) → k < 2 ^ 64 → NoMark (numbered_text k)
numbered_unmarked k h = (λ e. omega (arith, e), below_unmarked _ (digits_below k h))

from_unmarked : (one other : List ℕ) (k : ℕ) → NoMark one → NoMark other → k < 2 ^ 64
    → NoMark (member_from one other k)
from_unmarked one other zero m n h = m
from_unmarked one other (suc zero) m n h = n
from_unmarked one other (suc (suc k)) m n h = numbered_unmarked (suc (suc k)) h

member_unmarked : (K : Kind) (k : ℕ) → k < 2 ^ 64 → NoMark (member_text K k)
member_unmarked K.Pair k h =
    from_unmarked (codes "a") (codes "b") k (λ e. omega (arith, e), tt) (λ e. omega (arith, e), tt) h
member_unmarked K.Event k h =
    from_unmarked (codes "is") (codes "v") k (λ e. omega (arith, e), (λ e. omega (arith, e), tt))
    (λ e. omega (arith, e), tt) h
member_unmarked K.List k h =
    from_unmarked (codes "n") (codes "e") k (λ e. omega (arith, e), tt) (λ e. omega (arith, e), tt) h
member_unmarked K.Kept k h = numbered_unmarked k h

abbrev first : List ℕ → ℕ
first s = get_or s 0 0

-- no member is called as a local
from_apart : (one other : List ℕ) (k : ℕ) → (first one ≡ 114 → ⊥) → (first other ≡ 114 → ⊥)
    → first (member_from one other k) ≡ 114 → ⊥
from_apart one other zero m n e = m e
from_apart one other (suc zero) m n e = n e
from_apart one other (suc (suc k)) m n e = omega (arith, e)

member_apart : (K : Kind) (k : ℕ) → first (member_text K k) ≡ 114 → ⊥
member_apart K.Pair k e =
    from_apart (codes "a") (codes "b") k (λ h. omega (arith, h)) (λ h. omega (arith, h)) e
member_apart K.Event k e =
    from_apart (codes "is") (codes "v") k (λ h. omega (arith, h)) (λ h. omega (arith, h)) e
member_apart K.List k e =
    from_apart (codes "n") (codes "e") k (λ h. omega (arith, h)) (λ h. omega (arith, h)) e
member_apart K.Kept k e = omega (arith, e)

second : (P xs ys : List ℕ) → P ++ xs ≡ P ++ ys → get_or xs 1 0 ≡ get_or ys 1 0
second P xs ys e = ap (λ l. get_or l 1 0) (append_cancel_left P xs ys e)

third : (P xs ys : List ℕ) → P ++ xs ≡ P ++ ys → get_or xs 2 0 ≡ get_or ys 2 0
third P xs ys e = ap (λ l. get_or l 2 0) (append_cancel_left P xs ys e)

-- behind the prefix and two letters
number_behind : (P : List ℕ) (a b k j : ℕ) → k < 2 ^ 64 → j < 2 ^ 64
    → P ++ (a ∷ b ∷ decimal k) ≡ P ++ (a ∷ b ∷ decimal j) → k ≡ j
number_behind P a b k j hk hj e =
    decimal_injective k j hk hj (ap (drop 2) (append_cancel_left P _ _ e))

number_in : (a k j : ℕ) → k < 2 ^ 64 → j < 2 ^ 64 → a ∷ decimal k ≡ a ∷ decimal j → k ≡ j
number_in a k j hk hj e = decimal_injective k j hk hj (ap (drop 1) e)

-- the first two are called otherwise than each other and than all behind them
record Apart (one other : List ℕ) : Type 0 where
  pub two : first one ≡ first other → ⊥
  pub front : first one ≡ 109 → ⊥
  pub back : first other ≡ 109 → ⊥

from_one : (one other : List ℕ) (j k : ℕ) → Apart one other → j < 2 ^ 64 → k < 2 ^ 64
    → member_from one other j ≡ member_from one other k → j ≡ k
from_one one other zero zero a hj hk e = refl
from_one one other zero (suc zero) a hj hk e = absurd (a.two (ap first e))
from_one one other zero (suc (suc k)) a hj hk e = absurd (a.front (ap first e))
from_one one other (suc zero) zero a hj hk e = absurd (a.two (ap first (sym e)))
from_one one other (suc zero) (suc zero) a hj hk e = refl
from_one one other (suc zero) (suc (suc k)) a hj hk e = absurd (a.back (ap first e))
from_one one other (suc (suc j)) zero a hj hk e = absurd (a.front (ap first (sym e)))
from_one one other (suc (suc j)) (suc zero) a hj hk e = absurd (a.back (ap first (sym e)))
from_one one other (suc (suc j)) (suc (suc k)) a hj hk e =
    number_in 109 (suc (suc j)) (suc (suc k)) hj hk e

pair_apart : Apart (codes "a") (codes "b")
pair_apart = record { two = λ h. omega (arith, h); front = λ h. omega (arith, h); back = λ h. omega (arith, h) }

event_apart : Apart (codes "is") (codes "v")
event_apart = record { two = λ h. omega (arith, h); front = λ h. omega (arith, h); back = λ h. omega (arith, h) }

list_apart : Apart (codes "n") (codes "e")
list_apart = record { two = λ h. omega (arith, h); front = λ h. omega (arith, h); back = λ h. omega (arith, h) }

one_member : (K : Kind) (j k : ℕ) → j < 2 ^ 64 → k < 2 ^ 64 → member_text K j ≡ member_text K k → j ≡ k
one_member K.Pair j k hj hk e = from_one (codes "a") (codes "b") j k pair_apart hj hk e
one_member K.Event j k hj hk e = from_one (codes "is") (codes "v") j k event_apart hj hk e
one_member K.List j k hj hk e = from_one (codes "n") (codes "e") j k list_apart hj hk e
one_member K.Kept j k hj hk e = number_in 109 j k hj hk e

pub one_name : NameLaw
one_name P (N.Local k) (N.Local j) o hk hj e = ap N.Local (number_in 114 k j hk hj e)
one_name P (N.Local k) (N.Member K j) o hk hj e = absurd (member_apart K j (ap first (sym e)))
one_name P (N.Local k) (N.Function j) o hk hj e =
    absurd (short_apart _ P (102 ∷ decimal j) (local_unmarked k hk) e)
one_name P (N.Local k) N.Init o hk hj e =
    absurd (short_apart _ P (codes "init") (local_unmarked k hk) e)
one_name P (N.Local k) N.Step o hk hj e =
    absurd (short_apart _ P (codes "step") (local_unmarked k hk) e)
one_name P (N.Local k) (N.Struct j) o hk hj e =
    absurd (short_apart _ P (116 ∷ decimal j) (local_unmarked k hk) e)
one_name P (N.Local k) N.Of o hk hj e =
    absurd (short_apart _ P (codes "of") (local_unmarked k hk) e)
one_name P (N.Local k) N.Zeros o hk hj e =
    absurd (short_apart _ P (codes "zeros") (local_unmarked k hk) e)
one_name P (N.Local k) N.Signed o hk hj e =
    absurd (short_apart _ P (codes "signed") (local_unmarked k hk) e)
one_name P (N.Member K k) (N.Local j) o hk hj e = absurd (member_apart K k (ap first e))
one_name P (N.Member K k) (N.Member L j) o hk hj e =
    ap₂ N.Member o (one_member K k j hk hj (e ∙ ap (λ M. member_text M j) (sym o)))
one_name P (N.Member K k) (N.Function j) o hk hj e =
    absurd (short_apart _ P (102 ∷ decimal j) (member_unmarked K k hk) e)
one_name P (N.Member K k) N.Init o hk hj e =
    absurd (short_apart _ P (codes "init") (member_unmarked K k hk) e)
one_name P (N.Member K k) N.Step o hk hj e =
    absurd (short_apart _ P (codes "step") (member_unmarked K k hk) e)
one_name P (N.Member K k) (N.Struct j) o hk hj e =
    absurd (short_apart _ P (116 ∷ decimal j) (member_unmarked K k hk) e)
one_name P (N.Member K k) N.Of o hk hj e =
    absurd (short_apart _ P (codes "of") (member_unmarked K k hk) e)
one_name P (N.Member K k) N.Zeros o hk hj e =
    absurd (short_apart _ P (codes "zeros") (member_unmarked K k hk) e)
one_name P (N.Member K k) N.Signed o hk hj e =
    absurd (short_apart _ P (codes "signed") (member_unmarked K k hk) e)
one_name P (N.Function k) (N.Local j) o hk hj e =
    absurd (short_apart _ P (102 ∷ decimal k) (local_unmarked j hj) (sym e))
one_name P (N.Function k) (N.Member K j) o hk hj e =
    absurd (short_apart _ P (102 ∷ decimal k) (member_unmarked K j hj) (sym e))
one_name P (N.Function k) (N.Function j) o hk hj e =
    ap N.Function (number_behind P 95 102 k j hk hj e)
one_name P (N.Function k) N.Init o hk hj e = absurd (omega (arith, second P _ _ e))
one_name P (N.Function k) N.Step o hk hj e = absurd (omega (arith, second P _ _ e))
one_name P (N.Function k) (N.Struct j) o hk hj e = absurd (omega (arith, second P _ _ e))
one_name P (N.Function k) N.Of o hk hj e = absurd (omega (arith, second P _ _ e))
one_name P (N.Function k) N.Zeros o hk hj e = absurd (omega (arith, second P _ _ e))
one_name P (N.Function k) N.Signed o hk hj e = absurd (omega (arith, second P _ _ e))
one_name P N.Init (N.Local j) o hk hj e =
    absurd (short_apart _ P (codes "init") (local_unmarked j hj) (sym e))
one_name P N.Init (N.Member K j) o hk hj e =
    absurd (short_apart _ P (codes "init") (member_unmarked K j hj) (sym e))
one_name P N.Init (N.Function j) o hk hj e = absurd (omega (arith, second P _ _ e))
one_name P N.Init N.Init o hk hj e = refl
one_name P N.Init N.Step o hk hj e = absurd (omega (arith, second P _ _ e))
one_name P N.Init (N.Struct j) o hk hj e = absurd (omega (arith, second P _ _ e))
one_name P N.Init N.Of o hk hj e = absurd (omega (arith, second P _ _ e))
one_name P N.Init N.Zeros o hk hj e = absurd (omega (arith, second P _ _ e))
one_name P N.Init N.Signed o hk hj e = absurd (omega (arith, second P _ _ e))
one_name P N.Step (N.Local j) o hk hj e =
    absurd (short_apart _ P (codes "step") (local_unmarked j hj) (sym e))
one_name P N.Step (N.Member K j) o hk hj e =
    absurd (short_apart _ P (codes "step") (member_unmarked K j hj) (sym e))
one_name P N.Step (N.Function j) o hk hj e = absurd (omega (arith, second P _ _ e))
one_name P N.Step N.Init o hk hj e = absurd (omega (arith, second P _ _ e))
one_name P N.Step N.Step o hk hj e = refl
one_name P N.Step (N.Struct j) o hk hj e = absurd (omega (arith, second P _ _ e))
one_name P N.Step N.Of o hk hj e = absurd (omega (arith, second P _ _ e))
one_name P N.Step N.Zeros o hk hj e = absurd (omega (arith, second P _ _ e))
one_name P N.Step N.Signed o hk hj e = absurd (omega (arith, third P _ _ e))
one_name P (N.Struct k) (N.Local j) o hk hj e =
    absurd (short_apart _ P (116 ∷ decimal k) (local_unmarked j hj) (sym e))
one_name P (N.Struct k) (N.Member K j) o hk hj e =
    absurd (short_apart _ P (116 ∷ decimal k) (member_unmarked K j hj) (sym e))
one_name P (N.Struct k) (N.Function j) o hk hj e = absurd (omega (arith, second P _ _ e))
one_name P (N.Struct k) N.Init o hk hj e = absurd (omega (arith, second P _ _ e))
one_name P (N.Struct k) N.Step o hk hj e = absurd (omega (arith, second P _ _ e))
one_name P (N.Struct k) (N.Struct j) o hk hj e = ap N.Struct (number_behind P 95 116 k j hk hj e)
one_name P (N.Struct k) N.Of o hk hj e = absurd (omega (arith, second P _ _ e))
one_name P (N.Struct k) N.Zeros o hk hj e = absurd (omega (arith, second P _ _ e))
one_name P (N.Struct k) N.Signed o hk hj e = absurd (omega (arith, second P _ _ e))
one_name P N.Of (N.Local j) o hk hj e =
    absurd (short_apart _ P (codes "of") (local_unmarked j hj) (sym e))
one_name P N.Of (N.Member K j) o hk hj e =
    absurd (short_apart _ P (codes "of") (member_unmarked K j hj) (sym e))
one_name P N.Of (N.Function j) o hk hj e = absurd (omega (arith, second P _ _ e))
one_name P N.Of N.Init o hk hj e = absurd (omega (arith, second P _ _ e))
one_name P N.Of N.Step o hk hj e = absurd (omega (arith, second P _ _ e))
one_name P N.Of (N.Struct j) o hk hj e = absurd (omega (arith, second P _ _ e))
one_name P N.Of N.Of o hk hj e = refl
one_name P N.Of N.Zeros o hk hj e = absurd (omega (arith, second P _ _ e))
one_name P N.Of N.Signed o hk hj e = absurd (omega (arith, second P _ _ e))
one_name P N.Zeros (N.Local j) o hk hj e =
    absurd (short_apart _ P (codes "zeros") (local_unmarked j hj) (sym e))
one_name P N.Zeros (N.Member K j) o hk hj e =
    absurd (short_apart _ P (codes "zeros") (member_unmarked K j hj) (sym e))
one_name P N.Zeros (N.Function j) o hk hj e = absurd (omega (arith, second P _ _ e))
one_name P N.Zeros N.Init o hk hj e = absurd (omega (arith, second P _ _ e))
one_name P N.Zeros N.Step o hk hj e = absurd (omega (arith, second P _ _ e))
one_name P N.Zeros (N.Struct j) o hk hj e = absurd (omega (arith, second P _ _ e))
one_name P N.Zeros N.Of o hk hj e = absurd (omega (arith, second P _ _ e))
one_name P N.Zeros N.Zeros o hk hj e = refl
one_name P N.Zeros N.Signed o hk hj e = absurd (omega (arith, second P _ _ e))
one_name P N.Signed (N.Local j) o hk hj e =
    absurd (short_apart _ P (codes "signed") (local_unmarked j hj) (sym e))
one_name P N.Signed (N.Member K j) o hk hj e =
    absurd (short_apart _ P (codes "signed") (member_unmarked K j hj) (sym e))
one_name P N.Signed (N.Function j) o hk hj e = absurd (omega (arith, second P _ _ e))
one_name P N.Signed N.Init o hk hj e = absurd (omega (arith, second P _ _ e))
one_name P N.Signed N.Step o hk hj e = absurd (omega (arith, third P _ _ e))
one_name P N.Signed (N.Struct j) o hk hj e = absurd (omega (arith, second P _ _ e))
one_name P N.Signed N.Of o hk hj e = absurd (omega (arith, second P _ _ e))
one_name P N.Signed N.Zeros o hk hj e = absurd (omega (arith, second P _ _ e))
one_name P N.Signed N.Signed o hk hj e = refl
