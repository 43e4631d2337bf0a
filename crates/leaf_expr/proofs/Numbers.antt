-- A number word that is read is the one spelling of its number, and that spelling is read.
use Rattle.std.proofs.Common.{◌≡◌, ℕ, suc, ◌^◌, ◌≤◌, ◌<◌, Bool, true, false, ◌&&◌, not, if◌then◌else◌, nat_le, List, [], ◌∷◌, length, refl, ap, ◌∙◌, subst, arith, nat_eq, ℤ, pos, negsuc, w64, FitsSigned}
use Rattle.std.specs.Fmt.{decimal, signed_decimal}
use Rattle.std.specs.Str.{all_ascii_digits}
use Rattle.std.proofs.lemmas.Bool.{le-leb, ne_eqb, leb-true}
use Rattle.std.proofs.lemmas.Str.Parse.{tells_all_ascii_digits}
use Rattle.leaf_expr.specs.Token.{is_word_byte}
use Rattle.leaf_expr.specs.Sexpr.{all_word_bytes, is_word}
use Rattle.sample_core.specs.Number.{is_minus, is_number_word, is_well_spelt, magnitude, number_of, is_in_64}
use Rattle.sample_core.proofs.Numbers.{Digits, decimal_has, plain_digits, plain_back, word_has, both, parts_of, Spells64}
use Rattle.sample_core.proofs.Numbers as spelled
use Rattle.leaf_expr.specs.WordReading.{reads, misspelt, unfit, is_between, integer_at, natural_at}

read_if : {T : Type 0} (a b : Bool) (x : T) → a ≡ true → b ≡ true → (if a then (if b then reads x else misspelt) else unfit) ≡ reads x
read_if true true x e f = refl
read_if true false x e f = absurd (cc)
read_if false b x e f = absurd (cc)

pub read_back : {T : Type 0} (a b : Bool) (x y : T) → (if a then (if b then reads x else misspelt) else unfit) ≡ reads y → (a ≡ true) × (b ≡ true) × (x ≡ y)
read_back true true x y e = (refl, refl, cc)
read_back true false x y e = absurd (cc)
read_back false b x y e = absurd (cc)

pub natural_spelled : (low high n : ℕ) → low ≤ n → n ≤ high → n < 2 ^ 64 → natural_at low high (decimal n) ≡ reads n
natural_spelled low high n l h s =
    let d : (is_minus (decimal n) ≡ false) × (is_number_word (decimal n) ≡ true) × (is_well_spelt (decimal n) ≡ true)
    × (magnitude (decimal n) ≡ n) = plain_digits (decimal n) n (decimal_has n s) in
    let r : is_between low high (decimal n) ≡ true =
    both (not (is_minus (decimal n)) && nat_le low (magnitude (decimal n))) (nat_le (magnitude (decimal n)) high)
    (both (not (is_minus (decimal n))) (nat_le low (magnitude (decimal n))) (ap not d.0) (le-leb low (magnitude (decimal n)) (rw d.3 l)))
    (le-leb (magnitude (decimal n)) high (rw d.3 h)) in
    read_if (is_number_word (decimal n)) (is_well_spelt (decimal n) && is_between low high (decimal n)) (magnitude (decimal n)) d.1
    (both (is_well_spelt (decimal n)) (is_between low high (decimal n)) d.2 r) ∙ ap reads d.3

pub integer_spelled : (z : ℤ) → FitsSigned w64 z → integer_at (signed_decimal z) ≡ reads z
integer_spelled z f =
    let w : List ℕ = signed_decimal z in
    let s : Spells64 w z = spelled.integer_spelled z f in
    let a : (is_number_word w ≡ true) × (is_well_spelt w ≡ true) = parts_of (is_number_word w) (is_well_spelt w) s.word in
    read_if (is_number_word w) (is_well_spelt w && is_in_64 w) (number_of w) a.0 (both (is_well_spelt w) (is_in_64 w) a.1 s.fits) ∙ ap reads s.value

pub natural_back : (low high n : ℕ) (w : List ℕ) → high < 2 ^ 64 → natural_at low high w ≡ reads n → (low ≤ n) × (n ≤ high) × (w ≡ decimal n)
natural_back low high n w h e =
    let a : (is_number_word w ≡ true) × ((is_well_spelt w && is_between low high w) ≡ true)
    × (magnitude w ≡ n) = read_back (is_number_word w) (is_well_spelt w && is_between low high w) (magnitude w) n e in
    let b : (is_well_spelt w ≡ true) × (is_between low high w ≡ true) = parts_of (is_well_spelt w) (is_between low high w) a.1 in
    let c : ((not (is_minus w) && nat_le low (magnitude w)) ≡ true)
    × (nat_le (magnitude w) high ≡ true) = parts_of (not (is_minus w) && nat_le low (magnitude w)) (nat_le (magnitude w) high) b.1 in
    let d : (not (is_minus w) ≡ true) × (nat_le low (magnitude w) ≡ true) = parts_of (not (is_minus w)) (nat_le low (magnitude w)) c.0 in
    let l : low ≤ magnitude w = leb-true low (magnitude w) d.1 in
    let u : magnitude w ≤ high = leb-true (magnitude w) high c.1 in
    (rw (← a.2) l, rw (← a.2) u, plain_back w (turned (is_minus w) d.0) (word_has w a.0 b.0) (omega arith) ∙ ap decimal a.2)
  where
    turned : (b : Bool) → not b ≡ true → b ≡ false
    turned true e = absurd (cc)
    turned false e = refl

pub integer_back : (z : ℤ) (w : List ℕ) → integer_at w ≡ reads z → FitsSigned w64 z × (w ≡ signed_decimal z)
integer_back z w e =
    let a : (is_number_word w ≡ true) × ((is_well_spelt w && is_in_64 w) ≡ true)
    × (number_of w ≡ z) = read_back (is_number_word w) (is_well_spelt w && is_in_64 w) (number_of w) z e in
    let b : (is_well_spelt w ≡ true) × (is_in_64 w ≡ true) = parts_of (is_well_spelt w) (is_in_64 w) a.1 in
    subst (λ x. FitsSigned w64 x × (w ≡ signed_decimal x)) a.2 (spelled.integer_back w (both (is_number_word w) (is_well_spelt w) a.0 b.0) b.1)

-- digits are word bytes
digit_is_word_byte : (d : ℕ) → 48 ≤ d → d ≤ 57 → is_word_byte d ≡ true
digit_is_word_byte d l h =
    let a : nat_eq d 32 ≡ false = ne_eqb d 32 (λ e. omega arith) in
    let b : nat_eq d 9 ≡ false = ne_eqb d 9 (λ e. omega arith) in
    let c : nat_eq d 10 ≡ false = ne_eqb d 10 (λ e. omega arith) in
    let c' : nat_eq d 13 ≡ false = ne_eqb d 13 (λ e. omega arith) in
    let f : nat_eq d 40 ≡ false = ne_eqb d 40 (λ e. omega arith) in
    let g : nat_eq d 41 ≡ false = ne_eqb d 41 (λ e. omega arith) in
    let h' : nat_eq d 59 ≡ false = ne_eqb d 59 (λ e. omega arith) in
    rw (a, b, c, c', f, g, h') refl

digits_are_word_bytes : (ds : List ℕ) → all_ascii_digits ds ≡ true → all_word_bytes ds ≡ true
digits_are_word_bytes [] e = refl
digits_are_word_bytes (d ∷ ds) e = let i = tells_all_ascii_digits.parts d ds e in
    both (is_word_byte d) (all_word_bytes ds) (digit_is_word_byte d (omega (arith, i.0)) (omega (arith, i.0))) (digits_are_word_bytes ds i.1)

nonempty_word : (ds : List ℕ) → 0 < length ds → all_word_bytes ds ≡ true → is_word ds ≡ true
nonempty_word [] l e = absurd (omega arith)
nonempty_word (d ∷ ds) l e = e

pub decimal_is_word : (n : ℕ) → n < 2 ^ 64 → is_word (decimal n) ≡ true
decimal_is_word n h = let d : Digits (decimal n) n = decimal_has n h in nonempty_word (decimal n) d.some (digits_are_word_bytes (decimal n) d.all)

pub signed_is_word : (z : ℤ) → FitsSigned w64 z → is_word (signed_decimal z) ≡ true
signed_is_word (pos n) f = let i : n < 2 ^ 63 = f.sfits in decimal_is_word n (omega arith)
signed_is_word (negsuc n) f = let i : n < 2 ^ 63 = f.sfits in digits_are_word_bytes (decimal (suc n)) (decimal_has (suc n) (omega arith)).all

low_head : (ds : List ℕ) → 0 < length ds → all_ascii_digits ds ≡ true → (d : ℕ) × (es : List ℕ) × (ds ≡ d ∷ es) × (d ≤ 57)
low_head [] l e = absurd (omega arith)
low_head (d ∷ ds) l e = let i = tells_all_ascii_digits.parts d ds e in (d, ds, refl, omega (arith, i.0))

-- a number's first byte is '-' or a digit
pub signed_head : (z : ℤ) → FitsSigned w64 z → (d : ℕ) × (es : List ℕ) × (signed_decimal z ≡ d ∷ es) × (d ≤ 57)
signed_head (pos n) f = let i : n < 2 ^ 63 = f.sfits in let d : Digits (decimal n) n = decimal_has n (omega arith) in low_head (decimal n) d.some d.all
signed_head (negsuc n) f = (45, decimal (suc n), refl, omega arith)
