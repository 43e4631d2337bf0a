-- A number word that is read is the one spelling of its number, and that spelling is read.
use Rattle.std.proofs.Common.{◌≡◌, ℕ, zero, suc, ◌^◌, ◌≤◌, ◌<◌, ◌⊎◌, inl, inr, Bool, true, false, ◌&&◌, ◌||◌, not, if◌then◌else◌, nat_le, nat_lt, neg_ℤ, unsigned_abs, List, [], ◌∷◌, length, get_or, refl, sym, ap, ◌∙◌, subst, arith, nat_eq, ℤ, pos, negsuc, w64, FitsSigned}
use Rattle.std.specs.Fmt.{decimal, signed_decimal}
use Rattle.std.specs.Str.{all_ascii_digits}
use Rattle.std.specs.Str.Parse.{digits_value}
use Rattle.std.proofs.lemmas.Fmt.{decimal_nonempty, digits_decimal, digits_value-decimal, decimal-digits_value, first_decimal, decimal_digit}
use Rattle.std.proofs.lemmas.Bool.{le-leb, lt-ltb, eq-eqb, leb-true, ltb-true, eqb-true}
use Rattle.std.proofs.lemmas.Str.Parse.{numerals_by_value, tells_all_ascii_digits}
use Rattle.sample_core.specs.Number.{is_minus, digits_part, is_number_word, begins_zero, is_well_spelt, is_number, magnitude, number_of, is_in_64}

-- the digits of n
pub record Digits (ds : List ℕ) (n : ℕ) : Type 0 where
  pub some : 0 < length ds
  pub all : all_ascii_digits ds ≡ true
  pub first : begins_zero ds ≡ true → length ds ≡ 1
  pub value : digits_value 10 ds ≡ n

begins_at : (ds : List ℕ) → begins_zero ds ≡ true → get_or ds 0 0 ≡ 48
begins_at [] e = absurd (cc)
begins_at (d ∷ ds) e = grind arith

begins_from : (ds : List ℕ) → get_or ds 0 0 ≡ 48 → begins_zero ds ≡ true
begins_from [] e = absurd (omega arith)
begins_from (d ∷ ds) e = grind arith

pub decimal_has : (n : ℕ) → n < 2 ^ 64 → Digits (decimal n) n
decimal_has n h =
    record {
      some = decimal_nonempty n h;
      all = digits_decimal (numerals_by_value _ tells_all_ascii_digits) n h;
      first = first n h;
      value =
          digits_value-decimal (numerals_by_value _ tells_all_ascii_digits) n h;
    }
  where
    first : (m : ℕ) → m < 2 ^ 64 → begins_zero (decimal m) ≡ true → length (decimal m) ≡ 1
    first zero l e = ap length (decimal_digit 0 (omega arith))
    first (suc m) l e = let b : get_or (decimal (suc m)) 0 0 ≡ 48 = begins_at (decimal (suc m)) e in
        absurd (omega (arith, first_decimal (suc m) (omega arith) l))

digits_are : (ds : List ℕ) (n : ℕ) → Digits ds n → n < 2 ^ 64 → decimal n ≡ ds
digits_are ds n d h = ap decimal (sym d.value)
    ∙ decimal-digits_value (numerals_by_value _ tells_all_ascii_digits) ds d.all d.some (λ e. d.first (begins_from ds e)) (rw d.value h)

no_minus : (ds : List ℕ) → all_ascii_digits ds ≡ true → is_minus ds ≡ false
no_minus [] e = refl
no_minus (d ∷ ds) e = let i = tells_all_ascii_digits.parts d ds e in grind (arith, i.0)

no_minus_part : (ds : List ℕ) → is_minus ds ≡ false → digits_part ds ≡ ds
no_minus_part [] e = refl
no_minus_part (d ∷ ds) e = rw e refl

pub both : (a b : Bool) → a ≡ true → b ≡ true → (a && b) ≡ true
both true b e f = f
both false b e f = e

pub parts_of : (a b : Bool) → (a && b) ≡ true → (a ≡ true) × (b ≡ true)
parts_of true b e = (refl, e)
parts_of false b e = absurd (cc)

spelt : (a b : Bool) → b ≡ false ⊎ a ≡ true → (a || not b) ≡ true
spelt true b h = refl
spelt false true (inl e) = absurd (cc)
spelt false true (inr e) = e
spelt false false h = refl

spelt_back : (a b : Bool) → (a || not b) ≡ true → b ≡ true → a ≡ true
spelt_back true b e f = refl
spelt_back false true e f = e
spelt_back false false e f = f

are_number : (ds : List ℕ) (n : ℕ) → Digits ds n → (nat_lt 0 (length ds) && all_ascii_digits ds) ≡ true
are_number ds n d = both (nat_lt 0 (length ds)) (all_ascii_digits ds) (lt-ltb 0 (length ds) d.some) d.all

-- without a '-'
pub plain_digits : (ds : List ℕ) (n : ℕ) → Digits ds n → (is_minus ds ≡ false) × (is_number_word ds ≡ true) × (is_well_spelt ds ≡ true) × (magnitude ds ≡ n)
plain_digits ds n d =
    let m : is_minus ds ≡ false = no_minus ds d.all in
    let p : digits_part ds ≡ ds = no_minus_part ds m in (
      m,
      ap (λ x. nat_lt 0 (length x) && all_ascii_digits x) p ∙ are_number ds n d,
      ap (λ x. nat_eq (length ds) 1 || not (begins_zero x)) p
          ∙ spelt (nat_eq (length ds) 1) (begins_zero ds) (go (begins_zero ds) refl),
      ap (digits_value 10) p ∙ d.value,
    )
  where
    go : (b : Bool) → begins_zero ds ≡ b → begins_zero ds ≡ false ⊎ nat_eq (length ds) 1 ≡ true
    go true e = inr (eq-eqb (length ds) 1 (d.first e))
    go false e = inl e

positive_first : (n : ℕ) → 0 < n → n < 2 ^ 64 → begins_zero (decimal n) ≡ false
positive_first n l h = go (begins_zero (decimal n)) refl
  where
    go : (b : Bool) → begins_zero (decimal n) ≡ b → begins_zero (decimal n) ≡ false
    go true e = absurd (let b : get_or (decimal n) 0 0 ≡ 48 = begins_at (decimal n) e in omega (arith, first_decimal n l h))
    go false e = e

-- the word spells the number, which has 64 bits
pub record Spells64 (w : List ℕ) (z : ℤ) : Type 0 where
  pub word : is_number w ≡ true
  pub fits : is_in_64 w ≡ true
  pub value : number_of w ≡ z

-- the spelling of a number of 64 bits is read as it
pub integer_spelled : (z : ℤ) → FitsSigned w64 z → Spells64 (signed_decimal z) z
integer_spelled (pos n) f =
    let i : n < 2 ^ 63 = f.sfits in
    let d : (is_minus (decimal n) ≡ false) × (is_number_word (decimal n) ≡ true) × (is_well_spelt (decimal n) ≡ true)
    × (magnitude (decimal n) ≡ n) = plain_digits (decimal n) n (decimal_has n (omega arith)) in
    let r : is_in_64 (decimal n) ≡ true = ap (λ b. if b then nat_le (magnitude (decimal n)) (2 ^ 63) else nat_lt (magnitude (decimal n)) (2 ^ 63)) d.0
    ∙ lt-ltb (magnitude (decimal n)) (2 ^ 63) (rw d.3 i) in
    record {
      word = both (is_number_word (decimal n)) (is_well_spelt (decimal n)) d.1 d.2;
      fits = r;
      value =
          ap (λ b. if b then neg_ℤ (pos (magnitude (decimal n))) else pos (magnitude (decimal n))) d.0 ∙ ap pos d.3;
    }
integer_spelled (negsuc n) f =
    let i : n < 2 ^ 63 = f.sfits in
    let d : Digits (decimal (suc n)) (suc n) = decimal_has (suc n) (omega arith) in
    let r : is_in_64 (45 ∷ decimal (suc n)) ≡ true = le-leb (magnitude (45 ∷ decimal (suc n))) (2 ^ 63) (rw d.value (omega arith)) in
    let s : is_well_spelt (45 ∷ decimal (suc n)) ≡ true =
    spelt (nat_eq (length (45 ∷ decimal (suc n))) 1) (begins_zero (decimal (suc n))) (inl (positive_first (suc n) (omega arith) (omega arith))) in
    record {
      word = both (is_number_word (45 ∷ decimal (suc n))) (is_well_spelt (45 ∷ decimal (suc n))) (are_number (decimal (suc n)) (suc n) d) s;
      fits =
          r;
      value = ap (λ k. neg_ℤ (pos k)) d.value;
    }

-- a number word that is well spelt
pub record Word (w : List ℕ) : Type 0 where
  pub some : 0 < length (digits_part w)
  pub all : all_ascii_digits (digits_part w) ≡ true
  pub first : begins_zero (digits_part w) ≡ true → length w ≡ 1

pub word_has : (w : List ℕ) → is_number_word w ≡ true → is_well_spelt w ≡ true → Word w
word_has w a b =
    let p : (nat_lt 0 (length (digits_part w)) ≡ true)
    × (all_ascii_digits (digits_part w) ≡ true) = parts_of (nat_lt 0 (length (digits_part w))) (all_ascii_digits (digits_part w)) a in
    record {
      some = ltb-true 0 (length (digits_part w)) p.0;
      all = p.1;
      first = λ e.
          eqb-true (length w) 1 (spelt_back (nat_eq (length w) 1) (begins_zero (digits_part w)) b e);
    }

pub plain_back : (w : List ℕ) → is_minus w ≡ false → Word w → magnitude w < 2 ^ 64 → w ≡ decimal (magnitude w)
plain_back w m h l =
    let p : digits_part w ≡ w = no_minus_part w m in
    let d : Digits (digits_part w) (magnitude w) = record { some = h.some; all = h.all; first = λ e. ap length p ∙ h.first e; value = refl } in
    sym p ∙ sym (digits_are (digits_part w) (magnitude w) d l)

-- the digits behind a minus, where they are worth m
minus_digits : (ds : List ℕ) (m : ℕ) → Word (45 ∷ ds) → digits_value 10 ds ≡ m → Digits ds m
minus_digits ds m h v =
    record {
      some = h.some;
      all = h.all;
      first = λ e.
          absurd (let i : length (45 ∷ ds) ≡ 1 = h.first e in let j : 0 < length ds = h.some in omega arith);
      value = v;
    }

minus_back : (ds : List ℕ) (m : ℕ) → Word (45 ∷ ds) → digits_value 10 ds ≡ m → m ≤ 2 ^ 63
    → FitsSigned w64 (neg_ℤ (pos m)) × (45 ∷ ds ≡ signed_decimal (neg_ℤ (pos m)))
minus_back ds zero h v l =
    let e : decimal 0 ≡ ds = digits_are ds 0 (minus_digits ds 0 h v) (omega arith) in
    absurd (let z : begins_zero ds ≡ true = ap begins_zero (sym e ∙ decimal_digit 0 (omega arith)) in let i : length (45 ∷ ds) ≡ 1 = h.first z in
    let j : 0 < length ds = h.some in omega arith)
minus_back ds (suc m) h v l =
    let e : decimal (suc m) ≡ ds = digits_are ds (suc m) (minus_digits ds (suc m) h v) (omega arith) in
    (record { sfits = omega arith }, ap (λ x. 45 ∷ x) (sym e))

minus_word : (w : List ℕ) → is_minus w ≡ true → w ≡ 45 ∷ digits_part w
minus_word [] e = absurd (cc)
minus_word (b ∷ bs) e = let i : b ≡ 45 = eqb-true b 45 e in ap (λ c. c ∷ bs) i ∙ ap (λ q. 45 ∷ (if q then bs else b ∷ bs)) (sym e)

-- a number word of 64 bits is the spelling of its number
pub integer_back : (w : List ℕ) → is_number w ≡ true → is_in_64 w ≡ true → FitsSigned w64 (number_of w) × (w ≡ signed_decimal (number_of w))
integer_back w e f =
    let a : (is_number_word w ≡ true) × (is_well_spelt w ≡ true) = parts_of (is_number_word w) (is_well_spelt w) e in
    go (is_minus w) refl (word_has w a.0 a.1) f
  where
    go : (m : Bool) → is_minus w ≡ m → Word w → is_in_64 w ≡ true → FitsSigned w64 (number_of w) × (w ≡ signed_decimal (number_of w))
    go false m h i =
        let l : magnitude w < 2 ^ 63 = ltb-true (magnitude w) (2 ^ 63)
        (ap (λ b. if b then nat_le (magnitude w) (2 ^ 63) else nat_lt (magnitude w) (2 ^ 63)) (sym m) ∙ i) in
        let n : number_of w ≡ pos (magnitude w) = ap (λ b. if b then neg_ℤ (pos (magnitude w)) else pos (magnitude w)) m in
        subst (λ x. FitsSigned w64 x × (w ≡ signed_decimal x)) (sym n) (record { sfits = l }, plain_back w m h (omega arith))
    go true m h i =
        let l : magnitude w ≤ 2 ^ 63 = leb-true (magnitude w) (2 ^ 63)
        (ap (λ b. if b then nat_le (magnitude w) (2 ^ 63) else nat_lt (magnitude w) (2 ^ 63)) (sym m) ∙ i) in
        let n : number_of w ≡ neg_ℤ (pos (magnitude w)) = ap (λ b. if b then neg_ℤ (pos (magnitude w)) else pos (magnitude w)) m in
        let e : w ≡ 45 ∷ digits_part w = minus_word w m in
        let r : FitsSigned w64 (neg_ℤ (pos (magnitude w)))
        × (45 ∷ digits_part w ≡ signed_decimal (neg_ℤ (pos (magnitude w)))) = minus_back (digits_part w) (magnitude w) (subst Word e h) refl l in
        subst (λ x. FitsSigned w64 x × (w ≡ signed_decimal x)) (sym n) (r.0, e ∙ r.1)

-- the digits of a number's spelling
pub signed_digits : (z : ℤ) → FitsSigned w64 z → all_ascii_digits (decimal (unsigned_abs z)) ≡ true
signed_digits (pos n) f = let i : n < 2 ^ 63 = f.sfits in (decimal_has n (omega arith)).all
signed_digits (negsuc n) f = let i : n < 2 ^ 63 = f.sfits in (decimal_has (suc n) (omega arith)).all
