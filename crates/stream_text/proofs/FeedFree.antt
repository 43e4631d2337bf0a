-- What is spelled without a line feed.
use Rattle.std.proofs.Common.{◌≡◌, ◌+◌, ◌/◌, ◌%◌, ℕ, zero, suc, Bool, true, false, nat_lt, if◌then◌else◌, List, [], ◌∷◌, ◌++◌, refl, sym, ap, ◌∙◌, arith}
use Rattle.std.specs.Prelude.{◌≢◌, ◌==◌, ℤ, pos, negsuc, codes, nat_eq}
use Rattle.std.specs.Fmt.{decimal, digit_glyph, digits, digits_onto, signed_decimal}
use Rattle.sample_core.specs.Datum.{Datum, Datums, unit, bool, int, pair, no_event, event, list, end, more}
use Rattle.sample_core.specs.Spelling.{spelling, spellings}
use Rattle.stream_text.specs.TextLines.{IsFeedFree}

pub free_append : (xs ys : List ℕ) → IsFeedFree xs → IsFeedFree ys → IsFeedFree (xs ++ ys)
free_append [] ys f g k l = g k l
free_append (x ∷ xs) ys f g zero l = f 0 (omega arith)
free_append (x ∷ xs) ys f g (suc k) l = free_append xs ys (λ i m. f (suc i) (omega arith)) g k (omega arith)

glyph_free : (d : ℕ) → digit_glyph false d ≢ 10
glyph_free d = go (nat_lt d 10)
  where
    go : (b : Bool) → (if b then 48 + d else (if false then 55 + d else 87 + d)) ≢ 10
    go true e = absurd (omega (arith, e))
    go false e = absurd (omega (arith, e))

digits_free : (fuel n : ℕ) (acc : List ℕ) → IsFeedFree acc → IsFeedFree (digits_onto fuel 10 false n acc)
digits_free zero n acc f = f
digits_free (suc k) n acc f = go (n / 10 == 0) (digits_free k (n / 10) (digit_glyph false (n % 10) ∷ acc) more)
  where
    more : IsFeedFree (digit_glyph false (n % 10) ∷ acc)
    more zero l = glyph_free (n % 10)
    more (suc i) l = f i (omega arith)

    go : (b : Bool) → IsFeedFree (digits_onto k 10 false (n / 10) (digit_glyph false (n % 10) ∷ acc))
        → IsFeedFree (if b then digit_glyph false (n % 10) ∷ acc else digits_onto k 10 false (n / 10) (digit_glyph false (n % 10) ∷ acc))
    go true i = more
    go false i = i

pub none_free : IsFeedFree []
none_free k l = absurd (omega arith)

pub decimal_free : (n : ℕ) → IsFeedFree (decimal n)
unfolding digits
decimal_free n = digits_free 64 n [] none_free

pub cons_free : (b : ℕ) (bs : List ℕ) → b ≢ 10 → IsFeedFree bs → IsFeedFree (b ∷ bs)
cons_free b bs h f zero l = h
cons_free b bs h f (suc k) l = f k (omega arith)

number_free : (z : ℤ) → IsFeedFree (signed_decimal z)
number_free (pos n) = decimal_free n
number_free (negsuc n) = cons_free 45 (decimal (suc n)) (λ e. absurd (omega (arith, e))) (decimal_free (suc n))

-- whether no byte is a line feed
all_free : List ℕ → Bool
all_free [] = true
all_free (b ∷ bs) = if nat_eq b 10 then false else all_free bs

tested : (bs : List ℕ) → all_free bs ≡ true → IsFeedFree bs
unfolding all_free
tested [] h = none_free
tested (b ∷ bs) h = go (nat_eq b 10) refl h (tested bs)
  where
    go : (p : Bool) → nat_eq b 10 ≡ p → (if p then false else all_free bs) ≡ true → (all_free bs ≡ true → IsFeedFree bs) → IsFeedFree (b ∷ bs)
    go true q e i = absurd (cc)
    go false q e i = cons_free b bs (λ m. absurd (let t : nat_eq b 10 ≡ true = ap (λ n. nat_eq n 10) m in let c : true ≡ false = sym t ∙ q in cc)) (i e)

mutual
  unfolding all_free

  -- no value is spelled with a line feed
  pub spelling_free : (v : Datum) → IsFeedFree (spelling v)
  spelling_free unit = tested (codes "unit") refl
  spelling_free (bool true) = tested (codes "true") refl
  spelling_free (bool false) = tested (codes "false") refl
  spelling_free (int n) = number_free n
  spelling_free (pair v w) = free_append (codes "(pair ") (spelling v ++ (codes " " ++ (spelling w ++ codes ")"))) (tested (codes "(pair ") refl)
      (free_append (spelling v) (codes " " ++ (spelling w ++ codes ")")) (spelling_free v)
      (free_append (codes " ") (spelling w ++ codes ")") (tested (codes " ") refl) (free_append (spelling w) (codes ")") (spelling_free w) (tested
      (codes ")") refl))))
  spelling_free no_event = tested (codes "none") refl
  spelling_free (event v) = free_append (codes "(event ") (spelling v ++ codes ")") (tested (codes "(event ") refl)
      (free_append (spelling v) (codes ")") (spelling_free v) (tested (codes ")") refl))
  spelling_free (list vs) = free_append (codes "(list") (spellings vs ++ codes ")") (tested (codes "(list") refl)
      (free_append (spellings vs) (codes ")") (spellings_free vs) (tested (codes ")") refl))

  spellings_free : (vs : Datums) → IsFeedFree (spellings vs)
  spellings_free end = none_free
  spellings_free (more v vs) = free_append (codes " ") (spelling v ++ spellings vs) (tested (codes " ") refl)
      (free_append (spelling v) (spellings vs) (spelling_free v) (spellings_free vs))

pub plus_free : IsFeedFree (codes "+")
plus_free = cons_free 43 [] (λ e. absurd (omega (arith, e))) none_free

pub space_free : IsFeedFree (codes " ")
space_free = cons_free 32 [] (λ e. absurd (omega (arith, e))) none_free

pub equals_free : IsFeedFree (codes "=")
equals_free = cons_free 61 [] (λ e. absurd (omega (arith, e))) none_free
