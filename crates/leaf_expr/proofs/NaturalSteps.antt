-- What a word is as a natural number in a range, by what it is as a number.
use Rattle.std.proofs.Common.{◌≡◌, ℕ, ◌≤◌, ◌<◌, ◌^◌, Bool, true, false, ◌&&◌, if◌then◌else◌, nat_le, List, refl, sym, ap, ◌∙◌, arith, ℤ, pos, negsuc, FitsSigned, w64, to_z, of_z, Some, None, Err}
use Rattle.std.proofs.Math.Facts.{to_z-of_z}
use Rattle.std.specs.Fmt.{decimal, signed_decimal}
use Rattle.std.proofs.lemmas.Bool.{leb-true, le-leb}
use Rattle.sample_core.specs.Number.{is_number_word}
use Rattle.sample_core.proofs.Numbers.{both, parts_of}
use Rattle.leaf_expr.specs.WordReading.{WordReading, reads, misspelt, unfit, integer_at, natural_at, natural}
use Rattle.leaf_expr.specs.ReadText.{word_reading}
use Rattle.leaf_expr.specs.declared.word.WordFault.{WordFault}
use Rattle.leaf_expr.specs.declared.word.WordFault.TheVariants as W
use Rattle.leaf_expr.specs.Token.{PlacedToken}
use Rattle.leaf_expr.specs.Grammar.{leaf, index_sort, word_at, words}
use Rattle.leaf_expr.specs.TreeReader.{word_read, read, read_head}
use Rattle.sample_core.specs.Answer.{◌>>=◌}
use Rattle.leaf_expr.proofs.ReadSteps.{formless_read}
use Rattle.leaf_expr.proofs.Numbers.{integer_spelled, integer_back, natural_spelled, natural_back}
use Rattle.leaf_expr.specs.declared.number_reader.TheConstants.{MOST_INDEX}

-- both read a number word, or neither does
alike : (a b c : Bool) (z : ℤ) (n : ℕ) → (if a then (if b then reads z else misspelt) else unfit) ≡ unfit
    → (if a then (if c then reads n else misspelt) else unfit) ≡ unfit
alike true true c z n e = absurd (cc)
alike true false c z n e = absurd (cc)
alike false b c z n e = refl

alike_back : (a b c : Bool) (z : ℤ) (n : ℕ) → (if a then (if c then reads n else misspelt) else unfit) ≡ unfit
    → (if a then (if b then reads z else misspelt) else unfit) ≡ unfit
alike_back true b true z n e = absurd (cc)
alike_back true b false z n e = absurd (cc)
alike_back false b c z n e = refl

module _ (low high : ℕ) (h : high < 2 ^ 63) where
  -- a number as a natural number in the range, or what it was
  abbrev clip : WordReading ℤ → WordReading ℕ
  clip (reads (pos k)) = if nat_le low k && nat_le k high then reads k else misspelt
  clip (reads (negsuc k)) = misspelt
  clip misspelt = misspelt
  clip unfit = unfit

  clipped : (w : List ℕ) → natural_at low high w ≡ clip (integer_at w)
  clipped w = go (natural_at low high w) (integer_at w) refl refl
    where
      go : (r : WordReading ℕ) (q : WordReading ℤ) → natural_at low high w ≡ r → integer_at w ≡ q → r ≡ clip q
      go (reads n) q e f =
          let b : (low ≤ n) × (n ≤ high) × (w ≡ decimal n) = natural_back low high n w (omega (arith, h)) e in
          let i : integer_at w ≡ reads (pos n) = ap integer_at b.2 ∙ integer_spelled (pos n) (omega (arith, h, b.1)) in
          let j : q ≡ reads (pos n) = sym f ∙ i in
          let k : (nat_le low n && nat_le n high) ≡ true = both (nat_le low n) (nat_le n high) (le-leb low n b.0) (le-leb n high b.1) in
          rw (j, k) refl
      go unfit q e f = let i : q ≡ unfit = sym f ∙ alike_back (is_number_word w) _ _ _ _ e in rw i refl
      go misspelt misspelt e f = refl
      go misspelt unfit e f = absurd (let i : natural_at low high w ≡ unfit = alike (is_number_word w) _ _ _ _ f in cc)
      go misspelt (reads (negsuc k)) e f = refl
      go misspelt (reads (pos k)) e f = small (nat_le low k && nat_le k high) refl
        where
          small : (b : Bool) → (nat_le low k && nat_le k high) ≡ b → misspelt ≡ (if b then reads k else misspelt)
          small false p = refl
          small true p = absurd (
              let i : (nat_le low k ≡ true) × (nat_le k high ≡ true) = parts_of (nat_le low k) (nat_le k high) p in
              let l : low ≤ k = leb-true low k i.0 in
              let u : k ≤ high = leb-true k high i.1 in
              let j : FitsSigned w64 (pos k) × (w ≡ signed_decimal (pos k)) = integer_back (pos k) w f in
              let m : natural_at low high w ≡ reads k = ap (natural_at low high) j.1 ∙ natural_spelled low high k l u (omega (arith, h, u)) in
              cc)

  pub natural_refused : (w : List ℕ) (e : WordFault) → word_reading {X = ℤ} (λ n. n) (Err e) ≡ integer_at w
      → word_reading {X = ℕ} (λ k. k) (Err e) ≡ natural_at low high w
  natural_refused w W.Misspelt e = sym (clipped w ∙ ap clip (sym e))
  natural_refused w W.Unfit e = sym (clipped w ∙ ap clip (sym e))

  pub natural_found : (w : List ℕ) (z : ℤ) (k : ℕ) → reads z ≡ integer_at w → Some k ≡ natural low high z → reads k ≡ natural_at low high w
  natural_found w (pos n) k e f = sym (clipped w ∙ ap clip (sym e) ∙ go (nat_le low n && nat_le n high) f)
    where
      go : (b : Bool) → Some k ≡ (if b then Some n else None) → (if b then reads n else misspelt) ≡ reads k
      go true p = cc
      go false p = absurd (cc)
  natural_found w (negsuc n) k e f = absurd (cc)

  pub natural_wild : (w : List ℕ) (z : ℤ) → reads z ≡ integer_at w → None ≡ natural low high z → misspelt ≡ natural_at low high w
  natural_wild w (pos n) e f = sym (clipped w ∙ ap clip (sym e) ∙ go (nat_le low n && nat_le n high) f)
    where
      go : (b : Bool) → None ≡ (if b then Some n else None) → (if b then reads n else misspelt) ≡ misspelt
      go true p = absurd (cc)
      go false p = refl
  natural_wild w (negsuc n) e f = sym (clipped w ∙ ap clip (sym e))

  -- a number of 64 bits is read back from its bits
  pub kept : (w : List ℕ) (z : ℤ) → reads z ≡ integer_at w → natural low high (to_z w64 (of_z w64 z)) ≡ natural low high z
  kept w z e = let f : FitsSigned w64 z × (w ≡ signed_decimal z) = integer_back z w (sym e) in ap (natural low high) (to_z-of_z f.0)

-- the number of a parameter is such a number
pub index_read : (size room : ℕ) (ts : List PlacedToken)
    → read leaf size room index_sort ts ≡ (read_head leaf size room ts >>= (λ h. word_read h.0 h.1 h.2 (natural_at 0 MOST_INDEX h.1)))
unfolding word_at words
index_read size room ts = formless_read leaf size room index_sort ts refl
