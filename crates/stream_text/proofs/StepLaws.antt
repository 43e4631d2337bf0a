-- A step's digits are its decimal.
use Rattle.std.proofs.Common.{◌≡◌, ◌<◌, ◌+◌, ◌^◌, ℕ, suc, Bool, true, false, nat_eq, nat_lt, List, [], ◌∷◌, ◌++◌, length, take, drop, get_or, Option, Some, None, refl, sym, ap, ◌∙◌, arith, take-append-drop, if◌then◌else◌}
use Rattle.std.specs.Prelude.{◌&&◌, not}
use Rattle.std.specs.Char.{is_ascii_digit}
use Rattle.std.specs.Fmt.{decimal}
use Rattle.std.specs.List.{prefix_len, take_while}
use Rattle.std.specs.Str.{all_ascii_digits}
use Rattle.std.specs.Str.Parse.{digits_value}
use Rattle.std.proofs.lemmas.Bool.{eqb-true}
use Rattle.std.proofs.lemmas.Bool.Decides.{nat_tests}
use Rattle.std.proofs.lemmas.Fmt.{decimal_nonempty, digits_decimal, digits_value-decimal, decimal-digits_value, first_decimal}
use Rattle.std.proofs.lemmas.Str.Parse.{numerals_by_value, tells_all_ascii_digits}
use Rattle.stream_text.specs.LineLaws.{IsStepped, StepLaw}
use Rattle.stream_text.specs.StepText.{stripped, is_step, step_then, step_if, step_in}
use Rattle.stream_text.proofs.Samples.{stepped_range}

-- what stands behind a byte that stands first
behind_is : (b : ℕ) (bs rest : List ℕ) → stripped b bs ≡ Some rest → bs ≡ b ∷ rest
behind_is b [] rest e = absurd (cc)
behind_is b (c ∷ cs) rest e = go (nat_eq c b) refl e
  where
    go : (p : Bool) → nat_eq c b ≡ p → (if p then Some cs else None) ≡ Some rest → c ∷ cs ≡ b ∷ rest
    go true q h = let i : c ≡ b = eqb-true c b q in let j : cs ≡ rest = cc in cc
    go false q h = absurd (cc)

is_behind : (b : ℕ) (rest : List ℕ) → stripped b (b ∷ rest) ≡ Some rest
is_behind b rest = let e : nat_eq b b ≡ true = grind (arith, nat_tests) in ap (λ p. if p then Some rest else None) e

-- the digits in front, and what stands behind them
digits_then : (bs : List ℕ) → bs ≡ take_while is_ascii_digit bs ++ drop (prefix_len is_ascii_digit bs) bs
digits_then bs = sym (take-append-drop (prefix_len is_ascii_digit bs) bs)

digits_in_front : (bs : List ℕ) → all_ascii_digits (take_while is_ascii_digit bs) ≡ true
digits_in_front [] = refl
digits_in_front (b ∷ bs) = go (is_ascii_digit b) refl (digits_in_front bs)
  where
    go : (p : Bool) → is_ascii_digit b ≡ p → all_ascii_digits (take_while is_ascii_digit bs) ≡ true
        → all_ascii_digits (take (if p then 1 + prefix_len is_ascii_digit bs else 0) (b ∷ bs)) ≡ true
    go true q i =
        let one : 1 + prefix_len is_ascii_digit bs ≡ suc (prefix_len is_ascii_digit bs) = omega arith in
        ap (λ k. all_ascii_digits (take k (b ∷ bs))) one ∙ ap (λ p. p && all_ascii_digits (take (prefix_len is_ascii_digit bs) bs)) q ∙ i
    go false q i = refl

-- digits with something else behind them are the digits in front
digits_before : (ds rest : List ℕ) → all_ascii_digits ds ≡ true → prefix_len is_ascii_digit (ds ++ (32 ∷ rest)) ≡ length ds
digits_before [] rest a = refl
digits_before (d ∷ ds) rest a = go (is_ascii_digit d) refl (all_ascii_digits ds) refl a (digits_before ds rest)
  where
    go : (p : Bool) → is_ascii_digit d ≡ p → (q : Bool) → all_ascii_digits ds ≡ q → (p && q) ≡ true
        → (all_ascii_digits ds ≡ true → prefix_len is_ascii_digit (ds ++ (32 ∷ rest)) ≡ length ds)
        → prefix_len is_ascii_digit (d ∷ (ds ++ (32 ∷ rest))) ≡ suc (length ds)
    go true e true f h i =
        let k : prefix_len is_ascii_digit (ds ++ (32 ∷ rest)) ≡ length ds = i f in
        ap (λ p. if p then 1 + prefix_len is_ascii_digit (ds ++ (32 ∷ rest)) else 0) e ∙ omega (arith, k)
    go true e false f h i = absurd (cc)
    go false e q f h i = absurd (cc)

some_digit : (ds : List ℕ) → is_step ds ≡ true → (0 < length ds) × (get_or ds 0 0 ≡ 48 → length ds ≡ 1)
some_digit [] h = absurd (cc)
some_digit (d ∷ ds) h = (omega arith, λ e. absurd (go (nat_eq d 48) refl e h))
  where
    go : (p : Bool) → nat_eq d 48 ≡ p → d ≡ 48 → (not p && nat_lt (digits_value 10 (d ∷ ds)) (2 ^ 63)) ≡ true → ⊥
    go true q e k = absurd (cc)
    go false q e k = absurd (let t : nat_eq d 48 ≡ true = grind (arith, nat_tests, e) in let u : true ≡ false = sym t ∙ q in cc)

followed : (b : Bool) (d : ℕ) (o : Option (List ℕ)) (e : ℕ) (rest : List ℕ) → step_then b d o ≡ Some (e, rest) → (b ≡ true) × (d ≡ e) × (o ≡ Some rest)
followed true d (Some r) e rest h = let q : ◌≡◌ {A = ℕ × List ℕ} (d, r) (e, rest) = cc in (refl, ap (λ y. y.0) q, ap (λ y. Some y.1) q)
followed true d None e rest h = absurd (cc)
followed false d o e rest h = absurd (cc)

stepped_is : (line rest : List ℕ) (d : ℕ) → step_in line ≡ Some (d, rest) → IsStepped line d rest
stepped_is line rest d h = go (stripped 43 line) refl h
  where
    go : (o : Option (List ℕ)) → stripped 43 line ≡ o → step_if o ≡ Some (d, rest) → IsStepped line d rest
    go None q e = absurd (cc)
    go (Some bs) q e =
        let ds : List ℕ = take_while is_ascii_digit bs in
        let f = followed (is_step ds) (digits_value 10 ds) (stripped 32 (drop (prefix_len is_ascii_digit bs) bs)) d rest e in
        let r = stepped_range line (d, rest) h in
        let s = some_digit ds f.0 in
        let small : digits_value 10 ds < 2 ^ 64 = let k : digits_value 10 ds ≡ d = f.1 in omega (arith, k, r.1) in
        let same : decimal d ≡ ds = ap decimal (sym f.1)
        ∙ decimal-digits_value (numerals_by_value _ tells_all_ascii_digits) ds (digits_in_front bs) s.0 s.1 small in (
          r.0,
          r.1,
          behind_is 43 line bs q ∙ ap (λ k. 43 ∷ k)
              (digits_then bs ∙ ap (λ k. ds ++ k) (behind_is 32 (drop (prefix_len is_ascii_digit bs) bs) rest f.2) ∙ ap (λ k. k ++ (32 ∷ rest)) (sym same)),
        )

decimal_step : (ds : List ℕ) (d : ℕ) → 0 < length ds → 48 < get_or ds 0 0 → digits_value 10 ds ≡ d → d < 2 ^ 63 → is_step ds ≡ true
decimal_step [] d l f v s = absurd (omega arith)
decimal_step (c ∷ cs) d l f v s =
    let a : nat_eq c 48 ≡ false = grind (arith, nat_tests, f) in
    let b : nat_lt (digits_value 10 (c ∷ cs)) (2 ^ 63) ≡ true = grind (arith, nat_tests, v, s) in
    ap (λ p. not p && nat_lt (digits_value 10 (c ∷ cs)) (2 ^ 63)) a ∙ b

is_stepped : (line rest : List ℕ) (d : ℕ) → IsStepped line d rest → step_in line ≡ Some (d, rest)
is_stepped line rest d h =
    let wide : d < 2 ^ 64 = omega (arith, h.1) in
    let all : all_ascii_digits (decimal d) ≡ true = digits_decimal (numerals_by_value _ tells_all_ascii_digits) d wide in
    let value : digits_value 10 (decimal d) ≡ d = digits_value-decimal (numerals_by_value _ tells_all_ascii_digits) d wide in
    let step : is_step (decimal d) ≡ true = decimal_step (decimal d) d (decimal_nonempty d wide) (first_decimal d (omega (arith, h.0)) wide) value h.1 in
    let bs : List ℕ = decimal d ++ (32 ∷ rest) in
    let n : prefix_len is_ascii_digit bs ≡ length (decimal d) = digits_before (decimal d) rest all in
    let front : take (prefix_len is_ascii_digit bs) bs ≡ decimal d = ap (λ k. take k bs) n ∙ take_seam (decimal d) (32 ∷ rest) in
    let after : drop (prefix_len is_ascii_digit bs) bs ≡ 32 ∷ rest = ap (λ k. drop k bs) n ∙ drop_seam (decimal d) (32 ∷ rest) in
    ap step_in h.2
    ∙ ap (λ ds. step_then (is_step ds) (digits_value 10 ds) (stripped 32 (drop (prefix_len is_ascii_digit bs) bs))) front
    ∙ ap (λ r. step_then (is_step (decimal d)) (digits_value 10 (decimal d)) (stripped 32 r)) after
    ∙ ap (λ o. step_then (is_step (decimal d)) (digits_value 10 (decimal d)) o) (is_behind 32 rest)
    ∙ ap (λ p. step_then p (digits_value 10 (decimal d)) (Some rest)) step
    ∙ ap (λ k. Some (k, rest)) value
  where
    take_seam : (xs ys : List ℕ) → take (length xs) (xs ++ ys) ≡ xs
    take_seam [] ys = refl
    take_seam (x ∷ xs) ys = ap (λ r. x ∷ r) (take_seam xs ys)

    drop_seam : (xs ys : List ℕ) → drop (length xs) (xs ++ ys) ≡ ys
    drop_seam [] ys = refl
    drop_seam (x ∷ xs) ys = drop_seam xs ys

pub step_law : StepLaw
step_law line rest d = (stepped_is line rest d, is_stepped line rest d)
