-- A line holds what it is read as, and is read as what it holds.
use Rattle.std.proofs.Common.{◌≡◌, ◌≤◌, ◌<◌, ◌^◌, ℕ, suc, Bool, true, false, nat_eq, nat_lt, List, [], ◌∷◌, length, Option, Some, None, Ok, Err, refl, sym, ap, ◌∙◌, subst, arith, inl, inr, if◌then◌else◌, ℤ, pos, negsuc, w64, FitsSigned}
use Rattle.std.specs.Prelude.{◌⊎◌, ◌≢◌, ◌&&◌, bytes_eq, codes, is_some}
use Rattle.std.specs.Char.{is_ascii_digit}
use Rattle.std.specs.Fmt.{decimal, signed_decimal}
use Rattle.std.specs.Str.{all_ascii_digits}
use Rattle.std.proofs.lemmas.Bool.Decides.{nat_tests}
use Rattle.std.proofs.lemmas.Fmt.{decimal_nonempty, digits_decimal}
use Rattle.std.proofs.lemmas.Slice.Eq.{bytes_eq-Decides}
use Rattle.std.proofs.lemmas.Str.Parse.{numerals_by_value, tells_all_ascii_digits}
use Rattle.sample_core.specs.Datum.{Datum, unit, bool, int, pair, no_event, event, list}
use Rattle.sample_core.specs.HasType.{HasType, int_has}
use Rattle.sample_core.specs.Spelling.{spelling}
use Rattle.sample_core.specs.TypeTree.{TypeTree}
use Rattle.stream_text.specs.LineLaws.{WholeValueLaw, IsStepped, StepLaw, HoldsSample, LineLaw}
use Rattle.stream_text.specs.StepText.{stripped, step_in}
use Rattle.stream_text.specs.StreamText.{whole_value, with_step, later_line, line_after, line_read}
use Rattle.stream_text.specs.declared.fault.StreamFault.TheVariants as S
use Rattle.stream_text.proofs.Samples.{from_else, with_step_from, after_limits, read_few}
use Rattle.stream_text.proofs.Steps.{digit_in_range}
use Rattle.stream_text.specs.declared.line.TheConstants.{MOST_SAMPLES, MOST_BYTES}

-- bytes begin neither with `+` nor with `=`
abbrev pub Begins : List ℕ → Type 0
Begins bs = (b : ℕ) × (rest : List ℕ) × (bs ≡ b ∷ rest) × (b ≢ 43) × (b ≢ 61)

begins : (b : ℕ) (rest : List ℕ) → nat_eq b 43 ≡ false → nat_eq b 61 ≡ false → Begins (b ∷ rest)
begins b rest e f = (b, rest, refl, λ h. grind (arith, nat_tests, e, h), λ h. grind (arith, nat_tests, f, h))

digits_begin : (ds : List ℕ) → 0 < length ds → all_ascii_digits ds ≡ true → Begins ds
digits_begin [] l a = absurd (omega arith)
digits_begin (d ∷ ds) l a = go (is_ascii_digit d) refl a
  where
    go : (p : Bool) → is_ascii_digit d ≡ p → (p && all_ascii_digits ds) ≡ true → Begins (d ∷ ds)
    go true q h = let r : (48 ≤ d) × (d ≤ 57) = digit_in_range d q in (
      d,
      ds,
      refl,
      λ e. absurd (omega (arith, r.0, r.1, e)),
      λ e. absurd (omega
          (arith, r.0, r.1, e)),
    )
    go false q h = absurd (cc)

decimal_begins : (n : ℕ) → n < 2 ^ 64 → Begins (decimal n)
decimal_begins n h = digits_begin (decimal n) (decimal_nonempty n h) (digits_decimal (numerals_by_value _ tells_all_ascii_digits) n h)

number_begins : (z : ℤ) → FitsSigned w64 z → Begins (signed_decimal z)
number_begins (pos n) h = decimal_begins n (grind arith)
number_begins (negsuc n) h = begins 45 (decimal (suc n)) refl refl

spelling_begins : (v : Datum) (A : TypeTree) → HasType v A → Begins (spelling v)
spelling_begins unit A t = begins 117 _ refl refl
spelling_begins (bool true) A t = begins 116 _ refl refl
spelling_begins (bool false) A t = begins 102 _ refl refl
spelling_begins (int n) A (int_has f) = number_begins n f
spelling_begins (pair v w) A t = begins 40 _ refl refl
spelling_begins no_event A t = begins 110 _ refl refl
spelling_begins (event v) A t = begins 40 _ refl refl
spelling_begins (list vs) A t = begins 40 _ refl refl

no_plus : (bs : List ℕ) → Begins bs → is_some (stripped 43 bs) ≡ false
no_plus bs b =
    let n : nat_eq b.0 43 ≡ false = not_eq b.0 43 b.3 in
    ap (λ k. is_some (stripped 43 k)) b.2 ∙ ap (λ p. is_some (if p then Some b.1 else None)) n
  where
    not_eq : (x y : ℕ) → x ≢ y → nat_eq x y ≡ false
    not_eq x y h = grind (arith, nat_tests)

no_equals : (bs : List ℕ) → Begins bs → bytes_eq bs (codes "=") ≡ false
no_equals bs b = go (bytes_eq bs (codes "=")) refl
  where
    go : (p : Bool) → bytes_eq bs (codes "=") ≡ p → p ≡ false
    go true q = absurd (b.4 (let e : b.0 ∷ b.1 ≡ 61 ∷ [] = sym b.2 ∙ (bytes_eq-Decides bs (codes "=")).0 q in cc))
    go false q = refl

short_line : (A : TypeTree) (n : ℕ) (before : Option Datum) (line : List ℕ) (x : ℕ × Datum) → line_read A n before line ≡ Ok x → length line ≤ MOST_BYTES
short_line A n before line x h = go (nat_lt MOST_BYTES (length line)) refl (from_else (nat_lt MOST_SAMPLES n) _ _ x h)
  where
    go : (b : Bool) → nat_lt MOST_BYTES (length line) ≡ b → (if b then Err (S.LineTooLong n) else line_after A n before line) ≡ Ok x → length line ≤ MOST_BYTES
    go true q e = absurd (cc)
    go false q e = grind (arith, nat_tests, q)

held : WholeValueLaw → StepLaw → (A : TypeTree) (n : ℕ) (before : Option Datum) (line : List ℕ) (x : ℕ × Datum) → line_after A n before line ≡ Ok x
    → HoldsSample A before line x
held value step A n None line x h =
    let one = from_else (is_some (stripped 43 line)) _ _ x h in
    let two = from_else (bytes_eq line (codes "=")) _ _ x one in
    let w : (whole_value A n line ≡ Ok x.1) × (x.0 ≡ 0) = with_step_from 0 (whole_value A n line) x two in
    let v = (value A n line x.1).0 w.0 in
    (w.1, v.0, v.1)
held value step A n (Some before) line x h = go (step_in line) refl h
  where
    same : (d : ℕ) (rest : List ℕ) → step_in line ≡ Some (d, rest) → (b : Bool) → bytes_eq rest (codes "=") ≡ b
        → (if b then Ok (d, before) else with_step d (whole_value A n rest)) ≡ Ok x → HoldsSample A (Some before) line x
    same d rest s true q e =
        let p : ◌≡◌ {A = ℕ × Datum} (d, before) x = cc in (
          rest,
          subst (λ k. IsStepped line k rest) (ap (λ y. y.0) p) ((step line rest d).0 s),
          inl ((bytes_eq-Decides rest (codes "=")).0 q, sym (ap (λ y. y.1) p)),
        )
    same d rest s false q e =
        let w : (whole_value A n rest ≡ Ok x.1) × (x.0 ≡ d) = with_step_from d (whole_value A n rest) x e in
        let v = (value A n rest x.1).0 w.0 in
        (rest, subst (λ k. IsStepped line k rest) (sym w.1) ((step line rest d).0 s), inr (v.0, v.1))

    go : (o : Option (ℕ × List ℕ)) → step_in line ≡ o → later_line A n before o ≡ Ok x → HoldsSample A (Some before) line x
    go None s e = absurd (cc)
    go (Some (d, rest)) s e = same d rest s (bytes_eq rest (codes "=")) refl e

read : WholeValueLaw → StepLaw → (A : TypeTree) (n : ℕ) (before : Option Datum) (line : List ℕ) (x : ℕ × Datum) → HoldsSample A before line x
    → line_after A n before line ≡ Ok x
read value step A n None line x h =
    let b : Begins line = subst Begins (sym h.2) (spelling_begins x.1 A h.1) in
    ap (λ p. if p then Err (S.Step n) else (if bytes_eq line (codes "=") then Err (S.NothingBefore n) else with_step 0 (whole_value A n line)))
    (no_plus line b)
    ∙ ap (λ p. if p then Err (S.NothingBefore n) else with_step 0 (whole_value A n line)) (no_equals line b)
    ∙ ap (with_step 0) ((value A n line x.1).1 (h.1, h.2)) ∙ ap (λ d. Ok (d, x.1)) (sym h.0)
read value step A n (Some before) line x h = go h.2
  where
    rest : List ℕ
    rest = h.0

    stepped : line_after A n (Some before) line ≡ (if bytes_eq rest (codes "=") then Ok (x.0, before) else with_step x.0 (whole_value A n rest))
    stepped = ap (later_line A n before) ((step line rest x.0).1 h.1)

    go : ((rest ≡ codes "=") × (x.1 ≡ before)) ⊎ (HasType x.1 A × (rest ≡ spelling x.1)) → line_after A n (Some before) line ≡ Ok x
    go (inl e) = stepped
        ∙ ap (λ p. if p then Ok (x.0, before) else with_step x.0 (whole_value A n rest)) ((bytes_eq-Decides rest (codes "=")).1 e.0)
        ∙ ap (λ v. Ok (x.0, v)) (sym e.1)
    go (inr e) = stepped
        ∙ ap (λ p. if p then Ok (x.0, before) else with_step x.0 (whole_value A n rest))
        (no_equals rest (subst Begins (sym e.1) (spelling_begins x.1 A e.0)))
        ∙ ap (with_step x.0) ((value A n rest x.1).1 (e.0, e.1))

pub behind_limits : (A : TypeTree) (n : ℕ) (before : Option Datum) (line : List ℕ) → n ≤ MOST_SAMPLES → length line ≤ MOST_BYTES
    → line_read A n before line ≡ line_after A n before line
behind_limits A n before line l m =
    let a : nat_lt MOST_SAMPLES n ≡ false = grind (arith, nat_tests, l) in
    let b : nat_lt MOST_BYTES (length line) ≡ false = grind (arith, nat_tests, m) in
    ap (λ p. if p then Err (S.TooManySamples n) else (if nat_lt MOST_BYTES (length line) then Err (S.LineTooLong n) else line_after A n before line)) a
    ∙ ap (λ p. if p then Err (S.LineTooLong n) else line_after A n before line) b

pub line_law : WholeValueLaw → StepLaw → LineLaw
line_law value step A n before line x = (
  λ e. (read_few A n before line x e, short_line A n before line x e, held value step A n before line x (after_limits A n before line x e)),
  λ h. behind_limits A n before line h.0 h.1 ∙ read value step A n before line x h.2,
)
