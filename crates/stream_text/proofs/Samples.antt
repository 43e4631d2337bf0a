-- What is read of a line: values of the type, and steps in range.
use Rattle.std.proofs.Common.{◌≡◌, ◌≤◌, ◌<◌, ◌+◌, ◌*◌, ◌-◌, ◌^◌, ℕ, suc, Bool, true, false, nat_eq, nat_lt, List, [], ◌∷◌, length, length-append, ◌++◌, take, drop, Option, Some, None, Result, Ok, Err, refl, sym, ap, ◌∙◌, subst, arith, if◌then◌else◌}
use Rattle.std.specs.Prelude.{◌||◌, ◌&&◌, bytes_eq, codes, is_some, ⊤}
use Rattle.std.specs.Char.{is_ascii_digit}
use Rattle.std.specs.List.{prefix_len, take_while}
use Rattle.std.specs.Str.Parse.{digits_value}
use Rattle.std.proofs.lemmas.Bool.Decides.{nat_tests}
use Rattle.std.proofs.lemmas.Str.Parse.{digits_value-take-le}
use Rattle.sample_core.specs.Datum.{Datum}
use Rattle.sample_core.specs.HasType.{HasType}
use Rattle.sample_core.specs.Reading.{reading}
use Rattle.sample_core.specs.ReadingLaws.{ReadingLaw}
use Rattle.sample_core.specs.TypeTree.{TypeTree}
use Rattle.sample_core.specs.declared.fault.ValueFault.{ValueFault}
use Rattle.sample_core.specs.declared.fault.ValueFault.TheVariants as V
use Rattle.stream_text.specs.StepText.{stripped, is_step, step_then, step_if, step_in}
use Rattle.stream_text.specs.StreamText.{IsBefore, IsOfText, if_whole, whole_value, with_step, first_line, later_line, line_after, line_read}
use Rattle.stream_text.specs.TextLines.{shows_fault}
use Rattle.stream_text.specs.declared.fault.StreamFault.{StreamFault}
use Rattle.stream_text.specs.declared.fault.StreamFault.TheVariants as S
use Rattle.stream_text.proofs.Steps.{digit_in_range, next_value}
use Rattle.stream_text.specs.declared.line.TheConstants.{MOST_SAMPLES, MOST_BYTES}

-- what is answered where a test does not refuse
pub from_else : {X : Type 0} (b : Bool) (f : StreamFault) (r : Result X StreamFault) (x : X) → (if b then Err f else r) ≡ Ok x → r ≡ Ok x
from_else true f r x h = absurd (cc)
from_else false f r x h = h

is_ok : {X E : Type 0} {x y : X} → ◌≡◌ {A = Result X E} (Ok x) (Ok y) → x ≡ y
is_ok h = cc

whole_typed : ReadingLaw → (A : TypeTree) (n : ℕ) (bs : List ℕ) (v : Datum) → whole_value A n bs ≡ Ok v → HasType v A
whole_typed law A n bs v e = go (reading A bs) refl e
  where
    chosen : (b : Bool) (w : Datum) (taken : ℕ) → (if b then Ok w else Err (S.Value n (V.NotAValue taken))) ≡ Ok v → w ≡ v
    chosen true w taken h = is_ok h
    chosen false w taken h = absurd (cc)

    go : (r : Result (Datum × ℕ) ValueFault) → reading A bs ≡ r → if_whole n (length bs) r ≡ Ok v → HasType v A
    go (Err f) q h = absurd (cc)
    go (Ok (w, taken)) q h = subst (λ u. HasType u A) (chosen (nat_eq taken (length bs)) w taken h) ((law A bs w taken).0 q).1.typed

pub with_step_from : (d : ℕ) (r : Result Datum StreamFault) (x : ℕ × Datum) → with_step d r ≡ Ok x → (r ≡ Ok x.1) × (x.0 ≡ d)
with_step_from d (Ok v) x h =
    let e : (d, v) ≡ x = is_ok h in
    (ap (λ y. Ok y.1) e, sym (ap (λ y. y.0) e))
with_step_from d (Err f) x h = absurd (cc)

first_typed : ReadingLaw → (A : TypeTree) (n : ℕ) (line : List ℕ) (x : ℕ × Datum) → first_line A n line ≡ Ok x → HasType x.1 A
first_typed law A n line x h =
    let one : (if bytes_eq line (codes "=") then Err (S.NothingBefore n) else with_step 0 (whole_value A n line)) ≡ Ok x =
    from_else (is_some (stripped 43 line)) _ _ x h in
    let two : with_step 0 (whole_value A n line) ≡ Ok x = from_else (bytes_eq line (codes "=")) _ _ x one in
    whole_typed law A n line x.1 (with_step_from 0 (whole_value A n line) x two).0

-- behind its step, a later line has a value of the type; the step is the one in front
later_typed : ReadingLaw → (A : TypeTree) (n : ℕ) (before : Datum) (o : Option (ℕ × List ℕ)) (x : ℕ × Datum) → HasType before A
    → later_line A n before o ≡ Ok x
    → HasType x.1 A × ((rest : List ℕ) × (o ≡ Some (x.0, rest)))
later_typed law A n before None x t h = absurd (cc)
later_typed law A n before (Some (d, rest)) x t h = go (bytes_eq rest (codes "=")) h
  where
    go : (b : Bool) → (if b then Ok (d, before) else with_step d (whole_value A n rest)) ≡ Ok x
        → HasType x.1 A × ((more : List ℕ) × ◌≡◌ {A = Option (ℕ × List ℕ)} (Some (d, rest)) (Some (x.0, more)))
    go true q =
        let e : (d, before) ≡ x = is_ok q in
        (subst (λ y. HasType y.1 A) e t, (rest, ap (λ y. Some (y.0, rest)) e))
    go false q =
        let e : (whole_value A n rest ≡ Ok x.1) × (x.0 ≡ d) = with_step_from d (whole_value A n rest) x q in
        (whole_typed law A n rest x.1 e.0, (rest, ap (λ m. Some (m, rest)) (sym e.1)))

first_of_while : (f : ℕ → Bool) (bs : List ℕ) (d : ℕ) (ds : List ℕ) → take_while f bs ≡ d ∷ ds → f d ≡ true
first_of_while f [] d ds h = absurd (cc)
first_of_while f (b ∷ bs) d ds h = go (f b) refl h
  where
    go : (p : Bool) → f b ≡ p → take (if p then 1 + prefix_len f bs else 0) (b ∷ bs) ≡ d ∷ ds → f d ≡ true
    go true q e =
        let one : suc (prefix_len f bs) ≡ 1 + prefix_len f bs = omega arith in
        let cells : b ∷ take (prefix_len f bs) bs ≡ d ∷ ds = ap (λ k. take k (b ∷ bs)) one ∙ e in
        let same : b ≡ d = cc in
        ap f (sym same) ∙ q
    go false q e = absurd (cc)

-- digits that write a step write a number from 1 to 2^63 - 1
step_range : (ds : List ℕ) → ((d : ℕ) (more : List ℕ) → ds ≡ d ∷ more → is_ascii_digit d ≡ true) → is_step ds ≡ true
    → (1 ≤ digits_value 10 ds) × (digits_value 10 ds < 2 ^ 63)
step_range [] f h = absurd (cc)
step_range (d ∷ ds) f h =
    let digit : is_ascii_digit d ≡ true = f d ds refl in
    let range : (48 ≤ d) × (d ≤ 57) = digit_in_range d digit in
    let one : digits_value 10 (take 1 (d ∷ ds)) ≡ digits_value 10 (take 0 (d ∷ ds)) * 10 + (d - 48) = next_value (d ∷ ds) 0 (omega arith) digit in
    let front : digits_value 10 (take 1 (d ∷ ds)) ≤ digits_value 10 (d ∷ ds) = digits_value-take-le 10 (d ∷ ds) 1 (omega arith) in
    let not_zero : nat_eq d 48 ≡ false = grind (arith, nat_tests) in
    let small : nat_lt (digits_value 10 (d ∷ ds)) (2 ^ 63) ≡ true = grind (arith, nat_tests) in
    (grind (arith, nat_tests), grind (arith, nat_tests))

followed_is : (b : Bool) (d : ℕ) (o : Option (List ℕ)) (s : ℕ × List ℕ) → step_then b d o ≡ Some s → (b ≡ true) × (d ≡ s.0)
followed_is true d (Some rest) s h = (refl, ap (λ y. y.0) (let e : (d, rest) ≡ s = cc in e))
followed_is true d None s h = absurd (cc)
followed_is false d o s h = absurd (cc)

pub stepped_range : (line : List ℕ) (s : ℕ × List ℕ) → step_in line ≡ Some s → (1 ≤ s.0) × (s.0 < 2 ^ 63)
stepped_range line s h = go (stripped 43 line) h
  where
    go : (o : Option (List ℕ)) → step_if o ≡ Some s → (1 ≤ s.0) × (s.0 < 2 ^ 63)
    go None e = absurd (cc)
    go (Some bs) e =
        let ds : List ℕ = take_while is_ascii_digit bs in
        let f : (is_step ds ≡ true)
        × (digits_value 10 ds ≡ s.0) = followed_is (is_step ds) (digits_value 10 ds) (stripped 32 (drop (prefix_len is_ascii_digit bs) bs)) s e in
        subst (λ n. (1 ≤ n) × (n < 2 ^ 63)) f.1 (step_range ds (first_of_while is_ascii_digit bs) f.0)

-- behind the limits, the line is read by what it holds
pub after_limits : (A : TypeTree) (n : ℕ) (before : Option Datum) (line : List ℕ) (x : ℕ × Datum) → line_read A n before line ≡ Ok x
    → line_after A n before line ≡ Ok x
after_limits A n before line x h = from_else (nat_lt MOST_BYTES (length line)) _ _ x (from_else (nat_lt MOST_SAMPLES n) _ _ x h)

-- a line that is read is one of the first 1,000,000
pub read_few : (A : TypeTree) (n : ℕ) (before : Option Datum) (line : List ℕ) (x : ℕ × Datum) → line_read A n before line ≡ Ok x → n ≤ MOST_SAMPLES
read_few A n before line x e = go (nat_lt MOST_SAMPLES n) refl e
  where
    go : (b : Bool) → nat_lt MOST_SAMPLES n ≡ b
        → (if b then Err (S.TooManySamples n) else (if nat_lt MOST_BYTES (length line) then Err (S.LineTooLong n) else line_after A n before line)) ≡ Ok x
        → n ≤ MOST_SAMPLES
    go true q h = absurd (cc)
    go false q h = grind (arith, nat_tests)

pub read_typed : ReadingLaw → (A : TypeTree) (n taken : ℕ) (before : Option Datum) (line : List ℕ) (x : ℕ × Datum) → IsBefore A taken before
    → line_read A n before line ≡ Ok x → HasType x.1 A
read_typed law A n taken None line x t h = first_typed law A n line x (after_limits A n None line x h)
read_typed law A n taken (Some v) line x t h = (later_typed law A n v (step_in line) x t (after_limits A n (Some v) line x h)).0

pub read_step : ReadingLaw → (A : TypeTree) (n taken : ℕ) (before : Option Datum) (line : List ℕ) (x : ℕ × Datum) → IsBefore A taken before
    → line_read A n before line ≡ Ok x → 0 < taken → (1 ≤ x.0) × (x.0 < 2 ^ 63)
read_step law A n taken None line x t h l = absurd (omega (arith, t))
read_step law A n taken (Some v) line x t h l =
    let s : HasType x.1 A
    × ((rest : List ℕ) × (step_in line ≡ Some (x.0, rest))) = later_typed law A n v (step_in line) x t (after_limits A n (Some v) line x h) in
    stepped_range line (x.0, s.1.0) s.1.1

-- whether a result, if it is a fault, is one that a line's text can have
abbrev OfText : {X : Type 0} → Result X StreamFault → Type 0
OfText (Ok x) = ⊤
OfText (Err fault) = IsOfText fault

either : {X : Type 0} (b : Bool) (r s : Result X StreamFault) → OfText r → OfText s → OfText (if b then r else s)
either true r s h k = h
either false r s h k = k

whole_of_text : (A : TypeTree) (n d size : ℕ) (r : Result (Datum × ℕ) ValueFault) → OfText (with_step d (if_whole n size r))
whole_of_text A n d size (Err fault) = tt
whole_of_text A n d size (Ok (v, taken)) = go (nat_eq taken size)
  where
    go : (b : Bool) → OfText (with_step d (if b then Ok v else Err (S.Value n (V.NotAValue taken))))
    go true = tt
    go false = tt

later_of_text : (A : TypeTree) (n : ℕ) (before : Datum) (o : Option (ℕ × List ℕ)) → OfText (later_line A n before o)
later_of_text A n before None = tt
later_of_text A n before (Some (d, bs)) = either (bytes_eq bs (codes "=")) _ _ tt (whole_of_text A n d (length bs) (reading A bs))

after_of_text : (A : TypeTree) (n : ℕ) (before : Option Datum) (line : List ℕ) → OfText (line_after A n before line)
after_of_text A n None line = either (is_some (stripped 43 line)) _ _ tt
    (either (bytes_eq line (codes "=")) _ _ tt (whole_of_text A n 0 (length line) (reading A line)))
after_of_text A n (Some before) line = later_of_text A n before (step_in line)

read_of_text : (A : TypeTree) (n : ℕ) (before : Option Datum) (line : List ℕ) → OfText (line_read A n before line)
read_of_text A n before line = either (nat_lt MOST_SAMPLES n) _ _ tt (either (nat_lt MOST_BYTES (length line)) _ _ tt (after_of_text A n before line))

-- a line's fault is one that its text can have
pub refused_of_text : (A : TypeTree) (n : ℕ) (before : Option Datum) (line : List ℕ) (fault : StreamFault) → line_read A n before line ≡ Err fault
    → IsOfText fault
refused_of_text A n before line fault e = subst OfText e (read_of_text A n before line)

-- a line that shows a fault holds no sample
pub shown_no_sample : (A : TypeTree) (n : ℕ) (before : Option Datum) (line : List ℕ) (x : ℕ × Datum) → shows_fault n (length line) ≡ true
    → line_read A n before line ≡ Ok x → ⊥
shown_no_sample A n before line x s e = go (nat_lt MOST_SAMPLES n) (nat_lt MOST_BYTES (length line)) (nat_lt 0 (length line)) s e
  where
    go : (many long some : Bool) → (long || (many && some)) ≡ true
        → (if many then Err (S.TooManySamples n) else (if long then Err (S.LineTooLong n) else line_after A n before line)) ≡ Ok x → ⊥
    go true long some q r = absurd (cc)
    go false true some q r = absurd (cc)
    go false false some q r = absurd (cc)

-- where a line that shows a fault goes on, it shows the same
pub shown_on : (A : TypeTree) (n : ℕ) (before : Option Datum) (line tail : List ℕ) (fault : StreamFault) → shows_fault n (length line) ≡ true
    → line_read A n before line ≡ Err fault → line_read A n before (line ++ tail) ≡ Err fault
shown_on A n before line tail fault s e = go (nat_lt MOST_SAMPLES n) refl (nat_lt MOST_BYTES (length line)) refl (nat_lt 0 (length line)) s e
  where
    go : (many : Bool) → nat_lt MOST_SAMPLES n ≡ many → (long : Bool) → nat_lt MOST_BYTES (length line) ≡ long → (some : Bool) → (long || (many && some)) ≡ true
        → (if many then Err (S.TooManySamples n) else (if long then Err (S.LineTooLong n) else line_after A n before line)) ≡ Err fault
        → line_read A n before (line ++ tail) ≡ Err fault
    go true m long l some q r =
        ap (λ b. if b then Err (S.TooManySamples n) else (if nat_lt MOST_BYTES (length (line ++ tail)) then Err
        (S.LineTooLong n) else line_after A n before (line ++ tail))) m ∙ r
    go false m true l some q r =
        let more : nat_lt MOST_BYTES (length (line ++ tail)) ≡ true = (let k : length
        (line ++ tail) ≡ length line + length tail = length-append line tail in grind (arith, nat_tests, k, l)) in
        ap (λ b. if b then Err (S.TooManySamples n) else (if nat_lt MOST_BYTES (length (line ++ tail)) then Err
        (S.LineTooLong n) else line_after A n before (line ++ tail))) m
        ∙ ap (λ b. if b then Err (S.LineTooLong n) else line_after A n before (line ++ tail)) more ∙ r
    go false m false l some q r = absurd (cc)

-- bytes that show a fault are some
pub shown_some : (n size : ℕ) → shows_fault n size ≡ true → 0 < size
shown_some n size h = go (nat_lt MOST_BYTES size) refl (nat_lt MOST_SAMPLES n) (nat_lt 0 size) refl h
  where
    go : (long : Bool) → nat_lt MOST_BYTES size ≡ long → (many some : Bool) → nat_lt 0 size ≡ some → (long || (many && some)) ≡ true → 0 < size
    go true l many some s q = grind (arith, nat_tests, l)
    go false l true true s q = grind (arith, nat_tests, s)
    go false l true false s q = absurd (cc)
    go false l false some s q = absurd (cc)
