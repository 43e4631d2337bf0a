-- A line has a fault exactly where its row of the table of faults holds.
use Rattle.std.proofs.Common.{◌≡◌, ◌≤◌, ℕ, Bool, true, false, nat_eq, nat_lt, List, [], ◌∷◌, length, Option, Some, None, Result, Ok, Err, refl, ap, ◌∙◌, subst, arith, if◌then◌else◌}
use Rattle.std.specs.Prelude.{◌≢◌, bytes_eq, codes, is_some}
use Rattle.std.proofs.lemmas.Bool.{eqb-true}
use Rattle.std.proofs.lemmas.Bool.Decides.{nat_tests}
use Rattle.std.proofs.lemmas.Slice.Eq.{bytes_eq-Decides}
use Rattle.sample_core.specs.Datum.{Datum}
use Rattle.sample_core.specs.Reading.{reading}
use Rattle.sample_core.specs.TypeTree.{TypeTree}
use Rattle.sample_core.specs.declared.fault.ValueFault.{ValueFault}
use Rattle.sample_core.specs.declared.fault.ValueFault.TheVariants as V
use Rattle.stream_text.specs.LineFaults.{IsWithinLimits, BeginsWithPlus, ValueFaulty, none_in_front, goes_on, LineFaulty, too_many, too_long, first_with_plus, nothing_before, first_no_value, later_no_step, later_no_value, LineFaultLaw}
use Rattle.stream_text.specs.LineLaws.{StepLaw}
use Rattle.stream_text.specs.StepText.{stripped, step_in}
use Rattle.stream_text.specs.StreamText.{if_whole, whole_value, with_step, later_line, line_after, line_read}
use Rattle.stream_text.specs.declared.fault.StreamFault.{StreamFault}
use Rattle.stream_text.specs.declared.fault.StreamFault.TheVariants as S
use Rattle.stream_text.proofs.LineLaws.{behind_limits}
use Rattle.stream_text.specs.declared.line.TheConstants.{MOST_SAMPLES, MOST_BYTES}

-- what the fault of bytes in the place of a value tells of them
abbrev ValueFaultOf : TypeTree → ℕ → List ℕ → StreamFault → Type 0
ValueFaultOf A n bs fault = (f : ValueFault) × (S.Value n f ≡ fault) × ValueFaulty A bs f

value_faulty : (A : TypeTree) (n d : ℕ) (bs : List ℕ) (fault : StreamFault) → with_step d (whole_value A n bs) ≡ Err fault → ValueFaultOf A n bs fault
value_faulty A n d bs fault h = go (reading A bs) refl h
  where
    same : (v : Datum) (taken : ℕ) → reading A bs ≡ Ok (v, taken) → (b : Bool) → nat_eq taken (length bs) ≡ b
        → with_step d (if b then Ok v else Err (S.Value n (V.NotAValue taken))) ≡ Err fault → ValueFaultOf A n bs fault
    same v taken q true p e = absurd (cc)
    same v taken q false p e = let i : S.Value n (V.NotAValue taken) ≡ fault = cc in
        (V.NotAValue taken, i, goes_on q (λ k. grind (arith, nat_tests, p, k)))

    go : (r : Result (Datum × ℕ) ValueFault) → reading A bs ≡ r → with_step d (if_whole n (length bs) r) ≡ Err fault → ValueFaultOf A n bs fault
    go (Err f) q e = let i : S.Value n f ≡ fault = cc in (f, i, none_in_front q)
    go (Ok (v, taken)) q e = same v taken q (nat_eq taken (length bs)) refl e

faulty_value : (A : TypeTree) (n d : ℕ) (bs : List ℕ) (f : ValueFault) → ValueFaulty A bs f → with_step d (whole_value A n bs) ≡ Err (S.Value n f)
faulty_value A n d bs f (none_in_front q) = ap (λ r. with_step d (if_whole n (length bs) r)) q
faulty_value A n d bs f (goes_on {v = v} {taken = taken} q t) =
    let p : nat_eq taken (length bs) ≡ false = grind (arith, nat_tests, t) in
    ap (λ r. with_step d (if_whole n (length bs) r)) q ∙ ap (λ b. with_step d (if b then Ok v else Err (S.Value n (V.NotAValue taken)))) p

plus : (line : List ℕ) → is_some (stripped 43 line) ≡ true → BeginsWithPlus line
plus [] h = absurd (cc)
plus (c ∷ cs) h = go (nat_eq c 43) refl h
  where
    go : (b : Bool) → nat_eq c 43 ≡ b → is_some (if b then Some cs else None) ≡ true → BeginsWithPlus (c ∷ cs)
    go true q e = (cs, ap (λ k. k ∷ cs) (eqb-true c 43 q))
    go false q e = absurd (cc)

plus_found : (line : List ℕ) → BeginsWithPlus line → is_some (stripped 43 line) ≡ true
plus_found line h = ap (λ k. is_some (stripped 43 k)) h.1

no_plus : (line : List ℕ) → (BeginsWithPlus line → ⊥) → is_some (stripped 43 line) ≡ false
no_plus line h = go (is_some (stripped 43 line)) refl
  where
    go : (b : Bool) → is_some (stripped 43 line) ≡ b → is_some (stripped 43 line) ≡ false
    go true q = absurd (h (plus line q))
    go false q = q

not_same : (bs : List ℕ) → bs ≢ codes "=" → bytes_eq bs (codes "=") ≡ false
not_same bs h = go (bytes_eq bs (codes "=")) refl
  where
    go : (b : Bool) → bytes_eq bs (codes "=") ≡ b → bytes_eq bs (codes "=") ≡ false
    go true q = absurd (h ((bytes_eq-Decides bs (codes "=")).0 q))
    go false q = q

differs : (bs : List ℕ) → bytes_eq bs (codes "=") ≡ false → bs ≢ codes "="
differs bs q e = let p : bytes_eq bs (codes "=") ≡ true = (bytes_eq-Decides bs (codes "=")).1 e in cc

module _ (A : TypeTree) (n : ℕ) (line : List ℕ) where
  first_faulty : (fault : StreamFault) → IsWithinLimits n line → line_after A n None line ≡ Err fault → LineFaulty A n line None fault
  first_faulty fault l h = plus_or (is_some (stripped 43 line)) refl h
    where
      same_or : (BeginsWithPlus line → ⊥) → (b : Bool) → bytes_eq line (codes "=") ≡ b
          → (if b then Err (S.NothingBefore n) else with_step 0 (whole_value A n line)) ≡ Err fault → LineFaulty A n line None fault
      same_or m true q e = let i : S.NothingBefore n ≡ fault = cc in
          subst (λ f. LineFaulty A n line None f) i (nothing_before l ((bytes_eq-Decides line (codes "=")).0 q))
      same_or m false q e = let v : ValueFaultOf A n line fault = value_faulty A n 0 line fault e in
          subst (λ f. LineFaulty A n line None f) v.1 (first_no_value l m (differs line q) v.2)

      plus_or : (b : Bool) → is_some (stripped 43 line) ≡ b
          → (if b then Err (S.Step n) else (if bytes_eq line (codes "=") then Err (S.NothingBefore n) else with_step 0 (whole_value A n line))) ≡ Err fault
          → LineFaulty A n line None fault
      plus_or true q e = let i : S.Step n ≡ fault = cc in
          subst (λ f. LineFaulty A n line None f) i (first_with_plus l (plus line q))
      plus_or false q e = same_or (λ k. let p : is_some (stripped 43 line) ≡ true = plus_found line k in cc) (bytes_eq line (codes "=")) refl e

  later_faulty : StepLaw → (v : Datum) (fault : StreamFault) → IsWithinLimits n line → line_after A n (Some v) line ≡ Err fault
      → LineFaulty A n line (Some v) fault
  later_faulty step v fault l h = go (step_in line) refl h
    where
      same_or : (d : ℕ) (rest : List ℕ) → step_in line ≡ Some (d, rest) → (b : Bool) → bytes_eq rest (codes "=") ≡ b
          → (if b then Ok (d, v) else with_step d (whole_value A n rest)) ≡ Err fault → LineFaulty A n line (Some v) fault
      same_or d rest s true q e = absurd (cc)
      same_or d rest s false q e = let w : ValueFaultOf A n rest fault = value_faulty A n d rest fault e in
          subst (λ f. LineFaulty A n line (Some v) f) w.1 (later_no_value l ((step line rest d).0 s) (differs rest q) w.2)

      go : (o : Option (ℕ × List ℕ)) → step_in line ≡ o → later_line A n v o ≡ Err fault → LineFaulty A n line (Some v) fault
      go None s e = let i : S.Step n ≡ fault = cc in
          subst (λ f. LineFaulty A n line (Some v) f) i
          (later_no_step l (λ d rest k. let p : step_in line ≡ Some (d, rest) = (step line rest d).1 k in cc))
      go (Some (d, rest)) s e = same_or d rest s (bytes_eq rest (codes "=")) refl e

  within_faulty : StepLaw → (before : Option Datum) (fault : StreamFault) → IsWithinLimits n line → line_after A n before line ≡ Err fault
      → LineFaulty A n line before fault
  within_faulty step None fault l h = first_faulty fault l h
  within_faulty step (Some v) fault l h = later_faulty step v fault l h

  faulty : StepLaw → (before : Option Datum) (fault : StreamFault) → line_read A n before line ≡ Err fault → LineFaulty A n line before fault
  faulty step before fault h = many_or (nat_lt MOST_SAMPLES n) refl h
    where
      long_or : n ≤ MOST_SAMPLES → (b : Bool) → nat_lt MOST_BYTES (length line) ≡ b → (if b then Err (S.LineTooLong n) else line_after A n before line) ≡ Err fault
          → LineFaulty A n line before fault
      long_or m true q e = let i : S.LineTooLong n ≡ fault = cc in
          subst (λ f. LineFaulty A n line before f) i (too_long m (grind (arith, nat_tests, q)))
      long_or m false q e = within_faulty step before fault (m, grind (arith, nat_tests, q)) e

      many_or : (b : Bool) → nat_lt MOST_SAMPLES n ≡ b
          → (if b then Err (S.TooManySamples n) else (if nat_lt MOST_BYTES (length line) then Err (S.LineTooLong n) else line_after A n before line)) ≡ Err fault
          → LineFaulty A n line before fault
      many_or true q e = let i : S.TooManySamples n ≡ fault = cc in
          subst (λ f. LineFaulty A n line before f) i (too_many (grind (arith, nat_tests, q)))
      many_or false q e = long_or (grind (arith, nat_tests, q)) (nat_lt MOST_BYTES (length line)) refl e

  rest_of_first : (p q : Bool) → is_some (stripped 43 line) ≡ p → bytes_eq line (codes "=") ≡ q
      → line_after A n None line ≡ (if p then Err (S.Step n) else (if q then Err (S.NothingBefore n) else with_step 0 (whole_value A n line)))
  rest_of_first p q e f =
      ap (λ b. if b then Err (S.Step n) else (if bytes_eq line (codes "=") then Err (S.NothingBefore n) else with_step 0 (whole_value A n line))) e
      ∙ ap (λ b. if p then Err (S.Step n) else (if b then Err (S.NothingBefore n) else with_step 0 (whole_value A n line))) f

  told : StepLaw → (before : Option Datum) (fault : StreamFault) → LineFaulty A n line before fault → line_read A n before line ≡ Err fault
  told step before fault (too_many m) =
      let q : nat_lt MOST_SAMPLES n ≡ true = grind (arith, nat_tests, m) in
      ap (λ b. if b then Err (S.TooManySamples n) else (if nat_lt MOST_BYTES (length line) then Err (S.LineTooLong n) else line_after A n before line)) q
  told step before fault (too_long m l) =
      let p : nat_lt MOST_SAMPLES n ≡ false = grind (arith, nat_tests, m) in
      let q : nat_lt MOST_BYTES (length line) ≡ true = grind (arith, nat_tests, l) in
      ap (λ b. if b then Err (S.TooManySamples n) else (if nat_lt MOST_BYTES (length line) then Err (S.LineTooLong n) else line_after A n before line)) p
      ∙ ap (λ b. if b then Err (S.LineTooLong n) else line_after A n before line) q
  told step before fault (first_with_plus l h) = behind_limits A n None line l.0 l.1 ∙ rest_of_first true (bytes_eq line (codes "=")) (plus_found line h) refl
  told step before fault (nothing_before l e) =
      behind_limits A n None line l.0 l.1
      ∙ rest_of_first false true (ap (λ k. is_some (stripped 43 k)) e) ((bytes_eq-Decides line (codes "=")).1 e)
  told step before fault (first_no_value {fault = f} l m e v) =
      behind_limits A n None line l.0 l.1 ∙ rest_of_first false false (no_plus line m) (not_same line e) ∙ faulty_value A n 0 line f v
  told step before fault (later_no_step {v = v} l m) = behind_limits A n (Some v) line l.0 l.1 ∙ ap (later_line A n v) (go (step_in line) refl)
    where
      go : (o : Option (ℕ × List ℕ)) → step_in line ≡ o → step_in line ≡ None
      go None s = s
      go (Some (d, rest)) s = absurd (m d rest ((step line rest d).0 s))
  told step before fault (later_no_value {v = v} {d = d} {rest = rest} {fault = f} l k e w) =
      behind_limits A n (Some v) line l.0 l.1 ∙ ap (later_line A n v) ((step line rest d).1 k)
      ∙ ap (λ b. if b then Ok (d, v) else with_step d (whole_value A n rest)) (not_same rest e) ∙ faulty_value A n d rest f w

pub line_fault_law : StepLaw → LineFaultLaw
line_fault_law step A n before line fault = (λ h. faulty A n line step before fault h, λ h. told A n line step before fault h)
