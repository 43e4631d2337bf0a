-- Reading one value off the front of bytes: the value and what is behind it, or the first fault.
use Rattle.std.specs.Prelude.{ℕ, zero, suc, ◌-◌, Bool, true, false, ◌||◌, nat_eq, List, [], ◌∷◌, length, Result, Ok, Err, if◌then◌else◌, bytes_eq, codes}
use Rattle.sample_core.specs.Answer.{◌>>=◌, GivesUnless}
use Rattle.sample_core.specs.Datum.{Datum, unit, bool, int, pair, no_event, event, list, list_of}
use Rattle.sample_core.specs.TypeTree.{TypeTree, unit_ty, bool_ty, int_ty, pair_ty, event_ty, list_ty}
use Rattle.sample_core.specs.Number.{is_number, is_in_64, number_of}
use Rattle.sample_core.specs.Words.{word_of, after_word, form_word, after_form}
use Rattle.sample_core.specs.declared.fault.ValueFault.{ValueFault}
use Rattle.sample_core.specs.declared.fault.ValueFault.TheVariants as Fault

-- what a call returned, seen by view, is what reading gives, unless memory ran out
abbrev pub Gives : {X Y : Type 0} → (X → Y) → Result X ValueFault → Result Y ValueFault → Type 0
Gives view result read = GivesUnless Fault.Memory view result read

-- whether a value of some type begins: one of the words, a number, or '(' and the word of a form
abbrev pub begins_value : List ℕ → Bool
begins_value bs = bytes_eq (word_of bs) (codes "unit") || bytes_eq (word_of bs) (codes "true")
    || bytes_eq (word_of bs) (codes "false") || bytes_eq (word_of bs) (codes "none")
    || is_number (word_of bs) || bytes_eq (form_word bs) (codes "pair")
    || bytes_eq (form_word bs) (codes "event") || bytes_eq (form_word bs) (codes "list")

-- the fault where bs are left of so many bytes, and no value of the wanted type begins there
unfoldable pub wrong : ℕ → List ℕ → ValueFault
wrong size bs = if begins_value bs then Fault.OtherType (size - length bs)
    else Fault.NotAValue (size - length bs)

-- what is behind the byte b
unfoldable pub behind_byte : ℕ → ℕ → List ℕ → Result (List ℕ) ValueFault
behind_byte size b [] = Err (Fault.NotAValue size)
behind_byte size b (c ∷ cs) = if nat_eq c b then Ok cs
    else Err (Fault.NotAValue (size - length (c ∷ cs)))

-- what is behind a '(' and the word
unfoldable pub behind_head : ℕ → List ℕ → List ℕ → Result (List ℕ) ValueFault
behind_head size name bs = if bytes_eq (form_word bs) name then Ok (after_form bs)
    else Err (wrong size bs)

-- `unit` at the front, and what is behind it
unfoldable pub unit_at : ℕ → List ℕ → Result (Datum × List ℕ) ValueFault
unit_at size bs = if bytes_eq (word_of bs) (codes "unit") then Ok (unit, after_word bs)
    else Err (wrong size bs)

-- `true` or `false` at the front, and what is behind it
unfoldable pub truth_at : ℕ → List ℕ → Result (Datum × List ℕ) ValueFault
truth_at size bs = if bytes_eq (word_of bs) (codes "true") then Ok (bool true, after_word bs)
    else (if bytes_eq (word_of bs) (codes "false") then Ok (bool false, after_word bs)
    else Err (wrong size bs))

-- a number of 64 bits at the front, and what is behind it
unfoldable pub number_at : ℕ → List ℕ → Result (Datum × List ℕ) ValueFault
number_at size bs = if is_number (word_of bs) then
    (if is_in_64 (word_of bs) then Ok (int (number_of (word_of bs)), after_word bs)
    else Err (Fault.NumberRange (size - length bs))) else Err (wrong size bs)

-- whether the byte b stands in front
abbrev pub begins_with : ℕ → List ℕ → Bool
begins_with b [] = false
begins_with b (c ∷ cs) = nat_eq c b

-- at most n elements, each behind a space, as long as a space stands there
unfoldable pub elements_at : (List ℕ → Result (Datum × List ℕ) ValueFault) → ℕ → List ℕ
    → Result (List Datum × List ℕ) ValueFault
elements_at reader zero bs = Ok ([], bs)
elements_at reader (suc n) [] = Ok ([], [])
elements_at reader (suc n) (b ∷ bs) =
    if nat_eq b 32 then
    (reader bs >>= (λ x. elements_at reader n x.1 >>= (λ y. Ok (x.0 ∷ y.0, y.1))))
    else Ok ([], b ∷ bs)

-- the value of the type at the front of bs, which are left of so many bytes, and what is behind it
unfoldable pub value_at : ℕ → TypeTree → List ℕ → Result (Datum × List ℕ) ValueFault
value_at size unit_ty bs = unit_at size bs
value_at size bool_ty bs = truth_at size bs
value_at size int_ty bs = number_at size bs
value_at size (pair_ty A B) bs =
    behind_head size (codes "pair") bs >>=
    (λ cs. behind_byte size 32 cs >>=
    (λ ds. value_at size A ds >>=
    (λ v. behind_byte size 32 v.1 >>=
    (λ es. value_at size B es >>=
    (λ w. behind_byte size 41 w.1 >>= (λ rest. Ok (pair v.0 w.0, rest)))))))
value_at size (event_ty A) bs =
    if bytes_eq (word_of bs) (codes "none") then Ok (no_event, after_word bs)
    else
    (behind_head size (codes "event") bs >>=
    (λ cs. behind_byte size 32 cs >>=
    (λ ds. value_at size A ds >>=
    (λ v. behind_byte size 41 v.1 >>= (λ rest. Ok (event v.0, rest))))))
value_at size (list_ty A) bs =
    behind_head size (codes "list") bs >>=
    (λ cs. elements_at (value_at size A) (length cs) cs >>=
    (λ vs. behind_byte size 41 vs.1 >>= (λ rest. Ok (list (list_of vs.0), rest))))

-- a space, and behind it the value of the type, and what is behind that
abbrev pub part_at : ℕ → TypeTree → List ℕ → Result (Datum × List ℕ) ValueFault
part_at size A bs = behind_byte size 32 bs >>= value_at size A

-- the pair that bs go on with behind its word, and what is behind that
abbrev pub pair_behind : ℕ → TypeTree → TypeTree → List ℕ → Result (Datum × List ℕ) ValueFault
pair_behind size A B bs = part_at size A bs >>=
    (λ v. part_at size B v.1 >>=
    (λ w. behind_byte size 41 w.1 >>= (λ rest. Ok (pair v.0 w.0, rest))))

-- the event that bs go on with behind its word, and what is behind that
abbrev pub event_behind : ℕ → TypeTree → List ℕ → Result (Datum × List ℕ) ValueFault
event_behind size A bs = part_at size A bs >>=
    (λ v. behind_byte size 41 v.1 >>= (λ rest. Ok (event v.0, rest)))

-- the list that bs go on with behind its word, and what is behind that
abbrev pub list_behind : ℕ → TypeTree → List ℕ → Result (Datum × List ℕ) ValueFault
list_behind size A bs = elements_at (value_at size A) (length bs) bs >>=
    (λ vs. behind_byte size 41 vs.1 >>= (λ rest. Ok (list (list_of vs.0), rest)))

-- the value of the type at the front of the bytes, and how many bytes it takes
unfoldable pub reading : TypeTree → List ℕ → Result (Datum × ℕ) ValueFault
reading A bs = value_at (length bs) A bs >>= (λ x. Ok (x.0, length bs - length x.1))
