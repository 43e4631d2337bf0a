-- The place of a fault is the leftmost.
use Rattle.std.proofs.Common.{◌≡◌, ℕ, ◌-◌, Bool, true, false, ◌&&◌, ◌||◌, nat_eq, List, [], ◌∷◌, ◌++◌, length, take, refl, sym, ap, ◌∙◌, subst, arith, Ok, Err, append_assoc, append-nil, pos}
use Rattle.std.specs.Prelude.{codes, bytes_eq}
use Rattle.sample_core.specs.Datum.{Datum, Datums, unit, bool, int, pair, no_event, event, list, end, more}
use Rattle.sample_core.specs.TypeTree.{TypeTree, unit_ty, bool_ty, int_ty, pair_ty, event_ty, list_ty}
use Rattle.sample_core.specs.HasType.{HasType, HaveType, unit_has, bool_has, int_has, pair_has, no_event_has, event_has, list_has, end_has, more_has}
use Rattle.sample_core.specs.Number.{is_number, is_in_64}
use Rattle.sample_core.specs.Spelling.{spelling, spellings}
use Rattle.sample_core.specs.SpellsValue.{SpellsValue, SpellsRow, ends_in_word, row_ends_in_word}
use Rattle.sample_core.specs.Words.{goes_on, word_of, form_word}
use Rattle.sample_core.specs.Reading.{begins_value, begins_with, value_at}
use Rattle.sample_core.specs.Faults.{begins_type, Expectation, a_byte, Leads, at_front, behind_pair, in_first, behind_first, in_second, behind_second, behind_event, in_event, behind_inner, behind_elements, in_element, Wrong, no_value, another_type, too_large, no_byte, neither, SameThere}
use Rattle.sample_core.specs.ReadingLaws.{LeftmostLaw}
use Rattle.sample_core.specs.declared.fault.ValueFault.{ValueFault}
use Rattle.sample_core.specs.declared.fault.ValueFault.TheVariants as Fault
use Rattle.sample_core.proofs.Behind.{kept_apart, row_kept_apart}
use Rattle.sample_core.proofs.FaultRead.{fault_read}
use Rattle.sample_core.proofs.ReadingIs.{spells_read}

-- the bytes before the place
before_of : {A : TypeTree} {bs rest : List ℕ} {w : Expectation} → Leads A bs w rest → List ℕ
before_of at_front = []
before_of (behind_pair g) = codes "(pair"
before_of (in_first l) = codes "(pair " ++ before_of l
before_of (behind_first {v = v} s) = codes "(pair " ++ spelling v
before_of (in_second {v = v} s l) = codes "(pair " ++ (spelling v ++ 32 ∷ before_of l)
before_of (behind_second {v = v} {x = x} s t) = codes "(pair " ++ (spelling v ++ 32 ∷ spelling x)
before_of (behind_event g) = codes "(event"
before_of (in_event l) = codes "(event " ++ before_of l
before_of (behind_inner {v = v} s) = codes "(event " ++ spelling v
before_of (behind_elements {vs = vs} s) = codes "(list" ++ spellings vs
before_of (in_element {vs = vs} s l) = codes "(list" ++ (spellings vs ++ 32 ∷ before_of l)

is_before : {A : TypeTree} {bs rest : List ℕ} {w : Expectation} (l : Leads A bs w rest) → bs ≡ before_of l ++ rest
unfolding before_of
is_before at_front = refl
is_before (behind_pair g) = refl
is_before (in_first l) = ap (λ x. codes "(pair " ++ x) (is_before l)
is_before (behind_first s) = ap (λ x. codes "(pair " ++ x) s.spells
is_before {rest = rest} (in_second {v = v} s l) =
    ap (λ x. codes "(pair " ++ x) (s.spells ∙ ap (λ x. spelling v ++ 32 ∷ x) (is_before l) ∙ sym (append_assoc (spelling v) (32 ∷ before_of l) rest))
is_before {rest = rest} (behind_second {v = v} {x = y} s t) =
    ap (λ x. codes "(pair " ++ x) (s.spells ∙ ap (λ x. spelling v ++ 32 ∷ x) t.spells ∙ sym (append_assoc (spelling v) (32 ∷ spelling y) rest))
is_before (behind_event g) = refl
is_before (in_event l) = ap (λ x. codes "(event " ++ x) (is_before l)
is_before (behind_inner s) = ap (λ x. codes "(event " ++ x) s.spells
is_before (behind_elements s) = ap (λ x. codes "(list" ++ x) s.spells
is_before {rest = rest} (in_element {vs = vs} s l) =
    ap (λ x. codes "(list" ++ x) (s.spells ∙ ap (λ x. spellings vs ++ 32 ∷ x) (is_before l) ∙ sym (append_assoc (spellings vs) (32 ∷ before_of l) rest))

goes_on_there : (rest after : List ℕ) → take 1 after ≡ take 1 rest → goes_on after ≡ goes_on rest
goes_on_there [] [] e = refl
goes_on_there [] (b ∷ bs) e = absurd (cc)
goes_on_there (c ∷ cs) [] e = absurd (cc)
goes_on_there (c ∷ cs) (b ∷ bs) e = let i : b ≡ c = cc in ap (λ x. goes_on (x ∷ [])) i

begins_there : (k : ℕ) (rest after : List ℕ) → take 1 after ≡ take 1 rest → begins_with k after ≡ begins_with k rest
begins_there k [] [] e = refl
begins_there k [] (b ∷ bs) e = absurd (cc)
begins_there k (c ∷ cs) [] e = absurd (cc)
begins_there k (c ∷ cs) (b ∷ bs) e = let i : b ≡ c = cc in ap (λ x. nat_eq x k) i

apart_there : (b : Bool) (rest after : List ℕ) → take 1 after ≡ take 1 rest → (b && goes_on rest) ≡ false → (b && goes_on after) ≡ false
apart_there b rest after e h = ap (λ p. b && p) (goes_on_there rest after e) ∙ h

-- with other bytes of the same front behind, the bytes lead to the same place
leads_there : {A : TypeTree} {bs rest : List ℕ} {w : Expectation} (l : Leads A bs w rest) (after : List ℕ) → SameThere w rest after
    → Leads A (before_of l ++ after) w after
unfolding before_of
leads_there at_front after s = at_front
leads_there {rest = rest} (behind_pair g) after e = behind_pair (goes_on_there rest after e ∙ g)
leads_there (in_first l) after e = in_first (leads_there l after e)
leads_there {rest = rest} (behind_first {v = v} s) after e =
    behind_first (record { typed = s.typed; spells = refl; apart = apart_there (ends_in_word v) rest after e s.apart })
leads_there {w = w} (in_second {A = A} {B = B} {v = v} s l) after e =
    let i : SpellsValue v A (spelling v ++ 32 ∷ (before_of l ++ after)) (32 ∷ (before_of l ++ after)) =
    record { typed = s.typed; spells = refl; apart = kept_apart v (32 ∷ (before_of l ++ after)) refl } in
    subst (λ x. Leads (pair_ty A B) (codes "(pair " ++ x) w after) (sym (append_assoc (spelling v) (32 ∷ before_of l) after))
    (in_second i (leads_there l after e))
leads_there {rest = rest} (behind_second {A = A} {B = B} {v = v} {x = y} s t) after e =
    let i : SpellsValue v A (spelling v ++ 32 ∷ (spelling y ++ after)) (32 ∷ (spelling y ++ after)) =
    record { typed = s.typed; spells = refl; apart = kept_apart v (32 ∷ (spelling y ++ after)) refl } in
    let j : SpellsValue y B (spelling y ++ after) after =
    record { typed = t.typed; spells = refl; apart = apart_there (ends_in_word y) rest after e t.apart } in
    subst (λ x. Leads (pair_ty A B) (codes "(pair " ++ x) (a_byte 41) after) (sym (append_assoc (spelling v) (32 ∷ spelling y) after)) (behind_second i j)
leads_there {rest = rest} (behind_event g) after e = behind_event (goes_on_there rest after e ∙ g)
leads_there (in_event l) after e = in_event (leads_there l after e)
leads_there {rest = rest} (behind_inner {v = v} s) after e =
    behind_inner (record { typed = s.typed; spells = refl; apart = apart_there (ends_in_word v) rest after e s.apart })
leads_there {rest = rest} (behind_elements {vs = vs} s) after e =
    behind_elements (record { typed = s.typed; spells = refl; apart = apart_there (row_ends_in_word vs) rest after e s.apart })
leads_there {w = w} (in_element {A = A} {vs = vs} s l) after e =
    let i : SpellsRow vs A (spellings vs ++ 32 ∷ (before_of l ++ after)) (32 ∷ (before_of l ++ after)) =
    record { typed = s.typed; spells = refl; apart = row_kept_apart vs (32 ∷ (before_of l ++ after)) refl } in
    subst (λ x. Leads (list_ty A) (codes "(list" ++ x) w after) (sym (append_assoc (spellings vs) (32 ∷ before_of l) after))
    (in_element i (leads_there l after e))

type_there : (A : TypeTree) (rest after : List ℕ) → word_of after ≡ word_of rest → form_word after ≡ form_word rest → begins_type A after ≡ begins_type A rest
type_there unit_ty rest after d e = ap (λ x. bytes_eq x (codes "unit")) d
type_there bool_ty rest after d e = ap (λ x. bytes_eq x (codes "true") || bytes_eq x (codes "false")) d
type_there int_ty rest after d e = ap is_number d
type_there (pair_ty A B) rest after d e = ap (λ x. bytes_eq x (codes "pair")) e
type_there (event_ty A) rest after d e = ap (λ x. bytes_eq x (codes "none") || bytes_eq (form_word after) (codes "event")) d
    ∙ ap (λ x. bytes_eq (word_of rest) (codes "none") || bytes_eq x (codes "event")) e
type_there (list_ty A) rest after d e = ap (λ x. bytes_eq x (codes "list")) e

value_there : (rest after : List ℕ) → word_of after ≡ word_of rest → form_word after ≡ form_word rest → begins_value after ≡ begins_value rest
value_there rest after d e =
    ap (λ x. bytes_eq x (codes "unit") || bytes_eq x (codes "true") || bytes_eq x (codes "false") || bytes_eq x (codes "none") || is_number x
    || bytes_eq (form_word after) (codes "pair") || bytes_eq (form_word after) (codes "event") || bytes_eq (form_word after) (codes "list")) d
    ∙ ap (λ x. bytes_eq (word_of rest) (codes "unit") || bytes_eq (word_of rest) (codes "true") || bytes_eq (word_of rest) (codes "false")
    || bytes_eq (word_of rest) (codes "none") || is_number (word_of rest) || bytes_eq x (codes "pair") || bytes_eq x (codes "event")
    || bytes_eq x (codes "list")) e

-- with other bytes of the same front, something is wrong at the place too
wrong_there : {w : Expectation} {rest : List ℕ} {p : ℕ} {f : ValueFault} → Wrong w rest p f → (after : List ℕ) → SameThere w rest after → (q : ℕ)
    → (g : ValueFault) × Wrong w after q g
wrong_there {rest = rest} (no_value e) after s q = (Fault.NotAValue q, no_value (value_there rest after s.0 s.1 ∙ e))
wrong_there {rest = rest} (another_type {A = A} d e) after s q =
    (Fault.OtherType q, another_type (value_there rest after s.0 s.1 ∙ d) (type_there A rest after s.0 s.1 ∙ e))
wrong_there (too_large d e) after s q = (Fault.NumberRange q, too_large (ap is_number s.0 ∙ d) (ap is_in_64 s.0 ∙ e))
wrong_there {rest = rest} (no_byte {b = b} e) after s q = (Fault.NotAValue q, no_byte (begins_there b rest after s ∙ e))
wrong_there {rest = rest} (neither d e) after s q = (Fault.NotAValue q, neither (begins_there 32 rest after s ∙ d) (begins_there 41 rest after s ∙ e))

some_value : TypeTree → Datum
some_value unit_ty = unit
some_value bool_ty = bool true
some_value int_ty = int (pos 0)
some_value (pair_ty A B) = pair (some_value A) (some_value B)
some_value (event_ty A) = no_event
some_value (list_ty A) = list end

some_typed : (A : TypeTree) → HasType (some_value A) A
unfolding some_value
some_typed unit_ty = unit_has
some_typed bool_ty = bool_has
some_typed int_ty = int_has (record { sfits = omega arith })
some_typed (pair_ty A B) = pair_has (some_typed A) (some_typed B)
some_typed (event_ty A) = no_event_has
some_typed (list_ty A) = list_has end_has

one_behind : Datums → Datum → Datums
one_behind end v = more v end
one_behind (more w vs) v = more w (one_behind vs v)

all_typed : {A : TypeTree} (vs : Datums) (v : Datum) → HaveType vs A → HasType v A → HaveType (one_behind vs v) A
unfolding one_behind
all_typed end v end_has k = more_has k end_has
all_typed (more w vs) v (more_has h hs) k = more_has h (all_typed vs v hs k)

all_spellings : (vs : Datums) (v : Datum) → spellings (one_behind vs v) ≡ spellings vs ++ 32 ∷ spelling v
unfolding one_behind
all_spellings end v = ap (λ x. 32 ∷ x) (append-nil (spelling v))
all_spellings (more w vs) v = ap (λ x. 32 ∷ (spelling w ++ x)) (all_spellings vs v)
    ∙ ap (λ x. 32 ∷ x) (sym (append_assoc (spelling w) (spellings vs) (32 ∷ spelling v)))

-- the bytes begin the spelling of a value of the type
record Completes (A : TypeTree) (before : List ℕ) : Type 0 where
  value : Datum
  more_bytes : List ℕ
  typed : HasType value A
  spells : spelling value ≡ before ++ more_bytes

completed : {A : TypeTree} {bs rest : List ℕ} {w : Expectation} (l : Leads A bs w rest) → Completes A (before_of l)
unfolding before_of
completed {A = A} at_front = record { value = some_value A; more_bytes = spelling (some_value A); typed = some_typed A; spells = refl }
completed (behind_pair {A = A} {B = B} g) =
    record {
      value = pair (some_value A) (some_value B);
      more_bytes = 32
          ∷ (spelling (some_value A) ++ 32 ∷ (spelling (some_value B) ++ codes ")"));
      typed = pair_has (some_typed A) (some_typed B);
      spells = refl;
    }
completed (in_first {A = A} {B = B} l) =
    let c : Completes A (before_of l) = completed l in
    record {
      value = pair c.value (some_value B);
      more_bytes = c.more_bytes ++ 32
          ∷ (spelling (some_value B) ++ codes ")");
      typed = pair_has c.typed (some_typed B);
      spells =
          ap (λ x. codes "(pair " ++ x) (ap (λ x. x ++ 32 ∷ (spelling (some_value B) ++ codes ")")) c.spells
          ∙ append_assoc (before_of l) c.more_bytes (32 ∷ (spelling (some_value B) ++ codes ")")));
    }
completed (behind_first {A = A} {B = B} {v = v} s) =
    record { value = pair v (some_value B); more_bytes = 32 ∷ (spelling (some_value B) ++ codes ")"); typed = pair_has s.typed (some_typed B); spells = refl }
completed (in_second {A = A} {B = B} {v = v} s l) =
    let c : Completes B (before_of l) = completed l in
    record {
      value = pair v c.value;
      more_bytes = c.more_bytes
          ++ codes ")";
      typed = pair_has s.typed c.typed;
      spells =
          ap (λ x. codes "(pair " ++ x) (ap (λ x. spelling v ++ 32 ∷ (x ++ codes ")")) c.spells
          ∙ ap (λ x. spelling v ++ 32 ∷ x) (append_assoc (before_of l) c.more_bytes (codes ")"))
          ∙ sym (append_assoc (spelling v) (32 ∷ before_of l) (c.more_bytes ++ codes ")")));
    }
completed (behind_second {A = A} {B = B} {v = v} {x = y} s t) =
    record {
      value = pair v y;
      more_bytes = codes ")";
      typed = pair_has s.typed t.typed;
      spells =
          ap (λ x. codes "(pair " ++ x) (sym (append_assoc (spelling v) (32 ∷ spelling y) (codes ")")));
    }
completed (behind_event {A = A} g) =
    record { value = event (some_value A); more_bytes = 32 ∷ (spelling (some_value A) ++ codes ")"); typed = event_has (some_typed A); spells = refl }
completed (in_event {A = A} l) =
    let c : Completes A (before_of l) = completed l in
    record {
      value = event c.value;
      more_bytes = c.more_bytes
          ++ codes ")";
      typed = event_has c.typed;
      spells =
          ap (λ x. codes "(event " ++ x) (ap (λ x. x ++ codes ")") c.spells ∙ append_assoc (before_of l) c.more_bytes (codes ")"));
    }
completed (behind_inner {v = v} s) = record { value = event v; more_bytes = codes ")"; typed = event_has s.typed; spells = refl }
completed (behind_elements {vs = vs} s) = record { value = list vs; more_bytes = codes ")"; typed = list_has s.typed; spells = refl }
completed (in_element {A = A} {vs = vs} s l) =
    let c : Completes A (before_of l) = completed l in
    record {
      value = list (one_behind vs c.value);
      more_bytes = c.more_bytes
          ++ codes ")";
      typed = list_has (all_typed vs c.value s.typed c.typed);
      spells =
          ap (λ x. codes "(list" ++ x) (ap (λ x. x ++ codes ")") (all_spellings vs c.value) ∙ append_assoc (spellings vs) (32 ∷ spelling c.value) (codes ")")
          ∙ ap (λ x. spellings vs ++ 32 ∷ (x ++ codes ")")) c.spells ∙ ap (λ x. spellings vs ++ 32 ∷ x) (append_assoc (before_of l) c.more_bytes (codes ")"))
          ∙ sym (append_assoc (spellings vs) (32 ∷ before_of l) (c.more_bytes ++ codes ")")));
    }

no_value_goes_on : {A : TypeTree} {bs rest : List ℕ} {w : Expectation} {p : ℕ} {f : ValueFault} (l : Leads A bs w rest) → Wrong w rest p f → (after : List ℕ)
    → SameThere w rest after → (v : Datum) (behind : List ℕ) → SpellsValue v A (before_of l ++ after) behind → ⊥
no_value_goes_on {A = A} {w = w} l x after s v behind h =
    let g : (g : ValueFault) × Wrong w after (0 - length after) g = wrong_there x after s (0 - length after) in
    let e : value_at 0 A (before_of l ++ after) ≡ Err g.0 = fault_read 0 A (before_of l ++ after) w after g.0 (leads_there l after s) g.1 in
    let o : value_at 0 A (before_of l ++ after) ≡ Ok (v, behind) = spells_read 0 A (before_of l ++ after) v behind h in
    absurd (cc)

pub leftmost_law : LeftmostLaw
leftmost_law A bs f h =
    let c : Completes A (before_of h.leads) = completed h.leads in
    record {
      before = before_of h.leads;
      place = is_before h.leads;
      value = c.value;
      more_bytes = c.more_bytes;
      typed = c.typed;
      spells = c.spells;
      none =
          no_value_goes_on h.leads h.wrong;
    }
