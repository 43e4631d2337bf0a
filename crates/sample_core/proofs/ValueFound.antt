-- A value that is read is spelled so.
use Rattle.std.proofs.Common.{◌≡◌, ℕ, zero, suc, ◌-◌, ◌≤◌, ◌⊎◌, inl, inr, Bool, true, false, ◌&&◌, nat_eq, List, [], ◌∷◌, ◌++◌, length, refl, ap, ◌∙◌, subst, arith, Result, Ok, Err, if◌then◌else◌, w64, FitsSigned}
use Rattle.std.specs.Prelude.{codes, bytes_eq}
use Rattle.std.specs.Fmt.{signed_decimal}
use Rattle.std.proofs.lemmas.Bool.{eqb-true}
use Rattle.sample_core.specs.Datum.{Datum, unit, bool, int, pair, no_event, event, list, list_of}
use Rattle.sample_core.specs.TypeTree.{TypeTree, unit_ty, bool_ty, int_ty, pair_ty, event_ty, list_ty}
use Rattle.sample_core.specs.HasType.{HasType, HaveType, unit_has, bool_has, int_has, pair_has, no_event_has, event_has, list_has, end_has, more_has}
use Rattle.sample_core.specs.Number.{is_number, is_in_64, number_of}
use Rattle.sample_core.specs.Answer.{◌>>=◌}
use Rattle.sample_core.specs.Reading.{begins_with, wrong, behind_byte, behind_head, unit_at, truth_at, number_at, elements_at, value_at}
use Rattle.sample_core.specs.SpellsValue.{ends_in_word}
use Rattle.sample_core.specs.Words.{goes_on, word_of, after_word, form_word, after_form}
use Rattle.sample_core.specs.declared.fault.ValueFault.{ValueFault}
use Rattle.sample_core.specs.declared.fault.ValueFault.TheVariants as Fault
use Rattle.sample_core.proofs.Behind.{spelled, all_spelled, longer, last_ends_in_word, more_apart}
use Rattle.sample_core.proofs.Numbers.{integer_back}
use Rattle.sample_core.proofs.WordLemmas.{split, at_word, at_form}

pub bind_ok : {A B : Type 0} (r : Result A ValueFault) (g : A → Result B ValueFault) (y : B) → (r >>= g) ≡ Ok y → (x : A) × (r ≡ Ok x) × (g x ≡ Ok y)
bind_ok (Ok x) g y e = (x, refl, e)
bind_ok (Err f) g y e = absurd (cc)

not_ok : {A : Type 0} {f : ValueFault} {y : A} → ◌≡◌ {A = Result A ValueFault} (Err f) (Ok y) → ⊥
not_ok e = cc

-- what comes first was answered, and then the rest
with_ok : {A B C : Type 0} (r : Result A ValueFault) (g : A → Result B ValueFault) (y : B) → (r >>= g) ≡ Ok y → ((x : A) → r ≡ Ok x → g x ≡ Ok y → C) → C
with_ok r g y e k = let a = bind_ok r g y e in k a.0 a.1 a.2

pub ok_is : {A : Type 0} {x y : A} → ◌≡◌ {A = Result A ValueFault} (Ok x) (Ok y) → x ≡ y
ok_is e = cc

-- one branch of two answered
pub if_is : {A : Type 0} (b : Bool) (r s y : A) → (if b then r else s) ≡ y → ((b ≡ true) × (r ≡ y)) ⊎ ((b ≡ false) × (s ≡ y))
if_is true r s y e = inl (refl, e)
if_is false r s y e = inr (refl, e)

-- one branch of three answered
pub ifs_are : {A C : Type 0} (b d : Bool) (r s t y : A) → (if b then (if d then r else s) else t) ≡ y → (b ≡ true → d ≡ true → r ≡ y → C)
    → (b ≡ true → d ≡ false → s ≡ y → C) → (b ≡ false → t ≡ y → C) → C
ifs_are true true r s t y e f g h = f refl refl e
ifs_are true false r s t y e f g h = g refl refl e
ifs_are false d r s t y e f g h = h refl e

pub byte_found : (size b : ℕ) (bs cs : List ℕ) → behind_byte size b bs ≡ Ok cs → bs ≡ b ∷ cs
unfolding behind_byte
byte_found size b [] cs e = absurd (cc)
byte_found size b (c ∷ bs) cs e = go (if_is (nat_eq c b) (Ok bs) (Err (Fault.NotAValue (size - length (c ∷ bs)))) (Ok cs) e)
  where
    go : ((nat_eq c b ≡ true) × ◌≡◌ {A = Result (List ℕ) ValueFault} (Ok bs) (Ok cs))
        ⊎ ((nat_eq c b ≡ false) × ◌≡◌ {A = Result (List ℕ) ValueFault} (Err (Fault.NotAValue (size - length (c ∷ bs)))) (Ok cs)) → c ∷ bs ≡ b ∷ cs
    go (inl h) = ap (λ x. x ∷ bs) (eqb-true c b h.0) ∙ ap (λ x. b ∷ x) (ok_is h.1)
    go (inr h) = absurd (not_ok h.1)

pub head_found : (size c : ℕ) (w bs cs : List ℕ) → behind_head size (c ∷ w) bs ≡ Ok cs → (bs ≡ 40 ∷ c ∷ w ++ cs) × (goes_on cs ≡ false)
unfolding behind_head
head_found size c w bs cs e = go (if_is (bytes_eq (form_word bs) (c ∷ w)) (Ok (after_form bs)) (Err (wrong size bs)) (Ok cs) e)
  where
    go : ((bytes_eq (form_word bs) (c ∷ w) ≡ true) × ◌≡◌ {A = Result (List ℕ) ValueFault} (Ok (after_form bs)) (Ok cs))
        ⊎ ((bytes_eq (form_word bs) (c ∷ w) ≡ false) × ◌≡◌ {A = Result (List ℕ) ValueFault} (Err (wrong size bs)) (Ok cs))
        → (bs ≡ 40 ∷ c ∷ w ++ cs) × (goes_on cs ≡ false)
    go (inl h) = subst (λ x. (bs ≡ 40 ∷ c ∷ w ++ x) × (goes_on x ≡ false)) (ok_is h.1) (at_form bs c w h.0)
    go (inr h) = absurd (not_ok h.1)

-- the bytes are those of a value of the type and then the rest, which does not go on its last word
pub record Is (A : TypeTree) (bs : List ℕ) (y : Datum × List ℕ) : Type 0 where
  pub typed : HasType y.0 A
  pub spells : bs ≡ spelled y.0 y.1
  pub apart : (ends_in_word y.0 && goes_on y.1) ≡ false

-- the same of a row of elements, behind which there is no space
pub record AreElements (A : TypeTree) (bs : List ℕ) (y : List Datum × List ℕ) : Type 0 where
  pub typed : HaveType (list_of y.0) A
  pub spells : bs ≡ all_spelled (list_of y.0) y.1
  pub apart : (last_ends_in_word (list_of y.0) && goes_on y.1) ≡ false
  pub ended : begins_with 32 y.1 ≡ false

unit_found : (size : ℕ) (bs : List ℕ) (y : Datum × List ℕ) → unit_at size bs ≡ Ok y → Is unit_ty bs y
unfolding unit_at
unit_found size bs y e = go (if_is (bytes_eq (word_of bs) (codes "unit")) (Ok (unit, after_word bs)) (Err (wrong size bs)) (Ok y) e)
  where
    go : ((bytes_eq (word_of bs) (codes "unit") ≡ true) × ◌≡◌ {A = Result (Datum × List ℕ) ValueFault} (Ok (unit, after_word bs)) (Ok y))
        ⊎ ((bytes_eq (word_of bs) (codes "unit") ≡ false) × ◌≡◌ {A = Result (Datum × List ℕ) ValueFault} (Err (wrong size bs)) (Ok y)) → Is unit_ty bs y
    go (inl p) = subst (Is unit_ty bs) (ok_is p.1) (record { typed = unit_has; spells = at_word bs (codes "unit") p.0; apart = (split bs).1 })
    go (inr p) = absurd (not_ok p.1)

truth_found : (size : ℕ) (bs : List ℕ) (y : Datum × List ℕ) → truth_at size bs ≡ Ok y → Is bool_ty bs y
unfolding truth_at
truth_found size bs y e =
    go
    (if_is (bytes_eq (word_of bs) (codes "true")) (Ok (bool true, after_word bs))
    (if bytes_eq (word_of bs) (codes "false") then Ok (bool false, after_word bs) else Err (wrong size bs)) (Ok y) e)
  where
    go2 : ((bytes_eq (word_of bs) (codes "false") ≡ true) × ◌≡◌ {A = Result (Datum × List ℕ) ValueFault} (Ok (bool false, after_word bs)) (Ok y))
        ⊎ ((bytes_eq (word_of bs) (codes "false") ≡ false) × ◌≡◌ {A = Result (Datum × List ℕ) ValueFault} (Err (wrong size bs)) (Ok y)) → Is bool_ty bs y
    go2 (inl p) = subst (Is bool_ty bs) (ok_is p.1) (record { typed = bool_has; spells = at_word bs (codes "false") p.0; apart = (split bs).1 })
    go2 (inr p) = absurd (not_ok p.1)

    go : ((bytes_eq (word_of bs) (codes "true") ≡ true) × ◌≡◌ {A = Result (Datum × List ℕ) ValueFault} (Ok (bool true, after_word bs)) (Ok y))
        ⊎ ((bytes_eq (word_of bs) (codes "true") ≡ false)
        × ((if bytes_eq (word_of bs) (codes "false") then Ok (bool false, after_word bs) else Err (wrong size bs)) ≡ Ok y)) → Is bool_ty bs y
    go (inl p) = subst (Is bool_ty bs) (ok_is p.1) (record { typed = bool_has; spells = at_word bs (codes "true") p.0; apart = (split bs).1 })
    go (inr p) = go2 (if_is (bytes_eq (word_of bs) (codes "false")) (Ok (bool false, after_word bs)) (Err (wrong size bs)) (Ok y) p.1)

number_found : (size : ℕ) (bs : List ℕ) (y : Datum × List ℕ) → number_at size bs ≡ Ok y → Is int_ty bs y
unfolding number_at
number_found size bs y e =
    ifs_are (is_number (word_of bs)) (is_in_64 (word_of bs)) (Ok (int (number_of (word_of bs)), after_word bs)) (Err (Fault.NumberRange (size - length bs)))
    (Err (wrong size bs)) (Ok y) e
    (λ h p q.
    let i : FitsSigned w64 (number_of (word_of bs)) × (word_of bs ≡ signed_decimal (number_of (word_of bs))) = integer_back (word_of bs) h p in
    subst (Is int_ty bs) (ok_is q) (record { typed = int_has i.0; spells = (split bs).0 ∙ ap (λ x. x ++ after_word bs) i.1; apart = (split bs).1 }))
    (λ h p q. absurd (not_ok q)) (λ h q. absurd (not_ok q))

behind_shorter : (v : Datum) (r bs : List ℕ) (n : ℕ) → bs ≡ spelled v r → suc (length bs) ≤ suc n → length r ≤ n
behind_shorter v r bs n e l = let k : length bs ≡ length (spelled v r) = ap length e in omega (arith, longer v r)

pub elements_found : (size : ℕ) (A : TypeTree) → ((bs : List ℕ) (y : Datum × List ℕ) → value_at size A bs ≡ Ok y → Is A bs y)
    → (n : ℕ) (bs : List ℕ) (y : List Datum × List ℕ) → length bs ≤ n → elements_at (value_at size A) n bs ≡ Ok y → AreElements A bs y
unfolding elements_at
elements_found size A h zero [] y l e = subst (AreElements A []) (ok_is e) (record { typed = end_has; spells = refl; apart = refl; ended = refl })
elements_found size A h zero (b ∷ bs) y l e = absurd (omega arith)
elements_found size A h (suc n) [] y l e = subst (AreElements A []) (ok_is e) (record { typed = end_has; spells = refl; apart = refl; ended = refl })
elements_found size A h (suc n) (b ∷ bs) y l e =
    go (if_is (nat_eq b 32) (value_at size A bs >>= (λ x. elements_at (value_at size A) n x.1 >>= (λ z. Ok (x.0 ∷ z.0, z.1)))) (Ok ([], b ∷ bs)) (Ok y) e)
    (λ cs z p q. elements_found size A h n cs z p q)
  where
    go : ((nat_eq b 32 ≡ true) × ((value_at size A bs >>= (λ x. elements_at (value_at size A) n x.1 >>= (λ z. Ok (x.0 ∷ z.0, z.1)))) ≡ Ok y))
        ⊎ ((nat_eq b 32 ≡ false) × ◌≡◌ {A = Result (List Datum × List ℕ) ValueFault} (Ok ([], b ∷ bs)) (Ok y))
        → ((cs : List ℕ) (z : List Datum × List ℕ) → length cs ≤ n → elements_at (value_at size A) n cs ≡ Ok z → AreElements A cs z) → AreElements A (b ∷ bs) y
    go (inl p) next =
        let i : b ≡ 32 = eqb-true b 32 p.0 in
        let a : (x : Datum × List ℕ) × (value_at size A bs ≡ Ok x)
        × ((elements_at (value_at size A) n x.1 >>= (λ z. Ok (x.0 ∷ z.0, z.1))) ≡ Ok y) = bind_ok (value_at size A bs) _ y p.1 in
        let c : (z : List Datum × List ℕ) × (elements_at (value_at size A) n a.0.1 ≡ Ok z)
        × ◌≡◌ {A = Result (List Datum × List ℕ) ValueFault} (Ok (a.0.0 ∷ z.0, z.1)) (Ok y) = bind_ok (elements_at (value_at size A) n a.0.1) _ y a.2 in
        let f : Is A bs a.0 = h bs a.0 a.1 in
        let m : length a.0.1 ≤ n = behind_shorter a.0.0 a.0.1 bs n f.spells l in
        let g : AreElements A a.0.1 c.0 = next a.0.1 c.0 m c.1 in
        let d : (ends_in_word a.0.0 && goes_on (all_spelled (list_of c.0.0) c.0.1)) ≡ false = rw (← g.spells) f.apart in
        subst (AreElements A (b ∷ bs)) (ok_is c.2)
        (record {
          typed = more_has f.typed g.typed;
          spells = ap (λ x. x ∷ bs) i
              ∙ ap (λ x. 32 ∷ x) (f.spells ∙ ap (spelled a.0.0) g.spells);
          apart = more_apart a.0.0 (list_of c.0.0) c.0.1 d g.apart;
          ended = g.ended;
        })
    go (inr p) next = subst (AreElements A (b ∷ bs)) (ok_is p.1) (record { typed = end_has; spells = refl; apart = refl; ended = p.0 })

pair_found : (size : ℕ) (A B : TypeTree) (bs hs vs cs rest : List ℕ) (v w : Datum × List ℕ) → behind_head size (codes "pair") bs ≡ Ok hs
    → behind_byte size 32 hs ≡ Ok vs → Is A vs v → behind_byte size 32 v.1 ≡ Ok cs → Is B cs w → behind_byte size 41 w.1 ≡ Ok rest
    → Is (pair_ty A B) bs (pair v.0 w.0, rest)
pair_found size A B bs hs vs cs rest v w h a i c j f = record { typed = pair_has i.typed j.typed; spells = spells; apart = refl }
  where
    spells : bs ≡ spelled (pair v.0 w.0) rest
    spells = (head_found size 112 (97 ∷ 105 ∷ 114 ∷ []) bs hs h).0
        ∙ ap (λ x. 40 ∷ 112 ∷ 97 ∷ 105 ∷ 114 ∷ x) (byte_found size 32 hs vs a
        ∙ ap (λ x. 32 ∷ x) (i.spells
        ∙ ap (spelled v.0) (byte_found size 32 v.1 cs c ∙ ap (λ x. 32 ∷ x) (j.spells ∙ ap (spelled w.0) (byte_found size 41 w.1 rest f)))))

pub value_found : (size : ℕ) (A : TypeTree) (bs : List ℕ) (y : Datum × List ℕ) → value_at size A bs ≡ Ok y → Is A bs y
unfolding value_at
value_found size unit_ty bs y e = unit_found size bs y e
value_found size bool_ty bs y e = truth_found size bs y e
value_found size int_ty bs y e = number_found size bs y e
value_found size (pair_ty A B) bs y e =
    with_ok (behind_head size (codes "pair") bs) _ y e (λ hs h e1.
    with_ok (behind_byte size 32 hs) _ y e1 (λ vs a e2.
    with_ok (value_at size A vs) _ y e2 (λ v b e3.
    with_ok (behind_byte size 32 v.1) _ y e3 (λ cs c e4.
    with_ok (value_at size B cs) _ y e4 (λ w d e5.
    with_ok (behind_byte size 41 w.1) _ y e5 (λ rest f e6.
    subst (Is (pair_ty A B) bs) (ok_is e6) (pair_found size A B bs hs vs cs rest v w h a (value_found size A vs v b) c (value_found size B cs w d) f)))))))
value_found size (event_ty A) bs y e = go (if_is (bytes_eq (word_of bs) (codes "none")) (Ok (no_event, after_word bs)) _ (Ok y) e) (value_found size A)
  where
    go : ((bytes_eq (word_of bs) (codes "none") ≡ true) × ◌≡◌ {A = Result (Datum × List ℕ) ValueFault} (Ok (no_event, after_word bs)) (Ok y))
        ⊎ ((bytes_eq (word_of bs) (codes "none") ≡ false)
        × ((behind_head size (codes "event") bs >>=
        (λ cs. behind_byte size 32 cs >>= (λ ds. value_at size A ds >>= (λ v. behind_byte size 41 v.1 >>= (λ rest. Ok (event v.0, rest)))))) ≡ Ok y))
        → ((cs : List ℕ) (z : Datum × List ℕ) → value_at size A cs ≡ Ok z → Is A cs z) → Is (event_ty A) bs y
    go (inl p) inner = subst (Is (event_ty A) bs) (ok_is p.1) (record { typed = no_event_has; spells = at_word bs (codes "none") p.0; apart = (split bs).1 })
    go (inr p) inner =
        let h : (hs : List ℕ) × (behind_head size (codes "event") bs ≡ Ok hs)
        × ((behind_byte size 32 hs >>= (λ ds. value_at size A ds >>= (λ v. behind_byte size 41 v.1 >>= (λ rest. Ok (event v.0, rest))))) ≡ Ok y) =
        bind_ok (behind_head size (codes "event") bs) _ y p.1 in
        let a : (cs : List ℕ) × (behind_byte size 32 h.0 ≡ Ok cs)
        × ((value_at size A cs >>= (λ v. behind_byte size 41 v.1 >>= (λ rest. Ok (event v.0, rest)))) ≡ Ok y) =
        bind_ok (behind_byte size 32 h.0) _ y h.2 in
        let b : (x : Datum × List ℕ) × (value_at size A a.0 ≡ Ok x)
        × ((behind_byte size 41 x.1 >>= (λ rest. Ok (event x.0, rest))) ≡ Ok y) = bind_ok (value_at size A a.0) _ y a.2 in
        let f : (es : List ℕ) × (behind_byte size 41 b.0.1 ≡ Ok es)
        × ◌≡◌ {A = Result (Datum × List ℕ) ValueFault} (Ok (event b.0.0, es)) (Ok y) = bind_ok (behind_byte size 41 b.0.1) _ y b.2 in
        let i : Is A a.0 b.0 = inner a.0 b.0 b.1 in
        let s : bs ≡ spelled (event b.0.0) f.0 = (head_found size 101 (118 ∷ 101 ∷ 110 ∷ 116 ∷ []) bs h.0 h.1).0
        ∙ ap (λ x. 40 ∷ 101 ∷ 118 ∷ 101 ∷ 110 ∷ 116 ∷ x) (byte_found size 32 h.0 a.0 a.1
        ∙ ap (λ x. 32 ∷ x) (i.spells ∙ ap (spelled b.0.0) (byte_found size 41 b.0.1 f.0 f.1))) in
        subst (Is (event_ty A) bs) (ok_is f.2) (record { typed = event_has i.typed; spells = s; apart = refl })
value_found size (list_ty A) bs y e =
    let h : (hs : List ℕ) × (behind_head size (codes "list") bs ≡ Ok hs)
    × ((elements_at (value_at size A) (length hs) hs >>= (λ vs. behind_byte size 41 vs.1 >>= (λ rest. Ok (list (list_of vs.0), rest)))) ≡ Ok y) =
    bind_ok (behind_head size (codes "list") bs) _ y e in
    let a : (vs : List Datum × List ℕ) × (elements_at (value_at size A) (length h.0) h.0 ≡ Ok vs)
    × ((behind_byte size 41 vs.1 >>= (λ rest. Ok (list (list_of vs.0), rest))) ≡ Ok y) =
    bind_ok (elements_at (value_at size A) (length h.0) h.0) _ y h.2 in
    let f : (es : List ℕ) × (behind_byte size 41 a.0.1 ≡ Ok es)
    × ◌≡◌ {A = Result (Datum × List ℕ) ValueFault} (Ok (list (list_of a.0.0), es)) (Ok y) = bind_ok (behind_byte size 41 a.0.1) _ y a.2 in
    let i : AreElements A h.0 a.0 = elements_found size A (value_found size A) (length h.0) h.0 a.0 (omega arith) a.1 in
    let s : bs ≡ spelled (list (list_of a.0.0)) f.0 = (head_found size 108 (105 ∷ 115 ∷ 116 ∷ []) bs h.0 h.1).0
    ∙ ap (λ x. 40 ∷ 108 ∷ 105 ∷ 115 ∷ 116 ∷ x) (i.spells ∙ ap (all_spelled (list_of a.0.0)) (byte_found size 41 a.0.1 f.0 f.1)) in
    subst (Is (list_ty A) bs) (ok_is f.2) (record { typed = list_has i.typed; spells = s; apart = refl })
