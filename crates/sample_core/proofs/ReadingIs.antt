-- What is read is spelled in front, and what is spelled in front is read.
use Rattle.std.proofs.Common.{◌≡◌, ℕ, ◌-◌, List, ◌++◌, length, drop, refl, sym, ap, ◌∙◌, subst, arith, Result, Ok, length-append}
use Rattle.std.proofs.lemmas.List.{drop_at}
use Rattle.sample_core.specs.Datum.{Datum}
use Rattle.sample_core.specs.TypeTree.{TypeTree}
use Rattle.sample_core.specs.Spelling.{spelling}
use Rattle.sample_core.specs.SpellsValue.{SpellsValue}
use Rattle.sample_core.specs.Reading.{value_at, reading}
use Rattle.sample_core.specs.ReadingLaws.{ReadingLaw, OneValueLaw, ReadAgainLaw}
use Rattle.sample_core.specs.declared.fault.ValueFault.{ValueFault}
use Rattle.sample_core.proofs.Behind.{spelled_is}
use Rattle.sample_core.proofs.ValueFound.{Is, value_found, bind_ok, ok_is}
use Rattle.sample_core.proofs.ValueRead.{value_only}

-- a value at the front
pub spells_found : (size : ℕ) (A : TypeTree) (bs : List ℕ) (y : Datum × List ℕ) → value_at size A bs ≡ Ok y → SpellsValue y.0 A bs y.1
spells_found size A bs y e =
    let i : Is A bs y = value_found size A bs y e in
    record { typed = i.typed; spells = i.spells ∙ spelled_is y.0 y.1; apart = i.apart }

pub spells_read : (size : ℕ) (A : TypeTree) (bs : List ℕ) (v : Datum) (rest : List ℕ) → SpellsValue v A bs rest → value_at size A bs ≡ Ok (v, rest)
spells_read size A bs v rest h = ap (value_at size A) (h.spells ∙ sym (spelled_is v rest)) ∙ value_only size v A rest h.typed h.apart

-- how many bytes a value takes
takes : (v : Datum) (bs rest : List ℕ) → bs ≡ spelling v ++ rest → length bs - length rest ≡ length (spelling v)
takes v bs rest e =
    let i : length bs ≡ length (spelling v ++ rest) = ap length e in
    omega (arith, length-append (spelling v) rest)

behind : (v : Datum) (bs rest : List ℕ) → bs ≡ spelling v ++ rest → drop (length (spelling v)) bs ≡ rest
behind v bs rest e = ap (drop (length (spelling v))) e ∙ drop_at (spelling v) rest (length (spelling v)) refl

found : (A : TypeTree) (bs : List ℕ) (v : Datum) (n : ℕ) → reading A bs ≡ Ok (v, n) → (n ≡ length (spelling v)) × SpellsValue v A bs (drop n bs)
unfolding reading
found A bs v n e =
    let a : (x : Datum × List ℕ) × (value_at (length bs) A bs ≡ Ok x)
    × ◌≡◌ {A = Result (Datum × ℕ) ValueFault} (Ok (x.0, length bs - length x.1)) (Ok (v, n)) = bind_ok (value_at (length bs) A bs) _ (v, n) e in
    let s : SpellsValue a.0.0 A bs a.0.1 = spells_found (length bs) A bs a.0 a.1 in
    let p : (a.0.0, length bs - length a.0.1) ≡ (v, n) = ok_is a.2 in
    let t : length bs - length a.0.1 ≡ length (spelling a.0.0) = takes a.0.0 bs a.0.1 s.spells in
    let d : drop (length bs - length a.0.1) bs ≡ a.0.1 = ap (λ k. drop k bs) t ∙ behind a.0.0 bs a.0.1 s.spells in
    subst (λ (q : Datum × ℕ). (q.1 ≡ length (spelling q.0)) × SpellsValue q.0 A bs (drop q.1 bs)) p (t, subst (SpellsValue a.0.0 A bs) (sym d) s)

only : (A : TypeTree) (bs : List ℕ) (v : Datum) (n : ℕ) → (n ≡ length (spelling v)) × SpellsValue v A bs (drop n bs) → reading A bs ≡ Ok (v, n)
unfolding reading
only A bs v n h =
    let r : value_at (length bs) A bs ≡ Ok (v, drop n bs) = spells_read (length bs) A bs v (drop n bs) h.1 in
    let t : length bs - length (drop n bs) ≡ n = takes v bs (drop n bs) h.1.spells ∙ sym h.0 in
    rw r (ap (λ k. Ok (v, k)) t)

pub reading_law : ReadingLaw
reading_law A bs v n = (found A bs v n, only A bs v n)

pub one_value_law : OneValueLaw
one_value_law A bs rest more v w h k =
    let e : ◌≡◌ {A = Result (Datum × List ℕ) ValueFault} (Ok (v, rest)) (Ok (w, more)) = sym (spells_read 0 A bs v rest h) ∙ spells_read 0 A bs w more k in
    let p : (v, rest) ≡ (w, more) = ok_is e in
    (ap (λ (x : Datum × List ℕ). x.0) p, ap (λ (x : Datum × List ℕ). x.1) p)

pub read_again_law : ReadAgainLaw
read_again_law A v rest h e =
    let d : drop (length (spelling v)) (spelling v ++ rest) ≡ rest = behind v (spelling v ++ rest) rest refl in
    only A (spelling v ++ rest) v (length (spelling v))
    (refl, subst (SpellsValue v A (spelling v ++ rest)) (sym d) (record { typed = h; spells = refl; apart = e }))
