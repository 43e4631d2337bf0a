-- Reading is refused exactly where the bytes lead to the fault.
use Rattle.std.proofs.Common.{◌≡◌, ◌⊎◌, inl, inr, ℕ, ◌-◌, List, length, drop, refl, sym, ap, ◌∙◌, Result, Ok, Err}
use Rattle.sample_core.specs.Datum.{Datum}
use Rattle.sample_core.specs.TypeTree.{TypeTree}
use Rattle.sample_core.specs.Answer.{◌>>=◌}
use Rattle.sample_core.specs.Reading.{value_at, reading}
use Rattle.sample_core.specs.Faults.{FirstFault}
use Rattle.sample_core.specs.ReadingLaws.{FaultLaw, NoValueLaw}
use Rattle.sample_core.specs.SpellsValue.{SpellsValue}
use Rattle.sample_core.specs.Spelling.{spelling}
use Rattle.sample_core.proofs.ReadingIs.{reading_law, spells_read}
use Rattle.sample_core.specs.declared.fault.ValueFault.{ValueFault}
use Rattle.sample_core.proofs.FaultFound.{Fails, fault_found, bind_err, no_err}
use Rattle.sample_core.proofs.FaultRead.{fault_read}

refused : (A : TypeTree) (bs : List ℕ) (f : ValueFault) → reading A bs ≡ Err f → FirstFault A bs f
unfolding reading
refused A bs f e = go (bind_err (value_at (length bs) A bs) _ f e)
  where
    go : ((value_at (length bs) A bs ≡ Err f)
        ⊎ ((x : Datum × List ℕ) × (value_at (length bs) A bs ≡ Ok x) × ◌≡◌ {A = Result (Datum × ℕ) ValueFault} (Ok (x.0, length bs - length x.1)) (Err f)))
        → FirstFault A bs f
    go (inl q) = let i : Fails (length bs) A bs f = fault_found (length bs) A bs f q in
        record { wanted = i.wanted; rest = i.rest; leads = i.leads; wrong = i.wrongs }
    go (inr q) = absurd (no_err q.2)

refuses : (A : TypeTree) (bs : List ℕ) (f : ValueFault) → FirstFault A bs f → reading A bs ≡ Err f
unfolding reading
refuses A bs f h =
    let i : value_at (length bs) A bs ≡ Err f = fault_read (length bs) A bs h.wanted h.rest f h.leads h.wrong in
    ap (λ r. r >>= (λ x. Ok (x.0, length bs - length x.1))) i

pub fault_law : FaultLaw
fault_law A bs f = (refused A bs f, refuses A bs f)

-- a reading is a value or a fault
reads_or_not : (A : TypeTree) (bs : List ℕ) (r : Result (Datum × ℕ) ValueFault) → reading A bs ≡ r → ((v : Datum) (rest : List ℕ) → SpellsValue v A bs rest → ⊥)
    → (f : ValueFault) × (reading A bs ≡ Err f)
reads_or_not A bs (Ok x) e h = let s : (x.1 ≡ length (spelling x.0)) × SpellsValue x.0 A bs (drop x.1 bs) = (reading_law A bs x.0 x.1).0 e in
    absurd (h x.0 (drop x.1 bs) s.1)
reads_or_not A bs (Err f) e h = (f, e)

none_spelled : (A : TypeTree) (bs : List ℕ) (f : ValueFault) → reading A bs ≡ Err f → (v : Datum) (rest : List ℕ) → SpellsValue v A bs rest → ⊥
unfolding reading
none_spelled A bs f e v rest s =
    let r : value_at (length bs) A bs ≡ Ok (v, rest) = spells_read (length bs) A bs v rest s in
    let k : ◌≡◌ {A = Result (Datum × ℕ) ValueFault} (Ok (v, length bs - length rest)) (Err f) = ap (λ q. q >>= (λ x. Ok (x.0, length bs - length x.1))) (sym r)
    ∙ e in
    no_err k

pub no_value_law : NoValueLaw
no_value_law A bs = (λ h. none_spelled A bs h.0 h.1, reads_or_not A bs (reading A bs) refl)
