-- Bytes that are one value are its spelling.
use Rattle.std.proofs.Common.{◌≡◌, ℕ, Bool, true, false, nat_eq, List, [], ◌++◌, length, drop, Result, Ok, Err, refl, sym, ap, ◌∙◌, subst, arith, append-nil, if◌then◌else◌}
use Rattle.std.specs.Prelude.{◌&&◌}
use Rattle.std.proofs.lemmas.Bool.{eqb-true}
use Rattle.std.proofs.lemmas.Bool.Decides.{nat_tests}
use Rattle.std.proofs.lemmas.Grind.{common_steps}
use Rattle.sample_core.specs.Datum.{Datum}
use Rattle.sample_core.specs.HasType.{HasType}
use Rattle.sample_core.specs.Reading.{reading}
use Rattle.sample_core.specs.ReadingLaws.{ReadingLaw}
use Rattle.sample_core.specs.Spelling.{spelling}
use Rattle.sample_core.specs.SpellsValue.{SpellsValue, ends_in_word}
use Rattle.sample_core.specs.TypeTree.{TypeTree}
use Rattle.sample_core.specs.Words.{goes_on}
use Rattle.sample_core.specs.declared.fault.ValueFault.{ValueFault}
use Rattle.sample_core.specs.declared.fault.ValueFault.TheVariants as V
use Rattle.stream_text.specs.StreamText.{if_whole, whole_value}
use Rattle.stream_text.specs.LineLaws.{WholeValueLaw}
use Rattle.stream_text.specs.declared.fault.StreamFault.TheVariants as S

dropped : (bs : List ℕ) (n : ℕ) → n ≡ length bs → drop n bs ≡ []
dropped bs n e = grind (arith, common_steps)

-- bytes that are as long as the spelling in front of them are the spelling
all_spelled : (A : TypeTree) (bs : List ℕ) (v : Datum) (n : ℕ) → n ≡ length bs → SpellsValue v A bs (drop n bs) → bs ≡ spelling v
all_spelled A bs v n e h = h.spells ∙ ap (λ r. spelling v ++ r) (dropped bs n e) ∙ append-nil (spelling v)

read_whole : ReadingLaw → (A : TypeTree) (n : ℕ) (bs : List ℕ) (v : Datum) → whole_value A n bs ≡ Ok v → HasType v A × (bs ≡ spelling v)
read_whole law A n bs v e = go (reading A bs) refl e
  where
    same : (w : Datum) (taken : ℕ) → reading A bs ≡ Ok (w, taken) → (b : Bool) → nat_eq taken (length bs) ≡ b
        → (if b then Ok w else Err (S.Value n (V.NotAValue taken))) ≡ Ok v → HasType v A × (bs ≡ spelling v)
    same w taken r true q h =
        let k = (law A bs w taken).0 r in
        let i : w ≡ v = cc in
        subst (λ u. HasType u A × (bs ≡ spelling u)) i (k.1.typed, all_spelled A bs w taken (eqb-true taken (length bs) q) k.1)
    same w taken r false q h = absurd (cc)

    go : (r : Result (Datum × ℕ) ValueFault) → reading A bs ≡ r → if_whole n (length bs) r ≡ Ok v → HasType v A × (bs ≡ spelling v)
    go (Err f) q h = absurd (cc)
    go (Ok (w, taken)) q h = same w taken q (nat_eq taken (length bs)) refl h

no_more : (b : Bool) → (b && false) ≡ false
no_more true = refl
no_more false = refl

whole_read : ReadingLaw → (A : TypeTree) (n : ℕ) (bs : List ℕ) (v : Datum) → HasType v A → bs ≡ spelling v → whole_value A n bs ≡ Ok v
whole_read law A n bs v t e =
    let long : length (spelling v) ≡ length bs = ap (λ l. length l) (sym e) in
    let none : drop (length (spelling v)) bs ≡ [] = dropped bs (length (spelling v)) long in
    let apart : (ends_in_word v && goes_on []) ≡ false = no_more (ends_in_word v) in
    let spells : SpellsValue v A bs (drop (length (spelling v)) bs) = record {
      typed = t;
      spells = e ∙ sym (ap (λ r. spelling v ++ r) none ∙ append-nil (spelling v));
      apart = ap (λ r. ends_in_word v && goes_on r) none ∙ apart;
    } in
    let r : reading A bs ≡ Ok (v, length (spelling v)) = (law A bs v (length (spelling v))).1 (refl, spells) in
    let same : nat_eq (length (spelling v)) (length bs) ≡ true = grind (arith, nat_tests, long) in
    ap (if_whole n (length bs)) r ∙ ap (λ b. if b then Ok v else Err (S.Value n (V.NotAValue (length (spelling v))))) same

pub whole_values : ReadingLaw → WholeValueLaw
whole_values law A n bs v = (read_whole law A n bs v, λ h. whole_read law A n bs v h.0 h.1)
