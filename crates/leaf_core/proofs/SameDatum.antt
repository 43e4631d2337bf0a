-- `same_datum` is equality.
use Rattle.std.proofs.Common.{◌≡◌, Bool, true, false, ◌&&◌, refl, ap, ◌∙◌, subst, Decides, ◌↔◌, IsTrue}
use Rattle.std.specs.Cmp.{booleans_Decides}
use Rattle.std.proofs.lemmas.Bool.Decides.{Decides-int_eq, same_from_decides}
use Rattle.sample_core.specs.Datum.{Datum, Datums, unit, bool, int, pair, no_event, event, list, end, more}
use Rattle.sample_core.proofs.Numbers.{parts_of}
use Rattle.leaf_core.specs.ExpressionValue.{same_datum, same_datums}

pub false_is_not_true : {P : Type 0} → false ≡ true → P
false_is_not_true e = absurd (cc)

mutual
  pub same_datum-refl : (v : Datum) → same_datum v v ≡ true
  same_datum-refl unit = refl
  same_datum-refl (bool b) = (booleans_Decides b b).1 refl
  same_datum-refl (int n) = (Decides-int_eq n n).1 refl
  same_datum-refl (pair v w) = ap (λ t. t && same_datum w w) (same_datum-refl v) ∙ same_datum-refl w
  same_datum-refl no_event = refl
  same_datum-refl (event v) = same_datum-refl v
  same_datum-refl (list vs) = same_datums-refl vs

  pub same_datums-refl : (vs : Datums) → same_datums vs vs ≡ true
  same_datums-refl end = refl
  same_datums-refl (more v vs) = ap (λ t. t && same_datums vs vs) (same_datum-refl v) ∙ same_datums-refl vs

mutual
  pub same_datum-true : (v w : Datum) → same_datum v w ≡ true → v ≡ w
  same_datum-true unit unit e = refl
  same_datum-true (bool a) (bool b) e = ap bool ((booleans_Decides a b).0 e)
  same_datum-true (int m) (int n) e = ap int ((Decides-int_eq m n).0 e)
  same_datum-true (pair a b) (pair c d) e =
      let h = parts_of (same_datum a c) (same_datum b d) e in
      ap (λ t. pair t b) (same_datum-true a c h.0) ∙ ap (λ t. pair c t) (same_datum-true b d h.1)
  same_datum-true no_event no_event e = refl
  same_datum-true (event a) (event b) e = ap event (same_datum-true a b e)
  same_datum-true (list as1) (list bs) e = ap list (same_datums-true as1 bs e)
  same_datum-true _ _ e = false_is_not_true e

  pub same_datums-true : (vs ws : Datums) → same_datums vs ws ≡ true → vs ≡ ws
  same_datums-true end end e = refl
  same_datums-true (more a as1) (more b bs) e =
      let h = parts_of (same_datum a b) (same_datums as1 bs) e in
      ap (λ t. more t as1) (same_datum-true a b h.0) ∙ ap (λ t. more b t) (same_datums-true as1 bs h.1)
  same_datums-true _ _ e = false_is_not_true e

pub Decides-same_datum : (v w : Datum) → Decides (same_datum v w) (v ≡ w)
Decides-same_datum v w = (same_datum-true v w, λ e. subst (λ t. same_datum v t ≡ true) e (same_datum-refl v))

pub same_datum_law : (v w : Datum) → IsTrue (same_datum v w) ↔ (v ≡ w)
same_datum_law v w = Decides-same_datum v w

-- a test that is true exactly where two values are equal answers as `same_datum` does
pub as_same_datum : (b : Bool) (v w : Datum) → IsTrue b ↔ (v ≡ w) → b ≡ same_datum v w
as_same_datum b v w h = same_from_decides b (same_datum v w) h (Decides-same_datum v w)
