use Rattle.std.proofs.Common.{◌≡◌, pos, neg_ℤ, ◌-ℤ◌, ◌++◌, ◌∷◌, get_or, subst, refl, sym, arith, w64, to_z, of_z}
use Rattle.std.specs.Fmt.{decimal}
use Rattle.std.proofs.lemmas.Int.{ints}
use Rattle.sample_core.specs.Datum.{int}
use Rattle.sample_core.specs.SpellsValue.{SpellsValue}
use Rattle.sample_core.specs.TypeTree.{int_ty}
use Rattle.sample_core.proofs.FrontNumber.{behind_minus, plain_spelled, minus_spelled}
use Rattle.sample_core.proofs.front_number.front_number.Goals as goal

pub returns-else-n-eq0-clause-spelled : goal.returns-else-n-eq0-clause-spelled
returns-else-n-eq0-clause-spelled c =
    let z : neg_ℤ (pos c.in_ok-n-in-45.n) ≡ to_z w64 (of_z w64 (pos 0 -ℤ to_z w64 c.in_ok-n-in-45.n)) = omega (arith, ints, c.in_ok-n-in-45.ensures.small) in
    let b : get_or c.args.text.now 0 0 ≡ 45 = omega arith in
    let t : c.args.text.now ≡ 45 ∷ (decimal c.in_ok-n-in-45.n ++ c.in_ok-n-in-45.rest.now) =
    behind_minus c.args.text.now _ b (omega arith) c.in_ok-n-in-45.ensures.spelled in
    let s : SpellsValue (int (neg_ℤ (pos c.in_ok-n-in-45.n))) int_ty (45 ∷ (decimal c.in_ok-n-in-45.n ++ c.in_ok-n-in-45.rest.now)) c.in_ok-n-in-45.rest.now =
    minus_spelled c.in_ok-n-in-45.n _ c.in_ok-n-in-45.rest.now (omega arith) c.in_ok-n-in-45.ensures.small refl c.in_ok-n-in-45.ensures.apart in
    subst (λ x. SpellsValue (int x) int_ty c.args.text.now c.in_ok-n-in-45.rest.now) z
    (subst (λ x. SpellsValue (int (neg_ℤ (pos c.in_ok-n-in-45.n))) int_ty x c.in_ok-n-in-45.rest.now) (sym t) s)

pub returns-in_ok-n-in_default-clause-spelled : goal.returns-in_ok-n-in_default-clause-spelled
returns-in_ok-n-in_default-clause-spelled c =
    let z : pos c.in_ok-n-in_default.n ≡ to_z w64 c.in_ok-n-in_default.n = omega (arith, ints, c.in_ok-n-in_default.ensures.small) in
    subst (λ x. SpellsValue (int x) int_ty c.args.text.now c.in_ok-n-in_default.rest.now) z
    (plain_spelled c.in_ok-n-in_default.n c.args.text.now c.in_ok-n-in_default.rest.now c.in_ok-n-in_default.ensures.small
    c.in_ok-n-in_default.ensures.spelled c.in_ok-n-in_default.ensures.apart)
