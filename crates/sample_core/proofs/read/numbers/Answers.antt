use Rattle.std.proofs.Common.{◌≡◌, ◌≢◌, Err, ◌-◌, ◌∷◌, ◌++◌, [], length, map, ◌≤◌, length-append, rules, arith, sym, ap, ◌∙◌}
use Rattle.std.proofs.lemmas.Grind.{common_steps}
use Rattle.sample_core.specs.Reading.{value_at, elements_at}
use Rattle.sample_core.specs.declared.fault.ValueFault.TheVariants.{Memory}
use Rattle.sample_core.specs.ValueView.{datum_of}
use Rattle.sample_core.specs.Datum.{int}
use Rattle.sample_core.specs.TypeTree.{int_ty}
use Rattle.sample_core.proofs.ReadSteps.{with_front, front_alone, none_more, one_more, fault_inside}
use Rattle.sample_core.proofs.read.numbers.Goals as goal

pub returns-clause-exact : goal.returns-clause-exact
returns-clause-exact c =
    let n = none_more (value_at c.args.size int_ty) (length c.args.text.now - length c.loop-element.all.items) c.loop-element.rest.now
    c.in_default.ensures in
    sym c.loop-element.invariant.0 ∙ ap (with_front (map datum_of c.loop-element.all.items)) n
    ∙ front_alone (map datum_of c.loop-element.all.items) c.loop-element.rest.now

pub returns-in_err-n-clause-exact : goal.returns-in_err-n-clause-exact
returns-in_err-n-clause-exact c =
    let s : c.loop-element.rest.now ≡ 32 ∷ c.in-Some.element.now = c.in-Some.ensures in
    let l : length c.loop-element.rest.now ≡ length (32 ∷ c.in-Some.element.now) = ap length s in
    let o : c.in_err-n.field-0.0 ≢ Memory
    → elements_at (value_at c.args.size int_ty) (length c.args.text.now) c.args.text.now ≡ Err c.in_err-n.field-0.0 =
    λ h. sym c.loop-element.invariant.0
    ∙ fault_inside (value_at c.args.size int_ty) _ (map datum_of c.loop-element.all.items) c.loop-element.rest.now c.in-Some.element.now
    c.in_err-n.field-0.0 s (omega arith) (c.in_err-n.ensures.exact h) in
    first_of (search (rules, o), grind (arith, common_steps, o))

pub loop-element-preserved : goal.loop-element-preserved
loop-element-preserved c =
    let s : c.loop-element.rest.now ≡ 32 ∷ c.in-Some.element.now = c.in-Some.ensures in
    let l : length c.loop-element.rest.now ≡ length (32 ∷ c.in-Some.element.now) = ap length s in
    let o = one_more (value_at c.args.size int_ty) (length c.args.text.now - length c.loop-element.all.items)
    (map datum_of c.loop-element.all.items) c.loop-element.rest.now c.in-Some.element.now c.in_ok-n.after.now (int c.in_ok-n.n) s
    (omega arith) c.in_ok-n.ensures.exact in
    let i = c.in_ok-push.ensures.items in
    let k : length c.args.text.now - length c.loop-element.all.items - 1 ≡ length c.args.text.now - length c.push.new.self.items =
    omega (arith, simp length-append at (ap length i)) in
    let m : map datum_of c.push.new.self.items ≡ map datum_of c.loop-element.all.items ++ int c.in_ok-n.n
    ∷ [] = grind (arith, common_steps, i) in (
      ap (λ vs.
          with_front vs
          (elements_at (value_at c.args.size int_ty) (length c.args.text.now - length c.push.new.self.items) c.in_ok-n.after.now)) m
          ∙ ap
          (λ n. with_front (map datum_of c.loop-element.all.items ++ int c.in_ok-n.n ∷ [])
          (elements_at (value_at c.args.size int_ty) n c.in_ok-n.after.now)) (sym k) ∙ sym o ∙ c.loop-element.invariant.0,
      let n : length c.in_ok-n.after.now ≤ length c.in-Some.element.now = c.in_ok-n.ensures.shorter in
          omega (arith, simp length-append at (ap length i)),
    )
