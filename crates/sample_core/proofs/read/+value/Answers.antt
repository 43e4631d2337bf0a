use Rattle.std.proofs.Common.{◌≡◌, ◌-◌, ◌∷◌, ◌++◌, [], length, map, ◌≤◌, length-append, arith, sym, ap, ◌∙◌}
use Rattle.std.proofs.lemmas.Grind.{common_steps}
use Rattle.sample_core.specs.Reading.{value_at, elements_at}
use Rattle.sample_core.specs.ValueView.{datum_of}
use Rattle.sample_core.specs.TypeView.{type_of}
use Rattle.sample_core.proofs.ReadSteps.{with_front, front_alone, none_more, one_more, fault_inside}
use Rattle.sample_core.proofs.read.+value.Goals as goal

pub elements-returns-clause-exact : goal.elements-returns-clause-exact
elements-returns-clause-exact t c =
    let n = none_more (value_at c.args.size (type_of c.args.ty.now)) (length c.args.text.now - length c.loop-element.all.items) c.loop-element.rest.now
    c.in_default.ensures in
    sym c.loop-element.invariant.0 ∙ ap (with_front (map datum_of c.loop-element.all.items)) n
    ∙ front_alone (map datum_of c.loop-element.all.items) c.loop-element.rest.now

pub elements-returns-in-Err-clause-exact : goal.elements-returns-in-Err-clause-exact
elements-returns-in-Err-clause-exact t c h =
    let s : c.loop-element.rest.now ≡ 32 ∷ c.in-Some.element.now = c.in-Some.ensures in
    let l : length c.loop-element.rest.now ≡ length (32 ∷ c.in-Some.element.now) = ap length s in
    sym c.loop-element.invariant.0
    ∙ fault_inside (value_at c.args.size (type_of c.args.ty.now)) _ (map datum_of c.loop-element.all.items) c.loop-element.rest.now c.in-Some.element.now
    c.in-Err.fault s (omega arith) (c.in-Err.ensures.exact h)

pub elements-loop-element-preserved : goal.elements-loop-element-preserved
elements-loop-element-preserved t c =
    let s : c.loop-element.rest.now ≡ 32 ∷ c.in-Some.element.now = c.in-Some.ensures in
    let l : length c.loop-element.rest.now ≡ length (32 ∷ c.in-Some.element.now) = ap length s in
    let o = one_more (value_at c.args.size (type_of c.args.ty.now)) (length c.args.text.now - length c.loop-element.all.items)
    (map datum_of c.loop-element.all.items) c.loop-element.rest.now c.in-Some.element.now c.in-Ok.after.now (datum_of c.value.new.place) s
    (omega arith) c.in-Ok.ensures.exact in
    let i = c.in_ok-push-in-Ok.ensures.items in
    let k : length c.args.text.now - length c.loop-element.all.items - 1 ≡ length c.args.text.now - length c.push.new.self.items =
    omega (arith, simp length-append at (ap length i)) in
    let m : map datum_of c.push.new.self.items ≡ map datum_of c.loop-element.all.items ++ datum_of c.value.new.place
    ∷ [] = grind (arith, common_steps, i) in (
      ap (λ vs.
          with_front vs
          (elements_at (value_at c.args.size (type_of c.args.ty.now)) (length c.args.text.now - length c.push.new.self.items) c.in-Ok.after.now)) m
          ∙ ap
          (λ n. with_front (map datum_of c.loop-element.all.items ++ datum_of c.value.new.place ∷ [])
          (elements_at (value_at c.args.size (type_of c.args.ty.now)) n c.in-Ok.after.now)) (sym k) ∙ sym o ∙ c.loop-element.invariant.0,
      let n : length c.in-Ok.after.now ≤ length c.in-Some.element.now = c.in-Ok.ensures.shorter in
          omega (arith, simp length-append at (ap length i)),
    )
