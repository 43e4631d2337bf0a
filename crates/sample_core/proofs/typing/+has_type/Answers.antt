use Rattle.std.proofs.Common.{◌+◌, drop, map, arith}
use Rattle.std.proofs.lemmas.Grind.{common_steps}
use Rattle.sample_core.specs.Datum.{list_of, end}
use Rattle.sample_core.specs.HasType.{HaveType, end_has}
use Rattle.sample_core.specs.ValueView.{datum_of}
use Rattle.sample_core.proofs.Elements.{element_smaller, elements_from}
use Rattle.sample_core.proofs.HasTypeCases.{more_is, event_is, list_is}
use Rattle.sample_core.proofs.typing.+has_type.Goals as goal

pub have_type-has_type-requires : goal.have_type-has_type-requires
have_type-has_type-requires t c =
    let e = element_smaller c.as_slice-v-items.result.now c.loop-v.v-index c.v-item.result (omega arith) in
    grind (arith, common_steps, e)

pub have_type-returns-then-not-has_type : goal.have_type-returns-then-not-has_type
have_type-returns-then-not-has_type t c =
    let e = elements_from c.as_slice-v-items.result.now c.loop-v.v-index c.v-item.result (omega arith) c.v-item.is in
    let m = more_is (datum_of c.v-item.result) (list_of (map datum_of (drop (c.loop-v.v-index + 1) c.as_slice-v-items.result.now))) c.args.a.now in
    grind (arith, common_steps, e, m)

pub have_type-loop-v-preserved : goal.have_type-loop-v-preserved
have_type-loop-v-preserved t c =
    let e = elements_from c.as_slice-v-items.result.now c.loop-v.v-index c.v-item.result (omega arith) c.v-item.is in
    let m = more_is (datum_of c.v-item.result) (list_of (map datum_of (drop (c.loop-v.v-index + 1) c.as_slice-v-items.result.now))) c.args.a.now in
    grind (arith, common_steps, e, m)

pub have_type-returns : goal.have_type-returns
have_type-returns t c =
    let n : HaveType end c.args.a.now = end_has in
    grind (arith, common_steps, n)

pub have_type-loop-v-init : goal.have_type-loop-v-init
have_type-loop-v-init t c = grind (arith, common_steps)

pub has_type-returns-in-List-List : goal.has_type-returns-in-List-List
has_type-returns-in-List-List t c = grind (arith, common_steps, list_is)

pub has_type-returns-in-Event-Event : goal.has_type-returns-in-Event-Event
has_type-returns-in-Event-Event t c = grind (arith, common_steps, event_is)
