use Rattle.std.proofs.Common.{◌≡◌, ℕ, ◌+◌, List, ◌∷◌, sym, subst, arith}
use Rattle.std.proofs.lemmas.Result.{on_ok_weaker}
use Rattle.sample_core.specs.Datum.{Datum}
use Rattle.sample_core.specs.ValueView.{datum_of}
use Rattle.cell_core.specs.Cell.{Cell}
use Rattle.cell_core.specs.CellView.{outcome_of}
use Rattle.cell_core.specs.Queue.{IsPassed}
use Rattle.cell_core.specs.Earlier.{back_of}
use Rattle.cell_core.specs.Delays.{front_of, out_in, IsJoined}
use Rattle.cell_core.specs.declared.behind.Behind.{Behind}
use Rattle.cell_core.specs.declared.front.Front.{Front}
use Rattle.cell_core.proofs.Queues.{moved_on}
use Rattle.cell_core.proofs.queue.step.Goals as goal

-- what is read through a reference is what it leads to
read_through : (f g : Front) (n : Behind) (from dt r : ℕ) → f ≡ g → from ≡ out_in f n → IsPassed (front_of f) n.passed.age dt from r
    → IsPassed (front_of g) n.passed.age dt (out_in g n) r
read_through f g n from dt r front is p =
    subst (λ k. IsPassed (front_of k) n.passed.age dt (out_in k n) r) front (subst (λ i. IsPassed (front_of f) n.passed.age dt i r) is p)

-- the same with a front that is the same
joined_there : (f g : Front) (age at : ℕ) (back : List (ℕ × Datum)) (r : Cell × Datum) → f ≡ g → IsJoined f age at back r → IsJoined g age at back r
joined_there f g age at back r is h = subst (λ k. IsJoined k age at back r) is h

pub returns : goal.returns
returns c =
    on_ok_weaker c.joined.result
    (λ h. sym (moved_on c.args.front.now.value.q c.args.arrival.dt c.args.arrival.behind.now.passed.age (out_in c.args.front.now.value c.args.arrival.behind.now)
    c.passed-at.result (front_of c.args.front.now.value) (back_of c.args.arrival.behind.now) (datum_of c.args.arrival.sample.now) _
    (read_through c.deref-ahead.result.now c.args.front.now.value c.args.arrival.behind.now c.within-from.result c.args.arrival.dt c.passed-at.result
    c.deref-ahead.ensures c.within-from.ensures.is c.passed-at.ensures)
    (omega (arith, c.if-at-eq0.false))
    (joined_there c.in_ok-front.front.value c.args.front.now.value (c.args.arrival.behind.now.passed.age + c.args.arrival.dt) c.passed-at.result
    ((c.args.arrival.dt, datum_of c.args.arrival.sample.now) ∷ back_of c.args.arrival.behind.now) (outcome_of (c.joined.new.place, c.joined.new.out))
    c.in_ok-front.ensures.cases h)))
    c.joined.ensures
