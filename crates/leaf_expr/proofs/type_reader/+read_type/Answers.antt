use Rattle.std.proofs.Common.{refl}
use Rattle.sample_core.specs.TypeTree.{event_ty, list_ty}
use Rattle.leaf_expr.specs.Grammar.{leaf, type_sort}
use Rattle.leaf_expr.specs.Language.{no_place, place}
use Rattle.leaf_expr.proofs.FrontSteps.{in_form}
use Rattle.leaf_expr.proofs.ReadSteps.{told}
use Rattle.leaf_expr.proofs.PartSteps.{parts_made, parts_refused}
use Rattle.leaf_expr.proofs.type_reader.+read_type.Goals as goal

pub read_type-returns-in-Form : goal.read_type-returns-in-Form
read_type-returns-in-Form t c = in_form leaf type_sort _ _ _ _ _ refl c.in-Form.is c.in_ok-start.ensures.front c.type_form.ensures

pub type_parts-returns-in-Pair : goal.type_parts-returns-in-Pair
type_parts-returns-in-Pair t c = rw c.in-Pair.is c.pair_type.ensures

pub type_parts-returns-in_ok-a-in-Event : goal.type_parts-returns-in_ok-a-in-Event
type_parts-returns-in_ok-a-in-Event t c = rw c.in-Event.is (parts_made leaf _ _ event_ty (place type_sort no_place) (λ a. a) _ c.in_ok-a-in-Event.ensures)

pub type_parts-returns-in_ok-a-in-List : goal.type_parts-returns-in_ok-a-in-List
type_parts-returns-in_ok-a-in-List t c = rw c.in-List.is (parts_made leaf _ _ list_ty (place type_sort no_place) (λ a. a) _ c.in_ok-a-in-List.ensures)

pub type_parts-returns-in_err-a-in-Event : goal.type_parts-returns-in_err-a-in-Event
type_parts-returns-in_err-a-in-Event t c =
    rw c.in-Event.is
    (told _ _ _ _ c.from_residual.ensures.1
    (parts_refused leaf _ _ event_ty _ (place type_sort no_place) (λ a. a) _ c.in_err-a-in-Event.ensures))

pub type_parts-returns-in_err-a-in-List : goal.type_parts-returns-in_err-a-in-List
type_parts-returns-in_err-a-in-List t c =
    rw c.in-List.is
    (told _ _ _ _ c.from_residual-in_err-a-in-List.ensures.1
    (parts_refused leaf _ _ list_ty _ (place type_sort no_place) (λ a. a) _ c.in_err-a-in-List.ensures))
