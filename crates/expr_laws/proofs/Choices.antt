-- What choices, truth values and events come to.
use Rattle.std.proofs.Common.{◌≡◌, Bool, true, false, not, ◌&&◌, ◌||◌, refl}
use Rattle.sample_core.specs.Datum.{Datum, pair, bool, no_event, event, right}
use Rattle.sample_core.specs.TypeTree.{TypeTree, bool_ty, event_ty}
use Rattle.sample_core.specs.HasType.{HasType, bool_has, no_event_has, event_has}
use Rattle.leaf_core.specs.ExpressionValue.{choose, is_true, on_event}

-- a truth value is one
pub truth : {v : Datum} → HasType v bool_ty → bool (is_true v) ≡ v
truth bool_has = refl

-- what is made of a choice is a choice
pub choice_of : (f : Datum → Datum) (t : Bool) (v w : Datum) → f (choose t v w) ≡ choose t (f v) (f w)
choice_of f true v w = refl
choice_of f false v w = refl

pub same_choice : (b : Bool) (v : Datum) → choose b v v ≡ v
same_choice true v = refl
same_choice false v = refl

pub other_choice : (t : Bool) (v w : Datum) → choose (not t) v w ≡ choose t w v
other_choice true v w = refl
other_choice false v w = refl

pub first_again : (t : Bool) (u v w : Datum) → choose t (choose t u v) w ≡ choose t u w
first_again true u v w = refl
first_again false u v w = refl

pub second_again : (t : Bool) (u v w : Datum) → choose t u (choose t v w) ≡ choose t u w
second_again true u v w = refl
second_again false u v w = refl

pub truth_chosen : (t : Bool) → choose t (bool true) (bool false) ≡ bool t
truth_chosen true = refl
truth_chosen false = refl

pub and_chosen : (t : Bool) {v : Datum} → HasType v bool_ty → bool (t && is_true v) ≡ choose t v (bool false)
and_chosen true h = truth h
and_chosen false h = refl

pub or_chosen : (t : Bool) {v : Datum} → HasType v bool_ty → bool (t || is_true v) ≡ choose t (bool true) v
or_chosen true h = refl
or_chosen false h = truth h

pub and_itself : (p : Bool) → (p && p) ≡ p
and_itself true = refl
and_itself false = refl

pub or_itself : (p : Bool) → (p || p) ≡ p
or_itself true = refl
or_itself false = refl

pub and_grouped : (p q r : Bool) → ((p && q) && r) ≡ (p && (q && r))
and_grouped true q r = refl
and_grouped false q r = refl

pub or_grouped : (p q r : Bool) → ((p || q) || r) ≡ (p || (q || r))
or_grouped true q r = refl
or_grouped false q r = refl

pub and_not : (p : Bool) → (p && not p) ≡ false
and_not true = refl
and_not false = refl

pub or_not : (p : Bool) → (p || not p) ≡ true
or_not true = refl
or_not false = refl

pub not_and : (p q : Bool) → not (p && q) ≡ (not p || not q)
not_and true q = refl
not_and false q = refl

pub not_or : (p q : Bool) → not (p || q) ≡ (not p && not q)
not_or true q = refl
not_or false q = refl

pub and_over_or : (p q r : Bool) → (p && (q || r)) ≡ ((p && q) || (p && r))
and_over_or true q r = refl
and_over_or false q r = refl

-- what is made of the answer to an event is an answer
pub answer_of : (f : Datum → Datum) (v d : Datum) (b : Datum → Datum) → f (on_event v d b) ≡ on_event v (f d) (λ u. f (b u))
answer_of f (event v) d b = refl
answer_of f _ d b = refl

-- an answer that is an event itself
pub answer_to_answer : (v d g : Datum) (b h : Datum → Datum) → on_event (on_event v d b) g h ≡ on_event v (on_event d g h) (λ u. on_event (b u) g h)
answer_to_answer (event v) d g b h = refl
answer_to_answer _ d g b h = refl

pub same_event : {v : Datum} {T : TypeTree} (x : Datum) → HasType v (event_ty T) → on_event v no_event (λ u. event (right (pair x u))) ≡ v
same_event x no_event_has = refl
same_event x (event_has h) = refl

pub same_answer : (v d : Datum) → on_event v d (λ u. d) ≡ d
same_answer (event v) d = refl
same_answer _ d = refl
