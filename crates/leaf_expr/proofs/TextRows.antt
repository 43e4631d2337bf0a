-- Each form of the grammar, read once, and the sugar.
use Rattle.std.proofs.Common.{◌≡◌, refl, Option, Some, None}
use Rattle.std.specs.Prelude.{option_and_then}
use Rattle.sample_core.specs.TypeTree.{TypeTree}
use Rattle.leaf_core.specs.Expression.{Expression, input, pair_expr, fst, snd, then_expr, if_expr, no_event_expr, event_expr, on}
use Rattle.leaf_expr.specs.Language.{meant}
use Rattle.leaf_expr.specs.Grammar.{leaf, type_sort, expression_sort, word_at, production_at, words, productions}
use Rattle.leaf_expr.specs.TextRows.{TypeRows, WordRows, UnaryRows, BinaryRows, LongRows, FaultRows, MergeIs, GateIs, TagIs, AttachIs}

pub type_rows : TypeRows
unfolding word_at words production_at productions
type_rows = (refl, refl, refl, refl, refl, refl)

pub word_rows : WordRows
unfolding word_at words production_at productions
word_rows = (refl, refl, refl, refl, refl, refl, refl)

pub unary_rows : UnaryRows
unfolding word_at words production_at productions
unary_rows = (refl, refl, refl, refl, refl, refl, refl)

pub binary_rows : BinaryRows
unfolding word_at words production_at productions
binary_rows = (refl, refl, refl, refl, refl, refl, refl, refl, refl)

pub long_rows : LongRows
unfolding word_at words production_at productions
long_rows = (refl, refl, refl, refl, refl)

pub fault_rows : FaultRows
unfolding word_at words production_at productions
fault_rows = (refl, refl, refl, refl, refl, refl, refl, refl, refl, refl, refl, refl, refl)

pub merge_is : MergeIs
unfolding word_at words production_at productions
merge_is a b = refl

gate_parts : (T : Option TypeTree) (a b : Option Expression)
    → option_and_then (λ t. option_and_then (λ x. option_and_then (λ y. Some (if_expr y x (no_event_expr t))) b) a) T
    ≡ option_and_then (λ y. option_and_then (λ x. option_and_then (λ z. Some (if_expr y x z)) (option_and_then (λ t. Some (no_event_expr t)) T)) a) b
gate_parts (Some t) (Some x) (Some y) = refl
gate_parts (Some t) (Some x) None = refl
gate_parts (Some t) None (Some y) = refl
gate_parts (Some t) None None = refl
gate_parts None (Some x) (Some y) = refl
gate_parts None (Some x) None = refl
gate_parts None None (Some y) = refl
gate_parts None None None = refl

pub gate_is : GateIs
unfolding word_at words production_at productions
gate_is T a b = gate_parts (meant leaf type_sort T) (meant leaf expression_sort a) (meant leaf expression_sort b)

tag_parts : (T : Option TypeTree) (a c : Option Expression)
    → option_and_then (λ t. option_and_then (λ x. option_and_then (λ y. Some (on x (no_event_expr t) (event_expr (then_expr (fst input) y)))) c) a) T
    ≡ option_and_then
    (λ x.
    option_and_then
    (λ d. option_and_then (λ b. Some (on x d b)) (option_and_then (λ z. Some (event_expr z)) (option_and_then (λ y. Some (then_expr (fst input) y)) c)))
    (option_and_then (λ t. Some (no_event_expr t)) T)) a
tag_parts (Some t) (Some x) (Some y) = refl
tag_parts (Some t) (Some x) None = refl
tag_parts (Some t) None (Some y) = refl
tag_parts (Some t) None None = refl
tag_parts None (Some x) (Some y) = refl
tag_parts None (Some x) None = refl
tag_parts None None (Some y) = refl
tag_parts None None None = refl

pub tag_is : TagIs
unfolding word_at words production_at productions
tag_is T a c = tag_parts (meant leaf type_sort T) (meant leaf expression_sort a) (meant leaf expression_sort c)

attach_parts : (T : Option TypeTree) (a c : Option Expression)
    → option_and_then
    (λ t. option_and_then (λ x. option_and_then (λ y. Some (on x (no_event_expr t) (event_expr (pair_expr (snd input) (then_expr (fst input) y))))) c) a) T
    ≡ option_and_then
    (λ x.
    option_and_then
    (λ d. option_and_then (λ b. Some (on x d b))
    (option_and_then (λ z. Some (event_expr z))
    (option_and_then (λ u. Some (pair_expr (snd input) u)) (option_and_then (λ y. Some (then_expr (fst input) y)) c))))
    (option_and_then (λ t. Some (no_event_expr t)) T)) a
attach_parts (Some t) (Some x) (Some y) = refl
attach_parts (Some t) (Some x) None = refl
attach_parts (Some t) None (Some y) = refl
attach_parts (Some t) None None = refl
attach_parts None (Some x) (Some y) = refl
attach_parts None (Some x) None = refl
attach_parts None None (Some y) = refl
attach_parts None None None = refl

pub attach_is : AttachIs
unfolding word_at words production_at productions
attach_is T a c = attach_parts (meant leaf type_sort T) (meant leaf expression_sort a) (meant leaf expression_sort c)
