-- The lines of an expression's code, by what they stand under.
use Rattle.std.specs.Prelude.{ℕ, ◌+◌, Bool, false, if◌then◌else◌, List, map, length}
use Rattle.sample_core.specs.TypeTree.{TypeTree}
use Rattle.sample_core.specs.TypeView.{type_of}
use Rattle.leaf_code.specs.Operation.{Operation}
use Rattle.leaf_code.specs.declared.operation.Operation as V
use Rattle.leaf_code.specs.declared.operation.Operation.TheVariants as Q
use Rattle.leaf_code.specs.declared.operation.Step as V'
use Rattle.leaf_code.specs.Running.{Step}
use Rattle.leaf_code.specs.CodeOf.{type_at}
use Rattle.leaf_code.specs.CodeView.{operation_of, steps_in}
use Rattle.c_meaning.specs.Syntax.{Term, local, Command, sequence, define, refer, answer}
use Rattle.c_leaf.specs.LeafC.{is_struct, operation_term, step_command, steps_command}
use Rattle.c_leaf.specs.Representing.{c_type}
use Rattle.c_file.specs.Compared.{number_among}
use Rattle.c_build.specs.declared.operation.Lines.{Lines}
use Rattle.c_build.specs.declared.frame.Frame.{Frame}
use Rattle.c_text.specs.Meant.{structs_meant}
use Rattle.c_build.specs.declared.types.Known.{Known}
use Rattle.c_build.specs.Scopes.{table}
use Rattle.c_build.specs.Types.{Typed}
use Rattle.c_build.specs.Frames.{bounds_in}

-- the types of C that are known are those of the program's types
abbrev pub IsKnown : Known → Type 0
IsKnown k = Typed (structs_meant k.table.structs.now) k.types.now k.bounds.now k.all.now

-- the types of C of a frame are those of the program's types
abbrev pub IsTyped : Frame → Type 0
IsTyped f = Typed (table f.scope) f.types.now f.bounds.now f.all.now

-- the local that is register k, and the register's type
abbrev pub local_at : Lines → ℕ → ℕ
local_at l k = length l.frame.scope.params.now + k

abbrev pub register_at : Lines → ℕ → TypeTree
register_at l k = type_at (type_of l.input.now) (steps_in l.steps.now) k

-- the numbers of the functions that compare
abbrev pub compared_in : Lines → TypeTree → ℕ
compared_in l = number_among (map type_of l.compared.now)

-- what a register of a type is defined as; the line of a step, and of steps
abbrev pub operation_at : Lines → TypeTree → Operation → Term
operation_at l T o =
    operation_term (bounds_in l.frame) (compared_in l) (length l.frame.scope.params.now) (register_at l) T o

abbrev pub step_at : Lines → Step → Command
step_at l s =
    step_command (bounds_in l.frame) (compared_in l) (length l.frame.scope.params.now) (register_at l) s.ty
    s.operation

-- whether a step's local is a pointer to a part; the line of a step that calls nothing
abbrev pub is_reference : TypeTree → V.Operation → Bool
is_reference T (Q.Left j) = is_struct T
is_reference T (Q.Right j) = is_struct T
is_reference T o = false

abbrev pub plain_at : Lines → V'.Step → Command
plain_at l s =
    let e : Term = operation_at l (type_of s.ty) (operation_of s.operation) in
    if is_reference (type_of s.ty) s.operation then refer (c_type (bounds_in l.frame) (type_of s.ty)) e
    else define (c_type (bounds_in l.frame) (type_of s.ty)) e

abbrev pub steps_at : Lines → List Step → Command
steps_at l ss =
    steps_command (bounds_in l.frame) (compared_in l) (length l.frame.scope.params.now) (register_at l) ss

-- the lines of all steps, which answer a register
abbrev pub leaf_at : Lines → ℕ → Command
leaf_at l k =
    sequence (steps_at l (steps_in l.steps.now)) (answer (local (local_at l k)))

-- registers as terms
abbrev pub registers_at : Lines → List ℕ → List Term
registers_at l ks = map (λ k. local (local_at l k)) ks
