-- What the code of a network outputs.
use Rattle.std.specs.Prelude.{◌≡◌, false, List, []}
use Rattle.sample_core.specs.Datum.{Datum}
use Rattle.sample_core.specs.TypeTree.{TypeTree}
use Rattle.leaf_core.specs.ExpressionValue.{value_of}
use Rattle.leaf_core.specs.ExpressionView.{expression_of}
use Rattle.leaf_core.specs.declared.expr.Expr.{Expr}
use Rattle.leaf_code.specs.Running.{leaf_value}
use Rattle.leaf_code.specs.CodeOf.{leaf_code}
use Rattle.net_tree.specs.Network.{Network}
use Rattle.net_tree.specs.NetworkView.{tree}
use Rattle.net_meaning.specs.SignalFunction.{TimedList}
use Rattle.net_meaning.specs.TypedNetwork.{NetTyped, stream_of}
use Rattle.net_machine.specs.Store.{Store}
use Rattle.net_machine.specs.Stepper.{run}
use Rattle.net_machine.specs.Machine.{machine, empty}
use Rattle.net_code.specs.Running.{run_code}
use Rattle.net_code.specs.CodeOf.{code_of}

-- the value of an expression in code
abbrev pub value_in : Expr → List Datum → Datum → Datum
value_in e = value_of (expression_of e)

-- the code of a network answers what the network's machine does, from the same store
abbrev pub CodeMachineLaw : Type 0
CodeMachineLaw = (net : Network Expr) (s : Store) (xs : TimedList)
    → run_code value_in (code_of net) s xs ≡ run (machine value_of (tree net) empty) false s xs

-- the code of a typed network outputs, on any samples and from whatever is kept at the start, the
-- network's stream
abbrev pub CodeLaw : Type 0
CodeLaw = (net : Network Expr) (A B : TypeTree) → NetTyped [] [] (tree net) A B
    → (s : Store) (xs : TimedList) → run_code value_in (code_of net) s xs ≡ stream_of (tree net) xs

-- what the code of an expression computes, which is compiled under some types of the parameters and
-- of the input
abbrev pub leaf_in : (Expr → List TypeTree × TypeTree) → Expr → List Datum → Datum → Datum
leaf_in types e = leaf_value (leaf_code (types e).0 (types e).1 (expression_of e))

-- the same where each expression is its code
abbrev pub LeafCodeLaw : Type 0
LeafCodeLaw = (types : Expr → List TypeTree × TypeTree) (net : Network Expr) (A B : TypeTree)
    → NetTyped [] [] (tree net) A B → (s : Store) (xs : TimedList)
    → run_code (leaf_in types) (code_of net) s xs ≡ stream_of (tree net) xs
