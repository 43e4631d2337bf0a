use Rattle.std.proofs.Common.{◌≡◌, drop, List}
use Rattle.c_meaning.specs.Object.{CType}
use Rattle.c_build.specs.Symbols.{run, built}
use Rattle.c_build.specs.Machine.{stacks_of}
use Rattle.c_build.proofs.machine.assemble.Given as goal

-- what is made, with the symbols to come, is the whole
abbrev pub invariant-loop-sym : goal.invariant-loop-sym
invariant-loop-sym l =
    (Ts : List CType)
    → run Ts (stacks_of Ts l.machine.terms l.machine.arguments.items l.machine.commands)
    (drop l.sym-index l.syms)
    ≡ built Ts l.syms
