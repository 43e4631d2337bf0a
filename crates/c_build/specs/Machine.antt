-- What the machine that makes trees has on its stacks.
use Rattle.std.specs.Prelude.{ℕ, List, map}
use Rattle.c_text.specs.Meant.{scalar_meant, operator_meant, type_meant, term_meant, argument_meant, command_meant}
use Rattle.c_text.specs.declared.tree.Term.{Term}
use Rattle.c_text.specs.declared.tree.Argument.{Argument}
use Rattle.c_text.specs.declared.tree.Command.{Command}
use Rattle.c_meaning.specs.Object.{CType}
use Rattle.c_meaning.specs.Syntax as M
use Rattle.c_meaning.specs.Syntax.{dot, at, binary, inverse, both, either, cast, by_value, by_const, by_pointer, define, refer, answer}
use Rattle.c_meaning.specs.Wrapping.{wrapped}
use Rattle.c_build.specs.declared.sym.Sym.{Sym}
use Rattle.c_build.specs.declared.sym.Sym.TheVariants as S
use Rattle.c_build.specs.Symbols.{Stacks}

-- trees as stacks: terms and commands, the last first, and arguments
abbrev pub stacks_of : List CType → List Term → List Argument → List Command → Stacks
stacks_of Ts es as1 cs = record {
  terms = map (term_meant Ts) es;
  arguments = map (argument_meant Ts) as1;
  commands = map (command_meant Ts) cs;
}

-- the term that a symbol makes of one, of two
abbrev pub of_one : Sym → M.Term → M.Term
of_one (S.Dot k) e = dot e k
of_one (S.Cast T) e = cast (scalar_meant T) e
of_one S.Signed e = wrapped e
of_one _ e = inverse e

abbrev pub of_pair : Sym → M.Term → M.Term → M.Term
of_pair S.At e i = at e i
of_pair (S.Binary o T) a b = binary (operator_meant o) (scalar_meant T) a b
of_pair S.Both a b = both a b
of_pair _ a b = either a b

-- the argument, the command that it makes of a term
abbrev pub passed : Sym → M.Term → M.Argument
passed S.Value e = by_value e
passed S.Const e = by_const e
passed _ e = by_pointer e

abbrev pub line_of : List CType → Sym → M.Term → M.Command
line_of Ts (S.Define T) e = define (type_meant Ts T) e
line_of Ts (S.Refer T) e = refer (type_meant Ts T) e
line_of Ts _ e = answer e
