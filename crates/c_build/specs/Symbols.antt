-- What symbols build: terms and commands of C, each in postfix order.
use Rattle.std.specs.Prelude.{ℕ, zero, suc, List, [], ◌∷◌, ◌++◌, drop}
use Rattle.c_text.specs.Meant.{scalar_meant, operator_meant, literal_meant, type_meant, tail_meant}
use Rattle.c_meaning.specs.Object.{CType}
use Rattle.c_meaning.specs.Syntax.{Term, local, dot, at, zeroed, none, braced, binary, inverse, both, either, choice, cast, Argument, by_value, by_const, by_pointer, Command, skip, sequence, declare, define, refer, assign, call, branch, loop, answer}
use Rattle.c_meaning.specs.Wrapping.{wrapped}
use Rattle.c_build.specs.declared.sym.Sym.{Sym}
use Rattle.c_build.specs.declared.sym.Sym.TheVariants as S

-- what is built: terms and commands, the last first; the arguments of a call, in order
pub record Stacks : Type 0 where
  pub terms : List Term
  pub arguments : List Argument
  pub commands : List Command

-- nothing yet
abbrev pub empty : Stacks
empty = record { terms = []; arguments = []; commands = [] }

-- the term on top, and those below it; where there is none, `none`
abbrev pub top_term : List Term → Term
top_term [] = none
top_term (e ∷ es) = e

abbrev pub below : {A : Type 0} → List A → List A
below [] = []
below (x ∷ xs) = xs

-- the same of commands
abbrev pub top_command : List Command → Command
top_command [] = skip
top_command (c ∷ cs) = c

-- with a term, arguments, a command more. No argument outlives a command
abbrev pub and_term : Term → Stacks → Stacks
and_term e s = record { terms = e ∷ s.terms; arguments = s.arguments; commands = s.commands }

abbrev pub and_arguments : List Argument → Stacks → Stacks
and_arguments as1 s =
    record { terms = s.terms; arguments = s.arguments ++ as1; commands = s.commands }

abbrev pub and_command : Command → Stacks → Stacks
and_command c s = record { terms = s.terms; arguments = []; commands = c ∷ s.commands }

-- a term, an argument, a command made of the term on top
abbrev pub of_term : (Term → Term) → Stacks → Stacks
of_term f s = record {
  terms = f (top_term s.terms) ∷ below s.terms;
  arguments = s.arguments;
  commands = s.commands;
}

abbrev pub of_argument : (Term → Argument) → Stacks → Stacks
of_argument f s = record {
  terms = below s.terms;
  arguments = s.arguments ++ f (top_term s.terms) ∷ [];
  commands = s.commands;
}

abbrev pub of_line : (Term → Command) → Stacks → Stacks
of_line f s = record {
  terms = below s.terms;
  arguments = [];
  commands = f (top_term s.terms) ∷ s.commands;
}

-- a term, a command made of the two terms on top, the last behind the other
abbrev pub of_two : (Term → Term → Term) → Stacks → Stacks
of_two f s = record {
  terms = f (top_term (below s.terms)) (top_term s.terms) ∷ below (below s.terms);
  arguments = s.arguments;
  commands = s.commands;
}

abbrev pub of_two_line : (Term → Term → Command) → Stacks → Stacks
of_two_line f s = record {
  terms = below (below s.terms);
  arguments = [];
  commands = f (top_term (below s.terms)) (top_term s.terms) ∷ s.commands;
}

-- a term made of three
abbrev pub of_three : (Term → Term → Term → Term) → Stacks → Stacks
of_three f s = record {
  terms = f (top_term (below (below s.terms))) (top_term (below s.terms)) (top_term s.terms)
      ∷ below (below (below s.terms));
  arguments = s.arguments;
  commands = s.commands;
}

-- so many terms in braces, the last first, before this
abbrev pub in_braces : Term → ℕ → List Term → Term
in_braces t zero es = t
in_braces t (suc m) [] = t
in_braces t (suc m) (e ∷ es) = in_braces (braced e t) m es

-- so many commands, the last first, before this; so many alone
abbrev pub in_sequence : Command → ℕ → List Command → Command
in_sequence d zero cs = d
in_sequence d (suc m) [] = d
in_sequence d (suc m) (c ∷ cs) = in_sequence (sequence c d) m cs

abbrev pub block_of : ℕ → List Command → Command
block_of zero cs = skip
block_of (suc m) [] = skip
block_of (suc m) (c ∷ cs) = in_sequence c m cs

-- all but so many
abbrev pub below_all : {A : Type 0} → ℕ → List A → List A
below_all zero xs = xs
below_all (suc m) [] = []
below_all (suc m) (x ∷ xs) = below_all m xs

-- Ts: the structs as types
module _ (Ts : List CType) where
  -- what a symbol makes
  abbrev pub step : Sym → Stacks → Stacks
  step (S.Local k) s = and_term (local k) s
  step (S.Literal l) s = and_term (literal_meant l) s
  step (S.Zeroed T) s = and_term (zeroed (type_meant Ts T)) s
  step (S.Dot k) s = of_term (λ e. dot e k) s
  step S.At s = of_two at s
  step (S.Braced m tail) s = record {
    terms = in_braces (tail_meant Ts tail) m s.terms ∷ below_all m s.terms;
    arguments = s.arguments;
    commands = s.commands;
  }
  step (S.Binary o T) s = of_two (binary (operator_meant o) (scalar_meant T)) s
  step S.Inverse s = of_term inverse s
  step S.Both s = of_two both s
  step S.Either s = of_two either s
  step S.Choice s = of_three choice s
  step (S.Cast T) s = of_term (cast (scalar_meant T)) s
  step S.Signed s = of_term wrapped s
  step S.Open s = record { terms = s.terms; arguments = []; commands = s.commands }
  step S.Value s = of_argument by_value s
  step S.Const s = of_argument by_const s
  step S.Pointer s = of_argument by_pointer s
  step S.Skip s = and_command skip s
  step (S.Declare T) s = and_command (declare (type_meant Ts T)) s
  step (S.Define T) s = of_line (define (type_meant Ts T)) s
  step (S.Refer T) s = of_line (refer (type_meant Ts T)) s
  step S.Assign s = of_two_line assign s
  step (S.Call T k) s = and_command (call (type_meant Ts T) k s.arguments) s
  step S.Branch s = record {
    terms = below s.terms;
    arguments = [];
    commands = branch (top_term s.terms) (top_command (below s.commands)) (top_command s.commands)
        ∷ below (below s.commands);
  }
  step (S.Loop n) s = record {
    terms = below s.terms;
    arguments = [];
    commands = loop n (top_term s.terms) (top_command s.commands) ∷ below s.commands;
  }
  step S.Answer s = of_line answer s
  step (S.Block m) s = record {
    terms = s.terms;
    arguments = [];
    commands = block_of m s.commands ∷ below_all m s.commands;
  }

  -- symbols, one after the other; from nothing on
  abbrev pub run : Stacks → List Sym → Stacks
  run s [] = s
  run s (x ∷ xs) = run (step x s) xs

  abbrev pub built : List Sym → Stacks
  built xs = run empty xs
