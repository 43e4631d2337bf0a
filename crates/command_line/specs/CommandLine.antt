-- The program's command line, and what its words ask for.
use Rattle.std.specs.Prelude.{◌≡◌, ◌≢◌, ℕ, Bool, List, [], ◌∷◌, true, false, Option, Some, None, option_and_then, option_map, Result, Ok, Err, bytes_eq, codes, if◌then◌else◌, ⊤, ◌⊎◌}
use Rattle.std.specs.Option.{option_map_or}
use Rattle.clap.specs.Simple.{on_top}
use Rattle.clap.specs.Words.{App, IsAmong, Kinds, Row, Rule, fault_of, first_of, new_app, new_rule, subcommand_of, with_rule, with_subcommand}
use Rattle.clap.specs.declared.builder.action.ArgAction.TheVariants.{Set, SetTrue}
use Rattle.clap.specs.declared.error.kind.ErrorKind.{ErrorKind}
use Rattle.clap.specs.declared.error.kind.ErrorKind.TheVariants as kind
use Rattle.command_line.specs.declared.command.Derivation.{Derivation}
use Rattle.command_line.specs.declared.command.Leading.{Leading}
use Rattle.command_line.specs.declared.command.Printing.{Printing}
use Rattle.command_line.specs.declared.command.Takes.{Takes}
use Rattle.command_line.specs.declared.command.Takes.TheVariants as T
use Rattle.command_line.specs.declared.command.Request.{Request}
use Rattle.command_line.specs.declared.command.Request.TheVariants as Q
use Rattle.command_line.specs.declared.command.Reply.{Reply}
use Rattle.command_line.specs.declared.command.Reply.TheVariants as R
use Rattle.command_line.specs.declared.command.Wanted.{Wanted}
use Rattle.command_line.specs.declared.command.Wanted.TheVariants as W

-- the name of a file, which must be there
abbrev pub file_name : List ℕ → Rule
file_name id = record (new_rule id) { action = Some Set; required = true }

-- a flag, written with two hyphens, which need not be there
abbrev pub flag : List ℕ → Rule
flag id = record (new_rule id) { long = Some id; action = Some SetTrue }

-- an option with one value, written with two hyphens, which need not be there
abbrev pub valued : List ℕ → List ℕ → Rule
valued id name = record (new_rule id) { long = Some name; action = Some Set }

-- a subcommand that takes the name of a network file
abbrev pub file_command : List ℕ → App
file_command name = with_rule (new_app name) (file_name (codes "NET"))

-- a subcommand that takes the name of a network file and a flag for the certificate
abbrev pub wanted_command : List ℕ → App
wanted_command name = with_rule (file_command name) (flag (codes "certificate"))

-- a subcommand that takes the name of a network file and the place at which it begins
abbrev pub placed_command : List ℕ → App
placed_command name = with_rule (file_command name) (valued (codes "P") (codes "at"))

-- a subcommand that takes the names of a source and a target
abbrev pub pair_command : List ℕ → App
pair_command name =
    with_rule (with_rule (new_app name) (file_name (codes "SRC"))) (file_name (codes "TGT"))

-- a subcommand that takes the names of a source, a target and a certificate
abbrev pub derivation_command : List ℕ → App
derivation_command name = with_rule (pair_command name) (file_name (codes "CERT"))

-- a subcommand that takes the names of a source and a certificate, how many of its steps are
-- taken, and a flag for the steps
abbrev pub leading_command : List ℕ → App
leading_command name =
    with_rule
    (with_rule
    (with_rule (with_rule (new_app name) (file_name (codes "SRC"))) (file_name (codes "CERT")))
    (valued (codes "N") (codes "first"))) (flag (codes "steps"))

-- a subcommand that takes the word that names of C begin with too, a flag that leaves out the `main`, and
-- one for the declarations alone
abbrev pub with_parts : App → App
with_parts above =
    with_rule
    (with_rule (with_rule above (valued (codes "WORD") (codes "name"))) (flag (codes "no-main")))
    (flag (codes "header"))

-- a subcommand that takes how C is printed too: these, how many elements a list of the input may have,
-- and a flag for a step without tests
abbrev pub with_printing : App → App
with_printing above =
    with_rule (with_rule (with_parts above) (valued (codes "N") (codes "most")))
    (flag (codes "unchecked"))

-- the subcommand of that name that takes so much
abbrev pub command_taking : Takes → List ℕ → App
command_taking T.Network name = file_command name
command_taking T.Wanted name = wanted_command name
command_taking T.Place name = placed_command name
command_taking T.Derivation name = derivation_command name
command_taking T.Steps name = leading_command name
command_taking T.Printing name = with_printing (file_command name)
command_taking T.CheckedPrinting name = with_printing (derivation_command name)

-- the program's name, behind which a subcommand must be there; it has a version
abbrev pub program : App
program =
    on_top (λ s. record s { subcommand_required = true; has_version = true })
    (new_app (codes "yampa"))

-- a command line with one more subcommand, of that name, that takes so much
abbrev pub and_command : App → Takes → List ℕ → App
and_command above takes name = with_subcommand above (command_taking takes name).top

-- a command line with the subcommands that rewrite networks, or show how they may be rewritten:
-- `outline NET`, `laws NET [--at P]`, `apply SRC CERT [--first N] [--steps]`, and `optimise NET`, which
-- takes the flag `--certificate` too
abbrev pub and_rewriting : App → App
and_rewriting above =
    and_command
    (and_command
    (and_command (and_command above T.Network (codes "outline")) T.Place (codes "laws")) T.Steps
    (codes "apply")) T.Wanted (codes "optimise")

-- a command line with the subcommands that print C: `compile NET` and
-- `compile-checked SRC TGT CERT`
abbrev pub and_compiling : App → App
and_compiling above =
    and_command (and_command above T.Printing (codes "compile")) T.CheckedPrinting
    (codes "compile-checked")

-- a command line with the subcommands that run and check networks: `types NET`, `run NET`,
-- `check SRC TGT CERT` and `run-checked SRC TGT CERT`
abbrev pub and_running : App → App
and_running above =
    and_command
    (and_command
    (and_command (and_command above T.Network (codes "types")) T.Network (codes "run"))
    T.Derivation (codes "check")) T.Derivation (codes "run-checked")

-- the program's command line: the subcommands that run and check, those that rewrite, and those that
-- print C
abbrev pub command_line : App
command_line = and_compiling (and_rewriting (and_running program))

-- the names of the files of a derivation
pub record DerivationNames : Type 0 where
  pub source : List ℕ
  pub target : List ℕ
  pub certificate : List ℕ

-- the names of a source and a certificate; the word that tells how many of its steps are taken, all
-- if there is none; and whether the steps are shown
pub record LeadingNames : Type 0 where
  pub source : List ℕ
  pub certificate : List ℕ
  pub first : Option (List ℕ)
  pub shows : Bool

-- how C is printed: the word that names begin with, `yampa` where there is none; the word that tells how
-- many elements a list of the input may have, as many as a line can hold where there is none; whether
-- the `main` is left out; whether the declarations alone are printed; and whether a step takes what it
-- is given without a test
pub record PrintingWords : Type 0 where
  pub name : Option (List ℕ)
  pub most : Option (List ℕ)
  pub no_main : Bool
  pub header : Bool
  pub unchecked : Bool

-- what a command line asks for: the types of the network in the file of that name, or a run of it;
-- what stands where in it; the steps that may be taken in it, at the place of a word and below;
-- the network that the optimiser makes of it, or the certificate that leads there; whether a
-- certificate leads from its source to its target, or that and a run of the target; where steps lead;
-- or the network as C, or the target of a certificate
pub data RequestTree : Type 0 where
  types : List ℕ → RequestTree
  run : List ℕ → RequestTree
  outline : List ℕ → RequestTree
  laws : Option (List ℕ) → List ℕ → RequestTree
  optimise : Wanted → List ℕ → RequestTree
  check : DerivationNames → RequestTree
  run_checked : DerivationNames → RequestTree
  apply : LeadingNames → RequestTree
  compile : PrintingWords → List ℕ → RequestTree
  compile_checked : PrintingWords → DerivationNames → RequestTree

-- the names of a derivation's files among a subcommand's matches, where all three are there
abbrev pub derivation_in : List Row → Option DerivationNames
derivation_in rows = option_and_then (λ source.
    option_and_then (λ target. option_map (λ certificate. record {
      source = source;
      target = target;
      certificate = certificate;
    }) (first_of (codes "CERT") rows)) (first_of (codes "TGT") rows)) (first_of (codes "SRC") rows)

-- a flag is given, among a subcommand's matches
abbrev pub is_given : List ℕ → List Row → Bool
is_given id rows = option_map_or (λ value. bytes_eq value (codes "true")) (first_of id rows) false

-- what is wanted of the optimiser: the certificate where the flag for it is given, else the network
abbrev pub wanted_in : List Row → Wanted
wanted_in rows = if is_given (codes "certificate") rows then W.Certificate else W.Network

-- what a subcommand asks for that takes the name of a network file and a flag for the certificate
abbrev pub wanted_by : (Wanted → List ℕ → RequestTree) → List Row → Option RequestTree
wanted_by asks rows = option_map (asks (wanted_in rows)) (first_of (codes "NET") rows)

-- what the subcommand `laws` asks for, by its matches
abbrev pub laws_in : List Row → Option RequestTree
laws_in rows = option_map (laws (first_of (codes "P") rows)) (first_of (codes "NET") rows)

-- what the subcommand `apply` asks for, by its matches
abbrev pub apply_in : List Row → Option RequestTree
apply_in rows = option_and_then (λ source. option_map (λ certificate. apply (record {
  source = source;
  certificate = certificate;
  first = first_of (codes "N") rows;
  shows = is_given (codes "steps") rows;
})) (first_of (codes "CERT") rows)) (first_of (codes "SRC") rows)

-- how C is printed, by a subcommand's matches
abbrev pub printing_in : List Row → PrintingWords
printing_in rows = record {
  name = first_of (codes "WORD") rows;
  most = first_of (codes "N") rows;
  no_main = is_given (codes "no-main") rows;
  header = is_given (codes "header") rows;
  unchecked = is_given (codes "unchecked") rows;
}

-- what the subcommand `compile` asks for, by its matches
abbrev pub compile_in : List Row → Option RequestTree
compile_in rows = option_map (compile (printing_in rows)) (first_of (codes "NET") rows)

-- what the subcommand `compile-checked` asks for, by its matches
abbrev pub compile_checked_in : List Row → Option RequestTree
compile_checked_in rows = option_map (compile_checked (printing_in rows)) (derivation_in rows)

-- what a subcommand asks for, by its matches
abbrev pub request_on : List ℕ → List Row → Option RequestTree
request_on command rows =
    if bytes_eq command (codes "types") then option_map types (first_of (codes "NET") rows)
    else (if bytes_eq command (codes "run") then option_map run (first_of (codes "NET") rows)
    else (if bytes_eq command (codes "check") then option_map check (derivation_in rows)
    else (if bytes_eq command (codes "run-checked") then option_map run_checked (derivation_in rows)
    else (if bytes_eq command (codes "outline")
    then option_map outline (first_of (codes "NET") rows)
    else (if bytes_eq command (codes "laws") then laws_in rows
    else (if bytes_eq command (codes "apply") then apply_in rows
    else (if bytes_eq command (codes "optimise") then wanted_by optimise rows
    else (if bytes_eq command (codes "compile") then compile_in rows
    else (if bytes_eq command (codes "compile-checked") then compile_checked_in rows
    else None)))))))))

-- what the subcommand and its matches ask for
abbrev pub request_by : Option (List ℕ × List Row) → Option RequestTree
request_by None = None
request_by (Some s) = request_on s.0 s.1

-- what is asked for, where nothing is wrong with the words
abbrev pub unless_faulty : Kinds → Option RequestTree → Option RequestTree
unless_faulty [] what = what
unless_faulty (k ∷ ks) what = None

-- what the words ask for, where the command line takes them
unfoldable pub request_in : List (List ℕ) → Option RequestTree
request_in words = unless_faulty (fault_of command_line words)
    (request_by (subcommand_of command_line words))

-- the words ask for help or for the version
unfoldable pub AsksHelp : List (List ℕ) → Type 0
AsksHelp words = IsAmong kind.DisplayHelp (fault_of command_line words)
    ⊎ IsAmong kind.DisplayVersion (fault_of command_line words)

-- the words ask for nothing that is there, and not for help or the version alone
unfoldable pub AsksNothing : List (List ℕ) → Type 0
AsksNothing words = (request_in words ≡ None)
    × (fault_of command_line words ≢ (kind.DisplayHelp ∷ []))
    × (fault_of command_line words ≢ (kind.DisplayVersion ∷ []))

-- the code's names of a derivation's files as such
abbrev pub derivation_view : Derivation → DerivationNames
derivation_view d = record {
  source = d.source.now;
  target = d.target.now;
  certificate = d.certificate.now;
}

-- the code's names of a source and a certificate, and what is wanted of its steps, as such
abbrev pub leading_view : Leading → LeadingNames
leading_view l = record {
  source = l.source.now;
  certificate = l.certificate.now;
  first = option_map (λ s. s.now) l.first;
  shows = l.shows;
}

-- the code's words on C as such
abbrev pub printing_view : Printing → PrintingWords
printing_view p = record {
  name = option_map (λ s. s.now) p.name;
  most = option_map (λ s. s.now) p.most;
  no_main = p.no_main;
  header = p.header;
  unchecked = p.unchecked;
}

-- the code's request as one
abbrev pub request_view : Request → RequestTree
request_view (Q.Types net) = types net.now
request_view (Q.Run net) = run net.now
request_view (Q.Outline net) = outline net.now
request_view (Q.Laws net at) = laws (option_map (λ s. s.now) at) net.now
request_view (Q.Optimise net wanted) = optimise wanted net.now
request_view (Q.Check d) = check (derivation_view d)
request_view (Q.RunChecked d) = run_checked (derivation_view d)
request_view (Q.Apply l) = apply (leading_view l)
request_view (Q.Compile net printing) = compile (printing_view printing) net.now
request_view (Q.CompileChecked names printing) =
    compile_checked (printing_view printing) (derivation_view names)

-- the reply fits an error of that kind
abbrev pub RepliesTo : ErrorKind → Reply → Type 0
RepliesTo k (R.Help text) = (k ≡ kind.DisplayHelp) ⊎ (k ≡ kind.DisplayVersion)
RepliesTo k (R.Wrong text) = (k ≢ kind.DisplayHelp) × (k ≢ kind.DisplayVersion)
    × (k ≢ kind.OutOfMemory)
RepliesTo k R.Memory = ⊤

-- the reply to words that ask for nothing that is there
abbrev pub IsNothing : Reply → Type 0
IsNothing (R.Help text) = ⊥
IsNothing (R.Wrong text) = ⊤
IsNothing R.Memory = ⊤

-- a request is what the words ask for; a reply is help or the version that they ask for, or they
-- ask for nothing that is there, or memory was short
abbrev pub ReadsWords : List (List ℕ) → Result Request Reply → Type 0
ReadsWords words (Ok request) = request_in words ≡ Some (request_view request)
ReadsWords words (Err (R.Help text)) = AsksHelp words
ReadsWords words (Err (R.Wrong text)) = AsksNothing words
ReadsWords words (Err R.Memory) = ⊤
