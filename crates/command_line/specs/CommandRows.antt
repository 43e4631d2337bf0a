-- Command lines, word for word, and what they ask for.
use Rattle.std.specs.Prelude.{◌≡◌, [], ◌∷◌, Some, None, true, false, codes}
use Rattle.command_line.specs.CommandLine.{AsksHelp, AsksNothing, DerivationNames, PrintingWords, apply, check, compile, compile_checked, laws, optimise, outline, request_in, run, run_checked, types}
use Rattle.command_line.specs.declared.command.Wanted.TheVariants as W

-- what is asked for
abbrev pub RequestRows : Type 0
RequestRows =
    (request_in (codes "yampa" ∷ codes "types" ∷ codes "net" ∷ []) ≡ Some (types (codes "net")))
    × (request_in (codes "yampa" ∷ codes "run" ∷ codes "net" ∷ []) ≡ Some (run (codes "net")))
    × (request_in (codes "yampa" ∷ codes "run" ∷ codes "--" ∷ codes "-net" ∷ [])
    ≡ Some (run (codes "-net")))

-- what is asked of the optimiser: the flag stands behind the file's name or before it
abbrev pub OptimiseRows : Type 0
OptimiseRows =
    (request_in (codes "yampa" ∷ codes "optimise" ∷ codes "net" ∷ [])
    ≡ Some (optimise W.Network (codes "net")))
    × (request_in
    (codes "yampa" ∷ codes "optimise" ∷ codes "net" ∷ codes "--certificate" ∷ [])
    ≡ Some (optimise W.Certificate (codes "net")))
    × (request_in
    (codes "yampa" ∷ codes "optimise" ∷ codes "--certificate" ∷ codes "net" ∷ [])
    ≡ Some (optimise W.Certificate (codes "net")))

-- the three files of one derivation
abbrev pub three_files : DerivationNames
three_files = record { source = codes "a"; target = codes "b"; certificate = codes "c" }

-- what is asked for of derivations: the source stands first, then the target, then the certificate
abbrev pub DerivationRows : Type 0
DerivationRows =
    (request_in
    (codes "yampa" ∷ codes "check" ∷ codes "a" ∷ codes "b" ∷ codes "c" ∷ [])
    ≡ Some (check three_files))
    × (request_in
    (codes "yampa" ∷ codes "run-checked" ∷ codes "a" ∷ codes "b" ∷ codes "c" ∷ [])
    ≡ Some (run_checked three_files))

-- what is asked for of a network's places and steps
abbrev pub PlaceRows : Type 0
PlaceRows =
    (request_in (codes "yampa" ∷ codes "outline" ∷ codes "net" ∷ []) ≡ Some (outline (codes "net")))
    × (request_in (codes "yampa" ∷ codes "laws" ∷ codes "net" ∷ [])
    ≡ Some (laws None (codes "net")))
    × (request_in
    (codes "yampa" ∷ codes "laws" ∷ codes "net" ∷ codes "--at" ∷ codes "(at 1 0)" ∷ [])
    ≡ Some (laws (Some (codes "(at 1 0)")) (codes "net")))

-- where steps lead: the source stands first
abbrev pub StepsRows : Type 0
StepsRows = (request_in (codes "yampa" ∷ codes "apply" ∷ codes "a" ∷ codes "c" ∷ [])
    ≡ Some (apply (record {
      source = codes "a";
      certificate = codes "c";
      first = None;
      shows = false;
    })))
    × (request_in
    (codes "yampa" ∷ codes "apply" ∷ codes "a" ∷ codes "c" ∷ codes "--first" ∷ codes "3"
    ∷ codes "--steps" ∷ []) ≡ Some (apply (record {
      source = codes "a";
      certificate = codes "c";
      first = Some (codes "3");
      shows = true;
    })))

-- words on C: none, and all
abbrev pub no_words : PrintingWords
no_words = record { name = None; most = None; no_main = false; header = false; unchecked = false }

abbrev pub all_words : PrintingWords
all_words = record {
  name = Some (codes "boiler");
  most = Some (codes "5");
  no_main = true;
  header = true;
  unchecked = true;
}

-- what is asked for of C: the options stand behind the file's name or before it
abbrev pub CompileRows : Type 0
CompileRows = (request_in (codes "yampa" ∷ codes "compile" ∷ codes "net" ∷ [])
    ≡ Some (compile no_words (codes "net")))
    × (request_in
    (codes "yampa" ∷ codes "compile" ∷ codes "--name" ∷ codes "boiler" ∷ codes "--no-main"
    ∷ codes "net" ∷ codes "--header" ∷ codes "--unchecked" ∷ codes "--most" ∷ codes "5" ∷ [])
    ≡ Some (compile all_words (codes "net")))
    × (request_in
    (codes "yampa" ∷ codes "compile-checked" ∷ codes "a" ∷ codes "b" ∷ codes "c" ∷ [])
    ≡ Some (compile_checked no_words three_files))

-- what asks for help
abbrev pub HelpRows : Type 0
HelpRows = AsksHelp (codes "yampa" ∷ codes "--help" ∷ [])
    × AsksHelp (codes "yampa" ∷ codes "run" ∷ codes "-h" ∷ [])
    × AsksHelp (codes "yampa" ∷ codes "optimise" ∷ codes "--help" ∷ [])

-- what asks for the version
abbrev pub VersionRows : Type 0
VersionRows = AsksHelp (codes "yampa" ∷ codes "--version" ∷ [])
    × AsksHelp (codes "yampa" ∷ codes "-V" ∷ [])
    × AsksNothing (codes "yampa" ∷ codes "run" ∷ codes "--version" ∷ [])

-- what asks for nothing that is there
abbrev pub NothingRows : Type 0
NothingRows = AsksNothing (codes "yampa" ∷ []) × AsksNothing (codes "yampa" ∷ codes "run" ∷ [])
    × AsksNothing (codes "yampa" ∷ codes "fly" ∷ codes "net" ∷ [])
    × AsksNothing (codes "yampa" ∷ codes "run" ∷ codes "net" ∷ codes "net" ∷ [])
    × AsksNothing (codes "yampa" ∷ codes "check" ∷ codes "a" ∷ codes "b" ∷ [])
    × AsksNothing
    (codes "yampa" ∷ codes "run-checked" ∷ codes "a" ∷ codes "b" ∷ codes "c" ∷ codes "d" ∷ [])

-- what asks for nothing of the optimiser: no file, two, the flag alone, twice or with a value, a flag
-- that isn't there, and a search beside the program
abbrev pub NoOptimiseRows : Type 0
NoOptimiseRows = AsksNothing (codes "yampa" ∷ codes "optimise" ∷ [])
    × AsksNothing (codes "yampa" ∷ codes "optimise" ∷ codes "net" ∷ codes "net" ∷ [])
    × AsksNothing (codes "yampa" ∷ codes "optimise" ∷ codes "--certificate" ∷ [])
    × AsksNothing
    (codes "yampa" ∷ codes "optimise" ∷ codes "--certificate" ∷ codes "net"
    ∷ codes "--certificate" ∷ [])
    × AsksNothing
    (codes "yampa" ∷ codes "optimise" ∷ codes "net" ∷ codes "--certificate=true" ∷ [])
    × AsksNothing (codes "yampa" ∷ codes "optimise" ∷ codes "net" ∷ codes "--fast" ∷ [])
    × AsksNothing (codes "yampa" ∷ codes "run" ∷ codes "net" ∷ codes "--certificate" ∷ [])
    × AsksNothing (codes "yampa" ∷ codes "improve" ∷ codes "net" ∷ [])

-- what asks for nothing of the commands on places and steps: no file, one too few, an option without
-- its value or given twice
abbrev pub NoStepsRows : Type 0
NoStepsRows = AsksNothing (codes "yampa" ∷ codes "outline" ∷ [])
    × AsksNothing (codes "yampa" ∷ codes "laws" ∷ codes "net" ∷ codes "--at" ∷ [])
    × AsksNothing (codes "yampa" ∷ codes "apply" ∷ codes "a" ∷ codes "--steps" ∷ [])
    × AsksNothing
    (codes "yampa" ∷ codes "apply" ∷ codes "a" ∷ codes "c" ∷ codes "--first" ∷ codes "1"
    ∷ codes "--first" ∷ codes "2" ∷ [])
    × AsksNothing (codes "yampa" ∷ codes "certify" ∷ codes "a" ∷ codes "b" ∷ [])

-- what asks for nothing of the commands that print C: no file, a file too few, an option without its
-- value or given twice, and an option of C elsewhere
abbrev pub NoCompileRows : Type 0
NoCompileRows = AsksNothing (codes "yampa" ∷ codes "compile" ∷ [])
    × AsksNothing (codes "yampa" ∷ codes "compile-checked" ∷ codes "a" ∷ codes "b" ∷ [])
    × AsksNothing (codes "yampa" ∷ codes "compile" ∷ codes "net" ∷ codes "--name" ∷ [])
    × AsksNothing
    (codes "yampa" ∷ codes "compile" ∷ codes "net" ∷ codes "--header" ∷ codes "--header" ∷ [])
    × AsksNothing
    (codes "yampa" ∷ codes "run" ∷ codes "net" ∷ codes "--most" ∷ codes "5" ∷ [])
