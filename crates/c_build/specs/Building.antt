-- What is built of a program.
use Rattle.std.specs.Prelude.{◌≡◌, ℕ, ◌-◌, Bool, true, false, List, [], map, length}
use Rattle.sample_core.specs.TypeView.{type_of}
use Rattle.code_fits.specs.declared.layout.Program.{Program}
use Rattle.c_meaning.specs.Object.{CType}
use Rattle.c_meaning.specs.Syntax as C
use Rattle.c_text.specs.Meant.{file_meant, function_meant, structs_meant, type_meant}
use Rattle.c_leaf.specs.Representing.{c_type}
use Rattle.c_file.specs.Compared.{with_functions}
use Rattle.c_file.specs.ProgramC.{c_of_program, init_number, layouts_of, printed_of, state_type, whole_of}
use Rattle.c_file.specs.FileLaw.{bounds}
use Rattle.c_file.specs.Guarded.{guarded_program}
use Rattle.c_build.specs.declared.file.Built.{Built}
use Rattle.c_build.specs.declared.file.Parts.{Parts}
use Rattle.c_build.specs.declared.growing.Setting.{Setting}
use Rattle.c_build.specs.LeafLines.{IsKnown}
use Rattle.c_build.specs.Growing.{compared_by}

-- the C of a program: with the plain step, or with the one that tests what it is given
abbrev pub program_with : Bool → Program → C.File
program_with true p = c_of_program p
program_with false p = guarded_program p

-- a setting is a program's: its types of C are known, and the types that its functions compare
pub record IsSetting (p : Program) (s : Setting) : Type 0 where
  pub known : IsKnown s.known
  pub types : s.known.types.now ≡ p.types
  pub bounds : s.known.bounds.now ≡ p.bounds.items
  pub compared : compared_by s ≡ with_functions p.functions.items (layouts_of p) []

-- functions are those of a file, with what a printer asks of them
pub record HasParts (Ts : List CType) (p : Program) (unchecked : Bool) (r : Parts) : Type 0 where
  pub file : map (function_meant Ts) r.functions.items ≡ program_with unchecked p
  pub state : type_meant Ts r.state ≡ state_type (bounds p) (whole_of p).shape
  pub steps : r.steps.items ≡ map (λ c. c.number) (printed_of p).callees
  pub init : r.init ≡ init_number p
  pub step : r.step ≡ length (program_with unchecked p) - 1

-- what is built is that, with what a printer asks of it
pub record IsBuilt (p : Program) (unchecked : Bool) (b : Built) : Type 0 where
  pub file : file_meant b.file ≡ program_with unchecked p
  pub types : map (type_meant (structs_meant b.file.structs.items)) b.types.items
      ≡ map (c_type (bounds p)) (map type_of p.types.trees.items)
  pub state : type_meant (structs_meant b.file.structs.items) b.state
      ≡ state_type (bounds p) (whole_of p).shape
  pub steps : b.steps.items ≡ map (λ c. c.number) (printed_of p).callees
  pub init : b.init ≡ init_number p
  pub step : b.step ≡ length (program_with unchecked p) - 1
