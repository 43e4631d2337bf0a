-- What the code's reader of certificates answers: what the reader of the grammar does on the tokens
-- from some byte on.
use Rattle.std.specs.Prelude.{ℕ, List, length, Result, Option, option_map}
use Rattle.leaf_core.specs.Expression.{Expression}
use Rattle.leaf_expr.specs.Token.{PlacedToken}
use Rattle.leaf_expr.specs.TreeReader.{Read, read, read_form, read_parts}
use Rattle.leaf_expr.specs.Language.{Language, places}
use Rattle.net_tree.specs.Place.{Tree}
use Rattle.net_tree.specs.LawStep.{Step, step_of, part_of}
use Rattle.net_tree.specs.declared.law_step.LawStep.{LawStep}
use Rattle.net_tree.specs.declared.law_step.Law.{Law}
use Rattle.net_tree.specs.declared.law_step.Tree as C
use Rattle.net_text.specs.Form.{version_of}
use Rattle.net_text.specs.ReadNet.{from_byte}
use Rattle.net_text.specs.declared.text.Text.{Text}
use Rattle.net_text.specs.StepGrammar.{step_parts, StepSort, StepTree, child_sort, position_sort}
use Rattle.net_text.specs.Certificate.{ReadAndLeft, read_given, read_step, read_all_steps}
use Rattle.net_text.specs.declared.fault.NetTextFault.{NetTextFault}
use Rattle.net_text.specs.declared.fault.NetTextFault.TheVariants as V
use Rattle.net_text.specs.declared.certificate_reader.TheConstants.{STEP_ROOM, POSITION_ROOM}
use Rattle.sample_core.specs.Answer.{GivesUnless}
use Rattle.leaf_expr.specs.declared.text_fault.ExprTextFault.{ExprTextFault}

-- what was read, the byte behind it, and the tokens from there on
abbrev pub step_part_left : {T : Type 0} → Text → T × ℕ → T × ℕ × List PlacedToken
step_part_left text x = (x.0, x.1, from_byte x.1 text)

-- the language of the parts of steps of the text's version
abbrev pub step_language : Text → Language
step_language text = step_parts (version_of text.version)

-- a law, a direction or a position in the text from byte n on, inside a step
abbrev pub step_part_at : (s : StepSort) → Text → ℕ → Read (StepTree s)
step_part_at s text n = read (step_language text) (length text.bytes.now) STEP_ROOM s (from_byte n text)

-- what stands behind the parenthesis of a position, in the text from byte n on
abbrev pub position_form : Text → ℕ → Read (List ℕ)
position_form text n = read_form (step_language text) (length text.bytes.now)
    (read (step_language text) (length text.bytes.now) POSITION_ROOM) POSITION_ROOM position_sort (from_byte n text)

-- the child numbers of a position and its end, in the text from byte n on
abbrev pub children_from : Text → ℕ → Read (List ℕ)
children_from text n = read_parts (step_language text) (length text.bytes.now)
    (read (step_language text) (length text.bytes.now) POSITION_ROOM) POSITION_ROOM (places child_sort) (λ ks. ks)
    (from_byte n text)

-- the end of a step or the given tree and the end, in the text from byte n on
abbrev pub given_from : Law → Text → ℕ → Read (Option (Tree Expression))
given_from law text n = read_given (length text.bytes.now) (version_of text.version) law
    (from_byte n text)

-- what may be given, the byte behind the step, and the tokens from there on
abbrev pub given_left : Text → Option C.Tree × ℕ
    → Option (Tree Expression) × ℕ × List PlacedToken
given_left text x = (option_map part_of x.0, x.1, from_byte x.1 text)

-- a step in the text from byte n on
abbrev pub step_from : Text → ℕ → ReadAndLeft Step
step_from text n = read_step (length text.bytes.now) (version_of text.version) (from_byte n text)

-- a step, and the tokens from the byte behind it on
abbrev pub step_left : Text → LawStep × ℕ → Step × List PlacedToken
step_left text x = (step_of x.0, from_byte x.1 text)

-- all steps in the text from byte n on
abbrev pub steps_from : Text → ℕ → Result (List Step) ExprTextFault
steps_from text n = read_all_steps (length text.bytes.now) (version_of text.version)
    (from_byte n text)

-- what the call returned, seen by view, is what reading gives, unless memory ran out
abbrev pub GivesSteps : {X : Type 0} → (X → List Step) → Result X NetTextFault
    → Result (List Step) NetTextFault → Type 0
GivesSteps view result read = GivesUnless V.Memory view result read
