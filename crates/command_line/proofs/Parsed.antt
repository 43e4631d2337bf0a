-- What a parse of the program's command line answers.
use Rattle.std.proofs.Common.{◌≡◌, ◌≢◌, ◌⊎◌, inl, inr, ◌∙◌, sym, ap, refl, ℕ, List, [], ◌∷◌, Option, None, true, Err}
use Rattle.clap.specs.Words.{App, HasKind, HasMatchesOf, IsAmong, Kinds, fault_of, is_simple, is_simple_and_free, kind_of, subcommand_of, subcommand_rows_of}
use Rattle.clap.specs.declared.error.Error.{Error}
use Rattle.clap.specs.declared.error.kind.ErrorKind.{ErrorKind}
use Rattle.clap.specs.declared.error.kind.ErrorKind.TheVariants as kind
use Rattle.clap.specs.declared.parser.matches.ArgMatches.{ArgMatches}
use Rattle.command_line.specs.CommandLine.{ReadsWords, RequestTree, AsksHelp, AsksNothing, IsNothing, RepliesTo, request_in, request_by, command_line, unless_faulty}
use Rattle.command_line.specs.declared.command.Reply.{Reply}
use Rattle.command_line.specs.declared.command.Reply.TheVariants as R

-- the program's command line is one whose matches and faults are known
pub simple : is_simple command_line ≡ true
simple = refl

pub simple_and_free : is_simple_and_free command_line ≡ true
simple_and_free = refl

chosen : (ks : Kinds) → ks ≡ [] → (x : Option RequestTree) → unless_faulty ks x ≡ x
chosen [] e x = refl
chosen (k ∷ ks) e x = cc

refused : (k : ErrorKind) (ks : Kinds) → IsAmong k ks → (x : Option RequestTree) → unless_faulty ks x ≡ None
refused k [] h x = absurd h
refused k (j ∷ ks) h x = refl

-- a parse that succeeds asks for what its matches do
pub taken : (a : App) (words : List (List ℕ)) (m : ArgMatches) → a ≡ command_line → HasMatchesOf a words m
    → (is_simple_and_free a ≡ true → fault_of a words ≡ [])
    → request_in words ≡ request_by (subcommand_rows_of m)
unfolding request_in
taken a words m e h free =
    chosen (fault_of command_line words) (ap (λ (b : App). fault_of b words) (sym e) ∙ free (ap is_simple_and_free e ∙ simple_and_free)) _
    ∙ ap request_by (ap (λ (b : App). subcommand_of b words) (sym e) ∙ sym (h (ap is_simple e ∙ simple)).1)

-- matches that ask for nothing
pub nothing : (a : App) (words : List (List ℕ)) (m : ArgMatches) → a ≡ command_line → HasMatchesOf a words m
    → (is_simple_and_free a ≡ true → fault_of a words ≡ [])
    → None ≡ request_by (subcommand_rows_of m) → AsksNothing words
unfolding AsksNothing
nothing a words m e h free none = (
  taken a words m e h free
      ∙ sym none,
  λ (l : fault_of command_line words ≡ (kind.DisplayHelp ∷ [])). no_fault kind.DisplayHelp (sym found ∙ l),
  λ (l : fault_of command_line words ≡ (kind.DisplayVersion ∷ [])). no_fault kind.DisplayVersion (sym found ∙ l),
)
  where
    found : fault_of command_line words ≡ []
    found = ap (λ (b : App). fault_of b words) (sym e) ∙ free (ap is_simple_and_free e ∙ simple_and_free)

    no_fault : (k : ErrorKind) → [] ≡ (k ∷ []) → ⊥
    no_fault k q = cc

-- the kind of a refusal is one of the faults, or memory was short
among : (a : App) (words : List (List ℕ)) (error : Error) → a ≡ command_line → (is_simple_and_free a ≡ true → HasKind (fault_of a words) error)
    → HasKind (fault_of command_line words) error
among a words error e free = let there : is_simple_and_free command_line ≡ true → HasKind (fault_of command_line words) error = rw e at free in
    there simple_and_free

-- where a kind is the only fault, another one isn't among the faults
only_one : (j k : ErrorKind) (ks : Kinds) → IsAmong k ks → k ≢ j → ks ≢ (j ∷ [])
only_one j k ks h other e = elim (rw e at h) [
  | inl same ↦ absurd (other same)
  | inr nowhere ↦ nowhere
]

-- a kind that isn't lack of memory is one of the faults
is_fault : (words : List (List ℕ)) (j k : ErrorKind) → j ≢ kind.OutOfMemory → k ≡ j
    → (k ≡ kind.OutOfMemory) ⊎ IsAmong k (fault_of command_line words) → IsAmong j (fault_of command_line words)
is_fault words j k known same (inl memory) = absurd (known (sym same ∙ memory))
is_fault words j k known same (inr h) = let there : IsAmong j (fault_of command_line words) = rw same at h in there

asks_help : (words : List (List ℕ)) (k : ErrorKind) → (k ≡ kind.DisplayHelp) ⊎ (k ≡ kind.DisplayVersion)
    → (k ≡ kind.OutOfMemory) ⊎ IsAmong k (fault_of command_line words) → AsksHelp words
unfolding AsksHelp
asks_help words k (inl help) h = inl (is_fault words kind.DisplayHelp k help_is_no_memory help h)
  where
    help_is_no_memory : kind.DisplayHelp ≢ kind.OutOfMemory
    help_is_no_memory e = cc
asks_help words k (inr version) h = inr (is_fault words kind.DisplayVersion k version_is_no_memory version h)
  where
    version_is_no_memory : kind.DisplayVersion ≢ kind.OutOfMemory
    version_is_no_memory e = cc

asks_nothing : (words : List (List ℕ)) (k : ErrorKind) → k ≢ kind.DisplayHelp → k ≢ kind.DisplayVersion → k ≢ kind.OutOfMemory
    → (k ≡ kind.OutOfMemory) ⊎ IsAmong k (fault_of command_line words) → AsksNothing words
unfolding AsksNothing request_in
asks_nothing words k help version memory (inl e) = absurd (memory e)
asks_nothing words k help version memory (inr h) = (
  refused k (fault_of command_line words) h _,
  only_one kind.DisplayHelp k (fault_of command_line words) h help,
  only_one kind.DisplayVersion k (fault_of command_line words) h version,
)

-- what is replied to a refusal
pub replied : (a : App) (words : List (List ℕ)) (error : Error) → a ≡ command_line → (is_simple_and_free a ≡ true → HasKind (fault_of a words) error)
    → (reply : Reply) → RepliesTo (kind_of error) reply → ReadsWords words (Err reply)
replied a words error e free (R.Help text) r = asks_help words (kind_of error) r (among a words error e free)
replied a words error e free (R.Wrong text) r = asks_nothing words (kind_of error) r.0 r.1 r.2 (among a words error e free)
replied a words error e free R.Memory r = tt

-- what is replied to words that ask for nothing that is there
pub told_nothing : (words : List (List ℕ)) → AsksNothing words → (reply : Reply) → IsNothing reply → ReadsWords words (Err reply)
told_nothing words n (R.Help text) h = absurd h
told_nothing words n (R.Wrong text) h = n
told_nothing words n R.Memory h = tt
