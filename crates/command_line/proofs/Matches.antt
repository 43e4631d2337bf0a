-- What the matches of a command line ask for.
use Rattle.std.proofs.Common.{◌≡◌, ◌∙◌, ℕ, List, Option}
use Rattle.clap.specs.Words.{found_of, first_of, first_value, rows_of}
use Rattle.clap.specs.declared.parser.matches.ArgMatches.{ArgMatches}
use Rattle.clap.proofs.WalkLemmas.{first_value-rows}

-- the value of an argument, by its row
pub valued : (m : ArgMatches) (id : List ℕ) (o : Option (List ℕ)) → o ≡ first_value (found_of m) id → o ≡ first_of id (rows_of (found_of m))
valued m id o e = e ∙ first_value-rows (found_of m) id
