-- How many bytes the command line lets an output have, and how many of memory a run takes (own).
-- Depends on what `clap` found in the words.
use Rattle.std.specs.Prelude.{◌≡◌, ◌≤◌, ℕ, List, Option, Some, None, MatchOption, option_map, codes}
use Rattle.clap.specs.declared.parser.matches.ArgMatches.{ArgMatches}
use Rattle.clap.specs.Words.{found_of, rows_of, subcommand_name_of, subcommand_rows_of}
use Rattle.std.specs.Str.Parse.{digits_value}
use Rattle.tn_command.specs.Numbers.{IsLongNumber}
use Rattle.tn_cli.specs.Requests.{IsBetween, argument, number_given}

-- a GiB, where nothing is said of it
abbrev pub MAX_OUTPUT : ℕ
MAX_OUTPUT = 1073741824

-- the bound that is given is a number from 1 to 4294967295; or none is
abbrev pub IsBound : Option (List ℕ) → Type 0
IsBound None = Unit {0}
IsBound (Some text) = IsBetween 1 4294967295 (Some text)

-- the number of bytes
abbrev pub bound_given : Option (List ℕ) → ℕ
bound_given None = MAX_OUTPUT
bound_given (Some text) = number_given (Some text)

-- that of the subcommand that was found
pub record IsBoundOfCommand (m : ArgMatches) (most : ℕ) : Type 0 where
  pub given : ArgMatches
  pub found : option_map (λ p. p.1) (subcommand_rows_of m) ≡ Some (rows_of (found_of given))
  pub bound : IsBound (argument given (codes "max-output"))
  pub most_is : most ≡ bound_given (argument given (codes "max-output"))

abbrev pub IsBoundOf : ArgMatches → ℕ → Type 0
IsBoundOf m most = MatchOption (subcommand_name_of m) (most ≡ MAX_OUTPUT) (λ name. IsBoundOfCommand m most)

-- the subcommand that was found was given another bound
pub record IsWithoutBound (m : ArgMatches) : Type 0 where
  pub given : ArgMatches
  pub found : option_map (λ p. p.1) (subcommand_rows_of m) ≡ Some (rows_of (found_of given))
  pub lacks : ¬ (IsBound (argument given (codes "max-output")))

-- ---- memory

-- a GiB, where nothing is said of it
abbrev pub MAX_MEMORY : ℕ
MAX_MEMORY = 1073741824

-- the bound that is given is a number from 1 to 18446744073709551615; or none is
abbrev pub IsMemory : Option (List ℕ) → Type 0
IsMemory None = Unit {0}
IsMemory (Some text) = IsLongNumber text × (1 ≤ digits_value 10 text)

-- the number of bytes
abbrev pub memory_given : Option (List ℕ) → ℕ
memory_given None = MAX_MEMORY
memory_given (Some text) = number_given (Some text)

-- that of the subcommand that was found
pub record IsMemoryOfCommand (m : ArgMatches) (most : ℕ) : Type 0 where
  pub given : ArgMatches
  pub found : option_map (λ p. p.1) (subcommand_rows_of m) ≡ Some (rows_of (found_of given))
  pub bound : IsMemory (argument given (codes "max-memory"))
  pub most_is : most ≡ memory_given (argument given (codes "max-memory"))

abbrev pub IsMemoryOf : ArgMatches → ℕ → Type 0
IsMemoryOf m most = MatchOption (subcommand_name_of m) (most ≡ MAX_MEMORY) (λ name. IsMemoryOfCommand m most)

-- the subcommand that was found was given another bound
pub record IsWithoutMemory (m : ArgMatches) : Type 0 where
  pub given : ArgMatches
  pub found : option_map (λ p. p.1) (subcommand_rows_of m) ≡ Some (rows_of (found_of given))
  pub lacks : ¬ (IsMemory (argument given (codes "max-memory")))
