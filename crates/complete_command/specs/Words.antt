-- What is seen of a word of the command line, and of what it names.
use Rattle.std.specs.Prelude.{ℕ, List, Option, Some, None}
use Rattle.std.specs.Borrow.{Bor}
use Rattle.std.specs.Option.{option_map}
use Rattle.tn_command.specs.declared.source.Source.{Source}
use Rattle.tn_command.specs.declared.source.Source.TheVariants.{Input, File}

-- the bytes of a word, where there is one
abbrev pub word_seen : Option (Bor (List ℕ)) → Option (List ℕ)
word_seen word = option_map (λ w. w.now) word

-- the path of a file; none of standard input
abbrev pub source_seen : Source → Option (List ℕ)
source_seen Input = None
source_seen (File path) = Some path.now
