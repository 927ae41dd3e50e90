-- Where a text is read from (own).
use denote.Ref.{Bor}
use Rattle.std.specs.Prelude.{◌≡◌, ◌≢◌, ℕ, List, Option, MatchOption, codes}
use Rattle.tn_command.specs.declared.source.Source.{Source}
use Rattle.tn_command.specs.declared.source.Source.TheVariants.{Input, File}

-- standard input where the word of the command line is `-` or absent, else the file with this path
abbrev pub IsSourceOf : Option (Bor (List ℕ)) → Source → Type 0
IsSourceOf word source =
    MatchOption word (source ≡ Input) (λ w. (w.now ≡ codes "-" → source ≡ Input) × (w.now ≢ codes "-" → source ≡ File w))
