-- In which format the command line asks for an output (own).
-- Depends on what `clap` found in the words.
use Rattle.std.specs.Prelude.{◌≡◌, ℕ, Bool, true, false, not, ◌&&◌, ◌||◌, List, Option, Some, None, MatchOption, option_map, if◌then◌else◌, codes}
use Rattle.std.specs.Option.{is_some}
use Rattle.std.specs.Str.{bytes_eq}
use Rattle.clap.specs.declared.parser.matches.ArgMatches.{ArgMatches}
use Rattle.clap.specs.Words.{found_of, rows_of, subcommand_name_of, subcommand_rows_of}
use Rattle.tn_formats.specs.declared.format.Format.{Format}
use Rattle.tn_formats.specs.declared.format.Format.TheVariants.{Summary, SummaryJson, OutputJson, AccountJson, TextJson, Coloured}
use Rattle.tn_cli.specs.Requests.{argument, is_given}

-- the JSON of a command: of the account that `explain` writes, of the lines of `spec` and of `state`, and of the output of any other but `draw`, which writes its own
abbrev pub json_named : List ℕ → Option Format
json_named name =
    if bytes_eq name (codes "explain") then Some AccountJson
    else if bytes_eq name (codes "spec") then Some TextJson
    else if bytes_eq name (codes "state") then Some TextJson
    else if bytes_eq name (codes "draw") then None
    else Some OutputJson

-- the summary, as JSON or as lines
abbrev pub summary_named : (is_json : Bool) → Format
summary_named is_json = if is_json then SummaryJson else Summary

-- the commands that print the output of a run
abbrev pub prints_output : List ℕ → Bool
prints_output name =
    bytes_eq name (codes "run") || (bytes_eq name (codes "replay") || (bytes_eq name (codes "round") || bytes_eq name (codes "workers")))

-- something is expected of the output, which is then held as a text without colours
abbrev pub is_held : ArgMatches → Bool
is_held m =
    is_some (argument m (codes "expect")) || (is_some (argument m (codes "expect-session")) || (is_some (argument m (codes "expect-line")) || is_some (argument m (codes "reject-line"))))

-- whether an output has colours: as `--color` says, and else where a terminal shows it
abbrev pub has_colours : (shows_colours : Bool) → Option (List ℕ) → Bool
has_colours shows_colours None = shows_colours
has_colours shows_colours (Some text) =
    if bytes_eq text (codes "always") then true
    else if bytes_eq text (codes "never") then false
    else shows_colours

-- the summary where `--summary` is given, as JSON where `--json` is too; else the JSON where `--json` is; else colours, where the output has them
abbrev pub format_named : (shows_colours : Bool) → List ℕ → ArgMatches → Option Format
format_named shows_colours name m =
    if is_given m (codes "summary") then Some (summary_named (is_given m (codes "json")))
    else if is_given m (codes "json") then json_named name
    else if prints_output name && has_colours (shows_colours && not (is_held m)) (argument m (codes "color")) then Some Coloured
    else None

-- that of the subcommand that was found; none where none was
pub record IsFormatOfCommand (shows_colours : Bool) (m : ArgMatches) (format : Option Format) : Type 0 where
  pub name : List ℕ
  pub given : ArgMatches
  pub named : subcommand_name_of m ≡ Some name
  pub found : option_map (λ p. p.1) (subcommand_rows_of m) ≡ Some (rows_of (found_of given))
  pub format_is : format ≡ format_named shows_colours name given

abbrev pub IsFormatOf : (shows_colours : Bool) → ArgMatches → Option Format → Type 0
IsFormatOf shows_colours m format = MatchOption (subcommand_name_of m) (format ≡ None) (λ name. IsFormatOfCommand shows_colours m format)
