-- What the words of the command line ask for (own).
-- Depends on what `clap` found in the words: the text that each option and each word without a name has.
use Rattle.std.specs.Prelude.{◌≡◌, ◌≢◌, ◌≤◌, ◌-◌, ◌==◌, ◌&&◌, ◌||◌, ◌++◌, ℕ, Bool, true, false, not, List, [], ◌∷◌, Option, Some, None, Result, Ok}
use Rattle.std.specs.Prelude.{MatchResult, IsSomeAnd, ◌⊎◌, option_map, unwrap_or, if◌then◌else◌, take, drop, length, codes}
use Rattle.std.specs.List.{list_all}
use Rattle.std.specs.Option.{is_some, option_map_or}
use Rattle.def_term.specs.Text.{is_digit}
use Rattle.std.specs.Str.Parse.{digits_value}
use Rattle.std.specs.Str.{bytes_eq}
use Rattle.std.specs.Borrow.{Bor}
use Rattle.clap.specs.declared.parser.matches.ArgMatches.{ArgMatches}
use Rattle.tn_answers.specs.declared.form.AnswerForm.{AnswerForm}
use Rattle.tn_answers.specs.declared.form.AnswerForm.TheVariants as forms
use Rattle.clap.specs.Words.{found_of, first_value, matched_of, raw_values, rows_of, subcommand_name_of, subcommand_rows_of}
use Rattle.tn_explain.specs.declared.filter.Filter.{Filter}
use Rattle.tn_message_choice.specs.declared.choice.MessageFilter.{MessageFilter}
use Rattle.tn_message_choice.specs.declared.choice.MessageFilter.TheVariants as filters
use Rattle.tn_state.specs.declared.request.StateQuestion.{StateQuestion}
use Rattle.tn_exploration.specs.declared.request.RandomRuns.{RandomRuns}
use Rattle.tn_command.specs.declared.source.Source.{Source}
use Rattle.tn_command.specs.declared.source.Source.TheVariants.{Input, File}
use Rattle.tn_expectation.specs.Expectations.{words_of}
use Rattle.tn_command.specs.Numbers.{IsPlainNumber}
use Rattle.tn_spec.specs.declared.func.Dialect.{Dialect}
use Rattle.tn_spec.specs.declared.func.Dialect.TheVariants.{Call, Send, Recv}
use Rattle.tn_picture.specs.declared.request.PictureFormat.{PictureFormat}
use Rattle.tn_picture.specs.declared.request.PictureFormat.TheVariants.{Svg, Plain, Json}
use Rattle.tn_request.specs.declared.request.PicksSource.{PicksSource}
use Rattle.tn_request.specs.declared.request.PicksSource.TheVariants.{Text, In, Moves, MovesIn}
use Rattle.tn_request.specs.declared.request.RunSource.{RunSource}
use Rattle.tn_request.specs.declared.request.RunSource.TheVariants.{ByPicks, ByRound}
use Rattle.tn_request.specs.declared.request.ExpectationArgs.{ExpectationArgs}
use Rattle.tn_request.specs.declared.request.MessageArgs.{MessageArgs}
use Rattle.tn_request.specs.declared.request.SessionArgs.{SessionArgs}
use Rattle.tn_request.specs.declared.request.SpecTestArgs.{SpecTestArgs}
use Rattle.tn_request.specs.declared.request.FunArgs.{FunArgs}
use Rattle.tn_request.specs.declared.request.ExploreArgs.{ExploreArgs}
use Rattle.tn_search.specs.declared.exploration.ListingOrder.{ListingOrder}
use Rattle.tn_search.specs.declared.exploration.ListingOrder.TheVariants.{Total, ByProcess}
use Rattle.tn_request.specs.declared.request.RunRequest.{RunRequest}
use Rattle.tn_request.specs.declared.request.RunRequest.TheVariants.{Replay, Explain, State, Draw, Round}
use Rattle.tn_request.specs.declared.request.Request.{Request}
use Rattle.tn_request.specs.declared.request.Request.TheVariants.{Run, Message, Workers, Spec, Fun, Explore}

-- the text that the command line gives for this name
abbrev pub argument : ArgMatches → List ℕ → Option (List ℕ)
argument m name = first_value (found_of m) name

-- the texts that it gives for an option that may be given many times
abbrev pub texts_given : ArgMatches → List ℕ → List (List ℕ)
texts_given m name = unwrap_or (option_map raw_values (matched_of (found_of m) name)) []

-- the flag of this name is given: `clap` gives a flag the text `true` where the words have it, else `false`
abbrev pub is_given : ArgMatches → List ℕ → Bool
is_given m name = option_map_or (λ text. bytes_eq text (codes "true")) (argument m name) false

-- ---- numbers

-- such a text is given, and its number is within these bounds
abbrev pub IsBetween : (least most : ℕ) → Option (List ℕ) → Type 0
IsBetween least most None = ⊥
IsBetween least most (Some text) = IsPlainNumber text × (least ≤ digits_value 10 text) × (digits_value 10 text ≤ most)

-- the number that is given
abbrev pub number_given : Option (List ℕ) → ℕ
number_given None = 0
number_given (Some text) = digits_value 10 text

-- this number is given, within these bounds
abbrev pub IsGiven : (least most : ℕ) → Option (List ℕ) → ℕ → Type 0
IsGiven least most text n = IsBetween least most text × (n ≡ number_given text)

-- the number, where one is given
abbrev pub IsNumberOrNone : {E : Type 0} → Option (List ℕ) → Result (Option ℕ) E → Type 0
IsNumberOrNone None r = r ≡ Ok None
IsNumberOrNone (Some text) r = MatchResult r (λ n. IsPlainNumber text × (n ≡ Some (digits_value 10 text))) (λ e. ¬ (IsPlainNumber text))

-- ---- processes and sessions

-- the text is decimal digits and nothing else, and this is their number
abbrev pub IsNumber : List ℕ → ℕ → Type 0
IsNumber text n = IsPlainNumber text × (n ≡ digits_value 10 text)

-- the text is a process's number, this one, or its pid `<0.N.0>`
abbrev pub NamesProcess : List ℕ → ℕ → Type 0
NamesProcess text n =
    IsNumber text n ⊎ ((digits : List ℕ) × (text ≡ codes "<0." ++ digits ++ codes ".0>") × IsNumber digits n)

-- the text is neither
abbrev pub NamesNoProcess : List ℕ → Type 0
NamesNoProcess text = (n : ℕ) → ¬ (NamesProcess text n)

-- the byte is no quote, 39, and no backslash, 92
abbrev pub is_inner : ℕ → Bool
is_inner c = not (c == 39) && not (c == 92)

-- what is between the first byte of a text and its last
abbrev pub inner_text : List ℕ → List ℕ
inner_text text = take (length text - 2) (drop 1 text)

-- the text begins and ends with a quote, and has no quote and no backslash between the two
abbrev pub is_in_quotes : List ℕ → Bool
is_in_quotes text = bytes_eq text (codes "'" ++ inner_text text ++ codes "'") && list_all is_inner (inner_text text)

-- the name of a session that a text gives, which may be in quotes as atoms are in scripts
abbrev pub session_named : List ℕ → List ℕ
session_named text = if is_in_quotes text then inner_text text else text

-- ---- texts

-- the source that a text names: standard input where it is `-` or absent, else the file with that path
abbrev pub IsSourceNamed : Option (List ℕ) → Source → Type 0
IsSourceNamed None s = s ≡ Input
IsSourceNamed (Some path) s =
    (path ≡ codes "-" → s ≡ Input) × (path ≢ codes "-" → (w : Bor (List ℕ)) × (s ≡ File w) × (w.now ≡ path))

-- the texts after two references, where there are any
abbrev pub IsTextOf : Option (List ℕ) → Option (Bor (List ℕ)) → Type 0
IsTextOf text word = option_map (λ w. w.now) word ≡ text

-- what a specification of this event is for
abbrev pub dialect_named : List ℕ → Dialect
dialect_named event =
    if bytes_eq event (codes "send") then Send
    else if bytes_eq event (codes "receive") then Recv
    else Call

-- the picks are in the file that `--picks-file` names, else the moves are in that of `--moves-file` or the text of
-- `--moves`, else the picks are the text of `--picks`
abbrev pub ArePicksOf : ArgMatches → PicksSource → Type 0
ArePicksOf m (In source) = IsSomeAnd (argument m (codes "picks-file")) (λ path. IsSourceNamed (Some path) source)
ArePicksOf m (MovesIn source) =
    (argument m (codes "picks-file") ≡ None) × IsSomeAnd (argument m (codes "moves-file")) (λ path. IsSourceNamed (Some path) source)
ArePicksOf m (Moves text) =
    (argument m (codes "picks-file") ≡ None) × (argument m (codes "moves-file") ≡ None) × (argument m (codes "moves") ≡ Some text.now)
ArePicksOf m (Text text) =
    (argument m (codes "picks-file") ≡ None) × (argument m (codes "moves-file") ≡ None) × (argument m (codes "moves") ≡ None)
    × (text.now ≡ unwrap_or (argument m (codes "picks")) [])

-- all commands of the control list are taken before the rounds
abbrev pub takes_control_first : ArgMatches → Bool
takes_control_first m = option_map_or (λ text. bytes_eq text (codes "first")) (argument m (codes "control")) false

-- the run is the round of `--limit` and `--control` where `--round` is given, else that by the picks
abbrev pub IsRunOf : ArgMatches → RunSource → Type 0
IsRunOf m (ByPicks picks) = (is_given m (codes "round") ≡ false) × ArePicksOf m picks
IsRunOf m (ByRound limit control_first) =
    (is_given m (codes "round") ≡ true) × IsGiven 1 65536 (argument m (codes "limit")) limit × (control_first ≡ takes_control_first m)

-- a picture is lines for a terminal where `--text` is given, JSON where `--json` is, else a graphic
abbrev pub picture_format_named : (is_text is_json : Bool) → PictureFormat
picture_format_named is_text is_json = if is_text then Plain else (if is_json then Json else Svg)

-- ---- commands

-- the text is decimal digits, one at least
abbrev pub has_only_digits : List ℕ → Bool
has_only_digits [] = false
has_only_digits (b ∷ bs) = list_all is_digit (b ∷ bs)

-- the first of the words of `explain` without a name is the number of a move
abbrev pub begins_with_number : ArgMatches → Bool
begins_with_number m = option_map_or has_only_digits (argument m (codes "script")) false

-- the word that gives the number of a move, and the one that names the script: the number comes after the script or before it
abbrev pub move_word : ArgMatches → Option (List ℕ)
move_word m = if begins_with_number m then argument m (codes "script") else argument m (codes "number")

abbrev pub script_word : ArgMatches → Option (List ℕ)
script_word m = if begins_with_number m then argument m (codes "number") else argument m (codes "script")

-- the other word is a number too
abbrev pub has_two_numbers : ArgMatches → Bool
has_two_numbers m = option_map_or has_only_digits (script_word m) false

-- another option says which moves are explained
abbrev pub asks_otherwise : ArgMatches → Bool
asks_otherwise m = is_some (argument m (codes "move")) || is_some (argument m (codes "message")) || is_some (argument m (codes "why-not"))

-- the word gives this number, and no option says which moves are explained
abbrev pub IsWordNumber : ArgMatches → List ℕ → Option ℕ → Type 0
IsWordNumber m word n = (asks_otherwise m ≡ false) × IsNumberOrNone {E = Unit {0}} (Some word) (Ok n)

-- the number of the move that is asked for: that of the word, where there is one, else that of `--move`
abbrev pub IsMoveAsked : ArgMatches → Option (List ℕ) → Option ℕ → Type 0
IsMoveAsked m (Some word) n = (has_two_numbers m ≡ false) × IsWordNumber m word n
IsMoveAsked m None n = IsNumberOrNone {E = Unit {0}} (argument m (codes "move")) (Ok n)

-- the session that `--session` names, the move that is asked for, and whether `--node` is given
abbrev pub IsAskedOf : ArgMatches → Filter → Type 0
IsAskedOf m a =
    IsTextOf (option_map session_named (argument m (codes "session"))) a.session
    × IsMoveAsked m (move_word m) a.move_number
    × (a.node ≡ is_given m (codes "node"))

-- the text of `--message` is the number of a message, where it is digits
abbrev pub message_digits : Option (List ℕ) → Option (List ℕ)
message_digits None = None
message_digits (Some text) = if has_only_digits text then Some text else None

-- the digits give no number, or no session is named
abbrev pub NumberLacks : ArgMatches → List ℕ → Type 0
NumberLacks m digits = (argument m (codes "session") ≡ None) ⊎ (¬ (IsPlainNumber digits))

-- `--message` gives the number of a message of the session that `--session` names
abbrev pub IsMessageNumber : ArgMatches → ℕ → Type 0
IsMessageNumber m k =
    IsSomeAnd (message_digits (argument m (codes "message"))) (λ digits. IsNumber digits k) × (is_some (argument m (codes "session")) ≡ true)

-- it gives digits, and there is no such number or no session
abbrev pub LacksMessageNumber : ArgMatches → Type 0
LacksMessageNumber m = IsSomeAnd (message_digits (argument m (codes "message"))) (NumberLacks m)

-- the pattern that `--message` gives, or else the one of `--why-not`, whose message isn't sent
abbrev pub IsPatternGiven : ArgMatches → MessageArgs → Type 0
IsPatternGiven m a =
    ((a.is_missing ≡ false) × (argument m (codes "message") ≡ Some a.pattern.now))
    ⊎ ((a.is_missing ≡ true) × (argument m (codes "message") ≡ None) × (argument m (codes "why-not") ≡ Some a.pattern.now))

-- the same, where `--message` gives no digits
abbrev pub IsMessageGiven : ArgMatches → MessageArgs → Type 0
IsMessageGiven m a = IsPatternGiven m a × (message_digits (argument m (codes "message")) ≡ None)

-- neither is given
abbrev pub LacksMessage : ArgMatches → Type 0
LacksMessage m = (argument m (codes "message") ≡ None) × (argument m (codes "why-not") ≡ None)

-- the message by which moves are chosen, where one is asked for and `--message` isn't digits
abbrev pub IsMessageAsked : ArgMatches → Option MessageArgs → Type 0
IsMessageAsked m None = LacksMessage m
IsMessageAsked m (Some a) = IsPatternGiven m a

-- the message of the number that `--message` gives, or none where there is no pattern either
abbrev pub IsNumberAsked : ArgMatches → Option MessageFilter → Type 0
IsNumberAsked m None = LacksMessage m
IsNumberAsked m (Some (filters.Number k)) = IsMessageNumber m k
IsNumberAsked m (Some (filters.Choice c)) = ⊥

-- the state after so many moves, and the session that `--session` names
abbrev pub IsStateOf : ArgMatches → StateQuestion → Type 0
IsStateOf m q =
    IsTextOf (option_map session_named (argument m (codes "session"))) q.session
    × IsGiven 0 4294967295 (argument m (codes "at")) q.move_number

-- what `--for`, `--list`, `--me` and `--caller` give, and the specification or its file
abbrev pub IsTrialOf : ArgMatches → SpecTestArgs → Type 0
IsTrialOf m t =
    (t.dialect ≡ dialect_named (unwrap_or (argument m (codes "for")) (codes "call")))
    × (words_of t.lists.now ≡ texts_given m (codes "list"))
    × NamesProcess (unwrap_or (argument m (codes "me")) []) t.self_pid
    × IsTextOf (argument m (codes "caller")) t.caller
    × IsTextOf (argument m (codes "specification")) t.specification
    × IsTextOf (argument m (codes "file")) t.file
    × (t.fun ≡ is_given m (codes "fun"))

-- the event that `--for` names, whether `--pretty` is given, and the text
abbrev pub IsFunOf : ArgMatches → FunArgs → Type 0
IsFunOf m f =
    (f.dialect ≡ dialect_named (unwrap_or (argument m (codes "for")) (codes "call")))
    × (f.pretty ≡ is_given m (codes "pretty"))
    × IsTextOf (argument m (codes "fun")) f.text

-- the moves with which all schedules begin: all commands of the control list where `--control first` is given, else those of `--after`
abbrev pub first_moves : ArgMatches → List ℕ
first_moves m = if takes_control_first m then codes "0!" else unwrap_or (argument m (codes "after")) []

-- which messages are in an order: all of a session, or those of one process
abbrev pub order_named : List ℕ → ListingOrder
order_named order = if bytes_eq order (codes "total") then Total else ByProcess

-- the form of an answer, by whether `--json` is given
abbrev pub form_given : Bool → AnswerForm
form_given true = forms.Json
form_given false = forms.Plain

-- that of listings, which may be their summary
abbrev pub listings_form_by : (is_summary is_json : Bool) → AnswerForm
listings_form_by true is_json = forms.Summary
listings_form_by false is_json = form_given is_json

-- the form that `--summary` and `--json` ask for
abbrev pub listings_form_given : ArgMatches → AnswerForm
listings_form_given m = listings_form_by (is_given m (codes "summary")) (is_given m (codes "json"))

-- so many random runs with this seed, or with 0
abbrev pub random_runs_given : (runs seed : Option ℕ) → Option RandomRuns
random_runs_given None seed = None
random_runs_given (Some n) seed = Some (record { runs = n; seed = unwrap_or seed 0 })

-- the random runs that `--random` and `--seed` ask for
abbrev pub AreRandomRunsOf : ArgMatches → Option RandomRuns → Type 0
AreRandomRunsOf m r =
    (runs : Option ℕ) × (seed : Option ℕ) × IsNumberOrNone {E = Unit {0}} (argument m (codes "random")) (Ok runs)
    × IsNumberOrNone {E = Unit {0}} (argument m (codes "seed")) (Ok seed) × (r ≡ random_runs_given runs seed)

-- one of the two is given, and isn't a number
abbrev pub LacksRandomNumber : ArgMatches → Type 0
LacksRandomNumber m =
    IsSomeAnd (argument m (codes "random")) (λ text. ¬ (IsPlainNumber text)) ⊎ IsSomeAnd (argument m (codes "seed")) (λ text. ¬ (IsPlainNumber text))

-- the script, the first moves, what `--order` and `--session` name, the patterns, the number of `--max-states`, whether `--reduce` is given, the random runs, and the form
abbrev pub IsExplorationOf : ArgMatches → ExploreArgs → Type 0
IsExplorationOf m x =
    IsSourceNamed (argument m (codes "script")) x.script
    × (x.before.now ≡ first_moves m)
    × (x.order ≡ order_named (unwrap_or (argument m (codes "order")) (codes "process")))
    × IsTextOf (option_map session_named (argument m (codes "session"))) x.session
    × (words_of x.shows.now ≡ texts_given m (codes "shows"))
    × (words_of x.always.now ≡ texts_given m (codes "always"))
    × (words_of x.never.now ≡ texts_given m (codes "never"))
    × (words_of x.sometimes.now ≡ texts_given m (codes "sometimes"))
    × (x.trace ≡ None)
    × IsGiven 1 4294967295 (argument m (codes "max-states")) x.max_states
    × (x.reduces ≡ is_given m (codes "reduce"))
    × AreRandomRunsOf m x.random
    × (x.form ≡ listings_form_given m)

-- it is about no pattern
pub record IsAboutNoPattern (x : ExploreArgs) : Type 0 where
  pub shows : x.shows.now ≡ []
  pub always : x.always.now ≡ []
  pub never : x.never.now ≡ []
  pub sometimes : x.sometimes.now ≡ []

-- the script, the first moves, what `--order` and `--session` name, the file of `--trace`, whether `--prefix` is given, the number of `--max-states`, and the form
abbrev pub IsComparisonOf : ArgMatches → ExploreArgs → Type 0
IsComparisonOf m x =
    IsSourceNamed (argument m (codes "script")) x.script
    × (x.before.now ≡ first_moves m)
    × (x.order ≡ order_named (unwrap_or (argument m (codes "order")) (codes "process")))
    × IsTextOf (option_map session_named (argument m (codes "session"))) x.session
    × IsAboutNoPattern x
    × IsTextOf (argument m (codes "trace")) x.trace
    × (x.goes_on ≡ is_given m (codes "prefix"))
    × IsGiven 1 4294967295 (argument m (codes "max-states")) x.max_states
    × (x.reduces ≡ false)
    × (x.random ≡ None)
    × (x.form ≡ form_given (is_given m (codes "json")))

-- a source that is given is the one that the text names
abbrev pub IsSourceOrNone : Option (List ℕ) → Option Source → Type 0
IsSourceOrNone None s = s ≡ None
IsSourceOrNone (Some path) s = IsSomeAnd s (IsSourceNamed (Some path))

-- the session that the first text names, and the source that the second names; none where there are fewer
abbrev pub IsListingOf : List (List ℕ) → Option SessionArgs → Type 0
IsListingOf [] s = s ≡ None
IsListingOf (name ∷ []) s = s ≡ None
IsListingOf (name ∷ path ∷ more) s = IsSomeAnd s (λ l. (l.name.now ≡ session_named name) × IsSourceNamed (Some path) l.source)

-- the source that `--expect` names, the listing of `--expect-session`, the lines of `--expect-line` and `--reject-line`, and
-- whether `--strict` is given
pub record IsExpectationOf (m : ArgMatches) (e : ExpectationArgs) : Type 0 where
  pub output : IsSourceOrNone (argument m (codes "expect")) e.output
  pub session : IsListingOf (texts_given m (codes "expect-session")) e.session
  pub lines : words_of e.lines.now ≡ texts_given m (codes "expect-line")
  pub no_lines : words_of e.no_lines.now ≡ texts_given m (codes "reject-line")
  pub strict : e.strict ≡ is_given m (codes "strict")

-- `run` is a round after the control list, and `round` one after it where `--control first` is given
abbrev pub IsRound : List ℕ → ArgMatches → Bool → Type 0
IsRound name m control_first = ((name ≡ codes "run") × (control_first ≡ true)) ⊎ ((name ≡ codes "round") × (control_first ≡ takes_control_first m))

-- which run by a schedule the subcommand of this name asks for, by what was found after it
abbrev pub AsksRun : List ℕ → ArgMatches → RunRequest → Type 0
AsksRun name m (Replay script picks quiet expectation) =
    (name ≡ codes "replay") × IsSourceNamed (argument m (codes "script")) script × ArePicksOf m picks
    × (quiet ≡ is_given m (codes "quiet")) × IsExpectationOf m expectation
AsksRun name m (Explain script run filter message expectation) =
    (name ≡ codes "explain") × IsSourceNamed (script_word m) script × IsRunOf m run × IsAskedOf m filter
    × IsNumberAsked m message × IsExpectationOf m expectation
AsksRun name m (State script run question expectation) =
    (name ≡ codes "state") × IsSourceNamed (argument m (codes "script")) script × IsRunOf m run × IsStateOf m question
    × IsExpectationOf m expectation
AsksRun name m (Draw script run format expectation) =
    (name ≡ codes "draw") × IsSourceNamed (argument m (codes "script")) script × IsRunOf m run
    × (format ≡ picture_format_named (is_given m (codes "text")) (is_given m (codes "json"))) × IsExpectationOf m expectation
AsksRun name m (Round script limit control_first quiet expectation) =
    IsRound name m control_first × IsSourceNamed (argument m (codes "script")) script × IsGiven 1 65536 (argument m (codes "limit")) limit
    × (quiet ≡ is_given m (codes "quiet")) × IsExpectationOf m expectation

-- what the subcommand of this name asks for
abbrev pub Asks : List ℕ → ArgMatches → Request → Type 0
Asks name m (Run run) = AsksRun name m run
Asks name m (Message r) =
    (name ≡ codes "explain") × IsSourceNamed (script_word m) r.script × IsRunOf m r.run × IsAskedOf m r.filter
    × IsMessageGiven m r.message × IsExpectationOf m r.expectation
Asks name m (Workers w) =
    (name ≡ codes "workers") × IsSourceNamed (argument m (codes "script")) w.script
    × IsGiven 1 16 (argument m (codes "n")) w.count × IsGiven 1 65536 (argument m (codes "turns")) w.turns
    × IsNumberOrNone {E = Unit {0}} (argument m (codes "spread")) (Ok w.spread)
    × (w.quiet ≡ is_given m (codes "quiet")) × IsExpectationOf m w.expectation
Asks name m (Spec trial) = (name ≡ codes "spec") × IsTrialOf m trial
Asks name m (Fun fun) = (name ≡ codes "fun") × IsFunOf m fun
Asks name m (Explore exploration) = ((name ≡ codes "explore") × IsExplorationOf m exploration) ⊎ ((name ≡ codes "compare") × IsComparisonOf m exploration)

-- the run is a round, whose limit is no number or is out of its bounds
abbrev pub LacksLimit : ArgMatches → Type 0
LacksLimit m = (is_given m (codes "round") ≡ true) × (¬ (IsBetween 1 65536 (argument m (codes "limit"))))

-- the number of a move is none, a word gives one beside another option, or two words do
abbrev pub LacksMove : ArgMatches → Type 0
LacksMove m =
    IsSomeAnd (argument m (codes "move")) (λ text. ¬ (IsPlainNumber text))
    ⊎ IsSomeAnd (move_word m) (λ text. (asks_otherwise m ≡ true) ⊎ (¬ (IsPlainNumber text)))
    ⊎ (has_two_numbers m ≡ true)

-- a number that the subcommand of this name was given isn't one, or is out of its bounds; for `spec` also no pid
abbrev pub LacksNumber : List ℕ → ArgMatches → Type 0
LacksNumber name m =
    ((name ≡ codes "explain") × LacksMove m)
    ⊎ ((name ≡ codes "explain") × LacksLimit m)
    ⊎ ((name ≡ codes "explain") × LacksMessageNumber m)
    ⊎ ((name ≡ codes "state") × (¬ (IsBetween 0 4294967295 (argument m (codes "at")))))
    ⊎ ((name ≡ codes "state") × LacksLimit m)
    ⊎ ((name ≡ codes "draw") × LacksLimit m)
    ⊎ ((name ≡ codes "run") × (¬ (IsBetween 1 65536 (argument m (codes "limit")))))
    ⊎ ((name ≡ codes "round") × (¬ (IsBetween 1 65536 (argument m (codes "limit")))))
    ⊎ ((name ≡ codes "workers") × (¬ (IsBetween 1 16 (argument m (codes "n")) × IsBetween 1 65536 (argument m (codes "turns")))))
    ⊎ ((name ≡ codes "workers") × IsSomeAnd (argument m (codes "spread")) (λ text. ¬ (IsPlainNumber text)))
    ⊎ ((name ≡ codes "spec") × NamesNoProcess (unwrap_or (argument m (codes "me")) []))
    ⊎ ((name ≡ codes "explore") × (¬ (IsBetween 1 4294967295 (argument m (codes "max-states")))))
    ⊎ ((name ≡ codes "explore") × LacksRandomNumber m)
    ⊎ ((name ≡ codes "compare") × (¬ (IsBetween 1 4294967295 (argument m (codes "max-states")))))

-- the subcommand that was found lacks a number
pub record IsWithoutNumber (m : ArgMatches) : Type 0 where
  pub name : List ℕ
  pub given : ArgMatches
  pub named : subcommand_name_of m ≡ Some name
  pub found : option_map (λ p. p.1) (subcommand_rows_of m) ≡ Some (rows_of (found_of given))
  pub lacks : LacksNumber name given

-- no subcommand was found, or one of another name
abbrev pub NamesNoCommand : ArgMatches → Type 0
NamesNoCommand m =
    (subcommand_name_of m ≢ Some (codes "run")) × (subcommand_name_of m ≢ Some (codes "replay")) × (subcommand_name_of m ≢ Some (codes "explain")) × (subcommand_name_of m ≢ Some (codes "state")) × (subcommand_name_of m ≢ Some (codes "draw")) × (subcommand_name_of m ≢ Some (codes "round"))
    × (subcommand_name_of m ≢ Some (codes "workers")) × (subcommand_name_of m ≢ Some (codes "spec")) × (subcommand_name_of m ≢ Some (codes "fun")) × (subcommand_name_of m ≢ Some (codes "explore")) × (subcommand_name_of m ≢ Some (codes "compare"))

-- the subcommand that was found asks for it
pub record IsAskedBy (m : ArgMatches) (ask : Request) : Type 0 where
  pub name : List ℕ
  pub given : ArgMatches
  pub named : subcommand_name_of m ≡ Some name
  pub found : option_map (λ p. p.1) (subcommand_rows_of m) ≡ Some (rows_of (found_of given))
  pub asks : Asks name given ask
