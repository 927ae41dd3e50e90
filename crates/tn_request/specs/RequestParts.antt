-- The parts of a request, whatever it asks for: the script, a text beside it, and what the output must be (own).
use Rattle.std.specs.Prelude.{◌≡◌, ℕ, false, [], if◌then◌else◌, List, Option, Some, None, codes}
use Rattle.std.specs.Borrow.{Bor}
use Rattle.std.specs.Str.{bytes_eq}
use Rattle.tn_command.specs.declared.source.Source.{Source}
use Rattle.tn_command.specs.declared.source.Source.TheVariants.{Input, File}
use Rattle.tn_request.specs.declared.request.ExpectationArgs.{ExpectationArgs}
use Rattle.tn_request.specs.declared.request.PicksSource.{PicksSource}
use Rattle.tn_request.specs.declared.request.PicksSource.TheVariants as picks
use Rattle.tn_request.specs.declared.request.RunSource.{RunSource}
use Rattle.tn_request.specs.declared.request.RunSource.TheVariants.{ByPicks, ByRound}
use Rattle.tn_request.specs.declared.request.RunRequest.{RunRequest}
use Rattle.tn_request.specs.declared.request.RunRequest.TheVariants.{Replay, Explain, State, Draw, Round}
use Rattle.tn_request.specs.declared.request.Request.{Request}
use Rattle.tn_request.specs.declared.request.Request.TheVariants.{Run, Message, Workers, Spec, Fun, Explore}
use Rattle.tn_request.specs.declared.request.TextSource.{TextSource}
use Rattle.tn_request.specs.declared.request.TextSource.TheVariants.{Picks, Moves, Specification, Trace}

-- what the output of a run must be
abbrev pub run_expectation : RunRequest → ExpectationArgs
run_expectation (Replay script picks quiet e) = e
run_expectation (Explain script run filter message e) = e
run_expectation (State script run question e) = e
run_expectation (Draw script run format e) = e
run_expectation (Round script limit control_first quiet e) = e

-- where the script of a run is
abbrev pub run_script : RunRequest → Source
run_script (Replay script picks quiet e) = script
run_script (Explain script run filter message e) = script
run_script (State script run question e) = script
run_script (Draw script run format e) = script
run_script (Round script limit control_first quiet e) = script

-- where the script of a request is; a trial and a fun have none
abbrev pub script_asked : Request → Option Source
script_asked (Run run) = Some (run_script run)
script_asked (Message m) = Some m.script
script_asked (Workers workers) = Some workers.script
script_asked (Spec trial) = None
script_asked (Fun fun) = None
script_asked (Explore exploration) = Some exploration.script

-- nothing is said of the output
pub record IsAnyOutput (e : ExpectationArgs) : Type 0 where
  pub output : e.output ≡ None
  pub session : e.session ≡ None
  pub lines : e.lines.now ≡ []
  pub no_lines : e.no_lines.now ≡ []
  pub strict : e.strict ≡ false

-- what the output of a request must be: anything, of a trial, a fun or an exploration
abbrev pub IsRequestExpectation : Request → ExpectationArgs → Type 0
IsRequestExpectation (Run run) e = e ≡ run_expectation run
IsRequestExpectation (Message m) e = e ≡ m.expectation
IsRequestExpectation (Workers workers) e = e ≡ workers.expectation
IsRequestExpectation (Spec trial) e = IsAnyOutput e
IsRequestExpectation (Fun fun) e = IsAnyOutput e
IsRequestExpectation (Explore exploration) e = IsAnyOutput e

-- the text of picks or of moves that is to be read: none where it is given
abbrev pub picks_source_asked : PicksSource → Option TextSource
picks_source_asked (picks.Text words) = None
picks_source_asked (picks.In source) = Some (Picks source)
picks_source_asked (picks.Moves words) = None
picks_source_asked (picks.MovesIn source) = Some (Moves source)

-- that of a run that is explained or drawn, or has a state that is asked for
abbrev pub run_source_asked : RunSource → Option TextSource
run_source_asked (ByPicks source) = picks_source_asked source
run_source_asked (ByRound limit control_first) = None

-- that of any run by a schedule
abbrev pub run_text_source : RunRequest → Option TextSource
run_text_source (Replay script source quiet e) = picks_source_asked source
run_text_source (Explain script run filter message e) = run_source_asked run
run_text_source (State script run question e) = run_source_asked run
run_text_source (Draw script run format e) = run_source_asked run
run_text_source (Round script limit control_first quiet e) = None

-- the specification is to be read where a file has it, or where none is given, or `-` is; the fun too
abbrev pub spec_text_source : (file specification : Option (Bor (List ℕ))) → Option TextSource
spec_text_source (Some path) specification = Some (Specification (File path))
spec_text_source None None = Some (Specification Input)
spec_text_source None (Some words) = if bytes_eq words.now (codes "-") then Some (Specification Input) else None

-- the trace is to be read from the file that has it
abbrev pub trace_source : Option (Bor (List ℕ)) → Option TextSource
trace_source None = None
trace_source (Some path) = Some (Trace (File path))

-- the text that is to be read beside the script
abbrev pub text_source_asked : Request → Option TextSource
text_source_asked (Run run) = run_text_source run
text_source_asked (Message m) = run_source_asked m.run
text_source_asked (Workers workers) = None
text_source_asked (Spec trial) = spec_text_source trial.file trial.specification
text_source_asked (Fun fun) = spec_text_source None fun.text
text_source_asked (Explore exploration) = trace_source exploration.trace
