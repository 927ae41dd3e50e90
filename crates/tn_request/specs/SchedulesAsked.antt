-- Which picks a request asks for (own).
-- Depends on what a schedule is.
use Rattle.std.specs.Prelude.{ℕ, Bool, true, false, List}
use Rattle.tn_moves.specs.Schedules.{ScheduleView, by_picks, by_moves, by_round, by_control_first}
use Rattle.tn_request.specs.declared.request.PicksSource.{PicksSource}
use Rattle.tn_request.specs.declared.request.PicksSource.TheVariants.{Text, In, Moves, MovesIn}
use Rattle.tn_request.specs.declared.request.RunSource.{RunSource}
use Rattle.tn_request.specs.declared.request.RunSource.TheVariants.{ByPicks, ByRound}
use Rattle.tn_request.specs.declared.request.RunRequest.{RunRequest}
use Rattle.tn_request.specs.declared.request.RunRequest.TheVariants.{Replay, Explain, State, Draw, Round}

-- the picks or the moves of the words, or of the text that was read
abbrev pub picks_asked : PicksSource → (read : List ℕ) → ScheduleView
picks_asked (Text words) read = by_picks words.now
picks_asked (In source) read = by_picks read
picks_asked (Moves words) read = by_moves words.now
picks_asked (MovesIn source) read = by_moves read

-- a round, in which so many picks may move; after the control list where that is asked for
abbrev pub round_asked : (limit : ℕ) → (control_first : Bool) → ScheduleView
round_asked limit true = by_control_first limit
round_asked limit false = by_round limit

-- the run that is explained or drawn, or has a state that is asked for
abbrev pub run_asked : RunSource → (read : List ℕ) → ScheduleView
run_asked (ByPicks picks) read = picks_asked picks read
run_asked (ByRound limit control_first) read = round_asked limit control_first

-- the run of a request, with the text that was read of its picks or its moves
abbrev pub schedule_asked : RunRequest → (read : List ℕ) → ScheduleView
schedule_asked (Replay script picks quiet e) read = picks_asked picks read
schedule_asked (Explain script run filter message e) read = run_asked run read
schedule_asked (State script run question e) read = run_asked run read
schedule_asked (Draw script run format e) read = run_asked run read
schedule_asked (Round script limit control_first quiet e) read = round_asked limit control_first
