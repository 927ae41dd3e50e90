-- Which picks a run is asked for (own).
-- Depends on the texts of picks and of moves, and on the picks of a round.
use Rattle.std.specs.Prelude.{◌≡◌, ℕ, List, [], All}
use Rattle.def_script.specs.Program.{Program}
use Rattle.def_run.specs.Run.{moves}
use Rattle.def_run.specs.Round.{pass, round}
use Rattle.def_run.specs.Picks.{SpellsPicks}
use Rattle.def_run.specs.Laws.{IsIdleAfter}
use Rattle.def_moves.specs.Directives.{picks_of_directives, CONTROL_FIRST}
use Rattle.def_moves.specs.Texts.{HasMoves}
use Rattle.tn_moves.specs.Readings.{IsMovesRefusal}
use Rattle.tn_moves.specs.declared.schedule.Schedule.{Schedule}
use Rattle.tn_moves.specs.declared.schedule.Schedule.TheVariants.{Picks, Moves, Round, ControlFirst}
use Rattle.tn_moves.specs.declared.text.MovesRefusal.{MovesRefusal}

-- what a run is asked for: the picks of a text, the moves of a text, a round with a limit, the same after all commands
-- of the control list, or the picks that workers made
pub data ScheduleView : Type 0 where
  by_picks : List ℕ → ScheduleView
  by_moves : List ℕ → ScheduleView
  by_round : ℕ → ScheduleView
  by_control_first : ℕ → ScheduleView
  by_workers : List ℕ → ScheduleView

abbrev pub schedule_seen : Schedule → ScheduleView
schedule_seen (Picks text) = by_picks text.now
schedule_seen (Moves text) = by_moves text.now
schedule_seen (Round limit) = by_round limit
schedule_seen (ControlFirst limit) = by_control_first limit

-- the picks of a journal after which none of a pass moves
pub record IsAtRest (p : Program) (picks : List ℕ) : Type 0 where
  pub moved : moves p picks ≡ picks
  pub rests : All (IsIdleAfter p picks) pass

-- the picks that are asked of a program
abbrev pub ArePicks : ScheduleView → Program → List ℕ → Type 0
ArePicks (by_picks text) p picks = SpellsPicks text picks
ArePicks (by_moves text) p picks = HasMoves p text picks
ArePicks (by_round limit) p picks = picks ≡ round p limit
ArePicks (by_control_first limit) p picks = picks ≡ picks_of_directives p limit CONTROL_FIRST
ArePicks (by_workers made) p picks = (picks ≡ made) × IsAtRest p made

-- the text of picks spells some, where one is given: it is read before the script
abbrev pub HasPicks : ScheduleView → Type 0
HasPicks (by_picks text) = (picks : List ℕ) × SpellsPicks text picks
HasPicks (by_moves text) = Unit {0}
HasPicks (by_round limit) = Unit {0}
HasPicks (by_control_first limit) = Unit {0}
HasPicks (by_workers made) = Unit {0}

-- the picks are those that the text of picks spells, where one is given, else none
abbrev pub IsSpelledBy : ScheduleView → List ℕ → Type 0
IsSpelledBy (by_picks text) picks = SpellsPicks text picks
IsSpelledBy (by_moves text) picks = picks ≡ []
IsSpelledBy (by_round limit) picks = picks ≡ []
IsSpelledBy (by_control_first limit) picks = picks ≡ []
IsSpelledBy (by_workers made) picks = picks ≡ []

-- the text of moves is refused so for a program
abbrev pub AreBadMoves : ScheduleView → Program → MovesRefusal → Type 0
AreBadMoves (by_picks text) p r = ⊥
AreBadMoves (by_moves text) p r = IsMovesRefusal p text r
AreBadMoves (by_round limit) p r = ⊥
AreBadMoves (by_control_first limit) p r = ⊥
AreBadMoves (by_workers made) p r = ⊥

-- this holds of the picks that are asked of the program
pub record OfPicks (a : ScheduleView) (p : Program) (holds : List ℕ → Type 0) : Type 0 where
  pub picks : List ℕ
  pub given : ArePicks a p picks
  pub so : holds picks

-- they are those of the picks that are asked of the program that move
pub record AreMovesOf (a : ScheduleView) (p : Program) (made : List ℕ) : Type 0 where
  pub picks : List ℕ
  pub given : ArePicks a p picks
  pub moved : made ≡ moves p picks
