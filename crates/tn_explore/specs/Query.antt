-- What is asked of a program, and what the definitions of an exploration say of it.
-- Depends on the definitions of an exploration.
use Rattle.std.specs.Prelude.{◌≡◌, ◌<◌, ℕ, Bool, true, false, List, length}
use Rattle.def_term.specs.Names.{Name}
use Rattle.def_script.specs.Program.{Program}
use Rattle.def_run.specs.Run.{JOURNAL, moves}
use Rattle.def_explore.specs.Rests.{RunQuestion, KeptMessages, kept_in}
use Rattle.def_explore.specs.Alike.{IsStateAlike, HasStateOf, is_pick_among, AreIndependent}
use Rattle.def_explore.specs.Answers.{RestEntry, IsJournalFrom, IsEntryFor, IsNoLonger}
use Rattle.def_explore.specs.RunsToEnd.{IsFollowed, IsEndAfter, HasNextWithin, IsTriedWithin, HaveAllStates}

-- a program, the picks that a run begins with, a question, the sessions that it is about, and what is kept of the runs that are followed
pub record Query : Type 0 where
  pub program : Program
  pub before : List ℕ
  pub question : RunQuestion
  pub sessions : List Name
  pub admits : KeptMessages → Bool

-- the journal goes on from the first picks, each of its picks moves, and it is followed
pub record JournalFor (a : Query) (journal : List ℕ) : Type 0 where
  pub from : IsJournalFrom a.program a.before journal
  pub followed : IsFollowed a.admits a.question a.sessions a.program (moves a.program a.before) from.more

abbrev pub EndFor : Query → List ℕ → Type 0
EndFor a = IsEndAfter a.admits a.question a.sessions a.program

abbrev pub AlikeFor : Query → List ℕ → List ℕ → Type 0
AlikeFor a = IsStateAlike a.question a.sessions a.program

abbrev pub HasStateFor : Query → List (List ℕ) → List ℕ → Type 0
HasStateFor a = HasStateOf a.question a.sessions a.program

abbrev pub HasNextFor : Query → List (List ℕ) → List ℕ → Type 0
HasNextFor a = HasNextWithin a.admits a.question a.sessions a.program

abbrev pub IsTriedFor : Query → List (List ℕ) → List ℕ → Type 0
IsTriedFor a = IsTriedWithin a.admits a.question a.sessions a.program

-- after the journal all picks are tried, or, where some are left out, perhaps picks alone that are independent of all others
abbrev pub HasNextBy : Bool → Query → List (List ℕ) → List ℕ → Type 0
HasNextBy false a js j = HasNextFor a js j
HasNextBy true a js j = IsTriedFor a js j

abbrev pub HaveAllFor : Query → List (List ℕ) → Type 0
HaveAllFor a = HaveAllStates a.admits a.question a.sessions a.program a.before

abbrev pub kept_for : Query → List ℕ → KeptMessages
kept_for a picks = kept_in a.question a.sessions a.program picks

-- what is kept of the run by the journal, with it
abbrev pub entry_for : Query → List ℕ → RestEntry
entry_for a journal = record { kept = kept_for a journal; journal = journal }

abbrev pub EntryFor : Query → List ℕ → RestEntry → Type 0
EntryFor a = IsEntryFor a.question a.sessions a.program

abbrev pub NoLongerFor : Query → List ℕ → RestEntry → Type 0
NoLongerFor a = IsNoLonger a.question a.sessions a.program

-- what is kept of the run by the journal is admitted
abbrev pub AdmitsFor : Query → List ℕ → Type 0
AdmitsFor a journal = a.admits (kept_for a journal) ≡ true

-- the journal has room for one more pick
abbrev pub HasJournalRoom : Query → List ℕ → Type 0
HasJournalRoom a journal = length (moves a.program journal) < JOURNAL

-- each run is followed, and these picks, at least one, are independent of all others
pub record AreFirstFor (a : Query) (journal picks : List ℕ) : Type 0 where
  pub room : HasJournalRoom a journal
  pub all : (kept : KeptMessages) → a.admits kept ≡ true
  pub one : ℕ
  pub there : is_pick_among one picks ≡ true
  pub independent : AreIndependent a.question a.sessions a.program journal picks
