-- What is promised of the state after a move (own).
-- Depends on states, on runs and on what a session makes of events.
use Rattle.std.specs.Prelude.{◌≡◌, ℕ, ◌<◌, ◌≤◌, false, ◌||◌, if◌then◌else◌, List, [], ◌∷◌, ◌++◌, length, take, filter, Option, Some, None, Ok}
use Rattle.std.specs.Str.{bytes_eq}
use Rattle.def_term.specs.Names.{Name}
use Rattle.def_script.specs.Program.{Command, Program}
use Rattle.def_script.specs.Exports.{exports_of}
use Rattle.def_node.specs.Event.{Call}
use Rattle.def_spec.specs.Flags.{Flag, Flags, flags_by_name, flags_listed}
use Rattle.def_spec.specs.Expressions.{for_calls, for_sends, for_receives}
use Rattle.def_session.specs.Settings.{Setting, off, plain, setting_of, setting_for}
use Rattle.def_session.specs.State.{live}
use Rattle.def_run.specs.Run.{JOURNAL, moves, pick_step_after}
use Rattle.def_run.specs.View.{is_own, View, view, strike_program, strike_picks}
use Rattle.def_run.specs.Listing.{messages, messages_from, state_of}
use Rattle.def_state.specs.Lines.{list_of}
use Rattle.def_state.specs.SettingTerms.{SettingTerm, FunctionTerm, commands_to, newest, send_term_of, receive_term_of, function_term_of, function_term_to}
use Rattle.def_state.specs.SessionTexts.{flags_among}
use Rattle.def_state.specs.States.{session_text, text_after, state_text}

-- ---- which picks a state depends on

-- the state after n moves is that of the run by the first n picks of the journal alone
abbrev pub StateIsOfTheJournal : Type 0
StateIsOfTheJournal = (asked : Option Name) (p : Program) (picks : List ℕ) (n : ℕ) → state_text asked p (take n (moves p picks)) n ≡ state_text asked p picks n

-- and later picks don't change it
abbrev pub LaterPicksLeaveTheState : Type 0
LaterPicksLeaveTheState =
    (asked : Option Name) (p : Program) (picks more : List ℕ) (n : ℕ) → n ≤ length (moves p picks) →
    state_text asked p (picks ++ more) n ≡ state_text asked p picks n

-- after as many moves as there are it is the state after all picks
abbrev pub LastStateIsOfAllPicks : Type 0
LastStateIsOfAllPicks = (asked : Option Name) (p : Program) (picks : List ℕ) → state_text asked p picks (length (moves p picks)) ≡ text_after asked p picks

-- ---- sessions

-- what is written of a session goes by its view
abbrev pub SessionGoesByTheView : Type 0
SessionGoesByTheView =
    (s : Name × Name) (p q : Program) (picks others : List ℕ) → view s.0 p picks ≡ view s.0 q others →
    session_text s (view s.0 p picks) ≡ session_text s (view s.0 q others)

-- without the commands of another session, and the picks that took them, it is the same, where the run did not meet the limit
abbrev pub SessionIsIsolated : Type 0
SessionIsIsolated =
    (s : Name × Name) (r : Name) (p : Program) (picks : List ℕ) → bytes_eq r s.0 ≡ false → length (moves p picks) < JOURNAL →
    session_text s (view s.0 (strike_program r p) (strike_picks r picks p.commands)) ≡ session_text s (view s.0 p picks)

-- ---- what the next pick is evaluated with

-- the messages of one more pick go by the state of the session, which is the one that is written
abbrev pub NextMessagesGoByTheState : Type 0
NextMessagesGoByTheState =
    (s : Name) (p : Program) (picks : List ℕ) (pick : ℕ) →
    messages s p (picks ++ pick ∷ []) ≡ messages s p picks ++ messages_from (exports_of p) (state_of (view s p picks)) (filter (is_own s) (pick_step_after p picks pick).shown)

-- the flags that are written of a set are read as that set
abbrev pub FlagsAreReadBack : Type 0
FlagsAreReadBack = (f : Flags) → (g : Flags) × (flags_listed (list_of (flags_among f flags_by_name)) ≡ Some g) × ((x : Flag) → g x ≡ f x)

-- what calls of a function are evaluated with, by what its line has
abbrev pub setting_by : Option FunctionTerm → Call → Setting
setting_by None c = off
setting_by (Some g) c = if g.0.local || c.named then g.0.setting else off

-- what is written of a function is what the next call of it is evaluated with
abbrev pub FunctionTermsAreTheSettings : Type 0
FunctionTermsAreTheSettings =
    (v : View) (c : Call) → (state_of v).phase ≡ live →
    setting_for (state_of v).functions c ≡ setting_by (newest (function_term_to c.mfa c.exported) (commands_to v.items)) c

-- where no command sets sends or receives, their setting is `true`
abbrev pub setting_or_plain : Option SettingTerm → Setting
setting_or_plain None = plain
setting_or_plain (Some g) = g.0

-- the same of sends and of receives
abbrev pub OtherTermsAreTheSettings : Type 0
OtherTermsAreTheSettings =
    (v : View) → (state_of v).phase ≡ live →
    ((state_of v).sending ≡ setting_or_plain (newest send_term_of (commands_to v.items)))
    × ((state_of v).receiving ≡ setting_or_plain (newest receive_term_of (commands_to v.items)))

-- the term that is written reads as the setting that is evaluated
abbrev pub TermsReadAsTheSettings : Type 0
TermsReadAsTheSettings =
    (c : Command) →
    ((g : FunctionTerm) → function_term_of c ≡ Some g → setting_of for_calls g.1 ≡ Ok g.0.setting)
    × ((g : SettingTerm) → send_term_of c ≡ Some g → setting_of for_sends g.1 ≡ Ok g.0)
    × ((g : SettingTerm) → receive_term_of c ≡ Some g → setting_of for_receives g.1 ≡ Ok g.0)
