-- What a session makes of an event, as a text and in its state.
use Rattle.std.specs.Prelude.{◌≡◌, ℕ, List, ◌++◌, Option, Some}
use Rattle.std.specs.Option.{option_map}
use Rattle.std.specs.declared.vec.Vec.{Vec}
use Rattle.def_term.specs.Names as names
use Rattle.def_node.specs.Event.{Event}
use Rattle.def_outlook.specs.Outlook.{Outlook}
use Rattle.def_session.specs.State as definition
use Rattle.def_session.specs.Session.{event_reported, is_silenced}
use Rattle.def_explain.specs.Accounts.{event_lines}
use Rattle.tn_flags.specs.Views.{event_of}
use Rattle.tn_flags.specs.declared.event.Event as flags
use Rattle.tn_session.specs.Messages.{message_seen}
use Rattle.tn_session.specs.Sessions.{SessionValue}
use Rattle.tn_session.specs.declared.message.Message.{Message}
use Rattle.tn_explain.specs.Evaluations.{is_done}
use Rattle.tn_explain.specs.LineParts.{both_of, reported_lines}
use Rattle.tn_explain.specs.Lines.{lines_text}
use Rattle.tn_explain.specs.declared.clauses.Evaluation.{Evaluation}
use Rattle.tn_explain.specs.declared.line.Lines.{Lines}

-- the session saw the event, and what it makes of it was appended, after the name, where this was known of the step before it
pub record Makes (l : Outlook) (s : SessionValue) (e : Event) (n : names.Name) (new : Option SessionValue) (before after : List ℕ) : Type 0 where
  pub state : new ≡ Some (record s { state = (event_reported s.state e).0 })
  pub text : after ≡ before ++ lines_text n (event_lines s.state l e)

-- the same of a session that is live, where these two inherit flags, or none does
abbrev pub MakesLive : {A : Type 0} → Option (ℕ × ℕ) → Outlook → SessionValue → flags.Event A → Lines A → Option SessionValue → (before after : Vec ℕ A) → Type 0
MakesLive both l s e lines new before after =
    s.state.phase ≡ definition.live → both_of (event_of e) ≡ both → Makes l s (event_of e) lines.name.now new before.items after.items

-- the same where the second of two processes inherits flags of the first, whatever was known
abbrev pub MakesOfBoth : {A : Type 0} → (giver taker : ℕ) → SessionValue → flags.Event A → Lines A → Option SessionValue → (before after : Vec ℕ A) → Type 0
MakesOfBoth giver taker s e lines new before after = (l : Outlook) → MakesLive (Some (giver, taker)) l s e lines new before after

-- what a session in this state reports of the event, or why nothing, was appended
abbrev pub ReportsLines : {A : Type 0} → SessionValue → Evaluation → flags.Event A → Option (Message A) → Lines A → (before after : Vec ℕ A) → Type 0
ReportsLines s r e m lines before after =
    after.items ≡ before.items ++ lines_text lines.name.now (reported_lines (is_done r) (is_silenced s.state (event_of e)) (option_map message_seen m))
