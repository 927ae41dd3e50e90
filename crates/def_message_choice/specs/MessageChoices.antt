-- Which moves of a run are chosen by a message: those at which a session sends one that matches a pattern, or those with an event whose message would match, where a session sends none (own).
-- Depends on the history of a run, on the message that a session reports of an event, and on what it is to match a pattern.
use Rattle.std.specs.Prelude.{◌≡◌, Bool, true, false, ◌&&◌, ◌||◌, Option, Some, None}
use Rattle.std.specs.List.{list_any}
use Rattle.def_term.specs.Names.{Name}
use Rattle.def_term.specs.Tree.{Tree, tuple, of_elements}
use Rattle.def_spec.specs.Matching.{Pattern}
use Rattle.def_node.specs.Event.{Event}
use Rattle.def_session.specs.Messages.{elements_of}
use Rattle.def_session.specs.State.{Session}
use Rattle.def_session.specs.Session.{event_reported}
use Rattle.def_run.specs.Run.{HistoryItem, event_item, command_item}
use Rattle.def_run.specs.History.{NamedSession, Moment, MoveHistory}
use Rattle.def_explain.specs.Lists.{One}
use Rattle.def_explain.specs.RunTexts.{is_session}
use Rattle.def_explore.specs.Words.{is_match}

-- a session sends a message that matches, or it sends none where one would match
pub data MessageChoice : Type 0 where
  sends : Pattern → MessageChoice
  sends_none : Pattern → MessageChoice

-- the message of an event by its trace flag alone, with the arguments of a call or with its arity
abbrev pub flag_message : (short : Bool) → Event → Tree
flag_message short e = tuple (of_elements (elements_of short e))

-- ---- what is chosen

-- a session in this state sends this message of the event
abbrev pub Sends : Session → Event → Tree → Type 0
Sends s e t = (event_reported s e).1 ≡ Some t

-- or none
abbrev pub SendsNone : Session → Event → Type 0
SendsNone s e = (event_reported s e).1 ≡ None

-- the message of the event would match, with the arguments or with the arity
abbrev pub WouldMatch : Pattern → Event → Type 0
WouldMatch a e = (short : Bool) × (is_match a (flag_message short e) ≡ true)

-- the event is chosen by what a session in this state sends of it
abbrev pub ChoosesEvent : MessageChoice → Session → Event → Type 0
ChoosesEvent (sends a) s e = (t : Tree) × Sends s e t × (is_match a t ≡ true)
ChoosesEvent (sends_none a) s e = SendsNone s e × WouldMatch a e

-- the session is the one of this name, where one is given, and chooses what is shown; a command has no message
abbrev pub Chooses : MessageChoice → Option Name → HistoryItem → NamedSession → Type 0
Chooses c n (event_item e) s = (is_session n s.0 ≡ true) × ChoosesEvent c s.1 e
Chooses c n (command_item k) s = ⊥

-- one of the sessions chooses the event of a moment, in its state before it
abbrev pub IsChosenMoment : MessageChoice → Option Name → Moment → Type 0
IsChosenMoment c n m = One (Chooses c n m.item) m.before

-- one of the moments of a move is chosen
abbrev pub IsChosen : MessageChoice → Option Name → MoveHistory → Type 0
IsChosen c n h = One (IsChosenMoment c n) h.moments

-- ---- the same, computed

-- one of the two messages would match; of what is sent this isn't asked
abbrev pub would_match : MessageChoice → Event → Bool
would_match (sends a) e = false
would_match (sends_none a) e = is_match a (flag_message false e) || is_match a (flag_message true e)

-- by the message that a session sends, and by whether one would match
abbrev pub chooses_message : MessageChoice → (would : Bool) → Option Tree → Bool
chooses_message (sends a) would None = false
chooses_message (sends a) would (Some t) = is_match a t
chooses_message (sends_none a) would None = would
chooses_message (sends_none a) would (Some t) = false

abbrev pub chooses_event : MessageChoice → Session → Event → Bool
chooses_event c s e = chooses_message c (would_match c e) (event_reported s e).1

abbrev pub chooses : MessageChoice → Option Name → HistoryItem → NamedSession → Bool
chooses c n (event_item e) s = is_session n s.0 && chooses_event c s.1 e
chooses c n (command_item k) s = false

abbrev pub is_chosen_moment : MessageChoice → Option Name → Moment → Bool
is_chosen_moment c n m = list_any (chooses c n m.item) m.before

abbrev pub is_chosen : MessageChoice → Option Name → MoveHistory → Bool
is_chosen c n h = list_any (is_chosen_moment c n) h.moments
