-- What is promised of the moves that are asked for by a message (own).
-- Depends on which moves are chosen, on the move of the message of a number, on their accounts, and on listings.
use Rattle.std.specs.Prelude.{◌≡◌, ◌↔◌, ℕ, Bool, true, false, List, [], Option, Some, None}
use Rattle.std.specs.List.{list_any}
use Rattle.def_term.specs.Names.{Name}
use Rattle.def_spec.specs.Flags.{arity_flag}
use Rattle.def_spec.specs.Matching.{Pattern}
use Rattle.def_script.specs.Program.{Program}
use Rattle.def_script.specs.Script.{creations}
use Rattle.def_node.specs.Event.{Event}
use Rattle.def_session.specs.Messages.{process_of, elements_of, message_by}
use Rattle.def_session.specs.State.{Session, live, absent, destroyed, flags_at}
use Rattle.def_session.specs.Session.{inherit, effects_of, is_silenced}
use Rattle.def_run.specs.History.{MoveHistory, move_histories}
use Rattle.def_run.specs.Listing.{messages}
use Rattle.def_explain.specs.RunLaws.{IsOnce}
use Rattle.def_explore.specs.Words.{is_match}
use Rattle.def_message_choice.specs.MessageChoices.{MessageChoice, sends, flag_message, Sends, SendsNone, IsChosen, is_chosen}
use Rattle.def_message_choice.specs.MessageNumbers.{message_of_number, IsMoveOfMessage, move_of_message}
use Rattle.def_message_choice.specs.ChosenAccounts.{chosen_account_text, number_account_text}

-- what is computed is whether a move is chosen
abbrev pub ChoiceIsComputed : Type 0
ChoiceIsComputed = (c : MessageChoice) (n : Option Name) (h : MoveHistory) → (is_chosen c n h ≡ true) ↔ IsChosen c n h

-- ---- the message that would match

-- it is the message of an event with no effects
abbrev pub PlainMessageHasNoEffects : Type 0
PlainMessageHasNoEffects = (short : Bool) (e : Event) → message_by None (elements_of short e) ≡ Some (flag_message short e)

-- a session that is there, traces the event without a specification and isn't silent sends it: with the arity where its flag is set
abbrev pub PlainMessageIsSent : Type 0
PlainMessageIsSent =
    (s : Session) (e : Event) → s.phase ≡ live → effects_of (inherit s e) e ≡ Some [] → is_silenced (inherit s e) e ≡ false →
    Sends s e (flag_message (flags_at (inherit s e) (process_of e) arity_flag) e)

-- a session that isn't there, or was destroyed, sends none
abbrev pub AbsentSendsNone : Type 0
AbsentSendsNone = (s : Session) (e : Event) → s.phase ≡ absent → SendsNone s e

abbrev pub DestroyedSendsNone : Type 0
DestroyedSendsNone = (s : Session) (e : Event) → s.phase ≡ destroyed → SendsNone s e

-- ---- listings

-- a move is chosen by a message of a session exactly where a message of its listing matches
abbrev pub ListingHasTheChosen : Type 0
ListingHasTheChosen =
    (a : Pattern) (p : Program) (picks : List ℕ) (n : Name) → IsOnce n (creations p.commands) →
    list_any (is_chosen (sends a) (Some n)) (move_histories p picks) ≡ list_any (is_match a) (messages n p picks)

-- ---- the account

-- the account of all chosen moves, and of these sessions, is empty exactly where no move is chosen
abbrev pub NoAccountWhereNoneIsChosen : Type 0
NoAccountWhereNoneIsChosen =
    (c : MessageChoice) (n : Option Name) (p : Program) (picks : List ℕ) →
    (chosen_account_text c (record { session = n; move = None }) p picks ≡ []) ↔ (list_any (is_chosen c n) (move_histories p picks) ≡ false)

-- ---- the message of a number

-- what is computed is the move at which the session sends it
abbrev pub MoveOfMessageIsComputed : Type 0
MoveOfMessageIsComputed = (s : Name) (k : ℕ) (p : Program) (picks : List ℕ) (m : ℕ) → (move_of_message s k p picks ≡ Some m) ↔ IsMoveOfMessage s k p picks m

-- there is none exactly where the listing of the session has no message of this number
abbrev pub NoMoveWhereNoMessage : Type 0
NoMoveWhereNoMessage = (s : Name) (k : ℕ) (p : Program) (picks : List ℕ) → (move_of_message s k p picks ≡ None) ↔ (message_of_number k (messages s p picks) ≡ None)

-- and there the account of the move is empty
abbrev pub NoAccountWhereNoMessage : Type 0
NoAccountWhereNoMessage =
    (s : Name) (k : ℕ) (p : Program) (picks : List ℕ) →
    (number_account_text k (record { session = Some s; move = None }) p picks ≡ []) ↔ (message_of_number k (messages s p picks) ≡ None)
