-- What is computed of a move is whether it is chosen.
use Rattle.std.proofs.Common.{◌≡◌, ◌⊎◌, inl, inr, Bool, true, false, ◌||◌, ◌&&◌, List, [], ◌∷◌, Option, Some, None, refl, ap, ◌∙◌}
use Rattle.std.specs.Prelude.{◌↔◌}
use Rattle.std.specs.List.{list_any}
use Rattle.def_term.specs.Names.{Name}
use Rattle.def_term.specs.Tree.{Tree}
use Rattle.def_spec.specs.Matching.{Pattern}
use Rattle.def_node.specs.Event.{Event}
use Rattle.def_session.specs.State.{Session}
use Rattle.def_session.specs.Session.{event_reported}
use Rattle.def_run.specs.Run.{HistoryItem, event_item, command_item}
use Rattle.def_run.specs.History.{NamedSession, Moment}
use Rattle.def_explain.specs.Lists.{One}
use Rattle.def_explain.specs.RunTexts.{is_session}
use Rattle.def_explore.specs.Words.{is_match}
use Rattle.def_message_choice.specs.MessageChoices.{MessageChoice, sends, sends_none, flag_message, WouldMatch, ChoosesEvent, Chooses, IsChosenMoment, would_match, chooses_message, chooses_event, chooses, is_chosen_moment}
use Rattle.def_message_choice.specs.Laws.{ChoiceIsComputed}

-- ---- one of several

or-true : (b : Bool) → (b || true) ≡ true
or-true true = refl
or-true false = refl

-- one of several is such where it is for each that it is tested for
one-is : {X : Type 0} (p : X → Bool) (P : X → Type 0) → ((x : X) → (p x ≡ true) ↔ P x) → (xs : List X) → (list_any p xs ≡ true) ↔ One P xs
one-is p P each [] = (λ h. cc h, λ h. absurd h)
one-is p P each (x ∷ xs) = (here (p x) refl (one-is p P each xs), there (one-is p P each xs))
  where
    here : (b : Bool) → p x ≡ b → (list_any p xs ≡ true) ↔ One P xs → (b || list_any p xs) ≡ true → P x ⊎ One P xs
    here true e rest h = inl ((each x).0 e)
    here false e rest h = inr (rest.0 h)

    there : (list_any p xs ≡ true) ↔ One P xs → P x ⊎ One P xs → (p x || list_any p xs) ≡ true
    there rest (inl h) = ap (λ b. b || list_any p xs) ((each x).1 h)
    there rest (inr h) = ap (λ b. p x || b) (rest.1 h) ∙ or-true (p x)

-- ---- one event

module _ (a : Pattern) (e : Event) where
  would : (b d : Bool) → is_match a (flag_message false e) ≡ b → is_match a (flag_message true e) ≡ d → (b || d) ≡ true → WouldMatch a e
  would true d is js h = (false, is)
  would false d is js h = (true, js ∙ h)

  would-is : (would_match (sends_none a) e ≡ true) ↔ WouldMatch a e
  would-is = (would (is_match a (flag_message false e)) (is_match a (flag_message true e)) refl refl, λ h. back h.0 h.1)
    where
      back : (short : Bool) → is_match a (flag_message short e) ≡ true → would_match (sends_none a) e ≡ true
      back false h = ap (λ b. b || is_match a (flag_message true e)) h
      back true h = ap (λ b. is_match a (flag_message false e) || b) h ∙ or-true (is_match a (flag_message false e))

-- by what a session sends
abbrev ChoosesMessage : MessageChoice → Event → Option Tree → Type 0
ChoosesMessage (sends a) e o = (t : Tree) × (o ≡ Some t) × (is_match a t ≡ true)
ChoosesMessage (sends_none a) e o = (o ≡ None) × WouldMatch a e

message-is : (c : MessageChoice) (e : Event) (o : Option Tree) → (chooses_message c (would_match c e) o ≡ true) ↔ ChoosesMessage c e o
message-is (sends a) e None = (λ h. cc h, λ h. cc h.1)
message-is (sends a) e (Some u) = (λ h. (u, refl, h), λ h. back h.0 h.1 h.2)
  where
    back : (t : Tree) → Some u ≡ Some t → is_match a t ≡ true → is_match a u ≡ true
    back t same h = let is : u ≡ t = cc same in ap (is_match a) is ∙ h
message-is (sends_none a) e None = (λ h. (refl, (would-is a e).0 h), λ h. (would-is a e).1 h.1)
message-is (sends_none a) e (Some u) = (λ h. cc h, λ h. cc h.0)

event-is : (c : MessageChoice) (s : Session) (e : Event) → (chooses_event c s e ≡ true) ↔ ChoosesEvent c s e
event-is (sends a) s e = message-is (sends a) e (event_reported s e).1
event-is (sends_none a) s e = message-is (sends_none a) e (event_reported s e).1

-- ---- sessions, moments and moves

session-is : (c : MessageChoice) (n : Option Name) (x : HistoryItem) (s : NamedSession) → (chooses c n x s ≡ true) ↔ Chooses c n x s
session-is c n (command_item k) s = (λ h. cc h, λ h. absurd h)
session-is c n (event_item e) s = go (is_session n s.0) (event-is c s.1 e)
  where
    go : (b : Bool) → (chooses_event c s.1 e ≡ true) ↔ ChoosesEvent c s.1 e → ((b && chooses_event c s.1 e) ≡ true) ↔ ((b ≡ true) × ChoosesEvent c s.1 e)
    go true each = (λ h. (refl, each.0 h), λ h. each.1 h.1)
    go false each = (λ h. cc h, λ h. cc h.0)

moment-is : (c : MessageChoice) (n : Option Name) (m : Moment) → (is_chosen_moment c n m ≡ true) ↔ IsChosenMoment c n m
moment-is c n m = one-is (chooses c n m.item) (Chooses c n m.item) (session-is c n m.item) m.before

pub choice_is_computed : ChoiceIsComputed
choice_is_computed c n h = one-is (is_chosen_moment c n) (IsChosenMoment c n) (moment-is c n) h.moments
