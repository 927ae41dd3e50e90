-- A move is chosen by a message of a session exactly where a message of its listing matches: both are projections of the history.
use Rattle.std.proofs.Common.{◌≡◌, ◌≢◌, inl, inr, Bool, true, false, ◌||◌, ◌&&◌, Option, Some, None, List, [], ◌∷◌, ◌++◌, refl, sym, ap, ap₂, ◌∙◌, if◌then◌else◌}
use Rattle.std.specs.Prelude.{flat_map, option_to_list}
use Rattle.std.specs.List.{list_any}
use Rattle.std.specs.Str.{bytes_eq}
use Rattle.std.proofs.lemmas.Slice.Eq.{bytes_eq-Decides}
use Rattle.def_term.specs.Names.{Name}
use Rattle.def_term.specs.Tree.{Tree}
use Rattle.def_spec.specs.Matching.{Pattern}
use Rattle.def_script.specs.Exports.{Exports, exports_of}
use Rattle.def_script.specs.Script.{creations}
use Rattle.def_session.specs.Session.{event_reported}
use Rattle.def_run.specs.Run.{HistoryItem, event_item, command_item}
use Rattle.def_run.specs.History.{NamedSession, Moment, MoveHistory, move_histories, moments_of, session_in, item_message}
use Rattle.def_run.specs.HistoryLaws.{sessions_by_view}
use Rattle.def_run.proofs.Histories.{state_by_view, message_by_view, message-at, over-history, history_has_the_listing}
use Rattle.def_explain.specs.RunLaws.{IsNone, IsOnce}
use Rattle.def_explore.specs.Words.{is_match}
use Rattle.def_message_choice.specs.MessageChoices.{sends, chooses_message, chooses, is_chosen_moment, is_chosen}
use Rattle.def_message_choice.specs.Laws.{ListingHasTheChosen}

-- ---- one of several

or-assoc : (a b c : Bool) → ((a || b) || c) ≡ (a || (b || c))
or-assoc true b c = refl
or-assoc false b c = refl

or-false : (b : Bool) → (b || false) ≡ b
or-false true = refl
or-false false = refl

any-append : {X : Type 0} (p : X → Bool) (xs ys : List X) → list_any p (xs ++ ys) ≡ (list_any p xs || list_any p ys)
any-append p [] ys = refl
any-append p (x ∷ xs) ys = ap (λ b. p x || b) (any-append p xs ys) ∙ sym (or-assoc (p x) (list_any p xs) (list_any p ys))

any-flat : {X Y : Type 0} (p : Y → Bool) (f : X → List Y) (xs : List X) → list_any p (flat_map f xs) ≡ list_any (λ x. list_any p (f x)) xs
any-flat p f [] = refl
any-flat p f (x ∷ xs) = any-append p (f x) (flat_map f xs) ∙ ap (λ b. list_any p (f x) || b) (any-flat p f xs)

-- ---- one moment

module _ (a : Pattern) (o : Exports) (n : Name) where
  abbrev matches : HistoryItem → NamedSession → Bool
  matches x s = list_any (is_match a) (item_message s.1 x)

  of-message : (m : Option Tree) → chooses_message (sends a) false m ≡ list_any (is_match a) (option_to_list m)
  of-message None = refl
  of-message (Some t) = sym (or-false (is_match a t))

  by-it : (x : HistoryItem) (s : NamedSession) → n ≡ s.0 → chooses (sends a) (Some n) x s ≡ matches x s
  by-it (command_item k) s h = refl
  by-it (event_item e) s h =
      ap (λ b. b && chooses_message (sends a) false (event_reported s.1 e).1) ((bytes_eq-Decides n s.0).1 h) ∙ of-message (event_reported s.1 e).1

  not-by-another : (x : HistoryItem) (s : NamedSession) → n ≢ s.0 → chooses (sends a) (Some n) x s ≡ false
  not-by-another (command_item k) s h = refl
  not-by-another (event_item e) s h = go (bytes_eq n s.0) refl
    where
      go : (b : Bool) → bytes_eq n s.0 ≡ b → (b && chooses_message (sends a) false (event_reported s.1 e).1) ≡ false
      go true is = absurd (h ((bytes_eq-Decides n s.0).0 is))
      go false is = refl

  missed : (cs : List (Name × Name)) (past : List HistoryItem) (x : HistoryItem) → IsNone n cs → list_any (chooses (sends a) (Some n) x) (sessions_by_view o cs past) ≡ false
  missed [] past x h = refl
  missed (s ∷ cs) past x h = ap₂ (λ b d. b || d) (not-by-another x (s.0, state_by_view o s.0 past) h.0) (missed cs past x h.1)

  -- of the sessions the one of the name chooses what is shown, where it sends a match
  found : (cs : List (Name × Name)) (past : List HistoryItem) (x : HistoryItem) → IsOnce n cs
      → list_any (chooses (sends a) (Some n) x) (sessions_by_view o cs past) ≡ list_any (is_match a) (item_message (session_in o n (sessions_by_view o cs past)) x)
  found [] past x h = absurd h
  found (s ∷ cs) past x (inl h) =
      let here : NamedSession = (s.0, state_by_view o s.0 past) in
      let rest : List NamedSession = sessions_by_view o cs past in
      ap₂ (λ b d. b || d) (by-it x here h.0) (missed cs past x h.1)
      ∙ or-false (matches x here)
      ∙ ap (λ b. list_any (is_match a) (item_message (if b then here.1 else session_in o n rest) x)) (sym ((bytes_eq-Decides n s.0).1 h.0))
  found (s ∷ cs) past x (inr h) =
      let here : NamedSession = (s.0, state_by_view o s.0 past) in
      let rest : List NamedSession = sessions_by_view o cs past in
      ap₂ (λ b d. b || d) (not-by-another x here h.0) (found cs past x h.1)
      ∙ ap (λ b. list_any (is_match a) (item_message (if b then here.1 else session_in o n rest) x)) (sym (other (bytes_eq n s.0) refl))
    where
      other : (b : Bool) → bytes_eq n s.0 ≡ b → bytes_eq n s.0 ≡ false
      other true is = absurd (h.0 ((bytes_eq-Decides n s.0).0 is))
      other false is = is

  -- ---- all of them

  abbrev pub matches_then : Moment → List Bool
  matches_then m = is_chosen_moment (sends a) (Some n) m ∷ []

  abbrev pub match_by_view : List (Name × Name) → List HistoryItem → HistoryItem → List Bool
  match_by_view cs past x = list_any (is_match a) (message_by_view o cs n past x) ∷ []

  moments-of : (hs : List MoveHistory) → list_any (is_chosen (sends a) (Some n)) hs ≡ list_any (λ b. b) (flat_map matches_then (moments_of hs))
  moments-of hs =
      sym (any-flat (is_chosen_moment (sends a) (Some n)) (λ (h : MoveHistory). h.moments) hs)
      ∙ one-each (moments_of hs)
    where
      one-each : (ms : List Moment) → list_any (is_chosen_moment (sends a) (Some n)) ms ≡ list_any (λ b. b) (flat_map matches_then ms)
      one-each [] = refl
      one-each (m ∷ ms) = ap (λ b. is_chosen_moment (sends a) (Some n) m || b) (one-each ms)

pub listing_has_the_chosen : ListingHasTheChosen
listing_has_the_chosen a p picks n once =
    let o : Exports = exports_of p in
    let cs : List (Name × Name) = creations p.commands in
    let messages_then : Moment → List Tree = λ m. item_message (session_in o n m.before) m.item in
    let shown_then : Moment → List Bool = λ m. list_any (is_match a) (messages_then m) ∷ [] in
    moments-of a o n (move_histories p picks)
    ∙ ap (list_any (λ b. b))
    (over-history p picks (matches_then a o n) (match_by_view a o n cs) (λ k pick past x known. ap (λ b. b ∷ []) (found a o n cs past x once ∙ ap (list_any (is_match a)) (message-at o cs n past x known)))
    ∙ sym (over-history p picks shown_then (match_by_view a o n cs) (λ k pick past x known. ap (λ ms. list_any (is_match a) ms ∷ []) (message-at o cs n past x known))))
    ∙ each-one a (λ m. item_message (session_in o n m.before) m.item) (moments_of (move_histories p picks))
    ∙ sym (any-flat (is_match a) messages_then (moments_of (move_histories p picks)))
    ∙ ap (list_any (is_match a)) (history_has_the_listing n p picks)
  where
    each-one : (b : Pattern) (f : Moment → List Tree) (ms : List Moment) → list_any (λ x. x) (flat_map (λ m. list_any (is_match b) (f m) ∷ []) ms) ≡ list_any (λ m. list_any (is_match b) (f m)) ms
    each-one b f [] = refl
    each-one b f (m ∷ ms) = ap (λ x. list_any (is_match b) (f m) || x) (each-one b f ms)
