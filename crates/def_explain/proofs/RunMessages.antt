-- The messages that a session reports in the account of a run are its listing's: both are projections of the history.
use Rattle.std.proofs.Common.{◌≡◌, ◌≢◌, inl, inr, ℕ, Bool, true, false, List, [], ◌∷◌, ◌++◌, map, refl, sym, ap, ap₂, ◌∙◌, append-nil, if◌then◌else◌}
use Rattle.std.specs.Prelude.{flat_map, option_to_list}
use Rattle.std.specs.Str.{bytes_eq}
use Rattle.std.proofs.lemmas.Slice.Eq.{bytes_eq-Decides}
use Rattle.std.proofs.lemmas.List.Concat.{flat_map-append}
use Rattle.def_term.specs.Names.{Name}
use Rattle.def_term.specs.Tree.{Tree}
use Rattle.def_script.specs.Program.{session_of}
use Rattle.def_script.specs.Exports.{Exports, exports_of}
use Rattle.def_script.specs.Script.{creations}
use Rattle.def_outlook.specs.Outlook.{Outlook, nothing_ahead}
use Rattle.def_run.specs.Run.{HistoryItem, event_item, command_item}
use Rattle.def_run.specs.History.{NamedSession, Moment, MoveHistory, move_histories, moments_of, session_in, item_message}
use Rattle.def_run.specs.HistoryLaws.{sessions_by_view}
use Rattle.def_run.proofs.Histories.{state_by_view, message_by_view, message-at, over-history, history_has_the_listing}
use Rattle.def_explain.specs.CommandDifferences.{command_difference}
use Rattle.def_explain.specs.Accounts.{Line, said, tells, differs, differs_uncounted, reported_in_lines, command_lines}
use Rattle.def_explain.specs.Runs.{session_lines, AccountEntry, shows, shows_nothing, makes, made_by_all, entries_of_moment, entries_of_moments, reported_by}
use Rattle.def_explain.specs.RunLaws.{IsNone, IsOnce, AccountTellsTheListing}
use Rattle.def_explain.proofs.AccountLines.{lines_tell_the_message, uncounted_say}

-- ---- names

same-name : (n m : Name) → n ≡ m → bytes_eq n m ≡ true
same-name n m h = (bytes_eq-Decides n m).1 h

other-name : (n m : Name) → n ≢ m → bytes_eq n m ≡ false
other-name n m h = go (bytes_eq n m) refl
  where
    go : (b : Bool) → bytes_eq n m ≡ b → bytes_eq n m ≡ false
    go true e = absurd (h ((bytes_eq-Decides n m).0 e))
    go false e = e

-- ---- one moment

module _ (o : Exports) (n : Name) where
  session-reports : (l : Outlook) (s : NamedSession) (x : HistoryItem) → reported_in_lines (session_lines o l s x) ≡ item_message s.1 x
  session-reports l s (event_item e) = lines_tell_the_message s.1 l e
  session-reports l s (command_item c) = go (bytes_eq s.0 (session_of c))
    where
      go : (b : Bool) → reported_in_lines (if b then command_lines o s.1 c else []) ≡ []
      go true = uncounted_say (option_to_list (command_difference o s.1 c))
      go false = refl

  reported-both : (es fs : List AccountEntry) → reported_by n (es ++ fs) ≡ reported_by n es ++ reported_by n fs
  reported-both [] fs = refl
  reported-both (shows k pick x ∷ es) fs = reported-both es fs
  reported-both (shows_nothing k pick ∷ es) fs = reported-both es fs
  reported-both (makes m (said t) ∷ es) fs = reported-both es fs
  reported-both (makes m (differs x) ∷ es) fs = reported-both es fs
  reported-both (makes m (differs_uncounted x) ∷ es) fs = reported-both es fs
  reported-both (makes m (tells t) ∷ es) fs = go (bytes_eq n m) (reported-both es fs)
    where
      go : (b : Bool) → reported_by n (es ++ fs) ≡ reported_by n es ++ reported_by n fs → (if b then t ∷ reported_by n (es ++ fs) else reported_by n (es ++ fs)) ≡ (if b then t ∷ reported_by n es else reported_by n es) ++ reported_by n fs
      go true h = ap (λ x. t ∷ x) h
      go false h = h

  made-by-it : (m : Name) (ls : List Line) → n ≡ m → reported_by n (map (makes m) ls) ≡ reported_in_lines ls
  made-by-it m [] h = refl
  made-by-it m (said t ∷ ls) h = made-by-it m ls h
  made-by-it m (differs x ∷ ls) h = made-by-it m ls h
  made-by-it m (differs_uncounted x ∷ ls) h = made-by-it m ls h
  made-by-it m (tells t ∷ ls) h = ap (λ b. if b then t ∷ reported_by n (map (makes m) ls) else reported_by n (map (makes m) ls)) (same-name n m h) ∙ ap (λ x. t ∷ x) (made-by-it m ls h)

  made-by-another : (m : Name) (ls : List Line) → n ≢ m → reported_by n (map (makes m) ls) ≡ []
  made-by-another m [] h = refl
  made-by-another m (said t ∷ ls) h = made-by-another m ls h
  made-by-another m (differs x ∷ ls) h = made-by-another m ls h
  made-by-another m (differs_uncounted x ∷ ls) h = made-by-another m ls h
  made-by-another m (tells t ∷ ls) h = ap (λ b. if b then t ∷ reported_by n (map (makes m) ls) else reported_by n (map (makes m) ls)) (other-name n m h) ∙ made-by-another m ls h

  missed : (l : Outlook) (cs : List (Name × Name)) (past : List HistoryItem) (x : HistoryItem) → IsNone n cs → reported_by n (made_by_all o l (sessions_by_view o cs past) x) ≡ []
  missed l [] past x h = refl
  missed l (s ∷ cs) past x h =
      let lines : List Line = session_lines o l (s.0, state_by_view o s.0 past) x in
      reported-both (map (makes s.0) lines) (made_by_all o l (sessions_by_view o cs past) x)
      ∙ ap₂ (λ a b. a ++ b) (made-by-another s.0 lines h.0) (missed l cs past x h.1)

  -- of the session's lines its message is reported
  made : (l : Outlook) (cs : List (Name × Name)) (past : List HistoryItem) (x : HistoryItem) → IsOnce n cs → reported_by n (made_by_all o l (sessions_by_view o cs past) x) ≡ item_message (session_in o n (sessions_by_view o cs past)) x
  made l [] past x h = absurd h
  made l (s ∷ cs) past x (inl h) =
      let here : NamedSession = (s.0, state_by_view o s.0 past) in
      let rest : List NamedSession = sessions_by_view o cs past in
      reported-both (map (makes s.0) (session_lines o l here x)) (made_by_all o l rest x)
      ∙ ap₂ (λ a b. a ++ b) (made-by-it s.0 (session_lines o l here x) h.0) (missed l cs past x h.1)
      ∙ append-nil (reported_in_lines (session_lines o l here x))
      ∙ session-reports l here x
      ∙ ap (λ b. item_message (if b then here.1 else session_in o n rest) x) (sym (same-name n s.0 h.0))
  made l (s ∷ cs) past x (inr h) =
      let here : NamedSession = (s.0, state_by_view o s.0 past) in
      let rest : List NamedSession = sessions_by_view o cs past in
      reported-both (map (makes s.0) (session_lines o l here x)) (made_by_all o l rest x)
      ∙ ap₂ (λ a b. a ++ b) (made-by-another s.0 (session_lines o l here x) h.0) (made l cs past x h.1)
      ∙ ap (λ b. item_message (if b then here.1 else session_in o n rest) x) (sym (other-name n s.0 h.0))

  -- ---- all of them

  -- whatever was known of the step, the same is reported
  same-by : (m : Name) (ls ks : List Line) → reported_in_lines ls ≡ reported_in_lines ks → reported_by n (map (makes m) ls) ≡ reported_by n (map (makes m) ks)
  same-by m ls ks same = go (bytes_eq n m) refl
    where
      go : (b : Bool) → bytes_eq n m ≡ b → reported_by n (map (makes m) ls) ≡ reported_by n (map (makes m) ks)
      go true e = let is : n ≡ m = (bytes_eq-Decides n m).0 e in made-by-it m ls is ∙ same ∙ sym (made-by-it m ks is)
      go false e = let isnt : n ≢ m = λ is. cc (sym e ∙ same-name n m is) in made-by-another m ls isnt ∙ sym (made-by-another m ks isnt)

  same-made : (l k : Outlook) (ss : List NamedSession) (x : HistoryItem) → reported_by n (made_by_all o l ss x) ≡ reported_by n (made_by_all o k ss x)
  same-made l k [] x = refl
  same-made l k (s ∷ ss) x =
      reported-both (map (makes s.0) (session_lines o l s x)) (made_by_all o l ss x)
      ∙ ap₂ (λ a b. a ++ b) (same-by s.0 (session_lines o l s x) (session_lines o k s x) (session-reports l s x ∙ sym (session-reports k s x))) (same-made l k ss x)
      ∙ sym (reported-both (map (makes s.0) (session_lines o k s x)) (made_by_all o k ss x))

  -- what is reported of a moment
  abbrev pub reported_then : Moment → List Tree
  reported_then m = reported_by n (entries_of_moment o nothing_ahead m)

  reported-of-moments : (l : Outlook) (ms : List Moment) → reported_by n (flat_map (entries_of_moment o l) ms) ≡ flat_map reported_then ms
  reported-of-moments l [] = refl
  reported-of-moments l (m ∷ ms) =
      reported-both (entries_of_moment o l m) (flat_map (entries_of_moment o l) ms)
      ∙ ap₂ (λ a b. a ++ b) (same-made l nothing_ahead m.before m.item) (reported-of-moments l ms)

  reported-of-move : (l : Outlook) (k pick : ℕ) (ms : List Moment) → reported_by n (entries_of_moments o l k pick ms) ≡ flat_map reported_then ms
  reported-of-move l k pick [] = refl
  reported-of-move l k pick (m ∷ ms) = reported-of-moments l (m ∷ ms)

  reported-of-moves : (hs : List MoveHistory) → reported_by n (flat_map (λ h. entries_of_moments o h.outlook h.number h.pick h.moments) hs) ≡ flat_map reported_then (moments_of hs)
  reported-of-moves [] = refl
  reported-of-moves (h ∷ hs) =
      reported-both (entries_of_moments o h.outlook h.number h.pick h.moments) (flat_map (λ g. entries_of_moments o g.outlook g.number g.pick g.moments) hs)
      ∙ ap₂ (λ a b. a ++ b) (reported-of-move h.outlook h.number h.pick h.moments) (reported-of-moves hs)
      ∙ sym (flat_map-append reported_then h.moments (moments_of hs))

pub account_tells_the_listing : AccountTellsTheListing
account_tells_the_listing p picks n once =
    let o : Exports = exports_of p in
    let cs : List (Name × Name) = creations p.commands in
    reported-of-moves o n (move_histories p picks)
    ∙ over-history p picks (reported_then o n) (message_by_view o cs n) (λ k pick past x known. made o n nothing_ahead cs past x once ∙ message-at o cs n past x known)
    ∙ sym (over-history p picks (λ m. item_message (session_in o n m.before) m.item) (message_by_view o cs n) (λ k pick past x known. message-at o cs n past x known))
    ∙ history_has_the_listing n p picks
