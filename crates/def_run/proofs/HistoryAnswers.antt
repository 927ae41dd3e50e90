-- The moves of a history, and what they add.
use Rattle.std.proofs.Common.{◌≡◌, ℕ, zero, suc, ◌+◌, Bool, true, false, List, [], ◌∷◌, ◌++◌, map, length, take, Option, Some, None, refl, sym, ap, ap₂, ◌∙◌, subst, append_assoc, append-nil, if◌then◌else◌, option_to_list, arith}
use Rattle.std.specs.Prelude.{filter, flat_map, slice_get}
use Rattle.std.proofs.lemmas.List.Concat.{flat_map-append}
use Rattle.def_term.specs.Names.{Name}
use Rattle.def_script.specs.Program.{Function, Command, Program}
use Rattle.def_script.specs.Exports.{Exports, exports_of}
use Rattle.def_script.specs.Script.{creations}
use Rattle.def_node.specs.Event.{Event}
use Rattle.def_outlook.specs.Outlook.{outlook}
use Rattle.def_session.specs.State.{absent_session}
use Rattle.def_session.specs.Session.{event_reported}
use Rattle.def_run.specs.Run.{HistoryItem, event_item, command_item, RunState, PickStep, pick_step, history_from, moves_from, run_state_after, start, events, moves, pick_step_after}
use Rattle.def_run.specs.View.{is_own}
use Rattle.def_run.specs.Listing.{messages_from, Item, reported_by_all, answers_from, history_by}
use Rattle.def_run.specs.History.{NamedSession, all_after, all_after_items, named_sessions, Moment, MoveHistory, moments_from, move_history, move_histories_from, move_histories, moments_of, history, history_messages, items_of_sessions, items_of_moments}
use Rattle.def_run.specs.HistoryLaws.{sessions_by_view, HistoryGoesByTheViews, HistoryShowsTheEvents, HistoryHasTheMoves, HistoryIsNumbered, HistoryHasTheAnswer, HistoryHasTheAnswers}
use Rattle.def_run.proofs.Appends.{own-append, shown-append, messages-append}
use Rattle.def_run.proofs.Replay.{pick_kept}
use Rattle.def_run.proofs.UncreatedSessions.{events-create}
use Rattle.def_run.proofs.Histories.{state_by_view, one-after, all-after, AreKnown, known-front, moment_after, over, over-history, message-at, history_has_the_listing}

-- ---- what is shown

shown-map : (ms : List Moment) → map (λ m. m.item) ms ≡ flat_map (λ m. m.item ∷ []) ms
shown-map [] = refl
shown-map (m ∷ ms) = ap (m.item ∷◌) (shown-map ms)

shown-over : (past xs : List HistoryItem) → over (λ before x. x ∷ []) past xs ≡ xs
shown-over past [] = refl
shown-over past (x ∷ xs) = ap (x ∷◌) (shown-over (past ++ x ∷ []) xs)

pub history_shows_the_events : HistoryShowsTheEvents
history_shows_the_events p picks =
    shown-map (history p picks)
    ∙ over-history p picks (λ m. m.item ∷ []) (λ before x. x ∷ []) (λ k pick past x known. refl)
    ∙ shown-over [] (events p picks)

-- ---- the sessions

abbrev sessions_around : Moment → List NamedSession × List NamedSession
sessions_around m = (m.before, m.after)

-- those around one of what is shown
abbrev around_by_view : Exports → List (Name × Name) → List HistoryItem → HistoryItem → List NamedSession × List NamedSession
around_by_view o cs past x = (sessions_by_view o cs past, sessions_by_view o cs (past ++ x ∷ []))

around-map : (ms : List Moment) → flat_map (λ m. sessions_around m ∷ []) ms ≡ map sessions_around ms
around-map [] = refl
around-map (m ∷ ms) = ap (sessions_around m ∷◌) (around-map ms)

around-at : (o : Exports) (cs : List (Name × Name)) (past xs : List HistoryItem) (i : ℕ) (y : List NamedSession × List NamedSession) → slice_get (over (λ before x. around_by_view o cs before x ∷ []) past xs) i ≡ Some y
    → (y.0 ≡ sessions_by_view o cs (past ++ take i xs)) × (y.1 ≡ sessions_by_view o cs (past ++ take (suc i) xs))
around-at o cs past [] i y h = cc
around-at o cs past (x ∷ xs) zero y h = (cc (h, append-nil past), cc h)
around-at o cs past (x ∷ xs) (suc i) y h =
    let later = around-at o cs (past ++ x ∷ []) xs i y h in
    (later.0 ∙ ap (sessions_by_view o cs) (append_assoc past (x ∷ []) (take i xs)), later.1 ∙ ap (sessions_by_view o cs) (append_assoc past (x ∷ []) (take (suc i) xs)))

around-of : (ms : List Moment) (i : ℕ) (m : Moment) → slice_get ms i ≡ Some m → slice_get (map sessions_around ms) i ≡ Some (sessions_around m)
around-of [] i m h = cc
around-of (n ∷ ms) zero m h = cc
around-of (n ∷ ms) (suc i) m h = around-of ms i m h

pub history_goes_by_the_views : HistoryGoesByTheViews
history_goes_by_the_views p picks i m is =
    let o : Exports = exports_of p in
    let cs : List (Name × Name) = creations p.commands in
    let all : map sessions_around (history p picks) ≡ over (λ before x. around_by_view o cs before x ∷ []) [] (events p picks)
    = sym (around-map (history p picks))
    ∙ over-history p picks (λ n. sessions_around n ∷ []) (λ before x. around_by_view o cs before x ∷ []) (λ k pick past x known. ap (λ (ss : List NamedSession). (sessions_by_view o cs past, ss) ∷ []) (one-after o cs past x)) in
    around-at o cs [] (events p picks) i (sessions_around m) (sym (ap (λ ys. slice_get ys i) all) ∙ around-of (history p picks) i m is)

-- ---- the moves

module _ (o : Exports) (fs : List Function) where
  pick-moves : (q : RunState) (k : ℕ) (ss : List NamedSession) (picks : List ℕ) → map (λ h. h.pick) (move_histories_from o fs q k ss picks) ≡ moves_from fs q picks
  pick-moves q k ss [] = refl
  pick-moves q k ss (pick ∷ picks) = go (pick_step fs q pick) (pick_step fs q pick).moved refl (λ r j vs. pick-moves r j vs picks)
    where
      go : (t : PickStep) (b : Bool) → t.moved ≡ b → ((r : RunState) (j : ℕ) (vs : List NamedSession) → map (λ h. h.pick) (move_histories_from o fs r j vs picks) ≡ moves_from fs r picks)
          → map (λ h. h.pick) (if b then move_history o (suc k) pick (outlook fs q.world pick) ss t.shown ∷ move_histories_from o fs t.after (suc k) (all_after_items o ss t.shown) picks else move_histories_from o fs t.after k ss picks)
          ≡ (if b then pick ∷ [] else []) ++ moves_from fs t.after picks
      go t true m again = ap (pick ∷◌) (again t.after (suc k) (all_after_items o ss t.shown))
      go t false m again = again t.after k ss

  -- the first moves are those of the first picks that move
  first-moves : (q : RunState) (k : ℕ) (ss : List NamedSession) (picks : List ℕ) (n : ℕ) → take n (move_histories_from o fs q k ss picks) ≡ move_histories_from o fs q k ss (take n (moves_from fs q picks))
  first-moves q k ss [] zero = refl
  first-moves q k ss [] (suc n) = refl
  first-moves q k ss (pick ∷ picks) n = go n (pick_step fs q pick) (pick_step fs q pick).moved refl refl (λ r j vs i. first-moves r j vs picks i)
    where
      go : (n : ℕ) (t : PickStep) (b : Bool) → pick_step fs q pick ≡ t → t.moved ≡ b
          → ((r : RunState) (j : ℕ) (vs : List NamedSession) (i : ℕ) → take i (move_histories_from o fs r j vs picks) ≡ move_histories_from o fs r j vs (take i (moves_from fs r picks)))
          → take n (if b then move_history o (suc k) pick (outlook fs q.world pick) ss t.shown ∷ move_histories_from o fs t.after (suc k) (all_after_items o ss t.shown) picks else move_histories_from o fs t.after k ss picks)
          ≡ move_histories_from o fs q k ss (take n ((if b then pick ∷ [] else []) ++ moves_from fs t.after picks))
      go zero t true e m again = refl
      go (suc n) t true e m again =
          let left : List ℕ = take n (moves_from fs t.after picks) in
          ap (move_history o (suc k) pick (outlook fs q.world pick) ss t.shown ∷◌) (again t.after (suc k) (all_after_items o ss t.shown) n)
          ∙ ap (λ b. if b then move_history o (suc k) pick (outlook fs q.world pick) ss t.shown ∷ move_histories_from o fs t.after (suc k) (all_after_items o ss t.shown) left else move_histories_from o fs t.after k ss left) (sym m)
          ∙ ap (λ u. if u.moved then move_history o (suc k) pick (outlook fs q.world pick) ss u.shown ∷ move_histories_from o fs u.after (suc k) (all_after_items o ss u.shown) left else move_histories_from o fs u.after k ss left) (sym e)
      go n t false e m again =
          let same : t.after ≡ q = ap (λ u. u.after) (sym e ∙ pick_kept fs q pick (ap (λ u. u.moved) e ∙ m)) in
          again t.after k ss n ∙ ap (λ r. move_histories_from o fs r k ss (take n (moves_from fs t.after picks))) same

  after-both : (ss : List NamedSession) (xs ys : List HistoryItem) → all_after_items o ss (xs ++ ys) ≡ all_after_items o (all_after_items o ss xs) ys
  after-both ss [] ys = refl
  after-both ss (x ∷ xs) ys = after-both (all_after o ss x) xs ys

  -- the move of a pick after these
  abbrev move_by : RunState → ℕ → List NamedSession → List ℕ → Option ℕ → Option MoveHistory
  move_by q k ss before None = None
  move_by q k ss before (Some pick) = Some (move_history o k pick (outlook fs (run_state_after fs q before).world pick) (all_after_items o ss (history_from fs q before)) (pick_step fs (run_state_after fs q before) pick).shown)

  move-later : (q : RunState) (j k pick : ℕ) (ss : List NamedSession) (t : PickStep) (before : List ℕ) (x : Option ℕ) → pick_step fs q pick ≡ t → j ≡ k → move_by t.after j (all_after_items o ss t.shown) before x ≡ move_by q k ss (pick ∷ before) x
  move-later q j k pick ss t before None e h = refl
  move-later q j k pick ss t before (Some y) e h =
      ap (λ i. Some (move_history o i y (outlook fs (run_state_after fs t.after before).world y) (all_after_items o (all_after_items o ss t.shown) (history_from fs t.after before)) (pick_step fs (run_state_after fs t.after before) y).shown)) h
      ∙ ap (λ vs. Some (move_history o k y (outlook fs (run_state_after fs t.after before).world y) vs (pick_step fs (run_state_after fs t.after before) y).shown)) (sym (after-both ss t.shown (history_from fs t.after before)))
      ∙ ap (λ u. Some (move_history o k y (outlook fs (run_state_after fs u.after before).world y) (all_after_items o ss (u.shown ++ history_from fs u.after before)) (pick_step fs (run_state_after fs u.after before) y).shown)) (sym e)

  move-at : (q : RunState) (k : ℕ) (ss : List NamedSession) (picks : List ℕ) (n : ℕ) → slice_get (move_histories_from o fs q k ss picks) n ≡ move_by q (suc (k + n)) ss (take n (moves_from fs q picks)) (slice_get (moves_from fs q picks) n)
  move-at q k ss [] n = refl
  move-at q k ss (pick ∷ picks) n = go n (pick_step fs q pick) (pick_step fs q pick).moved refl refl (λ r j vs i. move-at r j vs picks i)
    where
      go : (n : ℕ) (t : PickStep) (b : Bool) → pick_step fs q pick ≡ t → t.moved ≡ b
          → ((r : RunState) (j : ℕ) (vs : List NamedSession) (i : ℕ) → slice_get (move_histories_from o fs r j vs picks) i ≡ move_by r (suc (j + i)) vs (take i (moves_from fs r picks)) (slice_get (moves_from fs r picks) i))
          → slice_get (if b then move_history o (suc k) pick (outlook fs q.world pick) ss t.shown ∷ move_histories_from o fs t.after (suc k) (all_after_items o ss t.shown) picks else move_histories_from o fs t.after k ss picks) n
          ≡ move_by q (suc (k + n)) ss (take n ((if b then pick ∷ [] else []) ++ moves_from fs t.after picks)) (slice_get ((if b then pick ∷ [] else []) ++ moves_from fs t.after picks) n)
      go zero t true e m again =
          let number : suc k ≡ suc (k + 0) = omega arith in
          ap (λ i. Some (move_history o i pick (outlook fs q.world pick) ss t.shown)) number ∙ ap (λ u. Some (move_history o (suc (k + 0)) pick (outlook fs q.world pick) ss u.shown)) (sym e)
      go (suc n) t true e m again =
          let rest : List ℕ = moves_from fs t.after picks in
          let number : suc (suc k + n) ≡ suc (k + suc n) = omega arith in
          again t.after (suc k) (all_after_items o ss t.shown) n ∙ move-later q (suc (suc k + n)) (suc (k + suc n)) pick ss t (take n rest) (slice_get rest n) e number
      go n t false e m again =
          let same : t.after ≡ q = ap (λ u. u.after) (sym e ∙ pick_kept fs q pick (ap (λ u. u.moved) e ∙ m)) in
          again t.after k ss n ∙ ap (λ r. move_by r (suc (k + n)) ss (take n (moves_from fs t.after picks)) (slice_get (moves_from fs t.after picks) n)) same

pub history_has_the_moves : HistoryHasTheMoves
history_has_the_moves p picks = pick-moves (exports_of p) p.functions (start p) 0 (named_sessions p) picks

pub history_is_numbered : HistoryIsNumbered
history_is_numbered p picks k h is =
    let number : suc (0 + k) ≡ suc k = omega arith in
    go (suc (0 + k)) (take k (moves p picks)) (slice_get (moves p picks) k) (sym (move-at (exports_of p) p.functions (start p) 0 (named_sessions p) picks k) ∙ is) ∙ number
  where
    go : (j : ℕ) (before : List ℕ) (x : Option ℕ) → move_by (exports_of p) p.functions (start p) j (named_sessions p) before x ≡ Some h → h.number ≡ j
    go j before None e = cc
    go j before (Some pick) e = cc

-- ---- what they add

module _ (o : Exports) (cs : List (Name × Name)) where
  -- the messages in these moments are those of the views
  abbrev HaveMessages : List Moment → List HistoryItem → Type 0
  HaveMessages ms past = (n : Name) → history_messages o n ms ≡ messages_from o (absent_session o) (filter (is_own n) past)

  have-more : (k pick : ℕ) (ms : List Moment) (past : List HistoryItem) (x : HistoryItem) → AreKnown cs (past ++ x ∷ []) → HaveMessages ms past → HaveMessages (ms ++ moment_after o cs k pick past x ∷ []) (past ++ x ∷ [])
  have-more k pick ms past x known h n =
      flat_map-append _ ms (moment_after o cs k pick past x ∷ [])
      ∙ ap₂ (λ a b. a ++ b) (h n) (append-nil _ ∙ message-at o cs n past x known)
      ∙ sym (ap (messages_from o (absent_session o)) (own-append n past (x ∷ [])) ∙ messages-append o (absent_session o) (filter (is_own n) past) (filter (is_own n) (x ∷ [])))

  event-items : (ms : List Moment) (past : List HistoryItem) (e : Event) → HaveMessages ms past → (n : ℕ) (ss : List (Name × Name)) → items_of_sessions o ms n (sessions_by_view o ss past) (event_item e) ≡ reported_by_all o n ss past e
  event-items ms past e h n [] = refl
  event-items ms past e h n (s ∷ ss) =
      ap₂ (λ a b. a ++ b)
      (ap (λ (l : List _). map (λ m. record { session = n; index = length l; message = m }) (option_to_list (event_reported (state_by_view o s.0 past) e).1)) (h s.0))
      (event-items ms past e h (suc n) ss)

  command-items : (ms : List Moment) (c : Command) (n : ℕ) (ss : List NamedSession) → items_of_sessions o ms n ss (command_item c) ≡ []
  command-items ms c n [] = refl
  command-items ms c n (s ∷ ss) = command-items ms c (suc n) ss

  moments-items : (k pick : ℕ) (ms : List Moment) (past xs : List HistoryItem) → AreKnown cs (past ++ xs) → HaveMessages ms past → items_of_moments o ms (moments_from o k pick (sessions_by_view o cs past) xs) ≡ answers_from o cs past xs
  moments-items k pick ms past [] known h = refl
  moments-items k pick ms past (x ∷ xs) known h =
      let split : AreKnown cs ((past ++ x ∷ []) ++ xs) = subst (AreKnown cs) (sym (append_assoc past (x ∷ []) xs)) known in
      let more : List Moment = ms ++ moment_after o cs k pick past x ∷ [] in
      ap (λ ss. items_of_sessions o ms 1 (sessions_by_view o cs past) x ++ items_of_moments o more (moments_from o k pick ss xs)) (one-after o cs past x)
      ∙ go x (moments-items k pick more (past ++ x ∷ []) xs split (have-more k pick ms past x (known-front cs (past ++ x ∷ []) xs split) h))
    where
      go : (x : HistoryItem) {later : List Item} → later ≡ answers_from o cs (past ++ x ∷ []) xs → items_of_sessions o ms 1 (sessions_by_view o cs past) x ++ later ≡ answers_from o cs past (x ∷ xs)
      go (event_item e) f = ap₂ (λ a b. a ++ b) (event-items ms past e h 1 cs) f
      go (command_item c) f = ap₂ (λ a b. a ++ b) (command-items ms c 1 (sessions_by_view o cs past)) f

  items-append : (past xs ys : List Moment) → items_of_moments o past (xs ++ ys) ≡ items_of_moments o past xs ++ items_of_moments o (past ++ xs) ys
  items-append past [] ys = ap (λ zs. items_of_moments o zs ys) (sym (append-nil past))
  items-append past (m ∷ ms) ys =
      ap (items_of_sessions o past 1 m.before m.item ++◌)
      (items-append (past ++ m ∷ []) ms ys ∙ ap (λ zs. items_of_moments o (past ++ m ∷ []) ms ++ items_of_moments o zs ys) (append_assoc past (m ∷ []) ms))
      ∙ sym (append_assoc (items_of_sessions o past 1 m.before m.item) (items_of_moments o (past ++ m ∷ []) ms) (items_of_moments o (past ++ m ∷ ms) ys))

-- what one more pick adds after these
pick-items : (p : Program) (before : List ℕ) (k : ℕ) (x : Option ℕ)
    → items_of_moments (exports_of p) (history p before) (moments_of (option_to_list (move_by (exports_of p) p.functions (start p) k (named_sessions p) before x)))
    ≡ answers_from (exports_of p) (creations p.commands) (events p before) (history_by p before x)
pick-items p before k None = refl
pick-items p before k (Some pick) =
    let o : Exports = exports_of p in
    let cs : List (Name × Name) = creations p.commands in
    let shown : List HistoryItem = (pick_step_after p before pick).shown in
    let whole : events p (before ++ pick ∷ []) ≡ events p before ++ shown = shown-append p.functions (start p) before (pick ∷ []) ∙ ap (events p before ++◌) (append-nil shown) in
    ap (items_of_moments o (history p before)) (append-nil (moments_from o k pick (all_after_items o (named_sessions p) (events p before)) shown))
    ∙ ap (λ ss. items_of_moments o (history p before) (moments_from o k pick ss shown)) (all-after o cs [] (events p before))
    ∙ moments-items o cs k pick (history p before) (events p before) shown (subst (AreKnown cs) whole (events-create p (before ++ pick ∷ []))) (λ n. history_has_the_listing n p before)

pub history_has_the_answer : HistoryHasTheAnswer
history_has_the_answer p picks k =
    let o : Exports = exports_of p in
    let before : List ℕ = take k (moves p picks) in
    ap (λ hs. items_of_moments o (moments_of hs) (moments_of (option_to_list (slice_get (move_histories p picks) k)))) (first-moves o p.functions (start p) 0 (named_sessions p) picks k)
    ∙ ap (λ h. items_of_moments o (history p before) (moments_of (option_to_list h))) (move-at o p.functions (start p) 0 (named_sessions p) picks k)
    ∙ pick-items p before (suc (0 + k)) (slice_get (moves p picks) k)

-- ---- all of them

taken-one : {X : Type 0} (xs : List X) (k : ℕ) → take (suc k) xs ≡ take k xs ++ option_to_list (slice_get xs k)
taken-one [] zero = refl
taken-one [] (suc k) = refl
taken-one (x ∷ xs) zero = refl
taken-one (x ∷ xs) (suc k) = ap (x ∷◌) (taken-one xs k)

pub history_has_the_answers : HistoryHasTheAnswers
history_has_the_answers p picks zero = refl
history_has_the_answers p picks (suc k) =
    let o : Exports = exports_of p in
    let hs : List MoveHistory = move_histories p picks in
    ap (λ gs. items_of_moments o [] (moments_of gs)) (taken-one hs k)
    ∙ ap (items_of_moments o []) (flat_map-append (λ h. h.moments) (take k hs) (option_to_list (slice_get hs k)))
    ∙ items-append o (creations p.commands) [] (moments_of (take k hs)) (moments_of (option_to_list (slice_get hs k)))
    ∙ ap₂ (λ a b. a ++ b) (history_has_the_answers p picks k) (history_has_the_answer p picks k)
