-- What the moves add for a session is its listing.
use Rattle.std.proofs.Common.{◌≡◌, ◌≢◌, ℕ, zero, suc, ◌+◌, ◌<◌, ◌≤◌, List, [], ◌∷◌, ◌++◌, map, length, take, Bool, true, false, cond, Option, Some, None, refl, sym, ap, ◌∙◌, append-nil, arith, eq-eqb, ne_eqb, length-append}
use Rattle.std.specs.Prelude.{option_to_list, filter, slice_get}
use Rattle.std.specs.Str.{bytes_eq}
use Rattle.std.proofs.lemmas.List.{take_all}
use Rattle.std.proofs.lemmas.Option.{slice_get_within, get_or_from_slice_get}
use Rattle.std.proofs.Math.Seq.{take-suc}
use Rattle.def_term.specs.Tree.{Tree}
use Rattle.def_term.specs.Names.{Name}
use Rattle.def_script.specs.Program.{Program, session_of}
use Rattle.def_node.specs.Event.{Event}
use Rattle.def_session.specs.State.{Session, absent_session}
use Rattle.def_script.specs.Exports.{Exports, exports_of}
use Rattle.def_session.specs.Session.{event_reported}
use Rattle.def_session.specs.Commands.{command_done}
use Rattle.def_run.specs.Run.{HistoryItem, event_item, command_item, events, moves, start}
use Rattle.def_run.specs.View.{is_own}
use Rattle.def_run.specs.Listing.{messages_from, session_after, Item, items_of_event, reported_by_all, answers_from, for_session, messages, history_by, answer}
use Rattle.def_script.specs.Script.{creations}
use Rattle.def_run.specs.Laws.{is_for, number_items, answers, MoveAddsItsAnswer, AnswerIsNumbered, AnswersAreListings}
use Rattle.def_run.proofs.Appends.{own-append, shown-append, messages-append, state-append}
use Rattle.def_run.proofs.Replay.{events_again}

for-append : (m : ℕ) (xs ys : List Item) → filter (is_for m) (xs ++ ys) ≡ filter (is_for m) xs ++ filter (is_for m) ys
for-append m [] ys = refl
for-append m (x ∷ xs) ys = go (is_for m x) (for-append m xs ys)
  where
    go : (b : Bool) → filter (is_for m) (xs ++ ys) ≡ filter (is_for m) xs ++ filter (is_for m) ys → cond b (x ∷ filter (is_for m) (xs ++ ys)) (filter (is_for m) (xs ++ ys)) ≡ cond b (x ∷ filter (is_for m) xs) (filter (is_for m) xs) ++ filter (is_for m) ys
    go true h = ap (x ∷◌) h
    go false h = h

numbered-append : (n i j : ℕ) (xs ys : List Tree) → j ≡ i + length xs → number_items n i (xs ++ ys) ≡ number_items n i xs ++ number_items n j ys
numbered-append n i j [] ys h = ap (λ k. number_items n k ys) (omega arith)
numbered-append n i j (x ∷ xs) ys h = ap (record { session = n; index = i; message = x } ∷◌) (numbered-append n (suc i) j xs ys (omega arith))

numbered-messages : (n i : ℕ) (xs : List Tree) → map (λ x. x.message) (number_items n i xs) ≡ xs
numbered-messages n i [] = refl
numbered-messages n i (x ∷ xs) = ap (x ∷◌) (numbered-messages n (suc i) xs)

abbrev tells : ℕ → ℕ → Option Tree → List Item
tells n i r = map (λ m. record { session = n; index = i; message = m }) (option_to_list r)

told_own : (n i : ℕ) (r : Option Tree) → filter (is_for n) (tells n i r) ≡ number_items n i (option_to_list r)
told_own n i None = refl
told_own n i (Some t) = ap (λ b. cond b (record { session = n; index = i; message = t } ∷ []) []) (eq-eqb n n refl)

told_other : (m n i : ℕ) (r : Option Tree) → n ≢ m → filter (is_for m) (tells n i r) ≡ []
told_other m n i None h = refl
told_other m n i (Some t) h = ap (λ b. cond b (record { session = n; index = i; message = t } ∷ []) []) (ne_eqb n m h)

module _ (o : Exports) (past : List HistoryItem) (e : Event) where
  abbrev index_of : Name → ℕ
  index_of s = length (messages_from o (absent_session o) (filter (is_own s) past))

  abbrev result_of : Name → Option Tree
  result_of s = (event_reported (session_after o (absent_session o) (filter (is_own s) past)) e).1

  later : (m : ℕ) (ss : List (Name × Name)) (n : ℕ) → m < n → filter (is_for m) (reported_by_all o n ss past e) ≡ []
  later m [] n h = refl
  later m (s ∷ ss) n h = for-append m (items_of_event o n s.0 past e) (reported_by_all o (suc n) ss past e)
      ∙ ap (λ xs. xs ++ filter (is_for m) (reported_by_all o (suc n) ss past e)) (told_other m n (index_of s.0) (result_of s.0) (omega arith))
      ∙ later m ss (suc n) (omega arith)

  picked : (s : Name × Name) (m : ℕ) (ss : List (Name × Name)) (n k : ℕ) → slice_get ss k ≡ Some s → m ≡ n + k → filter (is_for m) (reported_by_all o n ss past e) ≡ number_items m (index_of s.0) (option_to_list (result_of s.0))
  picked s m [] n k h f = cc
  picked s m (r ∷ ss) n zero h f =
      let here : m ≡ n = omega arith in
      let same : r ≡ s = cc in
      for-append m (items_of_event o n r.0 past e) (reported_by_all o (suc n) ss past e)
      ∙ ap (filter (is_for m) (items_of_event o n r.0 past e) ++◌) (later m ss (suc n) (omega arith))
      ∙ append-nil (filter (is_for m) (items_of_event o n r.0 past e))
      ∙ ap (λ x. filter (is_for m) (items_of_event o x r.0 past e)) (sym here)
      ∙ told_own m (index_of r.0) (result_of r.0)
      ∙ ap (λ x. number_items m (index_of x.0) (option_to_list (result_of x.0))) same
  picked s m (r ∷ ss) n (suc k) h f =
      for-append m (items_of_event o n r.0 past e) (reported_by_all o (suc n) ss past e)
      ∙ ap (λ xs. xs ++ filter (is_for m) (reported_by_all o (suc n) ss past e)) (told_other m n (index_of r.0) (result_of r.0) (omega arith))
      ∙ picked s m ss (suc n) k h (omega arith)

module _ (o : Exports) (ss : List (Name × Name)) (s : Name × Name) (k : ℕ) (known : slice_get ss k ≡ Some s) where
  abbrev own : List HistoryItem → List HistoryItem
  own xs = filter (is_own s.0) xs

  abbrev state_of_past : List HistoryItem → Session
  state_of_past past = session_after o (absent_session o) (own past)

  abbrev count_of_past : List HistoryItem → ℕ
  count_of_past past = length (messages_from o (absent_session o) (own past))

  next_state : (past : List HistoryItem) (x : HistoryItem) → state_of_past (past ++ x ∷ []) ≡ session_after o (state_of_past past) (own (x ∷ []))
  next_state past x = ap (session_after o (absent_session o)) (own-append s.0 past (x ∷ [])) ∙ state-append o (absent_session o) (own past) (own (x ∷ []))

  next_count : (past : List HistoryItem) (x : HistoryItem) → count_of_past (past ++ x ∷ []) ≡ count_of_past past + length (messages_from o (state_of_past past) (own (x ∷ [])))
  next_count past x =
      ap (λ xs. length (messages_from o (absent_session o) xs)) (own-append s.0 past (x ∷ []))
      ∙ ap length (messages-append o (absent_session o) (own past) (own (x ∷ [])))
      ∙ length-append (messages_from o (absent_session o) (own past)) (messages_from o (state_of_past past) (own (x ∷ [])))

  pub answers-listing : (past items : List HistoryItem) → filter (is_for (suc k)) (answers_from o ss past items) ≡ number_items (suc k) (count_of_past past) (messages_from o (state_of_past past) (own items))
  answers-listing past [] = refl
  answers-listing past (event_item e ∷ items) =
      let rest : List Item = answers_from o ss (past ++ event_item e ∷ []) items in
      let new : List Tree = option_to_list (result_of o past e s.0) in
      let after : List Tree = messages_from o (event_reported (state_of_past past) e).0 (own items) in
      let counted : count_of_past (past ++ event_item e ∷ []) ≡ count_of_past past + length new = next_count past (event_item e) ∙ ap (λ xs. count_of_past past + length xs) (append-nil new) in
      for-append (suc k) (reported_by_all o 1 ss past e) rest
      ∙ ap (λ xs. xs ++ filter (is_for (suc k)) rest) (picked o past e s (suc k) ss 1 k known (omega arith))
      ∙ ap (number_items (suc k) (count_of_past past) new ++◌)
      (answers-listing (past ++ event_item e ∷ []) items ∙ ap (λ t. number_items (suc k) (count_of_past (past ++ event_item e ∷ [])) (messages_from o t (own items))) (next_state past (event_item e)))
      ∙ sym (numbered-append (suc k) (count_of_past past) (count_of_past (past ++ event_item e ∷ [])) new after counted)
  answers-listing past (command_item c ∷ items) =
      go (bytes_eq s.0 (session_of c)) refl (next_state past (command_item c)) (next_count past (command_item c)) (answers-listing (past ++ command_item c ∷ []) items)
    where
      go : (b : Bool) → bytes_eq s.0 (session_of c) ≡ b
          → state_of_past (past ++ command_item c ∷ []) ≡ session_after o (state_of_past past) (cond (bytes_eq s.0 (session_of c)) (command_item c ∷ []) [])
          → count_of_past (past ++ command_item c ∷ []) ≡ count_of_past past + length (messages_from o (state_of_past past) (cond (bytes_eq s.0 (session_of c)) (command_item c ∷ []) []))
          → filter (is_for (suc k)) (answers_from o ss (past ++ command_item c ∷ []) items) ≡ number_items (suc k) (count_of_past (past ++ command_item c ∷ [])) (messages_from o (state_of_past (past ++ command_item c ∷ [])) (own items))
          → filter (is_for (suc k)) (answers_from o ss (past ++ command_item c ∷ []) items) ≡ number_items (suc k) (count_of_past past) (messages_from o (state_of_past past) (cond (bytes_eq s.0 (session_of c)) (command_item c ∷ own items) (own items)))
      go true e h n ih =
          let state : state_of_past (past ++ command_item c ∷ []) ≡ (command_done o (state_of_past past) c).0 = h ∙ ap (λ b. session_after o (state_of_past past) (cond b (command_item c ∷ []) [])) e in
          let count : count_of_past (past ++ command_item c ∷ []) ≡ count_of_past past = n ∙ ap (λ b. count_of_past past + length (messages_from o (state_of_past past) (cond b (command_item c ∷ []) []))) e ∙ omega arith in
          ih
          ∙ ap (λ i. number_items (suc k) i (messages_from o (state_of_past (past ++ command_item c ∷ [])) (own items))) count
          ∙ ap (λ t. number_items (suc k) (count_of_past past) (messages_from o t (own items))) state
          ∙ ap (λ b. number_items (suc k) (count_of_past past) (messages_from o (state_of_past past) (cond b (command_item c ∷ own items) (own items)))) (sym e)
      go false e h n ih =
          let state : state_of_past (past ++ command_item c ∷ []) ≡ state_of_past past = h ∙ ap (λ b. session_after o (state_of_past past) (cond b (command_item c ∷ []) [])) e in
          let count : count_of_past (past ++ command_item c ∷ []) ≡ count_of_past past = n ∙ ap (λ b. count_of_past past + length (messages_from o (state_of_past past) (cond b (command_item c ∷ []) []))) e ∙ omega arith in
          ih
          ∙ ap (λ i. number_items (suc k) i (messages_from o (state_of_past (past ++ command_item c ∷ [])) (own items))) count
          ∙ ap (λ t. number_items (suc k) (count_of_past past) (messages_from o t (own items))) state
          ∙ ap (λ b. number_items (suc k) (count_of_past past) (messages_from o (state_of_past past) (cond b (command_item c ∷ own items) (own items)))) (sym e)

-- ---- one move

-- what the pick shows after these moves, reported to all sessions
abbrev pub added : Program → List ℕ → Option ℕ → List Item
added p before pick = answers_from (exports_of p) (creations p.commands) (events p before) (history_by p before pick)

taken_next : (xs : List ℕ) (k : ℕ) (x : ℕ) → slice_get xs k ≡ Some x → take (suc k) xs ≡ take k xs ++ x ∷ []
taken_next xs k x h = take-suc xs k x (slice_get_within xs k x h) ∙ ap (λ y. take k xs ++ y ∷ []) (get_or_from_slice_get xs k x x h)

past_end : (xs : List ℕ) (k : ℕ) → slice_get xs k ≡ None → length xs ≤ k
past_end [] k h = omega arith
past_end (x ∷ xs) zero h = cc
past_end (x ∷ xs) (suc k) h = let r : length xs ≤ k = past_end xs k h in omega arith

taken_past : (xs : List ℕ) (k : ℕ) → slice_get xs k ≡ None → take (suc k) xs ≡ take k xs
taken_past xs k h =
    let r : length xs ≤ k = past_end xs k h in
    take_all (suc k) xs (omega arith) ∙ sym (take_all k xs r)

module _ (p : Program) (n : ℕ) (s tracer : Name) (known : slice_get (creations p.commands) n ≡ Some (s, tracer)) where
  -- one more pick adds to a listing what its step answers for that session
  pub pick-listing : (picks : List ℕ) (pick : ℕ) → messages s p (picks ++ pick ∷ []) ≡ messages s p picks ++ for_session (suc n) (added p picks (Some pick))
  pick-listing picks pick =
      let o : Exports = exports_of p in
      let seen : List HistoryItem = events p picks in
      let next : List HistoryItem = history_by p picks (Some pick) in
      let new : List Tree = messages_from o (session_after o (absent_session o) (filter (is_own s) seen)) (filter (is_own s) next) in
      ap (λ items. messages_from o (absent_session o) (filter (is_own s) items)) (shown-append p.functions (start p) picks (pick ∷ []) ∙ ap (seen ++◌) (append-nil next))
      ∙ ap (messages_from o (absent_session o)) (own-append s seen next)
      ∙ messages-append o (absent_session o) (filter (is_own s) seen) (filter (is_own s) next)
      ∙ ap (messages s p picks ++◌) (sym (ap (map (λ x. x.message)) (answers-listing o (creations p.commands) (s, tracer) n known seen next) ∙ numbered-messages (suc n) (length (messages s p picks)) new))

  move-listing-at : (journal : List ℕ) (k : ℕ) (x : Option ℕ) → slice_get journal k ≡ x →
      messages s p (take (suc k) journal) ≡ messages s p (take k journal) ++ for_session (suc n) (added p (take k journal) x)
  move-listing-at journal k None h = ap (messages s p) (taken_past journal k h) ∙ sym (append-nil (messages s p (take k journal)))
  move-listing-at journal k (Some pick) h = ap (messages s p) (taken_next journal k pick h) ∙ pick-listing (take k journal) pick

  numbered-at : (before : List ℕ) (x : Option ℕ) → filter (is_for (suc n)) (added p before x) ≡ number_items (suc n) (length (messages s p before)) (for_session (suc n) (added p before x))
  numbered-at before x =
      let o : Exports = exports_of p in
      let i : ℕ = length (messages s p before) in
      let e : filter (is_for (suc n)) (added p before x) ≡ number_items (suc n) i (messages_from o (session_after o (absent_session o) (filter (is_own s) (events p before))) (filter (is_own s) (history_by p before x)))
      = answers-listing o (creations p.commands) (s, tracer) n known (events p before) (history_by p before x) in
      e ∙ ap (number_items (suc n) i) (sym (ap (map (λ x. x.message)) e ∙ numbered-messages (suc n) i _))

pub move_adds : MoveAddsItsAnswer
move_adds p picks n s tracer k known = move-listing-at p n s tracer known (moves p picks) k (slice_get (moves p picks) k) refl

pub answer_numbered : AnswerIsNumbered
answer_numbered p picks n s tracer k known = numbered-at p n s tracer known (take k (moves p picks)) (slice_get (moves p picks) k)

-- ---- all moves

module _ (p : Program) (picks : List ℕ) (n : ℕ) (s tracer : Name) (known : slice_get (creations p.commands) n ≡ Some (s, tracer)) where
  answers-so_far : (k : ℕ) → filter (is_for (suc n)) (answers p picks k) ≡ number_items (suc n) 0 (messages s p (take k (moves p picks)))
  answers-so_far zero = refl
  answers-so_far (suc k) =
      let before : List Tree = messages s p (take k (moves p picks)) in
      for-append (suc n) (answers p picks k) (answer p picks k)
      ∙ ap (λ xs. xs ++ filter (is_for (suc n)) (answer p picks k)) (answers-so_far k)
      ∙ ap (number_items (suc n) 0 before ++◌) (answer_numbered p picks n s tracer k known)
      ∙ sym (numbered-append (suc n) 0 (length before) before (for_session (suc n) (answer p picks k)) (omega arith))
      ∙ ap (number_items (suc n) 0) (sym (move_adds p picks n s tracer k known))

  all_answers : filter (is_for (suc n)) (answers p picks (length (moves p picks))) ≡ number_items (suc n) 0 (messages s p picks)
  all_answers =
      answers-so_far (length (moves p picks))
      ∙ ap (λ xs. number_items (suc n) 0 (messages s p xs)) (take_all (length (moves p picks)) (moves p picks) (omega arith))
      ∙ ap (λ items. number_items (suc n) 0 (messages_from (exports_of p) (absent_session (exports_of p)) (filter (is_own s) items))) (events_again p picks)

pub answers_are_listings : AnswersAreListings
answers_are_listings p picks n s tracer known = all_answers p picks n s tracer known
