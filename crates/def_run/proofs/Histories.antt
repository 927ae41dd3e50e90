-- The moments of a run, and what is a projection of them.
use Rattle.std.proofs.Common.{◌≡◌, ◌⊎◌, inl, inr, ℕ, suc, Bool, true, false, cond, List, [], ◌∷◌, ◌++◌, refl, sym, ap, ap₂, ◌∙◌, subst, append_assoc, append-nil, if◌then◌else◌, option_to_list}
use Rattle.std.specs.Prelude.{filter, flat_map}
use Rattle.std.specs.Str.{bytes_eq}
use Rattle.std.proofs.lemmas.Slice.Eq.{bytes_eq-Decides}
use Rattle.std.proofs.lemmas.List.Concat.{flat_map-append}
use Rattle.def_term.specs.Tree.{Tree}
use Rattle.def_term.specs.Names.{Name}
use Rattle.def_script.specs.Program.{Function, session_of, Program}
use Rattle.def_script.specs.Exports.{Exports, exports_of}
use Rattle.def_script.specs.Rules.{is_creation}
use Rattle.def_script.specs.Script.{creations}
use Rattle.def_outlook.specs.Outlook.{outlook}
use Rattle.def_session.specs.State.{Session, absent_session}
use Rattle.def_session.specs.Session.{event_reported}
use Rattle.def_session.specs.Commands.{command_done}
use Rattle.def_run.specs.Run.{HistoryItem, event_item, command_item, RunState, PickStep, pick_step, history_from, start, events}
use Rattle.def_run.specs.View.{is_own}
use Rattle.def_run.specs.Listing.{messages_from, session_after, replies_from}
use Rattle.def_run.specs.History.{NamedSession, session_state_after, all_after, all_after_items, Moment, moments_from, move_history, move_histories_from, moments_of, history, session_in, item_message, item_reply}
use Rattle.def_run.specs.HistoryLaws.{sessions_by_view, HistoryHasTheListing, HistoryHasTheReplies}
use Rattle.def_run.proofs.Appends.{own-append, messages-append, state-append, replies-append}
use Rattle.def_run.proofs.Replay.{pick_kept}
use Rattle.def_run.proofs.UncreatedSessions.{IsMissing, IsUncreated, uncreated-front, uncreated-back, events-create, stays-absent, absent-silent, absent-reply}

-- ---- the sessions after some of what is shown, each by its own view

module _ (o : Exports) where
  abbrev pub state_by_view : Name → List HistoryItem → Session
  state_by_view n past = session_after o (absent_session o) (filter (is_own n) past)

  pub next-by-view : (n : Name) (past : List HistoryItem) (x : HistoryItem) → state_by_view n (past ++ x ∷ []) ≡ session_after o (state_by_view n past) (filter (is_own n) (x ∷ []))
  next-by-view n past x = ap (session_after o (absent_session o)) (own-append n past (x ∷ [])) ∙ state-append o (absent_session o) (filter (is_own n) past) (filter (is_own n) (x ∷ []))

  one-state : (n : Name) (s : Session) (x : HistoryItem) → session_after o s (filter (is_own n) (x ∷ [])) ≡ session_state_after o (n, s) x
  one-state n s (event_item e) = refl
  one-state n s (command_item c) = go (bytes_eq n (session_of c))
    where
      go : (b : Bool) → session_after o s (cond b (command_item c ∷ []) []) ≡ (if b then (command_done o s c).0 else s)
      go true = refl
      go false = refl

  pub one-after : (cs : List (Name × Name)) (past : List HistoryItem) (x : HistoryItem) → all_after o (sessions_by_view o cs past) x ≡ sessions_by_view o cs (past ++ x ∷ [])
  one-after [] past x = refl
  one-after (s ∷ cs) past x =
      ap₂ {C = List NamedSession} (λ t ts. (s.0, t) ∷ ts) (sym (next-by-view s.0 past x ∙ one-state s.0 (state_by_view s.0 past) x)) (one-after cs past x)

  pub all-after : (cs : List (Name × Name)) (past xs : List HistoryItem) → all_after_items o (sessions_by_view o cs past) xs ≡ sessions_by_view o cs (past ++ xs)
  all-after cs past [] = ap (sessions_by_view o cs) (sym (append-nil past))
  all-after cs past (x ∷ xs) = ap (λ ss. all_after_items o ss xs) (one-after cs past x) ∙ all-after cs (past ++ x ∷ []) xs ∙ ap (sessions_by_view o cs) (append_assoc past (x ∷ []) xs)

  -- a session is among them, or is created by none
  pub found-or-missing : (n : Name) (cs : List (Name × Name)) (past : List HistoryItem)
      → (session_in o n (sessions_by_view o cs past) ≡ state_by_view n past) ⊎ (IsMissing n cs × (session_in o n (sessions_by_view o cs past) ≡ absent_session o))
  found-or-missing n [] past = inr (tt, refl)
  found-or-missing n (s ∷ cs) past = go (bytes_eq n s.0) refl (found-or-missing n cs past)
    where
      go : (b : Bool) → bytes_eq n s.0 ≡ b
          → (session_in o n (sessions_by_view o cs past) ≡ state_by_view n past) ⊎ (IsMissing n cs × (session_in o n (sessions_by_view o cs past) ≡ absent_session o))
          → ((if b then state_by_view s.0 past else session_in o n (sessions_by_view o cs past)) ≡ state_by_view n past)
          ⊎ ((b ≡ false × IsMissing n cs) × ((if b then state_by_view s.0 past else session_in o n (sessions_by_view o cs past)) ≡ absent_session o))
      go true e h = inl (ap (λ m. state_by_view m past) (sym ((bytes_eq-Decides n s.0).0 e)))
      go false e (inl h) = inl h
      go false e (inr h) = inr ((refl, h.0), h.1)

-- ---- a projection, moment by moment

-- the names of which no session is made are not created in what is shown
abbrev pub AreKnown : List (Name × Name) → List HistoryItem → Type 0
AreKnown cs xs = (n : Name) → IsMissing n cs → IsUncreated n xs

pub known-front : (cs : List (Name × Name)) (xs ys : List HistoryItem) → AreKnown cs (xs ++ ys) → AreKnown cs xs
known-front cs xs ys h n miss = uncreated-front n xs ys (h n miss)

-- a moment after these
abbrev pub moment_after : Exports → List (Name × Name) → ℕ → ℕ → List HistoryItem → HistoryItem → Moment
moment_after o cs k pick past x = record { move = k; pick = pick; item = x; before = sessions_by_view o cs past; after = all_after o (sessions_by_view o cs past) x }

-- what each of what is shown gives, after what came before it
abbrev pub over : {B : Type 0} → (List HistoryItem → HistoryItem → List B) → List HistoryItem → List HistoryItem → List B
over g past [] = []
over g past (x ∷ xs) = g past x ++ over g (past ++ x ∷ []) xs

over-append : {B : Type 0} (g : List HistoryItem → HistoryItem → List B) (past xs ys : List HistoryItem) → over g past (xs ++ ys) ≡ over g past xs ++ over g (past ++ xs) ys
over-append g past [] ys = ap (λ zs. over g zs ys) (sym (append-nil past))
over-append g past (x ∷ xs) ys =
    ap (g past x ++◌) (over-append g (past ++ x ∷ []) xs ys ∙ ap (λ zs. over g (past ++ x ∷ []) xs ++ over g zs ys) (append_assoc past (x ∷ []) xs))
    ∙ sym (append_assoc (g past x) (over g (past ++ x ∷ []) xs) (over g (past ++ x ∷ xs) ys))

module _ {B : Type 0} (o : Exports) (cs : List (Name × Name)) (f : Moment → List B) (g : List HistoryItem → HistoryItem → List B)
    (same : (k pick : ℕ) (past : List HistoryItem) (x : HistoryItem) → AreKnown cs (past ++ x ∷ []) → f (moment_after o cs k pick past x) ≡ g past x) where
  of-moments : (k pick : ℕ) (past xs : List HistoryItem) → AreKnown cs (past ++ xs) → flat_map f (moments_from o k pick (sessions_by_view o cs past) xs) ≡ over g past xs
  of-moments k pick past [] h = refl
  of-moments k pick past (x ∷ xs) h =
      let split : (past ++ x ∷ []) ++ xs ≡ past ++ x ∷ xs = append_assoc past (x ∷ []) xs in
      let known : AreKnown cs ((past ++ x ∷ []) ++ xs) = subst (AreKnown cs) (sym split) h in
      ap₂ (λ a b. a ++ b) (same k pick past x (known-front cs (past ++ x ∷ []) xs known))
      (ap (λ ss. flat_map f (moments_from o k pick ss xs)) (one-after o cs past x) ∙ of-moments k pick (past ++ x ∷ []) xs known)

  of-moves : (fs : List Function) (p : RunState) (k : ℕ) (past : List HistoryItem) (picks : List ℕ) → AreKnown cs (past ++ history_from fs p picks)
      → flat_map f (moments_of (move_histories_from o fs p k (sessions_by_view o cs past) picks)) ≡ over g past (history_from fs p picks)
  of-moves fs p k past [] h = refl
  of-moves fs p k past (pick ∷ picks) h = go (pick_step fs p pick) (pick_step fs p pick).moved refl refl h (λ q j before known. of-moves fs q j before picks known)
    where
      go : (t : PickStep) (b : Bool) → pick_step fs p pick ≡ t → t.moved ≡ b → AreKnown cs (past ++ (t.shown ++ history_from fs t.after picks))
          → ((q : RunState) (j : ℕ) (before : List HistoryItem) → AreKnown cs (before ++ history_from fs q picks)
          → flat_map f (moments_of (move_histories_from o fs q j (sessions_by_view o cs before) picks)) ≡ over g before (history_from fs q picks))
          → flat_map f (moments_of (if b then move_history o (suc k) pick (outlook fs p.world pick) (sessions_by_view o cs past) t.shown ∷ move_histories_from o fs t.after (suc k) (all_after_items o (sessions_by_view o cs past) t.shown) picks
          else move_histories_from o fs t.after k (sessions_by_view o cs past) picks))
          ≡ over g past (t.shown ++ history_from fs t.after picks)
      go t true e m known again =
          let rest : List HistoryItem = history_from fs t.after picks in
          let joined : AreKnown cs ((past ++ t.shown) ++ rest) = subst (AreKnown cs) (sym (append_assoc past t.shown rest)) known in
          flat_map-append f (moments_from o (suc k) pick (sessions_by_view o cs past) t.shown) (moments_of (move_histories_from o fs t.after (suc k) (all_after_items o (sessions_by_view o cs past) t.shown) picks))
          ∙ ap₂ (λ a b. a ++ b) (of-moments (suc k) pick past t.shown (known-front cs (past ++ t.shown) rest joined))
          (ap (λ ss. flat_map f (moments_of (move_histories_from o fs t.after (suc k) ss picks))) (all-after o cs past t.shown) ∙ again t.after (suc k) (past ++ t.shown) joined)
          ∙ sym (over-append g past t.shown rest)
      go t false e m known again =
          let none : t.shown ≡ [] = ap (λ u. u.shown) (sym e ∙ pick_kept fs p pick (ap (λ u. u.moved) e ∙ m)) in
          let rest : List HistoryItem = history_from fs t.after picks in
          again t.after k past (subst (λ xs. AreKnown cs (past ++ (xs ++ rest))) none known) ∙ ap (λ xs. over g past (xs ++ rest)) (sym none)

-- of a run
pub over-history : {B : Type 0} (p : Program) (picks : List ℕ) (f : Moment → List B) (g : List HistoryItem → HistoryItem → List B)
    → ((k pick : ℕ) (past : List HistoryItem) (x : HistoryItem) → AreKnown (creations p.commands) (past ++ x ∷ []) → f (moment_after (exports_of p) (creations p.commands) k pick past x) ≡ g past x)
    → flat_map f (history p picks) ≡ over g [] (events p picks)
over-history p picks f g same = of-moves (exports_of p) (creations p.commands) f g same p.functions (start p) 0 [] picks (events-create p picks)

-- ---- the messages of a session

module _ (o : Exports) (cs : List (Name × Name)) (n : Name) where
  abbrev pub message_by_view : List HistoryItem → HistoryItem → List Tree
  message_by_view past x = messages_from o (state_by_view o n past) (filter (is_own n) (x ∷ []))

  pub message-at : (past : List HistoryItem) (x : HistoryItem) → AreKnown cs (past ++ x ∷ []) → item_message (session_in o n (sessions_by_view o cs past)) x ≡ message_by_view past x
  message-at past (command_item c) known = go (bytes_eq n (session_of c))
    where
      go : (b : Bool) → [] ≡ messages_from o (state_by_view o n past) (cond b (command_item c ∷ []) [])
      go true = refl
      go false = refl
  message-at past (event_item e) known = go (found-or-missing o n cs past)
    where
      go : (session_in o n (sessions_by_view o cs past) ≡ state_by_view o n past) ⊎ (IsMissing n cs × (session_in o n (sessions_by_view o cs past) ≡ absent_session o))
          → option_to_list (event_reported (session_in o n (sessions_by_view o cs past)) e).1 ≡ option_to_list (event_reported (state_by_view o n past) e).1 ++ []
      go (inl h) = ap (λ s. option_to_list (event_reported s e).1) h ∙ sym (append-nil (option_to_list (event_reported (state_by_view o n past) e).1))
      go (inr h) =
          let past_uncreated : IsUncreated n past = uncreated-front n past (event_item e ∷ []) (known n h.0) in
          absent-silent (session_in o n (sessions_by_view o cs past)) e (ap (λ s. s.phase) h.1)
          ∙ sym (append-nil (option_to_list (event_reported (state_by_view o n past) e).1) ∙ absent-silent (state_by_view o n past) e (stays-absent o n (absent_session o) past refl past_uncreated))

  messages-over : (past xs : List HistoryItem) → over message_by_view past xs ≡ messages_from o (state_by_view o n past) (filter (is_own n) xs)
  messages-over past [] = refl
  messages-over past (x ∷ xs) =
      ap (message_by_view past x ++◌) (messages-over (past ++ x ∷ []) xs ∙ ap (λ s. messages_from o s (filter (is_own n) xs)) (next-by-view o n past x))
      ∙ sym (messages-append o (state_by_view o n past) (filter (is_own n) (x ∷ [])) (filter (is_own n) xs))
      ∙ ap (messages_from o (state_by_view o n past)) (sym (own-append n (x ∷ []) xs))

pub history_has_the_listing : HistoryHasTheListing
history_has_the_listing s p picks =
    let o : Exports = exports_of p in
    let cs : List (Name × Name) = creations p.commands in
    over-history p picks (λ m. item_message (session_in o s m.before) m.item) (message_by_view o cs s) (λ k pick past x known. message-at o cs s past x known)
    ∙ messages-over o cs s [] (events p picks)

-- ---- the replies

module _ (o : Exports) (cs : List (Name × Name)) where
  abbrev reply_by_view : List HistoryItem → HistoryItem → List Tree
  reply_by_view past x = replies_from o past (x ∷ [])

  reply-at : (past : List HistoryItem) (x : HistoryItem) → AreKnown cs (past ++ x ∷ []) → item_reply o (sessions_by_view o cs past) x ≡ reply_by_view past x
  reply-at past (event_item e) known = refl
  reply-at past (command_item c) known = ap (λ t. t ∷ []) (go (found-or-missing o (session_of c) cs past))
    where
      go : (session_in o (session_of c) (sessions_by_view o cs past) ≡ state_by_view o (session_of c) past) ⊎ (IsMissing (session_of c) cs × (session_in o (session_of c) (sessions_by_view o cs past) ≡ absent_session o))
          → (command_done o (session_in o (session_of c) (sessions_by_view o cs past)) c).1 ≡ (command_done o (state_by_view o (session_of c) past) c).1
      go (inl h) = ap (λ s. (command_done o s c).1) h
      go (inr h) =
          let own : bytes_eq (session_of c) (session_of c) ≡ true = (bytes_eq-Decides (session_of c) (session_of c)).1 refl in
          let no : is_creation c ≡ false = (uncreated-back (session_of c) past (command_item c ∷ []) (known (session_of c) h.0)).0 own in
          let past_uncreated : IsUncreated (session_of c) past = uncreated-front (session_of c) past (command_item c ∷ []) (known (session_of c) h.0) in
          absent-reply o (session_in o (session_of c) (sessions_by_view o cs past)) c (ap (λ s. s.phase) h.1) no
          ∙ sym (absent-reply o (state_by_view o (session_of c) past) c (stays-absent o (session_of c) (absent_session o) past refl past_uncreated) no)

  replies-over : (past xs : List HistoryItem) → over reply_by_view past xs ≡ replies_from o past xs
  replies-over past [] = refl
  replies-over past (x ∷ xs) = ap (reply_by_view past x ++◌) (replies-over (past ++ x ∷ []) xs) ∙ sym (replies-append o past (x ∷ []) xs)

pub history_has_the_replies : HistoryHasTheReplies
history_has_the_replies p picks =
    let o : Exports = exports_of p in
    let cs : List (Name × Name) = creations p.commands in
    over-history p picks (λ m. item_reply o m.before m.item) (reply_by_view o cs) (λ k pick past x known. reply-at o cs past x known)
    ∙ replies-over o cs [] (events p picks)
