-- How many messages the sessions sent, and the first move after which one sent so many.
use Rattle.std.proofs.Common.{◌≡◌, ◌∙◌, inl, inr, ◌+◌, ◌<◌, ◌≤◌, ℕ, zero, suc, Bool, true, false, if◌then◌else◌, Option, Some, None, List, [], ◌∷◌, ◌++◌, length, drop, get_or, refl, sym, ap, ap₂, subst, append-nil, append_assoc, length-append, arith}
use Rattle.std.specs.Prelude.{filter, slice_get}
use Rattle.std.specs.Option.{is_some}
use Rattle.std.specs.Str.{bytes_eq}
use Rattle.std.proofs.lemmas.List.{drop_more, drop_all}
use Rattle.std.proofs.lemmas.Option.{slice_get_past}
use Rattle.std.proofs.lemmas.Slice.Eq.{bytes_eq-Decides}
use Rattle.def_term.specs.Alive.{Alive}
use Rattle.def_term.specs.Names.{Name}
use Rattle.def_term.specs.Tree.{Tree}
use Rattle.def_script.specs.Program.{Program}
use Rattle.def_script.specs.Exports.{Exports, exports_of}
use Rattle.def_script.specs.Script.{creations}
use Rattle.def_session.specs.State.{absent_session}
use Rattle.def_run.specs.Run.{HistoryItem, event_item, command_item, events}
use Rattle.def_run.specs.History.{session_in, item_message}
use Rattle.def_run.specs.HistoryLaws.{sessions_by_view}
use Rattle.def_run.specs.View.{is_own}
use Rattle.def_run.specs.Listing.{messages, messages_from, session_after}
use Rattle.def_run.proofs.Histories.{over, over-history, history_has_the_listing}
use Rattle.def_message_choice.specs.MessageNumbers.{message_of_number, move_after}
use Rattle.tn_term.specs.Views.{alive_of}
use Rattle.tn_trace.specs.Slots.{IsTracked, EachPair}
use Rattle.tn_trace.specs.Tracks.{tracks_from}
use Rattle.tn_trace.specs.Recorders.{HasRecorded}
use Rattle.tn_trace.specs.declared.slot.Slot.{Slot}
use Rattle.tn_trace.specs.declared.recorder.Recorder.{Recorder}
use Rattle.tn_message_choice.specs.Counts.{IsCountUpTo, AreSoMany, sent_in, HasNumber, HasNoNumber}
use Rattle.tn_message_choice.specs.Finders.{IsFoundBy}
use Rattle.tn_message_choice.specs.declared.count.Count.{Count}

-- one more message
pub one_more_counted : (ts : List Tree) (t : Tree) (old new : ℕ) → ((n : ℕ) → IsCountUpTo n old → IsCountUpTo (n + 1) new) → IsCountUpTo (length ts) old → IsCountUpTo (length (ts ++ t ∷ [])) new
one_more_counted ts t old new more h = subst (λ n. IsCountUpTo n new) (sym (length-append ts (t ∷ []))) (more (length ts) h)

-- ---- the slot of a name

module _ {A : Type 0} (n : Name) (slots : List (Slot A Count)) (i : ℕ) where
  module _ (slot : Slot A Count) (below : i < length slots) (is : slot ≡ get_or slots i slot) (so_far : sent_in n (drop i slots) ≡ sent_in n slots) where
    first_left : drop i slots ≡ slot ∷ drop (i + 1) slots
    first_left = drop_more slots i slot below ∙ ap (λ s. s ∷ drop (i + 1) slots) (sym is)

    by_name : (b : Bool) → bytes_eq n slot.name ≡ b → (if b then slot.kept.sent else sent_in n (drop (i + 1) slots)) ≡ sent_in n slots
    by_name b named = sym (ap (λ d. if d then slot.kept.sent else sent_in n (drop (i + 1) slots)) named) ∙ sym (ap (sent_in n) first_left) ∙ so_far

    pub counted_here : bytes_eq n slot.name ≡ true → slot.kept.sent ≡ sent_in n slots
    counted_here named = by_name true named

    pub counted_later : bytes_eq n slot.name ≡ false → sent_in n (drop (i + 1) slots) ≡ sent_in n slots
    counted_later named = by_name false named

  pub none_counted : length slots ≤ i → sent_in n (drop i slots) ≡ sent_in n slots → 0 ≡ sent_in n slots
  none_counted past so_far = sym (ap (sent_in n) (drop_all i slots past)) ∙ so_far

-- ---- the messages of a session

abbrev no_messages : List Tree
no_messages = []

-- the name isn't one of these sessions'
abbrev IsMissing : Name → List (Name × Name) → Type 0
IsMissing n [] = Unit {0}
IsMissing n (s ∷ ss) = (bytes_eq n s.0 ≡ false) × IsMissing n ss

-- a session that no command creates is absent, and sends none
module _ (o : Exports) (n : Name) where
  is-absent : (cs : List (Name × Name)) (past : List HistoryItem) → IsMissing n cs → session_in o n (sessions_by_view o cs past) ≡ absent_session o
  is-absent [] past miss = refl
  is-absent (s ∷ cs) past miss = go (bytes_eq n s.0) miss.0 (is-absent cs past miss.1)
    where
      go : (b : Bool) → b ≡ false → session_in o n (sessions_by_view o cs past) ≡ absent_session o → (if b then session_after o (absent_session o) (filter (is_own s.0) past) else session_in o n (sessions_by_view o cs past)) ≡ absent_session o
      go true e rest = absurd (cc e)
      go false e rest = rest

  none-sent : (x : HistoryItem) → item_message (absent_session o) x ≡ []
  none-sent (event_item e) = refl
  none-sent (command_item k) = refl

nothing-over : (past xs : List HistoryItem) → over (λ before x. no_messages) past xs ≡ []
nothing-over past [] = refl
nothing-over past (x ∷ xs) = nothing-over (past ++ x ∷ []) xs

silent : (p : Program) (picks : List ℕ) (n : Name) → IsMissing n (creations p.commands) → messages n p picks ≡ []
silent p picks n miss =
    let o : Exports = exports_of p in
    sym (history_has_the_listing n p picks)
    ∙ over-history p picks (λ m. item_message (session_in o n m.before) m.item) (λ past x. no_messages) (λ k pick past x known. ap (λ s. item_message s x) (is-absent o n (creations p.commands) past miss) ∙ none-sent o n x)
    ∙ nothing-over [] (events p picks)

-- what a session of this name sends of what is shown
abbrev messages_over : Exports → List HistoryItem → Name → List Tree
messages_over o items n = messages_from o (absent_session o) (filter (is_own n) items)

module _ {A : Type 0} (o : Exports) (living : Alive) (n : Name) (items : List HistoryItem) where
  counted : (j : ℕ) (cs : List (Name × Name)) (slots : List (Slot A Count)) → EachPair (IsTracked AreSoMany o living) (tracks_from o items j cs) slots
      → (IsMissing n cs → messages_over o items n ≡ []) → IsCountUpTo (length (messages_over o items n)) (sent_in n slots)
  counted j [] [] h none = subst (λ ts. IsCountUpTo (length ts) 0) (sym (none tt)) (omega arith, λ _. refl)
  counted j [] (s ∷ slots) h none = absurd h
  counted j (c ∷ cs) [] h none = absurd h
  counted j (c ∷ cs) (s ∷ slots) h none = go (bytes_eq n s.name) refl (counted (suc j) cs slots h.1)
    where
      go : (b : Bool) → bytes_eq n s.name ≡ b → ((IsMissing n cs → messages_over o items n ≡ []) → IsCountUpTo (length (messages_over o items n)) (sent_in n slots))
          → IsCountUpTo (length (messages_over o items n)) (if b then s.kept.sent else sent_in n slots)
      go true e rest =
          let same : c.0 ≡ n = sym h.0.name ∙ sym ((bytes_eq-Decides n s.name).0 e) in
          subst (λ m. IsCountUpTo (length (messages_over o items m)) s.kept.sent) same h.0.kept
      go false e rest = rest (λ miss. none (ap (bytes_eq n) (sym h.0.name) ∙ e, miss))

-- of a run
pub recorded_count : {A : Type 0} (r : Recorder A Count) (p : Program) (picks : List ℕ) (n : Name) → HasRecorded AreSoMany r p picks → IsCountUpTo (length (messages n p picks)) (sent_in n r.slots.items)
recorded_count r p picks n h =
    counted (exports_of p) (alive_of r.living) n (events p picks) 1 (creations p.commands) r.slots.items h.sessions
    (silent p picks n)

-- ---- the message of a number

some-within : (ts : List Tree) (i : ℕ) → i < length ts → is_some (slice_get ts i) ≡ true
some-within [] i below = absurd (omega (arith, below))
some-within (t ∷ ts) zero below = refl
some-within (t ∷ ts) (suc i) below = some-within ts i (omega (arith, below))

is-there : (k sent : ℕ) (ts : List Tree) → IsCountUpTo (length ts) sent → HasNumber k sent → is_some (message_of_number k ts) ≡ true
is-there zero sent ts count h = absurd (omega (arith, h.0))
is-there (suc i) sent ts count h = some-within ts i (omega (arith, h.1, count.0))

is-missing : (k sent : ℕ) (ts : List Tree) → IsCountUpTo (length ts) sent → HasNoNumber k sent → is_some (message_of_number k ts) ≡ false
is-missing zero sent ts count h = refl
is-missing (suc i) sent ts count (most, inl h) = absurd (omega (arith, h))
is-missing (suc i) sent ts count (most, inr h) =
    let exact : sent ≡ length ts = count.1 (omega (arith, most, h)) in
    let past : length ts ≤ i = omega (arith, exact, h) in
    ap is_some (slice_get_past ts i past)

-- ---- one more move

-- the first of two, where it is there
abbrev earlier_of : Option ℕ → Option ℕ → Option ℕ
earlier_of (Some m) o = Some m
earlier_of None o = o

module _ (s : Name) (k : ℕ) (p : Program) (pick : ℕ) where
  -- the move after these, where the session sends the message there
  abbrev next_found : List ℕ → Option ℕ
  next_found before = if is_some (message_of_number k (messages s p (before ++ pick ∷ []))) then Some (suc (length before)) else None

  after-more : (before js : List ℕ) → move_after s k p before (js ++ pick ∷ []) ≡ earlier_of (move_after s k p before js) (next_found (before ++ js))
  after-more before [] = ap next_found (sym (append-nil before))
  after-more before (j ∷ js) = go (is_some (message_of_number k (messages s p (before ++ j ∷ [])))) (after-more (before ++ j ∷ []) js)
    where
      go : (b : Bool) → move_after s k p (before ++ j ∷ []) (js ++ pick ∷ []) ≡ earlier_of (move_after s k p (before ++ j ∷ []) js) (next_found ((before ++ j ∷ []) ++ js))
          → (if b then Some (suc (length before)) else move_after s k p (before ++ j ∷ []) (js ++ pick ∷ []))
          ≡ earlier_of (if b then Some (suc (length before)) else move_after s k p (before ++ j ∷ []) js) (next_found (before ++ j ∷ js))
      go true again = refl
      go false again = again ∙ ap (λ ys. earlier_of (move_after s k p (before ++ j ∷ []) js) (next_found ys)) (append_assoc before (j ∷ []) js)

  pub found_more : (picks : List ℕ) (made sent : ℕ) (old new : Option ℕ) → old ≡ move_after s k p [] picks → IsFoundBy made k sent old new → made ≡ suc (length picks)
      → IsCountUpTo (length (messages s p (picks ++ pick ∷ []))) sent → new ≡ move_after s k p [] (picks ++ pick ∷ [])
  found_more picks made sent (Some m) new e found number count = found ∙ ap (λ o. earlier_of o (next_found picks)) e ∙ sym (after-more [] picks)
  found_more picks made sent None None e found number count =
      let none : next_found picks ≡ None = ap (λ b. if b then Some (suc (length picks)) else None) (is-missing k sent (messages s p (picks ++ pick ∷ [])) count found) in
      sym (after-more [] picks ∙ ap₂ earlier_of (sym e) none)
  found_more picks made sent None (Some m) e found number count =
      let here : next_found picks ≡ Some (suc (length picks)) = ap (λ b. if b then Some (suc (length picks)) else None) (is-there k sent (messages s p (picks ++ pick ∷ [])) count found.1) in
      ap Some (found.0 ∙ number) ∙ sym (after-more [] picks ∙ ap₂ earlier_of (sym e) here)

-- ---- what was found before, and what is found now

pub found_before : (made k sent : ℕ) (old : Option ℕ) → is_some old ≡ true → IsFoundBy made k sent old old
found_before made k sent None e = absurd (cc e)
found_before made k sent (Some m) e = refl

pub found_nowhere : (made k sent : ℕ) (old : Option ℕ) → is_some old ≡ false → HasNoNumber k sent → IsFoundBy made k sent old old
found_nowhere made k sent None e h = h
found_nowhere made k sent (Some m) e h = absurd (cc e)

pub found_here : (made k sent : ℕ) (old : Option ℕ) → is_some old ≡ false → HasNumber k sent → IsFoundBy made k sent old (Some made)
found_here made k sent None e h = (refl, h)
found_here made k sent (Some m) e h = absurd (cc e)
