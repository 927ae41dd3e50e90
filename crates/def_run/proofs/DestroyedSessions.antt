-- What a destroyed session adds: nothing.
use Rattle.std.proofs.Common.{◌≡◌, ℕ, List, [], ◌∷◌, ◌++◌, refl, ap, ◌∙◌, append-nil}
use Rattle.std.specs.Prelude.{option_to_list, filter}
use Rattle.def_term.specs.Names.{Name}
use Rattle.def_script.specs.Program.{Program}
use Rattle.def_session.specs.State.{destroyed, Session, absent_session}
use Rattle.def_script.specs.Exports.{Exports, exports_of}
use Rattle.def_session.specs.Session.{event_reported}
use Rattle.def_session.specs.Commands.{command_done}
use Rattle.def_session.proofs.DestroyedSessions.{event-silent, event-destroyed, command-destroyed}
use Rattle.def_run.specs.Run.{HistoryItem, event_item, command_item, history_from, start, run_state_of}
use Rattle.def_run.specs.View.{is_own, view}
use Rattle.def_run.specs.Listing.{messages_from, session_after, messages, state_of}
use Rattle.def_run.proofs.Appends.{own-append, shown-append, messages-append, state-append}

pub nothing_more : (o : Exports) (s : Session) (items : List HistoryItem) → s.phase ≡ destroyed → messages_from o s items ≡ []
nothing_more o s [] h = refl
nothing_more o s (event_item e ∷ items) h =
    ap (λ m. option_to_list m ++ messages_from o (event_reported s e).0 items) (event-silent s e h) ∙ nothing_more o (event_reported s e).0 items (event-destroyed s e h)
nothing_more o s (command_item c ∷ items) h = nothing_more o (command_done o s c).0 items (command-destroyed o s c h)

pub still_destroyed : (o : Exports) (s : Session) (items : List HistoryItem) → s.phase ≡ destroyed → (session_after o s items).phase ≡ destroyed
still_destroyed o s [] h = h
still_destroyed o s (event_item e ∷ items) h = still_destroyed o (event_reported s e).0 items (event-destroyed s e h)
still_destroyed o s (command_item c ∷ items) h = still_destroyed o (command_done o s c).0 items (command-destroyed o s c h)

module _ (s : Name) (p : Program) (picks more : List ℕ) (h : (state_of (view s p picks)).phase ≡ destroyed) where
  abbrev seen : List HistoryItem
  seen = history_from p.functions (start p) picks

  abbrev next : List HistoryItem
  next = history_from p.functions (run_state_of p picks) more

  pub destroyed_listing : messages s p (picks ++ more) ≡ messages s p picks
  destroyed_listing =
      let o : Exports = exports_of p in
      ap (λ items. messages_from o (absent_session o) (filter (is_own s) items)) (shown-append p.functions (start p) picks more)
      ∙ ap (messages_from o (absent_session o)) (own-append s seen next)
      ∙ messages-append o (absent_session o) (filter (is_own s) seen) (filter (is_own s) next)
      ∙ ap (messages_from o (absent_session o) (filter (is_own s) seen) ++◌) (nothing_more o (session_after o (absent_session o) (filter (is_own s) seen)) (filter (is_own s) next) h)
      ∙ append-nil (messages_from o (absent_session o) (filter (is_own s) seen))

  pub destroyed_stays : (state_of (view s p (picks ++ more))).phase ≡ destroyed
  destroyed_stays =
      let o : Exports = exports_of p in
      ap (λ items. (session_after o (absent_session o) (filter (is_own s) items)).phase) (shown-append p.functions (start p) picks more)
      ∙ ap (λ items. (session_after o (absent_session o) items).phase) (own-append s seen next)
      ∙ ap (λ t. t.phase) (state-append o (absent_session o) (filter (is_own s) seen) (filter (is_own s) next))
      ∙ still_destroyed o (session_after o (absent_session o) (filter (is_own s) seen)) (filter (is_own s) next) h
