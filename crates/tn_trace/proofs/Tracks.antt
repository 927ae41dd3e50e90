-- Sessions side by side, item by item.
use Rattle.std.proofs.Common.{◌≡◌, ◌∙◌, ℕ, suc, Bool, true, false, cond, if◌then◌else◌, List, [], ◌∷◌, ◌++◌, map, filter, flat_map, option_to_list, refl, sym, ap, append-nil, append_assoc}
use Rattle.std.specs.Str.{bytes_eq}
use Rattle.def_term.specs.Names.{Name}
use Rattle.def_term.specs.Tree.{Tree}
use Rattle.def_script.specs.Program.{Command, session_of}
use Rattle.def_node.specs.Event.{Event}
use Rattle.def_script.specs.Exports.{Exports}
use Rattle.def_session.specs.State.{Session, absent_session}
use Rattle.def_session.specs.Session.{event_reported}
use Rattle.def_session.specs.Commands.{command_done}
use Rattle.def_run.specs.Run.{HistoryItem, event_item, command_item}
use Rattle.def_run.specs.View.{is_own}
use Rattle.def_run.specs.Listing.{messages_from, session_after, reported_by_all, answers_from}
use Rattle.def_run.proofs.Appends.{own-append, messages-append, state-append}
use Rattle.tn_trace.specs.Tracks.{Track, track_after, tracks_from, with_event, with_command, with_events, reported_to, items_of_tracks}

-- the parts of a session
abbrev track : ℕ → Name → Session → List Tree → Track
track n s q ms = record { number = n; name = s; session = q; messages = ms }

event_more : (o : Exports) (items : List HistoryItem) (e : Event) (n : ℕ) (s : Name) → track_after o (items ++ event_item e ∷ []) n s ≡ with_event e (track_after o items n s)
event_more o items e n s =
    let own : List HistoryItem = filter (is_own s) items in
    let all : filter (is_own s) (items ++ event_item e ∷ []) ≡ own ++ event_item e ∷ [] = own-append s items (event_item e ∷ []) in
    ap (λ xs. track n s (session_after o (absent_session o) xs) (messages_from o (absent_session o) xs)) all
    ∙ ap (λ q. track n s q (messages_from o (absent_session o) (own ++ event_item e ∷ []))) (state-append o (absent_session o) own (event_item e ∷ []))
    ∙ ap (λ ms. track n s (event_reported (session_after o (absent_session o) own) e).0 ms)
    (messages-append o (absent_session o) own (event_item e ∷ [])
    ∙ ap (λ ms. messages_from o (absent_session o) own ++ ms) (append-nil (option_to_list (event_reported (session_after o (absent_session o) own) e).1)))

own_command : (o : Exports) (items : List HistoryItem) (c : Command) (n : ℕ) (s : Name) (b : Bool) → bytes_eq s (session_of c) ≡ b
    → track n s (session_after o (absent_session o) (filter (is_own s) items ++ cond b (command_item c ∷ []) [])) (messages_from o (absent_session o) (filter (is_own s) items ++ cond b (command_item c ∷ []) []))
    ≡ (if b then record (track_after o items n s) { session = (command_done o (track_after o items n s).session c).0 } else track_after o items n s)
own_command o items c n s true is =
    let own : List HistoryItem = filter (is_own s) items in
    ap (λ q. track n s q (messages_from o (absent_session o) (own ++ command_item c ∷ []))) (state-append o (absent_session o) own (command_item c ∷ []))
    ∙ ap (λ ms. track n s (command_done o (session_after o (absent_session o) own) c).0 ms) (messages-append o (absent_session o) own (command_item c ∷ []) ∙ append-nil (messages_from o (absent_session o) own))
own_command o items c n s false is =
    let own : List HistoryItem = filter (is_own s) items in
    ap (λ xs. track n s (session_after o (absent_session o) xs) (messages_from o (absent_session o) xs)) (append-nil own)

command_more : (o : Exports) (items : List HistoryItem) (c : Command) (n : ℕ) (s : Name) → track_after o (items ++ command_item c ∷ []) n s ≡ with_command o c (track_after o items n s)
command_more o items c n s =
    ap (λ xs. track n s (session_after o (absent_session o) xs) (messages_from o (absent_session o) xs)) (own-append s items (command_item c ∷ []))
    ∙ own_command o items c n s (bytes_eq s (session_of c)) refl

pub event_more_all : (o : Exports) (items : List HistoryItem) (e : Event) (n : ℕ) (ss : List (Name × Name)) → tracks_from o (items ++ event_item e ∷ []) n ss ≡ map (with_event e) (tracks_from o items n ss)
event_more_all o items e n [] = refl
event_more_all o items e n (s ∷ ss) = λ i. event_more o items e n s.0 i ∷ event_more_all o items e (suc n) ss i

pub command_more_all : (o : Exports) (items : List HistoryItem) (c : Command) (n : ℕ) (ss : List (Name × Name)) → tracks_from o (items ++ command_item c ∷ []) n ss ≡ map (with_command o c) (tracks_from o items n ss)
command_more_all o items c n [] = refl
command_more_all o items c n (s ∷ ss) = λ i. command_more o items c n s.0 i ∷ command_more_all o items c (suc n) ss i

pub events_more_all : (o : Exports) (n : ℕ) (ss : List (Name × Name)) (items : List HistoryItem) (es : List Event) → tracks_from o (items ++ map event_item es) n ss ≡ with_events es (tracks_from o items n ss)
events_more_all o n ss items [] = ap (λ xs. tracks_from o xs n ss) (append-nil items)
events_more_all o n ss items (e ∷ es) =
    ap (λ xs. tracks_from o xs n ss) (sym (append_assoc items (event_item e ∷ []) (map event_item es)))
    ∙ events_more_all o n ss (items ++ event_item e ∷ []) es
    ∙ ap (with_events es) (event_more_all o items e n ss)

-- what an event adds to all sessions
told_all : (o : Exports) (n : ℕ) (ss : List (Name × Name)) (items : List HistoryItem) (e : Event) → flat_map (reported_to e) (tracks_from o items n ss) ≡ reported_by_all o n ss items e
told_all o n [] items e = refl
told_all o n (s ∷ ss) items e = ap (λ xs. reported_to e (track_after o items n s.0) ++ xs) (told_all o (suc n) ss items e)

pub told_answers : (o : Exports) (ss : List (Name × Name)) (items : List HistoryItem) (es : List Event) → items_of_tracks es (tracks_from o items 1 ss) ≡ answers_from o ss items (map event_item es)
told_answers o ss items [] = refl
told_answers o ss items (e ∷ es) =
    ap (λ xs. xs ++ items_of_tracks es (map (with_event e) (tracks_from o items 1 ss))) (told_all o 1 ss items e)
    ∙ ap (λ ts. reported_by_all o 1 ss items e ++ items_of_tracks es ts) (sym (event_more_all o items e 1 ss))
    ∙ ap (λ xs. reported_by_all o 1 ss items e ++ xs) (told_answers o ss (items ++ event_item e ∷ []) es)
