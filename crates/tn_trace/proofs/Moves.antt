-- One more pick, by what the node gives for it.
use Rattle.std.proofs.Common.{◌≡◌, ◌∙◌, ℕ, suc, ◌<◌, Bool, true, false, if◌then◌else◌, List, [], ◌∷◌, ◌++◌, length, map, take, Option, Some, None, unwrap_or, refl, sym, ap, subst, append-nil}
use Rattle.std.specs.Prelude.{slice_get}
use Rattle.def_term.specs.Names.{word}
use Rattle.def_script.specs.Program.{Command, session_of, Program}
use Rattle.def_node.specs.Event.{Event}
use Rattle.def_node.specs.Node.{NodeState, gives_events, gives_command, gives_nothing, next}
use Rattle.def_script.specs.Exports.{Exports}
use Rattle.def_run.specs.Run.{HistoryItem, event_item, command_item, PickStep, start, events, moves, run_state_of, pick_step_after}
use Rattle.def_script.specs.Exports.{exports_of}
use Rattle.def_run.specs.Listing.{Item as DefinedItem, replies, replies_from, answers_from, history_by, answer}
use Rattle.def_script.specs.Script.{creations}
use Rattle.def_run.specs.Laws.{IsIdleAfter, IsNext, state_at}
use Rattle.def_run.proofs.Appends.{shown-append, moves-append, place-append, replies-append}
use Rattle.def_run.proofs.Nexts.{pick_is_next}
use Rattle.def_run.proofs.Replay.{pick_kept}
use Rattle.tn_trace.specs.Tracks.{tracks_from, tracks_of, with_command, with_events, items_of_tracks, reply_in, command_numbered}
use Rattle.tn_trace.specs.Observers.{IsNextMove, IsNextCommand}
use Rattle.tn_trace.specs.declared.journal.JournalEntry.{JournalEntry}
use Rattle.tn_trace.proofs.Tracks.{command_more_all, events_more_all, told_answers}
use Rattle.tn_trace.proofs.Creations.{is_created, reply_of, reply_is, never_created, no_creation}

pub place_more : (p : Program) (picks : List ℕ) (x : ℕ) → run_state_of p (picks ++ x ∷ []) ≡ (pick_step_after p picks x).after
place_more p picks x = place-append p.functions (start p) picks (x ∷ [])

pub events_more : (p : Program) (picks : List ℕ) (x : ℕ) → events p (picks ++ x ∷ []) ≡ events p picks ++ (pick_step_after p picks x).shown
events_more p picks x = shown-append p.functions (start p) picks (x ∷ []) ∙ ap (λ xs. events p picks ++ xs) (append-nil (pick_step_after p picks x).shown)

pub moves_more : (p : Program) (picks : List ℕ) (x : ℕ) → moves p (picks ++ x ∷ []) ≡ moves p picks ++ (if (pick_step_after p picks x).moved then x ∷ [] else [])
moves_more p picks x = moves-append p.functions (start p) picks (x ∷ []) ∙ ap (λ xs. moves p picks ++ xs) (append-nil (if (pick_step_after p picks x).moved then x ∷ [] else []))

taken_front : (xs : List ℕ) (x : ℕ) → take (length xs) (xs ++ x ∷ []) ≡ xs
taken_front [] x = refl
taken_front (y ∷ xs) x = ap (λ ys. y ∷ ys) (taken_front xs x)

last_got : (xs : List ℕ) (x : ℕ) → slice_get (xs ++ x ∷ []) (length xs) ≡ Some x
last_got [] x = refl
last_got (y ∷ xs) x = last_got xs x

-- the answer of the last of picks that all move
last_answer : (p : Program) (picks : List ℕ) (x : ℕ) → moves p (picks ++ x ∷ []) ≡ picks ++ x ∷ [] → answer p (picks ++ x ∷ []) (length picks) ≡ answers_from (exports_of p) (creations p.commands) (events p picks) (pick_step_after p picks x).shown
last_answer p picks x all =
    let shown : List ℕ → Option ℕ → List DefinedItem = λ before o. answers_from (exports_of p) (creations p.commands) (events p before) (history_by p before o) in
    ap (λ js. shown (take (length picks) js) (slice_get js (length picks))) all
    ∙ ap (λ before. shown before (slice_get (picks ++ x ∷ []) (length picks))) (taken_front picks x)
    ∙ ap (shown picks) (last_got picks x)

-- where picks that all move lead with one more that moves
journal_more : (p : Program) (picks : List ℕ) (x : ℕ) → moves p picks ≡ picks → (pick_step_after p picks x).moved ≡ true → moves p (picks ++ x ∷ []) ≡ picks ++ x ∷ []
journal_more p picks x all moved = moves_more p picks x ∙ ap (λ xs. xs ++ (if (pick_step_after p picks x).moved then x ∷ [] else [])) all ∙ ap (λ b. picks ++ (if b then x ∷ [] else [])) moved

state_more : (p : Program) (picks : List ℕ) (x : ℕ) (s : NodeState) → s ≡ state_at p (pick_step_after p picks x).after → s ≡ state_at p (run_state_of p (picks ++ x ∷ []))
state_more p picks x s state = state ∙ ap (state_at p) (sym (place_more p picks x))

-- what an entry of the journal shows
pub record IsMove (p : Program) (picks : List ℕ) (x : ℕ) (shown : List HistoryItem) : Type 0 where
  pub happens : events p (picks ++ x ∷ []) ≡ events p picks ++ shown
  pub journaled : moves p (picks ++ x ∷ []) ≡ picks ++ x ∷ []
  pub answered : answer p (picks ++ x ∷ []) (length picks) ≡ answers_from (exports_of p) (creations p.commands) (events p picks) shown

pub entry_moves : (p : Program) (picks : List ℕ) (entry : JournalEntry) (shown : List HistoryItem) → IsNextMove p picks entry shown → IsMove p picks entry.pick shown
entry_moves p picks entry shown next =
    let journal : moves p (picks ++ entry.pick ∷ []) ≡ picks ++ entry.pick ∷ [] = journal_more p picks entry.pick next.all next.moved in
    record {
      happens = events_more p picks entry.pick ∙ ap (λ xs. events p picks ++ xs) next.shows;
      journaled = journal;
      answered = last_answer p picks entry.pick journal ∙ ap (answers_from (exports_of p) (creations p.commands) (events p picks)) next.shows;
    }

-- ---- nothing

pub nothing_pick : (p : Program) (picks : List ℕ) (x : ℕ) (s : NodeState) → length (moves p picks) < 65536 → gives_nothing s ≡ next p (state_at p (run_state_of p picks)) x → (s ≡ state_at p (run_state_of p picks)) × IsIdleAfter p picks x
nothing_pick p picks x s below h =
    let law : IsNext p (gives_nothing s) (pick_step_after p picks x) = subst (λ n. IsNext p n (pick_step_after p picks x)) (sym h) (pick_is_next p picks x below) in
    (law.1 ∙ ap (λ (t : PickStep). state_at p t.after) (pick_kept p.functions (run_state_of p picks) x law.0), law.0)

-- ---- events

no_replies : (o : Exports) (past : List HistoryItem) (es : List Event) → replies_from o past (map event_item es) ≡ []
no_replies o past [] = refl
no_replies o past (e ∷ es) = no_replies o (past ++ event_item e ∷ []) es

-- the node gives events, and the entry shows them
pub next_events : (p : Program) (picks : List ℕ) (entry : JournalEntry) (s : NodeState) (es : List Event) → moves p picks ≡ picks → entry.number ≡ suc (length picks) → length (moves p picks) < 65536 → gives_events s es ≡ next p (state_at p (run_state_of p picks)) entry.pick
    → IsNextMove p picks entry (map event_item es) × (s ≡ state_at p (run_state_of p (picks ++ entry.pick ∷ [])))
next_events p picks entry s es all number below h =
    let law : IsNext p (gives_events s es) (pick_step_after p picks entry.pick) = subst (λ n. IsNext p n (pick_step_after p picks entry.pick)) (sym h) (pick_is_next p picks entry.pick below) in
    (record { all = all; numbered = number; moved = law.0; shows = law.2 }, state_more p picks entry.pick s law.1)

pub record IsEventsMove (p : Program) (picks : List ℕ) (x : ℕ) (es : List Event) : Type 0 where
  pub tracks : with_events es (tracks_of p picks) ≡ tracks_of p (picks ++ x ∷ [])
  pub reported : items_of_tracks es (tracks_of p picks) ≡ answer p (picks ++ x ∷ []) (length picks)
  pub replied : replies p picks ≡ replies p (picks ++ x ∷ [])

pub events_pick : (p : Program) (picks : List ℕ) (entry : JournalEntry) (es : List Event) → IsNextMove p picks entry (map event_item es) → IsEventsMove p picks entry.pick es
events_pick p picks entry es next =
    let m : IsMove p picks entry.pick (map event_item es) = entry_moves p picks entry (map event_item es) next in
    record {
      tracks = sym (events_more_all (exports_of p) 1 (creations p.commands) (events p picks) es) ∙ ap (λ xs. tracks_from (exports_of p) xs 1 (creations p.commands)) (sym m.happens);
      reported = told_answers (exports_of p) (creations p.commands) (events p picks) es ∙ sym m.answered;
      replied = sym (ap (replies_from (exports_of p) []) m.happens ∙ replies-append (exports_of p) [] (events p picks) (map event_item es) ∙ ap (λ xs. replies p picks ++ xs) (no_replies (exports_of p) (events p picks) es) ∙ append-nil (replies p picks));
    }

-- ---- a command

reply_found : (p : Program) (picks : List ℕ) (k : ℕ) (c : Command) → slice_get p.commands k ≡ Some c → reply_in (exports_of p) c (tracks_of p picks) ≡ reply_of (exports_of p) (events p picks) c
reply_found p picks k c in_list =
    ap (λ r. unwrap_or r (word "badarg")) (reply_is (exports_of p) (events p picks) c 1 (creations p.commands) None)
    ∙ go (is_created (creations p.commands) (session_of c)) refl
  where
    go : (b : Bool) → is_created (creations p.commands) (session_of c) ≡ b → unwrap_or (if b then Some (reply_of (exports_of p) (events p picks) c) else None) (word "badarg") ≡ reply_of (exports_of p) (events p picks) c
    go true e = refl
    go false e = sym (never_created (exports_of p) p.functions (start p) picks c e (no_creation (session_of c) p.commands k c e in_list))

-- the node gives a command's number, and the entry takes that command
pub next_command : (p : Program) (picks : List ℕ) (entry : JournalEntry) (s : NodeState) (n : ℕ) → moves p picks ≡ picks → entry.number ≡ suc (length picks) → length (moves p picks) < 65536 → gives_command s n ≡ next p (state_at p (run_state_of p picks)) entry.pick
    → (c : Command) × IsNextCommand p picks entry c × (command_numbered p.commands n ≡ Some c) × (s ≡ state_at p (run_state_of p (picks ++ entry.pick ∷ [])))
next_command p picks entry s n all number below h =
    let law : IsNext p (gives_command s n) (pick_step_after p picks entry.pick) = subst (λ k. IsNext p k (pick_step_after p picks entry.pick)) (sym h) (pick_is_next p picks entry.pick below) in
    let found : slice_get p.commands law.2.0 ≡ Some law.2.1 = law.2.3 in (
      law.2.1,
      record { move = record { all = all; numbered = number; moved = law.0; shows = law.2.4 }; place = law.2.0; listed = found },
      ap (command_numbered p.commands) law.2.2 ∙ found,
      state_more p picks entry.pick s law.1,
    )

pub record IsCommandMove (p : Program) (picks : List ℕ) (x : ℕ) (c : Command) : Type 0 where
  pub tracks : map (with_command (exports_of p) c) (tracks_of p picks) ≡ tracks_of p (picks ++ x ∷ [])
  pub reported : [] ≡ answer p (picks ++ x ∷ []) (length picks)
  pub replied : replies p picks ++ reply_in (exports_of p) c (tracks_of p picks) ∷ [] ≡ replies p (picks ++ x ∷ [])

pub command_pick : (p : Program) (picks : List ℕ) (entry : JournalEntry) (c : Command) → IsNextCommand p picks entry c → IsCommandMove p picks entry.pick c
command_pick p picks entry c next =
    let m : IsMove p picks entry.pick (command_item c ∷ []) = entry_moves p picks entry (command_item c ∷ []) next.move in
    record {
      tracks = sym (command_more_all (exports_of p) (events p picks) c 1 (creations p.commands)) ∙ ap (λ xs. tracks_from (exports_of p) xs 1 (creations p.commands)) (sym m.happens);
      reported = sym m.answered;
      replied = ap (λ t. replies p picks ++ t ∷ []) (reply_found p picks next.place c next.listed) ∙ sym (ap (replies_from (exports_of p) []) m.happens ∙ replies-append (exports_of p) [] (events p picks) (command_item c ∷ []));
    }
