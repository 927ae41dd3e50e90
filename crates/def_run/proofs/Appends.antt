-- What runs and folds give over two lists, one after the other.
use Rattle.std.proofs.Common.{◌≡◌, ℕ, List, [], ◌∷◌, ◌++◌, cond, Bool, true, false, if◌then◌else◌, refl, sym, ap, ◌∙◌, append_assoc, append-nil}
use Rattle.std.specs.Prelude.{option_to_list, filter}
use Rattle.def_term.specs.Tree.{Tree}
use Rattle.def_term.specs.Names.{Name}
use Rattle.def_script.specs.Program.{Function, session_of}
use Rattle.def_session.specs.State.{Session, absent_session}
use Rattle.def_script.specs.Exports.{Exports}
use Rattle.def_session.specs.Session.{event_reported}
use Rattle.def_session.specs.Commands.{command_done}
use Rattle.def_run.specs.Run.{HistoryItem, event_item, command_item, RunState, pick_step, history_from, moves_from, run_state_after}
use Rattle.def_run.specs.View.{is_own}
use Rattle.def_run.specs.Listing.{messages_from, session_after, replies_from}

pub shown-append : (ks : List Function) (p : RunState) (xs ys : List ℕ) → history_from ks p (xs ++ ys) ≡ history_from ks p xs ++ history_from ks (run_state_after ks p xs) ys
shown-append ks p [] ys = refl
shown-append ks p (x ∷ xs) ys = ap ((pick_step ks p x).shown ++◌) (shown-append ks (pick_step ks p x).after xs ys) ∙ sym (append_assoc (pick_step ks p x).shown _ _)

pub moves-append : (ks : List Function) (p : RunState) (xs ys : List ℕ) → moves_from ks p (xs ++ ys) ≡ moves_from ks p xs ++ moves_from ks (run_state_after ks p xs) ys
moves-append ks p [] ys = refl
moves-append ks p (x ∷ xs) ys =
    let own : List ℕ = if (pick_step ks p x).moved then x ∷ [] else [] in
    ap (own ++◌) (moves-append ks (pick_step ks p x).after xs ys) ∙ sym (append_assoc own _ _)

pub place-append : (ks : List Function) (p : RunState) (xs ys : List ℕ) → run_state_after ks p (xs ++ ys) ≡ run_state_after ks (run_state_after ks p xs) ys
place-append ks p [] ys = refl
place-append ks p (x ∷ xs) ys = place-append ks (pick_step ks p x).after xs ys

pub own-append : (s : Name) (xs ys : List HistoryItem) → filter (is_own s) (xs ++ ys) ≡ filter (is_own s) xs ++ filter (is_own s) ys
own-append s [] ys = refl
own-append s (x ∷ xs) ys = go (is_own s x) (own-append s xs ys)
  where
    go : (b : Bool) → filter (is_own s) (xs ++ ys) ≡ filter (is_own s) xs ++ filter (is_own s) ys → cond b (x ∷ filter (is_own s) (xs ++ ys)) (filter (is_own s) (xs ++ ys)) ≡ cond b (x ∷ filter (is_own s) xs) (filter (is_own s) xs) ++ filter (is_own s) ys
    go true h = ap (x ∷◌) h
    go false h = h

pub messages-append : (o : Exports) (s : Session) (xs ys : List HistoryItem) → messages_from o s (xs ++ ys) ≡ messages_from o s xs ++ messages_from o (session_after o s xs) ys
messages-append o s [] ys = refl
messages-append o s (event_item e ∷ xs) ys = ap (option_to_list (event_reported s e).1 ++◌) (messages-append o (event_reported s e).0 xs ys) ∙ sym (append_assoc (option_to_list (event_reported s e).1) _ _)
messages-append o s (command_item c ∷ xs) ys = messages-append o (command_done o s c).0 xs ys

pub state-append : (o : Exports) (s : Session) (xs ys : List HistoryItem) → session_after o s (xs ++ ys) ≡ session_after o (session_after o s xs) ys
state-append o s [] ys = refl
state-append o s (event_item e ∷ xs) ys = state-append o (event_reported s e).0 xs ys
state-append o s (command_item c ∷ xs) ys = state-append o (command_done o s c).0 xs ys

pub replies-append : (o : Exports) (past xs ys : List HistoryItem) → replies_from o past (xs ++ ys) ≡ replies_from o past xs ++ replies_from o (past ++ xs) ys
replies-append o past [] ys = ap (λ x. replies_from o x ys) (sym (append-nil past))
replies-append o past (event_item e ∷ xs) ys =
    replies-append o (past ++ event_item e ∷ []) xs ys
    ∙ ap (λ x. replies_from o (past ++ event_item e ∷ []) xs ++ replies_from o x ys) (append_assoc past (event_item e ∷ []) xs)
replies-append o past (command_item c ∷ xs) ys =
    let reply : Tree = (command_done o (session_after o (absent_session o) (filter (is_own (session_of c)) past)) c).1 in
    ap (reply ∷◌) (replies-append o (past ++ command_item c ∷ []) xs ys
    ∙ ap (λ x. replies_from o (past ++ command_item c ∷ []) xs ++ replies_from o x ys) (append_assoc past (command_item c ∷ []) xs))
