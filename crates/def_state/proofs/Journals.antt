-- Which picks a state depends on, and what the next pick is evaluated with.
use Rattle.std.proofs.Common.{◌≡◌, ◌∙◌, ℕ, zero, suc, ◌≤◌, Bool, true, false, if◌then◌else◌, List, [], ◌∷◌, ◌++◌, length, take, Option, refl, sym, ap, subst, arith, append-nil}
use Rattle.std.specs.Prelude.{filter, flat_map}
use Rattle.std.proofs.lemmas.List.{take_all}
use Rattle.def_term.specs.Alive.{FIRST_PID}
use Rattle.def_term.specs.Names.{Name}
use Rattle.def_script.specs.Program.{Function, Program}
use Rattle.def_script.specs.Exports.{exports_of}
use Rattle.def_script.specs.Script.{creations}
use Rattle.def_session.specs.State.{absent_session}
use Rattle.def_run.specs.Run.{HistoryItem, RunState, PickStep, stays, pick_step, moves_from, start, events, moves, run_state_of, pick_step_after}
use Rattle.def_run.specs.View.{is_own}
use Rattle.def_run.specs.Listing.{messages_from}
use Rattle.def_run.proofs.Appends.{shown-append, moves-append, own-append, messages-append}
use Rattle.def_run.proofs.Replay.{pick_kept, place_again, events_again}
use Rattle.def_run.proofs.StruckCommands.{struck_view}
use Rattle.def_state.specs.ProcessTexts.{processes_text}
use Rattle.def_state.specs.States.{session_text, asks_for, text_after}
use Rattle.def_state.specs.Laws.{StateIsOfTheJournal, LaterPicksLeaveTheState, LastStateIsOfAllPicks, SessionGoesByTheView, SessionIsIsolated, NextMessagesGoByTheState}

-- ---- a beginning of a journal moves whole

taken_again : (ks : List Function) (p : RunState) (picks : List ℕ) (n : ℕ) → moves_from ks p (take n (moves_from ks p picks)) ≡ take n (moves_from ks p picks)
taken_again ks p picks zero = refl
taken_again ks p [] (suc n) = refl
taken_again ks p (pick ∷ picks) (suc n) = go (pick_step ks p pick) refl (pick_step ks p pick).moved refl (taken_again ks (pick_step ks p pick).after picks n) (taken_again ks (pick_step ks p pick).after picks (suc n))
  where
    go : (t : PickStep) → pick_step ks p pick ≡ t → (b : Bool) → t.moved ≡ b
        → moves_from ks t.after (take n (moves_from ks t.after picks)) ≡ take n (moves_from ks t.after picks)
        → moves_from ks t.after (take (suc n) (moves_from ks t.after picks)) ≡ take (suc n) (moves_from ks t.after picks)
        → moves_from ks p (take (suc n) ((if t.moved then pick ∷ [] else []) ++ moves_from ks t.after picks)) ≡ take (suc n) ((if t.moved then pick ∷ [] else []) ++ moves_from ks t.after picks)
    go t e true h less same =
        ap (λ b. moves_from ks p (take (suc n) ((if b then pick ∷ [] else []) ++ moves_from ks t.after picks))) h
        ∙ ap (λ u. (if u.moved then pick ∷ [] else []) ++ moves_from ks u.after (take n (moves_from ks t.after picks))) e
        ∙ ap (λ b. (if b then pick ∷ [] else []) ++ moves_from ks t.after (take n (moves_from ks t.after picks))) h
        ∙ ap (λ xs. pick ∷ xs) less
        ∙ ap (λ b. take (suc n) ((if b then pick ∷ [] else []) ++ moves_from ks t.after picks)) (sym h)
    go t e false h less same =
        let kept : t ≡ stays p = subst (λ u. u.moved ≡ false → u ≡ stays p) e (pick_kept ks p pick) h in
        ap (λ b. moves_from ks p (take (suc n) ((if b then pick ∷ [] else []) ++ moves_from ks t.after picks))) h
        ∙ ap (λ u. moves_from ks u.after (take (suc n) (moves_from ks t.after picks))) (sym kept)
        ∙ same
        ∙ ap (λ b. take (suc n) ((if b then pick ∷ [] else []) ++ moves_from ks t.after picks)) (sym h)

pub front_moves : (p : Program) (picks : List ℕ) (n : ℕ) → moves p (take n (moves p picks)) ≡ take n (moves p picks)
front_moves p picks n = taken_again p.functions (start p) picks n

taken_twice : (xs : List ℕ) (n : ℕ) → take n (take n xs) ≡ take n xs
taken_twice xs zero = refl
taken_twice [] (suc n) = refl
taken_twice (x ∷ xs) (suc n) = ap (λ ys. x ∷ ys) (taken_twice xs n)

taken_within : (xs ys : List ℕ) (n : ℕ) → n ≤ length xs → take n (xs ++ ys) ≡ take n xs
taken_within xs ys zero h = refl
taken_within [] ys (suc n) h = absurd (omega (arith, h))
taken_within (x ∷ xs) ys (suc n) h = ap (λ zs. x ∷ zs) (taken_within xs ys n (omega (arith, h)))

-- ---- states

pub of_the_journal : StateIsOfTheJournal
of_the_journal asked p picks n = ap (text_after asked p) (ap (take n) (front_moves p picks n) ∙ taken_twice (moves p picks) n)

pub later_picks : LaterPicksLeaveTheState
later_picks asked p picks more n h =
    ap (text_after asked p)
    (ap (take n) (moves-append p.functions (start p) picks more) ∙ taken_within (moves p picks) (moves_from p.functions (run_state_of p picks) more) n h)

-- the text, by what was shown and the state that was reached
abbrev text_by : Option Name → Program → List HistoryItem → RunState → List ℕ
text_by asked p items q =
    flat_map (λ s. if asks_for asked s.0 then session_text s (record { opening = exports_of p; items = filter (is_own s.0) items }) else []) (creations p.commands)
    ++ processes_text p.functions FIRST_PID q.world.slots

pub last_state : LastStateIsOfAllPicks
last_state asked p picks =
    ap (text_after asked p) (take_all (length (moves p picks)) (moves p picks) (omega arith))
    ∙ (λ i. text_by asked p (events_again p picks i) (place_again p.functions (start p) picks i))

-- ---- sessions

pub by_the_view : SessionGoesByTheView
by_the_view s p q picks others h = ap (session_text s) h

pub isolated : SessionIsIsolated
isolated s r p picks apart h = ap (session_text s) (struck_view s.0 r p picks apart h)

pub next_messages : NextMessagesGoByTheState
next_messages s p picks pick =
    let o = exports_of p in
    let seen : List HistoryItem = events p picks in
    let next : List HistoryItem = (pick_step_after p picks pick).shown in
    ap (λ items. messages_from o (absent_session o) (filter (is_own s) items)) (shown-append p.functions (start p) picks (pick ∷ []) ∙ ap (λ xs. seen ++ xs) (append-nil next))
    ∙ ap (messages_from o (absent_session o)) (own-append s seen next)
    ∙ messages-append o (absent_session o) (filter (is_own s) seen) (filter (is_own s) next)
