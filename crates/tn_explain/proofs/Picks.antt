-- One more pick, and all picks.
use Rattle.std.proofs.Common.{◌≡◌, ◌∙◌, ℕ, suc, ◌≤◌, Bool, true, false, if◌then◌else◌, List, [], ◌∷◌, ◌++◌, length, map, take, refl, sym, ap, subst, add-one, append-nil, append_assoc, length-append, arith}
use Rattle.std.proofs.lemmas.List.{take_all}
use Rattle.std.specs.declared.vec.Vec.{Vec}
use Rattle.def_script.specs.Program.{Function, Command, Program}
use Rattle.def_script.specs.Exports.{Exports, exports_of}
use Rattle.def_outlook.specs.Outlook.{Outlook, outlook}
use Rattle.def_run.specs.Run.{HistoryItem, command_item, RunState, PickStep, pick_step, events, moves, moves_from, start, run_state_of, pick_step_after}
use Rattle.def_run.proofs.Replay.{pick_kept, moves_bounded}
use Rattle.def_run.specs.History.{NamedSession, all_after, all_after_items, named_sessions}
use Rattle.def_explain.specs.Runs.{session_lines, shows, makes, made_by_all, entries_of_move}
use Rattle.def_explain.proofs.AccountPicks.{entries_from, entries_by_picks}
use Rattle.def_explain.specs.RunTexts.{Filter, account_text}
use Rattle.tn_trace.specs.Observers.{IsNextMove, SeesMove}
use Rattle.tn_trace.specs.Follows.{AddsEach, AddsFrom}
use Rattle.tn_trace.specs.declared.journal.JournalEntry.{JournalEntry}
use Rattle.tn_trace.specs.NamedSessions.{sessions_after}
use Rattle.tn_trace.proofs.Moves.{place_more, moves_more}
use Rattle.tn_trace.proofs.NamedSessions.{sessions_more}
use Rattle.tn_running_node.specs.NodeMoves.{outlook_after}
use Rattle.tn_explain.specs.Filters.{selection_seen, filtered_text}
use Rattle.tn_explain.specs.NamedSessions.{AreNamedSessions}
use Rattle.tn_explain.specs.Explainers.{HasExplained, entries_of_turn, text_of_pick, AddsExplanation}
use Rattle.tn_explain.specs.declared.explainer.Explainer.{Explainer}
use Rattle.tn_explain.proofs.MoveTexts.{text_of_next}

-- ---- one pick

-- of a command the same is made, whatever was known
made_of_command : (o : Exports) (l m : Outlook) (c : Command) (ss : List NamedSession) → made_by_all o l ss (command_item c) ≡ made_by_all o m ss (command_item c)
made_of_command o l m c [] = refl
made_of_command o l m c (s ∷ ss) = ap (λ es. map (makes s.0) (session_lines o l s (command_item c)) ++ es) (made_of_command o l m c ss)

pub entries_of_command : (o : Exports) (l m : Outlook) (n pick : ℕ) (c : Command) (ss : List NamedSession) → entries_of_move o l n pick ss (command_item c ∷ []) ≡ entries_of_move o m n pick ss (command_item c ∷ [])
entries_of_command o l m n pick c ss = ap (λ es. (shows n pick (command_item c) ∷ es) ++ []) (made_of_command o l m c ss)

-- the explainer saw a move that shows this
pub move_explained : {A : Type 0} (p : Program) (picks : List ℕ) (entry : JournalEntry) (shown : List HistoryItem) (l : Outlook) (old new : Explainer A) (text text' : Vec ℕ A) → IsNextMove p picks entry shown
    → ((n : ℕ) → entries_of_move (exports_of p) l n entry.pick (sessions_after p picks) shown ≡ entries_of_move (exports_of p) (outlook_after p picks entry.pick) n entry.pick (sessions_after p picks) shown)
    → AreNamedSessions (exports_of p) (all_after_items (exports_of p) (sessions_after p picks) shown) new.sessions → new.selection ≡ old.selection
    → text'.items ≡ text.items ++ filtered_text (selection_seen old.selection) entry.number (entries_of_move (exports_of p) l entry.number entry.pick (sessions_after p picks) shown)
    → SeesMove HasExplained AddsExplanation p picks entry.pick old new text text'
move_explained p picks entry shown l old new text text' next same sessions filter written =
    let o : Exports = exports_of p in
    let ss : List NamedSession = sessions_after p picks in
    let a : Filter = selection_seen old.selection in
    let k : ℕ = length (moves p picks) in
    let m : Outlook = outlook_after p picks entry.pick in
    let number : entry.number ≡ suc k = next.numbered ∙ sym (ap (λ js. suc (length js)) next.all) in
    record {
      after = subst (λ rs. AreNamedSessions o rs new.sessions) (ap (all_after_items o ss) (sym next.shows) ∙ sym (sessions_more p picks entry.pick)) sessions;
      added = record {
        filter = filter;
        written = written ∙ ap (λ es. text.items ++ filtered_text a entry.number es) (same entry.number)
            ∙ ap (λ n. text.items ++ filtered_text a n (entries_of_move o m n entry.pick ss shown)) number
            ∙ ap (λ xs. text.items ++ filtered_text a (suc k) (entries_of_move o m (suc k) entry.pick ss xs)) (sym next.shows)
            ∙ ap (λ b. text.items ++ filtered_text a (suc k) (if b then entries_of_move o m (suc k) entry.pick ss (pick_step_after p picks entry.pick).shown else [])) (sym next.moved);
      };
    }

-- ---- all picks

-- what is written of a turn, and then of the picks after it
turn_text : (p : Program) (a : Filter) (l : Outlook) (k j pick : ℕ) (ss : List NamedSession) (t : PickStep) (rest : List ℕ) (b : Bool) → t.moved ≡ b → (t.moved ≡ false → t.shown ≡ []) → j ≡ (if b then suc k else k)
    → filtered_text a k (if b then entries_of_move (exports_of p) l (suc k) pick ss t.shown ++ entries_from (exports_of p) p.functions t.after (suc k) (all_after_items (exports_of p) ss t.shown) rest else entries_from (exports_of p) p.functions t.after k ss rest)
    ≡ filtered_text a (suc k) (if b then entries_of_move (exports_of p) l (suc k) pick ss t.shown else []) ++ filtered_text a j (entries_from (exports_of p) p.functions t.after j (all_after_items (exports_of p) ss t.shown) rest)
turn_text p a l k j pick ss t rest true e none count =
    text_of_next a k (suc k) pick (exports_of p) l ss t.shown (entries_from (exports_of p) p.functions t.after (suc k) (all_after_items (exports_of p) ss t.shown) rest)
    ∙ ap (λ n. filtered_text a (suc k) (entries_of_move (exports_of p) l (suc k) pick ss t.shown) ++ filtered_text a n (entries_from (exports_of p) p.functions t.after n (all_after_items (exports_of p) ss t.shown) rest)) (sym count)
turn_text p a l k j pick ss t rest false e none count =
    ap (λ xs. filtered_text a k (entries_from (exports_of p) p.functions t.after k (all_after_items (exports_of p) ss xs) rest)) (sym (none e))
    ∙ ap (λ n. filtered_text a n (entries_from (exports_of p) p.functions t.after n (all_after_items (exports_of p) ss t.shown) rest)) (sym count)

-- what is written after these picks
abbrev pub later_text : Program → Filter → List ℕ → List NamedSession → List ℕ → List ℕ
later_text p a picks ss rest = let k : ℕ = length (moves p picks) in filtered_text a k (entries_from (exports_of p) p.functions (run_state_of p picks) k ss rest)

counted_more : (p : Program) (picks : List ℕ) (pick : ℕ) (b : Bool) → (pick_step_after p picks pick).moved ≡ b → length (moves p (picks ++ pick ∷ [])) ≡ (if b then suc (length (moves p picks)) else length (moves p picks))
counted_more p picks pick true e =
    ap length (moves_more p picks pick ∙ ap (λ b. moves p picks ++ (if b then pick ∷ [] else [])) e) ∙ length-append (moves p picks) (pick ∷ []) ∙ add-one (length (moves p picks))
counted_more p picks pick false e = ap length (moves_more p picks pick ∙ ap (λ b. moves p picks ++ (if b then pick ∷ [] else [])) e ∙ append-nil (moves p picks))

later_more : (p : Program) (a : Filter) (picks : List ℕ) (ss : List NamedSession) (pick : ℕ) (rest : List ℕ)
    → later_text p a picks ss (pick ∷ rest)
    ≡ filtered_text a (suc (length (moves p picks))) (entries_of_turn p (outlook_after p picks pick) (length (moves p picks)) pick ss (pick_step_after p picks pick)) ++ later_text p a (picks ++ pick ∷ []) (all_after_items (exports_of p) ss (pick_step_after p picks pick).shown) rest
later_more p a picks ss pick rest =
    let t : PickStep = pick_step_after p picks pick in
    let k : ℕ = length (moves p picks) in
    let j : ℕ = length (moves p (picks ++ pick ∷ [])) in
    turn_text p a (outlook_after p picks pick) k j pick ss t rest t.moved refl (λ e. ap (λ (u : PickStep). u.shown) (pick_kept p.functions (run_state_of p picks) pick e)) (counted_more p picks pick t.moved refl)
    ∙ ap (λ q. filtered_text a (suc k) (entries_of_turn p (outlook_after p picks pick) k pick ss t) ++ filtered_text a j (entries_from (exports_of p) p.functions q j (all_after_items (exports_of p) ss t.shown) rest)) (sym (place_more p picks pick))

-- what the explainer added of these picks
explained : {A : Type 0} (p : Program) (more picks : List ℕ) (old new : Explainer A) (text text' : Vec ℕ A) → AddsEach AddsExplanation p picks more old new text text'
    → text'.items ≡ text.items ++ later_text p (selection_seen old.selection) picks (sessions_after p picks) more
explained p [] picks old new text text' h = ap (λ (v : Vec _ _). v.items) h.1 ∙ sym (append-nil text.items)
explained p (pick ∷ more) picks old new text text' h =
    let a : Filter = selection_seen old.selection in
    let later : List ℕ = picks ++ pick ∷ [] in
    let here : List ℕ = text_of_pick a p picks pick in
    explained p more later h.0 new h.1 text' h.3
    ∙ ap (λ f. h.1.items ++ later_text p (selection_seen f) later (sessions_after p later) more) h.2.filter
    ∙ ap (λ l. l ++ later_text p a later (sessions_after p later) more) h.2.written
    ∙ append_assoc text.items here (later_text p a later (sessions_after p later) more)
    ∙ ap (λ ss. text.items ++ (here ++ later_text p a later ss more)) (sessions_more p picks pick)
    ∙ ap (λ l. text.items ++ l) (sym (later_more p a picks (sessions_after p picks) pick more))

-- picks that don't move can be left out
turn_again : (o : Exports) (fs : List Function) (q : RunState) (k : ℕ) (ss : List NamedSession) (pick : ℕ) (js picks : List ℕ) (b : Bool) → (pick_step fs q pick).moved ≡ b
    → entries_from o fs (pick_step fs q pick).after (suc k) (all_after_items o ss (pick_step fs q pick).shown) js ≡ entries_from o fs (pick_step fs q pick).after (suc k) (all_after_items o ss (pick_step fs q pick).shown) picks
    → entries_from o fs (pick_step fs q pick).after k ss js ≡ entries_from o fs (pick_step fs q pick).after k ss picks
    → entries_from o fs q k ss ((if b then pick ∷ [] else []) ++ js)
    ≡ (if b then entries_of_move o (outlook fs q.world pick) (suc k) pick ss (pick_step fs q pick).shown ++ entries_from o fs (pick_step fs q pick).after (suc k) (all_after_items o ss (pick_step fs q pick).shown) picks else entries_from o fs (pick_step fs q pick).after k ss picks)
turn_again o fs q k ss pick js picks true e moved stayed =
    let t : PickStep = pick_step fs q pick in
    ap (λ b. if b then entries_of_move o (outlook fs q.world pick) (suc k) pick ss t.shown ++ entries_from o fs t.after (suc k) (all_after_items o ss t.shown) js else entries_from o fs t.after k ss js) e
    ∙ ap (λ es. entries_of_move o (outlook fs q.world pick) (suc k) pick ss t.shown ++ es) moved
turn_again o fs q k ss pick js picks false e moved stayed = ap (λ r. entries_from o fs r k ss js) (sym (ap (λ (t : PickStep). t.after) (pick_kept fs q pick e))) ∙ stayed

entries_again : (o : Exports) (fs : List Function) (q : RunState) (k : ℕ) (ss : List NamedSession) (picks : List ℕ) → entries_from o fs q k ss (moves_from fs q picks) ≡ entries_from o fs q k ss picks
entries_again o fs q k ss [] = refl
entries_again o fs q k ss (pick ∷ picks) =
    let t : PickStep = pick_step fs q pick in
    turn_again o fs q k ss pick (moves_from fs t.after picks) picks t.moved refl (entries_again o fs t.after (suc k) (all_after_items o ss t.shown) picks) (entries_again o fs t.after k ss picks)

-- the picks that moved give the account
account_again : (a : Filter) (p : Program) (picks : List ℕ) → account_text a p (moves p picks) ≡ account_text a p picks
account_again a p picks =
    ap (filtered_text a 0) (entries_by_picks p (moves p picks) ∙ entries_again (exports_of p) p.functions (start p) 0 (named_sessions p) picks ∙ sym (entries_by_picks p picks))

-- what the explainer added of a whole run is its account
pub run_explained : {A : Type 0} (p : Program) (picks : List ℕ) (old new : Explainer A) (text text' : Vec ℕ A) → AddsFrom AddsExplanation p (take 65536 []) (take 65536 (moves p picks)) old new text text'
    → text'.items ≡ text.items ++ account_text (selection_seen old.selection) p picks
run_explained p picks old new text text' h =
    let none : take 65536 [] ≡ [] = take_all 65536 [] (nothing_below 65536) in
    let all : moves p picks ≡ h.more = sym (take_all 65536 (moves p picks) (moves_bounded p picks)) ∙ h.longer ∙ ap (λ js. js ++ h.more) none in
    explained p h.more [] old new text text' (subst (λ js. AddsEach AddsExplanation p js h.more old new text text') none h.added)
    ∙ ap (λ es. text.items ++ filtered_text (selection_seen old.selection) 0 es) (sym (entries_by_picks p h.more))
    ∙ ap (λ js. text.items ++ account_text (selection_seen old.selection) p js) (sym all) ∙ ap (λ l. text.items ++ l) (account_again (selection_seen old.selection) p picks)
  where
    nothing_below : (n : ℕ) → 0 ≤ n
    nothing_below n = omega arith
