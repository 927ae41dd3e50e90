-- The account of the moves that are chosen by a message: one more pick, and all picks.
use Rattle.std.proofs.Common.{◌≡◌, ◌∙◌, ◌≤◌, ℕ, suc, Bool, true, false, ◌||◌, Option, if◌then◌else◌, List, [], ◌∷◌, ◌++◌, length, take, refl, sym, ap, subst, append-nil, append_assoc, arith}
use Rattle.std.proofs.Math.Seq.{take-append_seam}
use Rattle.std.proofs.lemmas.List.{take_all}
use Rattle.std.proofs.lemmas.Grind.{flat_map-append}
use Rattle.std.specs.Prelude.{flat_map}
use Rattle.std.specs.List.{list_any}
use Rattle.std.specs.declared.vec.Vec.{Vec}
use Rattle.def_term.specs.Names.{Name}
use Rattle.def_script.specs.Program.{Command, Program}
use Rattle.def_script.specs.Exports.{Exports, exports_of}
use Rattle.def_outlook.specs.Outlook.{Outlook}
use Rattle.def_run.specs.Run.{HistoryItem, command_item, moves, pick_step_after}
use Rattle.def_run.specs.History.{NamedSession, MoveHistory, move_history, move_histories, all_after_items}
use Rattle.def_run.proofs.Replay.{moves_bounded}
use Rattle.def_explain.specs.RunTexts.{Filter}
use Rattle.def_message_choice.specs.MessageChoices as definition
use Rattle.def_message_choice.specs.MessageChoices.{chooses, is_chosen}
use Rattle.def_message_choice.specs.ChosenAccounts as accounts
use Rattle.def_message_choice.specs.ChosenAccounts.{text_of_chosen, chosen_account_text}
use Rattle.tn_trace.specs.Observers.{IsNextMove, SeesMove}
use Rattle.tn_trace.specs.Follows.{AddsEach, AddsFrom}
use Rattle.tn_trace.specs.NamedSessions.{sessions_after}
use Rattle.tn_trace.specs.declared.journal.JournalEntry.{JournalEntry}
use Rattle.tn_trace.proofs.NamedSessions.{sessions_more}
use Rattle.tn_running_node.specs.NodeMoves.{outlook_after}
use Rattle.tn_running_node.proofs.NodePicks.{histories_more, histories_again}
use Rattle.tn_message_choice.specs.Choices.{choice_seen, session_asked}
use Rattle.tn_message_choice.specs.Choosers.{AreChoosers, IsChosenMove}
use Rattle.tn_message_choice.specs.declared.choice.MessageQuestion.{MessageQuestion}
use Rattle.tn_explain.specs.Filters.{selection_seen}
use Rattle.tn_explain.specs.Explainers.{HasExplained, AddsExplanation, text_of_pick, history_of_next, HasExplainedChosen, chosen_text_of_next, chosen_text_of_pick, AddsChosenExplanation}
use Rattle.tn_explain.specs.declared.message_explainer.MessageExplainer.{MessageExplainer}
use Rattle.tn_explain.proofs.NodeMoveTexts.{text_of_move}

-- ---- one pick

-- what stands there once it is left out, where it is
left_out : (b : Bool) (first t all : List ℕ) → all ≡ first ++ t → (if b then all else take (length first) all) ≡ first ++ (if b then t else [])
left_out true first t all e = e
left_out false first t all e = ap (take (length first)) e ∙ take-append_seam first t ∙ sym (append-nil first)

-- no session chooses a command
none_chooses : (c : definition.MessageChoice) (n : Option Name) (k : Command) (ss : List NamedSession) → list_any (chooses c n (command_item k)) ss ≡ false
none_chooses c n k [] = refl
none_chooses c n k (s ∷ ss) = none_chooses c n k ss

pub command_not_chosen : (q : MessageQuestion) (o : Exports) (ss : List NamedSession) (k : Command) → IsChosenMove q o ss (command_item k ∷ []) false
command_not_chosen q o ss k = λ j pick l. sym (ap (λ b. b || false) (none_chooses (choice_seen q.choice) (session_asked q) k ss))

-- the explainer saw a move that shows this, which is chosen or isn't
pub chosen_move_explained : {A : Type 0} (p : Program) (picks : List ℕ) (entry : JournalEntry) (shown : List HistoryItem) (q : MessageQuestion) (b : Bool) (n : ℕ) (old new : MessageExplainer A) (text both text' : Vec ℕ A)
    → IsNextMove p picks entry shown → n ≡ length text.items → SeesMove HasExplained AddsExplanation p picks entry.pick old.explainer new.explainer text both
    → AreChoosers (exports_of p) (all_after_items (exports_of p) (sessions_after p picks) shown) new.choosers → IsChosenMove q (exports_of p) (sessions_after p picks) shown b
    → q.choice ≡ old.choice → session_asked q ≡ (selection_seen old.explainer.selection).session → new.choice ≡ old.choice
    → text'.items ≡ (if b then both.items else take n both.items) → SeesMove HasExplainedChosen AddsChosenExplanation p picks entry.pick old new text text'
chosen_move_explained p picks entry shown q b n old new text both text' next long explained choosers chosen asked session same end =
    let o : Exports = exports_of p in
    let a : Filter = selection_seen old.explainer.selection in
    let c : definition.MessageChoice = choice_seen old.choice in
    let k : ℕ = suc (length (moves p picks)) in
    let l : Outlook = outlook_after p picks entry.pick in
    let h : MoveHistory = history_of_next p picks entry.pick in
    let is : b ≡ is_chosen c a.session h =
    chosen k entry.pick l ∙ ap (λ d. is_chosen (choice_seen d) (session_asked q) (move_history o k entry.pick l (sessions_after p picks) shown)) asked
    ∙ ap (λ m. is_chosen c m (move_history o k entry.pick l (sessions_after p picks) shown)) session
    ∙ ap (λ xs. is_chosen c a.session (move_history o k entry.pick l (sessions_after p picks) xs)) (sym next.shows) in
    record {
      after = record {
        explained = explained.after;
        choosers = subst (λ rs. AreChoosers o rs new.choosers) (ap (all_after_items o (sessions_after p picks)) (sym next.shows) ∙ sym (sessions_more p picks entry.pick)) choosers;
      };
      added = record {
        filter = explained.added.filter;
        choice = same;
        written = end ∙ ap (λ m. if b then both.items else take m both.items) long
            ∙ left_out b text.items (text_of_pick a p picks entry.pick) both.items explained.added.written
            ∙ ap (λ t. text.items ++ (if b then t else [])) (text_of_move a p picks entry shown next)
            ∙ ap (λ d. text.items ++ (if d then accounts.text_of_move o a h else [])) is
            ∙ ap (λ m. text.items ++ (if m then chosen_text_of_next c a p picks entry.pick else [])) (sym next.moved);
      };
    }

-- ---- all picks

one_more : (f : MoveHistory → List ℕ) (h : MoveHistory) (b : Bool) → flat_map f (if b then h ∷ [] else []) ≡ (if b then f h else [])
one_more f h true = append-nil (f h)
one_more f h false = refl

account_more : (c : definition.MessageChoice) (a : Filter) (p : Program) (picks : List ℕ) (pick : ℕ) → chosen_account_text c a p (picks ++ pick ∷ []) ≡ chosen_account_text c a p picks ++ chosen_text_of_pick c a p picks pick
account_more c a p picks pick =
    let f : MoveHistory → List ℕ = text_of_chosen c (exports_of p) a in
    let h : MoveHistory = history_of_next p picks pick in
    let b : Bool = (pick_step_after p picks pick).moved in
    ap (flat_map f) (histories_more p picks pick) ∙ flat_map-append f (move_histories p picks) (if b then h ∷ [] else []) ∙ ap (λ t. chosen_account_text c a p picks ++ t) (one_more f h b)

account_again : (c : definition.MessageChoice) (a : Filter) (p : Program) (picks : List ℕ) → chosen_account_text c a p (moves p picks) ≡ chosen_account_text c a p picks
account_again c a p picks = ap (flat_map (text_of_chosen c (exports_of p) a)) (histories_again p picks)

-- what was added of these picks
chosen_explained : {A : Type 0} (p : Program) (more picks first : List ℕ) (old new : MessageExplainer A) (text text' : Vec ℕ A) → AddsEach AddsChosenExplanation p picks more old new text text'
    → text.items ≡ first ++ chosen_account_text (choice_seen old.choice) (selection_seen old.explainer.selection) p picks → text'.items ≡ first ++ chosen_account_text (choice_seen old.choice) (selection_seen old.explainer.selection) p (picks ++ more)
chosen_explained p [] picks first old new text text' h e =
    ap (λ (v : Vec _ _). v.items) h.1 ∙ e ∙ ap (λ js. first ++ chosen_account_text (choice_seen old.choice) (selection_seen old.explainer.selection) p js) (sym (append-nil picks))
chosen_explained p (pick ∷ more) picks first old new text text' h e =
    let a : Filter = selection_seen old.explainer.selection in
    let c : definition.MessageChoice = choice_seen old.choice in
    let later : List ℕ = picks ++ pick ∷ [] in
    let here : h.1.items ≡ first ++ chosen_account_text c a p later =
    h.2.written ∙ ap (λ l. l ++ chosen_text_of_pick c a p picks pick) e ∙ append_assoc first (chosen_account_text c a p picks) (chosen_text_of_pick c a p picks pick) ∙ ap (λ l. first ++ l) (sym (account_more c a p picks pick)) in
    chosen_explained p more later first h.0 new h.1 text' h.3
    (here ∙ ap (λ f. first ++ chosen_account_text c (selection_seen f) p later) (sym h.2.filter) ∙ ap (λ d. first ++ chosen_account_text (choice_seen d) (selection_seen h.0.explainer.selection) p later) (sym h.2.choice))
    ∙ ap (λ d. first ++ chosen_account_text (choice_seen d) (selection_seen h.0.explainer.selection) p (later ++ more)) h.2.choice
    ∙ ap (λ f. first ++ chosen_account_text c (selection_seen f) p (later ++ more)) h.2.filter ∙ ap (λ js. first ++ chosen_account_text c a p js) (append_assoc picks (pick ∷ []) more)

-- of a whole run
pub run_chosen_explained : {A : Type 0} (p : Program) (picks : List ℕ) (old new : MessageExplainer A) (text text' : Vec ℕ A) → AddsFrom AddsChosenExplanation p (take 65536 []) (take 65536 (moves p picks)) old new text text'
    → text'.items ≡ text.items ++ chosen_account_text (choice_seen old.choice) (selection_seen old.explainer.selection) p picks
run_chosen_explained p picks old new text text' h =
    let a : Filter = selection_seen old.explainer.selection in
    let c : definition.MessageChoice = choice_seen old.choice in
    let none : take 65536 [] ≡ [] = take_all 65536 [] (nothing_below 65536) in
    let all : moves p picks ≡ h.more = sym (take_all 65536 (moves p picks) (moves_bounded p picks)) ∙ h.longer ∙ ap (λ js. js ++ h.more) none in
    chosen_explained p h.more [] text.items old new text text' (subst (λ js. AddsEach AddsChosenExplanation p js h.more old new text text') none h.added) (sym (append-nil text.items))
    ∙ ap (λ js. text.items ++ chosen_account_text c a p js) (sym all) ∙ ap (λ l. text.items ++ l) (account_again c a p picks)
  where
    nothing_below : (n : ℕ) → 0 ≤ n
    nothing_below n = omega arith
