-- The account of the moves that a running node does otherwise: one more pick, and all picks.
use Rattle.std.proofs.Common.{◌≡◌, ◌∙◌, ◌≤◌, ℕ, suc, Bool, true, false, ◌&&◌, ◌||◌, if◌then◌else◌, List, [], ◌∷◌, ◌++◌, length, take, refl, sym, ap, ap₂, subst, append-nil, append_assoc, arith}
use Rattle.std.proofs.Math.Seq.{take-append_seam}
use Rattle.std.proofs.lemmas.List.{take_all}
use Rattle.std.specs.Prelude.{flat_map}
use Rattle.std.specs.declared.vec.Vec.{Vec}
use Rattle.def_script.specs.Program.{Program}
use Rattle.def_script.specs.Exports.{Exports, exports_of}
use Rattle.def_outlook.specs.Outlook.{Outlook}
use Rattle.def_run.specs.Run.{HistoryItem, moves, pick_step_after}
use Rattle.def_run.proofs.Replay.{moves_bounded}
use Rattle.def_explain.specs.Runs.{entries_of_move}
use Rattle.def_explain.specs.RunTexts.{Filter, is_move}
use Rattle.def_running_node.specs.NodeComparisons as definition
use Rattle.def_running_node.specs.NodeComparisons.{NamedLine, named_line_text, lines_differ, lines_are_open, after_pick, comparison_after, lines_of_move}
use Rattle.def_running_node.specs.NodeNotes.{has_node_line, text_of_node_move, node_account_text}
use Rattle.tn_text.specs.Writes.{Grows}
use Rattle.tn_trace.specs.Observers.{IsNextMove, SeesMove}
use Rattle.tn_trace.specs.Follows.{AddsEach, AddsFrom}
use Rattle.tn_trace.specs.declared.journal.JournalEntry.{JournalEntry}
use Rattle.tn_running_node.specs.NodeMoves.{outlook_after, lines_of_next}
use Rattle.tn_running_node.specs.Comparisons.{IsComparison, BecomesComparison}
use Rattle.tn_running_node.specs.declared.lines.LineKinds.{LineKinds}
use Rattle.tn_running_node.proofs.NodePicks.{comparison_moved, any_line, account_more, account_again}
use Rattle.tn_explain.specs.Filters.{selection_seen, filtered_text}
use Rattle.tn_trace.specs.NamedSessions.{sessions_after}
use Rattle.tn_explain.specs.Explainers.{HasExplained, AddsExplanation, HasExplainedNode, text_of_pick, history_of_next, node_text_of_next, node_text_of_pick, AddsNodeExplanation}
use Rattle.tn_explain.specs.declared.node_explainer.NodeExplainer.{NodeExplainer}

-- ---- one pick

-- what stood there first stands there still
pub grown_or_left : (b : Bool) (n : ℕ) (first both last : List ℕ) → n ≡ length first → Grows first both → last ≡ (if b then both else take n both) → Grows first last
grown_or_left true n first both last is g e = record { added = g.added; whole = e ∙ g.whole }
grown_or_left false n first both last is g e = record { added = []; whole = e ∙ ap (λ m. take m both) is ∙ ap (take (length first)) g.whole ∙ take-append_seam first g.added ∙ sym (append-nil first) }

-- a text with its lines, or nothing
abbrev text_with_lines : (selected : Bool) → List ℕ → List NamedLine → List ℕ
text_with_lines b t [] = []
text_with_lines b t (l ∷ ls) = if b then t ++ flat_map named_line_text (l ∷ ls) else []

-- what stands there once it is left out, where it is
left_out : (b : Bool) (first t : List ℕ) (ls : List NamedLine) (all : List ℕ) → all ≡ first ++ (t ++ flat_map named_line_text ls) → (if has_node_line ls && b then all else take (length first) all) ≡ first ++ text_with_lines b t ls
left_out b first t [] all e = ap (take (length first)) e ∙ take-append_seam first (t ++ []) ∙ sym (append-nil first)
left_out true first t (l ∷ ls) all e = e
left_out false first t (l ∷ ls) all e = ap (take (length first)) e ∙ take-append_seam first (t ++ flat_map named_line_text (l ∷ ls)) ∙ sym (append-nil first)

module _ (a : Filter) (p : Program) (picks : List ℕ) (entry : JournalEntry) (shown : List HistoryItem) (next : IsNextMove p picks entry shown) where
  number : entry.number ≡ suc (length (moves p picks))
  number = next.numbered ∙ sym (ap (λ js. suc (length js)) next.all)

  -- what the sessions make of the move
  pub text_of_move : text_of_pick a p picks entry.pick ≡ filtered_text a (suc (length (moves p picks))) (entries_of_move (exports_of p) (outlook_after p picks entry.pick) (suc (length (moves p picks))) entry.pick (sessions_after p picks) (pick_step_after p picks entry.pick).shown)
  text_of_move =
      ap (λ b. filtered_text a (suc (length (moves p picks))) (if b then entries_of_move (exports_of p) (outlook_after p picks entry.pick) (suc (length (moves p picks))) entry.pick (sessions_after p picks) (pick_step_after p picks entry.pick).shown else [])) next.moved

  with_lines : (ls : List NamedLine) → text_with_lines (is_move a.move (suc (length (moves p picks)))) (text_of_pick a p picks entry.pick) ls ≡ text_of_node_move (exports_of p) a (history_of_next p picks entry.pick) ls
  with_lines [] = refl
  with_lines (l ∷ ls) = ap (λ t. if is_move a.move (suc (length (moves p picks))) then t ++ flat_map named_line_text (l ∷ ls) else []) text_of_move

  -- with the lines of the move
  text_of_lines : (ls : List NamedLine) → ls ≡ lines_of_next a.session p picks entry.pick → text_with_lines (is_move a.move entry.number) (text_of_pick a p picks entry.pick) ls ≡ node_text_of_pick a p picks entry.pick
  text_of_lines ls e =
      ap (λ n. text_with_lines (is_move a.move n) (text_of_pick a p picks entry.pick) ls) number ∙ with_lines ls
      ∙ ap (text_of_node_move (exports_of p) a (history_of_next p picks entry.pick)) e ∙ ap (λ b. if b then node_text_of_next a p picks entry.pick else []) (sym next.moved)

  -- the move was written, and left out where it has no line or isn't selected
  pub node_move_written : (first mid both last : List ℕ) (ls : List NamedLine) (differs open_lines : Bool) → ls ≡ lines_of_next a.session p picks entry.pick → mid ≡ first ++ text_of_pick a p picks entry.pick → both ≡ mid ++ flat_map named_line_text ls
      → differs ≡ lines_differ ls → open_lines ≡ lines_are_open ls → last ≡ (if (differs || open_lines) && is_move a.move entry.number then both else take (length first) both) → last ≡ first ++ node_text_of_pick a p picks entry.pick
  node_move_written first mid both last ls differs open_lines e second third d o end =
      let t : List ℕ = text_of_pick a p picks entry.pick in
      let all : both ≡ first ++ (t ++ flat_map named_line_text ls) = third ∙ ap (λ x. x ++ flat_map named_line_text ls) second ∙ append_assoc first t (flat_map named_line_text ls) in
      end ∙ ap (λ b. if b && is_move a.move entry.number then both else take (length first) both) (ap₂ (λ x y. x || y) d o ∙ any_line ls)
      ∙ left_out (is_move a.move entry.number) first t ls both all ∙ ap (λ x. first ++ x) (text_of_lines ls e)

-- the explainer saw a move that shows this
pub node_move_explained : {A : Type 0} (p : Program) (picks : List ℕ) (entry : JournalEntry) (shown : List HistoryItem) (l : Outlook) (kinds : LineKinds) (n : ℕ) (old new : NodeExplainer A) (text told both text' : Vec ℕ A)
    → IsNextMove p picks entry shown → n ≡ length text.items → l ≡ outlook_after p picks entry.pick → SeesMove HasExplained AddsExplanation p picks entry.pick old.explainer new.explainer text told
    → BecomesComparison (exports_of p) (after_pick (exports_of p) l entry.pick (comparison_after (selection_seen old.explainer.selection).session p picks) shown)
    (lines_of_move (exports_of p) l entry.pick (comparison_after (selection_seen old.explainer.selection).session p picks) shown) new.comparison told both kinds
    → text'.items ≡ (if (kinds.differs || kinds.is_open) && is_move (selection_seen new.explainer.selection).move entry.number then both.items else take n both.items)
    → SeesMove HasExplainedNode AddsNodeExplanation p picks entry.pick old new text text'
node_move_explained p picks entry shown l kinds n old new text told both text' next long ahead explained becomes end =
    let o : Exports = exports_of p in
    let a : Filter = selection_seen old.explainer.selection in
    let c : definition.Comparison = comparison_after a.session p picks in
    let m : Outlook = outlook_after p picks entry.pick in
    let ls : List NamedLine = lines_of_move o l entry.pick c shown in
    let later : List ℕ = picks ++ entry.pick ∷ [] in
    let is : ls ≡ lines_of_next a.session p picks entry.pick = ap (λ k. lines_of_move o k entry.pick c shown) ahead ∙ ap (λ xs. lines_of_move o m entry.pick c xs) (sym next.shows) in
    record {
      after = record {
        explained = explained.after;
        compared = subst (λ f. IsComparison o (comparison_after (selection_seen f).session p later) new.comparison) (sym explained.added.filter)
            (subst (λ d. IsComparison o d new.comparison)
            (ap (λ k. after_pick o k entry.pick c shown) ahead ∙ ap (after_pick o m entry.pick c) (sym next.shows) ∙ sym (comparison_moved p picks entry.pick a.session next.moved)) becomes.comparison);
      };
      added = record {
        filter = explained.added.filter;
        written = node_move_written a p picks entry shown next text.items told.items both.items text'.items ls kinds.differs kinds.is_open is explained.added.written becomes.lines.written becomes.lines.differs becomes.lines.open_lines
            (end ∙ ap (λ f. if (kinds.differs || kinds.is_open) && is_move (selection_seen f).move entry.number then both.items else take n both.items) explained.added.filter
            ∙ ap (λ m. if (kinds.differs || kinds.is_open) && is_move a.move entry.number then both.items else take m both.items) long);
      };
    }

-- ---- all picks

-- what was added of these picks
node_explained : {A : Type 0} (p : Program) (more picks first : List ℕ) (old new : NodeExplainer A) (text text' : Vec ℕ A) → AddsEach AddsNodeExplanation p picks more old new text text'
    → text.items ≡ first ++ node_account_text (selection_seen old.explainer.selection) p picks → text'.items ≡ first ++ node_account_text (selection_seen old.explainer.selection) p (picks ++ more)
node_explained p [] picks first old new text text' h e =
    ap (λ (v : Vec _ _). v.items) h.1 ∙ e ∙ ap (λ js. first ++ node_account_text (selection_seen old.explainer.selection) p js) (sym (append-nil picks))
node_explained p (pick ∷ more) picks first old new text text' h e =
    let a : Filter = selection_seen old.explainer.selection in
    let later : List ℕ = picks ++ pick ∷ [] in
    let here : h.1.items ≡ first ++ node_account_text a p later =
    h.2.written ∙ ap (λ l. l ++ node_text_of_pick a p picks pick) e ∙ append_assoc first (node_account_text a p picks) (node_text_of_pick a p picks pick) ∙ ap (λ l. first ++ l) (sym (account_more p picks pick a)) in
    node_explained p more later first h.0 new h.1 text' h.3 (here ∙ ap (λ f. first ++ node_account_text (selection_seen f) p later) (sym h.2.filter))
    ∙ ap (λ f. first ++ node_account_text (selection_seen f) p (later ++ more)) h.2.filter ∙ ap (λ js. first ++ node_account_text a p js) (append_assoc picks (pick ∷ []) more)

-- of a whole run
pub run_node_explained : {A : Type 0} (p : Program) (picks : List ℕ) (old new : NodeExplainer A) (text text' : Vec ℕ A) → AddsFrom AddsNodeExplanation p (take 65536 []) (take 65536 (moves p picks)) old new text text'
    → text'.items ≡ text.items ++ node_account_text (selection_seen old.explainer.selection) p picks
run_node_explained p picks old new text text' h =
    let a : Filter = selection_seen old.explainer.selection in
    let none : take 65536 [] ≡ [] = take_all 65536 [] (nothing_below 65536) in
    let all : moves p picks ≡ h.more = sym (take_all 65536 (moves p picks) (moves_bounded p picks)) ∙ h.longer ∙ ap (λ js. js ++ h.more) none in
    node_explained p h.more [] text.items old new text text' (subst (λ js. AddsEach AddsNodeExplanation p js h.more old new text text') none h.added) (sym (append-nil text.items))
    ∙ ap (λ js. text.items ++ node_account_text a p js) (sym all) ∙ ap (λ l. text.items ++ l) (account_again a p picks)
  where
    nothing_below : (n : ℕ) → 0 ≤ n
    nothing_below n = omega arith
