-- Which moves of a run a node does otherwise, as the observer tells it.
use Rattle.std.proofs.Common.{◌≡◌, ◌∙◌, ℕ, ◌≤◌, Bool, ◌||◌, if◌then◌else◌, List, [], ◌∷◌, ◌++◌, take, None, sym, ap, subst, append-nil, append_assoc, arith}
use Rattle.std.proofs.lemmas.List.{take_all}
use Rattle.std.specs.declared.vec.Vec.{Vec}
use Rattle.def_script.specs.Program.{Program}
use Rattle.def_script.specs.Exports.{Exports, exports_of}
use Rattle.def_outlook.specs.Outlook.{Outlook}
use Rattle.def_run.specs.Run.{HistoryItem, moves, pick_step_after}
use Rattle.def_run.proofs.Replay.{moves_bounded}
use Rattle.def_running_node.specs.NodeComparisons as definition
use Rattle.def_running_node.specs.NodeComparisons.{NamedLine, after_pick, lines_of_move, comparison_after}
use Rattle.def_running_node.specs.NodeNotes.{has_node_line, moves_that_differ}
use Rattle.tn_trace.specs.Observers.{IsNextMove, SeesMove}
use Rattle.tn_trace.specs.Follows.{AddsEach, AddsFrom}
use Rattle.tn_trace.specs.declared.journal.JournalEntry.{JournalEntry}
use Rattle.tn_running_node.specs.Comparisons.{IsComparison, BecomesComparison}
use Rattle.tn_running_node.specs.NodeMoves.{outlook_after, lines_of_next, HasComparedMoves, AddsMove}
use Rattle.tn_running_node.specs.declared.lines.LineKinds.{LineKinds}
use Rattle.tn_running_node.specs.declared.node_moves.NodeMoves.{NodeMoves}
use Rattle.tn_running_node.proofs.NodePicks.{comparison_moved, any_line, moves_that_differ_more, moves_that_differ_again}

-- ---- one move

-- the observer saw a move that shows this
pub move_compared : {A : Type 0} (p : Program) (picks : List ℕ) (entry : JournalEntry) (shown : List HistoryItem) (l : Outlook) (kinds : LineKinds) (old new : NodeMoves A) (text text' : Vec ℕ A) (out out' : Vec Bool A)
    → IsNextMove p picks entry shown → l ≡ outlook_after p picks entry.pick
    → BecomesComparison (exports_of p) (after_pick (exports_of p) l entry.pick (comparison_after None p picks) shown) (lines_of_move (exports_of p) l entry.pick (comparison_after None p picks) shown) new.comparison text text' kinds
    → out'.items ≡ out.items ++ (kinds.differs || kinds.is_open) ∷ []
    → SeesMove HasComparedMoves AddsMove p picks entry.pick old new out out'
move_compared p picks entry shown l kinds old new text text' out out' next ahead becomes written =
    let o : Exports = exports_of p in
    let c : definition.Comparison = comparison_after None p picks in
    let m : Outlook = outlook_after p picks entry.pick in
    let ls : List NamedLine = lines_of_move o l entry.pick c shown in
    record {
      after = subst (λ d. IsComparison o d new.comparison)
          (ap (λ k. after_pick o k entry.pick c shown) ahead ∙ ap (after_pick o m entry.pick c) (sym next.shows) ∙ sym (comparison_moved p picks entry.pick None next.moved)) becomes.comparison;
      added = written
          ∙ ap (λ b. out.items ++ (b || kinds.is_open) ∷ []) becomes.lines.differs
          ∙ ap (λ b. out.items ++ (definition.lines_differ ls || b) ∷ []) becomes.lines.open_lines
          ∙ ap (λ b. out.items ++ b ∷ []) (any_line ls)
          ∙ ap (λ k. out.items ++ has_node_line (lines_of_move o k entry.pick c shown) ∷ []) ahead
          ∙ ap (λ xs. out.items ++ has_node_line (lines_of_move o m entry.pick c xs) ∷ []) (sym next.shows)
          ∙ ap (λ b. out.items ++ (if b then has_node_line (lines_of_next None p picks entry.pick) ∷ [] else [])) (sym next.moved);
    }

-- ---- all moves

compared : {A : Type 0} (p : Program) (more picks : List ℕ) (old new : NodeMoves A) (out out' : Vec Bool A) → AddsEach AddsMove p picks more old new out out' → out.items ≡ moves_that_differ p picks → out'.items ≡ moves_that_differ p (picks ++ more)
compared p [] picks old new out out' h so_far = ap (λ (v : Vec _ _). v.items) h.1 ∙ so_far ∙ ap (moves_that_differ p) (sym (append-nil picks))
compared p (pick ∷ more) picks old new out out' h so_far =
    let here : List Bool = if (pick_step_after p picks pick).moved then has_node_line (lines_of_next None p picks pick) ∷ [] else [] in
    compared p more (picks ++ pick ∷ []) h.0 new h.1 out' h.3 (h.2 ∙ ap (λ bs. bs ++ here) so_far ∙ sym (moves_that_differ_more p picks pick))
    ∙ ap (moves_that_differ p) (append_assoc picks (pick ∷ []) more)

-- what was added of a whole run
pub run_compared : {A : Type 0} (p : Program) (picks : List ℕ) (old new : NodeMoves A) (out out' : Vec Bool A) → AddsFrom AddsMove p (take 65536 []) (take 65536 (moves p picks)) old new out out'
    → out.items ≡ [] → out'.items ≡ moves_that_differ p picks
run_compared p picks old new out out' h empty =
    let none : take 65536 [] ≡ [] = take_all 65536 [] (nothing_below 65536) in
    let all : moves p picks ≡ h.more = sym (take_all 65536 (moves p picks) (moves_bounded p picks)) ∙ h.longer ∙ ap (λ js. js ++ h.more) none in
    compared p h.more [] old new out out' (subst (λ js. AddsEach AddsMove p js h.more old new out out') none h.added) empty
    ∙ ap (moves_that_differ p) (sym all) ∙ moves_that_differ_again p picks
  where
    nothing_below : (n : ℕ) → 0 ≤ n
    nothing_below n = omega arith
