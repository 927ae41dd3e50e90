-- A move of a run here and on a node.
use Rattle.std.proofs.Common.{◌≡◌, ◌≢◌, ◌∙◌, ℕ, List, [], ◌∷◌, map, length, refl, sym, ap, subst, arith}
use Rattle.std.specs.declared.vec.Vec.{Vec}
use Rattle.def_outlook.specs.Outlook as outlook
use Rattle.def_script.specs.Exports.{Exports}
use Rattle.def_run.specs.Run.{HistoryItem}
use Rattle.def_running_node.specs.NodeRuns.{at_move}
use Rattle.def_running_node.specs.NodeComparisons as definition
use Rattle.def_running_node.specs.NodeComparisons.{at_pick, after_items, lines_of_items, after_own_link, after_pick, lines_of_move}
use Rattle.tn_node.specs.Outlooks.{outlook_seen}
use Rattle.tn_node.specs.declared.outlook.Outlook.{Outlook}
use Rattle.tn_running_node.specs.Comparisons.{IsComparison, BecomesComparison, own_link_lines}
use Rattle.tn_running_node.specs.Views.{node_run_seen}
use Rattle.tn_running_node.specs.declared.comparison.Comparison.{Comparison}
use Rattle.tn_running_node.specs.declared.lines.LineKinds.{LineKinds}
use Rattle.tn_running_node.specs.declared.node_run.NodeRun.{NodeRun}

-- a move begins
pub begins_move : {A : Type 0} (o : Exports) (c : definition.Comparison) (k : Comparison A) (run : NodeRun A) (pick : ℕ) → IsComparison o c k → node_run_seen run ≡ at_move (node_run_seen k.run) pick → IsComparison o (at_pick pick c) (record k { run = run })
begins_move o c k run pick h begun = record { run = begun ∙ ap (λ r. at_move r pick) h.run; pairs = h.pairs }

-- it shows nothing
pub shows_none : {A : Type 0} (o : Exports) (l : Outlook) (pick : ℕ) (c : definition.Comparison) (k : Comparison A) (xs : List HistoryItem) (out out' : Vec ℕ A) (kinds : LineKinds) → xs ≡ []
    → BecomesComparison o (after_own_link (outlook_seen l) (at_pick pick c)) (own_link_lines pick (at_pick pick c) l) k out out' kinds → BecomesComparison o (after_pick o (outlook_seen l) pick c xs) (lines_of_move o (outlook_seen l) pick c xs) k out out' kinds
shows_none o l pick c k xs out out' kinds none h = subst (λ ys. BecomesComparison o (after_pick o (outlook_seen l) pick c ys) (lines_of_move o (outlook_seen l) pick c ys) k out out' kinds) (sym none) h

lines-of-some : (o : Exports) (l : outlook.Outlook) (pick : ℕ) (c : definition.Comparison) (xs : List HistoryItem) → xs ≢ [] → lines_of_items o l (at_pick pick c) xs ≡ lines_of_move o l pick c xs
lines-of-some o l pick c [] some = absurd (some refl)
lines-of-some o l pick c (x ∷ xs) some = refl

after-some : (o : Exports) (l : outlook.Outlook) (pick : ℕ) (c : definition.Comparison) (xs : List HistoryItem) → xs ≢ [] → after_items o l (at_pick pick c) xs ≡ after_pick o l pick c xs
after-some o l pick c [] some = absurd (some refl)
after-some o l pick c (x ∷ xs) some = refl

-- it shows something
pub shows_some : {A : Type 0} (o : Exports) (l : outlook.Outlook) (pick : ℕ) (c : definition.Comparison) (k : Comparison A) (xs : List HistoryItem) (out out' : Vec ℕ A) (kinds : LineKinds) → xs ≢ []
    → BecomesComparison o (after_items o l (at_pick pick c) xs) (lines_of_items o l (at_pick pick c) xs) k out out' kinds → BecomesComparison o (after_pick o l pick c xs) (lines_of_move o l pick c xs) k out out' kinds
shows_some o l pick c k xs out out' kinds some h =
    subst (λ ls. BecomesComparison o (after_pick o l pick c xs) ls k out out' kinds) (lines-of-some o l pick c xs some)
    (subst (λ d. BecomesComparison o d (lines_of_items o l (at_pick pick c) xs) k out out' kinds) (after-some o l pick c xs some) h)

-- lists of no length
pub of_none : {E F : Type 0} (f : F → HistoryItem) (g : E → F) (es : List E) → length es ≡ 0 → map f (map g es) ≡ []
of_none f g [] h = refl
of_none f g (e ∷ es) h = absurd (omega (arith, h))

pub of_some : {E F : Type 0} (f : F → HistoryItem) (g : E → F) (es : List E) → length es ≢ 0 → map f (map g es) ≢ []
of_some f g [] h = λ e. h refl
of_some f g (e ∷ es) h = λ q. cc q
