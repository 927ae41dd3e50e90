-- Events of a step, one after the other.
use Rattle.std.proofs.Common.{◌≡◌, ◌∙◌, ℕ, ◌+◌, ◌<◌, ◌≤◌, false, ◌||◌, List, [], ◌∷◌, ◌++◌, map, length, drop, get_or, refl, sym, ap, subst, append-nil, append_assoc}
use Rattle.std.proofs.lemmas.List.{drop_more, drop_all}
use Rattle.std.specs.declared.vec.Vec.{Vec}
use Rattle.def_script.specs.Exports.{Exports}
use Rattle.def_outlook.specs.Outlook as outlook
use Rattle.def_node.specs.Event.{Event}
use Rattle.def_run.specs.Run.{HistoryItem, event_item}
use Rattle.def_running_node.specs.NodeComparisons as definition
use Rattle.def_running_node.specs.NodeComparisons.{NamedLine, after_item, lines_of_item, after_items, lines_of_items}
use Rattle.tn_running_node.specs.Comparisons.{PutsNamed, IsComparison, BecomesComparison}
use Rattle.tn_running_node.specs.declared.comparison.Comparison.{Comparison}
use Rattle.tn_running_node.specs.declared.lines.LineKinds.{LineKinds}
use Rattle.tn_running_node.proofs.PairLoops.{puts_both, puts_none}

-- some items were seen, and the others are still to come
pub record GoesOn {A E : Type 0} (o : Exports) (l : outlook.Outlook) (c : definition.Comparison) (item : E → HistoryItem) (es : List E) (n : ℕ) (now : Comparison A) (out out' : Vec ℕ A) (kinds : LineKinds) : Type 0 where
  pub so_far : definition.Comparison
  pub comparison : IsComparison o so_far now
  pub front : List NamedLine
  pub put : PutsNamed front out out' kinds
  pub after : after_items o l c (map item es) ≡ after_items o l so_far (map item (drop n es))
  pub lines : lines_of_items o l c (map item es) ≡ front ++ lines_of_items o l so_far (map item (drop n es))

module _ {A E : Type 0} (o : Exports) (l : outlook.Outlook) (c : definition.Comparison) (item : E → HistoryItem) (es : List E) where
  pub none_seen : (now : Comparison A) (out : Vec ℕ A) (kinds : LineKinds) → IsComparison o c now → kinds.differs ≡ false → kinds.is_open ≡ false → GoesOn o l c item es 0 now out out kinds
  none_seen now out kinds h differs closed = record { so_far = c; comparison = h; front = []; put = puts_none out kinds differs closed; after = refl; lines = refl }

  pub one_more_seen : (n : ℕ) (e : E) (now next : Comparison A) (out mid out' : Vec ℕ A) (kinds one both : LineKinds) → n < length es → e ≡ get_or es n e
      → ((d : definition.Comparison) → IsComparison o d now → BecomesComparison o (after_item o l d (item e)) (lines_of_item o l d (item e)) next mid out' one)
      → both.differs ≡ (kinds.differs || one.differs) → both.is_open ≡ (kinds.is_open || one.is_open) → GoesOn o l c item es n now out mid kinds → GoesOn o l c item es (n + 1) next out out' both
  one_more_seen n e now next out mid out' kinds one both below is made differs closed h =
      let left : drop n es ≡ e ∷ drop (n + 1) es = drop_more es n e below ∙ ap (λ y. y ∷ drop (n + 1) es) (sym is) in
      let m = made h.so_far h.comparison in
      record {
        so_far = after_item o l h.so_far (item e);
        comparison = m.comparison;
        front = h.front ++ lines_of_item o l h.so_far (item e);
        put = puts_both h.front (lines_of_item o l h.so_far (item e)) out mid out' kinds one both h.put m.lines differs closed;
        after = h.after ∙ ap (λ xs. after_items o l h.so_far (map item xs)) left;
        lines =
            h.lines ∙ ap (λ xs. h.front ++ lines_of_items o l h.so_far (map item xs)) left
            ∙ sym (append_assoc h.front (lines_of_item o l h.so_far (item e)) (lines_of_items o l (after_item o l h.so_far (item e)) (map item (drop (n + 1) es))));
      }

  pub all_seen : (n : ℕ) (now : Comparison A) (out out' : Vec ℕ A) (kinds : LineKinds) → length es ≤ n → GoesOn o l c item es n now out out' kinds → BecomesComparison o (after_items o l c (map item es)) (lines_of_items o l c (map item es)) now out out' kinds
  all_seen n now out out' kinds past h =
      let none : drop n es ≡ [] = drop_all n es past in
      let whole : lines_of_items o l c (map item es) ≡ h.front = h.lines ∙ ap (λ xs. h.front ++ lines_of_items o l h.so_far (map item xs)) none ∙ append-nil h.front in
      record {
        comparison = subst (λ d. IsComparison o d now) (sym (h.after ∙ ap (λ xs. after_items o l h.so_far (map item xs)) none)) h.comparison;
        lines = subst (λ ls. PutsNamed ls out out' kinds) (sym whole) h.put;
      }

map-both : {X Y Z : Type 0} (f : Y → Z) (g : X → Y) (xs : List X) → map (λ x. f (g x)) xs ≡ map f (map g xs)
map-both f g [] = refl
map-both f g (x ∷ xs) = ap (λ ys. f (g x) ∷ ys) (map-both f g xs)

-- all events of a step
pub all_events_seen : {A E : Type 0} (o : Exports) (l : outlook.Outlook) (c : definition.Comparison) (v : E → Event) (es all : List E) (n : ℕ) (now : Comparison A) (out out' : Vec ℕ A) (kinds : LineKinds) → es ≡ all → length es ≤ n → GoesOn o l c (λ e. event_item (v e)) es n now out out' kinds
    → BecomesComparison o (after_items o l c (map event_item (map v all))) (lines_of_items o l c (map event_item (map v all))) now out out' kinds
all_events_seen o l c v es all n now out out' kinds same past h =
    let seen = all_seen o l c (λ e. event_item (v e)) es n now out out' kinds past h in
    subst (λ xs. BecomesComparison o (after_items o l c xs) (lines_of_items o l c xs) now out out' kinds) (map-both event_item v es ∙ ap (λ ds. map event_item (map v ds)) same) seen
