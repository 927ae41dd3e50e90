-- The events of a move, one after the other.
use Rattle.std.proofs.Common.{◌≡◌, ◌∙◌, ℕ, ◌+◌, ◌<◌, ◌≤◌, Bool, false, ◌||◌, Option, List, [], ◌∷◌, map, length, drop, get_or, refl, sym, ap, subst}
use Rattle.std.specs.List.{list_any}
use Rattle.std.proofs.lemmas.List.{drop_more, drop_all}
use Rattle.def_term.specs.Names.{Name}
use Rattle.def_script.specs.Exports.{Exports}
use Rattle.def_node.specs.Event.{Event}
use Rattle.def_outlook.specs.Outlook.{Outlook}
use Rattle.def_run.specs.Run.{HistoryItem, event_item}
use Rattle.def_run.specs.History.{NamedSession, all_after, all_after_items, moments_from, move_history}
use Rattle.def_message_choice.specs.MessageChoices.{MessageChoice, chooses, is_chosen_moment, is_chosen}
use Rattle.tn_message_choice.proofs.SideBySide.{or-assoc, or-false}

-- the events of a list
abbrev pub shown_of : {E : Type 0} → (E → Event) → List E → List HistoryItem
shown_of v es = map event_item (map v es)

module _ (c : MessageChoice) (n : Option Name) (o : Exports) (ss : List NamedSession) where
  -- one of the moments of what is shown is chosen
  abbrev one_of : (k pick : ℕ) → List NamedSession → List HistoryItem → Bool
  one_of k pick us xs = list_any (is_chosen_moment c n) (moments_from o k pick us xs)

  -- some of what is shown is seen, and the rest is still to come
  pub record IsPartway (us : List NamedSession) (xs rest : List HistoryItem) (now : Bool) : Type 0 where
    pub sessions : all_after_items o ss xs ≡ all_after_items o us rest
    pub one : (k pick : ℕ) → (now || one_of k pick us rest) ≡ one_of k pick ss xs

  pub none_seen : (xs : List HistoryItem) → IsPartway ss xs xs false
  none_seen xs = record { sessions = refl; one = λ k pick. refl }

  pub more_seen : {E : Type 0} (v : E → Event) (us : List NamedSession) (es : List E) (i : ℕ) (e : E) (now b : Bool) → i < length es → e ≡ get_or es i e → b ≡ list_any (chooses c n (event_item (v e))) us
      → IsPartway us (shown_of v es) (shown_of v (drop i es)) now → IsPartway (all_after o us (event_item (v e))) (shown_of v es) (shown_of v (drop (i + 1) es)) (now || b)
  more_seen v us es i e now b below is made h =
      let left : drop i es ≡ e ∷ drop (i + 1) es = drop_more es i e below ∙ ap (λ y. y ∷ drop (i + 1) es) (sym is) in
      let so : IsPartway us (shown_of v es) (shown_of v (e ∷ drop (i + 1) es)) now = subst (λ l. IsPartway us (shown_of v es) (shown_of v l) now) left h in
      record {
        sessions = so.sessions;
        one = λ k pick.
            or-assoc now b (one_of k pick (all_after o us (event_item (v e))) (shown_of v (drop (i + 1) es)))
            ∙ ap (λ d. now || (d || one_of k pick (all_after o us (event_item (v e))) (shown_of v (drop (i + 1) es)))) made ∙ so.one k pick;
      }

  pub all_seen : {E : Type 0} (v : E → Event) (us : List NamedSession) (es fs : List E) (i : ℕ) (now : Bool) → es ≡ fs → length es ≤ i → IsPartway us (shown_of v es) (shown_of v (drop i es)) now
      → (us ≡ all_after_items o ss (shown_of v fs)) × ((k pick : ℕ) (l : Outlook) → now ≡ is_chosen c n (move_history o k pick l ss (shown_of v fs)))
  all_seen v us es fs i now same past h =
      let none : drop i es ≡ [] = drop_all i es past in (
        sym (h.sessions ∙ ap (λ l. all_after_items o us (shown_of v l)) none) ∙ ap (λ l. all_after_items o ss (shown_of v l)) same,
        λ k pick l. sym (ap (λ r. now || one_of k pick us (shown_of v r)) none ∙ or-false now) ∙ h.one k pick ∙ ap (λ r. one_of k pick ss (shown_of v r)) same,
      )
