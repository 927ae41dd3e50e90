-- The sessions side by side, one after the other.
use Rattle.std.proofs.Common.{◌≡◌, ◌∙◌, ℕ, ◌+◌, List, ◌∷◌, ◌++◌, map, length, ◌<◌, ◌≤◌, drop, get_or, refl, sym, ap, append-nil, append_assoc}
use Rattle.std.proofs.Math.ListN.{set}
use Rattle.def_term.specs.Alive.{Alive}
use Rattle.def_script.specs.Exports.{Exports}
use Rattle.def_run.specs.Run.{HistoryItem}
use Rattle.def_run.specs.History.{NamedSession, after, all_after}
use Rattle.def_explain.specs.Runs.{session_lines, makes, made_by_all}
use Rattle.tn_trace.specs.Slots.{EachPair, EachUpTo}
use Rattle.tn_trace.specs.declared.slot.Slot.{Slot}
use Rattle.tn_trace.proofs.Places.{up_to_none, up_to_all, all_dropped, each_mapped, place_here}
use Rattle.tn_node.specs.Outlooks.{outlook_seen}
use Rattle.tn_explain.specs.Filters.{selection_seen, text_by}
use Rattle.tn_trace.specs.NamedSessions.{HasState}
use Rattle.tn_explain.specs.declared.step.Step.{Step}
use Rattle.tn_trace.specs.declared.discard.Discard.{Discard}
use Rattle.tn_explain.proofs.MoveTexts.{are_made, text-append}

-- what the first of some sessions makes, and then the others
first_makes : (step : Step) (o : Exports) (x : HistoryItem) (s : NamedSession) (ss : List NamedSession) → text_by step (made_by_all o (outlook_seen step.outlook) (s ∷ ss) x) ≡ text_by step (map (makes s.0) (session_lines o (outlook_seen step.outlook) s x)) ++ text_by step (made_by_all o (outlook_seen step.outlook) ss x)
first_makes step o x s ss = text-append (selection_seen step.selection.now) step.number (map (makes s.0) (session_lines o (outlook_seen step.outlook) s x)) (made_by_all o (outlook_seen step.outlook) ss x) (are_made step.number s.0 (session_lines o (outlook_seen step.outlook) s x))

-- one more session
pub one_more_made : (step : Step) (o : Exports) (x : HistoryItem) (n : ℕ) (ss : List NamedSession) (here : NamedSession) (now next whole : List ℕ) → drop n ss ≡ here ∷ drop (n + 1) ss → next ≡ now ++ text_by step (map (makes here.0) (session_lines o (outlook_seen step.outlook) here x))
    → now ++ text_by step (made_by_all o (outlook_seen step.outlook) (drop n ss) x) ≡ whole → next ++ text_by step (made_by_all o (outlook_seen step.outlook) (drop (n + 1) ss) x) ≡ whole
one_more_made step o x n ss here now next whole back made so_far =
    ap (λ l. l ++ text_by step (made_by_all o (outlook_seen step.outlook) (drop (n + 1) ss) x)) made
    ∙ append_assoc now (text_by step (map (makes here.0) (session_lines o (outlook_seen step.outlook) here x))) (text_by step (made_by_all o (outlook_seen step.outlook) (drop (n + 1) ss) x))
    ∙ ap (λ l. now ++ l) (sym (first_makes step o x here (drop (n + 1) ss)))
    ∙ ap (λ ts. now ++ text_by step (made_by_all o (outlook_seen step.outlook) ts x)) (sym back)
    ∙ so_far

-- the sessions up to a place see what is shown, and what the others make of it is still to come
pub record IsHalfway {A : Type 0} (step : Step) (o : Exports) (living living' : Alive) (x : HistoryItem) (ss : List NamedSession) (n : ℕ) (slots : List (Slot A Discard)) (first now : List ℕ) : Type 0 where
  pub seen : EachUpTo (λ s t. HasState o living' (after o s x) t) (HasState o living) n ss slots
  pub text : now ++ text_by step (made_by_all o (outlook_seen step.outlook) (drop n ss) x) ≡ first ++ text_by step (made_by_all o (outlook_seen step.outlook) ss x)

-- all of them
pub all_made : {A : Type 0} (step : Step) (o : Exports) (living living' : Alive) (x : HistoryItem) (ss : List NamedSession) (n : ℕ) (slots : List (Slot A Discard)) (first now : List ℕ) → length slots ≤ n → IsHalfway step o living living' x ss n slots first now
    → EachPair (HasState o living') (all_after o ss x) slots × (now ≡ first ++ text_by step (made_by_all o (outlook_seen step.outlook) ss x))
all_made step o living living' x ss n slots first now past h = (
  each_mapped (HasState o living') (λ s. after o s x) ss slots (up_to_all (λ s t. HasState o living' (after o s x) t) (HasState o living) n ss slots past h.seen),
  sym (ap (λ ts. now ++ text_by step (made_by_all o (outlook_seen step.outlook) ts x)) (all_dropped (λ s t. HasState o living' (after o s x) t) (HasState o living) n ss slots past h.seen) ∙ append-nil now) ∙ h.text,
)

-- none of them yet
pub none_made : {A : Type 0} (step : Step) (o : Exports) (living living' : Alive) (x : HistoryItem) (ss : List NamedSession) (slots : List (Slot A Discard)) (text : List ℕ) → EachPair (HasState o living) ss slots → IsHalfway step o living living' x ss 0 slots text text
none_made step o living living' x ss slots text h = record { seen = up_to_none (λ s t. HasState o living' (after o s x) t) (HasState o living) ss slots h; text = refl }

-- one more of them
pub more_made : {A : Type 0} (step : Step) (o : Exports) (living living' : Alive) (x : HistoryItem) (ss : List NamedSession) (n : ℕ) (slots : List (Slot A Discard)) (old new : Slot A Discard) (first now next : List ℕ) → n < length slots → old ≡ get_or slots n old
    → ((s : NamedSession) → HasState o living s old → HasState o living' (after o s x) new × (next ≡ now ++ text_by step (map (makes s.0) (session_lines o (outlook_seen step.outlook) s x))))
    → IsHalfway step o living living' x ss n slots first now → IsHalfway step o living living' x ss (n + 1) (set slots n new) first next
more_made step o living living' x ss n slots old new first now next below is made h =
    let here = place_here (λ s t. HasState o living' (after o s x) t) (HasState o living) n ss slots old new below is h.seen in
    let m = made here.here here.before in
    record { seen = here.after m.0; text = one_more_made step o x n ss here.here now next (first ++ text_by step (made_by_all o (outlook_seen step.outlook) ss x)) here.back m.1 h.text }
