-- What the sessions make of a move, event by event.
use Rattle.std.proofs.Common.{◌≡◌, ◌∙◌, ℕ, ◌+◌, ◌<◌, ◌≤◌, List, [], ◌∷◌, ◌++◌, map, length, drop, get_or, refl, sym, ap, subst, append-nil, append_assoc, arith}
use Rattle.std.proofs.lemmas.List.{drop_more, drop_all}
use Rattle.def_script.specs.Exports.{Exports}
use Rattle.def_node.specs.Event.{Event}
use Rattle.def_outlook.specs.Outlook.{Outlook}
use Rattle.def_run.specs.Run.{HistoryItem, event_item}
use Rattle.def_run.specs.History.{NamedSession, all_after, all_after_items}
use Rattle.def_explain.specs.Runs.{shows, shows_nothing, made_by_all, entries_over, entries_of_move}
use Rattle.tn_node.specs.Outlooks.{outlook_seen}
use Rattle.tn_explain.specs.Filters.{selection_seen, text_by}
use Rattle.tn_explain.specs.NamedSessions.{AreNamedSessions}
use Rattle.tn_explain.specs.declared.step.Step.{Step}
use Rattle.tn_explain.specs.declared.sessions.Sessions.{Sessions}
use Rattle.tn_explain.proofs.MoveTexts.{are_made_by_all, text-append, twice}

-- the line of what is shown, and then what the sessions make of it
pub shown_and_made : (step : Step) (o : Exports) (ss : List NamedSession) (x : HistoryItem) (first now next : List ℕ) → now ≡ first ++ text_by step (shows step.number step.pick x ∷ []) → next ≡ now ++ text_by step (made_by_all o (outlook_seen step.outlook) ss x)
    → next ≡ first ++ text_by step (shows step.number step.pick x ∷ made_by_all o (outlook_seen step.outlook) ss x)
shown_and_made step o ss x first now next line made =
    twice first (text_by step (shows step.number step.pick x ∷ [])) (text_by step (made_by_all o (outlook_seen step.outlook) ss x)) (text_by step (shows step.number step.pick x ∷ made_by_all o (outlook_seen step.outlook) ss x)) now next line made
    (text-append (selection_seen step.selection.now) step.number (shows step.number step.pick x ∷ []) (made_by_all o (outlook_seen step.outlook) ss x) (refl, tt))

-- of a command nothing follows
pub command_shown : (step : Step) (o : Exports) (ss : List NamedSession) (x : HistoryItem) (first next : List ℕ) → next ≡ first ++ text_by step (shows step.number step.pick x ∷ made_by_all o (outlook_seen step.outlook) ss x)
    → next ≡ first ++ text_by step (entries_of_move o (outlook_seen step.outlook) step.number step.pick ss (x ∷ []))
command_shown step o ss x first next h = h ∙ ap (λ es. first ++ text_by step (shows step.number step.pick x ∷ es)) (sym (append-nil (made_by_all o (outlook_seen step.outlook) ss x)))

-- some of what is shown is seen, and the rest is still to come
pub record IsPartway (step : Step) (o : Exports) (ss us : List NamedSession) (xs rest : List HistoryItem) (first now : List ℕ) : Type 0 where
  pub sessions : all_after_items o ss xs ≡ all_after_items o us rest
  pub text : now ++ text_by step (entries_over o (outlook_seen step.outlook) step.number step.pick us rest) ≡ first ++ text_by step (entries_over o (outlook_seen step.outlook) step.number step.pick ss xs)

pub none_shown : (step : Step) (o : Exports) (ss : List NamedSession) (xs : List HistoryItem) (text : List ℕ) → IsPartway step o ss ss xs xs text text
none_shown step o ss xs text = record { sessions = refl; text = refl }

over_more : (step : Step) (o : Exports) (us : List NamedSession) (x : HistoryItem) (rest : List HistoryItem)
    → text_by step (entries_over o (outlook_seen step.outlook) step.number step.pick us (x ∷ rest)) ≡ text_by step (shows step.number step.pick x ∷ made_by_all o (outlook_seen step.outlook) us x) ++ text_by step (entries_over o (outlook_seen step.outlook) step.number step.pick (all_after o us x) rest)
over_more step o us x rest =
    text-append (selection_seen step.selection.now) step.number (shows step.number step.pick x ∷ made_by_all o (outlook_seen step.outlook) us x) (entries_over o (outlook_seen step.outlook) step.number step.pick (all_after o us x) rest) (refl, are_made_by_all step.number o (outlook_seen step.outlook) us x)

-- one more of it
one_shown : (step : Step) (o : Exports) (ss us : List NamedSession) (xs rest : List HistoryItem) (x : HistoryItem) (first now next : List ℕ) → next ≡ now ++ text_by step (shows step.number step.pick x ∷ made_by_all o (outlook_seen step.outlook) us x)
    → IsPartway step o ss us xs (x ∷ rest) first now → IsPartway step o ss (all_after o us x) xs rest first next
one_shown step o ss us xs rest x first now next made h =
    let later : List ℕ = text_by step (entries_over o (outlook_seen step.outlook) step.number step.pick (all_after o us x) rest) in
    record {
      sessions = h.sessions;
      text = ap (λ l. l ++ later) made ∙ append_assoc now (text_by step (shows step.number step.pick x ∷ made_by_all o (outlook_seen step.outlook) us x)) later ∙ ap (λ l. now ++ l) (sym (over_more step o us x rest)) ∙ h.text;
    }

-- the events of a list
abbrev pub shown_of : {E : Type 0} → (E → Event) → List E → List HistoryItem
shown_of v es = map event_item (map v es)

pub more_shown : {E : Type 0} (v : E → Event) (step : Step) (o : Exports) (ss us : List NamedSession) (es : List E) (i : ℕ) (e : E) (first now next : List ℕ) → i < length es → e ≡ get_or es i e
    → next ≡ now ++ text_by step (shows step.number step.pick (event_item (v e)) ∷ made_by_all o (outlook_seen step.outlook) us (event_item (v e)))
    → IsPartway step o ss us (shown_of v es) (shown_of v (drop i es)) first now → IsPartway step o ss (all_after o us (event_item (v e))) (shown_of v es) (shown_of v (drop (i + 1) es)) first next
more_shown v step o ss us es i e first now next below is made h =
    let left : drop i es ≡ e ∷ drop (i + 1) es = drop_more es i e below ∙ ap (λ y. y ∷ drop (i + 1) es) (sym is) in
    one_shown step o ss us (shown_of v es) (shown_of v (drop (i + 1) es)) (event_item (v e)) first now next made
    (subst (λ l. IsPartway step o ss us (shown_of v es) (shown_of v l) first now) left h)

-- all of it
pub all_shown : {E : Type 0} (v : E → Event) (step : Step) (o : Exports) (ss us : List NamedSession) (es : List E) (i : ℕ) (first now : List ℕ) → length es ≤ i → IsPartway step o ss us (shown_of v es) (shown_of v (drop i es)) first now
    → (us ≡ all_after_items o ss (shown_of v es)) × (now ≡ first ++ text_by step (entries_over o (outlook_seen step.outlook) step.number step.pick ss (shown_of v es)))
all_shown v step o ss us es i first now past h =
    let none : drop i es ≡ [] = drop_all i es past in (
      sym (h.sessions ∙ ap (λ l. all_after_items o us (shown_of v l)) none),
      sym (ap (λ l. now ++ text_by step (entries_over o (outlook_seen step.outlook) step.number step.pick us (shown_of v l))) none ∙ append-nil now) ∙ h.text,
    )

-- a move that shows something
pub some_shown : (l : Outlook) (k pick : ℕ) (o : Exports) (ss : List NamedSession) (xs : List HistoryItem) → (xs ≡ [] → ⊥) → entries_over o l k pick ss xs ≡ entries_of_move o l k pick ss xs
some_shown l k pick o ss [] h = absurd (h refl)
some_shown l k pick o ss (x ∷ xs) h = refl

pub seen_all : {A E : Type 0} (v : E → Event) (step : Step) (o : Exports) (ss us : List NamedSession) (es fs : List E) (i : ℕ) (new : Sessions A) (first now : List ℕ) → es ≡ fs → length es ≤ i → AreNamedSessions o us new
    → IsPartway step o ss us (shown_of v es) (shown_of v (drop i es)) first now
    → AreNamedSessions o (all_after_items o ss (shown_of v fs)) new × (now ≡ first ++ text_by step (entries_over o (outlook_seen step.outlook) step.number step.pick ss (shown_of v fs)))
seen_all v step o ss us es fs i new first now same past at h =
    let all = all_shown v step o ss us es i first now past h in (
      subst (λ ts. AreNamedSessions o ts new) (all.0 ∙ ap (λ l. all_after_items o ss (shown_of v l)) same) at,
      all.1 ∙ ap (λ l. first ++ text_by step (entries_over o (outlook_seen step.outlook) step.number step.pick ss (shown_of v l))) same,
    )

pub no_items : {E : Type 0} (es : List E) → length es ≡ 0 → es ≡ []
no_items [] h = refl
no_items (e ∷ es) h = absurd (omega arith)

-- a move that shows nothing
pub nothing_seen : {A E : Type 0} (v : E → Event) (step : Step) (o : Exports) (ss : List NamedSession) (es : List E) (new : Sessions A) (first now : List ℕ) → es ≡ [] → AreNamedSessions o ss new
    → now ≡ first ++ text_by step (shows_nothing step.number step.pick ∷ [])
    → AreNamedSessions o (all_after_items o ss (shown_of v es)) new × (now ≡ first ++ text_by step (entries_of_move o (outlook_seen step.outlook) step.number step.pick ss (shown_of v es)))
nothing_seen v step o ss es new first now none at written = (
  subst (λ l. AreNamedSessions o (all_after_items o ss (shown_of v l)) new) (sym none) at,
  written ∙ ap (λ l. first ++ text_by step (entries_of_move o (outlook_seen step.outlook) step.number step.pick ss (shown_of v l))) (sym none),
)

none_of_none : {E : Type 0} (v : E → Event) (es : List E) → shown_of v es ≡ [] → es ≡ []
none_of_none v [] h = refl
none_of_none v (e ∷ es) h = cc

-- a move that shows something
pub something_seen : {A E : Type 0} (v : E → Event) (step : Step) (o : Exports) (ss : List NamedSession) (es : List E) (new : Sessions A) (first now : List ℕ) → (es ≡ [] → ⊥)
    → AreNamedSessions o (all_after_items o ss (shown_of v es)) new × (now ≡ first ++ text_by step (entries_over o (outlook_seen step.outlook) step.number step.pick ss (shown_of v es)))
    → AreNamedSessions o (all_after_items o ss (shown_of v es)) new × (now ≡ first ++ text_by step (entries_of_move o (outlook_seen step.outlook) step.number step.pick ss (shown_of v es)))
something_seen v step o ss es new first now some made = (
  made.0,
  made.1 ∙ ap (λ l. first ++ text_by step l) (some_shown (outlook_seen step.outlook) step.number step.pick o ss (shown_of v es) (λ e. some (none_of_none v es e))),
)
