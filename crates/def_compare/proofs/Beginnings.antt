-- What begins a trace did so before: the messages of a run only grow.
use Rattle.std.proofs.Common.{◌≡◌, ◌∙◌, ℕ, List, [], ◌∷◌, ◌++◌, true, refl, ap, subst}
use Rattle.std.specs.Prelude.{map, filter, flat_map, All, Any}
use Rattle.std.proofs.lemmas.List.Elements.{All-nil, All-cons, All-head, All-tail, filter-append}
use Rattle.def_term.specs.Tree.{Tree}
use Rattle.def_term.specs.Names.{Name}
use Rattle.def_script.specs.Program.{Program}
use Rattle.def_script.specs.Exports.{Exports, exports_of}
use Rattle.def_session.specs.State.{absent_session}
use Rattle.def_run.specs.Run.{HistoryItem, history_from, start, run_state_of}
use Rattle.def_run.specs.View.{is_own}
use Rattle.def_run.specs.Listing.{messages_from, session_after, messages}
use Rattle.def_run.proofs.Appends.{own-append, shown-append, messages-append}
use Rattle.def_explore.specs.Rests.{RunQuestion, all_messages, by_process, is_of_process, each_process, all_pids, kept_in}
use Rattle.def_renaming.specs.Renaming.{IsRenamedPrefix}
use Rattle.def_compare.specs.Traces.{BeginsTraceBy, has_message, lists_in, lists_with_messages, orders_in, begins_trace}
use Rattle.def_compare.proofs.Pairs.{begins_by, begins_if}

-- ---- messages only grow

more_messages : (s : Name) (p : Program) (picks more : List ℕ) → (rest : List Tree) × (messages s p (picks ++ more) ≡ messages s p picks ++ rest)
more_messages s p picks more =
    let o : Exports = exports_of p in
    let seen : List HistoryItem = filter (is_own s) (history_from p.functions (start p) picks) in
    let next : List HistoryItem = filter (is_own s) (history_from p.functions (run_state_of p picks) more) in (
      messages_from o (session_after o (absent_session o) seen) next,
      ap (λ items. messages_from o (absent_session o) (filter (is_own s) items)) (shown-append p.functions (start p) picks more)
          ∙ ap (messages_from o (absent_session o)) (own-append s (history_from p.functions (start p) picks) (history_from p.functions (run_state_of p picks) more))
          ∙ messages-append o (absent_session o) seen next,
    )

-- each of the lists begins the one at its place
abbrev ArePrefixes : List (List Tree) → List (List Tree) → Type 0
ArePrefixes [] [] = Unit {0}
ArePrefixes (xs ∷ xss) (ys ∷ yss) = ((rest : List Tree) × (ys ≡ xs ++ rest)) × ArePrefixes xss yss
ArePrefixes xss yss = ⊥

both_prefixes : (xss yss vss wss : List (List Tree)) → ArePrefixes xss yss → ArePrefixes vss wss → ArePrefixes (xss ++ vss) (yss ++ wss)
both_prefixes [] [] vss wss h k = k
both_prefixes (xs ∷ xss) (ys ∷ yss) vss wss h k = (h.0, both_prefixes xss yss vss wss h.1 k)
both_prefixes [] (ys ∷ yss) vss wss h k = absurd h
both_prefixes (xs ∷ xss) [] vss wss h k = absurd h

-- those of each process do, where the messages of all do
process_prefixes : (ns : List ℕ) (ms all rest : List Tree) → all ≡ ms ++ rest → ArePrefixes (each_process ns ms) (each_process ns all)
process_prefixes [] ms all rest e = tt
process_prefixes (n ∷ ns) ms all rest e = ((filter (is_of_process n) rest, ap (filter (is_of_process n)) e ∙ filter-append (is_of_process n) ms rest), process_prefixes ns ms all rest e)

module _ (p : Program) (picks more : List ℕ) where
  total_prefixes : (ss : List Name) → ArePrefixes (map (λ s. messages s p picks) ss) (map (λ s. messages s p (picks ++ more)) ss)
  total_prefixes [] = tt
  total_prefixes (s ∷ ss) = (more_messages s p picks more, total_prefixes ss)

  abbrev by_processes : List ℕ → List Name → List (List Tree)
  by_processes made ss = flat_map (λ pss. pss) (map (λ s. each_process all_pids (messages s p made)) ss)

  session_prefixes : (ss : List Name) → ArePrefixes (by_processes picks ss) (by_processes (picks ++ more) ss)
  session_prefixes [] = tt
  session_prefixes (s ∷ ss) =
      let grown : (rest : List Tree) × (messages s p (picks ++ more) ≡ messages s p picks ++ rest) = more_messages s p picks more in
      both_prefixes (each_process all_pids (messages s p picks)) (each_process all_pids (messages s p (picks ++ more))) (by_processes picks ss) (by_processes (picks ++ more) ss)
      (process_prefixes all_pids (messages s p picks) (messages s p (picks ++ more)) grown.0 grown.1) (session_prefixes ss)

  kept_prefixes : (q : RunQuestion) (ss : List Name) → ArePrefixes (lists_in (kept_in q ss p picks)) (lists_in (kept_in q ss p (picks ++ more)))
  kept_prefixes all_messages ss = total_prefixes ss
  kept_prefixes by_process ss = session_prefixes ss

-- ---- fewer messages

-- the first of some messages begin what all of them begin
first_begin : (rs : List (ℕ × ℕ)) (xs rest us : List Tree) → IsRenamedPrefix rs (xs ++ rest) us → IsRenamedPrefix rs xs us
first_begin rs [] rest us h = tt
first_begin rs (x ∷ xs) rest [] h = absurd h
first_begin rs (x ∷ xs) rest (u ∷ us) h = (h.0, first_begin rs xs rest us h.1)

module _ (rs : List (ℕ × ℕ)) (groups : List (List Tree)) where
  abbrev BeginsOne : List Tree → Type 0
  BeginsOne xs = Any (IsRenamedPrefix rs xs) groups

  one_begins : (xs rest : List Tree) → BeginsOne (xs ++ rest) → BeginsOne xs
  one_begins xs rest h = (h.0, h.1, h.2, h.3, first_begin rs xs rest h.1 h.4)

  fewer_begin : (xss yss : List (List Tree)) → ArePrefixes xss yss → All BeginsOne (filter has_message yss) → All BeginsOne (filter has_message xss)
  fewer_begin [] [] h k = All-nil BeginsOne
  fewer_begin ([] ∷ xss) ([] ∷ yss) h k = fewer_begin xss yss h.1 k
  fewer_begin ([] ∷ xss) ((y ∷ ys) ∷ yss) h k = fewer_begin xss yss h.1 (All-tail BeginsOne (y ∷ ys) (filter has_message yss) k)
  fewer_begin ((x ∷ xs) ∷ xss) ([] ∷ yss) h k = absurd (nothing_is h.0.1)
    where
      nothing_is : [] ≡ x ∷ (xs ++ h.0.0) → ⊥
      nothing_is e = cc
  fewer_begin ((x ∷ xs) ∷ xss) ((y ∷ ys) ∷ yss) h k =
      All-cons BeginsOne (x ∷ xs) (filter has_message xss)
      (one_begins (x ∷ xs) h.0.0 (subst BeginsOne h.0.1 (All-head BeginsOne (y ∷ ys) (filter has_message yss) k)))
      (fewer_begin xss yss h.1 (All-tail BeginsOne (y ∷ ys) (filter has_message yss) k))
  fewer_begin [] (ys ∷ yss) h k = absurd h
  fewer_begin (xs ∷ xss) [] h k = absurd h

-- the orders of a trace are those of each question
same_orders : (ms : List Tree) (q : RunQuestion) (ss : List Name) (p : Program) (a b : List ℕ) → orders_in (kept_in q ss p a) ms ≡ orders_in (kept_in q ss p b) ms
same_orders ms all_messages ss p a b = refl
same_orders ms by_process ss p a b = refl

pub begins_before : (ms : List Tree) (q : RunQuestion) (ss : List Name) (p : Program) (picks more : List ℕ) → begins_trace ms (kept_in q ss p (picks ++ more)) ≡ true → begins_trace ms (kept_in q ss p picks) ≡ true
begins_before ms q ss p picks more h =
    let by : (rs : List (ℕ × ℕ)) × BeginsTraceBy rs ms (kept_in q ss p (picks ++ more)) = begins_by ms (kept_in q ss p (picks ++ more)) h in
    begins_if ms (kept_in q ss p picks) by.0 (record {
      one = by.1.one;
      first = subst (λ groups. All (λ xs. Any (IsRenamedPrefix by.0 xs) groups) (lists_with_messages (kept_in q ss p picks))) (same_orders ms q ss p (picks ++ more) picks)
          (fewer_begin by.0 (orders_in (kept_in q ss p (picks ++ more)) ms) (lists_in (kept_in q ss p picks)) (lists_in (kept_in q ss p (picks ++ more))) (kept_prefixes p picks more q ss) by.1.first);
    })
