-- The lines of differences, one after another, and the marks of frames.
use Rattle.std.proofs.Common.{◌≡◌, ◌∙◌, ℕ, suc, Bool, true, false, ◌&&◌, ◌||◌, Some, None, not, option_to_list, Option, is_some, List, [], ◌∷◌, ◌++◌, map, refl, sym, ap, append-nil, if◌then◌else◌}
use Rattle.def_spec.specs.Expressions.{Dialect, Context, Effect}
use Rattle.def_session.specs.State.{Session}
use Rattle.def_session.specs.Session.{is_marked_for_exceptions}
use Rattle.def_explain.specs.Accounts.{differs}
use Rattle.def_explain.specs.Differences.{Difference, node_ends, reads_freed, suppresses_message, leaves_no_mark, ignores_silent, evaluates_from_right, faults_in_logic, reads_no_list, one_shows_order, list_differs, difference_where, body_differs, body_differences, has_mark_below}
use Rattle.def_explain.specs.Logic.{clause_has_logic_on_other}
use Rattle.tn_head.specs.Views.{bindings_seen}
use Rattle.tn_head.specs.declared.bindings.Bindings as code
use Rattle.tn_spec.specs.Views.{dialect_of, clause_seen}
use Rattle.tn_spec.specs.declared.spec.Clause as spec
use Rattle.tn_spec.specs.declared.func.Dialect as func
use Rattle.tn_action.specs.Views.{context_seen, effect_seen}
use Rattle.tn_action.specs.declared.context.Context as action
use Rattle.tn_action.specs.declared.effect.Effect as action_effect
use Rattle.tn_running_node.specs.ClauseDifferences.{AreOfClause}
use Rattle.tn_explain.specs.ClauseDifferences.{lines_with}
use Rattle.tn_explain.specs.LineParts.{difference_lines_of}
use Rattle.tn_running_node.specs.declared.clause.ClauseDifferences.{ClauseDifferences}
use Rattle.tn_explain.specs.LineParts.{differs_where}
use Rattle.def_term.specs.Names.{Name}
use Rattle.def_term.specs.Tree.{Tree}
use Rattle.def_node.specs.Event.{Event, sent, received, called, returned, raised, spawning, spawned, exited, linked, unlinked, getting_linked, getting_unlinked}
use Rattle.def_outlook.specs.Outlook.{Outlook}
use Rattle.def_session.specs.State.{live}
use Rattle.def_session.specs.Session.{reported_in, event_reported}
use Rattle.def_explain.specs.Accounts.{differs_uncounted, difference_lines}
use Rattle.def_explain.specs.Differences.{catches_error, reports_attempt, raises_noproc, reports_later, adds_calls, reports_exceptions, step_differs, step_differences, event_difference}
use Rattle.tn_explain.specs.LineParts.{step_where, both_of}
use Rattle.tn_explain.specs.Lines.{lines_text}
use Rattle.tn_explain.specs.StepDifferences.{one_before, step_differences_seen, is_reported_later, AreBefore, AreAfterEvent}
use Rattle.tn_explain.specs.declared.step_differences.StepDifferences.{StepDifferences}
use Rattle.std.specs.Option.{option_map}

one-where : (b : Bool) (x : Difference) (xs : List Difference) → map differs (if b then x ∷ xs else xs) ≡ differs_where b x ++ map differs xs
one-where true x xs = refl
one-where false x xs = refl

-- a line for each that there is by the effects of a clause that fires
pub each_of_body : (d : Dialect) (c : Context) (es : List Effect) → map differs (body_differences d c es)
    ≡ differs_where (body_differs d c es node_ends) node_ends ++ (differs_where (body_differs d c es reads_freed) reads_freed
    ++ (differs_where (body_differs d c es suppresses_message) suppresses_message ++ (differs_where (body_differs d c es leaves_no_mark) leaves_no_mark ++ (differs_where (body_differs d c es ignores_silent) ignores_silent ++ []))))
each_of_body d c es =
    let f : Difference → Bool = body_differs d c es in
    one-where (f node_ends) node_ends _
    ∙ ap (λ l. differs_where (f node_ends) node_ends ++ l) (one-where (f reads_freed) reads_freed _
    ∙ ap (λ l. differs_where (f reads_freed) reads_freed ++ l) (one-where (f suppresses_message) suppresses_message _
    ∙ ap (λ l. differs_where (f suppresses_message) suppresses_message ++ l) (one-where (f leaves_no_mark) leaves_no_mark _
    ∙ ap (λ l. differs_where (f leaves_no_mark) leaves_no_mark ++ l) (one-where (f ignores_silent) ignores_silent []))))

-- before them those of the clause
first-where : (q : Bool) (x : Difference) (xs : List Difference) → map differs (option_to_list (difference_where q x) ++ xs) ≡ differs_where q x ++ map differs xs
first-where true x xs = refl
first-where false x xs = refl

pub lines_of_clause : {A B : Type 0} (d : func.Dialect) (k : spec.Clause A) (b : code.Bindings A B) (c : action.Context A) (es : List (action_effect.Effect A)) (these : ClauseDifferences) → AreOfClause d k b c these
    → lines_with these d c es ≡ difference_lines_of d k b c es
lines_of_clause d k b c es these h =
    let by_effects : List Difference = body_differences (dialect_of d) (context_seen c) (map effect_seen es) in
    let o : Bool = one_shows_order (clause_seen k).body in
    let l : Bool = clause_has_logic_on_other (dialect_of d) (clause_seen k) (bindings_seen b) (context_seen c) in
    let n : Bool = list_differs (dialect_of d) (clause_seen k) in
    let after_list : List Difference = option_to_list (difference_where n reads_no_list) ++ by_effects in
    ap (λ q. differs_where q evaluates_from_right ++ (differs_where these.logic faults_in_logic ++ (differs_where these.list reads_no_list ++ map differs by_effects))) h.order
    ∙ ap (λ q. differs_where o evaluates_from_right ++ (differs_where q faults_in_logic ++ (differs_where these.list reads_no_list ++ map differs by_effects))) h.logic
    ∙ ap (λ q. differs_where o evaluates_from_right ++ (differs_where l faults_in_logic ++ (differs_where q reads_no_list ++ map differs by_effects))) h.list
    ∙ ap (λ ls. differs_where o evaluates_from_right ++ (differs_where l faults_in_logic ++ ls)) (sym (first-where n reads_no_list by_effects))
    ∙ ap (λ ls. differs_where o evaluates_from_right ++ ls) (sym (first-where l faults_in_logic after_list))
    ∙ sym (first-where o evaluates_from_right (option_to_list (difference_where l faults_in_logic) ++ after_list))

-- the depths of a process, from the greatest down
module _ (s : Session) (p n m : ℕ) (is : n ≡ suc m) where
  pub mark_here : is_marked_for_exceptions s p m ≡ true → true ≡ has_mark_below s p n
  unfolding has_mark_below
  mark_here h = sym (ap (has_mark_below s p) is ∙ ap (λ b. b || has_mark_below s p m) h)

  pub mark_not_here : is_marked_for_exceptions s p m ≡ false → has_mark_below s p m ≡ has_mark_below s p n
  unfolding has_mark_below
  mark_not_here h = sym (ap (has_mark_below s p) is ∙ ap (λ b. b || has_mark_below s p m) h)

pub no_mark_below : (s : Session) (p n : ℕ) → n ≡ 0 → false ≡ has_mark_below s p n
unfolding has_mark_below
no_mark_below s p n is = sym (ap (has_mark_below s p) is)

-- a test of two, by its parts
pub both_hold : (a b both : Bool) → a ≡ true → both ≡ b → both ≡ (a && b)
both_hold a b both h is = is ∙ sym (ap (λ x. x && b) h)

pub first_fails : (a b both : Bool) → a ≡ false → both ≡ false → both ≡ (a && b)
first_fails a b both h is = is ∙ sym (ap (λ x. x && b) h)

-- the lines of the differences by the step
step-where : (b : Bool) (x : Difference) (xs : List Difference) → map differs_uncounted (one_before b x xs) ≡ step_where b x ++ map differs_uncounted xs
step-where true x xs = refl
step-where false x xs = refl

pub each_step : (d : StepDifferences) → map differs_uncounted (step_differences_seen d)
    ≡ step_where d.attempt reports_attempt ++ (step_where d.caught catches_error ++ (step_where d.noproc raises_noproc ++ (step_where d.later reports_later ++ (step_where d.calls adds_calls ++ (step_where d.exceptions reports_exceptions ++ [])))))
each_step d =
    step-where d.attempt reports_attempt _
    ∙ ap (λ l. step_where d.attempt reports_attempt ++ l) (step-where d.caught catches_error _
    ∙ ap (λ l. step_where d.caught catches_error ++ l) (step-where d.noproc raises_noproc _
    ∙ ap (λ l. step_where d.noproc raises_noproc ++ l) (step-where d.later reports_later _
    ∙ ap (λ l. step_where d.later reports_later ++ l) (step-where d.calls adds_calls _
    ∙ ap (λ l. step_where d.calls adds_calls ++ l) (step-where d.exceptions reports_exceptions [])))))

-- a line by the step has the text of any other difference
pub same_text : (n : Name) (b : Bool) (x : Difference) → lines_text n (differs_where b x) ≡ lines_text n (step_where b x)
unfolding lines_text
same_text n true x = refl
same_text n false x = refl

-- what is known afterwards of a receive
later-is : (s : Session) (l : Outlook) (e : Event) (reported : Bool) → s.phase ≡ live → reported ≡ is_some (event_reported s e).1 → is_reported_later l e reported ≡ step_differs s l e reports_later
later-is s l (received p sender t) reported phase is =
    ap (λ b. not l.is_awaited && b) (is ∙ ap (λ (x : Session × Option Tree). is_some x.1) (ap (λ x. reported_in x s (received p sender t)) phase))
later-is s l (sent p t to alive) reported phase is = refl
later-is s l (called p c) reported phase is = refl
later-is s l (returned p f t depth) reported phase is = refl
later-is s l (raised p f c t depth) reported phase is = refl
later-is s l (spawning p child f args) reported phase is = refl
later-is s l (spawned p parent f args) reported phase is = refl
later-is s l (exited p r) reported phase is = refl
later-is s l (linked p q) reported phase is = refl
later-is s l (unlinked p q) reported phase is = refl
later-is s l (getting_linked p q) reported phase is = refl
later-is s l (getting_unlinked p q) reported phase is = refl

-- what is known before an event and what is known afterwards are all that a node does otherwise by the step
pub all_known : (s : Session) (l : Outlook) (e : Event) (reported : Bool) (d f : StepDifferences) → s.phase ≡ live → reported ≡ is_some (event_reported s e).1 → AreBefore s l e d → AreAfterEvent l e reported d f → step_differences_seen f ≡ step_differences s l e
all_known s l e reported d f phase is before after =
    let g : Difference → Bool = step_differs s l e in
    ap (λ b. one_before b reports_attempt (one_before f.caught catches_error (one_before f.noproc raises_noproc (one_before f.later reports_later (one_before f.calls adds_calls (one_before f.exceptions reports_exceptions [])))))) (after.attempt ∙ before.attempt)
    ∙ ap (λ b. one_before (g reports_attempt) reports_attempt (one_before b catches_error (one_before f.noproc raises_noproc (one_before f.later reports_later (one_before f.calls adds_calls (one_before f.exceptions reports_exceptions [])))))) (after.caught ∙ before.caught)
    ∙ ap (λ b. one_before (g reports_attempt) reports_attempt (one_before (g catches_error) catches_error (one_before b raises_noproc (one_before f.later reports_later (one_before f.calls adds_calls (one_before f.exceptions reports_exceptions [])))))) (after.noproc ∙ before.noproc)
    ∙ ap (λ b. one_before (g reports_attempt) reports_attempt (one_before (g catches_error) catches_error (one_before (g raises_noproc) raises_noproc (one_before b reports_later (one_before f.calls adds_calls (one_before f.exceptions reports_exceptions [])))))) (after.later ∙ later-is s l e reported phase is)
    ∙ ap (λ b. one_before (g reports_attempt) reports_attempt (one_before (g catches_error) catches_error (one_before (g raises_noproc) raises_noproc (one_before (g reports_later) reports_later (one_before b adds_calls (one_before f.exceptions reports_exceptions [])))))) (after.calls ∙ before.calls)
    ∙ ap (λ b. one_before (g reports_attempt) reports_attempt (one_before (g catches_error) catches_error (one_before (g raises_noproc) raises_noproc (one_before (g reports_later) reports_later (one_before (g adds_calls) adds_calls (one_before b reports_exceptions [])))))) (after.exceptions ∙ before.exceptions)

-- a mapped option
pub some-mapped : {X Y : Type 0} (f : X → Y) (o : Option X) → is_some (option_map f o) ≡ is_some o
some-mapped f None = refl
some-mapped f (Some x) = refl

-- nothing is otherwise at the end of an event by which no process inherits flags
no-difference : (s : Session) (e : Event) → both_of e ≡ None → event_difference s e ≡ None
no-difference s (spawned child parent f args) h = absurd (cc h)
no-difference s (sent p t to alive) h = refl
no-difference s (received p sender t) h = refl
no-difference s (called p c) h = refl
no-difference s (returned p f t depth) h = refl
no-difference s (raised p f c t depth) h = refl
no-difference s (spawning p child f args) h = refl
no-difference s (exited p r) h = refl
no-difference s (linked p q) h = refl
no-difference s (unlinked p q) h = refl
no-difference s (getting_linked p q) h = refl
no-difference s (getting_unlinked p q) h = refl

pub no_difference_at_end : (n : Name) (s : Session) (e : Event) (text : List ℕ) → both_of e ≡ None → text ≡ text ++ lines_text n (difference_lines s e)
unfolding lines_text
no_difference_at_end n s e text h = sym (ap (λ x. text ++ lines_text n (map differs (option_to_list x))) (no-difference s e h) ∙ append-nil text)
