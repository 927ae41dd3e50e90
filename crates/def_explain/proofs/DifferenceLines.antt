-- Among the lines of an event there is all that a node does otherwise.
use Rattle.std.proofs.Common.{◌≡◌, ℕ, suc, Bool, true, false, List, [], ◌∷◌, ◌++◌, map, Option, Some, None, option_to_list, refl, sym, ap, ◌∙◌, append-nil, if◌then◌else◌}
use Rattle.def_term.specs.Tree.{Tree, pid}
use Rattle.def_term.specs.Names.{word}
use Rattle.def_spec.specs.Flags.{send_flag, receive_flag, call_flag}
use Rattle.def_spec.specs.Expressions.{Dialect, Context, Effect}
use Rattle.def_spec.specs.Outcome.{Clause}
use Rattle.def_node.specs.Event.{Event, sent, received, called, returned, raised, spawning, spawned, exited, linked, unlinked, getting_linked, getting_unlinked}
use Rattle.def_session.specs.Settings.{Setting, off, plain, by, setting_for}
use Rattle.def_session.specs.State.{MarkKind, for_returns, for_exceptions, Session, flags_at}
use Rattle.def_session.specs.Messages.{last_message}
use Rattle.def_session.specs.Session.{inherit, effects_of, evaluated_by, effects_of_outcome, context, reported_for}
use Rattle.def_session.specs.Laws.{needed_for}
use Rattle.def_explain.specs.Causes.{Cause, no_mark, marked_for_returns, no_flag, no_setting, of_named_calls, switched_off, no_clause, silenced, message_false, IsCause, is_silent_after, is_false_message, cause_by, cause_of}
use Rattle.def_explain.specs.Verdicts.{Verdict, fails, fires, verdict_of, outcome_after, outcome_by_verdicts}
use Rattle.def_explain.specs.Differences.{Difference, clause_differences, differences_by, firing_differences, setting_differences, evaluation_differences, event_difference, step_differences}
use Rattle.def_explain.specs.Accounts.{Line, said, tells, differs, differences_in_lines, line_where, changed_text, flag_lines, inheritance_lines, lines_by, clause_lines, setting_lines, evaluation_lines, cause_lines, marked_lines, mark_lines, end_lines, message_lines, live_lines, difference_lines, differs_uncounted, node_lines, event_lines_in}
use Rattle.def_explain.specs.Limits.{limit_said}
use Rattle.def_explain.specs.Laws.{LinesTellTheDifference}
use Rattle.def_explain.proofs.ClauseVerdicts.{outcome_is_by_verdicts}
use Rattle.def_explain.proofs.CauseOfEvents.{cause_where_nothing_told, cause_is_computed}

-- they say nothing of a node
abbrev IsSilent : List Line → Type 0
IsSilent ls = differences_in_lines ls ≡ []

joined : (ls ms : List Line) → differences_in_lines (ls ++ ms) ≡ differences_in_lines ls ++ differences_in_lines ms
joined [] ms = refl
joined (said b ∷ ls) ms = joined ls ms
joined (tells t ∷ ls) ms = joined ls ms
joined (differs x ∷ ls) ms = ap (λ y. x ∷ y) (joined ls ms)
joined (differs_uncounted x ∷ ls) ms = joined ls ms

both : (ls ms : List Line) → IsSilent ls → IsSilent ms → IsSilent (ls ++ ms)
both ls ms h k = joined ls ms ∙ ap (λ x. x ++ differences_in_lines ms) h ∙ k

before : (ls ms : List Line) → IsSilent ms → differences_in_lines (ls ++ ms) ≡ differences_in_lines ls
before ls ms h = joined ls ms ∙ ap (λ x. differences_in_lines ls ++ x) h ∙ append-nil (differences_in_lines ls)

each : (xs : List Difference) → differences_in_lines (map differs xs) ≡ xs
each [] = refl
each (x ∷ xs) = ap (λ y. x ∷ y) (each xs)

-- ---- clauses

clauses : (n : ℕ) (d : Dialect) (ks : List Clause) (c : Context) → differences_in_lines (clause_lines n d ks c) ≡ firing_differences d ks c
clauses n d [] c = refl
clauses n d (k ∷ ks) c = go (verdict_of d k c) (clauses (suc n) d ks c)
  where
    go : (v : Verdict) → differences_in_lines (clause_lines (suc n) d ks c) ≡ firing_differences d ks c
        → differences_in_lines (lines_by n d k c v (clause_lines (suc n) d ks c)) ≡ differences_by d k c v (firing_differences d ks c)
    go (fails r) h = h
    go (fires b es) h = each (clause_differences d k b c es)

of-setting : (g : Setting) (c : Context) → differences_in_lines (setting_lines g c) ≡ setting_differences g c
of-setting off c = refl
of-setting plain c = refl
of-setting (by s) c = clauses 0 s.dialect s.clauses c

-- where no clause fires
none-fires : (d : Dialect) (ks : List Clause) (c : Context) → effects_of_outcome (outcome_by_verdicts d ks c) ≡ None → firing_differences d ks c ≡ []
none-fires d [] c h = refl
none-fires d (k ∷ ks) c h = go (verdict_of d k c) (none-fires d ks c) h
  where
    go : (v : Verdict) → (effects_of_outcome (outcome_by_verdicts d ks c) ≡ None → firing_differences d ks c ≡ [])
        → effects_of_outcome (outcome_after v (outcome_by_verdicts d ks c)) ≡ None → differences_by d k c v (firing_differences d ks c) ≡ []
    go (fails r) more e = more e
    go (fires b es) more e = absurd (cc e)

-- where a setting gives no effects
without-effects : (g : Setting) (c : Context) → evaluated_by g c ≡ None → setting_differences g c ≡ []
without-effects off c h = refl
without-effects plain c h = absurd (cc h)
without-effects (by s) c h = none-fires s.dialect s.clauses c (ap effects_of_outcome (outcome_is_by_verdicts s.dialect s.clauses c) ∙ h)

-- ---- the lines of a message

module _ (s : Session) (e : Event) where
  abbrev evaluated : List Difference
  evaluated = differences_in_lines (evaluation_lines s e)

  -- where the evaluation has nothing of a node, no cause has
  of-cause : evaluated ≡ [] → (x : Cause) → IsSilent (cause_lines s e x)
  of-cause h no_mark = refl
  of-cause h marked_for_returns = refl
  of-cause h (no_flag f) = refl
  of-cause h no_setting = refl
  of-cause h of_named_calls = refl
  of-cause h switched_off = h
  of-cause h (no_clause rs) = h
  of-cause h silenced = both (evaluation_lines s e) _ h refl
  of-cause h message_false = both (evaluation_lines s e) _ h refl

  of-message : evaluated ≡ [] → (c : Option Cause) (m : Option Tree) → IsSilent (message_lines s e c m)
  of-message h (Some c) m = of-cause h c
  of-message h None None = refl
  of-message h None (Some m) = both (evaluation_lines s e) _ h refl

  -- where there are effects, what is said of a node is that of the evaluation
  with-effects : (es : List Effect) (m : Option Tree) → cause_of s e ≡ cause_by s e (Some es) → (reported_for s e (effects_of s e)).1 ≡ m → differences_in_lines (message_lines s e (cause_of s e) m) ≡ evaluated
  with-effects es m is told = go (is_silent_after s e es) (is_false_message (last_message es)) (cause_of s e) refl is m told
    where
      go : (a b : Bool) (c : Option Cause) → cause_of s e ≡ c → c ≡ (if a then Some silenced else if b then Some message_false else None) → (m : Option Tree) → (reported_for s e (effects_of s e)).1 ≡ m
          → differences_in_lines (message_lines s e c m) ≡ evaluated
      go true b c f k m g = ap (λ x. differences_in_lines (message_lines s e x m)) k ∙ before (evaluation_lines s e) _ refl
      go false true c f k m g = ap (λ x. differences_in_lines (message_lines s e x m)) k ∙ before (evaluation_lines s e) _ refl
      go false false c f k None g =
          let cause : (x : Cause) × IsCause s e x = (cause_where_nothing_told s e).1 g in
          absurd (cc (sym ((cause_is_computed s e cause.0).1 cause.1) ∙ f ∙ k))
      go false false c f k (Some t) g = ap (λ x. differences_in_lines (message_lines s e x (Some t))) k ∙ before (evaluation_lines s e) _ refl

  abbrev message_differences : List Difference
  message_differences = differences_in_lines (message_lines s e (cause_of s e) (reported_for s e (effects_of s e)).1)

  -- by a setting, where the process has the flag
  by-setting : (g : Setting) (c : Context) (has : Bool) → evaluation_lines s e ≡ setting_lines g c
      → effects_of s e ≡ (if has then evaluated_by g c else None) → cause_of s e ≡ (if has then cause_by s e (effects_of s e) else Some (no_flag (needed_for e)))
      → message_differences ≡ (if has then setting_differences g c else [])
  by-setting g c false lines effects cause = ap (λ x. differences_in_lines (message_lines s e x (reported_for s e (effects_of s e)).1)) cause
  by-setting g c true lines effects cause = go (evaluated_by g c) refl
    where
      its : evaluated ≡ setting_differences g c
      its = ap differences_in_lines lines ∙ of-setting g c

      go : (o : Option (List Effect)) → evaluated_by g c ≡ o → message_differences ≡ setting_differences g c
      go None h =
          let none : setting_differences g c ≡ [] = without-effects g c h in
          of-message (its ∙ none) (cause_of s e) (reported_for s e (effects_of s e)).1 ∙ sym none
      go (Some es) h = with-effects es _ (cause ∙ ap (cause_by s e) (effects ∙ h)) refl ∙ its

of-messages : (s : Session) (e : Event) → message_differences s e ≡ evaluation_differences s e
of-messages s (sent p t to alive) = by-setting s (sent p t to alive) s.sending (context s p (pid to ∷ t ∷ []) None) (flags_at s p send_flag) refl refl refl
of-messages s (received p sender t) = by-setting s (received p sender t) s.receiving (context s p (word "nonode@nohost" ∷ pid sender ∷ t ∷ []) None) (flags_at s p receive_flag) refl refl refl
of-messages s (called p c) = by-setting s (called p c) (setting_for s.functions c) (context s p c.args c.caller) (flags_at s p call_flag) refl refl refl
of-messages s (returned p f t depth) = of-message s (returned p f t depth) refl _ _
of-messages s (raised p f c t depth) = of-message s (raised p f c t depth) refl _ _
of-messages s (spawning p child f args) = of-message s (spawning p child f args) refl _ _
of-messages s (spawned p parent f args) = of-message s (spawned p parent f args) refl _ _
of-messages s (exited p r) = of-message s (exited p r) refl _ _
of-messages s (linked p q) = of-message s (linked p q) refl _ _
of-messages s (unlinked p q) = of-message s (unlinked p q) refl _ _
of-messages s (getting_linked p q) = of-message s (getting_linked p q) refl _ _
of-messages s (getting_unlinked p q) = of-message s (getting_unlinked p q) refl _ _

-- ---- the lines without differences

of-process : (p : ℕ) (text : List ℕ) → IsSilent (line_where p text)
of-process p [] = refl
of-process p (b ∷ bs) = refl

of-flags : (p : ℕ) (old new : Session) → IsSilent (flag_lines p old new)
of-flags p old new = of-process p (changed_text p (flags_at old p) (flags_at new p))

of-inheritance : (s : Session) (e : Event) → IsSilent (inheritance_lines s e)
of-inheritance s (spawned child parent f args) =
    let t : Session = inherit s (spawned child parent f args) in
    both (flag_lines parent s t) (flag_lines child s t) (of-flags parent s t) (of-flags child s t)
of-inheritance s (getting_linked p linker) =
    let t : Session = inherit s (getting_linked p linker) in
    both (flag_lines linker s t) (flag_lines p s t) (of-flags linker s t) (of-flags p s t)
of-inheritance s (sent p t to alive) = refl
of-inheritance s (received p sender t) = refl
of-inheritance s (called p c) = refl
of-inheritance s (returned p f t depth) = refl
of-inheritance s (raised p f c t depth) = refl
of-inheritance s (spawning p child f args) = refl
of-inheritance s (exited p r) = refl
of-inheritance s (linked p q) = refl
of-inheritance s (unlinked p q) = refl
of-inheritance s (getting_unlinked p q) = refl

said-if : (b : Bool) (text : List ℕ) → IsSilent (if b then said text ∷ [] else [])
said-if true text = refl
said-if false text = refl

of-mark : (o : Option MarkKind) → IsSilent (marked_lines o)
of-mark None = refl
of-mark (Some for_returns) = refl
of-mark (Some for_exceptions) = refl

of-marks : (s : Session) (e : Event) → IsSilent (mark_lines s e)
of-marks s (called p c) = of-mark _
of-marks s (returned p f t depth) = said-if _ _
of-marks s (raised p f c t depth) = said-if _ _
of-marks s (sent p t to alive) = refl
of-marks s (received p sender t) = refl
of-marks s (spawning p child f args) = refl
of-marks s (spawned p parent f args) = refl
of-marks s (exited p r) = refl
of-marks s (linked p q) = refl
of-marks s (unlinked p q) = refl
of-marks s (getting_linked p q) = refl
of-marks s (getting_unlinked p q) = refl

of-end : (s : Session) (e : Event) → IsSilent (end_lines s e)
of-end s (exited p r) = of-process p _
of-end s (sent p t to alive) = refl
of-end s (received p sender t) = refl
of-end s (called p c) = refl
of-end s (returned p f t depth) = refl
of-end s (raised p f c t depth) = refl
of-end s (spawning p child f args) = refl
of-end s (spawned p parent f args) = refl
of-end s (linked p q) = refl
of-end s (unlinked p q) = refl
of-end s (getting_linked p q) = refl
of-end s (getting_unlinked p q) = refl

of-live : (s : Session) (e : Event) → differences_in_lines (live_lines s e) ≡ evaluation_differences s e
of-live s e =
    before (message_lines s e (cause_of s e) (reported_for s e (effects_of s e)).1) (mark_lines s e ++ end_lines s e) (both (mark_lines s e) (end_lines s e) (of-marks s e) (of-end s e))
    ∙ of-messages s e

-- inheritance leaves what is evaluated as it is
inherited : (s : Session) (e : Event) → evaluation_differences (inherit s e) e ≡ evaluation_differences s e
inherited s (sent p t to alive) = refl
inherited s (received p sender t) = refl
inherited s (called p c) = refl
inherited s (returned p f t depth) = refl
inherited s (raised p f c t depth) = refl
inherited s (spawning p child f args) = refl
inherited s (spawned p parent f args) = refl
inherited s (exited p r) = refl
inherited s (linked p q) = refl
inherited s (unlinked p q) = refl
inherited s (getting_linked p q) = refl
inherited s (getting_unlinked p q) = refl

-- what is otherwise by the step isn't among them
-- what isn't counted
pub uncounted_none : (xs : List Difference) → differences_in_lines (map differs_uncounted xs) ≡ []
uncounted_none [] = refl
uncounted_none (x ∷ xs) = uncounted_none xs

steps-none : (ts : List (List ℕ)) (xs : List Difference) (ls : List Line) → differences_in_lines ((map said ts ++ map differs_uncounted xs) ++ ls) ≡ differences_in_lines ls
steps-none [] [] ls = refl
steps-none [] (x ∷ xs) ls = steps-none [] xs ls
steps-none (t ∷ ts) xs ls = steps-none ts xs ls

pub lines_tell_the_difference : LinesTellTheDifference
lines_tell_the_difference s l e phase =
    let ls : List Line = live_lines (inherit s e) e in
    ap (λ x. differences_in_lines (event_lines_in x s l e)) phase
    ∙ joined (inheritance_lines s e ++ ls) (node_lines s l e)
    ∙ ap (λ x. differences_in_lines (inheritance_lines s e ++ ls) ++ x) (steps-none (limit_said s l e) (step_differences s l e) (difference_lines s e) ∙ each (option_to_list (event_difference s e)))
    ∙ ap (λ x. x ++ option_to_list (event_difference s e))
    (joined (inheritance_lines s e) ls ∙ ap (λ x. x ++ differences_in_lines ls) (of-inheritance s e) ∙ of-live (inherit s e) e ∙ inherited s e)
