-- The messages among the lines of an event are the session's message of it.
use Rattle.std.proofs.Common.{◌≡◌, ℕ, suc, Bool, true, false, List, [], ◌∷◌, ◌++◌, map, Option, Some, None, option_to_list, refl, sym, ap, ◌∙◌, append-nil, if◌then◌else◌}
use Rattle.def_term.specs.Tree.{Tree}
use Rattle.def_spec.specs.Expressions.{Dialect, Context}
use Rattle.def_spec.specs.Outcome.{Clause}
use Rattle.def_node.specs.Event.{Event, sent, received, called, returned, raised, spawning, spawned, exited, linked, unlinked, getting_linked, getting_unlinked}
use Rattle.def_outlook.specs.Outlook.{Outlook}
use Rattle.def_session.specs.Settings.{Setting, off, plain, by, setting_for}
use Rattle.def_session.specs.State.{Phase, absent, live, destroyed, MarkKind, for_returns, for_exceptions, Session, flags_at}
use Rattle.def_session.specs.Session.{inherit, effects_of, context, reported_for, reported_in}
use Rattle.def_explain.specs.Causes.{Cause, no_mark, marked_for_returns, no_flag, no_setting, of_named_calls, switched_off, no_clause, silenced, message_false, cause_of}
use Rattle.def_explain.specs.Verdicts.{Verdict, fails, fires, verdict_of}
use Rattle.def_explain.specs.Limits.{limit_said}
use Rattle.def_explain.specs.Accounts.{Line, said, tells, reported_in_lines, line_where, changed_text, flag_lines, inheritance_lines, lines_by, clause_lines, setting_lines, evaluation_lines, cause_lines, marked_lines, mark_lines, end_lines, message_lines, live_lines, difference_lines, node_lines, event_lines_in, differs, differs_uncounted}
use Rattle.def_explain.specs.Differences.{Difference, clause_differences, event_difference, step_differences}
use Rattle.def_explain.specs.Laws.{LinesTellTheMessage}
use Rattle.def_explain.proofs.CauseOfEvents.{cause_where_nothing_told, cause_is_computed}

-- none of them reports a message
abbrev Says : List Line → Type 0
Says ls = reported_in_lines ls ≡ []

pub joined-reported : (ls ms : List Line) → reported_in_lines (ls ++ ms) ≡ reported_in_lines ls ++ reported_in_lines ms
joined-reported [] ms = refl
joined-reported (said b ∷ ls) ms = joined-reported ls ms
joined-reported (differs x ∷ ls) ms = joined-reported ls ms
joined-reported (differs_uncounted x ∷ ls) ms = joined-reported ls ms
joined-reported (tells t ∷ ls) ms = ap (λ x. t ∷ x) (joined-reported ls ms)

both-say : (ls ms : List Line) → Says ls → Says ms → Says (ls ++ ms)
both-say ls ms h k = joined-reported ls ms ∙ ap (λ x. x ++ reported_in_lines ms) h ∙ k

where-says : (p : ℕ) (text : List ℕ) → Says (line_where p text)
where-says p [] = refl
where-says p (b ∷ bs) = refl

flags-say : (p : ℕ) (old new : Session) → Says (flag_lines p old new)
flags-say p old new = where-says p (changed_text p (flags_at old p) (flags_at new p))

inheritance-says : (s : Session) (e : Event) → Says (inheritance_lines s e)
inheritance-says s (spawned child parent f args) =
    let t : Session = inherit s (spawned child parent f args) in
    both-say (flag_lines parent s t) (flag_lines child s t) (flags-say parent s t) (flags-say child s t)
inheritance-says s (getting_linked p linker) =
    let t : Session = inherit s (getting_linked p linker) in
    both-say (flag_lines linker s t) (flag_lines p s t) (flags-say linker s t) (flags-say p s t)
inheritance-says s (sent p t to alive) = refl
inheritance-says s (received p sender t) = refl
inheritance-says s (called p c) = refl
inheritance-says s (returned p f t depth) = refl
inheritance-says s (raised p f c t depth) = refl
inheritance-says s (spawning p child f args) = refl
inheritance-says s (exited p r) = refl
inheritance-says s (linked p q) = refl
inheritance-says s (unlinked p q) = refl
inheritance-says s (getting_unlinked p q) = refl

differences-say : (xs : List Difference) → Says (map differs xs)
differences-say [] = refl
differences-say (x ∷ xs) = differences-say xs

clauses-say : (n : ℕ) (d : Dialect) (ks : List Clause) (c : Context) → Says (clause_lines n d ks c)
clauses-say n d [] c = refl
clauses-say n d (k ∷ ks) c = go (verdict_of d k c) (clauses-say (suc n) d ks c)
  where
    go : (v : Verdict) → Says (clause_lines (suc n) d ks c) → Says (lines_by n d k c v (clause_lines (suc n) d ks c))
    go (fails r) h = h
    go (fires b es) h = differences-say (clause_differences d k b c es)

setting-says : (g : Setting) (c : Context) → Says (setting_lines g c)
setting-says off c = refl
setting-says plain c = refl
setting-says (by s) c = clauses-say 0 s.dialect s.clauses c

evaluation-says : (s : Session) (e : Event) → Says (evaluation_lines s e)
evaluation-says s (sent p t to alive) = setting-says s.sending _
evaluation-says s (received p sender t) = setting-says s.receiving _
evaluation-says s (called p c) = setting-says (setting_for s.functions c) (context s p c.args c.caller)
evaluation-says s (returned p f t depth) = refl
evaluation-says s (raised p f c t depth) = refl
evaluation-says s (spawning p child f args) = refl
evaluation-says s (spawned p parent f args) = refl
evaluation-says s (exited p r) = refl
evaluation-says s (linked p q) = refl
evaluation-says s (unlinked p q) = refl
evaluation-says s (getting_linked p q) = refl
evaluation-says s (getting_unlinked p q) = refl

cause-says : (s : Session) (e : Event) (c : Cause) → Says (cause_lines s e c)
cause-says s e no_mark = refl
cause-says s e marked_for_returns = refl
cause-says s e (no_flag f) = refl
cause-says s e no_setting = refl
cause-says s e of_named_calls = refl
cause-says s e switched_off = evaluation-says s e
cause-says s e (no_clause rs) = evaluation-says s e
cause-says s e silenced = both-say (evaluation_lines s e) _ (evaluation-says s e) refl
cause-says s e message_false = both-say (evaluation_lines s e) _ (evaluation-says s e) refl

said-if : (b : Bool) (text : List ℕ) → Says (if b then said text ∷ [] else [])
said-if true text = refl
said-if false text = refl

marked-says : (o : Option MarkKind) → Says (marked_lines o)
marked-says None = refl
marked-says (Some for_returns) = refl
marked-says (Some for_exceptions) = refl

marks-say : (s : Session) (e : Event) → Says (mark_lines s e)
marks-say s (called p c) = marked-says _
marks-say s (returned p f t depth) = said-if _ _
marks-say s (raised p f c t depth) = said-if _ _
marks-say s (sent p t to alive) = refl
marks-say s (received p sender t) = refl
marks-say s (spawning p child f args) = refl
marks-say s (spawned p parent f args) = refl
marks-say s (exited p r) = refl
marks-say s (linked p q) = refl
marks-say s (unlinked p q) = refl
marks-say s (getting_linked p q) = refl
marks-say s (getting_unlinked p q) = refl

end-says : (s : Session) (e : Event) → Says (end_lines s e)
end-says s (exited p r) = where-says p _
end-says s (sent p t to alive) = refl
end-says s (received p sender t) = refl
end-says s (called p c) = refl
end-says s (returned p f t depth) = refl
end-says s (raised p f c t depth) = refl
end-says s (spawning p child f args) = refl
end-says s (spawned p parent f args) = refl
end-says s (linked p q) = refl
end-says s (unlinked p q) = refl
end-says s (getting_linked p q) = refl
end-says s (getting_unlinked p q) = refl

-- why nothing is reported, or the message
message-reported : (s : Session) (e : Event) (c : Option Cause) (m : Option Tree) → cause_of s e ≡ c → (reported_for s e (effects_of s e)).1 ≡ m → reported_in_lines (message_lines s e c m) ≡ option_to_list m
message-reported s e (Some c) None f g = cause-says s e c
message-reported s e (Some c) (Some t) f g =
    let none : (reported_for s e (effects_of s e)).1 ≡ None = (cause_where_nothing_told s e).0 (c, (cause_is_computed s e c).0 f) in
    absurd (cc (sym none ∙ g))
message-reported s e None None f g = refl
message-reported s e None (Some t) f g = joined-reported (evaluation_lines s e) _ ∙ ap (λ x. x ++ t ∷ []) (evaluation-says s e)

live-reported : (s : Session) (e : Event) → reported_in_lines (live_lines s e) ≡ option_to_list (reported_for s e (effects_of s e)).1
live-reported s e =
    let ls : List Line = message_lines s e (cause_of s e) (reported_for s e (effects_of s e)).1 in
    joined-reported ls (mark_lines s e ++ end_lines s e)
    ∙ ap (λ x. reported_in_lines ls ++ x) (both-say (mark_lines s e) (end_lines s e) (marks-say s e) (end-says s e))
    ∙ append-nil (reported_in_lines ls)
    ∙ message-reported s e (cause_of s e) (reported_for s e (effects_of s e)).1 refl refl

-- nor does what is otherwise by the step
-- what isn't counted
pub uncounted_say : (xs : List Difference) → reported_in_lines (map differs_uncounted xs) ≡ []
uncounted_say [] = refl
uncounted_say (x ∷ xs) = uncounted_say xs

-- nor what is said of a limit before it
steps-say : (ts : List (List ℕ)) (xs : List Difference) (ls : List Line) → reported_in_lines ((map said ts ++ map differs_uncounted xs) ++ ls) ≡ reported_in_lines ls
steps-say [] [] ls = refl
steps-say [] (x ∷ xs) ls = steps-say [] xs ls
steps-say (t ∷ ts) xs ls = steps-say ts xs ls

in-phase : (p : Phase) (s : Session) (l : Outlook) (e : Event) → reported_in_lines (event_lines_in p s l e) ≡ option_to_list (reported_in p s e).1
in-phase absent s l e = refl
in-phase destroyed s l e = refl
in-phase live s l e =
    let ls : List Line = live_lines (inherit s e) e in
    joined-reported (inheritance_lines s e ++ ls) (node_lines s l e)
    ∙ ap (λ x. reported_in_lines (inheritance_lines s e ++ ls) ++ x) (steps-say (limit_said s l e) (step_differences s l e) (difference_lines s e) ∙ differences-say (option_to_list (event_difference s e)))
    ∙ append-nil (reported_in_lines (inheritance_lines s e ++ ls))
    ∙ joined-reported (inheritance_lines s e) ls
    ∙ ap (λ x. x ++ reported_in_lines ls) (inheritance-says s e)
    ∙ live-reported (inherit s e) e

pub lines_tell_the_message : LinesTellTheMessage
lines_tell_the_message s l e = in-phase s.phase s l e
