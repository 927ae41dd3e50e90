-- What is said of a limit is said exactly where a step goes past one.
use Rattle.std.proofs.Common.{◌≡◌, ◌∙◌, ℕ, Bool, true, false, List, [], ◌∷◌, Option, Some, None, refl, sym, ap, if◌then◌else◌}
use Rattle.def_term.specs.Names.{word}
use Rattle.def_spec.specs.Flags.{procs_flag}
use Rattle.def_node.specs.Event.{sent, received, called, returned, raised, spawning, spawned, exited, linked, unlinked, getting_linked, getting_unlinked}
use Rattle.def_outlook.specs.Outlook.{RuntimeError, calls_nothing, builds_past_limit, calls_past_limit, spawns_past_limit, sends_to_no_pid, links_to_no_pid, unlinks_from_no_pid, error_reason}
use Rattle.def_session.specs.State.{flags_at}
use Rattle.def_explain.specs.Limits.{PassesLimit, limit_text, said_of_error}
use Rattle.def_explain.specs.Laws.{LimitIsSaid, OnlyLimitsAreSaid}

said_of : (x : RuntimeError) → error_reason x ≡ word "system_limit" → said_of_error (Some x) ≡ limit_text x ∷ []
said_of calls_nothing e = absurd (cc e)
said_of builds_past_limit e = refl
said_of calls_past_limit e = refl
said_of spawns_past_limit e = refl
said_of sends_to_no_pid e = absurd (cc e)
said_of links_to_no_pid e = absurd (cc e)
said_of unlinks_from_no_pid e = absurd (cc e)

pub limit_is_said : LimitIsSaid
limit_is_said s l (exited p r) x (flag, error, reason) =
    ap (λ b. if b then said_of_error l.error else []) flag ∙ ap said_of_error error ∙ said_of x reason
limit_is_said s l (sent p u to alive) x h = absurd h
limit_is_said s l (received p sender u) x h = absurd h
limit_is_said s l (called p c) x h = absurd h
limit_is_said s l (returned p f u depth) x h = absurd h
limit_is_said s l (raised p f c u depth) x h = absurd h
limit_is_said s l (spawning p child f args) x h = absurd h
limit_is_said s l (spawned p parent f args) x h = absurd h
limit_is_said s l (linked p q) x h = absurd h
limit_is_said s l (unlinked p q) x h = absurd h
limit_is_said s l (getting_linked p q) x h = absurd h
limit_is_said s l (getting_unlinked p q) x h = absurd h

-- the text is that of an error by which a limit is passed
of-error : (o : Option RuntimeError) (t : List ℕ) (rest : List (List ℕ)) → said_of_error o ≡ t ∷ rest
    → (x : RuntimeError) × (o ≡ Some x) × (error_reason x ≡ word "system_limit") × (t ≡ limit_text x)
of-error None t rest e = absurd (cc e)
of-error (Some calls_nothing) t rest e = absurd (cc e)
of-error (Some builds_past_limit) t rest e = (builds_past_limit, refl, refl, cc e)
of-error (Some calls_past_limit) t rest e = (calls_past_limit, refl, refl, cc e)
of-error (Some spawns_past_limit) t rest e = (spawns_past_limit, refl, refl, cc e)
of-error (Some sends_to_no_pid) t rest e = absurd (cc e)
of-error (Some links_to_no_pid) t rest e = absurd (cc e)
of-error (Some unlinks_from_no_pid) t rest e = absurd (cc e)

pub only_limits_are_said : OnlyLimitsAreSaid
only_limits_are_said s l (exited p r) t rest e = go (flags_at s p procs_flag) refl
  where
    go : (b : Bool) → flags_at s p procs_flag ≡ b → (x : RuntimeError) × PassesLimit s l (exited p r) x × (t ≡ limit_text x)
    go true flag =
        let is : said_of_error l.error ≡ t ∷ rest = sym (ap (λ b. if b then said_of_error l.error else []) flag) ∙ e in
        let o = of-error l.error t rest is in (o.0, (flag, o.1, o.2), o.3)
    go false flag = absurd (let none : [] ≡ t ∷ rest = sym (ap (λ b. if b then said_of_error l.error else []) flag) ∙ e in cc)
only_limits_are_said s l (sent p u to alive) t rest e = absurd (cc e)
only_limits_are_said s l (received p sender u) t rest e = absurd (cc e)
only_limits_are_said s l (called p c) t rest e = absurd (cc e)
only_limits_are_said s l (returned p f u depth) t rest e = absurd (cc e)
only_limits_are_said s l (raised p f c u depth) t rest e = absurd (cc e)
only_limits_are_said s l (spawning p child f args) t rest e = absurd (cc e)
only_limits_are_said s l (spawned p parent f args) t rest e = absurd (cc e)
only_limits_are_said s l (linked p q) t rest e = absurd (cc e)
only_limits_are_said s l (unlinked p q) t rest e = absurd (cc e)
only_limits_are_said s l (getting_linked p q) t rest e = absurd (cc e)
only_limits_are_said s l (getting_unlinked p q) t rest e = absurd (cc e)
