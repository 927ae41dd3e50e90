-- Why a session reports nothing of an event is what is computed, and it is there exactly where nothing is reported.
use Rattle.std.proofs.Common.{◌≡◌, Bool, true, false, List, [], ◌∷◌, Option, Some, None, refl, sym, ap, ◌∙◌, subst, if◌then◌else◌}
use Rattle.std.specs.Bool.{⊤}
use Rattle.def_term.specs.Tree.{Tree, pid}
use Rattle.def_term.specs.Order.{same}
use Rattle.def_term.specs.Names.{word}
use Rattle.def_term.proofs.Same.{same-is, same-self}
use Rattle.def_spec.specs.Flags.{send_flag, receive_flag, call_flag, procs_flag, arity_flag}
use Rattle.def_spec.specs.Expressions.{Context, Effect}
use Rattle.def_node.specs.Event.{Event, Call, sent, received, called, returned, raised, spawning, spawned, exited, linked, unlinked, getting_linked, getting_unlinked}
use Rattle.def_session.specs.Settings.{FunctionSetting, Setting, off, by}
use Rattle.def_session.specs.State.{MarkKind, for_returns, for_exceptions, Session, flags_at, mark_of}
use Rattle.def_session.specs.Messages.{elements_of, process_of, last_message, message_by}
use Rattle.def_session.specs.Session.{effects_of, evaluated_by, context, where_set, is_marked, is_for_exceptions, where_marked, all_affected, message_after, reported_for}
use Rattle.def_session.specs.Laws.{needed_for}
use Rattle.def_explain.specs.Causes.{Cause, no_mark, marked_for_returns, no_flag, no_setting, of_named_calls, switched_off, no_clause, silenced, message_false, HasFlag, IsOfMarked, IsOfSetting, newest_of, IsOfCall, IsOfEvent, IsOfUnmarked, IsOfReturns, is_silent_after, IsCause, cause_of_event, is_false_message, cause_by, cause_where, cause_by_mark, cause_of}
use Rattle.def_explain.specs.Laws.{CauseWhereNothingTold, CauseIsOne, CauseIsComputed}
use Rattle.def_explain.proofs.CauseOfSettings.{setting_sound, setting_complete, setting_by, setting_is, call_sound, call_complete}

-- ---- an event whose process has the flag

-- what stands after a flag that is set
after_flag : (q : Bool) (r : Option (List Effect)) → q ≡ true → (if q then r else None) ≡ r
after_flag q r e = ap (λ x. if x then r else None) e

event_sound : (s : Session) (e : Event) → HasFlag s e → IsOfMarked s e → effects_of s e ≡ None → IsOfEvent s e (cause_of_event s e)
event_sound s (sent p t to alive) f m h = setting_sound s.sending (context s p (pid to ∷ t ∷ []) None) (sym (after_flag _ _ f) ∙ h)
event_sound s (received p sender t) f m h = setting_sound s.receiving (context s p (word "nonode@nohost" ∷ pid sender ∷ t ∷ []) None) (sym (after_flag _ _ f) ∙ h)
event_sound s (called p c) f m h =
    call_sound (newest_of s.functions c) c (context s p c.args c.caller)
    (sym (ap (λ g. evaluated_by g (context s p c.args c.caller)) (setting_is s.functions c)) ∙ sym (after_flag _ _ f) ∙ h)
event_sound s (returned p g t depth) f m h = absurd (cc (sym (after_flag _ (Some []) f) ∙ sym (ap (λ q. if q then where_set s p call_flag (Some []) else None) m) ∙ h))
event_sound s (raised p g c t depth) f m h = absurd (cc (sym (after_flag _ (Some []) f) ∙ sym (ap (λ o. where_marked s p (is_for_exceptions o)) m) ∙ h))
event_sound s (spawning p child g args) f m h = absurd (cc (sym (after_flag _ (Some []) f) ∙ h))
event_sound s (spawned p parent g args) f m h = absurd (cc (sym (after_flag _ (Some []) f) ∙ h))
event_sound s (exited p r) f m h = absurd (cc (sym (after_flag _ (Some []) f) ∙ h))
event_sound s (linked p q) f m h = absurd (cc (sym (after_flag _ (Some []) f) ∙ h))
event_sound s (unlinked p q) f m h = absurd (cc (sym (after_flag _ (Some []) f) ∙ h))
event_sound s (getting_linked p q) f m h = absurd (cc (sym (after_flag _ (Some []) f) ∙ h))
event_sound s (getting_unlinked p q) f m h = absurd (cc (sym (after_flag _ (Some []) f) ∙ h))

event_complete : (s : Session) (e : Event) (x : Cause) → HasFlag s e → IsOfEvent s e x → (effects_of s e ≡ None) × (x ≡ cause_of_event s e)
event_complete s (sent p t to alive) x f h =
    let r : (evaluated_by s.sending (context s p (pid to ∷ t ∷ []) None) ≡ None) × (x ≡ cause_of_event s (sent p t to alive)) = setting_complete s.sending (context s p (pid to ∷ t ∷ []) None) x h in
    (after_flag _ _ f ∙ r.0, r.1)
event_complete s (received p sender t) x f h =
    let r : (evaluated_by s.receiving (context s p (word "nonode@nohost" ∷ pid sender ∷ t ∷ []) None) ≡ None) × (x ≡ cause_of_event s (received p sender t)) = setting_complete s.receiving (context s p (word "nonode@nohost" ∷ pid sender ∷ t ∷ []) None) x h in
    (after_flag _ _ f ∙ r.0, r.1)
event_complete s (called p c) x f h =
    let r : (evaluated_by (setting_by (newest_of s.functions c) c) (context s p c.args c.caller) ≡ None) × (x ≡ cause_of_event s (called p c)) = call_complete (newest_of s.functions c) c (context s p c.args c.caller) x h in
    (after_flag _ _ f ∙ ap (λ g. evaluated_by g (context s p c.args c.caller)) (setting_is s.functions c) ∙ r.0, r.1)
event_complete s e x f h = absurd h

-- no other event is unevaluated where its process has the flag
unmarked_out : (s : Session) (e : Event) (x : Cause) → IsOfEvent s e x → IsOfMarked s e
unmarked_out s (returned p g t depth) x h = absurd h
unmarked_out s (raised p g c t depth) x h = absurd h
unmarked_out s e x h = tt

-- ---- which causes are of settings

abbrev IsOfOne : Cause → Type 0
IsOfOne no_setting = ⊤
IsOfOne of_named_calls = ⊤
IsOfOne switched_off = ⊤
IsOfOne (no_clause rs) = ⊤
IsOfOne x = ⊥

one_of_setting : (g : Setting) (c : Context) (x : Cause) → IsOfSetting g c x → IsOfOne x
one_of_setting off c switched_off h = tt
one_of_setting (by s) c (no_clause rs) h = tt
one_of_setting g c x h = absurd h

one_of_call : (o : Option FunctionSetting) (call : Call) (c : Context) (x : Cause) → IsOfCall o call c x → IsOfOne x
one_of_call None call c no_setting h = tt
one_of_call None call c no_mark h = absurd h
one_of_call None call c marked_for_returns h = absurd h
one_of_call None call c (no_flag f) h = absurd h
one_of_call None call c of_named_calls h = tt
one_of_call None call c switched_off h = tt
one_of_call None call c (no_clause rs) h = tt
one_of_call None call c silenced h = absurd h
one_of_call None call c message_false h = absurd h
one_of_call (Some k) call c of_named_calls h = tt
one_of_call (Some k) call c no_mark h = one_of_setting k.setting c no_mark h.1
one_of_call (Some k) call c marked_for_returns h = one_of_setting k.setting c marked_for_returns h.1
one_of_call (Some k) call c (no_flag f) h = one_of_setting k.setting c (no_flag f) h.1
one_of_call (Some k) call c no_setting h = tt
one_of_call (Some k) call c switched_off h = tt
one_of_call (Some k) call c (no_clause rs) h = tt
one_of_call (Some k) call c silenced h = one_of_setting k.setting c silenced h.1
one_of_call (Some k) call c message_false h = one_of_setting k.setting c message_false h.1

one_of_event : (s : Session) (e : Event) (x : Cause) → IsOfEvent s e x → IsOfOne x
one_of_event s (sent p t to alive) x h = one_of_setting s.sending (context s p (pid to ∷ t ∷ []) None) x h
one_of_event s (received p sender t) x h = one_of_setting s.receiving (context s p (word "nonode@nohost" ∷ pid sender ∷ t ∷ []) None) x h
one_of_event s (called p c) x h = one_of_call (newest_of s.functions c) c (context s p c.args c.caller) x h
one_of_event s e x h = absurd h

of_event : (s : Session) (e : Event) (x : Cause) → HasFlag s e → IsOfEvent s e x → IsOfOne x → IsCause s e x
of_event s e no_setting f h o = (f, h)
of_event s e of_named_calls f h o = (f, h)
of_event s e switched_off f h o = (f, h)
of_event s e (no_clause rs) f h o = (f, h)
of_event s e no_mark f h o = absurd o
of_event s e marked_for_returns f h o = absurd o
of_event s e (no_flag g) f h o = absurd o
of_event s e silenced f h o = absurd o
of_event s e message_false f h o = absurd o

-- ---- what is computed is the cause

the_same : (x y : Cause) → Some x ≡ Some y → x ≡ y
the_same x y e = cc e

is_the_false : (o : Option Tree) → is_false_message o ≡ true → o ≡ Some (word "false")
is_the_false None e = absurd (cc e)
is_the_false (Some t) e = ap Some (same-is t (word "false") e)

by_sound : (s : Session) (e : Event) (x : Cause) (o : Option (List Effect)) → HasFlag s e → IsOfMarked s e → effects_of s e ≡ o → cause_by s e o ≡ Some x → IsCause s e x
by_sound s e x None f m h k =
    let y : IsOfEvent s e (cause_of_event s e) = event_sound s e f m h in
    subst (IsCause s e) (the_same (cause_of_event s e) x k) (of_event s e (cause_of_event s e) f y (one_of_event s e (cause_of_event s e) y))
by_sound s e x (Some es) f m h k = go (is_silent_after s e es) refl (is_false_message (last_message es)) refl k
  where
    go : (q : Bool) → is_silent_after s e es ≡ q → (r : Bool) → is_false_message (last_message es) ≡ r → (if q then Some silenced else if r then Some message_false else None) ≡ Some x → IsCause s e x
    go true a r b l = subst (IsCause s e) (the_same silenced x l) (es, h, a)
    go false a true b l = subst (IsCause s e) (the_same message_false x l) (es, h, a, is_the_false (last_message es) b)
    go false a false b l = absurd (cc l)

where_sound : (s : Session) (e : Event) (x : Cause) → IsOfMarked s e → cause_where s e ≡ Some x → IsCause s e x
where_sound s e x m k = go (flags_at s (process_of e) (needed_for e)) refl k
  where
    go : (q : Bool) → flags_at s (process_of e) (needed_for e) ≡ q → (if q then cause_by s e (effects_of s e) else Some (no_flag (needed_for e))) ≡ Some x → IsCause s e x
    go true f l = by_sound s e x (effects_of s e) f m refl l
    go false f l = subst (IsCause s e) (the_same (no_flag (needed_for e)) x l) (refl, m, f)

cause_sound : (s : Session) (e : Event) (x : Cause) → cause_of s e ≡ Some x → IsCause s e x
cause_sound s (returned p g t depth) x k = go (is_marked s p depth) refl k
  where
    go : (q : Bool) → is_marked s p depth ≡ q → (if q then cause_where s (returned p g t depth) else Some no_mark) ≡ Some x → IsCause s (returned p g t depth) x
    go true m l = where_sound s (returned p g t depth) x m l
    go false m l = subst (IsCause s (returned p g t depth)) (the_same no_mark x l) m
cause_sound s (raised p g c t depth) x k = go (mark_of s p depth) refl k
  where
    go : (o : Option MarkKind) → mark_of s p depth ≡ o → cause_by_mark s (raised p g c t depth) o ≡ Some x → IsCause s (raised p g c t depth) x
    go None m l = subst (IsCause s (raised p g c t depth)) (the_same no_mark x l) m
    go (Some for_returns) m l = subst (IsCause s (raised p g c t depth)) (the_same marked_for_returns x l) m
    go (Some for_exceptions) m l = where_sound s (raised p g c t depth) x m l
cause_sound s (sent p t to alive) x k = where_sound s (sent p t to alive) x tt k
cause_sound s (received p sender t) x k = where_sound s (received p sender t) x tt k
cause_sound s (called p c) x k = where_sound s (called p c) x tt k
cause_sound s (spawning p child g args) x k = where_sound s (spawning p child g args) x tt k
cause_sound s (spawned p parent g args) x k = where_sound s (spawned p parent g args) x tt k
cause_sound s (exited p r) x k = where_sound s (exited p r) x tt k
cause_sound s (linked p q) x k = where_sound s (linked p q) x tt k
cause_sound s (unlinked p q) x k = where_sound s (unlinked p q) x tt k
cause_sound s (getting_linked p q) x k = where_sound s (getting_linked p q) x tt k
cause_sound s (getting_unlinked p q) x k = where_sound s (getting_unlinked p q) x tt k

-- ---- and the cause is what is computed

-- a return of a marked frame, an exception that leaves one that is marked for exceptions, and any other event, go by the flag
by_flag : (s : Session) (e : Event) → IsOfMarked s e → cause_of s e ≡ cause_where s e
by_flag s (returned p g t depth) m = ap (λ q. if q then cause_where s (returned p g t depth) else Some no_mark) m
by_flag s (raised p g c t depth) m = ap (cause_by_mark s (raised p g c t depth)) m
by_flag s (sent p t to alive) m = refl
by_flag s (received p sender t) m = refl
by_flag s (called p c) m = refl
by_flag s (spawning p child g args) m = refl
by_flag s (spawned p parent g args) m = refl
by_flag s (exited p r) m = refl
by_flag s (linked p q) m = refl
by_flag s (unlinked p q) m = refl
by_flag s (getting_linked p q) m = refl
by_flag s (getting_unlinked p q) m = refl

-- the flag is set, and so the event is evaluated or not
where_flag : (s : Session) (e : Event) → IsOfMarked s e → HasFlag s e → cause_of s e ≡ cause_by s e (effects_of s e)
where_flag s e m f = by_flag s e m ∙ ap (λ q. if q then cause_by s e (effects_of s e) else Some (no_flag (needed_for e))) f

set_there : (q : Bool) (r : Option (List Effect)) (es : List Effect) → (if q then r else None) ≡ Some es → q ≡ true
set_there true r es h = refl
set_there false r es h = absurd (cc h)

-- what is evaluated has the flag, and is of no frame that isn't marked for it
evaluated_has : (s : Session) (e : Event) (es : List Effect) → effects_of s e ≡ Some es → HasFlag s e × IsOfMarked s e
evaluated_has s (returned p g t depth) es h = go (is_marked s p depth) refl h
  where
    go : (q : Bool) → is_marked s p depth ≡ q → (if q then where_set s p call_flag (Some []) else None) ≡ Some es → HasFlag s (returned p g t depth) × IsOfMarked s (returned p g t depth)
    go true m l = (set_there _ (Some []) es l, m)
    go false m l = absurd (cc l)
evaluated_has s (raised p g c t depth) es h = go (mark_of s p depth) refl h
  where
    go : (o : Option MarkKind) → mark_of s p depth ≡ o → where_marked s p (is_for_exceptions o) ≡ Some es → HasFlag s (raised p g c t depth) × IsOfMarked s (raised p g c t depth)
    go None m l = absurd (cc l)
    go (Some for_returns) m l = absurd (cc l)
    go (Some for_exceptions) m l = (set_there _ (Some []) es l, m)
evaluated_has s (sent p t to alive) es h = (set_there _ _ es h, tt)
evaluated_has s (received p sender t) es h = (set_there _ _ es h, tt)
evaluated_has s (called p c) es h = (set_there _ _ es h, tt)
evaluated_has s (spawning p child g args) es h = (set_there _ _ es h, tt)
evaluated_has s (spawned p parent g args) es h = (set_there _ _ es h, tt)
evaluated_has s (exited p r) es h = (set_there _ _ es h, tt)
evaluated_has s (linked p q) es h = (set_there _ _ es h, tt)
evaluated_has s (unlinked p q) es h = (set_there _ _ es h, tt)
evaluated_has s (getting_linked p q) es h = (set_there _ _ es h, tt)
evaluated_has s (getting_unlinked p q) es h = (set_there _ _ es h, tt)

by_effects : (s : Session) (e : Event) (es : List Effect) → effects_of s e ≡ Some es → cause_of s e ≡ cause_by s e (Some es)
by_effects s e es h =
    let r : HasFlag s e × IsOfMarked s e = evaluated_has s e es h in
    where_flag s e r.1 r.0 ∙ ap (cause_by s e) h

unmarked_complete : (s : Session) (e : Event) → IsOfUnmarked s e → cause_of s e ≡ Some no_mark
unmarked_complete s (returned p g t depth) h = ap (λ q. if q then cause_where s (returned p g t depth) else Some no_mark) h
unmarked_complete s (raised p g c t depth) h = ap (cause_by_mark s (raised p g c t depth)) h
unmarked_complete s e h = absurd h

returns_complete : (s : Session) (e : Event) → IsOfReturns s e → cause_of s e ≡ Some marked_for_returns
returns_complete s (raised p g c t depth) h = ap (cause_by_mark s (raised p g c t depth)) h
returns_complete s e h = absurd h

one_complete : (s : Session) (e : Event) (x : Cause) → HasFlag s e × IsOfEvent s e x → cause_of s e ≡ Some x
one_complete s e x h =
    let r : (effects_of s e ≡ None) × (x ≡ cause_of_event s e) = event_complete s e x h.0 h.1 in
    where_flag s e (unmarked_out s e x h.1) h.0 ∙ ap (cause_by s e) r.0 ∙ ap Some (sym r.1)

cause_complete : (s : Session) (e : Event) (x : Cause) → IsCause s e x → cause_of s e ≡ Some x
cause_complete s e no_mark h = unmarked_complete s e h
cause_complete s e marked_for_returns h = returns_complete s e h
cause_complete s e (no_flag f) h =
    by_flag s e h.1
    ∙ ap (λ q. if q then cause_by s e (effects_of s e) else Some (no_flag (needed_for e))) (subst (λ g. flags_at s (process_of e) g ≡ false) h.0 h.2)
    ∙ ap (λ g. Some (no_flag g)) (sym h.0)
cause_complete s e silenced h =
    by_effects s e h.0 h.1 ∙ ap (λ q. if q then Some silenced else if is_false_message (last_message h.0) then Some message_false else None) h.2
cause_complete s e message_false h =
    by_effects s e h.0 h.1
    ∙ ap (λ q. if q then Some silenced else if is_false_message (last_message h.0) then Some message_false else None) h.2
    ∙ ap (λ q. if q then Some message_false else None) (ap is_false_message h.3 ∙ same-self (word "false"))
cause_complete s e no_setting h = one_complete s e no_setting h
cause_complete s e of_named_calls h = one_complete s e of_named_calls h
cause_complete s e switched_off h = one_complete s e switched_off h
cause_complete s e (no_clause rs) h = one_complete s e (no_clause rs) h

pub cause_is_computed : CauseIsComputed
cause_is_computed s e x = (cause_sound s e x, cause_complete s e x)

pub cause_is_one : CauseIsOne
cause_is_one s e x y h k = the_same x y (sym (cause_complete s e x h) ∙ cause_complete s e y k)

-- ---- where nothing is reported

-- a message is decided but where it is `false`
decided_none : (o : Option Tree) (ts : List Tree) → is_false_message o ≡ true → message_by o ts ≡ None
decided_none None ts h = absurd (cc h)
decided_none (Some t) ts h = ap (λ u. message_by (Some u) ts) (same-is t (word "false") h)

neither : (q r : Bool) (t u : Tree) → r ≡ false → (if q then Some t else if r then None else Some u) ≡ None → ⊥
neither true r t u f l = absurd (cc l)
neither false true t u f l = absurd (cc f)
neither false false t u f l = absurd (cc l)

decided_some : (o : Option Tree) (ts : List Tree) → is_false_message o ≡ false → message_by o ts ≡ None → ⊥
decided_some None ts h k = absurd (cc k)
decided_some (Some t) ts h k = neither (same t (word "true")) (same t (word "false")) _ _ h k

nothing_told : (s : Session) (e : Event) (x : Cause) (o : Option (List Effect)) → effects_of s e ≡ o → cause_of s e ≡ Some x → (reported_for s e o).1 ≡ None
nothing_told s e x None h k = refl
nothing_told s e x (Some es) h k = go (is_silent_after s e es) refl (is_false_message (last_message es)) refl (sym (by_effects s e es h) ∙ k)
  where
    go : (q : Bool) → is_silent_after s e es ≡ q → (r : Bool) → is_false_message (last_message es) ≡ r → (if q then Some silenced else if r then Some message_false else None) ≡ Some x → message_after (all_affected (process_of e) s es) e es ≡ None
    go true a r b l = ap (λ q. if q then None else message_by (last_message es) (elements_of (flags_at (all_affected (process_of e) s es) (process_of e) arity_flag) e)) a
    go false a true b l =
        ap (λ q. if q then None else message_by (last_message es) (elements_of (flags_at (all_affected (process_of e) s es) (process_of e) arity_flag) e)) a
        ∙ decided_none (last_message es) (elements_of (flags_at (all_affected (process_of e) s es) (process_of e) arity_flag) e) b
    go false a false b l = absurd (cc l)

told_then : (s : Session) (e : Event) (o : Option (List Effect)) → effects_of s e ≡ o → HasFlag s e → IsOfMarked s e → (reported_for s e o).1 ≡ None → (x : Cause) × (cause_by s e o ≡ Some x)
told_then s e None h f m k = (cause_of_event s e, refl)
told_then s e (Some es) h f m k = go (is_silent_after s e es) refl (is_false_message (last_message es)) refl
  where
    go : (q : Bool) → is_silent_after s e es ≡ q → (r : Bool) → is_false_message (last_message es) ≡ r → (x : Cause) × ((if is_silent_after s e es then Some silenced else if is_false_message (last_message es) then Some message_false else None) ≡ Some x)
    go true a r b = (silenced, ap (λ q. if q then Some silenced else if is_false_message (last_message es) then Some message_false else None) a)
    go false a true b = (
      message_false,
      ap (λ q. if q then Some silenced else if is_false_message (last_message es) then Some message_false else None) a
          ∙ ap (λ q. if q then Some message_false else None) b,
    )
    go false a false b =
        absurd (decided_some (last_message es) (elements_of (flags_at (all_affected (process_of e) s es) (process_of e) arity_flag) e) b
        (sym (ap (λ q. if q then None else message_by (last_message es) (elements_of (flags_at (all_affected (process_of e) s es) (process_of e) arity_flag) e)) a) ∙ k))

cause_there : (s : Session) (e : Event) → (reported_for s e (effects_of s e)).1 ≡ None → (x : Cause) × (cause_of s e ≡ Some x)
cause_there s e k = marked_or e k
  where
    flagged : (e : Event) → (reported_for s e (effects_of s e)).1 ≡ None → IsOfMarked s e → (q : Bool) → flags_at s (process_of e) (needed_for e) ≡ q → (x : Cause) × (cause_of s e ≡ Some x)
    flagged e k m true f =
        let r : (x : Cause) × (cause_by s e (effects_of s e) ≡ Some x) = told_then s e (effects_of s e) refl f m k in
        (r.0, where_flag s e m f ∙ r.1)
    flagged e k m false f = (no_flag (needed_for e), by_flag s e m ∙ ap (λ q. if q then cause_by s e (effects_of s e) else Some (no_flag (needed_for e))) f)

    marked_or : (e : Event) → (reported_for s e (effects_of s e)).1 ≡ None → (x : Cause) × (cause_of s e ≡ Some x)
    marked_or (returned p g t depth) k = go (is_marked s p depth) refl
      where
        go : (q : Bool) → is_marked s p depth ≡ q → (x : Cause) × (cause_of s (returned p g t depth) ≡ Some x)
        go true m = flagged (returned p g t depth) k m (flags_at s p call_flag) refl
        go false m = (no_mark, ap (λ q. if q then cause_where s (returned p g t depth) else Some no_mark) m)
    marked_or (raised p g c t depth) k = go (mark_of s p depth) refl
      where
        go : (o : Option MarkKind) → mark_of s p depth ≡ o → (x : Cause) × (cause_of s (raised p g c t depth) ≡ Some x)
        go None m = (no_mark, ap (cause_by_mark s (raised p g c t depth)) m)
        go (Some for_returns) m = (marked_for_returns, ap (cause_by_mark s (raised p g c t depth)) m)
        go (Some for_exceptions) m = flagged (raised p g c t depth) k m (flags_at s p call_flag) refl
    marked_or (sent p t to alive) k = flagged (sent p t to alive) k tt (flags_at s p send_flag) refl
    marked_or (received p sender t) k = flagged (received p sender t) k tt (flags_at s p receive_flag) refl
    marked_or (called p c) k = flagged (called p c) k tt (flags_at s p call_flag) refl
    marked_or (spawning p child g args) k = flagged (spawning p child g args) k tt (flags_at s p procs_flag) refl
    marked_or (spawned p parent g args) k = flagged (spawned p parent g args) k tt (flags_at s p procs_flag) refl
    marked_or (exited p r) k = flagged (exited p r) k tt (flags_at s p procs_flag) refl
    marked_or (linked p q) k = flagged (linked p q) k tt (flags_at s p procs_flag) refl
    marked_or (unlinked p q) k = flagged (unlinked p q) k tt (flags_at s p procs_flag) refl
    marked_or (getting_linked p q) k = flagged (getting_linked p q) k tt (flags_at s p procs_flag) refl
    marked_or (getting_unlinked p q) k = flagged (getting_unlinked p q) k tt (flags_at s p procs_flag) refl

pub cause_where_nothing_told : CauseWhereNothingTold
cause_where_nothing_told s e = (
  λ h. nothing_told s e h.0 (effects_of s e) refl (cause_complete s e h.0 h.1),
  λ k.
      let r : (x : Cause) × (cause_of s e ≡ Some x) = cause_there s e k in
      (r.0, cause_sound s e r.0 r.1),
)
