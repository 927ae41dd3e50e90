-- Why settings and function commands tell nothing is what is computed of them.
use Rattle.std.proofs.Common.{◌≡◌, Bool, true, false, ◌||◌, inl, inr, List, [], ◌∷◌, Option, Some, None, refl, sym, ap, ◌∙◌, subst, if◌then◌else◌}
use Rattle.def_spec.specs.Expressions.{Dialect, Context}
use Rattle.def_spec.specs.Outcome.{Clause, Outcome, no_match, matched, IsOutcomeOf, outcome_in}
use Rattle.def_spec.proofs.Outcomes.{outcome_is_computed, outcome_is_unique}
use Rattle.def_node.specs.Event.{Call}
use Rattle.def_session.specs.Settings.{FunctionSetting, Setting, off, plain, by, has_among, setting_for}
use Rattle.def_session.specs.Session.{effects_of_outcome, evaluated_by}
use Rattle.def_explain.specs.Reasons.{Reason, IsReason, reason_of}
use Rattle.def_explain.specs.Causes.{Cause, no_mark, marked_for_returns, no_flag, no_setting, of_named_calls, switched_off, no_clause, silenced, message_false, EachReason, IsOfSetting, newest_of, IsOfCall, reasons_before, reasons_of, cause_of_setting, cause_of_call}
use Rattle.def_explain.proofs.ClauseReasons.{reason_where_not_fired, reason_is_computed}

-- ---- clauses

-- no effects where there is no match
no_effects : (o : Outcome) → effects_of_outcome o ≡ None → o ≡ no_match
no_effects no_match e = refl
no_effects (matched es) e = absurd (cc e)

each_there : (d : Dialect) (ks : List Clause) (c : Context) → IsOutcomeOf d ks c no_match → EachReason d ks c (reasons_of d ks c)
each_there d [] c h = tt
each_there d (k ∷ ks) c (inl h) = absurd (cc h.2)
each_there d (k ∷ ks) c (inr h) =
    let r : (x : Reason) × IsReason d k c x = (reason_where_not_fired d k c).1 h.0 in
    let e : reason_of d k c ≡ Some r.0 = (reason_is_computed d k c r.0).1 r.1 in
    subst (λ o. EachReason d (k ∷ ks) c (reasons_before o (reasons_of d ks c))) (sym e) (r.1, each_there d ks c h.1)

each_none : (d : Dialect) (ks : List Clause) (c : Context) (rs : List Reason) → EachReason d ks c rs → IsOutcomeOf d ks c no_match
each_none d [] c [] h = refl
each_none d [] c (r ∷ rs) h = absurd h
each_none d (k ∷ ks) c [] h = absurd h
each_none d (k ∷ ks) c (r ∷ rs) h = inr ((reason_where_not_fired d k c).0 (r, h.0), each_none d ks c rs h.1)

each_is : (d : Dialect) (ks : List Clause) (c : Context) (rs : List Reason) → EachReason d ks c rs → rs ≡ reasons_of d ks c
each_is d [] c [] h = refl
each_is d [] c (r ∷ rs) h = absurd h
each_is d (k ∷ ks) c [] h = absurd h
each_is d (k ∷ ks) c (r ∷ rs) h =
    ap (λ x. r ∷ x) (each_is d ks c rs h.1) ∙ ap (λ o. reasons_before o (reasons_of d ks c)) (sym ((reason_is_computed d k c r).1 h.0))

-- ---- settings

pub setting_sound : (g : Setting) (c : Context) → evaluated_by g c ≡ None → IsOfSetting g c (cause_of_setting g c)
setting_sound off c e = tt
setting_sound plain c e = absurd (cc e)
setting_sound (by s) c e = each_there s.dialect s.clauses c (subst (IsOutcomeOf s.dialect s.clauses c) (no_effects (outcome_in s.dialect s.clauses c) e) (outcome_is_computed s c))

pub setting_complete : (g : Setting) (c : Context) (x : Cause) → IsOfSetting g c x → (evaluated_by g c ≡ None) × (x ≡ cause_of_setting g c)
setting_complete off c switched_off h = (refl, refl)
setting_complete (by s) c (no_clause rs) h = (
  sym (ap effects_of_outcome (outcome_is_unique s c no_match (each_none s.dialect s.clauses c rs h))),
  ap no_clause (each_is s.dialect s.clauses c rs h),
)
setting_complete g c x h = absurd h

-- ---- calls

-- the setting that the newest command gives a call
abbrev pub setting_by : Option FunctionSetting → Call → Setting
setting_by None c = off
setting_by (Some k) c = if k.local || c.named then k.setting else off

setting_after : (k : FunctionSetting) (rest : Setting) (o : Option FunctionSetting) (c : Call) (q : Bool) → rest ≡ setting_by o c → (if q then (if k.local || c.named then k.setting else off) else rest) ≡ setting_by (if q then Some k else o) c
setting_after k rest o c true e = refl
setting_after k rest o c false e = e

pub setting_is : (ks : List FunctionSetting) (c : Call) → setting_for ks c ≡ setting_by (newest_of ks c) c
setting_is [] c = refl
setting_is (k ∷ ks) c = setting_after k (setting_for ks c) (newest_of ks c) c (has_among k c.mfa c.exported) (setting_is ks c)

pub call_sound : (o : Option FunctionSetting) (call : Call) (c : Context) → evaluated_by (setting_by o call) c ≡ None → IsOfCall o call c (cause_of_call o call c)
call_sound None call c e = tt
call_sound (Some k) call c e = go (k.local || call.named) refl e
  where
    kept : (x : Cause) → (k.local || call.named) ≡ true → IsOfSetting k.setting c x → IsOfCall (Some k) call c x
    kept switched_off f h = (f, h)
    kept (no_clause rs) f h = (f, h)
    kept no_mark f h = (f, h)
    kept marked_for_returns f h = (f, h)
    kept (no_flag g) f h = (f, h)
    kept no_setting f h = (f, h)
    kept silenced f h = (f, h)
    kept message_false f h = (f, h)
    kept of_named_calls f h = absurd (none_such k.setting h)
      where
        none_such : (g : Setting) → IsOfSetting g c of_named_calls → ⊥
        none_such off h = h
        none_such plain h = h
        none_such (by s) h = h

    go : (q : Bool) → (k.local || call.named) ≡ q → evaluated_by (if q then k.setting else off) c ≡ None → IsOfCall (Some k) call c (if q then cause_of_setting k.setting c else of_named_calls)
    go true f h = kept (cause_of_setting k.setting c) f (setting_sound k.setting c h)
    go false f h = f

by_setting : (k : FunctionSetting) (call : Call) (c : Context) (x : Cause) → ((k.local || call.named) ≡ true) × IsOfSetting k.setting c x → (evaluated_by (setting_by (Some k) call) c ≡ None) × (x ≡ cause_of_call (Some k) call c)
by_setting k call c x h =
    let r : (evaluated_by k.setting c ≡ None) × (x ≡ cause_of_setting k.setting c) = setting_complete k.setting c x h.1 in (
      ap (λ q. evaluated_by (if q then k.setting else off) c) h.0 ∙ r.0,
      r.1 ∙ sym (ap (λ q. if q then cause_of_setting k.setting c else of_named_calls) h.0),
    )

pub call_complete : (o : Option FunctionSetting) (call : Call) (c : Context) (x : Cause) → IsOfCall o call c x → (evaluated_by (setting_by o call) c ≡ None) × (x ≡ cause_of_call o call c)
call_complete None call c no_setting h = (refl, refl)
call_complete None call c no_mark h = absurd h
call_complete None call c marked_for_returns h = absurd h
call_complete None call c (no_flag f) h = absurd h
call_complete None call c of_named_calls h = absurd h
call_complete None call c switched_off h = absurd h
call_complete None call c (no_clause rs) h = absurd h
call_complete None call c silenced h = absurd h
call_complete None call c message_false h = absurd h
call_complete (Some k) call c of_named_calls h =
    (ap (λ q. evaluated_by (if q then k.setting else off) c) h, sym (ap (λ q. if q then cause_of_setting k.setting c else of_named_calls) h))
call_complete (Some k) call c no_mark h = by_setting k call c no_mark h
call_complete (Some k) call c marked_for_returns h = by_setting k call c marked_for_returns h
call_complete (Some k) call c (no_flag f) h = by_setting k call c (no_flag f) h
call_complete (Some k) call c no_setting h = by_setting k call c no_setting h
call_complete (Some k) call c switched_off h = by_setting k call c switched_off h
call_complete (Some k) call c (no_clause rs) h = by_setting k call c (no_clause rs) h
call_complete (Some k) call c silenced h = by_setting k call c silenced h
call_complete (Some k) call c message_false h = by_setting k call c message_false h
