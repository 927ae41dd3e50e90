-- Why a command is refused is what is computed, and has the reply.
use Rattle.std.proofs.Common.{◌≡◌, ◌≢◌, ◌↔◌, ◌⊎◌, inl, inr, ℕ, ◌==◌, ◌||◌, Bool, true, false, List, [], ◌∷◌, Option, Some, None, refl, sym, ap, ◌∙◌, subst, if◌then◌else◌, eqb-true, eq-eqb}
use Rattle.std.specs.Prelude.{Ok, Err}
use Rattle.std.specs.Option.{option_map, option_or}
use Rattle.def_term.specs.Tree.{Tree, int, atom, pid, tuple, list, Trees, none, more, elements}
use Rattle.def_term.specs.Order.{same}
use Rattle.def_term.specs.Names.{Name, word}
use Rattle.def_term.specs.Alive.{is_alive}
use Rattle.def_script.specs.Program.{Command, create, destroy, set_processes, set_function, set_send, set_receive}
use Rattle.def_script.specs.Exports.{Exports}
use Rattle.def_spec.specs.Flags.{Flag, Flags, flag_named, flags_named, flags_listed, and_flag}
use Rattle.def_spec.specs.Expressions.{Dialect, for_calls, for_sends, for_receives}
use Rattle.def_spec.specs.Outcome.{Spec}
use Rattle.def_spec.specs.Reading.{SpecFault, badarg, unsupported, Reads, then_read, spec_of}
use Rattle.def_session.specs.Settings.{FunctionPattern, Setting, off, plain, by, setting_of, trace_pattern_of, options_of}
use Rattle.def_session.specs.State.{Phase, absent, live, destroyed, Session, flags_at, with_flags}
use Rattle.def_session.specs.Commands.{number_term, fault_term, Procs, one_process, existing, new_processes, all_processes, procs_of, how_of, changed_flags, refuse, flags_set, flags_set_if, matching_count, function_set, function_set_if, send_set, receive_set, done_live, done_absent, done_destroyed, done_in, command_done}
use Rattle.def_trap.specs.Traps.{Trap, first_trap}
use Rattle.def_explain.specs.SpecReasons.{SpecReason, reason_fault, IsSpecReason, first_reason, spec_reason}
use Rattle.def_explain.specs.CommandReasons.{CommandReason, not_created, exists_already, is_destroyed, no_processes, not_alive, no_how, no_flag_list, no_flag, no_pattern, no_options, no_specification, no_match, no_exported_match, has_trap, reply_of, refuses, IsTaken, SetsProcesses, SetsBy, IsNoFlag, any_setting, MatchNone, SetsPattern, SetsSpec, matching_arities, IsLiveReason, IsCommandReason, reason_where_none, other_than_flag, flags_reason, life_reason, processes_reason, setting_reason, no_match_reason, match_reason, function_reason, clauses_read, spec_trap, function_trap, trap_reason, live_failure, live_reason, absent_reason, destroyed_reason, reason_in, command_reason}
use Rattle.def_explain.specs.NearestFunctions.{nearest_function}
use Rattle.def_explain.specs.ReasonLaws.{CommandReasonIsComputed, ReplyIsOfReason, FaultHasReason, ZeroHasReason, RefusalChangesNothing}
use Rattle.def_explain.proofs.SpecReasons.{is_so, none-some, map-none, map-some, first-sound, first-complete, spec_fault_has_reason, spec_reason_is_computed}

-- ---- parts

-- the first, or the second after nothing
or-some : {R : Type 0} (o p : Option R) (r : R) → option_or o p ≡ Some r → (o ≡ Some r) ⊎ ((o ≡ None) × (p ≡ Some r))
or-some None p r e = inr (refl, e)
or-some (Some x) p r e = inl e

or-none-both : {R : Type 0} (o p : Option R) → option_or o p ≡ None → (o ≡ None) × (p ≡ None)
or-none-both None p e = (refl, e)
or-none-both (Some x) p e = absurd (cc e)

or-first : {R : Type 0} (o p : Option R) (r : R) → o ≡ Some r → option_or o p ≡ Some r
or-first o p r e = ap (λ x. option_or x p) e

or-second : {R : Type 0} (o p : Option R) → o ≡ None → option_or o p ≡ p
or-second o p e = ap (λ x. option_or x p) e

where-some : {X R : Type 0} (q r : R) (o : Option X) → reason_where_none q o ≡ Some r → (o ≡ None) × (q ≡ r)
where-some q r None e = (refl, is_so q r e)
where-some q r (Some x) e = absurd (none-some r e)

where-none : {X R : Type 0} (q : R) (o : Option X) → reason_where_none q o ≡ None → IsTaken o
where-none q None e = absurd (cc e)
where-none q (Some x) e = (x, refl)

where-read : {X R : Type 0} (q : R) (o : Option X) → IsTaken o → reason_where_none q o ≡ None
where-read q o h = ap (reason_where_none q) h.1

-- ---- flags

flag-same : (t u : Tree) → (other_than_flag t ≡ Some u) ↔ IsNoFlag t u
flag-same t u = (
  λ e. let h : (flag_named t ≡ None) × (t ≡ u) = where-some t u (flag_named t) e in (sym h.1, h.0),
  λ h. ap (reason_where_none t) h.1 ∙ ap Some (sym h.0),
)

-- where each element is a flag, the list is read
and-none : (o : Option Flags) (f : Option Flag) → (f ≡ None) ⊎ (o ≡ None) → and_flag f o ≡ None
and-none o None h = refl
and-none o (Some f) (inl h) = absurd (cc h)
and-none o (Some f) (inr h) = ap (and_flag (Some f)) h

names-read : (ts : Trees) → first_reason other_than_flag (elements ts) ≡ None → IsTaken (flags_named ts)
names-read none e = (_, refl)
names-read (more t ts) e =
    let h : (other_than_flag t ≡ None) × (first_reason other_than_flag (elements ts) ≡ None) = or-none-both (other_than_flag t) (first_reason other_than_flag (elements ts)) e in
    let f : IsTaken (flag_named t) = where-none t (flag_named t) h.0 in
    let fs : IsTaken (flags_named ts) = names-read ts h.1 in
    (_, ap (λ o. and_flag o (flags_named ts)) f.1 ∙ ap (and_flag (Some f.0)) fs.1)

names-none : (ts : Trees) (u : Tree) → first_reason other_than_flag (elements ts) ≡ Some u → flags_named ts ≡ None
names-none none u e = absurd (none-some u e)
names-none (more t ts) u e = go (names-none ts u) (or-some (other_than_flag t) (first_reason other_than_flag (elements ts)) u e)
  where
    go : (first_reason other_than_flag (elements ts) ≡ Some u → flags_named ts ≡ None) → (other_than_flag t ≡ Some u) ⊎ ((other_than_flag t ≡ None) × (first_reason other_than_flag (elements ts) ≡ Some u)) → flags_named (more t ts) ≡ None
    go again (inl h) = ap (λ o. and_flag o (flags_named ts)) (where-some t u (flag_named t) h).0
    go again (inr h) = and-none (flags_named ts) (flag_named t) (inr (again h.1))

flags-read : (t : Tree) → flags_reason t ≡ None → IsTaken (flags_listed t)
flags-read (int z) e = absurd (cc e)
flags-read (atom s) e = absurd (cc e)
flags-read (pid n) e = absurd (cc e)
flags-read (tuple ts) e = absurd (cc e)
flags-read (list ts) e = names-read ts (map-none no_flag (first_reason other_than_flag (elements ts)) e)

flags-none : (t : Tree) (r : CommandReason) → flags_reason t ≡ Some r → flags_listed t ≡ None
flags-none (int z) r e = refl
flags-none (atom s) r e = refl
flags-none (pid n) r e = refl
flags-none (tuple ts) r e = refl
flags-none (list ts) r e =
    let x : (u : Tree) × (first_reason other_than_flag (elements ts) ≡ Some u) × (no_flag u ≡ r) = map-some no_flag (first_reason other_than_flag (elements ts)) r e in
    names-none ts x.0 x.1

read-flags : (t : Tree) → IsTaken (flags_listed t) → flags_reason t ≡ None
read-flags t h = go (flags_reason t) refl
  where
    go : (o : Option CommandReason) → flags_reason t ≡ o → flags_reason t ≡ None
    go None e = e
    go (Some r) e = absurd (none-some h.0 (sym (flags-none t r e) ∙ h.1))

-- ---- settings

-- a term that isn't read is none of the three words
abbrev set_by : Dialect → Tree → Bool → Bool → Reads Setting
set_by d t is_plain is_off = if is_plain then Ok plain else if is_off then Ok off else then_read (spec_of d t) (λ s. Ok (by s))

abbrev reason_by : Dialect → Tree → Bool → Bool → Option CommandReason
reason_by d t is_plain is_off = if is_plain then None else if is_off then None else option_map no_specification (spec_reason d t)

setting-by : (d : Dialect) (t : Tree) → setting_of d t ≡ set_by d t (same t (word "true") || same t (list none)) (same t (word "false"))
setting-by d t = refl

reason-by : (d : Dialect) (t : Tree) → setting_reason d t ≡ reason_by d t (same t (word "true") || same t (list none)) (same t (word "false"))
reason-by d t = refl

fault-by : (r : Reads Spec) (e : SpecFault) → r ≡ Err e → then_read r (λ s. Ok (by s)) ≡ Err e
fault-by r e h = ap (λ x. then_read x (λ s. Ok (by s))) h

spec-fault-of : (d : Dialect) (t : Tree) (q : SpecReason) → spec_reason d t ≡ Some q → spec_of d t ≡ Err (reason_fault q)
spec-fault-of d t q e = (spec_fault_has_reason d t (reason_fault q)).1 (ap (option_map reason_fault) e)

by-sound : (d : Dialect) (t : Tree) (a b : Bool) (r : CommandReason) → reason_by d t a b ≡ Some r → (q : SpecReason) × (no_specification q ≡ r) × (set_by d t a b ≡ Err (reason_fault q)) × IsSpecReason d t q
by-sound d t true b r e = absurd (none-some r e)
by-sound d t false true r e = absurd (none-some r e)
by-sound d t false false r e =
    let x : (q : SpecReason) × (spec_reason d t ≡ Some q) × (no_specification q ≡ r) = map-some no_specification (spec_reason d t) r e in
    (x.0, x.2, fault-by (spec_of d t) (reason_fault x.0) (spec-fault-of d t x.0 x.1), (spec_reason_is_computed d t x.0).0 x.1)

setting-sound : (d : Dialect) (t : Tree) (r : CommandReason) → setting_reason d t ≡ Some r → (q : SpecReason) × (no_specification q ≡ r) × (setting_of d t ≡ Err (reason_fault q)) × IsSpecReason d t q
setting-sound d t r e = by-sound d t (same t (word "true") || same t (list none)) (same t (word "false")) r e

by-complete : (d : Dialect) (t : Tree) (a b : Bool) (q : SpecReason) → set_by d t a b ≡ Err (reason_fault q) → IsSpecReason d t q → reason_by d t a b ≡ Some (no_specification q)
by-complete d t true b q e h = absurd (cc e)
by-complete d t false true q e h = absurd (cc e)
by-complete d t false false q e h = ap (option_map no_specification) ((spec_reason_is_computed d t q).1 h)

setting-complete : (d : Dialect) (t : Tree) (q : SpecReason) → setting_of d t ≡ Err (reason_fault q) → IsSpecReason d t q → setting_reason d t ≡ Some (no_specification q)
setting-complete d t q e h = by-complete d t (same t (word "true") || same t (list none)) (same t (word "false")) q e h

-- where there is no reason, there is a setting, and where there is one, no reason
read-by : (r : Reads Spec) → ((e : SpecFault) → r ≢ Err e) → (k : Setting) × (then_read r (λ s. Ok (by s)) ≡ Ok k)
read-by (Ok s) h = (by s, refl)
read-by (Err e) h = absurd (h e refl)

by-none : (d : Dialect) (t : Tree) (a b : Bool) → reason_by d t a b ≡ None → (k : Setting) × (set_by d t a b ≡ Ok k)
by-none d t true b e = (plain, refl)
by-none d t false true e = (off, refl)
by-none d t false false e =
    read-by (spec_of d t) (λ f h. none-some f (sym (ap (option_map reason_fault) (map-none no_specification (spec_reason d t) e)) ∙ (spec_fault_has_reason d t f).0 h))

setting-none : (d : Dialect) (t : Tree) → setting_reason d t ≡ None → (k : Setting) × (setting_of d t ≡ Ok k)
setting-none d t e = by-none d t (same t (word "true") || same t (list none)) (same t (word "false")) e

none-setting : (d : Dialect) (t : Tree) (k : Setting) → setting_of d t ≡ Ok k → setting_reason d t ≡ None
none-setting d t k h = go (setting_reason d t) refl
  where
    go : (o : Option CommandReason) → setting_reason d t ≡ o → setting_reason d t ≡ None
    go None e = e
    go (Some r) e = absurd (not-both k _ (sym h ∙ (setting-sound d t r e).2))
      where
        not-both : (x : Setting) (f : SpecFault) → Ok x ≡ Err f → ⊥
        not-both x f g = cc g

-- ---- the reasons of one argument, and those behind it

abbrev of_procs : Tree → Option CommandReason
of_procs t = reason_where_none (no_processes t) (procs_of t)

abbrev of_how : Tree → Option CommandReason
of_how t = reason_where_none (no_how t) (how_of t)

abbrev of_pattern : Tree → Option CommandReason
of_pattern t = reason_where_none (no_pattern t) (trace_pattern_of t)

abbrev of_options : Tree → Option CommandReason
of_options t = reason_where_none (no_options t) (options_of t)

abbrev behind_how : Session → (procs flags : Tree) → Option CommandReason
behind_how s procs flags = option_or (flags_reason flags) (life_reason s procs)

abbrev behind_procs : Session → (procs how flags : Tree) → Option CommandReason
behind_procs s procs how flags = option_or (of_how how) (behind_how s procs flags)

abbrev behind_options : Exports → (mfa spec options : Tree) → Option CommandReason
behind_options o mfa spec options = option_or (setting_reason for_calls spec) (match_reason o (trace_pattern_of mfa) (options_of options))

abbrev behind_pattern : Exports → (mfa spec options : Tree) → Option CommandReason
behind_pattern o mfa spec options = option_or (of_options options) (behind_options o mfa spec options)

-- ---- a command to a live session

module _ (o : Exports) (s : Session) where
  processes-sound : (name : Name) (procs how flags : Tree) (r : CommandReason) → processes_reason s procs how flags ≡ Some r → IsLiveReason o s (set_processes name procs how flags) r
  processes-sound name procs how flags r e = procs-first (or-some (of_procs procs) (behind_procs s procs how flags) r e)
    where
      Here : CommandReason → Type 0
      Here q = IsLiveReason o s (set_processes name procs how flags) q

      life : (t : Tree) → procs ≡ t → IsTaken (how_of how) → IsTaken (flags_listed flags) → life_reason s t ≡ Some r → Here r
      life (int z) p h f l = absurd (none-some r l)
      life (atom a) p h f l = absurd (none-some r l)
      life (pid n) p h f l = alive (is_alive s.alive n) refl l
        where
          alive : (b : Bool) → is_alive s.alive n ≡ b → (if b then None else Some (not_alive n)) ≡ Some r → Here r
          alive true a g = absurd (none-some r g)
          alive false a g = subst Here (is_so (not_alive n) r g) (how, flags, (name, ap (λ t. set_processes name t how flags) p), h, f, a)
      life (tuple ts) p h f l = absurd (none-some r l)
      life (list ts) p h f l = absurd (none-some r l)

      flags-at : (t : Tree) → flags ≡ t → IsTaken (procs_of procs) → IsTaken (how_of how) → flags_reason t ≡ Some r → Here r
      flags-at (list ts) f p h l =
          let x : (u : Tree) × (first_reason other_than_flag (elements ts) ≡ Some u) × (no_flag u ≡ r) = map-some no_flag (first_reason other_than_flag (elements ts)) r l in
          subst Here x.2 (procs, how, ts, (name, ap (set_processes name procs how) f), p, h, first-sound other_than_flag IsNoFlag flag-same (elements ts) x.0 x.1)
      flags-at (int z) f p h l = subst Here (is_so (no_flag_list (int z)) r l) (procs, how, (name, ap (set_processes name procs how) f), p, h, λ ts k. cc k)
      flags-at (atom a) f p h l = subst Here (is_so (no_flag_list (atom a)) r l) (procs, how, (name, ap (set_processes name procs how) f), p, h, λ ts k. cc k)
      flags-at (pid n) f p h l = subst Here (is_so (no_flag_list (pid n)) r l) (procs, how, (name, ap (set_processes name procs how) f), p, h, λ ts k. cc k)
      flags-at (tuple us) f p h l = subst Here (is_so (no_flag_list (tuple us)) r l) (procs, how, (name, ap (set_processes name procs how) f), p, h, λ ts k. cc k)

      flags-first : IsTaken (procs_of procs) → IsTaken (how_of how) → (flags_reason flags ≡ Some r) ⊎ ((flags_reason flags ≡ None) × (life_reason s procs ≡ Some r)) → Here r
      flags-first p h (inl f) = flags-at flags refl p h f
      flags-first p h (inr l) = life procs refl h (flags-read flags l.0) l.1

      how-first : IsTaken (procs_of procs) → (of_how how ≡ Some r) ⊎ ((of_how how ≡ None) × ((behind_how s procs flags) ≡ Some r)) → Here r
      how-first p (inl h) = let w : (how_of how ≡ None) × (no_how how ≡ r) = where-some (no_how how) r (how_of how) h in subst Here w.1 (procs, flags, (name, refl), p, w.0)
      how-first p (inr h) = flags-first p (where-none (no_how how) (how_of how) h.0) (or-some (flags_reason flags) (life_reason s procs) r h.1)

      procs-first : (of_procs procs ≡ Some r) ⊎ ((of_procs procs ≡ None) × ((behind_procs s procs how flags) ≡ Some r)) → Here r
      procs-first (inl p) = let w : (procs_of procs ≡ None) × (no_processes procs ≡ r) = where-some (no_processes procs) r (procs_of procs) p in subst Here w.1 (how, flags, (name, refl), w.0)
      procs-first (inr p) = how-first (where-none (no_processes procs) (procs_of procs) p.0) (or-some (of_how how) (behind_how s procs flags) r p.1)

  is_zero : (n : ℕ) → (n == 0) ≡ true → n ≡ 0
  is_zero n e = eqb-true n 0 e

  not_zero : (n : ℕ) → (n == 0) ≡ false → n ≢ 0
  not_zero n e h = absurd (cc (sym e ∙ eq-eqb n 0 h))

  function-sound : (name : Name) (mfa spec options : Tree) (r : CommandReason) → function_reason o mfa spec options ≡ Some r → IsLiveReason o s (set_function name mfa spec options) r
  function-sound name mfa spec options r e = pattern-first (or-some (of_pattern mfa) (behind_pattern o mfa spec options) r e)
    where
      Here : CommandReason → Type 0
      Here q = IsLiveReason o s (set_function name mfa spec options) q

      none_there : (covered : FunctionPattern) (local : Bool) (k : Setting) → trace_pattern_of mfa ≡ Some covered → options_of options ≡ Some local → setting_of for_calls spec ≡ Ok k → MatchNone o covered local → no_match_reason o covered ≡ r → Here r
      none_there covered local k p q g m e = all (matching_count o (any_setting covered true) == 0) refl local q m e
        where
          all : (b : Bool) → (matching_count o (any_setting covered true) == 0) ≡ b → (l : Bool) → options_of options ≡ Some l → MatchNone o covered l → (if b then no_match (nearest_function covered o.functions) else no_exported_match) ≡ r → Here r
          all true z l q m e = subst Here e (covered, l, (mfa, spec, options, k, (name, refl), p, q, g), m, is_zero (matching_count o (any_setting covered true)) z, refl)
          all false z true q m e = absurd (not_zero (matching_count o (any_setting covered true)) z m)
          all false z false q m e = subst Here e (covered, (mfa, spec, options, k, (name, refl), p, q, g), m, not_zero (matching_count o (any_setting covered true)) z)

      matches : (covered : FunctionPattern) (local : Bool) (k : Setting) → trace_pattern_of mfa ≡ Some covered → options_of options ≡ Some local → setting_of for_calls spec ≡ Ok k → match_reason o (Some covered) (Some local) ≡ Some r → Here r
      matches covered local k p q g e = count (matching_count o (any_setting covered local) == 0) refl e
        where
          count : (b : Bool) → (matching_count o (any_setting covered local) == 0) ≡ b → (if b then Some (no_match_reason o covered) else None) ≡ Some r → Here r
          count true z f = none_there covered local k p q g (is_zero (matching_count o (any_setting covered local)) z) (is_so (no_match_reason o covered) r f)
          count false z f = absurd (none-some r f)

      setting-first : IsTaken (trace_pattern_of mfa) → IsTaken (options_of options)
          → (setting_reason for_calls spec ≡ Some r) ⊎ ((setting_reason for_calls spec ≡ None) × (match_reason o (trace_pattern_of mfa) (options_of options) ≡ Some r)) → Here r
      setting-first p q (inl h) =
          let x : (y : SpecReason) × (no_specification y ≡ r) × (setting_of for_calls spec ≡ Err (reason_fault y)) × IsSpecReason for_calls spec y = setting-sound for_calls spec r h in
          subst Here x.1 (for_calls, spec, (mfa, options, (name, refl), p, q), x.2, x.3)
      setting-first p q (inr h) =
          let k : (x : Setting) × (setting_of for_calls spec ≡ Ok x) = setting-none for_calls spec h.0 in
          matches p.0 q.0 k.0 p.1 q.1 k.1 (ap (λ x. match_reason o x (Some q.0)) (sym p.1) ∙ ap (match_reason o (trace_pattern_of mfa)) (sym q.1) ∙ h.1)

      options-first : IsTaken (trace_pattern_of mfa)
          → (of_options options ≡ Some r) ⊎ ((of_options options ≡ None) × ((behind_options o mfa spec options) ≡ Some r)) → Here r
      options-first p (inl h) = let w : (options_of options ≡ None) × (no_options options ≡ r) = where-some (no_options options) r (options_of options) h in subst Here w.1 (mfa, spec, (name, refl), p, w.0)
      options-first p (inr h) =
          setting-first p (where-none (no_options options) (options_of options) h.0) (or-some (setting_reason for_calls spec) (match_reason o (trace_pattern_of mfa) (options_of options)) r h.1)

      pattern-first : (of_pattern mfa ≡ Some r) ⊎ ((of_pattern mfa ≡ None) × ((behind_pattern o mfa spec options) ≡ Some r)) → Here r
      pattern-first (inl h) = let w : (trace_pattern_of mfa ≡ None) × (no_pattern mfa ≡ r) = where-some (no_pattern mfa) r (trace_pattern_of mfa) h in subst Here w.1 (spec, options, (name, refl), w.0)
      pattern-first (inr h) = options-first (where-none (no_pattern mfa) (trace_pattern_of mfa) h.0) (or-some (of_options options) (behind_options o mfa spec options) r h.1)

  failure-sound : (c : Command) (r : CommandReason) → live_failure o s c ≡ Some r → IsLiveReason o s c r
  failure-sound (create name tracer) r e = subst (IsLiveReason o s (create name tracer)) (is_so exists_already r e) (name, tracer, refl)
  failure-sound (destroy name) r e = absurd (none-some r e)
  failure-sound (set_processes name procs how flags) r e = processes-sound name procs how flags r e
  failure-sound (set_function name mfa spec options) r e = function-sound name mfa spec options r e
  failure-sound (set_send name spec) r e =
      let x : (q : SpecReason) × (no_specification q ≡ r) × (setting_of for_sends spec ≡ Err (reason_fault q)) × IsSpecReason for_sends spec q = setting-sound for_sends spec r e in
      subst (IsLiveReason o s (set_send name spec)) x.1 (for_sends, spec, (name, refl), x.2, x.3)
  failure-sound (set_receive name spec) r e =
      let x : (q : SpecReason) × (no_specification q ≡ r) × (setting_of for_receives spec ≡ Err (reason_fault q)) × IsSpecReason for_receives spec q = setting-sound for_receives spec r e in
      subst (IsLiveReason o s (set_receive name spec)) x.1 (for_receives, spec, (name, refl), x.2, x.3)

  -- the arguments before are read
  past-procs : (procs how flags : Tree) → IsTaken (procs_of procs) → processes_reason s procs how flags ≡ behind_procs s procs how flags
  past-procs procs how flags p = or-second (of_procs procs) (behind_procs s procs how flags) (where-read (no_processes procs) (procs_of procs) p)

  past-how : (procs how flags : Tree) → IsTaken (procs_of procs) → IsTaken (how_of how) → processes_reason s procs how flags ≡ behind_how s procs flags
  past-how procs how flags p h = past-procs procs how flags p ∙ or-second (of_how how) (behind_how s procs flags) (where-read (no_how how) (how_of how) h)

  past-options : (mfa spec options : Tree) → IsTaken (trace_pattern_of mfa) → IsTaken (options_of options)
      → function_reason o mfa spec options ≡ behind_options o mfa spec options
  past-options mfa spec options p q =
      or-second (of_pattern mfa) (behind_pattern o mfa spec options) (where-read (no_pattern mfa) (trace_pattern_of mfa) p)
      ∙ or-second (of_options options) (behind_options o mfa spec options) (where-read (no_options options) (options_of options) q)

  not-list : (t : Tree) → ((ts : Trees) → t ≢ list ts) → flags_reason t ≡ Some (no_flag_list t)
  not-list (int z) h = refl
  not-list (atom a) h = refl
  not-list (pid n) h = refl
  not-list (tuple ts) h = refl
  not-list (list ts) h = absurd (h ts refl)

  by-specification : (c : Command) (d : Dialect) (t : Tree) (q : SpecReason) → SetsBy c d t → setting_reason d t ≡ Some (no_specification q) → live_failure o s c ≡ Some (no_specification q)
  by-specification c for_calls t q b e =
      ap (live_failure o s) b.2.1
      ∙ past-options b.0 t b.1 b.3 b.4
      ∙ or-first (setting_reason for_calls t) (match_reason o (trace_pattern_of b.0) (options_of b.1)) (no_specification q) e
  by-specification c for_sends t q b e = ap (live_failure o s) b.1 ∙ e
  by-specification c for_receives t q b e = ap (live_failure o s) b.1 ∙ e

  zero_is : (n : ℕ) → n ≡ 0 → (n == 0) ≡ true
  zero_is n e = eq-eqb n 0 e

  no_zero : (n : ℕ) → n ≢ 0 → (n == 0) ≡ false
  no_zero n h = go (n == 0) refl
    where
      go : (b : Bool) → (n == 0) ≡ b → (n == 0) ≡ false
      go true e = absurd (h (eqb-true n 0 e))
      go false e = e

  by-match : (c : Command) (covered : FunctionPattern) (local : Bool) → SetsPattern c covered local → MatchNone o covered local → live_failure o s c ≡ Some (no_match_reason o covered)
  by-match c covered local h m =
      ap (live_failure o s) h.4.1
      ∙ past-options h.0 h.1 h.2 (covered, h.5) (local, h.6)
      ∙ or-second (setting_reason for_calls h.1) (match_reason o (trace_pattern_of h.0) (options_of h.2)) (none-setting for_calls h.1 h.3 h.7)
      ∙ ap (λ x. match_reason o x (options_of h.2)) h.5
      ∙ ap (match_reason o (Some covered)) h.6
      ∙ ap (λ b. if b then Some (no_match_reason o covered) else None) (zero_is (matching_count o (any_setting covered local)) m)

  -- a reason other than a trap
  abbrev IsFailure : Command → CommandReason → Type 0
  IsFailure c (has_trap count before d t) = Unit {0}
  IsFailure c r = live_failure o s c ≡ Some r

  failure-complete : (c : Command) (r : CommandReason) → IsLiveReason o s c r → IsFailure c r
  failure-complete c not_created h = absurd h
  failure-complete c exists_already h = ap (live_failure o s) h.2
  failure-complete c is_destroyed h = absurd h
  failure-complete c (no_processes t) h = ap (live_failure o s) h.2.1 ∙ or-first (of_procs t) _ (no_processes t) (ap (reason_where_none (no_processes t)) h.3)
  failure-complete c (not_alive n) h =
      ap (live_failure o s) h.2.1
      ∙ past-how (pid n) h.0 h.1 (one_process n, refl) h.3
      ∙ or-second (flags_reason h.1) (life_reason s (pid n)) (read-flags h.1 h.4)
      ∙ ap (λ b. if b then None else Some (not_alive n)) h.5
  failure-complete c (no_how t) h =
      ap (live_failure o s) h.2.1 ∙ past-procs h.0 t h.1 h.3
      ∙ or-first (of_how t) (option_or (flags_reason h.1) (life_reason s h.0)) (no_how t) (ap (reason_where_none (no_how t)) h.4)
  failure-complete c (no_flag_list t) h = ap (live_failure o s) h.2.1 ∙ past-how h.0 h.1 t h.3 h.4 ∙ or-first (flags_reason t) (life_reason s h.0) (no_flag_list t) (not-list t h.5)
  failure-complete c (no_flag t) h =
      ap (live_failure o s) h.3.1 ∙ past-how h.0 h.1 (list h.2) h.4 h.5
      ∙ or-first (flags_reason (list h.2)) (life_reason s h.0) (no_flag t) (ap (option_map no_flag) (first-complete other_than_flag IsNoFlag flag-same (elements h.2) t h.6))
  failure-complete c (no_pattern t) h = ap (live_failure o s) h.2.1 ∙ or-first (of_pattern t) _ (no_pattern t) (ap (reason_where_none (no_pattern t)) h.3)
  failure-complete c (no_options t) h =
      ap (live_failure o s) h.2.1
      ∙ or-second (of_pattern h.0) _ (where-read (no_pattern h.0) (trace_pattern_of h.0) h.3)
      ∙ or-first (of_options t) _ (no_options t) (ap (reason_where_none (no_options t)) h.4)
  failure-complete c (no_specification r) h = by-specification c h.0 h.1 r h.2 (setting-complete h.0 h.1 r h.3 h.4)
  failure-complete c (no_match near) h =
      by-match c h.0 h.1 h.2 h.3
      ∙ ap (λ b. Some (if b then no_match (nearest_function h.0 o.functions) else no_exported_match)) (zero_is (matching_count o (any_setting h.0 true)) h.4)
      ∙ ap (λ f. Some (no_match f)) (sym h.5)
  failure-complete c no_exported_match h = by-match c h.0 false h.1 h.2 ∙ ap (λ b. Some (if b then no_match (nearest_function h.0 o.functions) else no_exported_match)) (no_zero (matching_count o (any_setting h.0 true)) h.3)
  failure-complete c (has_trap count before d t) h = tt

  -- ---- traps

  -- a specification that has a trap is read
  by-trap : (d : Dialect) (lengths : List ℕ) (q : Reads Setting) (x : ℕ × Trap) → first_trap d lengths (clauses_read q) ≡ Some x → (k : Spec) × (q ≡ Ok (by k)) × (first_trap d lengths k.clauses ≡ Some x)
  by-trap d lengths (Err e) x h = absurd (none-some x h)
  by-trap d lengths (Ok off) x h = absurd (none-some x h)
  by-trap d lengths (Ok plain) x h = absurd (none-some x h)
  by-trap d lengths (Ok (by k)) x h = (k, refl, h)

  spec-trap-sound : (count : ℕ) (d : Dialect) (lengths : List ℕ) (spec : Tree) (r : CommandReason) → spec_trap count d lengths spec ≡ Some r
      → (x : ℕ × Trap) × (k : Spec) × (has_trap count x.0 d x.1 ≡ r) × (setting_of d spec ≡ Ok (by k)) × (first_trap d lengths k.clauses ≡ Some x)
  spec-trap-sound count d lengths spec r e =
      let m : (x : ℕ × Trap) × (first_trap d lengths (clauses_read (setting_of d spec)) ≡ Some x) × (has_trap count x.0 d x.1 ≡ r) = map-some (λ (t : ℕ × Trap). has_trap count t.0 d t.1) (first_trap d lengths (clauses_read (setting_of d spec))) r e in
      let k : (y : Spec) × (setting_of d spec ≡ Ok (by y)) × (first_trap d lengths y.clauses ≡ Some m.0) = by-trap d lengths (setting_of d spec) m.0 m.1 in
      (m.0, k.0, m.2, k.1, k.2)

  other-than-zero : (n : ℕ) (r : CommandReason) → (if n == 0 then Some r else None) ≡ None → n ≢ 0
  other-than-zero n r e h = none-some r (sym e ∙ ap (λ b. if b then Some r else None) (eq-eqb n 0 h))

  function-trap-sound : (name : Name) (mfa spec options : Tree) (r : CommandReason) → function_reason o mfa spec options ≡ None
      → function_trap o spec (trace_pattern_of mfa) (options_of options) ≡ Some r → IsLiveReason o s (set_function name mfa spec options) r
  function-trap-sound name mfa spec options r e t =
      let a : (of_pattern mfa ≡ None) × (behind_pattern o mfa spec options ≡ None) = or-none-both (of_pattern mfa) _ e in
      let b : (of_options options ≡ None) × (behind_options o mfa spec options ≡ None) = or-none-both (of_options options) _ a.1 in
      let c : (setting_reason for_calls spec ≡ None) × (match_reason o (trace_pattern_of mfa) (options_of options) ≡ None) = or-none-both (setting_reason for_calls spec) _ b.1 in
      let p : IsTaken (trace_pattern_of mfa) = where-none (no_pattern mfa) (trace_pattern_of mfa) a.0 in
      let q : IsTaken (options_of options) = where-none (no_options options) (options_of options) b.0 in
      let m : match_reason o (Some p.0) (Some q.0) ≡ None = ap (λ x. match_reason o x (Some q.0)) (sym p.1) ∙ ap (match_reason o (trace_pattern_of mfa)) (sym q.1) ∙ c.1 in
      let f : function_trap o spec (Some p.0) (Some q.0) ≡ Some r = ap (λ x. function_trap o spec x (Some q.0)) (sym p.1) ∙ ap (function_trap o spec (trace_pattern_of mfa)) (sym q.1) ∙ t in
      let n = matching_count o (any_setting p.0 q.0) in
      let lengths = matching_arities o p.0 q.0 in
      let x = spec-trap-sound n for_calls lengths spec r f in
      subst (IsLiveReason o s (set_function name mfa spec options)) x.2
      (x.1, lengths, (p.0, q.0, mfa, spec, options, (name, refl), p.1, q.1, x.3, other-than-zero n (no_match_reason o p.0) m, refl, refl), x.4)

  trap-sound : (c : Command) (r : CommandReason) → live_failure o s c ≡ None → trap_reason o c ≡ Some r → IsLiveReason o s c r
  trap-sound (create name tracer) r n e = absurd (none-some r e)
  trap-sound (destroy name) r n e = absurd (none-some r e)
  trap-sound (set_processes name procs how flags) r n e = absurd (none-some r e)
  trap-sound (set_function name mfa spec options) r n e = function-trap-sound name mfa spec options r n e
  trap-sound (set_send name spec) r n e =
      let x = spec-trap-sound 1 for_sends (2 ∷ []) spec r e in
      subst (IsLiveReason o s (set_send name spec)) x.2 (x.1, 2 ∷ [], (name, spec, refl, x.3, refl, refl), x.4)
  trap-sound (set_receive name spec) r n e =
      let x = spec-trap-sound 1 for_receives (3 ∷ []) spec r e in
      subst (IsLiveReason o s (set_receive name spec)) x.2 (x.1, 3 ∷ [], (name, spec, refl, x.3, refl, refl), x.4)

  live-sound : (c : Command) (r : CommandReason) → live_reason o s c ≡ Some r → IsLiveReason o s c r
  live-sound c r e = go (or-some (live_failure o s c) (trap_reason o c) r e)
    where
      go : (live_failure o s c ≡ Some r) ⊎ ((live_failure o s c ≡ None) × (trap_reason o c ≡ Some r)) → IsLiveReason o s c r
      go (inl h) = failure-sound c r h
      go (inr h) = trap-sound c r h.0 h.1

  -- a command that is done and has a trap doesn't fail
  no-failure : (c : Command) (d : Dialect) (k : Spec) (count : ℕ) (lengths : List ℕ) → SetsSpec o c d k count lengths → live_failure o s c ≡ None
  no-failure c for_calls k count lengths h =
      ap (live_failure o s) h.5.1
      ∙ past-options h.2 h.3 h.4 (h.0, h.6) (h.1, h.7)
      ∙ or-second (setting_reason for_calls h.3) (match_reason o (trace_pattern_of h.2) (options_of h.4)) (none-setting for_calls h.3 (by k) h.8)
      ∙ ap (λ x. match_reason o x (options_of h.4)) h.6
      ∙ ap (match_reason o (Some h.0)) h.7
      ∙ ap (λ b. if b then Some (no_match_reason o h.0) else None) (no_zero (matching_count o (any_setting h.0 h.1)) h.9)
  no-failure c for_sends k count lengths h = ap (live_failure o s) h.2 ∙ none-setting for_sends h.1 (by k) h.3
  no-failure c for_receives k count lengths h = ap (live_failure o s) h.2 ∙ none-setting for_receives h.1 (by k) h.3

  spec-trap-there : (count : ℕ) (d : Dialect) (lengths : List ℕ) (spec : Tree) (k : Spec) (before : ℕ) (t : Trap) → setting_of d spec ≡ Ok (by k) → first_trap d lengths k.clauses ≡ Some (before, t)
      → spec_trap count d lengths spec ≡ Some (has_trap count before d t)
  spec-trap-there count d lengths spec k before t g f =
      ap (option_map (λ (x : ℕ × Trap). has_trap count x.0 d x.1)) (ap (λ q. first_trap d lengths (clauses_read q)) g ∙ f)

  trap-there : (c : Command) (count before : ℕ) (d : Dialect) (t : Trap) → IsLiveReason o s c (has_trap count before d t) → trap_reason o c ≡ Some (has_trap count before d t)
  trap-there c count before for_calls t h =
      let b = h.2 in
      ap (trap_reason o) b.5.1
      ∙ ap (λ x. function_trap o b.3 x (options_of b.4)) b.6
      ∙ ap (function_trap o b.3 (Some b.0)) b.7
      ∙ spec-trap-there (matching_count o (any_setting b.0 b.1)) for_calls (matching_arities o b.0 b.1) b.3 h.0 before t b.8 (ap (λ l. first_trap for_calls l h.0.clauses) (sym b.11) ∙ h.3)
      ∙ ap (λ n. Some (has_trap n before for_calls t)) (sym b.10)
  trap-there c count before for_sends t h =
      let b = h.2 in
      ap (trap_reason o) b.2
      ∙ spec-trap-there 1 for_sends (2 ∷ []) b.1 h.0 before t b.3 (ap (λ l. first_trap for_sends l h.0.clauses) (sym b.5) ∙ h.3)
      ∙ ap (λ n. Some (has_trap n before for_sends t)) (sym b.4)
  trap-there c count before for_receives t h =
      let b = h.2 in
      ap (trap_reason o) b.2
      ∙ spec-trap-there 1 for_receives (3 ∷ []) b.1 h.0 before t b.3 (ap (λ l. first_trap for_receives l h.0.clauses) (sym b.5) ∙ h.3)
      ∙ ap (λ n. Some (has_trap n before for_receives t)) (sym b.4)

  live-complete : (c : Command) (r : CommandReason) → IsLiveReason o s c r → live_reason o s c ≡ Some r
  live-complete c (has_trap count before d t) h = or-second (live_failure o s c) (trap_reason o c) (no-failure c d h.0 count h.1 h.2) ∙ trap-there c count before d t h
  live-complete c r h = or-first (live_failure o s c) (trap_reason o c) r (failure-complete c r h)

-- ---- any command

absent-sound : (o : Exports) (s : Session) (c : Command) (r : CommandReason) → s.phase ≡ absent → absent_reason c ≡ Some r → IsCommandReason o s c r
absent-sound o s (create name tracer) r p e = absurd (none-some r e)
absent-sound o s (destroy name) r p e = subst (IsCommandReason o s (destroy name)) (is_so not_created r e) (p, λ n t k. cc k)
absent-sound o s (set_processes name procs how flags) r p e = subst (IsCommandReason o s (set_processes name procs how flags)) (is_so not_created r e) (p, λ n t k. cc k)
absent-sound o s (set_function name mfa spec options) r p e = subst (IsCommandReason o s (set_function name mfa spec options)) (is_so not_created r e) (p, λ n t k. cc k)
absent-sound o s (set_send name spec) r p e = subst (IsCommandReason o s (set_send name spec)) (is_so not_created r e) (p, λ n t k. cc k)
absent-sound o s (set_receive name spec) r p e = subst (IsCommandReason o s (set_receive name spec)) (is_so not_created r e) (p, λ n t k. cc k)

absent-complete : (c : Command) → ((name tracer : Name) → c ≢ create name tracer) → absent_reason c ≡ Some not_created
absent-complete (create name tracer) h = absurd (h name tracer refl)
absent-complete (destroy name) h = refl
absent-complete (set_processes name procs how flags) h = refl
absent-complete (set_function name mfa spec options) h = refl
absent-complete (set_send name spec) h = refl
absent-complete (set_receive name spec) h = refl

destroyed-sound : (o : Exports) (s : Session) (c : Command) (r : CommandReason) → s.phase ≡ destroyed → destroyed_reason c ≡ Some r → IsCommandReason o s c r
destroyed-sound o s (create name tracer) r p e = subst (IsCommandReason o s (create name tracer)) (is_so is_destroyed r e) (p, λ n k. cc k)
destroyed-sound o s (destroy name) r p e = absurd (none-some r e)
destroyed-sound o s (set_processes name procs how flags) r p e = subst (IsCommandReason o s (set_processes name procs how flags)) (is_so is_destroyed r e) (p, λ n k. cc k)
destroyed-sound o s (set_function name mfa spec options) r p e = subst (IsCommandReason o s (set_function name mfa spec options)) (is_so is_destroyed r e) (p, λ n k. cc k)
destroyed-sound o s (set_send name spec) r p e = subst (IsCommandReason o s (set_send name spec)) (is_so is_destroyed r e) (p, λ n k. cc k)
destroyed-sound o s (set_receive name spec) r p e = subst (IsCommandReason o s (set_receive name spec)) (is_so is_destroyed r e) (p, λ n k. cc k)

destroyed-complete : (c : Command) → ((name : Name) → c ≢ destroy name) → destroyed_reason c ≡ Some is_destroyed
destroyed-complete (create name tracer) h = refl
destroyed-complete (destroy name) h = absurd (h name refl)
destroyed-complete (set_processes name procs how flags) h = refl
destroyed-complete (set_function name mfa spec options) h = refl
destroyed-complete (set_send name spec) h = refl
destroyed-complete (set_receive name spec) h = refl

of-live : (o : Exports) (s : Session) (c : Command) (r : CommandReason) → s.phase ≡ live → IsLiveReason o s c r → IsCommandReason o s c r
of-live o s c not_created p h = absurd h
of-live o s c is_destroyed p h = absurd h
of-live o s c r p h = (p, h)

command-sound : (o : Exports) (s : Session) (c : Command) (r : CommandReason) → command_reason o s c ≡ Some r → IsCommandReason o s c r
command-sound o s c r e = go s.phase refl e
  where
    go : (p : Phase) → s.phase ≡ p → reason_in p o s c ≡ Some r → IsCommandReason o s c r
    go absent p f = absent-sound o s c r p f
    go live p f = of-live o s c r p (live-sound o s c r f)
    go destroyed p f = destroyed-sound o s c r p f

command-complete : (o : Exports) (s : Session) (c : Command) (r : CommandReason) → IsCommandReason o s c r → command_reason o s c ≡ Some r
command-complete o s c not_created h = ap (λ p. reason_in p o s c) h.0 ∙ absent-complete c h.1
command-complete o s c is_destroyed h = ap (λ p. reason_in p o s c) h.0 ∙ destroyed-complete c h.1
command-complete o s c r h = ap (λ p. reason_in p o s c) h.0 ∙ live-complete o s c r h.1

-- the trap of a command is one whatever the session is
pub trap_is_of_command : (o : Exports) (s : Session) (c : Command) (count before : ℕ) (d : Dialect) (t : Trap) → command_reason o s c ≡ Some (has_trap count before d t)
    → trap_reason o c ≡ Some (has_trap count before d t)
trap_is_of_command o s c count before d t e = trap-there o s c count before d t (command-sound o s c (has_trap count before d t) e).1

pub command_reason_is_computed : CommandReasonIsComputed
command_reason_is_computed o s c r = (command-sound o s c r, command-complete o s c r)

-- ---- replies

no-list-flags : (t : Tree) → ((ts : Trees) → t ≢ list ts) → flags_listed t ≡ None
no-list-flags (int z) h = refl
no-list-flags (atom a) h = refl
no-list-flags (pid n) h = refl
no-list-flags (tuple ts) h = refl
no-list-flags (list ts) h = absurd (h ts refl)

module _ (o : Exports) (s : Session) where
  -- a refused command to a live session
  specification-done : (c : Command) (d : Dialect) (t : Tree) (e : SpecFault) → SetsBy c d t → setting_of d t ≡ Err e → done_live o s c ≡ (s, fault_term e)
  specification-done c for_calls t e b f =
      ap (done_live o s) b.2.1
      ∙ ap (λ p. function_set_if o s p (options_of b.1) t) b.3.1
      ∙ ap (λ q. function_set_if o s (Some b.3.0) q t) b.4.1
      ∙ ap (function_set o s b.3.0 b.4.0) f
  specification-done c for_sends t e b f = ap (done_live o s) b.1 ∙ ap (send_set s) f
  specification-done c for_receives t e b f = ap (done_live o s) b.1 ∙ ap (receive_set s) f

  -- with flags that aren't read
  no-flags-done : (c : Command) (procs how flags : Tree) → SetsProcesses c procs how flags → IsTaken (procs_of procs) → IsTaken (how_of how) → flags_listed flags ≡ None → done_live o s c ≡ refuse s
  no-flags-done c procs how flags b p h f =
      ap (done_live o s) b.1
      ∙ ap (λ x. flags_set_if s x (how_of how) (flags_listed flags)) p.1
      ∙ ap (λ x. flags_set_if s (Some p.0) x (flags_listed flags)) h.1
      ∙ ap (flags_set_if s (Some p.0) (Some h.0)) f

  live-refusal : (c : Command) (r : CommandReason) → IsLiveReason o s c r → refuses r ≡ true → done_live o s c ≡ (s, reply_of r)
  live-refusal c not_created h k = absurd h
  live-refusal c exists_already h k = ap (done_live o s) h.2
  live-refusal c is_destroyed h k = absurd h
  live-refusal c (no_processes t) h k = ap (done_live o s) h.2.1 ∙ ap (λ p. flags_set_if s p (how_of h.0) (flags_listed h.1)) h.3
  live-refusal c (not_alive n) h k =
      ap (done_live o s) h.2.1
      ∙ ap (λ x. flags_set_if s (Some (one_process n)) x (flags_listed h.1)) h.3.1
      ∙ ap (flags_set_if s (Some (one_process n)) (Some h.3.0)) h.4.1
      ∙ ap (λ b. if b then (with_flags s n (changed_flags h.3.0 h.4.0 (flags_at s n)), number_term 1) else refuse s) h.5
  live-refusal c (no_how t) h k =
      ap (done_live o s) h.2.1
      ∙ ap (λ x. flags_set_if s x (how_of t) (flags_listed h.1)) h.3.1
      ∙ ap (λ x. flags_set_if s (Some h.3.0) x (flags_listed h.1)) h.4
  live-refusal c (no_flag_list t) h k = no-flags-done c h.0 h.1 t h.2 h.3 h.4 (no-list-flags t h.5)
  live-refusal c (no_flag t) h k =
      no-flags-done c h.0 h.1 (list h.2) h.3 h.4 h.5 (names-none h.2 t (first-complete other_than_flag IsNoFlag flag-same (elements h.2) t h.6))
  live-refusal c (no_pattern t) h k = ap (done_live o s) h.2.1 ∙ ap (λ p. function_set_if o s p (options_of h.1) h.0) h.3
  live-refusal c (no_options t) h k =
      ap (done_live o s) h.2.1
      ∙ ap (λ p. function_set_if o s p (options_of t) h.1) h.3.1
      ∙ ap (λ q. function_set_if o s (Some h.3.0) q h.1) h.4
  live-refusal c (no_specification r) h k = specification-done c h.0 h.1 (reason_fault r) h.2 h.3
  live-refusal c (no_match near) h k = absurd (cc k)
  live-refusal c no_exported_match h k = absurd (cc k)
  live-refusal c (has_trap count before d t) h k = absurd (cc k)

  -- a function command that is done
  pattern-done : (c : Command) (covered : FunctionPattern) (local : Bool) → SetsPattern c covered local → (done_live o s c).1 ≡ number_term (matching_count o (any_setting covered local))
  pattern-done c covered local h = ap (λ x. x.1) (
      ap (done_live o s) h.4.1
      ∙ ap (λ p. function_set_if o s p (options_of h.2) h.1) h.5
      ∙ ap (λ q. function_set_if o s (Some covered) q h.1) h.6
      ∙ ap (function_set o s covered local) h.7)

  -- a command that is done and has a trap
  trap-done : (c : Command) (d : Dialect) (k : Spec) (count : ℕ) (lengths : List ℕ) → SetsSpec o c d k count lengths → (done_live o s c).1 ≡ number_term count
  trap-done c for_calls k count lengths h = pattern-done c h.0 h.1 (h.2, h.3, h.4, by k, h.5, h.6, h.7, h.8) ∙ ap number_term (sym h.10)
  trap-done c for_sends k count lengths h = ap (λ x. (done_live o s x).1) h.2 ∙ ap (λ r. (send_set s r).1) h.3 ∙ ap number_term (sym h.4)
  trap-done c for_receives k count lengths h = ap (λ x. (done_live o s x).1) h.2 ∙ ap (λ r. (receive_set s r).1) h.3 ∙ ap number_term (sym h.4)

  absent-refusal : (c : Command) → ((name tracer : Name) → c ≢ create name tracer) → done_absent s c ≡ refuse s
  absent-refusal (create name tracer) h = absurd (h name tracer refl)
  absent-refusal (destroy name) h = refl
  absent-refusal (set_processes name procs how flags) h = refl
  absent-refusal (set_function name mfa spec options) h = refl
  absent-refusal (set_send name spec) h = refl
  absent-refusal (set_receive name spec) h = refl

  destroyed-refusal : (c : Command) → ((name : Name) → c ≢ destroy name) → done_destroyed s c ≡ refuse s
  destroyed-refusal (create name tracer) h = refl
  destroyed-refusal (destroy name) h = absurd (h name refl)
  destroyed-refusal (set_processes name procs how flags) h = refl
  destroyed-refusal (set_function name mfa spec options) h = refl
  destroyed-refusal (set_send name spec) h = refl
  destroyed-refusal (set_receive name spec) h = refl

  -- a refused command
  refusal-is : (c : Command) (r : CommandReason) → IsCommandReason o s c r → refuses r ≡ true → command_done o s c ≡ (s, reply_of r)
  refusal-is c not_created h k = ap (λ p. done_in p o s c) h.0 ∙ absent-refusal c h.1
  refusal-is c is_destroyed h k = ap (λ p. done_in p o s c) h.0 ∙ destroyed-refusal c h.1
  refusal-is c r h k = ap (λ p. done_in p o s c) h.0 ∙ live-refusal c r h.1 k

  has-reply : (c : Command) (r : CommandReason) → IsCommandReason o s c r → (command_done o s c).1 ≡ reply_of r
  has-reply c (no_match near) h = ap (λ p. (done_in p o s c).1) h.0 ∙ pattern-done c h.1.0 h.1.1 h.1.2 ∙ ap number_term h.1.3
  has-reply c no_exported_match h = ap (λ p. (done_in p o s c).1) h.0 ∙ pattern-done c h.1.0 false h.1.1 ∙ ap number_term h.1.2
  has-reply c (has_trap count before d t) h = ap (λ p. (done_in p o s c).1) h.0 ∙ trap-done c d h.1.0 count h.1.1 h.1.2
  has-reply c r h = ap (λ x. x.1) (refusal-is c r h refl)

pub reply_is_of_reason : ReplyIsOfReason
reply_is_of_reason o s c r e = has-reply o s c r (command-sound o s c r e)

pub refusal_changes_nothing : RefusalChangesNothing
refusal_changes_nothing o s c r e k = ap (λ x. x.0) (refusal-is o s c r (command-sound o s c r e) k)

-- ---- replies of commands without a reason

number-no-fault : (n : ℕ) (e : SpecFault) → number_term n ≡ fault_term e → ⊥
number-no-fault n badarg h = cc h
number-no-fault n (unsupported s) h = cc h

other-word : (e : SpecFault) → word "true" ≡ fault_term e → ⊥
other-word badarg h = cc h
other-word (unsupported s) h = cc h

false-word : (e : SpecFault) → word "false" ≡ fault_term e → ⊥
false-word badarg h = cc h
false-word (unsupported s) h = cc h

session-no-fault : (name : Name) (e : SpecFault) → tuple (more (word "session") (more (atom name) none)) ≡ fault_term e → ⊥
session-no-fault name badarg h = cc h
session-no-fault name (unsupported s) h = cc h

-- a pid alone names one process
no-pid-word : (a b c : Bool) (n : ℕ) → (if a then Some existing else if b then Some new_processes else if c then Some all_processes else None) ≡ Some (one_process n) → ⊥
no-pid-word true b c n h = cc h
no-pid-word false true c n h = cc h
no-pid-word false false true n h = cc h
no-pid-word false false false n h = cc h

same-process : (m n : ℕ) → Some (one_process m) ≡ Some (one_process n) → m ≡ n
same-process m n h = cc h

life-of : (s : Session) (t : Tree) (n : ℕ) → procs_of t ≡ Some (one_process n) → life_reason s t ≡ None → is_alive s.alive n ≡ true
life-of s (pid m) n p e = go (is_alive s.alive m) refl e
  where
    go : (b : Bool) → is_alive s.alive m ≡ b → (if b then None else Some (not_alive m)) ≡ None → is_alive s.alive n ≡ true
    go true a f = ap (is_alive s.alive) (sym (same-process m n p)) ∙ a
    go false a f = absurd (cc f)
life-of s (int z) n p e = absurd (no-pid-word (same (int z) (word "existing")) (same (int z) (word "new")) (same (int z) (word "all")) n p)
life-of s (atom a) n p e = absurd (no-pid-word (same (atom a) (word "existing")) (same (atom a) (word "new")) (same (atom a) (word "all")) n p)
life-of s (tuple ts) n p e = absurd (no-pid-word (same (tuple ts) (word "existing")) (same (tuple ts) (word "new")) (same (tuple ts) (word "all")) n p)
life-of s (list ts) n p e = absurd (no-pid-word (same (list ts) (word "existing")) (same (list ts) (word "new")) (same (list ts) (word "all")) n p)

module _ (o : Exports) (s : Session) where
  -- flags that are set or cleared are answered with a number
  set-number : (p : Procs) (on : Bool) (f : Flags) → ((n : ℕ) → p ≡ one_process n → is_alive s.alive n ≡ true) → (n : ℕ) × ((flags_set s p on f).1 ≡ number_term n)
  set-number (one_process n) on f h = (1, ap (λ b. (if b then (with_flags s n (changed_flags on f (flags_at s n)), number_term 1) else refuse s).1) (h n refl))
  set-number existing on f h = (_, refl)
  set-number new_processes on f h = (_, refl)
  set-number all_processes on f h = (_, refl)

  processes-number : (procs how flags : Tree) → processes_reason s procs how flags ≡ None → (n : ℕ) × ((flags_set_if s (procs_of procs) (how_of how) (flags_listed flags)).1 ≡ number_term n)
  processes-number procs how flags e =
      let a : (of_procs procs ≡ None) × (behind_procs s procs how flags ≡ None) = or-none-both (of_procs procs) _ e in
      let b : (of_how how ≡ None) × (behind_how s procs flags ≡ None) = or-none-both (of_how how) _ a.1 in
      let c : (flags_reason flags ≡ None) × (life_reason s procs ≡ None) = or-none-both (flags_reason flags) _ b.1 in
      let p : IsTaken (procs_of procs) = where-none (no_processes procs) (procs_of procs) a.0 in
      let h : IsTaken (how_of how) = where-none (no_how how) (how_of how) b.0 in
      let f : IsTaken (flags_listed flags) = flags-read flags c.0 in
      let x : (n : ℕ) × ((flags_set s p.0 h.0 f.0).1 ≡ number_term n) = set-number p.0 h.0 f.0 (λ n q. life-of s procs n (p.1 ∙ ap Some q) c.1) in
      (x.0, ap (λ y. y.1) (ap (λ y. flags_set_if s y (how_of how) (flags_listed flags)) p.1 ∙ ap (λ y. flags_set_if s (Some p.0) y (flags_listed flags)) h.1 ∙ ap (flags_set_if s (Some p.0) (Some h.0)) f.1) ∙ x.1)

  not-none : (n : ℕ) (r : CommandReason) → (if n == 0 then Some r else None) ≡ None → n ≢ 0
  not-none n r e h = none-some r (sym e ∙ ap (λ b. if b then Some r else None) (eq-eqb n 0 h))

  -- an accepted function command with this number of functions, which isn't 0
  function-number : (mfa spec options : Tree) → function_reason o mfa spec options ≡ None → (n : ℕ) × ((function_set_if o s (trace_pattern_of mfa) (options_of options) spec).1 ≡ number_term n) × (n ≢ 0)
  function-number mfa spec options e =
      let a : (of_pattern mfa ≡ None) × (behind_pattern o mfa spec options ≡ None) = or-none-both (of_pattern mfa) _ e in
      let b : (of_options options ≡ None) × (behind_options o mfa spec options ≡ None) = or-none-both (of_options options) _ a.1 in
      let c : (setting_reason for_calls spec ≡ None) × (match_reason o (trace_pattern_of mfa) (options_of options) ≡ None) = or-none-both (setting_reason for_calls spec) _ b.1 in
      let p : IsTaken (trace_pattern_of mfa) = where-none (no_pattern mfa) (trace_pattern_of mfa) a.0 in
      let q : IsTaken (options_of options) = where-none (no_options options) (options_of options) b.0 in
      let k : (x : Setting) × (setting_of for_calls spec ≡ Ok x) = setting-none for_calls spec c.0 in
      let m : match_reason o (Some p.0) (Some q.0) ≡ None = ap (λ x. match_reason o x (Some q.0)) (sym p.1) ∙ ap (match_reason o (trace_pattern_of mfa)) (sym q.1) ∙ c.1 in (
        matching_count o (any_setting p.0 q.0),
        ap (λ y. y.1) (ap (λ y. function_set_if o s y (options_of options) spec) p.1 ∙ ap (λ y. function_set_if o s (Some p.0) y spec) q.1 ∙ ap (function_set o s p.0 q.0) k.1),
        not-none (matching_count o (any_setting p.0 q.0)) (no_match_reason o p.0) m,
      )

  -- no fault is replied where there is no reason
  failure-no-fault : (c : Command) (e : SpecFault) → live_failure o s c ≡ None → (done_live o s c).1 ≡ fault_term e → ⊥
  failure-no-fault (create name tracer) e n h = cc n
  failure-no-fault (destroy name) e n h = other-word e h
  failure-no-fault (set_processes name procs how flags) e n h =
      let x : (m : ℕ) × ((flags_set_if s (procs_of procs) (how_of how) (flags_listed flags)).1 ≡ number_term m) = processes-number procs how flags n in
      number-no-fault x.0 e (sym x.1 ∙ h)
  failure-no-fault (set_function name mfa spec options) e n h =
      let x : (m : ℕ) × ((function_set_if o s (trace_pattern_of mfa) (options_of options) spec).1 ≡ number_term m) × (m ≢ 0) = function-number mfa spec options n in
      number-no-fault x.0 e (sym x.1 ∙ h)
  failure-no-fault (set_send name spec) e n h =
      let k : (x : Setting) × (setting_of for_sends spec ≡ Ok x) = setting-none for_sends spec n in
      number-no-fault 1 e (ap (λ x. (send_set s x).1) (sym k.1) ∙ h)
  failure-no-fault (set_receive name spec) e n h =
      let k : (x : Setting) × (setting_of for_receives spec ≡ Ok x) = setting-none for_receives spec n in
      number-no-fault 1 e (ap (λ x. (receive_set s x).1) (sym k.1) ∙ h)

  live-no-fault : (c : Command) (e : SpecFault) → live_reason o s c ≡ None → (done_live o s c).1 ≡ fault_term e → ⊥
  live-no-fault c e n h = failure-no-fault c e (or-none-both (live_failure o s c) (trap_reason o c) n).0 h

  absent-no-fault : (c : Command) (e : SpecFault) → absent_reason c ≡ None → (done_absent s c).1 ≡ fault_term e → ⊥
  absent-no-fault (create name tracer) e n h = session-no-fault name e h
  absent-no-fault (destroy name) e n h = cc n
  absent-no-fault (set_processes name procs how flags) e n h = cc n
  absent-no-fault (set_function name mfa spec options) e n h = cc n
  absent-no-fault (set_send name spec) e n h = cc n
  absent-no-fault (set_receive name spec) e n h = cc n

  destroyed-no-fault : (c : Command) (e : SpecFault) → destroyed_reason c ≡ None → (done_destroyed s c).1 ≡ fault_term e → ⊥
  destroyed-no-fault (create name tracer) e n h = cc n
  destroyed-no-fault (destroy name) e n h = false-word e h
  destroyed-no-fault (set_processes name procs how flags) e n h = cc n
  destroyed-no-fault (set_function name mfa spec options) e n h = cc n
  destroyed-no-fault (set_send name spec) e n h = cc n
  destroyed-no-fault (set_receive name spec) e n h = cc n

  no-fault : (p : Phase) (c : Command) (e : SpecFault) → reason_in p o s c ≡ None → (done_in p o s c).1 ≡ fault_term e → ⊥
  no-fault absent c e n h = absent-no-fault c e n h
  no-fault live c e n h = live-no-fault c e n h
  no-fault destroyed c e n h = destroyed-no-fault c e n h

  same-number : (m n : ℕ) → number_term m ≡ number_term n → m ≡ n
  same-number m n h = cc h

  no-zero : (p : Phase) (name : Name) (mfa spec options : Tree) → reason_in p o s (set_function name mfa spec options) ≡ None → (done_in p o s (set_function name mfa spec options)).1 ≡ number_term 0 → ⊥
  no-zero absent name mfa spec options n h = cc n
  no-zero live name mfa spec options n h =
      let x : (m : ℕ) × ((function_set_if o s (trace_pattern_of mfa) (options_of options) spec).1 ≡ number_term m) × (m ≢ 0) = function-number mfa spec options (or-none-both (function_reason o mfa spec options) _ n).0 in
      x.2 (same-number x.0 0 (sym x.1 ∙ h))
  no-zero destroyed name mfa spec options n h = cc n

pub fault_has_reason : FaultHasReason
fault_has_reason o s c e h = go (command_reason o s c) refl
  where
    go : (x : Option CommandReason) → command_reason o s c ≡ x → (r : CommandReason) × (command_reason o s c ≡ Some r)
    go None n = absurd (no-fault o s s.phase c e n h)
    go (Some r) n = (r, n)

pub zero_has_reason : ZeroHasReason
zero_has_reason o s name mfa spec options h = go (command_reason o s (set_function name mfa spec options)) refl
  where
    go : (x : Option CommandReason) → command_reason o s (set_function name mfa spec options) ≡ x → (r : CommandReason) × (command_reason o s (set_function name mfa spec options) ≡ Some r)
    go None n = absurd (no-zero o s s.phase name mfa spec options n h)
    go (Some r) n = (r, n)
