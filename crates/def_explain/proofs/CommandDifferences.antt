-- What is computed is what a node does otherwise by a command.
use Rattle.std.proofs.Common.{◌≡◌, ◌≢◌, Bool, true, false, not, ◌&&◌, List, Option, Some, None, Ok, Err, refl, sym, ap, subst, ◌∙◌}
use Rattle.std.specs.List.{list_any}
use Rattle.std.proofs.lemmas.Bool.{and_parts}
use Rattle.def_term.specs.Names.{Mfa}
use Rattle.def_script.specs.Program.{Command, create, destroy, set_processes, set_function, set_send, set_receive}
use Rattle.def_script.specs.Exports.{Exports}
use Rattle.def_spec.specs.Expressions.{for_calls}
use Rattle.def_spec.specs.Reading.{Reads}
use Rattle.def_session.specs.Settings.{FunctionPattern, Setting, off, plain, by, FunctionSetting, setting_of, trace_pattern_of, options_of, is_covered, has_among}
use Rattle.def_session.specs.State.{Phase, absent, live, destroyed, Session}
use Rattle.def_explain.specs.Lists.{One}
use Rattle.def_explain.specs.CommandReasons.{any_setting}
use Rattle.def_explain.specs.Differences.{Difference, node_ends, reads_freed, suppresses_message, leaves_no_mark, ignores_silent, reports_exceptions, inherits_alone, evaluates_from_right, reads_no_list, catches_error, reports_attempt, raises_noproc, reports_later, adds_calls, faults_in_logic, leaves_other_setting, takes_local_setting, ends_test, difference_where}
use Rattle.def_explain.specs.CommandDifferences.{newest_about, IsSetByKind, IsSetOtherwise, IsInternalAndSet, SettingDiffers, CommandDiffers, is_on, is_of_kind, is_on_of_kind, is_set_by_kind, is_set_otherwise, is_internal_and_set, taken_difference, setting_difference, read_difference, live_difference, difference_in, command_difference}
use Rattle.def_explain.specs.Laws.{CommandDifferenceIsComputed}
use Rattle.def_explain.proofs.Differences.{both_are, not_is}
use Rattle.def_explain.proofs.Several.{one_by_any, any_by_one}

-- ---- one function

on-is : (k : Setting) → is_on k ≡ true → k ≢ off
on-is off h = absurd (cc h)
on-is plain h = λ e. cc e
on-is (by s) h = λ e. cc e

is-on : (k : Setting) → k ≢ off → is_on k ≡ true
is-on off h = absurd (h refl)
is-on plain h = refl
is-on (by s) h = refl

kind-is : (local : Bool) (k : FunctionSetting) → is_of_kind local k ≡ true → k.local ≡ local
kind-is true k h = h
kind-is false k h = not_is k.local h

is-kind : (local : Bool) (k : FunctionSetting) → k.local ≡ local → is_of_kind local k ≡ true
is-kind true k h = h
is-kind false k h = ap not h

set-found : (ks : List FunctionSetting) (local : Bool) (f : Mfa × Bool) → is_set_by_kind ks local f ≡ true → IsSetByKind ks local f
set-found ks local f h = go (newest_about ks f.0 f.1) refl h
  where
    go : (o : Option FunctionSetting) → newest_about ks f.0 f.1 ≡ o → is_on_of_kind local o ≡ true → IsSetByKind ks local f
    go None e k = absurd (cc k)
    go (Some s) e k =
        let both : (is_on s.setting ≡ true) × (is_of_kind local s ≡ true) = and_parts (is_on s.setting) (is_of_kind local s) k in
        (s, e, on-is s.setting both.0, kind-is local s both.1)

found-set : (ks : List FunctionSetting) (local : Bool) (f : Mfa × Bool) → IsSetByKind ks local f → is_set_by_kind ks local f ≡ true
found-set ks local f h = ap (is_on_of_kind local) h.1 ∙ both_are (is_on h.0.setting) _ (is-on h.0.setting h.2) (is-kind local h.0 h.3)

otherwise-found : (s : Session) (covered : FunctionPattern) (local : Bool) (f : Mfa × Bool) → is_set_otherwise s covered local f ≡ true → IsSetOtherwise s covered local f
otherwise-found s covered local f h =
    let both : (has_among (any_setting covered local) f.0 f.1 ≡ true) × (is_set_by_kind s.functions (not local) f ≡ true) = and_parts (has_among (any_setting covered local) f.0 f.1) _ h in
    (both.0, set-found s.functions (not local) f both.1)

found-otherwise : (s : Session) (covered : FunctionPattern) (local : Bool) (f : Mfa × Bool) → IsSetOtherwise s covered local f → is_set_otherwise s covered local f ≡ true
found-otherwise s covered local f h = both_are (has_among (any_setting covered local) f.0 f.1) _ h.0 (found-set s.functions (not local) f h.1)

internal-found : (s : Session) (covered : FunctionPattern) (f : Mfa × Bool) → is_internal_and_set s covered f ≡ true → IsInternalAndSet s covered f
internal-found s covered f h =
    let both : (is_covered covered f.0 ≡ true) × ((not f.1 && is_set_by_kind s.functions true f) ≡ true) = and_parts (is_covered covered f.0) _ h in
    let rest : (not f.1 ≡ true) × (is_set_by_kind s.functions true f ≡ true) = and_parts (not f.1) _ both.1 in
    (both.0, not_is f.1 rest.0, set-found s.functions true f rest.1)

found-internal : (s : Session) (covered : FunctionPattern) (f : Mfa × Bool) → IsInternalAndSet s covered f → is_internal_and_set s covered f ≡ true
found-internal s covered f h = both_are (is_covered covered f.0) _ h.0 (both_are (not f.1) _ (ap not h.1) (found-set s.functions true f h.2))

-- ---- a difference, where it is one

where-is : (q : Bool) (x y : Difference) → difference_where q x ≡ Some y → (q ≡ true) × (y ≡ x)
where-is true x y h = (refl, cc h)
where-is false x y h = absurd (cc h)

is-where : (q : Bool) (x : Difference) → q ≡ true → difference_where q x ≡ Some x
is-where q x h = ap (λ b. difference_where b x) h

module _ (o : Exports) (s : Session) (covered : FunctionPattern) where
  others : (local : Bool) → list_any (is_set_otherwise s covered local) o.functions ≡ true → One (IsSetOtherwise s covered local) o.functions
  others local h = one_by_any (is_set_otherwise s covered local) (IsSetOtherwise s covered local) (otherwise-found s covered local) o.functions h

  taken : (local : Bool) (k : Setting) (x : Difference) → k ≢ off → taken_difference o s covered local ≡ Some x → SettingDiffers o s covered local k x
  taken true k x n h = absurd (cc h)
  taken false k x n h =
      let w : (list_any (is_internal_and_set s covered) o.functions ≡ true) × (x ≡ takes_local_setting) = where-is (list_any (is_internal_and_set s covered) o.functions) takes_local_setting x h in
      subst (λ y. SettingDiffers o s covered false k y) (sym w.1) (n, refl, one_by_any (is_internal_and_set s covered) (IsInternalAndSet s covered) (internal-found s covered) o.functions w.0)

  setting-found : (local : Bool) (k : Setting) (x : Difference) → setting_difference o s covered local k ≡ Some x → SettingDiffers o s covered local k x
  setting-found local off x h =
      let w : (list_any (is_set_otherwise s covered local) o.functions ≡ true) × (x ≡ leaves_other_setting) = where-is (list_any (is_set_otherwise s covered local) o.functions) leaves_other_setting x h in
      subst (λ y. SettingDiffers o s covered local off y) (sym w.1) (refl, others local w.0)
  setting-found local plain x h = taken local plain x (λ e. cc e) h
  setting-found local (by k) x h = taken local (by k) x (λ e. cc e) h

  takes : (local : Bool) → local ≡ false → One (IsInternalAndSet s covered) o.functions → taken_difference o s covered local ≡ Some takes_local_setting
  takes true e h = absurd (cc e)
  takes false e h = is-where (list_any (is_internal_and_set s covered) o.functions) takes_local_setting (any_by_one (is_internal_and_set s covered) (IsInternalAndSet s covered) (found-internal s covered) o.functions h)

  found-setting : (local : Bool) (k : Setting) (x : Difference) → SettingDiffers o s covered local k x → setting_difference o s covered local k ≡ Some x
  found-setting local off leaves_other_setting h =
      is-where (list_any (is_set_otherwise s covered local) o.functions) leaves_other_setting (any_by_one (is_set_otherwise s covered local) (IsSetOtherwise s covered local) (found-otherwise s covered local) o.functions h.1)
  found-setting local plain leaves_other_setting h = absurd (cc h.0)
  found-setting local (by k) leaves_other_setting h = absurd (cc h.0)
  found-setting local off takes_local_setting h = absurd (h.0 refl)
  found-setting local plain takes_local_setting h = takes local h.1 h.2
  found-setting local (by k) takes_local_setting h = takes local h.1 h.2
  found-setting local k node_ends h = absurd h
  found-setting local k ends_test h = absurd h
  found-setting local k reads_freed h = absurd h
  found-setting local k suppresses_message h = absurd h
  found-setting local k leaves_no_mark h = absurd h
  found-setting local k ignores_silent h = absurd h
  found-setting local k reports_exceptions h = absurd h
  found-setting local k inherits_alone h = absurd h
  found-setting local k evaluates_from_right h = absurd h
  found-setting local k reads_no_list h = absurd h
  found-setting local k catches_error h = absurd h
  found-setting local k reports_attempt h = absurd h
  found-setting local k raises_noproc h = absurd h
  found-setting local k reports_later h = absurd h
  found-setting local k adds_calls h = absurd h
  found-setting local k faults_in_logic h = absurd h

-- ---- one command

-- what a command comes to that is read so
abbrev ReadDiffers : Exports → Session → Option FunctionPattern → Option Bool → Reads Setting → Difference → Type 0
ReadDiffers o s p q r x = (covered : FunctionPattern) × (local : Bool) × (setting : Setting) × (p ≡ Some covered) × (q ≡ Some local) × (r ≡ Ok setting) × SettingDiffers o s covered local setting x

read-found : (o : Exports) (s : Session) (p : Option FunctionPattern) (q : Option Bool) (r : Reads Setting) (x : Difference) → read_difference o s p q r ≡ Some x → ReadDiffers o s p q r x
read-found o s None q r x h = absurd (cc h)
read-found o s (Some covered) None r x h = absurd (cc h)
read-found o s (Some covered) (Some local) (Err e) x h = absurd (cc h)
read-found o s (Some covered) (Some local) (Ok k) x h = (covered, local, k, refl, refl, refl, setting-found o s covered local k x h)

found-read : (o : Exports) (s : Session) (p : Option FunctionPattern) (q : Option Bool) (r : Reads Setting) (x : Difference) → ReadDiffers o s p q r x → read_difference o s p q r ≡ Some x
found-read o s p q r x h =
    ap (λ y. read_difference o s y q r) h.3 ∙ ap (λ y. read_difference o s (Some h.0) y r) h.4 ∙ ap (λ y. read_difference o s (Some h.0) (Some h.1) y) h.5 ∙ found-setting o s h.0 h.1 h.2 x h.6

live-found : (o : Exports) (s : Session) (c : Command) (x : Difference) → s.phase ≡ live → live_difference o s c ≡ Some x → CommandDiffers o s c x
live-found o s (create n t) x l h = absurd (cc h)
live-found o s (destroy n) x l h = absurd (cc h)
live-found o s (set_processes n p w f) x l h = absurd (cc h)
live-found o s (set_function n mfa spec options) x l h = (l, read-found o s (trace_pattern_of mfa) (options_of options) (setting_of for_calls spec) x h)
live-found o s (set_send n spec) x l h = absurd (cc h)
live-found o s (set_receive n spec) x l h = absurd (cc h)

found-live : (o : Exports) (s : Session) (c : Command) (x : Difference) → CommandDiffers o s c x → (s.phase ≡ live) × (live_difference o s c ≡ Some x)
found-live o s (create n t) x h = absurd h
found-live o s (destroy n) x h = absurd h
found-live o s (set_processes n p w f) x h = absurd h
found-live o s (set_function n mfa spec options) x h = (h.0, found-read o s (trace_pattern_of mfa) (options_of options) (setting_of for_calls spec) x h.1)
found-live o s (set_send n spec) x h = absurd h
found-live o s (set_receive n spec) x h = absurd h

pub command_difference_is_computed : CommandDifferenceIsComputed
command_difference_is_computed o s c x = (sound, complete)
  where
    by : (p : Phase) → s.phase ≡ p → difference_in p o s c ≡ Some x → CommandDiffers o s c x
    by absent e h = absurd (cc h)
    by live e h = live-found o s c x e h
    by destroyed e h = absurd (cc h)

    sound : command_difference o s c ≡ Some x → CommandDiffers o s c x
    sound h = by s.phase refl h

    complete : CommandDiffers o s c x → command_difference o s c ≡ Some x
    complete h =
        let l : (s.phase ≡ live) × (live_difference o s c ≡ Some x) = found-live o s c x h in
        ap (λ p. difference_in p o s c) l.0 ∙ l.1
