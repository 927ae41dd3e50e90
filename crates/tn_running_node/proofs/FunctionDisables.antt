-- The functions that a command disables in turn, and how many functions a command matches.
use Rattle.std.proofs.Common.{◌≡◌, ◌∙◌, ◌⊎◌, inl, inr, ℕ, suc, ◌+◌, ◌<◌, ◌≤◌, Bool, true, false, ◌&&◌, if◌then◌else◌, List, ◌∷◌, length, drop, get_or, Option, Some, None, nat_le, refl, sym, ap, add-one, arith}
use Rattle.std.specs.List.{filter}
use Rattle.std.proofs.Math.Seq.{drop-cons}
use Rattle.std.proofs.lemmas.List.{drop_all}
use Rattle.std.proofs.lemmas.Bool.Decides.{nat_tests}
use Rattle.def_term.specs.Names.{Name, Mfa, word, mfa_term}
use Rattle.def_script.specs.Exports.{Exports, visible}
use Rattle.def_script.specs.Program.{Command, set_function}
use Rattle.def_session.specs.Commands.{done_in, command_done, function_set_if}
use Rattle.def_session.specs.Settings as settings
use Rattle.def_session.specs.Settings.{one, every, whole_module, trace_pattern_of, options_of, FunctionSetting, has_among}
use Rattle.def_session.specs.State.{Session, live}
use Rattle.def_running_node.specs.NodeReplies.{with_disabled, is_of_own_kind, own_kind_disabled, internal_disabled}
use Rattle.def_explain.specs.CommandDifferences.{is_internal_and_set}
use Rattle.def_spec.specs.Reading.{is_wildcard}
use Rattle.tn_script.specs.Views.{functions_of}
use Rattle.tn_script.specs.declared.form.Function.{Function}
use Rattle.tn_index.specs.Views.{function_pattern_seen}
use Rattle.tn_index.specs.declared.function_setting.FunctionPattern.{FunctionPattern}
use Rattle.tn_session.specs.Sessions.{SessionValue, value_in, exports_in}
use Rattle.tn_session.specs.declared.session.Session as code
use Rattle.tn_running_node.specs.Replies.{with_state, visible_of, LiveBecomes, RepliesNumber, DisablesOne, is_integer, own_kind_from, internal_from, matches_from}

-- ---- one function

-- the function alone, or none where it has the name '_'
pattern_cases : (w u fits : Bool) (m : Name) (f : Mfa) → fits ≡ true
    → (if w then (if u && false then Some every else None) else if u then (if false then Some (whole_module m) else None) else (if fits then Some (one f) else None)) ≡ None
    ⊎ ((if w then (if u && false then Some every else None) else if u then (if false then Some (whole_module m) else None) else (if fits then Some (one f) else None)) ≡ Some (one f))
pattern_cases true true fits m f e = inl refl
pattern_cases true false fits m f e = inl refl
pattern_cases false true fits m f e = inl refl
pattern_cases false false fits m f e = inr (ap (λ b. if b then Some (one f) else None) e)

one_or_none : (f : Mfa) → nat_le f.arity 255 ≡ true → (trace_pattern_of (mfa_term f) ≡ None) ⊎ (trace_pattern_of (mfa_term f) ≡ Some (one f))
one_or_none f e = pattern_cases (is_wildcard f.module_name) (is_wildcard f.function_name) (nat_le f.arity 255) f.module_name f e

by_pattern : (o : Exports) (s : Session) (local : Bool) (f : Mfa × Bool) (p : Option settings.FunctionPattern) → (p ≡ None) ⊎ (p ≡ Some (one f.0))
    → is_integer (function_set_if o s p (Some local) (word "false")).1 ≡ true → (function_set_if o s p (Some local) (word "false")).0 ≡ with_disabled local f s
by_pattern o s local f p (inl e) counts = absurd (let h : false ≡ true = ap (λ q. is_integer (function_set_if o s q (Some local) (word "false")).1) (sym e) ∙ counts in cc)
by_pattern o s local f p (inr e) counts = ap (λ q. (function_set_if o s q (Some local) (word "false")).0) e

disabled_by : (o : Exports) (s : Session) (c : Command) (local : Bool) (f : Mfa × Bool) → DisablesOne local f.0 c → nat_le f.0.arity 255 ≡ true → s.phase ≡ live
    → is_integer (command_done o s c).1 ≡ true → (command_done o s c).0 ≡ with_disabled local f s
disabled_by o s (set_function name mfa spec options) local f d fits alive counts =
    let same = ap (λ p. done_in p o s (set_function name mfa spec options)) alive
    ∙ ap (λ t. function_set_if o s (trace_pattern_of t) (options_of options) spec) d.0
    ∙ ap (λ t. function_set_if o s (trace_pattern_of (mfa_term f.0)) (options_of options) t) d.1
    ∙ ap (λ q. function_set_if o s (trace_pattern_of (mfa_term f.0)) q (word "false")) d.2 in
    ap (λ r. r.0) same ∙ by_pattern o s local f (trace_pattern_of (mfa_term f.0)) (one_or_none f.0 fits) (sym (ap (λ r. is_integer r.1) same) ∙ counts)
disabled_by o s c local f d fits alive counts = absurd d

small_arity : (n : ℕ) → n ≤ 255 → nat_le n 255 ≡ true
small_arity n h = grind (arith, nat_tests)

pub one_disabled : {A : Type 0} (old new : code.Session A) (c : Command) (local : Bool) (f : Mfa × Bool) → DisablesOne local f.0 c → f.0.arity ≤ 255 → RepliesNumber c old new → LiveBecomes (with_disabled local f) old new
one_disabled old new c local f d fits counted = λ v at alive.
    let r = counted (exports_in v 0) v at refl in
    r.0 ∙ ap (λ s. Some (with_state v s)) (disabled_by (exports_in v 0) v.state c local f d (small_arity f.0.arity fits) alive r.1)

-- ---- each in turn

at_place : {X : Type 0} (xs : List X) (i : ℕ) (x : X) → i < length xs → x ≡ get_or xs i x → drop i xs ≡ x ∷ drop (i + 1) xs
at_place xs i x below is = drop-cons xs i x below ∙ ap (λ y. y ∷ drop (suc i) xs) (sym is) ∙ ap (λ k. x ∷ drop k xs) (sym (add-one i))

pub own_kind_step : {A : Type 0} (covered : FunctionPattern A) (local : Bool) (fs : List (Function A)) (i : ℕ) (x : Function A) → i < length fs → x ≡ get_or fs i x → (s : Session)
    → own_kind_from covered local fs i s
    ≡ own_kind_from covered local fs (i + 1) (if is_of_own_kind s (function_pattern_seen covered) local (visible_of x) then with_disabled local (visible_of x) s else s)
own_kind_step covered local fs i x below is s = ap (λ ys. own_kind_disabled (function_pattern_seen covered) local (visible (functions_of ys)) s) (at_place fs i x below is)

pub own_kind_end : {A : Type 0} (covered : FunctionPattern A) (local : Bool) (fs : List (Function A)) (i : ℕ) → length fs ≤ i → (s : Session) → own_kind_from covered local fs i s ≡ s
own_kind_end covered local fs i past s = ap (λ ys. own_kind_disabled (function_pattern_seen covered) local (visible (functions_of ys)) s) (drop_all i fs past)

pub internal_step : {A : Type 0} (covered : FunctionPattern A) (fs : List (Function A)) (i : ℕ) (x : Function A) → i < length fs → x ≡ get_or fs i x → (s : Session)
    → internal_from covered fs i s ≡ internal_from covered fs (i + 1) (if is_internal_and_set s (function_pattern_seen covered) (visible_of x) then with_disabled true (visible_of x) s else s)
internal_step covered fs i x below is s = ap (λ ys. internal_disabled (function_pattern_seen covered) (visible (functions_of ys)) s) (at_place fs i x below is)

pub internal_end : {A : Type 0} (covered : FunctionPattern A) (fs : List (Function A)) (i : ℕ) → length fs ≤ i → (s : Session) → internal_from covered fs i s ≡ s
internal_end covered fs i past s = ap (λ ys. internal_disabled (function_pattern_seen covered) (visible (functions_of ys)) s) (drop_all i fs past)

-- the session is in a live state, from which the rest comes to this end
pub record Reached {A : Type 0} (now : code.Session A) (v : SessionValue) (rest : Session → Session) (end : Session) : Type 0 where
  pub state : Session
  pub value : value_in now ≡ Some (with_state v state)
  pub alive : state.phase ≡ live
  pub comes : rest state ≡ end

-- from a live session the loop came to another, from which the rest is the whole
abbrev pub Reaches : {A : Type 0} → (start now : code.Session A) → (whole rest : Session → Session) → Type 0
Reaches start now whole rest = (v : SessionValue) → value_in start ≡ Some v → v.state.phase ≡ live → Reached now v rest (whole v.state)

pub at_start : {A : Type 0} (start : code.Session A) (whole : Session → Session) → Reaches start start whole whole
at_start start whole = λ v at alive. record { state = v.state; value = at; alive = alive; comes = refl }

pub at_end : {A : Type 0} (start now : code.Session A) (whole rest : Session → Session) → ((s : Session) → rest s ≡ s) → Reaches start now whole rest → LiveBecomes whole start now
at_end start now whole rest ends so_far = λ v at alive. let r = so_far v at alive in r.value ∙ ap (λ s. Some (with_state v s)) (sym (ends r.state) ∙ r.comes)

-- one was disabled, or left
pub and_disabled : {A : Type 0} (start now next : code.Session A) (whole rest after : Session → Session) (test : Session → Bool) (local : Bool) (f : Mfa × Bool)
    → ((s : Session) → rest s ≡ after (if test s then with_disabled local f s else s)) → ((v : SessionValue) → value_in now ≡ Some v → true ≡ test v.state)
    → LiveBecomes (with_disabled local f) now next → Reaches start now whole rest → Reaches start next whole after
and_disabled start now next whole rest after test local f step asks done so_far = λ v at alive.
    let r = so_far v at alive in
    record {
      state = with_disabled local f r.state;
      value = done (with_state v r.state) r.value r.alive;
      alive = r.alive;
      comes = ap (λ b. after (if b then with_disabled local f r.state else r.state)) (asks (with_state v r.state) r.value) ∙ sym (step r.state) ∙ r.comes;
    }

pub and_left : {A : Type 0} (start now next : code.Session A) (whole rest after : Session → Session) (test : Session → Bool) (local : Bool) (f : Mfa × Bool)
    → ((s : Session) → rest s ≡ after (if test s then with_disabled local f s else s)) → ((v : SessionValue) → value_in now ≡ Some v → false ≡ test v.state)
    → next ≡ now → Reaches start now whole rest → Reaches start next whole after
and_left start now next whole rest after test local f step asks same so_far = λ v at alive.
    let r = so_far v at alive in
    record {
      state = r.state;
      value = ap value_in same ∙ r.value;
      alive = r.alive;
      comes = ap (λ b. after (if b then with_disabled local f r.state else r.state)) (asks (with_state v r.state) r.value) ∙ sym (step r.state) ∙ r.comes;
    }

-- ---- how many match

one_kept : {Y : Type 0} (p : Y → Bool) (y : Y) (ys : List Y) (b : Bool) → b ≡ p y → length (filter p (y ∷ ys)) ≡ length (if b then y ∷ filter p ys else filter p ys)
one_kept p y ys b e = ap (λ c. length (if c then y ∷ filter p ys else filter p ys)) (sym e)

from_place : {A : Type 0} (k : FunctionSetting) (fs : List (Function A)) (i : ℕ) (x : Function A) (b : Bool) → i < length fs → x ≡ get_or fs i x → b ≡ has_among k (visible_of x).0 (visible_of x).1
    → matches_from k fs i
    ≡ length (if b then visible_of x ∷ filter (λ f. has_among k f.0 f.1) (visible (functions_of (drop (i + 1) fs))) else filter (λ f. has_among k f.0 f.1) (visible (functions_of (drop (i + 1) fs))))
from_place k fs i x b below is e =
    ap (λ ys. length (filter (λ f. has_among k f.0 f.1) (visible (functions_of ys)))) (at_place fs i x below is)
    ∙ one_kept (λ f. has_among k f.0 f.1) (visible_of x) (visible (functions_of (drop (i + 1) fs))) b e

pub one_matches : {A : Type 0} (k : FunctionSetting) (fs : List (Function A)) (i : ℕ) (x : Function A) → i < length fs → x ≡ get_or fs i x → true ≡ has_among k (visible_of x).0 (visible_of x).1
    → matches_from k fs i ≡ matches_from k fs (i + 1) + 1
one_matches k fs i x below is e = from_place k fs i x true below is e ∙ sym (add-one (matches_from k fs (i + 1)))

pub one_differs : {A : Type 0} (k : FunctionSetting) (fs : List (Function A)) (i : ℕ) (x : Function A) → i < length fs → x ≡ get_or fs i x → false ≡ has_among k (visible_of x).0 (visible_of x).1
    → matches_from k fs i ≡ matches_from k fs (i + 1)
one_differs k fs i x below is e = from_place k fs i x false below is e

pub none_left : {A : Type 0} (k : FunctionSetting) (fs : List (Function A)) (i : ℕ) → length fs ≤ i → matches_from k fs i ≡ 0
none_left k fs i past = ap (λ ys. length (filter (λ f. has_among k f.0 f.1) (visible (functions_of ys)))) (drop_all i fs past)
