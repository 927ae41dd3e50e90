-- The newest of the commands to a session, one after the other; and its text.
use Rattle.std.proofs.Common.{◌≡◌, ◌∙◌, ℕ, ◌+◌, ◌<◌, ◌≤◌, Bool, true, false, ◌&&◌, ◌||◌, if◌then◌else◌, List, [], ◌∷◌, length, drop, get_or, map, Option, Some, None, Ok, Err, refl, sym, ap}
use Rattle.std.specs.Prelude.{filter}
use Rattle.std.specs.Option.{option_map}
use Rattle.std.proofs.lemmas.List.{drop_more, drop_all}
use Rattle.def_term.specs.Names.{Name, Mfa}
use Rattle.def_term.specs.Tree.{Tree}
use Rattle.def_script.specs.Program as program
use Rattle.def_spec.specs.Expressions.{for_calls, for_sends, for_receives}
use Rattle.def_spec.specs.Reading.{Reads}
use Rattle.def_session.specs.Settings.{FunctionPattern, Setting, off, plain, by, setting_of, trace_pattern_of, options_of, is_covered}
use Rattle.def_state.specs.SettingTerms.{SettingTerm, FunctionTerm, or_else, newest_from, newest, setting_term_by, send_term_of, receive_term_of, function_term_for, function_term_by, term_among, function_term_to}
use Rattle.def_state.specs.SessionTexts.{function_text_by, function_text_of, function_setting_text, setting_text_by, setting_text}
use Rattle.tn_flags.specs.Views.{command_of}
use Rattle.tn_flags.specs.declared.command.Command.{Command}
use Rattle.tn_state.specs.Commands.{is_command_to, own_commands}
use Rattle.tn_state.specs.NewSettings.{NewSettingValue, kind_in, new_setting_by, new_send_setting, new_receive_setting, function_setting_by, new_function_setting, new_subject_setting, new_setting_after, text_of_kind, text_of_function, text_of_setting_kind, text_of_setting}
use Rattle.tn_state.specs.declared.settings.Subject.{Subject}

-- ---- a loop over commands

module _ {A B : Type 0} (subject : Subject A) (name : Name) (cs : List (Command B)) (i : ℕ) where
  abbrev left : List program.Command
  left = map command_of (drop (i + 1) cs)

  with_own : (c : program.Command) (x : Option NewSettingValue) (b : Bool)
      → newest_from (new_subject_setting subject) x (if b then c ∷ filter (is_command_to name) left else filter (is_command_to name) left)
      ≡ newest_from (new_subject_setting subject) (if b then or_else (new_subject_setting subject c) x else x) (filter (is_command_to name) left)
  with_own c x true = refl
  with_own c x false = refl

  pub newest_more : (k : Command B) (x y : Option NewSettingValue) {z : Option NewSettingValue} → i < length cs → k ≡ get_or cs i k → y ≡ new_setting_after name subject (command_of k) x
      → newest_from (new_subject_setting subject) x (own_commands name (drop i cs)) ≡ z → newest_from (new_subject_setting subject) y (own_commands name (drop (i + 1) cs)) ≡ z
  newest_more k x y below is next so_far =
      ap (λ v. newest_from (new_subject_setting subject) v (filter (is_command_to name) left)) next
      ∙ sym (with_own (command_of k) x (is_command_to name (command_of k)))
      ∙ ap (λ v. newest_from (new_subject_setting subject) x (filter (is_command_to name) (command_of v ∷ left))) is
      ∙ sym (ap (λ ks. newest_from (new_subject_setting subject) x (filter (is_command_to name) (map command_of ks))) (drop_more cs i k below))
      ∙ so_far

  pub newest_all : (x : Option NewSettingValue) {z : Option NewSettingValue} → length cs ≤ i → newest_from (new_subject_setting subject) x (own_commands name (drop i cs)) ≡ z → x ≡ z
  newest_all x past so_far = sym (ap (λ ks. newest_from (new_subject_setting subject) x (own_commands name ks)) (drop_all i cs past)) ∙ so_far

-- ---- one command more

module _ {A : Type 0} (subject : Subject A) (name : Name) (c : program.Command) (before : Option NewSettingValue) where
  pub passed : is_command_to name c ≡ false → before ≡ new_setting_after name subject c before
  passed h = ap (λ b. if b then or_else (new_subject_setting subject c) before else before) (sym h)

  own : is_command_to name c ≡ true → or_else (new_subject_setting subject c) before ≡ new_setting_after name subject c before
  own h = ap (λ b. if b then or_else (new_subject_setting subject c) before else before) (sym h)

  pub sets : (g : NewSettingValue) → is_command_to name c ≡ true → Some g ≡ new_subject_setting subject c → Some g ≡ new_setting_after name subject c before
  sets g h is = ap (λ o. or_else o before) is ∙ own h

  pub leaves : is_command_to name c ≡ true → None ≡ new_subject_setting subject c → before ≡ new_setting_after name subject c before
  leaves h none = ap (λ o. or_else o before) none ∙ own h

-- ---- what is found is what the command gives

abbrev setting_value : SettingTerm → NewSettingValue
setting_value g = (false, kind_in g.0, g.1)

abbrev function_value : FunctionTerm → NewSettingValue
function_value g = (g.0.local, kind_in g.0.setting, g.1)

setting_given : (t : Tree) (r : Reads Setting) → new_setting_by false t r ≡ option_map setting_value (setting_term_by t r)
setting_given t (Ok s) = refl
setting_given t (Err e) = refl

send_given : (c : program.Command) → new_send_setting c ≡ option_map setting_value (send_term_of c)
send_given (program.set_send name spec) = setting_given spec (setting_of for_sends spec)
send_given (program.create name tracer) = refl
send_given (program.destroy name) = refl
send_given (program.set_processes name procs how flags) = refl
send_given (program.set_function name mfa spec options) = refl
send_given (program.set_receive name spec) = refl

receive_given : (c : program.Command) → new_receive_setting c ≡ option_map setting_value (receive_term_of c)
receive_given (program.set_receive name spec) = setting_given spec (setting_of for_receives spec)
receive_given (program.create name tracer) = refl
receive_given (program.destroy name) = refl
receive_given (program.set_processes name procs how flags) = refl
receive_given (program.set_function name mfa spec options) = refl
receive_given (program.set_send name spec) = refl

-- what a function command sets, where it has the function among its own
abbrev chosen : FunctionPattern → Bool → Tree → Reads Setting → Bool → Option FunctionTerm
chosen p local t (Err e) b = None
chosen p local t (Ok s) b = if b then Some (record { covered = p; setting = s; local = local }, t) else None

module _ (f : Mfa) (exported : Bool) where
  covered_given : (p : FunctionPattern) (local : Bool) (t : Tree) (r : Reads Setting) (b : Bool)
      → (if b then new_setting_by local t r else None) ≡ option_map function_value (chosen p local t r b)
  covered_given p local t (Ok s) true = refl
  covered_given p local t (Ok s) false = refl
  covered_given p local t (Err e) true = refl
  covered_given p local t (Err e) false = refl

  among : (p : FunctionPattern) (local : Bool) (t : Tree) (r : Reads Setting) → chosen p local t r (is_covered p f && (local || exported)) ≡ term_among f exported (function_term_for p local (setting_term_by t r))
  among p local t (Ok s) = refl
  among p local t (Err e) = refl

  function_given_by : (p : Option FunctionPattern) (local : Option Bool) (t : Tree) → function_setting_by f exported p local t ≡ option_map function_value (term_among f exported (function_term_by p local t))
  function_given_by None local t = refl
  function_given_by (Some p) None t = refl
  function_given_by (Some p) (Some local) t =
      covered_given p local t (setting_of for_calls t) (is_covered p f && (local || exported)) ∙ ap (option_map function_value) (among p local t (setting_of for_calls t))

  function_given : (c : program.Command) → new_function_setting f exported c ≡ option_map function_value (function_term_to f exported c)
  function_given (program.set_function name mfa spec options) = function_given_by (trace_pattern_of mfa) (options_of options) spec
  function_given (program.create name tracer) = refl
  function_given (program.destroy name) = refl
  function_given (program.set_processes name procs how flags) = refl
  function_given (program.set_send name spec) = refl
  function_given (program.set_receive name spec) = refl

-- where one of the other arguments is refused nothing is set
module _ (f : Mfa) (exported : Bool) (spec : Tree) where
  pub no_options : (p : Option FunctionPattern) (l : Option Bool) → None ≡ l → None ≡ function_setting_by f exported p l spec
  no_options p l e = go p ∙ ap (λ o. function_setting_by f exported p o spec) e
    where
      go : (o : Option FunctionPattern) → None ≡ function_setting_by f exported o None spec
      go None = refl
      go (Some q) = refl

  pub no_pattern : (p : Option FunctionPattern) (l : Option Bool) → None ≡ p → None ≡ function_setting_by f exported p l spec
  no_pattern p l e = ap (λ o. function_setting_by f exported o l spec) e

  -- else it is set where the function is among the command's own
  pub set_where : (p : Option FunctionPattern) (l : Option Bool) (q : FunctionPattern) (local b : Bool) → Some q ≡ p → Some local ≡ l → b ≡ (is_covered q f && (local || exported))
      → (if b then new_setting_by local spec (setting_of for_calls spec) else None) ≡ function_setting_by f exported p l spec
  set_where p l q local b covered given has =
      ap (λ o. if o then new_setting_by local spec (setting_of for_calls spec) else None) has
      ∙ ap (λ o. function_setting_by f exported o (Some local) spec) covered
      ∙ ap (λ o. function_setting_by f exported p o spec) given

-- ---- what is found of the newest

later_found : {X Y : Type 0} (h : X → Y) (x y : Option X) → or_else (option_map h x) (option_map h y) ≡ option_map h (or_else x y)
later_found h (Some x) y = refl
later_found h None y = refl

module _ {X Y : Type 0} (h : X → Y) (f : program.Command → Option X) (g : program.Command → Option Y) (same : (c : program.Command) → g c ≡ option_map h (f c)) where
  newest_found_from : (x : Option X) (cs : List program.Command) → newest_from g (option_map h x) cs ≡ option_map h (newest_from f x cs)
  newest_found_from x [] = refl
  newest_found_from x (c ∷ cs) = ap (λ v. newest_from g (or_else v (option_map h x)) cs) (same c) ∙ ap (λ v. newest_from g v cs) (later_found h (f c) x) ∙ newest_found_from (or_else (f c) x) cs

  newest_found : (cs : List program.Command) → newest g cs ≡ option_map h (newest f cs)
  newest_found cs = newest_found_from None cs

-- ---- its text

kind_text : (f : Mfa) (local : Bool) (s : Setting) (t : Tree) → text_of_kind f local (kind_in s) t ≡ function_text_by f local s t
kind_text f local off t = refl
kind_text f local plain t = refl
kind_text f local (by s) t = refl

of_function : (f : Mfa) (g : Option FunctionTerm) → text_of_function f (option_map function_value g) ≡ function_text_of f g
of_function f None = refl
of_function f (Some g) = kind_text f g.0.local g.0.setting g.1

pub function_written : (cs : List program.Command) (f : Mfa) (exported : Bool) → text_of_function f (newest (new_function_setting f exported) cs) ≡ function_setting_text cs (f, exported)
function_written cs f exported =
    ap (text_of_function f) (newest_found function_value (function_term_to f exported) (new_function_setting f exported) (function_given f exported) cs) ∙ of_function f (newest (function_term_to f exported) cs)

setting_kind_text : (name : Tree) (s : Setting) (t : Tree) → text_of_setting_kind name (kind_in s) t ≡ setting_text_by name s t
setting_kind_text name off t = refl
setting_kind_text name plain t = refl
setting_kind_text name (by s) t = refl

of_setting : (name : Tree) (g : Option SettingTerm) → text_of_setting name (option_map setting_value g) ≡ setting_text name g
of_setting name None = refl
of_setting name (Some g) = setting_kind_text name g.0 g.1

pub sends_written : (name : Tree) (cs : List program.Command) → text_of_setting name (newest new_send_setting cs) ≡ setting_text name (newest send_term_of cs)
sends_written name cs = ap (text_of_setting name) (newest_found setting_value send_term_of new_send_setting send_given cs) ∙ of_setting name (newest send_term_of cs)

pub receives_written : (name : Tree) (cs : List program.Command) → text_of_setting name (newest new_receive_setting cs) ≡ setting_text name (newest receive_term_of cs)
receives_written name cs = ap (text_of_setting name) (newest_found setting_value receive_term_of new_receive_setting receive_given cs) ∙ of_setting name (newest receive_term_of cs)
