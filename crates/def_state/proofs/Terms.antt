-- The term that is written of a setting reads as it.
use Rattle.std.proofs.Common.{◌≡◌, ◌∙◌, Bool, Option, Some, None, Ok, Err, refl, sym, ap}
use Rattle.def_term.specs.Tree.{Tree}
use Rattle.def_script.specs.Program.{Command, create, destroy, set_processes, set_function, set_send, set_receive}
use Rattle.def_spec.specs.Expressions.{for_calls, for_sends, for_receives}
use Rattle.def_spec.specs.Reading.{Reads}
use Rattle.def_session.specs.Settings.{FunctionPattern, Setting, setting_of, trace_pattern_of, options_of}
use Rattle.def_state.specs.SettingTerms.{SettingTerm, FunctionTerm, setting_term_by, send_term_of, receive_term_of, function_term_for, function_term_by, function_term_of}
use Rattle.def_state.specs.Laws.{TermsReadAsTheSettings}

nothing : {X : Type 0} {P : Type 0} (x : X) → ◌≡◌ {A = Option X} None (Some x) → P
nothing x e = cc

-- the value in a Some
abbrev inside : {X : Type 0} → X → Option X → X
inside x None = x
inside x (Some y) = y

module _ (t : Tree) (read : Tree → Reads Setting) where
  setting_read : (r : Reads Setting) → read t ≡ r → (g : SettingTerm) → setting_term_by t r ≡ Some g → read g.1 ≡ Ok g.0
  setting_read (Err e) h g k = nothing g k
  setting_read (Ok s) h g k = let same : (s, t) ≡ g = ap (inside g) k in ap (λ x. read x.1) (sym same) ∙ h ∙ ap (λ x. Ok x.0) same

  function_read : (p : FunctionPattern) (local : Bool) (r : Reads Setting) → read t ≡ r → (g : FunctionTerm) → function_term_for p local (setting_term_by t r) ≡ Some g → read g.1 ≡ Ok g.0.setting
  function_read p local (Err e) h g k = nothing g k
  function_read p local (Ok s) h g k =
      let same : (record { covered = p; setting = s; local = local }, t) ≡ g = ap (inside g) k in ap (λ x. read x.1) (sym same) ∙ h ∙ ap (λ x. Ok x.0.setting) same

function_by : (p : Option FunctionPattern) (local : Option Bool) (t : Tree) (g : FunctionTerm) → function_term_by p local t ≡ Some g → setting_of for_calls g.1 ≡ Ok g.0.setting
function_by None local t g k = nothing g k
function_by (Some p) None t g k = nothing g k
function_by (Some p) (Some local) t g k = function_read t (setting_of for_calls) p local (setting_of for_calls t) refl g k

function_of : (c : Command) (g : FunctionTerm) → function_term_of c ≡ Some g → setting_of for_calls g.1 ≡ Ok g.0.setting
function_of (set_function name mfa spec options) g k = function_by (trace_pattern_of mfa) (options_of options) spec g k
function_of (create name tracer) g k = nothing g k
function_of (destroy name) g k = nothing g k
function_of (set_processes name procs how flags) g k = nothing g k
function_of (set_send name spec) g k = nothing g k
function_of (set_receive name spec) g k = nothing g k

send_of : (c : Command) (g : SettingTerm) → send_term_of c ≡ Some g → setting_of for_sends g.1 ≡ Ok g.0
send_of (set_send name spec) g k = setting_read spec (setting_of for_sends) (setting_of for_sends spec) refl g k
send_of (create name tracer) g k = nothing g k
send_of (destroy name) g k = nothing g k
send_of (set_processes name procs how flags) g k = nothing g k
send_of (set_function name mfa spec options) g k = nothing g k
send_of (set_receive name spec) g k = nothing g k

receive_of : (c : Command) (g : SettingTerm) → receive_term_of c ≡ Some g → setting_of for_receives g.1 ≡ Ok g.0
receive_of (set_receive name spec) g k = setting_read spec (setting_of for_receives) (setting_of for_receives spec) refl g k
receive_of (create name tracer) g k = nothing g k
receive_of (destroy name) g k = nothing g k
receive_of (set_processes name procs how flags) g k = nothing g k
receive_of (set_function name mfa spec options) g k = nothing g k
receive_of (set_send name spec) g k = nothing g k

pub read_as : TermsReadAsTheSettings
read_as c = (function_of c, send_of c, receive_of c)
