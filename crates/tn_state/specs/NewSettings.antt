-- What the newest accepted commands set, as the code sees it.
use Rattle.std.specs.Prelude.{Bool, false, ◌&&◌, ◌||◌, if◌then◌else◌, List, [], ◌∷◌, ℕ, Option, Some, None, Ok, Err}
use Rattle.std.specs.Option.{option_map}
use Rattle.def_term.specs.Names.{Name, Mfa, word}
use Rattle.def_term.specs.Tree.{Tree, list, none}
use Rattle.def_script.specs.Program.{Command, set_function, set_send, set_receive, mfa_of}
use Rattle.def_spec.specs.Expressions.{for_calls, for_sends, for_receives}
use Rattle.def_spec.specs.Reading.{Reads}
use Rattle.def_session.specs.Settings as settings
use Rattle.def_state.specs.Lines.{terms_line, pair_term}
use Rattle.def_state.specs.SettingTerms.{or_else}
use Rattle.def_state.specs.SessionTexts.{kind_term, match_spec_term, pattern_line}
use Rattle.tn_term.specs.Views.{mfa_seen, tree_of}
use Rattle.tn_script.specs.Views.{function_of}
use Rattle.tn_script.specs.declared.form.Function.{Function}
use Rattle.tn_state.specs.Commands.{is_command_to}
use Rattle.tn_state.specs.declared.settings.NewSetting.{NewSetting}
use Rattle.tn_state.specs.declared.settings.Kind.{Kind}
use Rattle.tn_state.specs.declared.settings.Kind.TheVariants.{Off, Plain, Spec}
use Rattle.tn_state.specs.declared.settings.Subject as subjects
use Rattle.tn_state.specs.declared.settings.Subject.{Subject}

-- whether it is local, the kind and the term of what a command sets
abbrev pub NewSettingValue : Type 0
NewSettingValue = Bool × Kind × Tree

abbrev pub new_setting_seen : {A : Type 0} → NewSetting A → NewSettingValue
new_setting_seen f = (f.local, f.kind, tree_of f.term.now)

abbrev pub kind_in : settings.Setting → Kind
kind_in settings.off = Off
kind_in settings.plain = Plain
kind_in (settings.by s) = Spec

-- that of what is read; none where it is refused
abbrev pub kind_read : Reads settings.Setting → Option Kind
kind_read (Ok s) = Some (kind_in s)
kind_read (Err e) = None

-- with its term
abbrev pub new_setting_by : Bool → Tree → Reads settings.Setting → Option NewSettingValue
new_setting_by local t r = option_map (λ k. (local, k, t)) (kind_read r)

-- what a send command sets
abbrev pub new_send_setting : Command → Option NewSettingValue
new_send_setting (set_send name spec) = new_setting_by false spec (settings.setting_of for_sends spec)
new_send_setting c = None

-- what a receive command sets
abbrev pub new_receive_setting : Command → Option NewSettingValue
new_receive_setting (set_receive name spec) = new_setting_by false spec (settings.setting_of for_receives spec)
new_receive_setting c = None

-- what a function command sets for a function that it has among its own
abbrev pub function_setting_by : Mfa → Bool → Option settings.FunctionPattern → Option Bool → Tree → Option NewSettingValue
function_setting_by f exported (Some covered) (Some local) spec =
    if settings.is_covered covered f && (local || exported) then new_setting_by local spec (settings.setting_of for_calls spec) else None
function_setting_by f exported _ _ spec = None

abbrev pub new_function_setting : Mfa → Bool → Command → Option NewSettingValue
new_function_setting f exported (set_function name mfa spec options) = function_setting_by f exported (settings.trace_pattern_of mfa) (settings.options_of options) spec
new_function_setting f exported c = None

-- what a command sets of a subject
abbrev pub new_subject_setting : {A : Type 0} → Subject A → Command → Option NewSettingValue
new_subject_setting subjects.TheVariants.Sends c = new_send_setting c
new_subject_setting subjects.TheVariants.Receives c = new_receive_setting c
new_subject_setting (subjects.TheVariants.Function mfa exported) c = new_function_setting (mfa_seen mfa.now) exported c

-- what a command, where it is to the session of this name, and those before it set of a subject
abbrev pub new_setting_after : {A : Type 0} → Name → Subject A → Command → Option NewSettingValue → Option NewSettingValue
new_setting_after name subject c before = if is_command_to name c then or_else (new_subject_setting subject c) before else before

-- {traced,local} or {traced,global}
abbrev pub traced_term : Bool → Tree
traced_term local = pair_term (word "traced") (kind_term local)

-- the line of a function, by the kind of its setting
abbrev pub text_of_kind : Mfa → Bool → Kind → Tree → List ℕ
text_of_kind f local Off t = []
text_of_kind f local Plain t = terms_line (pattern_line f local (list none))
text_of_kind f local Spec t = terms_line (pattern_line f local t)

abbrev pub text_of_function : Mfa → Option NewSettingValue → List ℕ
text_of_function f None = []
text_of_function f (Some g) = text_of_kind f g.0 g.1 g.2

-- the line of sends or of receives
abbrev pub text_of_setting_kind : Tree → Kind → Tree → List ℕ
text_of_setting_kind name Off t = terms_line (name ∷ match_spec_term (word "false") ∷ [])
text_of_setting_kind name Plain t = []
text_of_setting_kind name Spec t = terms_line (name ∷ match_spec_term t ∷ [])

abbrev pub text_of_setting : Tree → Option NewSettingValue → List ℕ
text_of_setting name None = []
text_of_setting name (Some g) = text_of_setting_kind name g.1 g.2

-- a function, with whether it is exported
abbrev pub visible_function : {A : Type 0} → Function A → Mfa × Bool
visible_function k = (mfa_of (function_of k), k.exported)
