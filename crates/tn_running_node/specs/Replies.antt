-- What a command does to the code's session of a running node, and its reply.
use Rattle.std.specs.Prelude.{◌≡◌, ℕ, Bool, true, false, not, ◌&&◌, if◌then◌else◌, List, length, filter, drop, Option, Some, None, Ok, Err}
use Rattle.std.specs.Option.{option_map}
use Rattle.def_term.specs.Names.{Mfa, word, mfa_term}
use Rattle.def_term.specs.Tree.{Tree, int}
use Rattle.def_script.specs.Program.{Command, set_function, mfa_of}
use Rattle.def_script.specs.Exports.{Exports, visible}
use Rattle.def_spec.specs.Expressions.{for_calls}
use Rattle.def_spec.specs.Flags.{flags_listed}
use Rattle.def_spec.specs.Reading.{Reads}
use Rattle.def_session.specs.Settings as settings
use Rattle.def_session.specs.Settings.{FunctionSetting, trace_pattern_of, options_of, setting_of, has_among}
use Rattle.def_session.specs.State.{live}
use Rattle.def_session.specs.State as definition
use Rattle.def_session.specs.Commands.{procs_of, how_of, command_done}
use Rattle.def_explain.specs.CommandReasons.{any_setting}
use Rattle.def_explain.specs.CommandDifferences.{is_on, is_set_by_kind, is_internal_and_set}
use Rattle.def_explain.specs.Differences.{has_none}
use Rattle.def_running_node.specs.NodeReplies.{processes_by, is_of_own_kind, own_kind_disabled, internal_disabled, function_by, node_command_live, node_command}
use Rattle.tn_script.specs.Views.{function_of, functions_of}
use Rattle.tn_script.specs.declared.form.Function.{Function}
use Rattle.tn_index.specs.Views.{function_pattern_seen}
use Rattle.tn_index.specs.declared.function_setting.FunctionPattern.{FunctionPattern}
use Rattle.tn_session.specs.Looks.{look_seen, is_live}
use Rattle.tn_session.specs.Sessions.{SessionValue, value_in, next_session}
use Rattle.tn_session.specs.declared.look.Look.{Look}
use Rattle.tn_session.specs.declared.session.Session.{Session}
use Rattle.tn_running_node.specs.declared.function_settings.FunctionChange.{FunctionChange}

-- the session is one of the program with these functions, of which sessions know this, and stands for this
pub record IsOfProgram {A : Type 0} (functions : List (Function A)) (session : Session A) (o : Exports) (v : SessionValue) : Type 0 where
  pub program : o.functions ≡ visible (functions_of functions)
  pub value : value_in session ≡ Some v
  pub same : v.functions ≡ o.functions

-- what a command does in the model, and its reply
abbrev pub IsModelDone : {A : Type 0} → Command → (old new : Session A) → Tree → Type 0
IsModelDone c old new t = (o : Exports) (v : SessionValue) → value_in old ≡ Some v → v.functions ≡ o.functions → next_session v (command_done o v.state c) ≡ (value_in new, t)

-- what a command does to a session of a running node, and its reply
abbrev pub IsDoneThere : {A : Type 0} → List (Function A) → Command → (old new : Session A) → Tree → Type 0
IsDoneThere functions c old new t = (o : Exports) (v : SessionValue) → IsOfProgram functions old o v → next_session v (node_command o v.state c) ≡ (value_in new, t)

-- the same of a live one
abbrev pub IsDoneLive : {A : Type 0} → List (Function A) → Command → (old new : Session A) → Tree → Type 0
IsDoneLive functions c old new t =
    (o : Exports) (v : SessionValue) → IsOfProgram functions old o v → v.state.phase ≡ live → next_session v (node_command_live o v.state c) ≡ (value_in new, t)

-- whether the session is live
abbrev pub IsLive : {A : Type 0} → Session A → Bool → Type 0
IsLive session r = (v : SessionValue) → value_in session ≡ Some v → r ≡ is_live v.state.phase

-- ---- flags

-- what is there beside the command of the model, which left the session so and replied r, where these are its arguments
abbrev pub IsProcessDoneThere : {A : Type 0} → (procs how flags : Tree) → (old new : Session A) → (r t : Tree) → Type 0
IsProcessDoneThere procs how flags old new r t =
    (v : SessionValue) → value_in old ≡ Some v → next_session v (processes_by (procs_of procs) (how_of how) (flags_listed flags) (v.state, r)) ≡ (value_in new, t)

-- whether the flags are none, where they are a list of flags
abbrev pub none_listed : Tree → Option Bool
none_listed t = option_map has_none (flags_listed t)

-- ---- settings of functions

-- a function with its visibility
abbrev pub visible_of : {A : Type 0} → Function A → Mfa × Bool
visible_of f = (mfa_of (function_of f), (function_of f).exported)

-- the session in this state
abbrev pub with_state : SessionValue → definition.Session → SessionValue
with_state v s = record v { state = s }

-- what becomes of a live session
abbrev pub LiveBecomes : {A : Type 0} → (definition.Session → definition.Session) → (old new : Session A) → Type 0
LiveBecomes f old new = (v : SessionValue) → value_in old ≡ Some v → v.state.phase ≡ live → value_in new ≡ Some (with_state v (f v.state))

-- of a setting and whether it is local: it is on, and of this kind
abbrev pub is_on_by_parts : Bool → Option (settings.Setting × Bool) → Bool
is_on_by_parts local None = false
is_on_by_parts local (Some k) = is_on k.0 && (if local then k.1 else not k.1)

-- the newest command about the function is of this kind, and doesn't disable it
abbrev pub is_set_seen : {A : Type 0} → Look A → Function A → Bool → Bool
is_set_seen l f local = is_set_by_kind (look_seen l).functions local (visible_of f)

-- the function is among those that a command about these matches
abbrev pub is_among_seen : {A : Type 0} → FunctionPattern A → Function A → Bool → Bool
is_among_seen covered f local = has_among (any_setting (function_pattern_seen covered) local) (mfa_of (function_of f)) (function_of f).exported

-- whether the session has a setting of the function of this kind, which a command about these functions disables
abbrev pub IsOfOwnKind : {A : Type 0} → Session A → FunctionPattern A → Function A → Bool → Bool → Type 0
IsOfOwnKind session covered f local r =
    (v : SessionValue) → value_in session ≡ Some v → r ≡ is_of_own_kind v.state (function_pattern_seen covered) local (visible_of f)

-- whether it has a local setting of the function, which isn't exported, and which these cover
abbrev pub HasInternalSetting : {A : Type 0} → Session A → FunctionPattern A → Function A → Bool → Type 0
HasInternalSetting session covered f r = (v : SessionValue) → value_in session ≡ Some v → r ≡ is_internal_and_set v.state (function_pattern_seen covered) (visible_of f)

-- those of the functions from a place on are disabled in turn
abbrev pub own_kind_from : {A : Type 0} → FunctionPattern A → Bool → List (Function A) → ℕ → definition.Session → definition.Session
own_kind_from covered local functions i s = own_kind_disabled (function_pattern_seen covered) local (visible (functions_of (drop i functions))) s

abbrev pub internal_from : {A : Type 0} → FunctionPattern A → List (Function A) → ℕ → definition.Session → definition.Session
internal_from covered functions i s = internal_disabled (function_pattern_seen covered) (visible (functions_of (drop i functions))) s

-- how many functions a command about these matches, of all of them and of those from a place on
abbrev pub matches_from : {A : Type 0} → FunctionSetting → List (Function A) → ℕ → ℕ
matches_from k functions i = length (filter (λ f. has_among k f.0 f.1) (visible (functions_of (drop i functions))))

abbrev pub match_count_seen : {A : Type 0} → FunctionPattern A → Bool → List (Function A) → ℕ
match_count_seen covered local functions = matches_from (any_setting (function_pattern_seen covered) local) functions 0

-- the command disables one function, locally or not
abbrev pub DisablesOne : Bool → Mfa → Command → Type 0
DisablesOne local f (set_function name mfa spec options) = (mfa ≡ mfa_term f) × (spec ≡ word "false") × (options_of options ≡ Some local)
DisablesOne local f c = ⊥

-- whether the term is an integer
abbrev pub is_integer : Tree → Bool
is_integer (int n) = true
is_integer t = false

-- what a command does in the model that is accepted: its reply is an integer
abbrev pub RepliesNumber : {A : Type 0} → Command → (old new : Session A) → Type 0
RepliesNumber c old new =
    (o : Exports) (v : SessionValue) → value_in old ≡ Some v → v.functions ≡ o.functions
    → (value_in new ≡ Some (with_state v (command_done o v.state c).0)) × (is_integer (command_done o v.state c).1 ≡ true)

-- whether what is read doesn't disable functions; a fault is none
abbrev pub on_where_read : Reads settings.Setting → Option Bool
on_where_read (Ok setting) = Some (is_on setting)
on_where_read (Err e) = None

-- the functions that a command is about, whether it is local, and whether it doesn't disable them
pub record ChangeView : Type 0 where
  pub covered : settings.FunctionPattern
  pub local : Bool
  pub on : Bool

abbrev pub function_change_seen : {A : Type 0} → FunctionChange A → ChangeView
function_change_seen x = record { covered = function_pattern_seen x.covered; local = x.local; on = x.on }

-- of a function command whose arguments are read so
abbrev pub change_of_parts : Option settings.FunctionPattern → Option Bool → Option Bool → Option ChangeView
change_of_parts (Some covered) (Some local) (Some on) = Some (record { covered = covered; local = local; on = on })
change_of_parts _ _ _ = None

-- of one with these arguments
abbrev pub change_read : (mfa spec options : Tree) → Option ChangeView
change_read mfa spec options = change_of_parts (trace_pattern_of mfa) (options_of options) (on_where_read (setting_of for_calls spec))

-- the command is a function command, whose arguments are read so
abbrev pub Changes : Command → Option ChangeView → Type 0
Changes (set_function name mfa spec options) x = change_read mfa spec options ≡ x
Changes c x = ⊥

-- what a function command sets, and its reply as far as the arity is one
abbrev pub function_set_by : Exports → definition.Session → Command → definition.Session × Tree
function_set_by o s (set_function name mfa spec options) =
    function_by o s (trace_pattern_of mfa) (options_of options) (setting_of for_calls spec) (command_done o s (set_function name mfa spec options))
function_set_by o s c = command_done o s c

abbrev pub IsFunctionSet : {A : Type 0} → List (Function A) → Command → (old new : Session A) → Tree → Type 0
IsFunctionSet functions c old new t =
    (o : Exports) (v : SessionValue) → IsOfProgram functions old o v → v.state.phase ≡ live → next_session v (function_set_by o v.state c) ≡ (value_in new, t)

-- where its arguments are read so
abbrev pub IsFunctionDoneThere : {A : Type 0} → List (Function A) → Command → Option ChangeView → (old new : Session A) → Tree → Type 0
IsFunctionDoneThere functions c x old new t = Changes c x → IsFunctionSet functions c old new t
