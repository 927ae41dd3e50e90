-- What a session's commands set: function settings, send and receive settings (trace:function/4, trace:send/3, trace:recv/3).
-- Depends on specifications and on the names of functions.
use Rattle.std.specs.Prelude.{nat_le, Bool, true, false, ◌&&◌, ◌||◌, if◌then◌else◌, List, [], ◌∷◌, Option, Some, None, pos, Ok}
use Rattle.std.specs.Str.{bytes_eq}
use Rattle.def_term.specs.Tree.{Tree, int, atom, tuple, list, none, more}
use Rattle.def_term.specs.Order.{same}
use Rattle.def_term.specs.Names.{Name, Mfa, same_mfa, word}
use Rattle.def_script.specs.Limits.{PARAMETERS}
use Rattle.def_node.specs.Event.{Call}
use Rattle.def_spec.specs.Expressions.{Dialect}
use Rattle.def_spec.specs.Outcome.{Spec}
use Rattle.def_spec.specs.Reading.{Reads, then_read, is_wildcard, spec_of}

-- the functions that a command is about
pub data FunctionPattern : Type 0 where
  one : Mfa → FunctionPattern
  any_arity : (module_name function_name : Name) → FunctionPattern
  whole_module : (module_name : Name) → FunctionPattern
  every : FunctionPattern

-- disabled, without a specification, or with one
pub data Setting : Type 0 where
  off : Setting
  plain : Setting
  by : Spec → Setting

-- a function command that was accepted
pub record FunctionSetting : Type 0 where
  pub covered : FunctionPattern
  pub setting : Setting
  pub local : Bool

-- `true` or `[]` is no specification, for send and receive too (own); `false` disables
abbrev pub setting_of : Dialect → Tree → Reads Setting
setting_of d t =
    if same t (word "true") || same t (list none) then Ok plain else
    if same t (word "false") then Ok off else
    then_read (spec_of d t) (λ s. Ok (by s))

-- {M,F,A} or {M,F,'_'}
abbrev pub with_arity : Name → Name → Tree → Option FunctionPattern
with_arity m f (int (pos n)) = if nat_le n PARAMETERS then Some (one (record { module_name = m; function_name = f; arity = n })) else None
with_arity m f (atom s) = if is_wildcard s then Some (any_arity m f) else None
with_arity m f _ = None

-- M and F are atoms; after '_' only '_' may follow
abbrev pub pattern_by : Tree → Tree → Tree → Option FunctionPattern
pattern_by (atom m) (atom f) a =
    if is_wildcard m then (if is_wildcard f && same a (word "_") then Some every else None) else
    if is_wildcard f then (if same a (word "_") then Some (whole_module m) else None) else
    with_arity m f a
pattern_by _ _ _ = None

-- {M,F,A}, {M,F,'_'}, {M,'_','_'} or {'_','_','_'}, with A from 0 to 255
abbrev pub trace_pattern_of : Tree → Option FunctionPattern
trace_pattern_of (tuple (more m (more f (more a none)))) = pattern_by m f a
trace_pattern_of _ = None

-- whether local: [] or [global], or [local]
abbrev pub options_of : Tree → Option Bool
options_of t =
    if same t (list none) || same t (list (more (word "global") none)) then Some false else
    if same t (list (more (word "local") none)) then Some true else None

-- the function is one of these
abbrev pub is_covered : FunctionPattern → Mfa → Bool
is_covered (one a) f = same_mfa a f
is_covered (any_arity m g) f = bytes_eq m f.module_name && bytes_eq g f.function_name
is_covered (whole_module m) f = bytes_eq m f.module_name
is_covered every f = true

-- the function is among the matching ones of a command: exported ones alone, if it is global
abbrev pub has_among : FunctionSetting → Mfa → Bool → Bool
has_among k f exported = is_covered k.covered f && (k.local || exported)

-- the last command that covers the function wins, whichever kind it is (own). It concerns every call if it is local, and else the calls that name the module
abbrev pub setting_for : List FunctionSetting → Call → Setting
setting_for [] c = off
setting_for (k ∷ ks) c =
    if has_among k c.mfa c.exported then (if k.local || c.named then k.setting else off) else setting_for ks c
