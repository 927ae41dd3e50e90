-- Of functions that a command asks for and that aren't there, the one that was probably meant (own). It is the first function of the script with the
-- same module and name; where there is none, the first with the same name; else the first of the same module with a near name; else the first of the module.
-- Depends on trace patterns, on what sessions know of a program, and on near names.
use Rattle.std.specs.Prelude.{Bool, ◌&&◌, if◌then◌else◌, List, [], ◌∷◌, Option, Some, None}
use Rattle.std.specs.Str.{bytes_eq}
use Rattle.std.specs.Option.{option_or}
use Rattle.def_term.specs.Names.{Name, Mfa}
use Rattle.def_explain.specs.NearNames.{is_near}
use Rattle.def_session.specs.Settings.{FunctionPattern, one, any_arity, whole_module, every}

-- of this module, of this name, of both
abbrev pub has_module : Name → Mfa → Bool
has_module m f = bytes_eq m f.module_name

abbrev pub has_name : Name → Mfa → Bool
has_name g f = bytes_eq g f.function_name

abbrev pub has_both : (module_name function_name : Name) → Mfa → Bool
has_both m g f = has_module m f && has_name g f

-- of this module, with a name that is near
abbrev pub has_near_name : (module_name function_name : Name) → Mfa → Bool
has_near_name m g f = has_module m f && is_near g f.function_name

-- the first of these functions for which the test holds
abbrev pub first_function : (Mfa → Bool) → List (Mfa × Bool) → Option Mfa
first_function test [] = None
first_function test (f ∷ fs) = if test f.0 then Some f.0 else first_function test fs

-- the first of this module with a near name, else the first of this module
abbrev pub nearest_in_module : (module_name function_name : Name) → List (Mfa × Bool) → Option Mfa
nearest_in_module m g fs = option_or (first_function (has_near_name m g) fs) (first_function (has_module m) fs)

-- the first with this module and name, else with this name, else of this module
abbrev pub nearest_to : (module_name function_name : Name) → List (Mfa × Bool) → Option Mfa
nearest_to m g fs = option_or (first_function (has_both m g) fs) (option_or (first_function (has_name g) fs) (nearest_in_module m g fs))

-- a pattern without a name has none
abbrev pub nearest_function : FunctionPattern → List (Mfa × Bool) → Option Mfa
nearest_function (one f) fs = nearest_to f.module_name f.function_name fs
nearest_function (any_arity m g) fs = nearest_to m g fs
nearest_function (whole_module m) fs = None
nearest_function every fs = None
