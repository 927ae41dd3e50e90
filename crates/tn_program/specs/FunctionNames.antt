-- The function of a module, a name and a number of parameters, among functions.
use Rattle.std.specs.Prelude.{ℕ, Bool, ◌&&◌, not}
use Rattle.std.specs.Str.{bytes_eq}
use Rattle.def_term.specs.Names.{Name, Mfa, same_mfa}
use Rattle.def_script.specs.Program.{Function, mfa_of}

abbrev pub is_it : Mfa → Function → Bool
is_it f k = same_mfa (mfa_of k) f

abbrev pub is_named_so : Name → Name → Function → Bool
is_named_so m f k = bytes_eq k.module_name m && bytes_eq k.function_name f

abbrev pub is_it_internal : Mfa → Function → Bool
is_it_internal f k = same_mfa (mfa_of k) f && not k.exported
