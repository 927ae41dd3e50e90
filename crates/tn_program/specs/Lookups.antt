-- The functions that are looked for.
use Rattle.std.specs.Prelude.{Bool}
use Rattle.def_term.specs.Names.{Mfa, mfa_from}
use Rattle.def_script.specs.Program.{Function}
use Rattle.tn_program.specs.FunctionNames.{is_it, is_named_so, is_it_internal}
use Rattle.tn_program.specs.declared.lookup.FunctionKey.{FunctionKey}
use Rattle.tn_program.specs.declared.lookup.NameMatch.{NameMatch}
use Rattle.tn_program.specs.declared.lookup.NameMatch.TheVariants.{Exact, Named, Internal}

-- the function that is looked for
abbrev pub wanted_mfa : FunctionKey → Mfa
wanted_mfa w = mfa_from w.home.now w.name.now w.arity

-- the function passes for the one that is looked for
abbrev pub passes_as : NameMatch → Mfa → Function → Bool
passes_as Exact f = is_it f
passes_as Named f = is_named_so f.module_name f.function_name
passes_as Internal f = is_it_internal f
