use Rattle.std.proofs.Common.{ap, sym, ◌∙◌, Some}
use Rattle.std.specs.Option.{option_map}
use Rattle.def_script.specs.Program.{mfa_of}
use Rattle.tn_script.specs.Views.{function_of}
use Rattle.tn_process.proofs.Lookup.{seen_at, none_at}
use Rattle.tn_process.proofs.process.mfa_at.Goals as goal

pub returns-in-None : goal.returns-in-None
returns-in-None g c = sym (ap (option_map mfa_of) (none_at function_of c.args.functions.now c.args.number c.in-None.ensures.lookup.3))

pub returns-in_ok-function_mfa-in-Some : goal.returns-in_ok-function_mfa-in-Some
returns-in_ok-function_mfa-in-Some g c =
    let at = c.in-Some.ensures.lookup in
    let here = seen_at function_of c.args.functions.now c.args.number c.in-Some.function.now at.3.0 at.1 in
    ap Some c.in_ok-function_mfa-in-Some.ensures ∙ sym (ap (option_map mfa_of) here)
