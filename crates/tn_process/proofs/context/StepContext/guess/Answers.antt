use Rattle.std.proofs.Common.{◌≡◌, true, Some, ap, sym, ◌∙◌, rules}
use Rattle.std.proofs.lemmas.Option.{slice_get-get_or}
use Rattle.def_term.specs.Names.{mfa_from}
use Rattle.def_script.specs.Program.{mfa_of, number_from}
use Rattle.tn_script.specs.Views.{function_of, functions_of}
use Rattle.tn_process.proofs.Distinct.{same_function}
use Rattle.tn_process.proofs.context.StepContext.guess.Goals as goal

pub returns-in-Some : goal.returns-in-Some
returns-in-Some g c =
    let at = c.in-Some.ensures.lookup in
    let ks = c.args.self.now.functions.now in
    let k = c.in-Some.function.now in
    let i = c.guess-guess.result in
    let f = mfa_from c.args.module_name.now c.args.name.now c.args.arity in
    let same = same_function (mfa_of (function_of k)) f (sym c.is_named.ensures ∙ c.if-is_named.true) in
    let here = slice_get-get_or ks i k at.3.0 ∙ ap Some (sym at.1) in
    let once : c.args.self.now.lookup.now.is_named_once ≡ true = search rules in
    sym (c.args.self.now.once once i k here) ∙ ap (number_from 0 (functions_of ks)) same
