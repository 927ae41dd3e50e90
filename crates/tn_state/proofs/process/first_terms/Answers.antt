use Rattle.std.proofs.Common.{◌∙◌, sym, ap}
use Rattle.std.specs.Option.{option_map}
use Rattle.std.proofs.lemmas.Result.{IfOk-weaker}
use Rattle.def_state.specs.ProcessTexts.{initial_function, oldest_function}
use Rattle.tn_process.specs.Views.{process_seen}
use Rattle.tn_script.specs.Views.{entry_of, functions_of}
use Rattle.tn_state.proofs.process.first_terms.Goals as goal

pub returns-in-Some : goal.returns-in-Some
returns-in-Some g c =
    let begun = sym (ap (option_map (λ e. entry_of e.now)) c.in-Some.is) ∙ c.entry.ensures in
    IfOk-weaker c.entry_terms.result _ _ (λ v is. is ∙ ap (initial_function (functions_of c.args.functions.now) (process_seen c.args.process.now)) begun) c.entry_terms.ensures

pub returns-in-None : goal.returns-in-None
returns-in-None g c =
    let ks = functions_of c.args.functions.now in
    let begun = sym (ap (option_map (λ e. entry_of e.now)) c.in-None.is) ∙ c.entry.ensures in
    IfOk-weaker c.oldest_terms.result _ _ (λ v is. is ∙ ap (oldest_function ks) c.frames.ensures ∙ ap (initial_function ks (process_seen c.args.process.now)) begun) c.oldest_terms.ensures
