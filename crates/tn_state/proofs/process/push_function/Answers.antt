use Rattle.std.proofs.Common.{◌∙◌, ◌++◌, map, sym, ap, append-nil}
use Rattle.std.specs.Prelude.{option_to_list}
use Rattle.std.specs.Option.{option_map}
use Rattle.def_script.specs.Program.{mfa_of}
use Rattle.def_term.specs.Names.{mfa_term}
use Rattle.tn_process.proofs.Lookup.{none_at, seen_at}
use Rattle.tn_script.specs.Views.{function_of}
use Rattle.tn_term.specs.Views.{tree_of}
use Rattle.tn_text.proofs.Growth.{on_done}
use Rattle.tn_state.proofs.process.push_function.Goals as goal

pub returns-in-Some : goal.returns-in-Some
returns-in-Some g c =
    let old = map tree_of c.args.terms.now.items in
    let at = c.in-Some.ensures.lookup in
    let here = seen_at function_of c.args.functions.now c.args.number c.in-Some.function.now at.3.0 at.1 in
    on_done c.push_mfa.result (λ pushed. pushed ∙ ap (λ f. old ++ option_to_list (option_map mfa_term (option_map mfa_of f))) (sym here)) c.push_mfa.ensures

pub returns-in-None : goal.returns-in-None
returns-in-None g c =
    let old = map tree_of c.args.terms.now.items in
    sym (append-nil old) ∙ ap (λ f. old ++ option_to_list (option_map mfa_term (option_map mfa_of f))) (sym (none_at function_of c.args.functions.now c.args.number c.in-None.ensures.lookup.3))
