use Rattle.std.proofs.Common.{◌∙◌, ◌++◌, map, ap}
use Rattle.def_state.specs.ProcessTexts.{binding_term, function_terms, step_term}
use Rattle.tn_process.specs.Views.{frame_of}
use Rattle.tn_script.specs.Views.{functions_of}
use Rattle.tn_term.specs.Views.{tree_of}
use Rattle.tn_state.proofs.ProcessLemmas.{frame_pushed}
use Rattle.tn_state.proofs.process.frame_terms.Goals as goal

pub returns : goal.returns
returns g c =
    let ks = functions_of c.args.functions.now in
    let f = frame_of c.args.frame.now in
    let none = c.new-terms.result.items in
    let two = c.push.new.self.items in
    frame_pushed tree_of none c.push_function.new.terms.items two c.push_variables.new.terms.items c.in_ok-step_term.field-0 (function_terms ks f.function) (step_term f.place) (map binding_term f.env)
    c.new-terms.ensures.items (c.in_ok-push_function.ensures ∙ ap (λ n. map tree_of none ++ function_terms ks n) c.function.ensures) c.in_ok-push.ensures.items (c.in_ok-step_term.ensures ∙ ap step_term c.place.ensures)
    (c.in_ok-push_variables.ensures ∙ ap (λ vs. map tree_of two ++ map binding_term vs) c.variables.ensures)
