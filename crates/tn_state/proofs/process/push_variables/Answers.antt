use Rattle.std.proofs.Common.{◌∙◌, map, get_or, drop, ◌+◌, ap}
use Rattle.std.proofs.lemmas.List.{drop_more}
use Rattle.def_state.specs.ProcessTexts.{binding_term}
use Rattle.tn_process.specs.Views.{name_and_term}
use Rattle.tn_term.specs.Views.{tree_of}
use Rattle.tn_state.proofs.Texts.{one_pushed}
use Rattle.tn_state.proofs.process.push_variables.Goals as goal

pub loop-variable-preserved : goal.loop-variable-preserved
loop-variable-preserved g c =
    let l = c.loop-variable in
    let vs = c.args.variables.now in
    let i = l.variable-index in
    let v = c.variable-item.result in
    one_pushed tree_of l.terms.items c.push.new.self.items c.in_ok-variable_term.field-0 (binding_term (name_and_term (get_or vs i v))) _ (map binding_term (map name_and_term (drop (i + 1) vs))) _ c.in_ok-push.ensures.items
    (c.in_ok-variable_term.ensures ∙ ap (λ x. binding_term (name_and_term x)) c.variable-item.is) (ap (λ xs. map binding_term (map name_and_term xs)) (drop_more vs i v c.loop-variable-test.true)) l.invariant
