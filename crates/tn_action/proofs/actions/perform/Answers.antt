use Rattle.std.proofs.Common.{◌∙◌, sym, ap, map, List}
use Rattle.std.specs.Option.{option_map}
use Rattle.def_term.specs.Names.{word}
use Rattle.def_term.specs.Tree.{Tree}
use Rattle.def_spec.specs.Expressions as ex
use Rattle.def_spec.proofs.Values.{done_alike}
use Rattle.tn_guard.specs.Views.{value_seen}
use Rattle.tn_spec.specs.Views.{action_of, dialect_of}
use Rattle.tn_action.specs.Steps.{context_at}
use Rattle.tn_action.specs.Views.{context_seen}
use Rattle.tn_action.proofs.TraceFlags.{with_true}
use Rattle.tn_action.proofs.actions.perform.Goals as goal

pub returns-in-Message : goal.returns-in-Message
returns-in-Message g c =
    let d = dialect_of c.args.scene.now.dialect in
    let context = context_at c.args.scene.now.context.now c.args.effects.now in
    c.message.ensures d context ∙ sym (ap (λ a. ex.action_done d (action_of a) (map value_seen c.args.args.now) context) c.in-Message.is)

pub returns-in-Silent : goal.returns-in-Silent
returns-in-Silent g c =
    let d = dialect_of c.args.scene.now.dialect in
    let context = context_at c.args.scene.now.context.now c.args.effects.now in
    c.silent.ensures d context ∙ sym (ap (λ a. ex.action_done d (action_of a) (map value_seen c.args.args.now) context) c.in-Silent.is)

pub returns-in-EnableTrace : goal.returns-in-EnableTrace
returns-in-EnableTrace g c =
    let d = dialect_of c.args.scene.now.dialect in
    let ts = map value_seen c.args.args.now in
    let before = context_seen c.args.scene.now.context.now in
    let behind = context_at c.args.scene.now.context.now c.args.effects.now in
    c.change_result.ensures ∙ with_true c.change.result ∙ ap (option_map {U = Tree × List ex.Effect} (λ es. (word "true", es))) c.change.ensures
    ∙ done_alike d ex.enable_trace ts before before.flags behind.flags tt
    ∙ sym (ap (λ a. ex.action_done d (action_of a) ts behind) c.in-EnableTrace.is)

pub returns-in-DisableTrace : goal.returns-in-DisableTrace
returns-in-DisableTrace g c =
    let d = dialect_of c.args.scene.now.dialect in
    let ts = map value_seen c.args.args.now in
    let before = context_seen c.args.scene.now.context.now in
    let behind = context_at c.args.scene.now.context.now c.args.effects.now in
    c.change_result-in-DisableTrace.ensures ∙ with_true c.change-in-DisableTrace.result ∙ ap (option_map {U = Tree × List ex.Effect} (λ es. (word "true", es))) c.change-in-DisableTrace.ensures
    ∙ done_alike d ex.disable_trace ts before before.flags behind.flags tt
    ∙ sym (ap (λ a. ex.action_done d (action_of a) ts behind) c.in-DisableTrace.is)
