use Rattle.std.proofs.Common.{◌∙◌, false, [], ◌∷◌, refl, sym, ap}
use Rattle.def_script.specs.Exports.{exports_of, visible}
use Rattle.def_run.specs.Run.{command_item}
use Rattle.tn_flags.specs.Views.{command_of}
use Rattle.tn_program.specs.Views.{program_of}
use Rattle.tn_trace.specs.NamedSessions.{sessions_after}
use Rattle.tn_message_choice.specs.declared.choice.MessageQuestion.{MessageQuestion}
use Rattle.tn_explain.proofs.NodeMoveTexts.{grown_or_left}
use Rattle.tn_explain.proofs.ChosenMoveTexts.{command_not_chosen, chosen_move_explained}
use Rattle.tn_explain.proofs.message_explainer.MessageExplainerObserver.obey.Goals as goal

pub returns-clause-ok : goal.returns-clause-ok
returns-clause-ok g c = λ picks seen next.
    let p = program_of c.args.program.now in
    let old = c.args.self.now in
    let q : MessageQuestion = record { choice = old.choice; session = old.explainer.selection.session } in
    let k = command_of c.args.command.now in
    let made = c.in_ok-obey-2.ensures (exports_of p) (sym (ap visible c.functions.ensures)) (sessions_after p picks) seen.choosers in
    chosen_move_explained p picks c.args.entry (command_item k ∷ []) q false c.len-length.result old (record old { explainer = c.obey.new.self; choosers = c.obey-2.new.self }) c.args.out.now c.obey.new.out c.leave_out.new.out
    next.move (c.len-length.ensures ∙ c.args.out.now.ok.0) (c.in_ok-obey.ensures.ok picks seen.explained next) made (command_not_chosen q (exports_of p) (sessions_after p picks) k) refl refl refl c.leave_out.ensures

pub returns-clause-reaches : goal.returns-clause-reaches
returns-clause-reaches g c =
    grown_or_left false c.len-length.result c.args.out.now.items c.obey.new.out.items c.leave_out.new.out.items (c.len-length.ensures ∙ c.args.out.now.ok.0) c.obey.ensures.reaches c.leave_out.ensures
