use Rattle.std.proofs.Common.{◌∙◌, map, refl}
use Rattle.def_script.specs.Exports.{exports_of}
use Rattle.def_run.specs.Run.{event_item}
use Rattle.tn_flags.specs.Views.{event_of}
use Rattle.tn_program.specs.Views.{program_of}
use Rattle.tn_trace.specs.NamedSessions.{sessions_after}
use Rattle.tn_explain.proofs.NodeMoveTexts.{grown_or_left}
use Rattle.tn_explain.proofs.ChosenMoveTexts.{chosen_move_explained}
use Rattle.tn_explain.proofs.message_explainer.MessageExplainerObserver.see.Goals as goal

pub returns-clause-ok : goal.returns-clause-ok
returns-clause-ok g c = λ picks seen ahead next.
    let p = program_of c.args.program.now in
    let old = c.args.self.now in
    let explained = c.in_ok-see.ensures.ok picks seen.explained ahead next in
    let made = c.in_ok-is_chosen.ensures (exports_of p) (sessions_after p picks) seen.choosers in
    chosen_move_explained p picks c.args.entry (map event_item (map event_of c.args.events.now.items)) c.question-question.result c.in_ok-is_chosen.is_chosen c.len-length.result old
    (record old { explainer = c.see.new.self; choosers = c.see-2.new.self }) c.args.out.now c.see.new.out c.leave_out.new.out
    next (c.len-length.ensures ∙ c.args.out.now.ok.0) explained made.0 made.1 c.question-question.ensures.choice c.question-question.ensures.session refl c.leave_out.ensures

pub returns-clause-reaches : goal.returns-clause-reaches
returns-clause-reaches g c =
    grown_or_left c.in_ok-is_chosen.is_chosen c.len-length.result c.args.out.now.items c.see.new.out.items c.leave_out.new.out.items (c.len-length.ensures ∙ c.args.out.now.ok.0) c.see.ensures.reaches c.leave_out.ensures
