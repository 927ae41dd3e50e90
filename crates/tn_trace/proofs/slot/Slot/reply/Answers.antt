use Rattle.std.proofs.Common.{◌∙◌, Bool, Some, sym, ap, map}
use Rattle.std.specs.declared.vec.Vec.{Vec}
use Rattle.def_session.specs.State.{new_session, live}
use Rattle.tn_term.specs.Views.{tree_of, alive_of}
use Rattle.tn_term.specs.declared.mfa.Mfa.{Mfa}
use Rattle.tn_session.specs.Views.{function_seen}
use Rattle.tn_flags.specs.Views.{command_of}
use Rattle.tn_trace.proofs.OneSession.{obeys_there, obeys_creation}
use Rattle.tn_trace.proofs.slot.Slot.reply.Goals as goal

pub returns-in-Some : goal.returns-in-Some
returns-in-Some g c = λ o t fs h.
    let old = c.args.self.now in
    let living = alive_of c.args.living in
    obeys_there g.K.MessageSink.keeps g.K.MessageSink.gives o living t old h (command_of c.args.command.now) c.in-Some.session c.command.new.self (tree_of c.in_ok-command.field-0)
    c.in-Some.is c.in_ok-command.ensures.done

pub returns-in_ok-functions-in-SessionCreate : goal.returns-in_ok-functions-in-SessionCreate
returns-in_ok-functions-in-SessionCreate g c = λ o t fs h.
    let old = c.args.self.now in
    let living = alive_of c.args.living in
    obeys_creation g.K.MessageSink.keeps g.K.MessageSink.gives o living t old h (command_of c.args.command.now) c.in-SessionCreate.session c.in-SessionCreate.tracer c.created.result (tree_of c.in_ok-reply-in-SessionCreate.reply) c.in_default.is
    (ap command_of c.in-SessionCreate.is)
    (c.created.ensures ∙ ap (λ ks. Some (record { functions = ks; state = new_session live living })) (ap (λ (v : Vec (Mfa g.row.A.Denot × Bool) g.row.A.Denot). map function_seen v.items) c.in_ok-functions-in-SessionCreate.ensures.ok ∙ c.in_ok-visible-in-SessionCreate.ensures ∙ sym fs))
    c.in_ok-reply-in-SessionCreate.ensures
