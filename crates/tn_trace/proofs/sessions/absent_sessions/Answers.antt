use Rattle.std.proofs.Common.{◌∙◌, refl, ap, arith}
use Rattle.def_script.specs.Exports.{exports_of}
use Rattle.tn_flags.specs.Views.{command_of}
use Rattle.tn_program.specs.Views.{program_of}
use Rattle.tn_trace.proofs.Starts.{created_step, none_step, all_created}
use Rattle.tn_trace.proofs.sessions.absent_sessions.Goals as goal
use Rattle.tn_trace.proofs.sessions.absent_sessions.Goals.{in-SessionCreate+in_ok-next_number+in_ok-copy_into+in_ok-push, in_default}

pub loop-command-preserved : goal.loop-command-preserved
loop-command-preserved g c =
    let o = exports_of (program_of c.args.program.now) in
    let l = c.loop-command in
    let k = c.command-item.result in
    let items = c.commands-command-items.result.now in
    elim c.match-command.branch [
      | in-SessionCreate+in_ok-next_number+in_ok-copy_into+in_ok-push w ↦ created_step g.K.MessageSink.keeps o items l.command-index k _ _ l.slots.items c.match-command.slots.items _ c.loop-command-test.true c.command-item.is (ap command_of w.in-SessionCreate.is)
          (omega (arith, l.slots.ok.0, w.len.ensures, w.in_ok-next_number.ensures)) w.in_ok-copy_into.ensures refl w.nothing.ensures (ap (λ v. v.items) w.slots-is ∙ w.in_ok-push.ensures.items) l.invariant
      | in_default w ↦ none_step g.K.MessageSink.keeps o items l.command-index k l.slots.items c.match-command.slots.items c.loop-command-test.true c.command-item.is w.in_default.not-SessionCreate (ap (λ v. v.items) w.slots-is) l.invariant
    ]

pub returns : goal.returns
returns g c = all_created g.K.MessageSink.keeps (exports_of (program_of c.args.program.now)) c.commands-command-items.result.now _ c.loop-command.command-index c.loop-command.slots.items c.commands-command-items.ensures (omega (arith, c.loop-command-test.false)) c.loop-command.invariant
