use Rattle.std.proofs.Common.{◌∙◌, length, sym, ap}
use Rattle.std.proofs.lemmas.List.{length-map}
use Rattle.def_session.specs.State.{alive_at_start}
use Rattle.tn_program.specs.Views.{program_of}
use Rattle.tn_script.specs.Views.{entry_of}
use Rattle.tn_trace.proofs.RecorderSteps.{nothing_recorded}
use Rattle.tn_trace.proofs.recorder.Recorder.new.Goals as goal

pub returns : goal.returns
returns g c = nothing_recorded g.K.MessageSink.keeps (program_of c.args.program.now) _
    (c.first.ensures ∙ ap alive_at_start (sym (length-map c.entries.result.now entry_of) ∙ ap length c.entries.ensures.value)) c.in_ok-absent_sessions.ensures c.nothing.ensures
