use Rattle.std.proofs.Common.{◌∙◌, ap}
use Rattle.def_running_node.specs.NodeNotes.{node_note}
use Rattle.tn_program.specs.Views.{program_of}
use Rattle.tn_trace.specs.Transcripts.{TranscriptValue}
use Rattle.tn_replay.proofs.NodeNotes.{note_again}
use Rattle.tn_replay.proofs.replay.notes_of.Goals as goal

pub returns : goal.returns
returns g c = λ picks is.
    let p = program_of c.args.program.now in
    record {
      node = c.in_ok-node_note.ensures ∙ ap (node_note p) (c.journal.ensures ∙ ap (λ (t : TranscriptValue). t.journal) is) ∙ note_again p picks;
      remarks = c.in_ok-has_remarks.ensures picks is;
    }
