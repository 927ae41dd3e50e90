use Rattle.std.proofs.Common.{◌≡◌}
use Rattle.std.specs.Option.{option_map}
use Rattle.def_running_node.specs.NodeNotes.{node_note}
use Rattle.tn_run.specs.Jobs.{OfScript}
use Rattle.tn_replay.specs.Notes.{note_seen}
use Rattle.complete_explain.proofs.OneNote.{of_one_text, if_both}
use Rattle.complete_explain.proofs.notes.text_note.Goals as goal

pub returns : goal.returns
returns g c =
    let bytes = c.args.text.now in
    let picks = c.args.picks.now in
    if_both c.text_note.result c.text_note-2.result (λ n. OfScript bytes (λ p. option_map note_seen n ≡ node_note p picks)) (λ n. OfScript bytes (λ p. option_map note_seen n ≡ node_note p picks)) (λ n m. n ≡ m)
    (λ n m h i. of_one_text bytes picks n m h i) c.text_note.ensures c.text_note-2.ensures
