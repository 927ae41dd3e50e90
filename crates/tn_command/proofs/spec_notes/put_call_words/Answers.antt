use Rattle.std.proofs.Common.{codes}
use Rattle.tn_verdict.proofs.Pieces.{after_ok}
use Rattle.tn_command.specs.SpecNotes.{call_text, call_words}
use Rattle.tn_command.specs.SpecNoteViews.{call_shape_seen}
use Rattle.tn_command.proofs.spec_notes.put_call_words.Goals as goal

pub returns : goal.returns
unfolding call_words
returns g c =
    record {
      ok = after_ok c.put_call.result c.args.out.now.items (codes " is a list, not a call; a call is written ") (call_text (call_shape_seen c.args.call)) c.extend_from_slice.new.self.items c.put_call.new.out.items
          c.in_ok-extend_from_slice.ensures.items c.put_call.ensures.ok;
    }
